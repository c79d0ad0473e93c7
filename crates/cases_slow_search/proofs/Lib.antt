-- Lemmas on a search over all words.
mod Moves
