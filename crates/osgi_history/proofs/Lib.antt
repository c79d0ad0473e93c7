-- Lemmas on histories, read from their start or from their end.
pub mod EventsHanded
pub mod Front
pub mod Lives
