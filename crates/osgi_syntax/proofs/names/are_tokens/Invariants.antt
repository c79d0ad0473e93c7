-- The texts so far are tokens.
use Rattle.std.proofs.Common.{◌≡◌, drop}
use Rattle.std.specs.List.{list_all}
use Rattle.osgi_syntax.specs.WordReader.{is_token}
use Rattle.osgi_syntax.specs.Splitting.{texts_of}
use Rattle.osgi_syntax.proofs.names.are_tokens.Given as goal

abbrev pub invariant-loop-token : goal.invariant-loop-token
invariant-loop-token l = list_all is_token (texts_of (drop l.token-index l.tokens)) ≡ list_all is_token (texts_of l.tokens)
