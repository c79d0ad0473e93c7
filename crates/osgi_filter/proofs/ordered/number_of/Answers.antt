-- What is computed of a text is the number that it writes.
use Rattle.std.proofs.Common.{◌≡◌, ap, ◌∙◌}
use Rattle.std.specs.Option.{option_and_then}
use Rattle.osgi_model.specs.laws.Longs.{read_is}
use Rattle.osgi_model.specs.computed.LongReader.{long_of}
use Rattle.osgi_filter.proofs.ordered.number_of.Goals as goal

pub returns-in-Some : goal.returns-in-Some
returns-in-Some c =
    let is : c.read_long.result ≡ long_of c.bytes.result.now = read_is c.bytes.result.now c.read_long.result c.read_long.ensures.reads in
    record { number = is ∙ ap long_of c.bytes.ensures.bytes ∙ ap (option_and_then long_of) c.in-Some.ensures.text }
