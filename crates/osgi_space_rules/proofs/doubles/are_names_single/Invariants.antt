-- The names of the fragments so far, which differ.
use Rattle.std.proofs.Common.{◌≡◌, take}
use Rattle.osgi_base.specs.computed.Texts.{text_cmp}
use Rattle.osgi_base.specs.declared.ids.RevisionId.{RevisionId}
use Rattle.osgi_space_rules.specs.computed.Growing.{Grows, Has, Nothing}
use Rattle.osgi_world.specs.Lists.{Two}
use Rattle.osgi_world.specs.Lookups.{symbolic_name}
use Rattle.osgi_space_rules.proofs.doubles.are_names_single.Given as goal

abbrev pub invariant-loop-fragment : goal.invariant-loop-fragment
invariant-loop-fragment l = record {
  keys : Grows Nothing (Has text_cmp l.names) (λ (f : RevisionId) key. key ≡ symbolic_name l.known f) (take l.fragment-index l.fragments);
  differ : ¬ Two (λ (e f : RevisionId). symbolic_name l.known e ≡ symbolic_name l.known f) (take l.fragment-index l.fragments);
}
