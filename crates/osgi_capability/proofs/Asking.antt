-- What items ask for is there where a capability satisfies a requirement.
use Rattle.std.proofs.Common.{◌≡◌, ℕ, zero, suc, ◌<◌, List, [], ◌∷◌, ◌∙◌, get_or, length, map, sym, subst, arith}
use Rattle.std.specs.Prelude.{Bool, false, IfSome, IsTrue, Option, None, Some, bytes_eq}
use Rattle.std.specs.Cmp.{first_so, second_so}
use Rattle.std.proofs.lemmas.Bool.{false≢true}
use Rattle.osgi_capability.specs.HavingText.{HasText}
use Rattle.osgi_capability.specs.computed.HavingText.{has_text}
use Rattle.osgi_model.specs.Matching.{Matches, attribute_value}
use Rattle.osgi_model.specs.computed.MatchReader.{all_of, matches}
use Rattle.osgi_model.specs.declared.filter.Filter.{Filter}
use Rattle.osgi_model.specs.declared.filter.Test.TheVariants.{Equal}
use Rattle.osgi_model.specs.declared.value.Attribute.{Attribute}
use Rattle.osgi_model.specs.laws.Decided.{item_decides, matches_decides}
use Rattle.osgi_version.specs.declared.version.Version.{Version}
use Rattle.osgi_world.specs.Satisfaction.{Satisfies, is_bundle, is_package}
use Rattle.osgi_world.specs.declared.capability.Capability.{Capability}
use Rattle.osgi_world.specs.declared.requirement.Requirement.{Requirement}

-- an item of a list whose items all pass passes
pub all_at : {X : Type 0} (p : X → Bool) (xs : List X) (i : ℕ) (x : X) → i < length xs → x ≡ get_or xs i x → IsTrue (all_of (map p xs)) → IsTrue (p x)
all_at p [] i x within at all = absurd (omega (arith, within))
all_at p (y ∷ ys) zero x within at all = subst (λ z. IsTrue (p z)) (sym at) (first_so (p y) (all_of (map p ys)) all)
all_at p (y ∷ ys) (suc i) x within at all = all_at p ys i x (omega (arith, within)) at (second_so (p y) (all_of (map p ys)) all)

pub some_like : {X : Type 0} (P Q : X → Type 0) (o : Option X) → ((x : X) → P x → Q x) → IfSome o P → IfSome o Q
some_like P Q None more is = is
some_like P Q (Some x) more is = more x is

-- where each match of a requirement's filter has a text, a capability that satisfies it has that text
pub satisfied_has : (q : Requirement) (f : Filter) (attribute text : List ℕ) → q.filter ≡ Some f → is_bundle q.namespace ≡ false → is_package q.namespace ≡ false →
    ((attributes : List Attribute) → IsTrue (matches bytes_eq attributes f) → IsTrue (has_text attributes attribute text)) → (c : Capability) (name : List ℕ) (version : Version) → Satisfies q c name version → HasText c attribute text
satisfied_has q f attribute text is no_bundle no_package asks c name version s =
    let fits : IfSome (Some f) (Matches bytes_eq c.attributes) = subst (λ (o : Option Filter). IfSome o (Matches bytes_eq c.attributes)) is (s.of_other (λ b. false≢true (sym no_bundle ∙ b)) (λ p. false≢true (sym no_package ∙ p))) in
    record {
      no_bundle = subst (λ n. is_bundle n ≡ false) s.namespace no_bundle;
      no_package = subst (λ n. is_package n ≡ false) s.namespace no_package;
      has = (item_decides (Equal text) (attribute_value bytes_eq attribute c.attributes)).0 (asks c.attributes ((matches_decides bytes_eq c.attributes f).1 fits));
    }
