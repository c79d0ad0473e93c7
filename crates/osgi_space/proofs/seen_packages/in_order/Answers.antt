-- One package more is listed, and no longer left.
use Rattle.std.proofs.Common.{◌≡◌, ◌++◌, ◌∷◌, [], ℕ, List, All, append_assoc, ap, sym, ◌∙◌, subst, map}
use Rattle.std.specs.BTreeSet.{BTreeSet}
use Rattle.std.specs.List.Sorted.{IsStrictlyIncreasing}
use Rattle.std.specs.Map.Iter.{deref_pair}
use Rattle.std.proofs.lemmas.List.Elements.{All-push}
use Rattle.std.proofs.lemmas.Map.Iter.{rest_more}
use Rattle.osgi_base.specs.declared.ids.RevisionId.{RevisionId}
use Rattle.osgi_space.specs.computed.ByName.{as_entry}
use Rattle.osgi_space.specs.declared.seen_packages.PackageSources.{PackageSources}
use Rattle.osgi_space.proofs.seen_packages.in_order.Goals as goal

pub loop-package-preserved : goal.loop-package-preserved
loop-package-preserved c =
    let shown : List ℕ × BTreeSet ℕ = (c.in-Some.package.now, c.in-Some.sources.now) in
    let left : List (List ℕ × BTreeSet ℕ) = c.next.new.self in
    let list = c.loop-package.list in
    let entry = c.in_ok-entry.field-0 in
    let step : c.loop-package.package-iterator ≡ shown ∷ left = rest_more deref_pair _ _ _ (c.in-Some.package, c.in-Some.sources) c.in-Some.is c.next.ensures.steps in
    let P : PackageSources → Type 0 = λ s. IsStrictlyIncreasing (map (λ (r : RevisionId). r.0) s.sources) in
    let added : c.push.new.self ≡ list ++ entry ∷ [] = c.in_ok-push.ensures.added in (
      ap (λ (xs : List PackageSources). xs ++ map as_entry left) added ∙ append_assoc list (entry ∷ []) (map as_entry left)
          ∙ ap (λ (e : PackageSources). list ++ (e ∷ map as_entry left)) c.in_ok-entry.ensures.entry
          ∙ ap (λ (es : List (List ℕ × BTreeSet ℕ)). list ++ map as_entry es) (sym step)
          ∙ c.loop-package.invariant.0,
      subst (All P) (sym added) (All-push P list entry c.loop-package.invariant.1 c.in_ok-entry.ensures.rising),
    )
