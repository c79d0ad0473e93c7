-- Which revision's folder a class is loaded from is determined.
use Rattle.std.proofs.Common.{◌≡◌, ◌<◌, ℕ, inl, inr, List, [], ◌∷◌, ◌++◌, find, refl, sym, ap, ◌∙◌, subst, arith}
use Rattle.std.specs.Prelude.{false, Option, None, Some}
use Rattle.std.proofs.lemmas.List.Elements.{All-contains}
use Rattle.osgi_base.specs.declared.ids.BundleId.{BundleId}
use Rattle.osgi_base.specs.declared.ids.RevisionId.{RevisionId}
use Rattle.osgi_legal.proofs.Verdicts.{IsOne}
use Rattle.osgi_ops.specs.Assignable.{package_of}
use Rattle.osgi_legal.specs.Legal.{IsTold}
use Rattle.osgi_ops.specs.Loading.{all_with_fragments, AreRequired, AreSearched, GivesFrom, has_file, IsLoaded, IsLoadedBy, none, other, path_of, through, with_fragments}
use Rattle.osgi_ops.specs.Moments.{Moment}
use Rattle.osgi_ops.specs.laws.Members.{AreAmong, ordered-once}
use Rattle.osgi_ops.specs.rows.Bundles.{loaded_with, LoadAnswers, woken}
use Rattle.osgi_ops.specs.Dynamic.{world_with_wire}
use Rattle.osgi_ops.specs.laws.Dynamic.{none-added}
use Rattle.osgi_stage.proofs.Loads.{load-shown}
use Rattle.osgi_verdicts.proofs.Providers.{one-provider}
use Rattle.osgi_world.specs.Sources.{GivesPackage}
use Rattle.osgi_world.specs.declared.wiring.Wire.{Wire}
use Rattle.osgi_world.specs.declared.world.Known.{Known}
use Rattle.osgi_world.specs.declared.world.World.{World}

-- ---- required bundles

among : (world : World) (p : List ℕ) (c : RevisionId) (xs ys : List RevisionId) → GivesFrom world p c xs → GivesFrom world p c ys → AreAmong xs ys
among world p c xs ys a b = λ x i. b.every x (All-contains (GivesPackage world.known world.wirings p c) xs x a.only i)

given-one : (world : World) (p : List ℕ) (c : RevisionId) → IsOne (GivesFrom world p c)
given-one world p c xs ys a b =
    ordered-once (λ (x y : RevisionId). x.0 < y.0) (λ x less. omega (arith, less)) (λ x y z less more. omega (arith, less, more)) xs ys a.rising b.rising
    (among world p c xs ys a b) (among world p c ys xs b a)

required-one : (world : World) (p : List ℕ) (wires : List Wire) → IsOne (AreRequired world p wires)
required-one world p [] xs ys none none = refl
required-one world p (w ∷ wires) xs ys (other aside rest) (other apart more) = required-one world p wires xs ys rest more
required-one world p (w ∷ wires) xs ys (other aside rest) (through is given more) = absurd (aside is)
required-one world p (w ∷ wires) xs ys (through is given rest) (other aside more) = absurd (aside is)
required-one world p (w ∷ wires) xs ys (through {given = one} {list = front} is given rest) (through {given = two} {list = back} also too more) =
    let same : one ≡ two = given-one world p w.capability.provider one two given too in
    let behind : front ≡ back = required-one world p wires front back rest more in
    λ i. all_with_fragments world (same i) ++ behind i

-- ---- the folders that are searched

searched-one : (now : Moment) → IsTold now → (r : RevisionId) (p : List ℕ) → IsOne (AreSearched now.world r p)
searched-one now told r p xs ys (inl a) (inl b) = a.3 ∙ ap (with_fragments now.world) (one-provider now told r p a.0 b.0 a.1 b.1) ∙ sym b.3
searched-one now told r p xs ys (inl a) (inr b) = absurd (b.0 (record { from = a.0; imports = a.1; elsewhere = a.2 }))
searched-one now told r p xs ys (inr a) (inl b) = absurd (a.0 (record { from = b.0; imports = b.1; elsewhere = b.2 }))
searched-one now told r p xs ys (inr a) (inr b) = a.3 ∙ ap (λ l. l ++ with_fragments now.world r) (required-one now.world p _ a.1 b.1 a.2 b.2) ∙ sym b.3

loaded_by-one : (now : Moment) → IsTold now → (r : RevisionId) (class : List ℕ) → IsOne (IsLoadedBy now.world r class)
loaded_by-one now told r class x y a b =
    a.2 ∙ ap (find (has_file now.world (path_of class))) (searched-one now told r (package_of class) a.0 b.0 a.1 b.1) ∙ sym b.2

pub load-one : (now : Moment) → IsTold now → (bundle : BundleId) (class : List ℕ) → IsOne (LoadAnswers false now bundle class)
load-one now told bundle class y z a b =
    let world : (wire : Option Wire) → wire ≡ None → world_with_wire now.world bundle wire ≡ now.world = λ wire is. ap (world_with_wire now.world bundle) is in
    let here = subst (λ w. IsLoaded w bundle class a.by) (world a.wire (none-added now.world bundle class a.wire a.added)) a.loaded in
    let there = subst (λ w. IsLoaded w bundle class b.by) (world b.wire (none-added now.world bundle class b.wire b.added)) b.loaded in
    let same : there.0 ≡ here.0 = (let e : Some there.0 ≡ Some here.0 = sym there.1 ∙ here.1 in cc e) in
    load-shown now bundle class y a
    ∙ ap (λ by. loaded_with by None (woken now class by)) (loaded_by-one now told here.0.id class a.by b.by here.2 (subst (λ (k : Known). IsLoadedBy now.world k.id class b.by) same there.2))
    ∙ sym (load-shown now bundle class z b)
