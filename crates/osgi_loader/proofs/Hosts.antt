-- Whose files are searched.
use Rattle.std.proofs.Common.{◌≡◌, ◌≢◌, ◌↔◌, inl, inr, ℕ, ◌+◌, ◌<◌, suc, Bool, true, false, List, [], ◌∷◌, ◌++◌, length, get_or, take, drop, drop-cons, add-one, map, refl, sym, ◌∙◌, ap, subst, arith, append_assoc, append-nil, Contains}
use Rattle.std.specs.Prelude.{All, AllPairs, filter_map, None, Option, Some, find, unwrap_or}
use Rattle.std.specs.List.Sorted.{IsStrictlyIncreasing}
use Rattle.std.specs.Option.{option_or}
use Rattle.std.proofs.lemmas.List.{take_more}
use Rattle.std.proofs.lemmas.List.Folds.{find-append}
use Rattle.std.proofs.lemmas.List.Kept.{AllPairs-cons, AllPairs-from_increasing}
use Rattle.std.proofs.lemmas.List.Elements.{All-cons, All-nil}
use Rattle.osgi_base.specs.declared.ids.RevisionId.{RevisionId}
use Rattle.osgi_ops.specs.Loading.{all_with_fragments, AreRequired, AreSearched, GivesFrom, none, other, through, with_fragments}
use Rattle.osgi_ops.specs.laws.Items.{In-contains, In-map, In-mapped, contains-In}
use Rattle.osgi_ops.specs.laws.Members.{Contains-filter_map, Contains-mapped, AllPairs-head, AllPairs-tail}
use Rattle.osgi_wiring.specs.States.{IsKeptWorld}
use Rattle.osgi_world.specs.Sources.{GivesPackage}
use Rattle.osgi_world.specs.Wirings.{ImportsElsewhere}
use Rattle.osgi_world.specs.declared.wiring.Wire.{Wire}
use Rattle.osgi_world.specs.declared.world.World.{World}
use Rattle.osgi_loader.specs.computed.Searched.{AddsGiven}
use Rattle.osgi_loader.specs.computed.Wires.{IsGiven, IsReached, given_by, is_required, numbered, provider_of, wires_of}
use Rattle.osgi_loader.proofs.Wired.{given-alone, no-wire, provider-wire, required-is}

-- ---- hosts with their fragments

pub hosts-append : (world : World) (xs ys : List RevisionId) → all_with_fragments world (xs ++ ys) ≡ all_with_fragments world xs ++ all_with_fragments world ys
hosts-append world [] ys = refl
hosts-append world (x ∷ xs) ys = ap (λ l. with_fragments world x ++ l) (hosts-append world xs ys) ∙ sym (append_assoc (with_fragments world x) (all_with_fragments world xs) (all_with_fragments world ys))

host-alone : (world : World) (x : RevisionId) → all_with_fragments world (x ∷ []) ≡ with_fragments world x
host-alone world x = append-nil (with_fragments world x)

-- the hosts from a place on
module _ (world : World) (q : RevisionId → Bool) (hosts : List RevisionId) (i : ℕ) (d : RevisionId) (within : i < length hosts) where
  from-here : find q (all_with_fragments world (drop i hosts)) ≡ option_or (find q (with_fragments world (get_or hosts i d))) (find q (all_with_fragments world (drop (i + 1) hosts)))
  from-here =
      ap (λ l. find q (all_with_fragments world l)) (drop-cons hosts i d within)
      ∙ find-append q (with_fragments world (get_or hosts i d)) (all_with_fragments world (drop (suc i) hosts))
      ∙ ap (λ n. option_or (find q (with_fragments world (get_or hosts i d))) (find q (all_with_fragments world (drop n hosts)))) (sym (add-one i))

  pub host-found : (x : RevisionId) → Some x ≡ find q (with_fragments world (get_or hosts i d)) → Some x ≡ find q (all_with_fragments world (drop i hosts))
  host-found x is = ap (λ o. option_or o (find q (all_with_fragments world (drop (i + 1) hosts)))) is ∙ sym from-here

  pub host-passed : None ≡ find q (with_fragments world (get_or hosts i d)) → find q (all_with_fragments world (drop (i + 1) hosts)) ≡ find q (all_with_fragments world (drop i hosts))
  host-passed is = ap (λ o. option_or o (find q (all_with_fragments world (drop (i + 1) hosts)))) is ∙ sym from-here

-- ---- what is given, rising

-- the numbers of what is given
pub given-numbers : (world : World) (p : List ℕ) (starts bundles : List ℕ) → ((x : ℕ) → Contains bundles x ↔ IsReached world starts x) → (n : ℕ) →
    Contains (map (λ (x : RevisionId). x.0) (filter_map (λ b. given_by world p (numbered b)) bundles)) n ↔ IsGiven world p starts n
given-numbers world p starts bundles are n = (
  λ at.
      let x = In-map (λ (x : RevisionId). x.0) (filter_map (λ b. given_by world p (numbered b)) bundles) n (contains-In _ n at) in
      let b = Contains-filter_map (λ b. given_by world p (numbered b)) bundles x.0 (In-contains _ x.0 x.1) in
      (b.0, (are b.0).0 b.1, b.2 ∙ ap (λ k. Some (numbered k)) (sym x.2)),
  λ given. In-contains _ n (In-mapped (λ (x : RevisionId). x.0) _ (numbered n) (contains-In _ (numbered n) (Contains-mapped (λ b. given_by world p (numbered b)) bundles given.0 (numbered n) ((are given.0).1 given.1) given.2))),
)

all-each : {X : Type 0} (P : X → Type 0) (xs : List X) → ((x : X) → Contains xs x → P x) → All P xs
all-each P [] each = All-nil P
all-each P (x ∷ xs) each = All-cons P x xs (each x (In-contains (x ∷ xs) x (inl refl))) (all-each P xs (λ y c. each y (In-contains (x ∷ xs) y (inr (contains-In xs y c)))))

numbers-rise : (xs : List ℕ) → AllPairs (λ x y. x < y) xs → AllPairs (λ (a b : RevisionId). a.0 < b.0) (map numbered xs)
numbers-rise [] rising = λ i j d less below. absurd (omega arith)
numbers-rise (x ∷ xs) rising =
    AllPairs-cons (λ (a b : RevisionId). a.0 < b.0) (numbered x) (map numbered xs)
    (above xs (AllPairs-head (λ x y. x < y) x xs rising)) (numbers-rise xs (AllPairs-tail (λ x y. x < y) x xs rising))
  where
    above : (ys : List ℕ) → All (λ y. x < y) ys → All (λ (b : RevisionId). x < b.0) (map numbered ys)
    above ys all =
        all-each (λ (b : RevisionId). x < b.0) (map numbered ys) (λ b c.
        let n = In-map numbered ys b (contains-In (map numbered ys) b c) in
        let at = In-contains ys n.0 n.1 in
        let less : x < n.0 = subst (λ k. x < k) at.2 (all at.0 n.0 at.1) in
        subst (λ (z : RevisionId). x < z.0) (sym n.2) less)

pub are-given : (world : World) (issued : ℕ) → IsKeptWorld world issued → (p : List ℕ) (c : RevisionId) (xs : List ℕ) → IsStrictlyIncreasing xs → ((n : ℕ) → Contains xs n ↔ IsGiven world p (c.0 ∷ []) n) → GivesFrom world p c (map numbered xs)
are-given world issued kept p c xs rising are = record {
  only = all-each (GivesPackage world.known world.wirings p c) (map numbered xs) (λ x at.
      let n = In-map numbered xs x (contains-In (map numbered xs) x at) in
      let given : IsGiven world p (c.0 ∷ []) n.0 = (are n.0).0 (In-contains xs n.0 n.1) in
      (given-alone world issued kept p c x).0 (subst (λ (y : RevisionId). IsGiven world p (c.0 ∷ []) y.0) (sym n.2) given));
  every = λ x g. In-contains (map numbered xs) x (In-mapped numbered xs x.0 (contains-In xs x.0 ((are x.0).1 ((given-alone world issued kept p c x).1 g))));
  rising = numbers-rise xs (AllPairs-from_increasing xs rising);
}

-- ---- the wires to bundles, one after another

module _ (world : World) (p : List ℕ) where
  pub required-none : (ws : List Wire) (w : Wire) (list : List RevisionId) → is_required world.known w ≡ false → AreRequired world p ws list → AreRequired world p (ws ++ w ∷ []) list
  required-none [] w list fails none = other (λ b. let bad : true ≡ false = sym (required-is world.known w ∙ b) ∙ fails in cc bad) none
  required-none (v ∷ vs) w list fails (other not_bundle rest) = other not_bundle (required-none vs w _ fails rest)
  required-none (v ∷ vs) w list fails (through bundle given rest) = through bundle given (required-none vs w _ fails rest)

  pub required-one : (ws : List Wire) (w : Wire) (list given : List RevisionId) → is_required world.known w ≡ true → GivesFrom world p w.capability.provider given → AreRequired world p ws list →
      AreRequired world p (ws ++ w ∷ []) (list ++ all_with_fragments world given)
  required-one [] w list given passes are none = subst (AreRequired world p (w ∷ [])) (append-nil (all_with_fragments world given)) (through (sym (required-is world.known w) ∙ passes) are none)
  required-one (v ∷ vs) w list given passes are (other not_bundle rest) = other not_bundle (required-one vs w _ given passes are rest)
  required-one (v ∷ vs) w list given passes are (through {given = first} {list = more} bundle these rest) =
      subst (AreRequired world p (v ∷ (vs ++ w ∷ []))) (sym (append_assoc (all_with_fragments world first) more (all_with_fragments world given)))
      (through bundle these (required-one vs w more given passes are rest))

  pub required-step : (ws : List Wire) (w : Wire) (old new : List RevisionId) → is_required world.known w ≡ true → AddsGiven world p w.capability.provider old new → AreRequired world p ws (all_with_fragments world old) →
      AreRequired world p (ws ++ w ∷ []) (all_with_fragments world new)
  required-step ws w old new passes adds before =
      subst (AreRequired world p (ws ++ w ∷ [])) (sym (hosts-append world old adds.given) ∙ ap (all_with_fragments world) (sym adds.added))
      (required-one ws w (all_with_fragments world old) adds.given passes adds.are before)

-- one wire more of those from a place on
module _ (world : World) (p : List ℕ) (ws : List Wire) (i : ℕ) (d : Wire) (within : i < length ws) where
  pub wire-passed : (list : List RevisionId) → is_required world.known (get_or ws i d) ≡ false → AreRequired world p (take i ws) list → AreRequired world p (take (i + 1) ws) list
  wire-passed list fails before = subst (λ l. AreRequired world p l list) (sym (take_more ws i d within)) (required-none world p (take i ws) (get_or ws i d) list fails before)

  pub wire-added : (old new : List RevisionId) → is_required world.known (get_or ws i d) ≡ true → AddsGiven world p (get_or ws i d).capability.provider old new → AreRequired world p (take i ws) (all_with_fragments world old) →
      AreRequired world p (take (i + 1) ws) (all_with_fragments world new)
  wire-added old new passes adds before = subst (λ l. AreRequired world p l (all_with_fragments world new)) (sym (take_more ws i d within)) (required-step world p (take i ws) (get_or ws i d) old new passes adds before)

-- ---- all that are searched

module _ (world : World) (issued : ℕ) (kept : IsKeptWorld world issued) (p : List ℕ) (r : RevisionId) where
  -- the provider of the wire for the package, where that is another revision
  pub searched-import : (x : RevisionId) → x ≡ unwrap_or (provider_of world p r) r → x ≢ r → AreSearched world r p (all_with_fragments world (x ∷ []))
  searched-import x is elsewhere = by (provider_of world p r) refl
    where
      by : (o : Option RevisionId) → provider_of world p r ≡ o → AreSearched world r p (all_with_fragments world (x ∷ []))
      by None from = absurd (elsewhere (is ∙ ap (λ o. unwrap_or o r) from))
      by (Some y) from =
          let same : x ≡ y = is ∙ ap (λ o. unwrap_or o r) from in
          inl (x, provider-wire world issued kept p r x (from ∙ ap Some (sym same)), elsewhere, host-alone world x)

  -- else there is no such wire
  pub searched-own : (hosts : List RevisionId) → unwrap_or (provider_of world p r) r ≡ r → AreRequired world p (wires_of world r) (all_with_fragments world hosts) → AreSearched world r p (all_with_fragments world (hosts ++ r ∷ []))
  searched-own hosts here required = inr (
    by (provider_of world p r) refl,
    all_with_fragments world hosts,
    required,
    hosts-append world hosts (r ∷ []) ∙ ap (λ l. all_with_fragments world hosts ++ l) (host-alone world r),
  )
    where
      by : (o : Option RevisionId) → provider_of world p r ≡ o → ImportsElsewhere world.known world.wirings r p → ⊥
      by None from i = no-wire world issued kept p r from i.from i.imports
      by (Some y) from i =
          let same : y ≡ r = ap (λ o. unwrap_or o r) (sym from) ∙ here in
          i.elsewhere (kept.consistent.coherent.rules.one_provider r p i.from y i.imports (provider-wire world issued kept p r y from) ∙ same)
