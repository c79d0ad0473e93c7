-- A member that is amiss with one decision more, and was not before, is so by that decision.
use Rattle.std.proofs.Common.{◌≡◌, ◌≢◌, ◌↔◌, ℕ, ◌⊎◌, inl, inr, IsTrue, List, [], ◌∷◌, Option, None, Some, refl, sym, subst}
use Rattle.std.specs.Prelude.{false}
use Rattle.std.specs.Option.{option_map, option_map_or}
use Rattle.osgi_base.specs.declared.ids.RevisionId.{RevisionId}
use Rattle.osgi_resolver_theory.proofs.Before.{OneMore}
use Rattle.osgi_resolver_theory.proofs.Checks.{member-hopeless}
use Rattle.osgi_resolver_theory.proofs.Closure.{text-dec, two-dec}
use Rattle.osgi_resolver_theory.proofs.Complete.{fragments-single}
use Rattle.osgi_resolver_theory.proofs.Laws.{laws}
use Rattle.osgi_resolver_theory.proofs.Lists.{filter-in}
use Rattle.osgi_resolver_theory.proofs.States.{fragments-in, in-fragments, in-payload, member-new, payload-in, sound}
use Rattle.osgi_resolver_theory.proofs.Twos.{only-one, stable}
use Rattle.osgi_resolver_theory.proofs.Values.{value-cases}
use Rattle.osgi_resolver_theory.proofs.Views.{attached-cases, attached-member, due-picked}
use Rattle.osgi_resolver_theory.specs.Checks as check
use Rattle.osgi_resolver_decisions.specs.Sure.{LacksCandidate}
use Rattle.osgi_resolver_hopeless.proofs.Owners.{unmet-of}
use Rattle.osgi_resolver_hopeless.specs.computed.Stuck.{AreRefused, CannotBeMet, IsAmiss, IsAmissBy, IsFragmentAmiss, IsNewlyAmiss, IsUnmet, OwnUnmet, SameName, place}
use Rattle.osgi_space_rows.specs.Agree.{AreRowsOf}
use Rattle.osgi_space_rows.specs.Rows.{Attaches, RowLists}
use Rattle.osgi_world.specs.Candidates.{IsProblem, candidates}
use Rattle.osgi_world.specs.Decisions.{Decision, Made, attaching, choose, pick, value_made}
use Rattle.osgi_world.specs.DueDecisions.{fragments_of, members, payload}
use Rattle.osgi_world.specs.Hopeless as hopeless
use Rattle.osgi_world.specs.Hopeless.{Hopeless}
use Rattle.osgi_world.specs.Lists.{In, Two}
use Rattle.osgi_world.specs.Lookups.{is_current, is_host_of, is_multiple, known_at, revision_at, symbolic_name, IsNeeded}
use Rattle.osgi_world.specs.Partial.{partial}
use Rattle.osgi_world.specs.Payloads.{current_fragments}
use Rattle.osgi_world.specs.declared.problem.Problem.{Problem}
use Rattle.osgi_world.specs.declared.wiring.CapRef.{CapRef}
use Rattle.osgi_world.specs.declared.wiring.ReqRef.{ReqRef}
use Rattle.osgi_world.specs.declared.world.Known.{Known}

-- ---- two of one name

-- two that are apart
two-of : (K : List Known) (xs : List RevisionId) (e f : RevisionId) → In e xs → In f xs → e ≢ f → SameName K e f → Two (SameName K) xs
two-of K xs e f i j apart same =
    stable (two-dec (SameName K) (λ (a b : RevisionId). text-dec (symbolic_name K a) (symbolic_name K b)) xs) (λ none. apart (only-one (SameName K) xs e f none i j same (sym same)))

-- where none stands twice, two are apart
two-parts : (K : List Known) (xs : List RevisionId) → ¬ Two ◌≡◌ xs → Two (SameName K) xs → (e f : RevisionId) × In e xs × In f xs × (e ≢ f) × SameName K e f
two-parts K [] once t = elim t [ ]
two-parts K (x ∷ xs) once (inl y) = (x, y.0, inl refl, inr y.1, λ e. once (inl (y.0, y.1, e)), y.2)
two-parts K (x ∷ xs) once (inr t) = let r = two-parts K xs (λ u. once (inr u)) t in (r.0, r.1, inr r.2, inr r.3, r.4, r.5)

-- ---- fragments

current-go : (o : Option Known) → option_map (λ (k : Known). k.revision) o ≡ None → ¬ IsTrue (option_map_or (λ (k : Known). k.current) o false)
current-go None e t = cc
current-go (Some k) e t = cc

-- what is not known is not current
pub unknown-not_current : (K : List Known) (r : RevisionId) → revision_at K r ≡ None → ¬ IsTrue (is_current K r)
unknown-not_current K r e = current-go (known_at K r) e

pub fragment-current : (P : Problem) → IsProblem P → (D : Made) (m f : RevisionId) → In f (fragments_of P D m) → IsTrue (is_current P.world.known f)
fragment-current P L D m f i = (((laws P L).fragments_are f).0 (filter-in (λ (x : RevisionId). is_host_of P.world.known x m) (current_fragments P.world.known) f (fragments-in P D m f i).0).0).0

-- the rows attach the fragments of a member
pub attached-in : (P : Problem) → IsProblem P → (D : Made) (m : RevisionId) → In m (members P D) → (K : List Known) (N : ℕ → List ℕ) (R : RowLists) → AreRowsOf K (partial P D) N R → (f : RevisionId) → Attaches R m.0 f.0 ↔ In f (fragments_of P D m)
attached-in P L D m i K N R is f = (
  λ a. elim (attached-cases P D m f ((is.attaches m.0 f.0).0 a)) [
    | inl old ↦ absurd (member-new P L.root_is.not_in_force D m i (record { wiring = old.wiring; stands = old.stands; revision = old.revision }))
    | inr new ↦ in-fragments P D m f new.1 new.2
  ],
  λ j. (is.attaches m.0 f.0).1 (attached-member P D m f i j),
)

-- ---- what the last decision made amiss is amiss

own-unmet : (P : Problem) (D : Made) (m o : RevisionId) → LacksCandidate P o → OwnUnmet P D m o
own-unmet P D m o lacks =
    let here : lacks.0 ≡ place o lacks.0.index = λ j. record { owner = lacks.1 j; index = lacks.0.index } in
    (lacks.0.index, lacks.2, subst (CannotBeMet P D m) here (record { needed = lacks.3; no_wire = inl lacks.4 }))

fragment-amiss : (P : Problem) (D : Made) (m f : RevisionId) → In f (fragments_of P D m) → IsFragmentAmiss P D m f → IsAmiss P D m
fragment-amiss P D m f i (inl lacks) = inl (unmet-of P D m f (inr i) (own-unmet P D m f lacks))
fragment-amiss P D m f i (inr h) = inr (two-of P.world.known (fragments_of P D m) f h.0 i h.1.0 (λ e. h.1.1 (sym e)) h.2)

amiss-by : (P : Problem) (D : Made) (d : Decision) (v : ℕ) (m : RevisionId) → IsAmissBy P D d v m → IsAmiss P D m
amiss-by P D (attaching h f) v m a = fragment-amiss P D m f a.2 a.3
amiss-by P D (choose h q) v m a = elim a [ ]
amiss-by P D (pick h q c) v m a = inl (q, a.2, a.3)

pub newly-amiss : (P : Problem) (D : Made) (m : RevisionId) → IsNewlyAmiss P D m → IsAmiss P D m
newly-amiss P [] m a = a
newly-amiss P (t ∷ D) m (inl lacks) = inl (unmet-of P (t ∷ D) m m (inl refl) (own-unmet P (t ∷ D) m m lacks))
newly-amiss P (t ∷ D) m (inr by) = amiss-by P (t ∷ D) t.0 t.1 m by

-- where there is no decision, and where there is a last one
pub none-newly : (P : Problem) (D : Made) (m : RevisionId) → D ≡ [] → IsAmiss P D m ↔ IsNewlyAmiss P D m
none-newly P D m e = subst (λ E. IsAmiss P E m ↔ IsNewlyAmiss P E m) (sym e) (λ a. a, λ a. a)

pub last-newly : (P : Problem) (E D : Made) (d : Decision) (v : ℕ) (m : RevisionId) → E ≡ ((d, v) ∷ D) → (LacksCandidate P m ⊎ IsAmissBy P E d v m) ↔ IsNewlyAmiss P E m
last-newly P E D d v m e = subst (λ F. (LacksCandidate P m ⊎ IsAmissBy P F d v m) ↔ IsNewlyAmiss P F m) (sym e) (λ a. a, λ a. a)

-- ---- what is amiss and was not hopeless before is so by the last decision

module _ (P : Problem) (D : Made) (d : Decision) (v : ℕ) (x : OneMore P D d v) (hopeful : ¬ Hopeless P D) (m : RevisionId) where
  abbrev E : Made
  E = (d, v) ∷ D

  abbrev Newly : Type 0
  Newly = LacksCandidate P m ⊎ IsAmissBy P E d v m

  -- the decision attached the fragment, or it was attached before
  fragment-either : (f : RevisionId) → In f (fragments_of P E m) → (attaching m f ≡ d) × (0 ≡ v) ⊎ In m (members P D) × In f (fragments_of P D m)
  fragment-either f i =
      let r = fragments-in P E m f i in
      elim (value-cases D d v (attaching m f) 0 r.1) [
        | inl new ↦ inl new
        | inr old ↦ inr ((sound P D x.state (attaching m f) 0 old).member, in-fragments P D m f r.0 old)
      ]

  by-fragment : (f : RevisionId) → (attaching m f ≡ d) × (0 ≡ v) → In f (fragments_of P E m) → IsFragmentAmiss P E m f → Newly
  by-fragment f new i a = inr (subst (λ e. IsAmissBy P E e v m) new.0 (refl, sym new.1, i, a))

  -- a requirement without candidates
  by-lacking : (q : ReqRef) → In q (payload P E m) → IsNeeded P.world.known q → candidates P q ≡ [] → Newly
  by-lacking q i needed none =
      let at = payload-in P E m q i in
      let lacks : LacksCandidate P q.owner = (q, refl, at.1, needed, none) in
      elim at.0 [
        | inl own ↦ inl (subst (LacksCandidate P) own lacks)
        | inr f ↦ elim (fragment-either q.owner f) [
          | inl new ↦ by-fragment q.owner new f (inl lacks)
          | inr old ↦ absurd (hopeful (hopeless.no_candidate m q old.0 (in-payload P D m q (inr old.1) at.1) needed none))
        ]
      ]

  -- the decision refused one of these wires, or all were refused before
  refused-either : (q : ReqRef) (cs : List CapRef) → AreRefused E m q cs → ((c : CapRef) × (pick m q c ≡ d) × (1 ≡ v)) ⊎ AreRefused D m q cs
  refused-either q [] all = inr (λ c i. elim i [ ])
  refused-either q (c ∷ cs) all = elim (value-cases D d v (pick m q c) 1 (all c (inl refl))) [
    | inl new ↦ inl (c, new.0, new.1)
    | inr old ↦ elim (refused-either q cs (λ b i. all b (inr i))) [
      | inl new ↦ inl new
      | inr rest ↦ inr (λ b i. elim i [ inl e ↦ subst (λ (y : CapRef). value_made D (pick m q y) ≡ Some 1) (sym e) old | inr j ↦ rest b j ])
    ]
  ]

  by-refused : (q : ReqRef) → In q (payload P E m) → CannotBeMet P E m q → IsTrue (is_multiple P.world.known q) → AreRefused E m q (candidates P q) → (cs : List CapRef) → candidates P q ≡ cs → Newly
  by-refused q i unmet multiple all [] none = by-lacking q i unmet.needed none
  by-refused q i unmet multiple all (c ∷ cs) is = elim (refused-either q (candidates P q) all) [
    | inl new ↦ inr (subst (λ e. IsAmissBy P E e v m) new.1 (refl, sym new.2, i, unmet))
    | inr old ↦
        let s = sound P D x.state (pick m q c) 1 (old c (subst (In c) (sym is) (inl refl))) in
        absurd (hopeful (hopeless.all_refused m q s.member (due-picked P D m q c s.due).0.in_payload unmet.needed multiple old))
  ]

  by-unmet : IsUnmet P E m → Newly
  by-unmet u = elim u.2.no_wire [
    | inl none ↦ by-lacking u.0 u.1 u.2.needed none
    | inr refused ↦ by-refused u.0 u.1 u.2 refused.0 refused.1 (candidates P u.0) refl
  ]

  -- two fragments of one name
  by-names : Two (SameName P.world.known) (fragments_of P E m) → Newly
  by-names t =
      let r = two-parts P.world.known (fragments_of P E m) (fragments-single P x.problem E m) t in
      elim (fragment-either r.0 r.2) [
        | inl new ↦ by-fragment r.0 new r.2 (inr (r.1, (r.3, λ e. r.4 (sym e)), r.5))
        | inr a ↦ elim (fragment-either r.1 r.3) [
          | inl new ↦ by-fragment r.1 new r.3 (inr (r.0, (r.2, r.4), sym r.5))
          | inr b ↦ absurd (hopeful (member-hopeless P D (check.two_versions m a.0 (two-of P.world.known (fragments_of P D m) r.0 r.1 a.1 b.1 r.4 r.5))))
        ]
      ]

  pub newly : IsAmiss P E m → IsNewlyAmiss P E m
  newly (inl u) = by-unmet u
  newly (inr t) = by-names t
