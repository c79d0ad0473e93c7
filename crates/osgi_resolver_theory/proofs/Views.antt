-- What the wirings of a state hold: what was there before, and what is decided.
use Rattle.std.proofs.Common.{◌≡◌, ℕ, zero, suc, ◌⊎◌, inl, inr, Bool, true, false, IsTrue, if◌then◌else◌, [], ◌∷◌, map, filter, flat_map, Option, None, Some, refl, sym, ◌∙◌, ap, subst}
use Rattle.osgi_base.specs.declared.ids.RevisionId.{RevisionId}
use Rattle.osgi_world.specs.Candidates.{IsCandidate, IsProblem, candidates, matching}
use Rattle.osgi_world.specs.Decisions.{Decision, Made, Step, adds, attaching, attached, choose, host, is_yes, pick, value_made, wired, wired_to}
use Rattle.osgi_world.specs.DueDecisions.{fragments_of, members, payload}
use Rattle.osgi_world.specs.Partial.{chosen_for, chosen_by, partial, wires_for, wiring}
use Rattle.osgi_world.specs.Lists.{In, item_at}
use Rattle.osgi_world.specs.Lookups.{is_effective, is_multiple, is_optional}
use Rattle.osgi_world.specs.Wirings.{Attached, HasWire, InForce}
use Rattle.osgi_world.specs.declared.problem.Problem.{Problem}
use Rattle.osgi_world.specs.declared.wiring.CapRef.{CapRef}
use Rattle.osgi_world.specs.declared.wiring.ReqRef.{ReqRef}
use Rattle.osgi_world.specs.declared.wiring.Wire.{Wire}
use Rattle.osgi_world.specs.declared.wiring.Wiring.{Wiring}
use Rattle.osgi_resolver_theory.proofs.Lists.{entry-singles, filter-in, flat_map-in, in-append_cases, in-append_left, in-append_right, in-filter, in-flat_map, in-map, map-in, singles-entry}
use Rattle.osgi_resolver_theory.proofs.States.{AllAttached, IsDue, attaches, chooses, fragments-in, in-fragments, made-candidate, member-current, payload-asked, picks, sound, wire_part}
use Rattle.osgi_resolver_theory.proofs.Values.{some-yes, yes-some}
use Rattle.osgi_resolver_theory.specs.States.{State}

-- ---- what a sound decision says

fragment_part : Decision → RevisionId
fragment_part (attaching h f) = f
fragment_part (choose h q) = h
fragment_part (pick h q c) = h

requirement_part : Decision → ReqRef
requirement_part (attaching h f) = record { owner = h; index = f.0 }
requirement_part (choose h q) = q
requirement_part (pick h q c) = q

capability_part : CapRef → Decision → CapRef
capability_part d (attaching h f) = d
capability_part d (choose h q) = d
capability_part d (pick h q c) = c

attach-fragment : (h f g : RevisionId) → attaching h f ≡ attaching h g → f ≡ g
unfolding fragment_part
attach-fragment h f g e = ap fragment_part e

choose-requirement : (h : RevisionId) (q n : ReqRef) → choose h q ≡ choose h n → q ≡ n
unfolding requirement_part
choose-requirement h q n e = ap requirement_part e

pick-requirement : (h : RevisionId) (q n : ReqRef) (c d : CapRef) → pick h q c ≡ pick h n d → q ≡ n
unfolding requirement_part
pick-requirement h q n c d e = ap requirement_part e

pick-capability : (h : RevisionId) (q n : ReqRef) (c d : CapRef) → pick h q c ≡ pick h n d → c ≡ d
unfolding capability_part
pick-capability h q n c d e = ap (capability_part c) e

due-matches : (P : Problem) (D : Made) (h f : RevisionId) → IsDue P D h (attaching h f) → In f (matching P h)
due-matches P D h f (attaches g i e) = subst (λ x. In x (matching P h)) (sym (attach-fragment h f g e)) i
due-matches P D h f (chooses q i eff all m e) = cc
due-matches P D h f (picks q c i eff all m j e) = cc

pub sound-matches : (P : Problem) (D : Made) → State P D → (h f : RevisionId) (v : ℕ) → value_made D (attaching h f) ≡ Some v → In f (matching P h)
sound-matches P D s h f v e = due-matches P D h f (sound P D s (attaching h f) v e).due

-- the requirement of a due decision
pub record Asked (P : Problem) (D : Made) (h : RevisionId) (q : ReqRef) : Type 0 where
  pub in_payload : In q (payload P D h)
  pub effective : IsTrue (is_effective P.world.known q)
  pub attached : AllAttached P D h

pub due-asked : (P : Problem) (D : Made) (h : RevisionId) (q : ReqRef) → IsDue P D h (choose h q) → Asked P D h q × ((is_multiple P.world.known q) ≡ false)
due-asked P D h q (attaches f i e) = cc
due-asked P D h q (chooses n i eff all m e) =
    let s = sym (choose-requirement h q n e) in
    (record { in_payload = subst (λ x. In x (payload P D h)) s i; effective = subst (λ x. IsTrue (is_effective P.world.known x)) s eff; attached = all }, subst (λ x. (is_multiple P.world.known x) ≡ false) s m)
due-asked P D h q (picks n c i eff all m j e) = cc

pub due-picked : (P : Problem) (D : Made) (h : RevisionId) (q : ReqRef) (c : CapRef) → IsDue P D h (pick h q c) → Asked P D h q × ((is_multiple P.world.known q) ≡ true) × In c (candidates P q)
due-picked P D h q c (attaches f i e) = cc
due-picked P D h q c (chooses n i eff all m e) = cc
due-picked P D h q c (picks n d i eff all m j e) =
    let s = sym (pick-requirement h q n c d e) in (
      record { in_payload = subst (λ x. In x (payload P D h)) s i; effective = subst (λ x. IsTrue (is_effective P.world.known x)) s eff; attached = all },
      subst (λ x. (is_multiple P.world.known x) ≡ true) s m,
      subst (λ x. In c ((candidates P) x)) s (subst (λ x. In x ((candidates P) n)) (sym (pick-capability h q n c d e)) j),
    )

-- ---- what a value adds

host_part : Step → RevisionId
host_part (attached h f) = h
host_part (wired r w) = r

fragment_of : Step → RevisionId
fragment_of (attached h f) = f
fragment_of (wired r w) = r

attached-parts : (h f r g : RevisionId) → attached r g ≡ attached h f → (r ≡ h) × (g ≡ f)
unfolding host_part fragment_of
attached-parts h f r g e = (ap host_part e, ap fragment_of e)

wired-parts : (r h : RevisionId) (w x : Wire) → wired r w ≡ wired h x → (r ≡ h) × (w ≡ x)
unfolding host_part wire_part
wired-parts r h w x e = (ap host_part e, ap (wire_part w) e)

pub adds-attached : (P : Problem) (d : Decision) (v : ℕ) (r f : RevisionId) → In (attached r f) (adds P d v) → (attaching r f ≡ d) × (v ≡ 0)
adds-attached P (attaching h g) zero r f (inl e) = let p = attached-parts h g r f e in (ap (λ x. attaching x f) p.0 ∙ ap (attaching h) p.1, refl)
adds-attached P (attaching h g) zero r f (inr i) = elim i [ ]
adds-attached P (attaching h g) (suc zero) r f i = elim i [ ]
adds-attached P (attaching h g) (suc (suc v)) r f i = elim i [ ]
adds-attached P (choose h q) v r f i = let s = entry-singles (wired_to h q) (is_optional P.world.known q) (candidates P q) v (attached r f) i in let e = s.2 in cc
adds-attached P (pick h q c) zero r f (inl e) = cc
adds-attached P (pick h q c) zero r f (inr i) = elim i [ ]
adds-attached P (pick h q c) (suc zero) r f i = elim i [ ]
adds-attached P (pick h q c) (suc (suc v)) r f i = elim i [ ]

-- the decision that adds a wire
pub data Adder (P : Problem) (d : Decision) (v : ℕ) (r : RevisionId) (w : Wire) : Type 0 where
  by_choice : choose r w.requirement ≡ d → In w.capability (item_at ((candidates P) w.requirement) v) → Adder P d v r w
  by_pick : pick r w.requirement w.capability ≡ d → v ≡ 0 → Adder P d v r w

chosen-adder : (P : Problem) (h : RevisionId) (q : ReqRef) (v : ℕ) (r : RevisionId) (w : Wire) (c : CapRef) → In c (item_at (candidates P q) v) → wired r w ≡ wired_to h q c → Adder P (choose h q) v r w
chosen-adder P h q v r w c i e =
    let p = wired-parts r h w (record { requirement = q; capability = c }) e in
    let rq : w.requirement ≡ q = ap (λ (w : Wire). w.requirement) p.1 in
    let cp : w.capability ≡ c = ap (λ (w : Wire). w.capability) p.1 in
    by_choice (ap (λ x. choose x w.requirement) p.0 ∙ ap (choose h) rq) (subst (λ x. In w.capability (item_at ((candidates P) x) v)) (sym rq) (subst (λ x. In x (item_at (candidates P q) v)) (sym cp) i))

picked-adder : (P : Problem) (h : RevisionId) (q : ReqRef) (c : CapRef) (v : ℕ) (r : RevisionId) (w : Wire) → v ≡ 0 → wired r w ≡ wired_to h q c → Adder P (pick h q c) v r w
picked-adder P h q c v r w z e =
    let p = wired-parts r h w (record { requirement = q; capability = c }) e in
    let rq : w.requirement ≡ q = ap (λ (w : Wire). w.requirement) p.1 in
    let cp : w.capability ≡ c = ap (λ (w : Wire). w.capability) p.1 in
    by_pick (ap (λ x. pick x w.requirement w.capability) p.0 ∙ ap (λ x. pick h x w.capability) rq ∙ ap (pick h q) cp) z

pub adder : (P : Problem) (d : Decision) (v : ℕ) (r : RevisionId) (w : Wire) → In (wired r w) (adds P d v) → Adder P d v r w
adder P (attaching h g) zero r w (inl e) = cc
adder P (attaching h g) zero r w (inr i) = elim i [ ]
adder P (attaching h g) (suc zero) r w i = elim i [ ]
adder P (attaching h g) (suc (suc v)) r w i = elim i [ ]
adder P (choose h q) v r w i = let s = entry-singles (wired_to h q) (is_optional P.world.known q) (candidates P q) v (wired r w) i in chosen-adder P h q v r w s.0 s.1 s.2
adder P (pick h q c) zero r w (inl e) = picked-adder P h q c 0 r w refl e
adder P (pick h q c) zero r w (inr i) = elim i [ ]
adder P (pick h q c) (suc zero) r w i = elim i [ ]
adder P (pick h q c) (suc (suc v)) r w i = elim i [ ]

pub adder-host : (P : Problem) (d : Decision) (v : ℕ) (r : RevisionId) (w : Wire) → In (wired r w) (adds P d v) → host d ≡ r
adder-host P d v r w i = elim (adder P d v r w i) [ by_choice e c ↦ ap host (sym e) | by_pick e z ↦ ap host (sym e) ]

pub adds-chosen : (P : Problem) (h : RevisionId) (q : ReqRef) (v : ℕ) (c : CapRef) → In c (item_at (candidates P q) v) → In (wired_to h q c) (adds P (choose h q) v)
adds-chosen P h q v c i = singles-entry (wired_to h q) (if (is_optional P.world.known q) then [] ∷ [] else []) (candidates P q) v c i

-- ---- in force

pub in_force-cases : (P : Problem) (D : Made) (r : RevisionId) → InForce (partial P D) r → InForce P.world.wirings r ⊎ In r (members P D)
in_force-cases P D r h = elim (in-append_cases P.world.wirings (map (wiring P D) (members P D)) h.wiring h.stands) [
  | inl i ↦ inl (record { wiring = h.wiring; stands = i; revision = h.revision })
  | inr i ↦ let m = map-in (wiring P D) (members P D) h.wiring i in
      inr (subst (λ x. In x (members P D)) (sym (ap (λ (g : Wiring). g.revision) m.2) ∙ h.revision) m.1)
]

pub in_force-old : (P : Problem) (D : Made) (r : RevisionId) → InForce P.world.wirings r → InForce (partial P D) r
in_force-old P D r h = record { wiring = h.wiring; stands = in-append_left P.world.wirings (map (wiring P D) (members P D)) h.wiring h.stands; revision = h.revision }

pub in_force-member : (P : Problem) (D : Made) (r : RevisionId) → In r (members P D) → InForce (partial P D) r
in_force-member P D r i = record {
  wiring = wiring P D r;
  stands = in-append_right P.world.wirings (map (wiring P D) (members P D)) (wiring P D r) (in-map (wiring P D) (members P D) r i);
  revision = refl;
}

pub in_force-in : (P : Problem) (D : Made) (r : RevisionId) → InForce P.world.wirings r ⊎ In r (members P D) → InForce (partial P D) r
in_force-in P D r (inl h) = in_force-old P D r h
in_force-in P D r (inr i) = in_force-member P D r i

-- ---- attached

pub attached-old : (P : Problem) (D : Made) (r f : RevisionId) → Attached P.world.wirings r f → Attached (partial P D) r f
attached-old P D r f h = record { wiring = h.wiring; stands = in-append_left P.world.wirings (map (wiring P D) (members P D)) h.wiring h.stands; revision = h.revision; has = h.has }

pub attached-cases : (P : Problem) (D : Made) (r f : RevisionId) → Attached (partial P D) r f → Attached P.world.wirings r f ⊎ In r (members P D) × In f (matching P r) × (value_made D (attaching r f) ≡ Some 0)
attached-cases P D r f h = elim (in-append_cases P.world.wirings (map (wiring P D) (members P D)) h.wiring h.stands) [
  | inl i ↦ inl (record { wiring = h.wiring; stands = i; revision = h.revision; has = h.has })
  | inr i ↦ let m = map-in (wiring P D) (members P D) h.wiring i in
      let same : m.0 ≡ r = sym (ap (λ (g : Wiring). g.revision) m.2) ∙ h.revision in
      let there : In f (fragments_of P D m.0) = subst (λ (g : Wiring). In f g.fragments) m.2 h.has in
      let at_r = fragments-in P D r f (subst (λ x. In f (fragments_of P D x)) same there) in
      inr (subst (λ x. In x (members P D)) same m.1, at_r.0, at_r.1)
]

pub attached-member : (P : Problem) (D : Made) (r f : RevisionId) → In r (members P D) → In f (fragments_of P D r) → Attached (partial P D) r f
attached-member P D r f i j = record {
  wiring = wiring P D r;
  stands = in-append_right P.world.wirings (map (wiring P D) (members P D)) (wiring P D r) (in-map (wiring P D) (members P D) r i);
  revision = refl;
  has = j;
}

pub attached-made : (P : Problem) (D : Made) → State P D → (r f : RevisionId) → value_made D (attaching r f) ≡ Some 0 → Attached (partial P D) r f
attached-made P D s r f e = attached-member P D r f (sound P D s (attaching r f) 0 e).member (in-fragments P D r f (sound-matches P D s r f 0 e) e)

-- ---- wires

-- the word decides on this wire
pub record Got (P : Problem) (D : Made) (r : RevisionId) (w : Wire) : Type 0 where
  pub decision : Decision
  pub chosen : ℕ
  pub made : value_made D decision ≡ Some chosen
  pub added : In (wired r w) (adds P decision chosen)

pub wire-old : (P : Problem) (D : Made) (r : RevisionId) (w : Wire) → HasWire P.world.wirings r w → HasWire (partial P D) r w
wire-old P D r w h = record { wiring = h.wiring; stands = in-append_left P.world.wirings (map (wiring P D) (members P D)) h.wiring h.stands; revision = h.revision; has = h.has }

gets-some : (P : Problem) (q : ReqRef) (o : Option ℕ) (c : CapRef) → In c (chosen_by P q o) → (v : ℕ) × (o ≡ Some v) × In c (item_at (candidates P q) v)
gets-some P q None c i = elim i [ ]
gets-some P q (Some v) c i = (v, refl, i)

some-gets : (P : Problem) (q : ReqRef) (o : Option ℕ) (v : ℕ) (c : CapRef) → o ≡ Some v → In c (item_at (candidates P q) v) → In c (chosen_by P q o)
some-gets P q o v c e i = subst (λ x. In c (chosen_by P q x)) (sym e) i

chosen-got : (P : Problem) (D : Made) (r : RevisionId) (q : ReqRef) (c : CapRef) (b : Bool) → In c (if b then filter (λ c. is_yes (value_made D (pick r q c))) (candidates P q) else chosen_by P q (value_made D (choose r q))) → (w : Wire) → w ≡ record { requirement = q; capability = c } → Got P D r w
chosen-got P D r q c true i w e =
    let f = filter-in (λ c. is_yes (value_made D (pick r q c))) (candidates P q) c i in
    record { decision = pick r q c; chosen = 0; made = yes-some _ f.1; added = inl (ap (wired r) e) }
chosen-got P D r q c false i w e =
    let g = gets-some P q (value_made D (choose r q)) c i in
    record { decision = choose r q; chosen = g.0; made = g.1; added = subst (λ x. In (wired r x) (adds P (choose r q) g.0)) (sym e) (adds-chosen P r q g.0 c g.2) }

pub wires_for-in : (P : Problem) (D : Made) (r : RevisionId) (q : ReqRef) (w : Wire) → In w (wires_for P D r q) → (w.requirement ≡ q) × Got P D r w
wires_for-in P D r q w i =
    let m = map-in (λ c. let w : Wire = record { requirement = q; capability = c } in w) (chosen_for P D r q) w i in
    (ap (λ (w : Wire). w.requirement) m.2, chosen-got P D r q m.0 (is_multiple P.world.known q) m.1 w m.2)

choice-chosen : (P : Problem) (D : Made) (r : RevisionId) (q : ReqRef) (v : ℕ) (c : CapRef) (b : Bool) → (is_multiple P.world.known q) ≡ b → b ≡ false → value_made D (choose r q) ≡ Some v → In c (item_at (candidates P q) v) →
    In c (if b then filter (λ c. is_yes (value_made D (pick r q c))) (candidates P q) else chosen_by P q (value_made D (choose r q)))
choice-chosen P D r q v c true e f h i = cc
choice-chosen P D r q v c false e f h i = some-gets P q (value_made D (choose r q)) v c h i

pick-chosen : (P : Problem) (D : Made) (r : RevisionId) (q : ReqRef) (c : CapRef) (b : Bool) → (is_multiple P.world.known q) ≡ b → b ≡ true → value_made D (pick r q c) ≡ Some 0 → In c (candidates P q) →
    In c (if b then filter (λ c. is_yes (value_made D (pick r q c))) (candidates P q) else chosen_by P q (value_made D (choose r q)))
pick-chosen P D r q c true e f h i = in-filter (λ c. is_yes (value_made D (pick r q c))) (candidates P q) c i (some-yes _ h)
pick-chosen P D r q c false e f h i = cc

-- where a wire of the word stands
pub record Stands (P : Problem) (D : Made) (r : RevisionId) (w : Wire) : Type 0 where
  pub member : In r (members P D)
  pub asked : Asked P D r w.requirement
  pub listed : In w.capability (chosen_for P D r w.requirement)

stands-choice : (P : Problem) (D : Made) → State P D → (r : RevisionId) (w : Wire) (v : ℕ) → value_made D (choose r w.requirement) ≡ Some v → In w.capability (item_at ((candidates P) w.requirement) v) → Stands P D r w
stands-choice P D s r w v e i =
    let x = sound P D s (choose r w.requirement) v e in
    let d = due-asked P D r w.requirement x.due in
    record { member = x.member; asked = d.0; listed = choice-chosen P D r w.requirement v w.capability (is_multiple P.world.known w.requirement) refl d.1 e i }

stands-pick : (P : Problem) (D : Made) → State P D → (r : RevisionId) (w : Wire) → value_made D (pick r w.requirement w.capability) ≡ Some 0 → Stands P D r w
stands-pick P D s r w e =
    let x = sound P D s (pick r w.requirement w.capability) 0 e in
    let d = due-picked P D r w.requirement w.capability x.due in
    record { member = x.member; asked = d.0; listed = pick-chosen P D r w.requirement w.capability (is_multiple P.world.known w.requirement) refl d.1 e d.2 }

pub got-stands : (P : Problem) (D : Made) → State P D → (r : RevisionId) (w : Wire) → Got P D r w → Stands P D r w
got-stands P D s r w g = elim (adder P g.decision g.chosen r w g.added) [
  | by_choice e c ↦ stands-choice P D s r w g.chosen (subst (λ d. value_made D d ≡ Some g.chosen) (sym e) g.made) c
  | by_pick e z ↦ stands-pick P D s r w (subst (λ v. value_made D (pick r w.requirement w.capability) ≡ Some v) z (subst (λ d. value_made D d ≡ Some g.chosen) (sym e) g.made))
]

pub got-wires_for : (P : Problem) (D : Made) → State P D → (r : RevisionId) (w : Wire) → Got P D r w → In w (wires_for P D r w.requirement)
got-wires_for P D s r w g = in-map (λ c. let v : Wire = record { requirement = w.requirement; capability = c } in v) (chosen_for P D r w.requirement) w.capability (got-stands P D s r w g).listed

pub wire-cases : (P : Problem) (D : Made) (r : RevisionId) (w : Wire) → HasWire (partial P D) r w → HasWire P.world.wirings r w ⊎ In r (members P D) × Got P D r w
wire-cases P D r w h = elim (in-append_cases P.world.wirings (map (wiring P D) (members P D)) h.wiring h.stands) [
  | inl i ↦ inl (record { wiring = h.wiring; stands = i; revision = h.revision; has = h.has })
  | inr i ↦ let m = map-in (wiring P D) (members P D) h.wiring i in
      let same : m.0 ≡ r = sym (ap (λ (g : Wiring). g.revision) m.2) ∙ h.revision in
      let there : In w (flat_map (wires_for P D m.0) (payload P D m.0)) = subst (λ (g : Wiring). In w g.wires) m.2 h.has in
      let f = flat_map-in (wires_for P D m.0) (payload P D m.0) w there in
      inr (subst (λ x. In x (members P D)) same m.1, subst (λ x. Got P D x w) same (wires_for-in P D m.0 f.0 w f.2).1)
]

pub wire-got : (P : Problem) (D : Made) → State P D → (r : RevisionId) (w : Wire) → Got P D r w → HasWire (partial P D) r w
wire-got P D s r w g =
    let x = got-stands P D s r w g in
    record {
      wiring = wiring P D r;
      stands = in-append_right P.world.wirings (map (wiring P D) (members P D)) (wiring P D r) (in-map (wiring P D) (members P D) r x.member);
      revision = refl;
      has = in-flat_map (wires_for P D r) (payload P D r) w.requirement w x.asked.in_payload (got-wires_for P D s r w g);
    }

pub got-candidate : (P : Problem) → IsProblem P → (D : Made) → State P D → (r : RevisionId) (w : Wire) → Got P D r w → IsCandidate P w.requirement w.capability
got-candidate P L D s r w g =
    let x = sound P D s g.decision g.chosen g.made in
    let c = made-candidate P D s g.decision g.chosen r w g.made g.added in
    (L.candidates_are w.requirement w.capability (payload-asked P L D (host g.decision) w.requirement (member-current P L D s (host g.decision) x.member).0 c.in_payload c.effective)).0 c.listed
