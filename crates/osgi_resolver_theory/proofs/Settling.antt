-- What settles by a decision: what joins, and what reaches the host.
use Rattle.std.proofs.Common.{◌≡◌, ◌≢◌, ℕ, ◌⊎◌, inl, inr, IsTrue, List, ◌∷◌, map, refl, sym, subst}
use Rattle.osgi_base.specs.declared.ids.RevisionId.{RevisionId}
use Rattle.osgi_world.specs.Decisions.{Decision, Made, host}
use Rattle.osgi_world.specs.DueDecisions.{members}
use Rattle.osgi_world.specs.Hopeless.{IsDecided, IsSettled, ReachedFrom, first, more}
use Rattle.osgi_world.specs.Lists.{In}
use Rattle.osgi_world.specs.Lookups.{capability_namespace, is_reexport}
use Rattle.osgi_world.specs.Partial.{partial}
use Rattle.osgi_world.specs.Satisfaction.{is_bundle}
use Rattle.osgi_world.specs.Wirings.{BundleWire, HasWire, InForce, IsBundleWire, Reexports}
use Rattle.osgi_world.specs.declared.problem.Problem.{Problem}
use Rattle.osgi_world.specs.declared.wiring.Wire.{Wire}
use Rattle.osgi_world.specs.declared.wiring.Wiring.{Wiring}
use Rattle.osgi_world.specs.declared.world.Known.{Known}
use Rattle.osgi_resolver_theory.proofs.Agree.{Part}
use Rattle.osgi_resolver_theory.proofs.Closure.{Decided, Reach, both-dec, closure, either-dec, goes, item-dec, map-dec, starts, true-dec}
use Rattle.osgi_resolver_theory.proofs.Complete.{old-settled, reached-in_force}
use Rattle.osgi_resolver_theory.proofs.Decide.{closed-dec, providers, some_wire-dec}
use Rattle.osgi_resolver_theory.proofs.Lists.{in-flat_map, in-map}
use Rattle.osgi_resolver_theory.proofs.Settled.{reached-back}
use Rattle.osgi_resolver_theory.proofs.States.{due-host, due-in, due-kept, is_due-in}
use Rattle.osgi_resolver_theory.proofs.Twos.{in-dec}
use Rattle.osgi_resolver_theory.proofs.Values.{rev-dec}
use Rattle.osgi_resolver_theory.proofs.Views.{in_force-cases, in_force-member}
use Rattle.osgi_resolver_theory.specs.Reasons.{IsQuiet, Joined, Reaches, SettlesNow, SettlesWithHost}
use Rattle.osgi_resolver_theory.proofs.Before.{OneMore, growth, opened, part-before, value-before}

-- ---- whether a revision reaches another

provider-in : (W : List Wiring) (r : RevisionId) (w : Wire) (c : RevisionId) → HasWire W r w → w.capability.provider ≡ c → In c (providers W)
provider-in W r w c h e = subst (λ y. In y (providers W)) e (in-flat_map (λ (g : Wiring). map (λ (w : Wire). w.capability.provider) g.wires) W h.wiring w.capability.provider h.stands (in-map (λ (w : Wire). w.capability.provider) h.wiring.wires w h.has))

bundle-dec : (K : List Known) (W : List Wiring) (r c : RevisionId) → Decided (BundleWire K W r c)
bundle-dec K W r c = map-dec (λ a. record { wire = a.0; has = a.1; bundle = a.2.0; provider = a.2.1 }) (λ b. (b.wire, b.has, (b.bundle, b.provider)))
    (some_wire-dec W r (λ w. IsBundleWire K w × (w.capability.provider ≡ c)) (λ w. both-dec (true-dec (is_bundle (capability_namespace K w.capability.owner w.capability.index))) (rev-dec w.capability.provider c)))

reexport-dec : (K : List Known) (W : List Wiring) (r c : RevisionId) → Decided (Reexports K W r c)
reexport-dec K W r c = map-dec (λ a. record { wire = a.0; has = a.1; bundle = a.2.0.0; provider = a.2.0.1; reexport = a.2.1 }) (λ b. (b.wire, b.has, ((b.bundle, b.provider), b.reexport)))
    (some_wire-dec W r (λ w. (IsBundleWire K w × (w.capability.provider ≡ c)) × IsTrue (is_reexport K w.requirement))
    (λ w. both-dec (both-dec (true-dec (is_bundle (capability_namespace K w.capability.owner w.capability.index))) (rev-dec w.capability.provider c)) (true-dec (is_reexport K w.requirement))))

reach-reached : {K : List Known} {W : List Wiring} {r c : RevisionId} → Reach (BundleWire K W r) (Reexports K W) c → ReachedFrom K W r c
reach-reached (starts b) = first b
reach-reached (goes l w) = more (reach-reached l) w

reached-reach : {K : List Known} {W : List Wiring} {r c : RevisionId} → ReachedFrom K W r c → Reach (BundleWire K W r) (Reexports K W) c
reached-reach (first b) = starts b
reached-reach (more l w) = goes (reached-reach l) w

pub reaches-dec : (K : List Known) (W : List Wiring) (r h : RevisionId) → Decided (Reaches K W r h)
reaches-dec K W r h =
    let all = closure (BundleWire K W r) (Reexports K W) (providers W) (record {
      same = rev-dec;
      start = bundle-dec K W r;
      go = reexport-dec K W;
      begins = λ c w. provider-in W r w.wire c w.has w.provider;
      leads = λ c d w. provider-in W c w.wire d w.has w.provider;
    }) in
    either-dec (rev-dec r h) (map-dec (λ i. reach-reached ((all.is h).0 i)) (λ l. (all.is h).1 (reached-reach l)) (item-dec rev-dec h all.all))

-- ---- what was decided and settled before

module _ (P : Problem) (D : Made) (d : Decision) (v : ℕ) (x : OneMore P D d v) where
  decided-before : (c : RevisionId) → c ≢ host d → InForce (partial P D) c → IsDecided P ((d, v) ∷ D) c → IsDecided P D c
  decided-before c other i (inl o) = inl o
  decided-before c other i (inr k) = elim (in_force-cases P D c i) [
    | inl o ↦ inl o
    | inr m ↦ inr (
      m,
      λ e j t.
          let y = k.1 e (is_due-in P ((d, v) ∷ D) c e (due-kept P D d v (opened P D d v x) c e (due-in P D c e j))) t in
          (y.0, value-before P D d v x c other e y.0 (due-host P D c e (due-in P D c e j)) y.1),
    )
  ]

  decided-here : (c : RevisionId) → InForce (partial P D) c → IsDecided P ((d, v) ∷ D) c → (c ≡ host d → IsDecided P D c) → IsDecided P D c
  decided-here c i k at_host = elim (rev-dec c (host d)) [ inl e ↦ at_host e | inr other ↦ decided-before c other i k ]

  reached-up : {r c : RevisionId} → ReachedFrom P.world.known (partial P D) r c → ReachedFrom P.world.known (partial P ((d, v) ∷ D)) r c
  reached-up {r = r} l = reached-back ((growth P D d v x).up r) (λ c m. (growth P D d v x).up c) l

  host-decided : (r c : RevisionId) → IsDecided P D (host d) ⊎ ¬ Reaches P.world.known (partial P ((d, v) ∷ D)) r (host d) → Reaches P.world.known (partial P ((d, v) ∷ D)) r c → c ≡ host d → IsDecided P D c
  host-decided r c (inl k) l e = subst (IsDecided P D) (sym e) k
  host-decided r c (inr fails) l e = absurd (fails (subst (Reaches P.world.known (partial P ((d, v) ∷ D)) r) e l))

  -- what is settled now, and was in force, was settled before, if the host was decided or is not reached from it
  settled-before : (r : RevisionId) → IsSettled P ((d, v) ∷ D) r → InForce (partial P D) r → IsDecided P D (host d) ⊎ ¬ Reaches P.world.known (partial P ((d, v) ∷ D)) r (host d) → IsSettled P D r
  settled-before r s i h = record {
    own = decided-here r i s.own (host-decided r r h (inl refl));
    reached = λ c l. decided-here c (reached-in_force P x.problem D i l) (s.reached c (reached-up l)) (host-decided r c h (inr (reached-up l)));
  }

  host-now : (r : RevisionId) → IsSettled P ((d, v) ∷ D) r → Reaches P.world.known (partial P ((d, v) ∷ D)) r (host d) → IsDecided P ((d, v) ∷ D) (host d)
  host-now r s (inl e) = subst (IsDecided P ((d, v) ∷ D)) e s.own
  host-now r s (inr l) = s.reached (host d) l

  settles-member : (r : RevisionId) → SettlesNow P D d v r → In r (members P D) → SettlesWithHost P D d v r
  settles-member r s i = elim (closed-dec P D (host d)) [
    | inl k ↦ absurd (s.1 (settled-before r s.0 (in_force-member P D r i) (inl k)))
    | inr open' ↦ elim (reaches-dec P.world.known (partial P ((d, v) ∷ D)) r (host d)) [
      | inl l ↦ (open', host-now r s.0 l, l)
      | inr fails ↦ absurd (s.1 (settled-before r s.0 (in_force-member P D r i) (inr fails)))
    ]
  ]

  settles-own : (r : RevisionId) → SettlesNow P D d v r → IsDecided P ((d, v) ∷ D) r → Joined P D d v r ⊎ SettlesWithHost P D d v r
  settles-own r s (inl o) = absurd (s.1 (old-settled P x.problem D r o))
  settles-own r s (inr k) = elim (in-dec r (members P D)) [ inl i ↦ inr (settles-member r s i) | inr new ↦ inl (k.0, new) ]

  -- what settles has joined, or is the host or reaches it
  pub settles-cases : (r : RevisionId) → SettlesNow P D d v r → Joined P D d v r ⊎ SettlesWithHost P D d v r
  settles-cases r s = settles-own r s s.0.own

  -- ---- where the host is not decided yet, or was decided before

  quiet-host : IsQuiet P D d v → (r : RevisionId) → SettlesWithHost P D d v r → Joined P D d v r
  quiet-host (inl fails) r h = absurd (fails h.1)
  quiet-host (inr k) r h = absurd (h.0 k)

  pub quiet-joined : IsQuiet P D d v → (r : RevisionId) → SettlesNow P D d v r → Joined P D d v r
  quiet-joined q r s = elim (settles-cases r s) [ inl j ↦ j | inr h ↦ quiet-host q r h ]

  quiet-part_host : IsQuiet P D d v → IsDecided P ((d, v) ∷ D) (host d) → Part P.world.known (partial P ((d, v) ∷ D)) (partial P D) (host d)
  quiet-part_host (inl fails) k = absurd (fails k)
  quiet-part_host (inr old) k = (growth P D d v x).kept (host d) old

  -- what is decided holds what it held
  pub quiet-part : IsQuiet P D d v → (r : RevisionId) → IsDecided P ((d, v) ∷ D) r → Part P.world.known (partial P ((d, v) ∷ D)) (partial P D) r
  quiet-part q r k = elim (rev-dec r (host d)) [
    | inl e ↦ subst (Part P.world.known (partial P ((d, v) ∷ D)) (partial P D)) (sym e) (quiet-part_host q (subst (IsDecided P ((d, v) ∷ D)) e k))
    | inr other ↦ part-before P D d v x r other
  ]
