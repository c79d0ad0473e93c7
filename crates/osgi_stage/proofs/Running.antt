-- The current revision of a bundle that is up is in force, in every legal history.
use Rattle.std.proofs.Common.{◌≡◌, ◌⊎◌, inl, inr, ◌+◌, ◌≤◌, ℕ, Bool, true, false, List, [], ◌∷◌, ◌++◌, length, refl, sym, ap, ◌∙◌, subst, arith}
use Rattle.std.specs.Prelude.{◌==◌, ◌||◌, ◌&&◌, not, cond, is_some, Option, None, Some, filter, find, IsSomeAnd, Contains}
use Rattle.std.specs.Option.{option_map_or}
use Rattle.std.proofs.lemmas.Bool.{and_parts, and_right, cases_Bool, eq-eqb, eqb-true, false_from_ne_true, leb-false, leb-true, ne_eqb, or_left, or_right}
use Rattle.std.proofs.Common.{leb}
use Rattle.osgi_base.specs.declared.ids.BundleId.{BundleId}
use Rattle.osgi_base.specs.declared.ids.RevisionId.{RevisionId}
use Rattle.osgi_base.specs.declared.ids.Tag.{Tag}
use Rattle.osgi_ops.specs.Bundles as bundles
use Rattle.osgi_ops.specs.Bundles.{lists_bundle, Bundle, bundle_from, installed, is_live, is_up, phase, running, state, system}
use Rattle.osgi_ops.specs.Conditions.{state_change, state_of}
use Rattle.osgi_legal.specs.Legal.{AreAllowed, IsAllowed}
use Rattle.osgi_ops.specs.Levels.{Refresh, refresh}
use Rattle.osgi_ops.specs.Moments.{entries_in, first_world, Moment, moment, Told, world_after}
use Rattle.osgi_legal.specs.Operations.{IsReply}
use Rattle.osgi_ops.specs.Replies.{is_accepted}
use Rattle.osgi_ops.specs.Resolved.{current_revision, is_current_of, is_fragment_bundle, is_in_use, is_resolved}
use Rattle.osgi_ops.specs.Resolving.{AnswersResolve, newly_resolved, Resolves}
use Rattle.osgi_ops.specs.Settings.{Setting}
use Rattle.osgi_ops.specs.Worlds.{Brings, dropped, stays_known, Leaves, passed, pended, with_revision}
use Rattle.osgi_ops.specs.laws.Resolved.{in_use-true}
use Rattle.osgi_ops.specs.rows.Bundles.{installs}
use Rattle.osgi_ops.specs.rows.Life.{begin_start_refusals}
use Rattle.osgi_ops.specs.declared.entry.Entry.{Entry}
use Rattle.osgi_ops.specs.declared.op.Op.{Op}
use Rattle.osgi_ops.specs.declared.op.Op.TheVariants as op
use Rattle.osgi_ops.specs.declared.refusal.Refusal.{Refusal}
use Rattle.osgi_ops.specs.declared.refusal.Refusal.TheVariants as no
use Rattle.osgi_ops.specs.declared.reply.Reply.{Reply}
use Rattle.osgi_ops.specs.declared.reply.Reply.TheVariants as answer
use Rattle.osgi_world.specs.Lists.{In}
use Rattle.osgi_world.specs.Lookups.{bundle_of}
use Rattle.osgi_world.specs.System.{known_system}
use Rattle.osgi_world.specs.Wirings.{InForce, InUse}
use Rattle.osgi_world.specs.declared.revision.Revision.{Revision}
use Rattle.osgi_world.specs.declared.wiring.Wiring.{Wiring}
use Rattle.osgi_world.specs.declared.world.Known.{Known}
use Rattle.osgi_world.specs.declared.world.World.{World}
use Rattle.osgi_ops.specs.laws.Along.{holds}
use Rattle.osgi_ops.specs.laws.Items.{contains-In, find-kept, find-mapped, find-push, found-in, In-contains, In-kept}
use Rattle.osgi_legal.proofs.Accepted.{accepted, NoneHolds}
use Rattle.osgi_legal.proofs.Legal.{world-last}
use Rattle.osgi_legal.proofs.Owned.{entries-last}
use Rattle.osgi_legal.proofs.Phases.{start-row, state-by}
use Rattle.osgi_legal.proofs.Tidy.{first-tidy, system-current, IsTidy, known-bundle, member-contains, extends-of}
use Rattle.osgi_legal.proofs.Up.{idle-is, is_idle, is_up_at, up-is, up-refused}
use Rattle.osgi_stage.proofs.Windows.{always-kept, IsKept, kept-step, leaves-refused, refused-is, window-outside}
use Rattle.osgi_stage.proofs.Loads.{load-stays}
use Rattle.osgi_legal.proofs.Busy.{busy-up, up-before}

pub record IsRunning (world : World) (b : BundleId) : Type 0 where
  pub known : Known
  pub is : current_revision world b ≡ Some known
  pub in_force : InForce world.wirings known.id

pub system-running : (n : ℕ) (world : World) → IsTidy n world → IsRunning world system
system-running n world t = record { known = known_system; is = system-current n world t; in_force = t.in_force }

-- a bundle that is resolved and no fragment
whole-running : (n : ℕ) (world : World) (b : BundleId) → IsTidy n world → is_resolved world b ≡ true → is_fragment_bundle world b ≡ false → IsRunning world b
whole-running n world b t resolved whole = go (current_revision world b) refl resolved whole
  where
    go : (o : Option Known) → current_revision world b ≡ o → option_map_or (λ (k : Known). is_in_use world.wirings k.id) o false ≡ true → option_map_or (λ (k : Known). is_some k.revision.host) o false ≡ false →
        IsRunning world b
    go None e r w = absurd (cc r)
    go (Some k) e r w = record { known = k; is = e; in_force = force (in_use-true world.wirings k.id r) }
      where
        force : InUse world.wirings k.id → InForce world.wirings k.id
        force (inl f) = f
        force (inr (h, a)) =
            let l = t.attached a.wiring k.id a.stands a.has in
            let same : l.0 ≡ k = t.once l.0 k l.1 (found-in (is_current_of b) world.known k e).0 l.2 in
            absurd (let bad : true ≡ false = sym l.3 ∙ ap (λ (y : Known). is_some y.revision.host) same ∙ w in cc bad)

-- what a legal start finds
begin-running : (setting : Setting) (front : List Told) (tag : Tag) (b begun : BundleId) (transient : Bool) (row : ℕ) → AreAllowed setting front →
    IsReply (moment setting front tag) (op.BeginStart b transient) (answer.Begun begun row) → (is_up_at (entries_in front) b ≡ true → IsRunning (world_after front) b) → IsRunning (world_after front) b
begin-running setting front tag b begun transient row legal r was = go (b.0 == 0) refl (cases_Bool (is_idle (phase b (entries_in front))))
  where
    m : Moment
    m = moment setting front tag

    none : NoneHolds (begin_start_refusals m b transient)
    none = (accepted m (op.BeginStart b transient) (answer.Begun begun row) r refl).0

    live : is_live b m.before ≡ true
    live = (start-row m b begun transient row r).0

    t : IsTidy (bundles.revisions m.before) m.world
    t = (always-kept setting front legal).tidy

    resting : (c : Bool) → is_resolved m.world b ≡ c → state_of m b ≡ bundles.resting (is_resolved m.world b) → is_resolved m.world b ≡ true
    resting true e s = e
    resting false e s = absurd (none.1.0 no.InvalidOperation (refl, inr (s ∙ ap bundles.resting e)))

    go : (k : Bool) → (b.0 == 0) ≡ k → (is_idle (phase b m.before) ≡ true) ⊎ (is_idle (phase b m.before) ≡ false) → IsRunning m.world b
    go true e i = was (or_left _ _ e)
    go false e (inr busy) = was (busy-up b m.before live busy)
    go false e (inl rests) =
        let s : state_of m b ≡ bundles.resting (is_resolved m.world b) = state-by m b false true e live ∙ ap (λ p. running p (is_resolved m.world b)) (idle-is (phase b m.before) rests) in
        whole-running (bundles.revisions m.before) m.world b t (resting (is_resolved m.world b) refl s) (false_from_ne_true _ (λ f. none.1.0 no.InvalidOperation (refl, inl f)))

-- ---- and stays so

other-current : (u b : BundleId) (x : Known) → (u.0 == b.0) ≡ false → is_current_of b x ≡ true → is_current_of u x ≡ false
other-current u b x apart c =
    and_right x.current _ (false_from_ne_true _ (λ e. (
    let p : x.bundle.0 ≡ b.0 = eqb-true x.bundle.0 b.0 (and_parts x.current _ c).1 in
    let q : x.bundle.0 ≡ u.0 = eqb-true x.bundle.0 u.0 e in
    let bad : true ≡ false = sym (eq-eqb u.0 b.0 (sym q ∙ p)) ∙ apart in cc bad)))

passed-current : (u b : BundleId) (x : Known) → (u.0 == b.0) ≡ false → is_current_of b (passed u x) ≡ is_current_of b x
passed-current u b x apart = go (is_current_of u x) refl
  where
    go : (k : Bool) → is_current_of u x ≡ k → is_current_of b (cond (is_current_of u x) (record x { current = false }) x) ≡ is_current_of b x
    go true e =
        ap (λ c. is_current_of b (cond c (record x { current = false }) x)) e
        ∙ sym (false_from_ne_true _ (λ c. (let bad : true ≡ false = sym e ∙ other-current u b x apart c in cc bad)))
    go false e = ap (λ c. is_current_of b (cond c (record x { current = false }) x)) e

pub current-pended : (u b : BundleId) (world : World) → (u.0 == b.0) ≡ false → current_revision (pended u world) b ≡ current_revision world b
current-pended u b world apart =
    find-mapped (is_current_of b) (passed u) (filter (stays_known world.wirings u) world.known) (λ x. passed-current u b x apart)
    (λ x c. ap (λ k. cond k (record x { current = false }) x) (other-current u b x apart c))
    ∙ find-kept (is_current_of b) (stays_known world.wirings u) world.known (λ x c. or_left _ _ (ap not (other-current u b x apart c)))

-- the least of those that pass, or none
lowest : (p : BundleId → Bool) (l : List BundleId) → ((c : BundleId) × In c l × (p c ≡ true) × ((o : BundleId) → In o l → p o ≡ true → c.0 ≤ o.0)) ⊎ ((o : BundleId) → In o l → p o ≡ true → ⊥)
lowest p [] = inr (λ o i e. elim i [ ])
lowest p (x ∷ xs) = go (p x) refl (lowest p xs)
  where
    Least : List BundleId → Type 0
    Least l = ((c : BundleId) × In c l × (p c ≡ true) × ((o : BundleId) → In o l → p o ≡ true → c.0 ≤ o.0)) ⊎ ((o : BundleId) → In o l → p o ≡ true → ⊥)

    first : (o : BundleId) → o ≡ x → x.0 ≤ o.0
    first o e = let q : o.0 ≡ x.0 = ap (λ (y : BundleId). y.0) e in omega (arith, q)

    pick : p x ≡ true → (c : BundleId) → In c xs → p c ≡ true → ((o : BundleId) → In o xs → p o ≡ true → c.0 ≤ o.0) → (k : Bool) → leb x.0 c.0 ≡ k → Least (x ∷ xs)
    pick f c i e least true q = inl (x, inl refl, f, λ o j g. elim j [ inl s ↦ first o s | inr z ↦ (let a = least o z g in let b = leb-true x.0 c.0 q in omega (arith, a, b)) ])
    pick f c i e least false q = inl (c, inr i, e, λ o j g. elim j [ inl s ↦ (let a = leb-false x.0 c.0 q in let b : o.0 ≡ x.0 = ap (λ (y : BundleId). y.0) s in omega (arith, a, b)) | inr z ↦ least o z g ])

    go : (k : Bool) → p x ≡ k → Least xs → Least (x ∷ xs)
    go true f (inl r) = pick f r.0 r.1 r.2 r.3 (leb x.0 r.0.0) refl
    go true f (inr n) = inl (x, inl refl, f, λ o j g. elim j [ inl s ↦ first o s | inr z ↦ absurd (n o z g) ])
    go false f (inl r) = inl (r.0, inr r.1, r.2, λ o j g. elim j [ inl s ↦ absurd (let bad : true ≡ false = sym g ∙ ap p s ∙ f in cc bad) | inr z ↦ r.3 o z g ])
    go false f (inr n) = inr (λ o j g. elim j [ inl s ↦ (let bad : true ≡ false = sym g ∙ ap p s ∙ f in cc bad) | inr z ↦ n o z g ])

-- where wirings are dropped, no member is up
pub members-down : (setting : Setting) (front : List Told) (tag : Tag) (y : Reply) (r : Refresh) → AreAllowed setting front → IsReply (moment setting front tag) op.DropWirings y → is_accepted y ≡ true →
    refresh (entries_in front) ≡ Some r → r.tag.caller ≡ tag.caller → r.dropped ≡ false → (b : BundleId) → Contains r.members b → is_up_at (entries_in front) b ≡ true → ⊥
members-down setting front tag y r legal reply acc there own undropped b member up = go (lowest (λ c. is_up (state_of m c)) r.members)
  where
    m : Moment
    m = moment setting front tag

    k : IsKept m.before m.world
    k = always-kept setting front legal

    go : ((c : BundleId) × In c r.members × (is_up (state_of m c) ≡ true) × ((o : BundleId) → In o r.members → is_up (state_of m o) ≡ true → c.0 ≤ o.0))
        ⊎ ((o : BundleId) → In o r.members → is_up (state_of m o) ≡ true → ⊥) → ⊥
    go (inl c) =
        let apart : (c.0.0 == 0) ≡ false = ne_eqb c.0.0 0 (λ e. absurd (window-outside (bundles.revisions m.before) m.world r k.tidy (k.window r there undropped)
        (subst (Contains r.members) (λ i. record { 0 = e i }) (In-contains r.members c.0 c.1)))) in
        let f = up-refused setting front legal tag c.0 apart c.2 in
        (accepted m op.DropWirings y reply acc).0.1.0 f.0 (r, (there, own, undropped), (c.0, In-contains r.members c.0 c.1, f.1, λ o i u. c.3 o (contains-In r.members o i) u))
    go (inr n) = n b (contains-In r.members b member) (up-is m.world m.before b ∙ up)

-- a bundle that runs before an entry and is up before and after it runs after it
running-stays : (setting : Setting) (front : List Told) (tag : Tag) (o : Op) (y : Reply) (after : World) → AreAllowed setting front → IsReply (moment setting front tag) o y → Leaves (moment setting front tag) o y after →
    (b : BundleId) → (b.0 == 0) ≡ false → is_up_at (entries_in front) b ≡ true → IsRunning (world_after front) b → IsRunning after b
running-stays setting front tag o y after legal reply left b apart up run = go (is_accepted y) refl
  where
    m : Moment
    m = moment setting front tag

    k : IsKept m.before m.world
    k = always-kept setting front legal

    same : after ≡ m.world → IsRunning after b
    same e = subst (λ w. IsRunning w b) (sym e) run

    apart-of : (u : BundleId) → ((f : Refusal) → state_change is_up m u f → ⊥) → (u.0 == b.0) ≡ false
    apart-of u none = false_from_ne_true _ (λ e. (
        let q : u ≡ b = (let z : u.0 ≡ b.0 = eqb-true u.0 b.0 e in λ i. record { 0 = z i }) in
        let f = up-refused setting front legal tag b apart (up-is m.world m.before b ∙ up) in
        none f.0 (subst (λ x. state_change is_up m x f.0) (sym q) f.1)))

    waiting : (u : BundleId) → (u.0 == b.0) ≡ false → IsRunning (pended u m.world) b
    waiting u e = record { known = run.known; is = current-pended u b m.world e ∙ run.is; in_force = run.in_force }

    grows : (w : World) (id : RevisionId) (u : BundleId) (v : Revision) → IsRunning w b → IsRunning (with_revision w id u v) b
    grows w id u v r = record { known = r.known; is = find-push (is_current_of b) w.known _ r.known r.is; in_force = r.in_force }

    installing : (location : List ℕ) → y ≡ installs (bundle_from m.setting.depot m.before location) (length (installed m.before)) → Leaves m (op.Install location) y after → IsRunning after b
    installing location e l = by (bundle_from m.setting.depot m.before location) e
      where
        by : (f : Option Bundle) → y ≡ installs f (length (installed m.before)) → IsRunning after b
        by (Some known) q = same (subst (λ z. Leaves m (op.Install location) z after) q l)
        by None q =
            let br : Brings m (record { 0 = length (installed m.before) + 1 }) location m.world after = subst (λ z. Leaves m (op.Install location) z after) q l in
            subst (λ w. IsRunning w b) (sym br.is) (grows m.world _ _ br.revision run)

    resolving : (r : BundleId) → AnswersResolve (is_resolved m.world r) m r y → Leaves m (op.Resolve r) y after → IsRunning after b
    resolving r a l = by (is_resolved m.world r) refl
      where
        by : (c : Bool) → is_resolved m.world r ≡ c → IsRunning after b
        by true e =
            let is : y ≡ answer.Resolved [] = subst (λ c. AnswersResolve c m r y) e a in
            same (subst (λ c. Resolves c m r [] after) e (subst (λ z. Leaves m (op.Resolve r) z after) is l))
        by false e =
            let p = subst (λ c. AnswersResolve c m r y) e a in
            let to = subst (λ c. Resolves c m r (newly_resolved m p.0) after) e (subst (λ z. Leaves m (op.Resolve r) z after) p.2 l) in
            let x = extends-of m.world after r to.0 in
            record {
              known = run.known;
              is = ap (λ (list : List Known). find (is_current_of b) list) x.1 ∙ run.is;
              in_force = record { wiring = run.in_force.wiring; stands = x.2.kept run.in_force.wiring run.in_force.stands; revision = run.in_force.revision };
            }

    dropping : (r : Refresh) → refresh m.before ≡ Some r → r.tag.caller ≡ tag.caller → r.dropped ≡ false → is_accepted y ≡ true → IsReply m op.DropWirings y → after ≡ dropped r.members m.world → IsRunning after b
    dropping r e own d acc rep w = subst (λ x. IsRunning x b) (sym w) (record {
      known = run.known;
      is = find-kept (is_current_of b) (λ (x : Known). not (lists_bundle r.members x.bundle.0) || x.current) m.world.known (λ x c. or_right _ _ (and_parts x.current _ c).0) ∙ run.is;
      in_force = record {
        wiring = run.in_force.wiring;
        stands = In-kept (λ (g : Wiring). not (lists_bundle r.members (bundle_of m.world.known g.revision))) m.world.wirings run.in_force.wiring run.in_force.stands
            (ap not (ap (λ (z : Option Known). lists_bundle r.members (option_map_or (λ (x : Known). x.bundle.0) z 0)) (known-bundle m.world.known k.tidy.once run.known here.0 run.in_force.wiring.revision (sym run.in_force.revision)) ∙ out));
        revision = run.in_force.revision;
      };
    })
      where
        here : In run.known m.world.known × (is_current_of b run.known ≡ true)
        here = found-in (is_current_of b) m.world.known run.known run.is

        of : run.known.bundle ≡ b
        of = let q : run.known.bundle.0 ≡ b.0 = eqb-true run.known.bundle.0 b.0 (and_parts run.known.current _ here.1).1 in λ i. record { 0 = q i }

        out : lists_bundle r.members run.known.bundle.0 ≡ false
        out = false_from_ne_true _ (λ i. members-down setting front tag y r legal rep acc e own d b (member-contains r.members b (ap (λ (x : BundleId). lists_bundle r.members x.0) (sym of) ∙ i)) up)

    accepting : (p : Op) → is_accepted y ≡ true → IsReply m p y → Leaves m p y after → IsRunning after b
    accepting (op.Install location) acc r l = installing location (accepted m (op.Install location) y r acc).1 l
    accepting (op.Resolve bundle) acc r l = resolving bundle (accepted m (op.Resolve bundle) y r acc).1 l
    accepting (op.Update u location) acc r l =
        let p = accepted m (op.Update u location) y r acc in
        let br : Brings m u location (pended u m.world) after = subst (λ z. Leaves m (op.Update u location) z after) p.1 l in
        subst (λ w. IsRunning w b) (sym br.is) (grows (pended u m.world) _ _ br.revision (waiting u (apart-of u p.0.1.1.1.0)))
    accepting (op.Uninstall u) acc r l =
        let p = accepted m (op.Uninstall u) y r acc in
        let w : after ≡ pended u m.world = subst (λ z. Leaves m (op.Uninstall u) z after) p.1 l in
        subst (λ x. IsRunning x b) (sym w) (waiting u (apart-of u p.0.1.1.1.0))
    accepting op.DropWirings acc r l =
        let p = (accepted m op.DropWirings y r acc).1 in
        let some : IsSomeAnd (refresh m.before) (λ r. after ≡ dropped r.members m.world) = subst (λ z. Leaves m op.DropWirings z after) p.says l in
        dropping p.refresh p.own.0 p.own.1 p.own.2 acc r (subst (λ o. IsSomeAnd o (λ r. after ≡ dropped r.members m.world)) p.own.0 some)
    accepting (op.Load bundle class) acc r l = same (load-stays m bundle class y after r l)
    accepting p acc r l = same l

    go : (c : Bool) → is_accepted y ≡ c → IsRunning after b
    go true e = accepting o e reply left
    go false e = let f = refused-is y e in same (leaves-refused m o f.0 after (subst (λ z. Leaves m o z after) f.1 left))

abbrev AllRun : List Entry → World → Type 0
AllRun h world = (b : BundleId) → is_up_at h b ≡ true → IsRunning world b

run-step : (setting : Setting) (front : List Told) (x : Told) → AreAllowed setting front → IsAllowed setting front x → AllRun (entries_in front) (world_after front) → AllRun (entries_in front ++ x.entry ∷ []) x.world
run-step setting front x legal a all b up = go (b.0 == 0) refl
  where
    m : Moment
    m = moment setting front x.entry.tag

    by : (b.0 == 0) ≡ false →
        (is_up_at (entries_in front) b ≡ true) ⊎ ((transient : Bool) × (row : ℕ) × (begun : BundleId) × (x.entry.op ≡ op.BeginStart b transient) × (x.entry.reply ≡ answer.Begun begun row)) → IsRunning x.world b
    by e (inl was) = running-stays setting front x.entry.tag x.entry.op x.entry.reply x.world legal a.replied a.left b e was (all b was)
    by e (inr s) =
        let reply : IsReply m (op.BeginStart b s.0) (answer.Begun s.2 s.1) = subst (λ y. IsReply m (op.BeginStart b s.0) y) s.4 (subst (λ o. IsReply m o x.entry.reply) s.3 a.replied) in
        let same : x.world ≡ m.world = subst (λ o. Leaves m o x.entry.reply x.world) s.3 a.left in
        subst (λ w. IsRunning w b) (sym same) (begin-running setting front x.entry.tag b s.2 s.0 s.1 legal reply (all b))

    go : (k : Bool) → (b.0 == 0) ≡ k → IsRunning x.world b
    go true e =
        let q : b ≡ system = (let z : b.0 ≡ 0 = eqb-true b.0 0 e in λ i. record { 0 = z i }) in
        let k = always-kept setting front legal in
        let next : IsKept (entries_in front ++ x.entry ∷ []) x.world = kept-step m x.entry.op x.entry.reply x.world a.replied a.left k in
        subst (IsRunning x.world) (sym q) (system-running (bundles.revisions (entries_in front ++ x.entry ∷ [])) x.world next.tidy)
    go false e = by e (up-before setting front x legal a b up)

-- of every legal history
pub all-run : (setting : Setting) (told : List Told) → AreAllowed setting told → (b : BundleId) → is_up (state (world_after told) (entries_in told) b) ≡ true → IsRunning (world_after told) b
all-run setting told legal b up =
    holds (IsAllowed setting) (λ l. AllRun (entries_in l) (world_after l)) first
    (λ front x before all a.
    subst (λ h. AllRun h (world_after (front ++ x ∷ []))) (sym (entries-last front x))
    (subst (AllRun (entries_in front ++ x.entry ∷ [])) (sym (world-last front x)) (run-step setting front x before a all)))
    told legal b (sym (up-is (world_after told) (entries_in told) b) ∙ up)
  where
    first : AllRun [] first_world
    first c u = go (c.0 == 0) refl u
      where
        go : (k : Bool) → (c.0 == 0) ≡ k → (k || (is_live c [] && not (is_idle (phase c [])))) ≡ true → IsRunning first_world c
        go true e v = subst (IsRunning first_world) (sym (let z : c.0 ≡ 0 = eqb-true c.0 0 e in λ i. record { 0 = z i })) (system-running 0 first_world first-tidy)
        go false e v = absurd (let l : is_live c [] ≡ true = (and_parts (is_live c []) _ v).0 in let bad : true ≡ false = sym l ∙ ap (λ k. k || false) e in cc bad)
