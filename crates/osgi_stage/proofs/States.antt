-- The state of a bundle read off the entries is the state read off the world, in every legal history.
use Rattle.std.proofs.Common.{◌≡◌, ◌⊎◌, inl, inr, ◌+◌, ◌≤◌, ℕ, Bool, true, false, List, [], ◌∷◌, ◌++◌, length, length-append, append-nil, refl, sym, ap, ◌∙◌, subst, arith}
use Rattle.std.specs.Prelude.{◌==◌, ◌||◌, ◌&&◌, not, cond, Option, None, Some, filter, find, map, unwrap_or, IsSomeAnd, Contains}
use Rattle.std.specs.List.{filter_map, list_any}
use Rattle.std.specs.Option.{option_map, option_map_or}
use Rattle.std.proofs.lemmas.Bool.{and_from, and_parts, eq-eqb, eqb-true, false_from_ne_true, ne_eqb, not-true, or_cases, or_left, or_right, true_from_ne_false}
use Rattle.std.proofs.lemmas.List.{length-map}
use Rattle.std.proofs.lemmas.List.Elements.{All-contains, Contains-append_left, Contains-append_right}
use Rattle.std.proofs.lemmas.List.Folds.{list_any-append}
use Rattle.osgi_base.specs.declared.ids.BundleId.{BundleId}
use Rattle.osgi_base.specs.declared.ids.RevisionId.{RevisionId}
use Rattle.osgi_legal.specs.Quiet.{QuietBundles, SameBundles}
use Rattle.osgi_legal.specs.States.{resolved_at, resolves_by, state_at}
use Rattle.osgi_ops.specs.Bundles.{lists_bundle, Bundle, bundle_from, bundles, Installed, installed, installed_by, is_live, is_uninstall, live, phase, revisions, row_from, running, source, state, system, the_system_bundle, Active, Uninstalled, updated_to}
use Rattle.osgi_ops.specs.Closures.{attached, DependsOn, hosting, IsClosed}
use Rattle.osgi_ops.specs.Depots.{stored_revision, row_number}
use Rattle.osgi_legal.specs.Legal.{AreAllowed, entry_of, IsAllowed}
use Rattle.osgi_ops.specs.Levels.{Refresh, refresh}
use Rattle.osgi_ops.specs.Moments.{entries_in, first_world, Moment, moment, Told, world_after}
use Rattle.osgi_legal.specs.Operations.{IsReply}
use Rattle.osgi_ops.specs.Replies.{is_accepted}
use Rattle.osgi_ops.specs.Resolved.{current_revision, is_current_of, is_in_use, is_resolved}
use Rattle.osgi_ops.specs.Resolving.{AnswersResolve, newly_resolved, Resolves}
use Rattle.osgi_ops.specs.Settings.{Setting}
use Rattle.osgi_ops.specs.Worlds.{Brings, dropped, stays_known, Leaves, passed, pended, with_revision}
use Rattle.osgi_ops.specs.laws.Resolved.{in_use-from, in_use-true}
use Rattle.osgi_ops.specs.rows.Bundles.{installs}
use Rattle.osgi_ops.specs.declared.depot.DepotRow.{DepotRow}
use Rattle.osgi_ops.specs.declared.entry.Entry.{Entry}
use Rattle.osgi_ops.specs.declared.op.Op.{Op}
use Rattle.osgi_ops.specs.declared.op.Op.TheVariants as op
use Rattle.osgi_ops.specs.declared.refusal.Refusal.{Refusal}
use Rattle.osgi_ops.specs.declared.refusal.Refusal.TheVariants as no
use Rattle.osgi_ops.specs.declared.reply.Reply.{Reply}
use Rattle.osgi_ops.specs.declared.reply.Reply.TheVariants as answer
use Rattle.osgi_world.specs.Lists.{In}
use Rattle.osgi_world.specs.Lookups.{bundle_of}
use Rattle.osgi_world.specs.Wirings.{InUse}
use Rattle.osgi_world.specs.declared.revision.Revision.{Revision}
use Rattle.osgi_world.specs.declared.wiring.Wiring.{Wiring}
use Rattle.osgi_world.specs.declared.world.Known.{Known}
use Rattle.osgi_world.specs.declared.world.World.{World}
use Rattle.osgi_ops.specs.laws.Along.{holds, latest-quiet, latest-set}
use Rattle.osgi_ops.specs.laws.Items.{contains-In, find-kept, found-in, In-contains, In-filter, In-kept, In-map, In-mapped, In-push}
use Rattle.osgi_ops.specs.laws.Members.{Contains-cases, Contains-filter, Contains-filter_map, Contains-first, Contains-kept, Contains-map, Contains-mapped, Contains-more}
use Rattle.osgi_legal.proofs.Accepted.{accepted}
use Rattle.osgi_ops.specs.laws.Bundles.{any-map, has_id, installed-push, later, left_by, live-any, live-push, row-live, source-by}
use Rattle.osgi_legal.proofs.Legal.{world-last}
use Rattle.osgi_legal.proofs.Names.{row-made, update-is}
use Rattle.osgi_legal.proofs.Owned.{entries-last}
use Rattle.osgi_legal.proofs.Phases.{same-id}
use Rattle.osgi_legal.proofs.Quiet.{bundles-quiet, bundles-refused, count-same, live-same}
use Rattle.osgi_stage.proofs.Running.{current-pended}
use Rattle.osgi_legal.proofs.Tidy.{any-in, contains-member, extends-of, in-any, IsTidy, known-bundle, member-contains, passed-bundle, pended-tidy}
use Rattle.osgi_stage.proofs.Windows.{always-kept, IsKept, IsWindow, leaves-refused, refused-is, window-closed, window-outside}
use Rattle.osgi_stage.proofs.Loads.{load-stays}

-- ---- rows and live bundles

-- a row stays, where its bundle is not uninstalled and what it is updated to can be read
row-on : (depot : List DepotRow) (h : List Entry) (e : Entry) (c : Bundle) → Contains (bundles depot h) c → is_uninstall c.bundle e.op e.reply ≡ false →
    ((location : List ℕ) → updated_to c.bundle e.op e.reply ≡ Some location → (v : Revision) × (stored_revision depot location ≡ Some v)) →
    (d : Bundle) × Contains (bundles depot (h ++ e ∷ [])) d × (d.bundle ≡ c.bundle)
row-on depot h e c i stays reads = go (Contains-cases the_system_bundle _ c i)
  where
    Goal : Type 0
    Goal = (d : Bundle) × Contains (bundles depot (h ++ e ∷ [])) d × (d.bundle ≡ c.bundle)

    into : (j : Installed) → Contains (live h) j → is_uninstall j.bundle e.op e.reply ≡ false → Contains (live (h ++ e ∷ [])) (later e j)
    into j k s = subst (λ l. Contains l (later e j)) (sym (live-push h e))
        (Contains-append_left (map (later e) (left_by e (live h))) (installed_by (length (installed h)) e.op e.reply []) (later e j)
        (In-contains _ (later e j) (In-mapped (later e) (left_by e (live h)) j (contains-In _ j (Contains-kept (λ (x : Installed). not (is_uninstall x.bundle e.op e.reply)) (live h) j k (ap not s))))))

    made : (j : Installed) → j.bundle ≡ c.bundle → Contains (live (h ++ e ∷ [])) (later e j) → (v : Revision) → stored_revision depot (source (later e j)) ≡ Some v → Goal
    made j same k v r = (
      record { bundle = j.bundle; location = j.location; row = row_number depot (source (later e j)); revision = v },
      Contains-more the_system_bundle _ _ (Contains-mapped (row_from depot) (live (h ++ e ∷ [])) (later e j) _ k
          (ap (λ o. option_map (λ (revision : Revision). record { bundle = j.bundle; location = j.location; row = row_number depot (source (later e j)); revision = revision }) o) r)),
      same,
    )

    by : (j : Installed) → Contains (live h) j → row_from depot j ≡ Some c → (u : Option (List ℕ)) → updated_to j.bundle e.op e.reply ≡ u → Goal
    by j k r u q = which u q
      where
        same : c.bundle ≡ j.bundle
        same = (row-made depot j c r).0

        there : Contains (live (h ++ e ∷ [])) (later e j)
        there = into j k (subst (λ b. is_uninstall b e.op e.reply ≡ false) same stays)

        which : (u : Option (List ℕ)) → updated_to j.bundle e.op e.reply ≡ u → Goal
        which None q = made j (sym same) there c.revision (ap (stored_revision depot) (source-by j e None q) ∙ (row-made depot j c r).1)
        which (Some location) q =
            let v = reads location (ap (λ b. updated_to b e.op e.reply) same ∙ q) in
            made j (sym same) there v.0 (ap (stored_revision depot) (source-by j e (Some location) q) ∙ v.1)

    go : (the_system_bundle ≡ c) ⊎ Contains (filter_map (row_from depot) (live h)) c → Goal
    go (inl s) = (the_system_bundle, Contains-first the_system_bundle _, ap (λ (x : Bundle). x.bundle) s)
    go (inr j) = let l = Contains-filter_map (row_from depot) (live h) c j in by l.0 l.1 l.2 (updated_to l.0.bundle e.op e.reply) refl

-- ---- what is kept

pub record Agrees (depot : List DepotRow) (h : List Entry) (world : World) : Type 0 where
  -- a live bundle is resolved in the world where the entries say so
  pub agree : (b : BundleId) → is_live b h ≡ true → is_resolved world b ≡ resolved_at b h
  -- ids of bundles were given out
  pub given : (b : BundleId) → resolved_at b h ≡ true → b.0 ≤ length (installed h)
  pub ids : (b : BundleId) → is_live b h ≡ true → b.0 ≤ length (installed h)
  pub known : (k : Known) → In k world.known → k.bundle.0 ≤ length (installed h)
  -- a live bundle has its row
  pub rows : (b : BundleId) → is_live b h ≡ true → (c : Bundle) × Contains (bundles depot h) c × (c.bundle ≡ b)

resolved-quiet : (b : BundleId) (h : List Entry) (e : Entry) → resolves_by b e.op e.reply ≡ None → resolved_at b (h ++ e ∷ []) ≡ resolved_at b h
resolved-quiet b h e q = ap (λ o. (b.0 == 0) || unwrap_or o false) (latest-quiet (λ (x : Entry). resolves_by b x.op x.reply) h e q)

resolved-set : (b : BundleId) (h : List Entry) (e : Entry) (v : Bool) → resolves_by b e.op e.reply ≡ Some v → resolved_at b (h ++ e ∷ []) ≡ ((b.0 == 0) || v)
resolved-set b h e v q = ap (λ o. (b.0 == 0) || unwrap_or o false) (latest-set (λ (x : Entry). resolves_by b x.op x.reply) h e v q)

still-agrees : (m : Moment) (o : Op) (y : Reply) (after : World) → after ≡ m.world → QuietBundles o y → ((b : BundleId) → resolves_by b o y ≡ None) → Agrees m.setting.depot m.before m.world →
    Agrees m.setting.depot (m.before ++ entry_of m o y ∷ []) after
still-agrees m o y after same quiet none a = subst (Agrees m.setting.depot (m.before ++ e ∷ [])) (sym same) (record {
  agree = λ b l. a.agree b (sym (s.live b) ∙ l) ∙ sym (resolved-quiet b m.before e (none b));
  given = λ b r. subst (λ n. b.0 ≤ n) (sym s.installed) (a.given b (sym (resolved-quiet b m.before e (none b)) ∙ r));
  ids = λ b l. subst (λ n. b.0 ≤ n) (sym s.installed) (a.ids b (sym (s.live b) ∙ l));
  known = λ k i. subst (λ n. k.bundle.0 ≤ n) (sym s.installed) (a.known k i);
  rows = λ b l. (let r = a.rows b (sym (s.live b) ∙ l) in (r.0, subst (λ list. Contains list r.0) (sym s.rows) r.1, r.2));
})
  where
    e : Entry
    e = entry_of m o y

    s : SameBundles m.setting.depot (m.before ++ e ∷ []) m.before
    s = bundles-quiet m.setting.depot m.before e quiet

-- ---- look-ups in changed worlds

pub find-other : {X : Type 0} (p : X → Bool) (xs : List X) (y : X) → p y ≡ false → find p (xs ++ y ∷ []) ≡ find p xs
find-other p [] y e = ap (λ k. cond k (Some y) None) e
find-other p (x ∷ xs) y e = ap (λ o. cond (p x) (Some x) o) (find-other p xs y e)

pub find-none : {X : Type 0} (p : X → Bool) (xs : List X) → ((x : X) → In x xs → p x ≡ false) → find p xs ≡ None
find-none p [] none = refl
find-none p (x ∷ xs) none = ap (λ k. cond k (Some x) (find p xs)) (none x (inl refl)) ∙ find-none p xs (λ y i. none y (inr i))

pub find-new : {X : Type 0} (p : X → Bool) (xs : List X) (y : X) → find p xs ≡ None → p y ≡ true → find p (xs ++ y ∷ []) ≡ Some y
find-new p [] y n e = ap (λ k. cond k (Some y) None) e
find-new {X} p (x ∷ xs) y n e = go (p x) refl n (find-new p xs y)
  where
    go : (k : Bool) → p x ≡ k → cond k (Some x) (find p xs) ≡ None → (find p xs ≡ None → p y ≡ true → find p (xs ++ y ∷ []) ≡ Some y) → cond (p x) (Some x) (find p (xs ++ y ∷ [])) ≡ Some y
    go true f q ih = absurd (cc q)
    go false f q ih = ap (λ k. cond k (Some x) (find p (xs ++ y ∷ []))) f ∙ ih q e

-- a revision with an id that was not given is in no use
unused : (n : ℕ) (world : World) → IsTidy n world → is_in_use world.wirings (record { 0 = n + 1 }) ≡ false
unused n world t = false_from_ne_true _ (λ e. go (in_use-true world.wirings (record { 0 = n + 1 }) e))
  where
    above : (k : Known) → In k world.known → k.id ≡ record { 0 = n + 1 } → ⊥
    above k i e = let f = t.few k i in let q : k.id.0 ≡ n + 1 = ap (λ (x : RevisionId). x.0) e in absurd (omega (arith, f, q))

    go : InUse world.wirings (record { 0 = n + 1 }) → ⊥
    go (inl f) = let k = t.wired f.wiring f.stands in above k.0 k.1 (k.2 ∙ f.revision)
    go (inr (h, a)) = let k = t.attached a.wiring (record { 0 = n + 1 }) a.stands a.has in above k.0 k.1 k.2

-- a bundle with a new revision alone is not resolved
anew-unresolved : (n : ℕ) (world : World) (b : BundleId) (v : Revision) → IsTidy n world → find (is_current_of b) world.known ≡ None → is_resolved (with_revision world (record { 0 = n + 1 }) b v) b ≡ false
anew-unresolved n world b v t none =
    ap (λ o. option_map_or (λ (k : Known). is_in_use world.wirings k.id) o false) (find-new (is_current_of b) world.known (record { id = record { 0 = n + 1 }; bundle = b; current = true; revision = v }) none (eq-eqb b.0 b.0 refl))
    ∙ unused n world t

other-same : (world : World) (id : RevisionId) (u b : BundleId) (v : Revision) → (u.0 == b.0) ≡ false → is_resolved (with_revision world id u v) b ≡ is_resolved world b
other-same world id u b v apart =
    ap (λ o. option_map_or (λ (k : Known). is_in_use world.wirings k.id) o false) (find-other (is_current_of b) world.known (record { id = id; bundle = u; current = true; revision = v }) apart)

other-pended : (world : World) (u b : BundleId) → (u.0 == b.0) ≡ false → is_resolved (pended u world) b ≡ is_resolved world b
other-pended world u b apart = ap (λ o. option_map_or (λ (k : Known). is_in_use world.wirings k.id) o false) (current-pended u b world apart)

-- no revision of the bundle stays current
pub none-current : (u : BundleId) (world : World) → find (is_current_of u) (pended u world).known ≡ None
none-current u world = find-none (is_current_of u) (pended u world).known (λ x i. (
    let m = In-map (passed u) (filter (stays_known world.wirings u) world.known) x i in
    ap (is_current_of u) m.2 ∙ gone m.0 (is_current_of u m.0) refl))
  where
    gone : (x : Known) (k : Bool) → is_current_of u x ≡ k → is_current_of u (passed u x) ≡ false
    gone x true e = ap (λ c. is_current_of u (cond c (record x { current = false }) x)) e
    gone x false e = ap (λ c. is_current_of u (cond c (record x { current = false }) x)) e ∙ e

-- ---- an Install of a bundle that was not known

pub install-live : (h : List Entry) (e : Entry) (b : BundleId) → is_live b (h ++ e ∷ []) ≡ true → (is_live b h ≡ true) ⊎ ((i : Installed) × In i (installed_by (length (installed h)) e.op e.reply []) × (i.bundle ≡ b))
install-live h e b l = go (b.0 == 0) refl (sym (live-any b (h ++ e ∷ [])) ∙ l)
  where
    new : List Installed
    new = installed_by (length (installed h)) e.op e.reply []

    Goal : Type 0
    Goal = (is_live b h ≡ true) ⊎ ((i : Installed) × In i new × (i.bundle ≡ b))

    from : list_any (has_id b) (map (later e) (left_by e (live h)) ++ new) ≡ true → Goal
    from a = elim (or_cases _ _ (sym (list_any-append (has_id b) (map (later e) (left_by e (live h))) new) ∙ a)) [
      | inl o ↦ (
          let r = any-in (has_id b) (left_by e (live h)) (sym (any-map (has_id b) (later e) (left_by e (live h))) ∙ o) in
          inl (live-any b h ∙ or_right _ _ (in-any (has_id b) (live h) r.0 (In-filter (λ (i : Installed). not (is_uninstall i.bundle e.op e.reply)) (live h) r.0 r.1).0 r.2)))
      | inr n ↦ (let r = any-in (has_id b) new n in inr (r.0, r.1, same-id r.0.bundle b r.2))
    ]

    go : (k : Bool) → (b.0 == 0) ≡ k → (k || list_any (has_id b) (live (h ++ e ∷ []))) ≡ true → Goal
    go true q a = inl (or_left _ _ q)
    go false q a = from (sym (ap (list_any (has_id b)) (live-push h e)) ∙ a)

by-new : (m : Moment) (location : List ℕ) (after : World) → let id : BundleId = record { 0 = length (installed m.before) + 1 } in IsReply m (op.Install location) (answer.Bundle id false) → Brings m id location m.world after →
    IsTidy (revisions m.before) m.world → Agrees m.setting.depot m.before m.world → Agrees m.setting.depot (m.before ++ entry_of m (op.Install location) (answer.Bundle id false) ∷ []) after
by-new m location after r br t a = subst (Agrees depot h) (sym br.is) (record {
  agree = λ b l. elim (install-live m.before e b l) [
    | inl was ↦ other-same m.world rid id b br.revision (apart b (a.ids b was)) ∙ a.agree b was ∙ sym (resolved-quiet b m.before e refl)
    | inr i ↦ (let q : id ≡ b = only i.0 i.1 i.2 in subst (λ x. is_resolved (with_revision m.world rid id br.revision) x ≡ resolved_at x h) q fresh)
  ];
  given = λ b q. (let f = a.given b (sym (resolved-quiet b m.before e refl) ∙ q) in let c = count in omega (arith, f, c));
  ids = λ b l. elim (install-live m.before e b l) [
    | inl was ↦ (let f = a.ids b was in let c = count in omega (arith, f, c))
    | inr i ↦ (let q : id.0 ≡ b.0 = ap (λ (x : BundleId). x.0) (only i.0 i.1 i.2) in let c = count in omega (arith, q, c))
  ];
  known = λ k i. elim (In-push m.world.known new_known k i) [
    | inl j ↦ (let f = a.known k j in let c = count in omega (arith, f, c))
    | inr s ↦ (let q : k.bundle.0 ≡ id.0 = ap (λ (x : Known). x.bundle.0) s in let c = count in omega (arith, q, c))
  ];
  rows = λ b l. elim (install-live m.before e b l) [
    | inl was ↦ (let c = a.rows b was in let d = row-on depot m.before e c.0 c.1 refl (λ loc u. absurd (cc u)) in (d.0, d.1, d.2 ∙ c.2))
    | inr i ↦ (record { bundle = id; location = location; row = row_number depot location; revision = br.revision }, new_row, only i.0 i.1 i.2)
  ];
})
  where
    depot : List DepotRow
    depot = m.setting.depot

    id : BundleId
    id = record { 0 = length (installed m.before) + 1 }

    rid : RevisionId
    rid = record { 0 = revisions m.before + 1 }

    e : Entry
    e = entry_of m (op.Install location) (answer.Bundle id false)

    h : List Entry
    h = m.before ++ e ∷ []

    new_known : Known
    new_known = record { id = rid; bundle = id; current = true; revision = br.revision }

    count : length (installed h) ≡ length (installed m.before) + 1
    count = ap (λ (l : List Installed). length l) (installed-push m.before e) ∙ length-append (map (later e) (installed m.before)) _ ∙ ap (λ n. n + 1) (length-map (installed m.before) (later e))

    apart : (b : BundleId) → b.0 ≤ length (installed m.before) → (id.0 == b.0) ≡ false
    apart b f = ne_eqb id.0 b.0 (λ q. absurd (omega (arith, f, q)))

    only : {b : BundleId} (i : Installed) → In i (installed_by (length (installed m.before)) e.op e.reply []) → i.bundle ≡ b → id ≡ b
    only i (inl s) q = sym (ap (λ (x : Installed). x.bundle) s) ∙ q
    only i (inr j) q = elim j [ ]

    none : find (is_current_of id) m.world.known ≡ None
    none = find-none (is_current_of id) m.world.known (λ x i. false_from_ne_true _ (λ c. (
        let f = a.known x i in
        let q : x.bundle.0 ≡ id.0 = eqb-true x.bundle.0 id.0 (and_parts x.current _ c).1 in absurd (omega (arith, f, q)))))

    fresh : is_resolved (with_revision m.world rid id br.revision) id ≡ resolved_at id h
    fresh =
        anew-unresolved (revisions m.before) m.world id br.revision t none
        ∙ sym (resolved-quiet id m.before e refl ∙ false_from_ne_true _ (λ c. (let f = a.given id c in absurd (omega (arith, f)))))

    new_row : Contains (bundles depot h) (record { bundle = id; location = location; row = row_number depot location; revision = br.revision })
    new_row = Contains-more the_system_bundle _ _ (Contains-mapped (row_from depot) (live h) (record { bundle = id; location = location; since = [] }) _
        (subst (λ l. Contains l (record { bundle = id; location = location; since = [] })) (sym (live-push m.before e))
        (Contains-append_right (map (later e) (left_by e (live m.before))) _ _ (Contains-first _ [])))
        (ap (λ o. option_map (λ (revision : Revision). record { bundle = id; location = location; row = row_number depot location; revision = revision }) o) br.read))

-- ---- a Resolve

grows : (V W : List Wiring) (r : RevisionId) → ((g : Wiring) → In g V → In g W) → is_in_use V r ≡ true → is_in_use W r ≡ true
grows V W r on e = go (in_use-true V r e)
  where
    go : InUse V r → is_in_use W r ≡ true
    go (inl f) = in_use-from W r (inl (record { wiring = f.wiring; stands = on f.wiring f.stands; revision = f.revision }))
    go (inr (h, a)) = in_use-from W r (inr (h, record { wiring = a.wiring; stands = on a.wiring a.stands; revision = a.revision; has = a.has }))

-- what is resolved stays so where the same is known and wirings are added
resolved-grows : (world after : World) (b : BundleId) → after.known ≡ world.known → ((g : Wiring) → In g world.wirings → In g after.wirings) → is_resolved world b ≡ true → is_resolved after b ≡ true
resolved-grows world after b known on e =
    ap (λ K. option_map_or (λ (k : Known). is_in_use after.wirings k.id) (find (is_current_of b) K) false) known ∙ go (find (is_current_of b) world.known) e
  where
    go : (o : Option Known) → option_map_or (λ (k : Known). is_in_use world.wirings k.id) o false ≡ true → option_map_or (λ (k : Known). is_in_use after.wirings k.id) o false ≡ true
    go None q = absurd (cc q)
    go (Some k) q = grows world.wirings after.wirings k.id on q

by-search : (m : Moment) (r : BundleId) (after : World) → ((g : Wiring) → In g m.world.wirings → In g after.wirings) → after.known ≡ m.world.known → Agrees m.setting.depot m.before m.world →
    Agrees m.setting.depot (m.before ++ entry_of m (op.Resolve r) (answer.Resolved (newly_resolved m after)) ∷ []) after
by-search m r after on known a = record {
  agree = λ b l. one b (sym (s.live b) ∙ l) (lists_bundle added b.0) refl;
  given = λ b q. subst (λ n. b.0 ≤ n) (sym s.installed) (told b (lists_bundle added b.0) refl q);
  ids = λ b l. subst (λ n. b.0 ≤ n) (sym s.installed) (a.ids b (sym (s.live b) ∙ l));
  known = λ k i. subst (λ n. k.bundle.0 ≤ n) (sym s.installed) (a.known k (subst (In k) known i));
  rows = λ b l. (let r = a.rows b (sym (s.live b) ∙ l) in (r.0, subst (λ list. Contains list r.0) (sym s.rows) r.1, r.2));
}
  where
    added : List BundleId
    added = newly_resolved m after

    e : Entry
    e = entry_of m (op.Resolve r) (answer.Resolved added)

    rows : List Bundle
    rows = bundles m.setting.depot m.before

    is_new : Bundle → Bool
    is_new c = is_resolved after c.bundle && not (is_resolved m.world c.bundle)

    s : SameBundles m.setting.depot (m.before ++ e ∷ []) m.before
    s = bundles-quiet m.setting.depot m.before e (record { installed = λ n since. refl; gone = λ b. refl; updated = λ b. refl; brings = refl })

    set : (b : BundleId) → lists_bundle added b.0 ≡ true → resolved_at b (m.before ++ e ∷ []) ≡ true
    set b q = resolved-set b m.before e true (ap (λ k. cond k (Some true) None) q) ∙ or_right _ _ refl

    kept : (b : BundleId) → lists_bundle added b.0 ≡ false → resolved_at b (m.before ++ e ∷ []) ≡ resolved_at b m.before
    kept b q = resolved-quiet b m.before e (ap (λ k. cond k (Some true) None) q)

    row : (b : BundleId) → lists_bundle added b.0 ≡ true → (c : Bundle) × Contains rows c × (is_new c ≡ true) × (c.bundle ≡ b)
    row b q =
        let f = Contains-map (λ (c : Bundle). c.bundle) (filter is_new rows) b (member-contains added b q) in
        let g = Contains-filter is_new rows f.0 f.1 in
        (f.0, g.0, g.1, f.2)

    told : (b : BundleId) (k : Bool) → lists_bundle added b.0 ≡ k → resolved_at b (m.before ++ e ∷ []) ≡ true → b.0 ≤ length (installed m.before)
    told b true q z = let c = row b q in a.ids b (ap (λ x. is_live x m.before) (sym c.3) ∙ row-live m.setting.depot m.before c.0 c.1)
    told b false q z = a.given b (sym (kept b q) ∙ z)

    same : (b : BundleId) → is_live b m.before ≡ true → lists_bundle added b.0 ≡ false → (was : Bool) → is_resolved m.world b ≡ was → is_resolved after b ≡ was
    same b l q true w = resolved-grows m.world after b known on w
    same b l q false w = false_from_ne_true _ (λ z.
        let c = a.rows b l in
        let new : is_new c.0 ≡ true = and_from _ _ (ap (λ x. is_resolved after x) c.2 ∙ z) (ap (λ x. not (is_resolved m.world x)) c.2 ∙ ap not w) in
        let i : Contains added b = In-contains added b (subst (λ x. In x added) c.2 (In-mapped (λ (x : Bundle). x.bundle) (filter is_new rows) c.0 (contains-In (filter is_new rows) c.0 (Contains-kept is_new rows c.0 c.1 new)))) in
        let bad : true ≡ false = sym (contains-member added b i) ∙ q in cc bad)

    one : (b : BundleId) → is_live b m.before ≡ true → (k : Bool) → lists_bundle added b.0 ≡ k → is_resolved after b ≡ resolved_at b (m.before ++ e ∷ [])
    one b l true q =
        let c = row b q in
        ap (λ x. is_resolved after x) (sym c.3) ∙ (and_parts (is_resolved after c.0.bundle) _ c.2).0 ∙ sym (set b q)
    one b l false q = same b l q (is_resolved m.world b) refl ∙ a.agree b l ∙ sym (kept b q)

-- ---- an Update

by-renewal : (m : Moment) (u : BundleId) (location : List ℕ) (after : World) → (u ≡ system → ⊥) → is_live u m.before ≡ true → Brings m u location (pended u m.world) after → IsTidy (revisions m.before) (pended u m.world) →
    Agrees m.setting.depot m.before m.world → Agrees m.setting.depot (m.before ++ entry_of m (op.Update u location) answer.Done ∷ []) after
by-renewal m u location after apart there br t a = subst (Agrees m.setting.depot h) (sym br.is) (record {
  agree = λ b l. one b (sym (live b) ∙ l) (u.0 == b.0) refl;
  given = λ b q. subst (λ n. b.0 ≤ n) (sym count) (told b (u.0 == b.0) refl q);
  ids = λ b l. subst (λ n. b.0 ≤ n) (sym count) (a.ids b (sym (live b) ∙ l));
  known = λ k i. subst (λ n. k.bundle.0 ≤ n) (sym count) (elim (In-push (pended u m.world).known new_known k i) [
    | inl j ↦ (
        let p = In-map (passed u) (filter (stays_known m.world.wirings u) m.world.known) k j in
        let f = a.known p.0 (In-filter (stays_known m.world.wirings u) m.world.known p.0 p.1).0 in
        let q : k.bundle.0 ≡ p.0.bundle.0 = ap (λ (x : Known). x.bundle.0) p.2 ∙ ap (λ (x : BundleId). x.0) (passed-bundle u p.0) in omega (arith, f, q))
    | inr s ↦ (let f = a.ids u there in let q : k.bundle.0 ≡ u.0 = ap (λ (x : Known). x.bundle.0) s in omega (arith, f, q))
  ]);
  rows = λ b l. (let c = a.rows b (sym (live b) ∙ l) in
      let d = row-on m.setting.depot m.before e c.0 c.1 refl (λ loc q. (
      let w = update-is c.0.bundle (op.Update u location) answer.Done loc q in
      let same : location ≡ loc = (let z : op.Update u location ≡ op.Update c.0.bundle loc = w.0 in cc z) in
      (br.revision, ap (stored_revision m.setting.depot) (sym same) ∙ br.read))) in
      (d.0, d.1, d.2 ∙ c.2));
})
  where
    e : Entry
    e = entry_of m (op.Update u location) answer.Done

    h : List Entry
    h = m.before ++ e ∷ []

    rid : RevisionId
    rid = record { 0 = revisions m.before + 1 }

    new_known : Known
    new_known = record { id = rid; bundle = u; current = true; revision = br.revision }

    live : (b : BundleId) → is_live b h ≡ is_live b m.before
    live b = live-same m.before e (λ n since. refl) (λ x. refl) b

    count : length (installed h) ≡ length (installed m.before)
    count = count-same m.before e (λ n since. refl)

    gone : (u.0 == 0) ≡ false
    gone = ne_eqb u.0 0 (λ q. absurd (apart (λ i. record { 0 = q i })))

    unset : (b : BundleId) → (u.0 == b.0) ≡ true → resolved_at b h ≡ false
    unset b q =
        let same : u ≡ b = same-id u b q in
        resolved-set b m.before e false (ap (λ k. cond k (Some false) None) q) ∙ ap (λ (x : BundleId). (x.0 == 0) || false) (sym same) ∙ ap (λ k. k || false) gone

    kept : (b : BundleId) → (u.0 == b.0) ≡ false → resolved_at b h ≡ resolved_at b m.before
    kept b q = resolved-quiet b m.before e (ap (λ k. cond k (Some false) None) q)

    told : (b : BundleId) (k : Bool) → (u.0 == b.0) ≡ k → resolved_at b h ≡ true → b.0 ≤ length (installed m.before)
    told b true q z = absurd (let bad : true ≡ false = sym z ∙ unset b q in cc bad)
    told b false q z = a.given b (sym (kept b q) ∙ z)

    one : (b : BundleId) → is_live b m.before ≡ true → (k : Bool) → (u.0 == b.0) ≡ k → is_resolved (with_revision (pended u m.world) rid u br.revision) b ≡ resolved_at b h
    one b l true q =
        subst (λ x. is_resolved (with_revision (pended u m.world) rid u br.revision) x ≡ false) (same-id u b q)
        (anew-unresolved (revisions m.before) (pended u m.world) u br.revision t (none-current u m.world)) ∙ sym (unset b q)
    one b l false q = other-same (pended u m.world) rid u b br.revision q ∙ other-pended m.world u b q ∙ a.agree b l ∙ sym (kept b q)

-- ---- an Uninstall

by-removal : (m : Moment) (u : BundleId) (after : World) → (u ≡ system → ⊥) → after ≡ pended u m.world → Agrees m.setting.depot m.before m.world →
    Agrees m.setting.depot (m.before ++ entry_of m (op.Uninstall u) answer.Done ∷ []) after
by-removal m u after apart is a = subst (Agrees m.setting.depot h) (sym is) (record {
  agree = λ b l. (let w = was b l in other-pended m.world u b w.1 ∙ a.agree b w.0 ∙ sym (resolved-quiet b m.before e refl));
  given = λ b q. subst (λ n. b.0 ≤ n) (sym count) (a.given b (sym (resolved-quiet b m.before e refl) ∙ q));
  ids = λ b l. subst (λ n. b.0 ≤ n) (sym count) (a.ids b (was b l).0);
  known = λ k j. subst (λ n. k.bundle.0 ≤ n) (sym count) (
      let p = In-map (passed u) (filter (stays_known m.world.wirings u) m.world.known) k j in
      let f = a.known p.0 (In-filter (stays_known m.world.wirings u) m.world.known p.0 p.1).0 in
      let q : k.bundle.0 ≡ p.0.bundle.0 = ap (λ (x : Known). x.bundle.0) p.2 ∙ ap (λ (x : BundleId). x.0) (passed-bundle u p.0) in omega (arith, f, q));
  rows = λ b l. (let w = was b l in let c = a.rows b w.0 in
      let d = row-on m.setting.depot m.before e c.0 c.1 (ap (λ (x : BundleId). u.0 == x.0) c.2 ∙ w.1) (λ loc q. absurd (cc q)) in (d.0, d.1, d.2 ∙ c.2));
})
  where
    e : Entry
    e = entry_of m (op.Uninstall u) answer.Done

    h : List Entry
    h = m.before ++ e ∷ []

    count : length (installed h) ≡ length (installed m.before)
    count = count-same m.before e (λ n since. refl)

    was : (b : BundleId) → is_live b h ≡ true → (is_live b m.before ≡ true) × ((u.0 == b.0) ≡ false)
    was b l = go (b.0 == 0) refl (sym (live-any b h) ∙ l)
      where
        from : list_any (has_id b) (live h) ≡ true → (is_live b m.before ≡ true) × ((u.0 == b.0) ≡ false)
        from x =
            let y : list_any (has_id b) (left_by e (live m.before)) ≡ true =
            sym (ap (list_any (has_id b)) (live-push m.before e ∙ append-nil (map (later e) (left_by e (live m.before)))) ∙ any-map (has_id b) (later e) (left_by e (live m.before))) ∙ x in
            let i = any-in (has_id b) (left_by e (live m.before)) y in
            let f = In-filter (λ (j : Installed). not (is_uninstall j.bundle e.op e.reply)) (live m.before) i.0 i.1 in (
              live-any b m.before ∙ or_right _ _ (in-any (has_id b) (live m.before) i.0 f.0 i.2),
              ap (λ (z : BundleId). u.0 == z.0) (sym (same-id i.0.bundle b i.2)) ∙ not-true _ f.1,
            )

        go : (k : Bool) → (b.0 == 0) ≡ k → (k || list_any (has_id b) (live h)) ≡ true → (is_live b m.before ≡ true) × ((u.0 == b.0) ≡ false)
        go true q x = (
          or_left _ _ q,
          (let z : b.0 ≡ 0 = eqb-true b.0 0 q in ap (λ n. u.0 == n) z ∙ ne_eqb u.0 0 (λ w. absurd (apart (λ i. record { 0 = w i })))),
        )
        go false q x = from x

-- ---- a drop

by-fall : (m : Moment) (r : Refresh) (ids : List BundleId) (after : World) → IsTidy (revisions m.before) m.world → IsWindow m.world r → after ≡ dropped r.members m.world →
    ((b : BundleId) → Contains ids b → Contains r.members b × (is_resolved m.world b ≡ true)) → ((b : BundleId) → Contains r.members b → is_resolved m.world b ≡ true → Contains ids b) →
    Agrees m.setting.depot m.before m.world → Agrees m.setting.depot (m.before ++ entry_of m op.DropWirings (answer.Ids ids) ∷ []) after
by-fall m r ids after t w is only every a = subst (Agrees m.setting.depot h) (sym is) (record {
  agree = λ b l. one b (sym (s.live b) ∙ l) (lists_bundle ids b.0) refl;
  given = λ b q. subst (λ n. b.0 ≤ n) (sym s.installed) (told b (lists_bundle ids b.0) refl q);
  ids = λ b l. subst (λ n. b.0 ≤ n) (sym s.installed) (a.ids b (sym (s.live b) ∙ l));
  known = λ k i. subst (λ n. k.bundle.0 ≤ n) (sym s.installed) (a.known k (In-filter (λ (x : Known). not (lists_bundle r.members x.bundle.0) || x.current) m.world.known k i).0);
  rows = λ b l. (let c = a.rows b (sym (s.live b) ∙ l) in (c.0, subst (λ list. Contains list c.0) (sym s.rows) c.1, c.2));
})
  where
    e : Entry
    e = entry_of m op.DropWirings (answer.Ids ids)

    h : List Entry
    h = m.before ++ e ∷ []

    s : SameBundles m.setting.depot h m.before
    s = bundles-quiet m.setting.depot m.before e (record { installed = λ n since. refl; gone = λ b. refl; updated = λ b. refl; brings = refl })

    W : List Wiring
    W = (dropped r.members m.world).wirings

    closed : IsClosed m.world r.members
    closed = window-closed m.world r w

    stays : Wiring → Bool
    stays g = not (lists_bundle r.members (bundle_of m.world.known g.revision))

    of : (k : Known) → In k m.world.known → (x : RevisionId) → k.id ≡ x → bundle_of m.world.known x ≡ k.bundle.0
    of k i x q = ap (λ (o : Option Known). option_map_or (λ (y : Known). y.bundle.0) o 0) (known-bundle m.world.known t.once k i x q)

    -- the current revisions are the same
    current : (b : BundleId) → current_revision (dropped r.members m.world) b ≡ current_revision m.world b
    current b = find-kept (is_current_of b) (λ (x : Known). not (lists_bundle r.members x.bundle.0) || x.current) m.world.known (λ x c. or_right _ _ (and_parts x.current _ c).0)

    fewer : (x : RevisionId) → is_in_use W x ≡ true → is_in_use m.world.wirings x ≡ true
    fewer x u = grows W m.world.wirings x (λ g i. (In-filter stays m.world.wirings g i).0) u

    -- a member's revision is in no use any more
    fallen : (k : Known) → In k m.world.known → lists_bundle r.members k.bundle.0 ≡ true → is_in_use W k.id ≡ false
    fallen k i q = false_from_ne_true _ (λ u. go (in_use-true W k.id u))
      where
        go : InUse W k.id → ⊥
        go (inl f) =
            let p = In-filter stays m.world.wirings f.wiring f.stands in
            let bad : true ≡ false = sym q ∙ ap (lists_bundle r.members) (sym (of k i f.wiring.revision (sym f.revision))) ∙ not-true _ p.1 in cc bad
        go (inr (g, x)) =
            let p = In-filter stays m.world.wirings x.wiring x.stands in
            let host = t.wired x.wiring p.0 in
            let d : DependsOn m.world host.0.bundle k.bundle =
            record { k = host.0; l = k; has = host.1; there = i; of = refl; of_other = refl; leans = hosting (record { wiring = x.wiring; stands = p.0; revision = sym host.2; has = x.has }) } in
            let c = closed k.bundle host.0.bundle d (member-contains r.members k.bundle q) in
            let bad : true ≡ false = sym (contains-member r.members host.0.bundle c) ∙ ap (lists_bundle r.members) (sym (of host.0 host.1 x.wiring.revision host.2)) ∙ not-true _ p.1 in cc bad

    -- and any other's use stays
    stands : (k : Known) → In k m.world.known → lists_bundle r.members k.bundle.0 ≡ false → is_in_use m.world.wirings k.id ≡ true → is_in_use W k.id ≡ true
    stands k i q u = go (in_use-true m.world.wirings k.id u)
      where
        go : InUse m.world.wirings k.id → is_in_use W k.id ≡ true
        go (inl f) = in_use-from W k.id (inl (record {
          wiring = f.wiring;
          stands = In-kept stays m.world.wirings f.wiring f.stands (ap not (ap (lists_bundle r.members) (of k i f.wiring.revision (sym f.revision)) ∙ q));
          revision = f.revision;
        }))
        go (inr (g, x)) =
            let host = t.wired x.wiring x.stands in
            let out : lists_bundle r.members host.0.bundle.0 ≡ false = false_from_ne_true _ (λ z. (
            let d : DependsOn m.world k.bundle host.0.bundle =
            record { k = k; l = host.0; has = i; there = host.1; of = refl; of_other = refl; leans = attached (record { wiring = x.wiring; stands = x.stands; revision = sym host.2; has = x.has }) } in
            let c = closed host.0.bundle k.bundle d (member-contains r.members host.0.bundle z) in
            let bad : true ≡ false = sym (contains-member r.members k.bundle c) ∙ q in cc bad)) in
            in_use-from W k.id (inr (
              g,
              record {
                wiring = x.wiring;
                stands = In-kept stays m.world.wirings x.wiring x.stands (ap not (ap (lists_bundle r.members) (of host.0 host.1 x.wiring.revision host.2) ∙ out));
                revision = x.revision;
                has = x.has;
              },
            ))

    -- the bundle before and after
    after_is : (b : BundleId) (o : Option Known) → current_revision m.world b ≡ o → (member was : Bool) → lists_bundle r.members b.0 ≡ member → option_map_or (λ (k : Known). is_in_use m.world.wirings k.id) o false ≡ was →
        option_map_or (λ (k : Known). is_in_use W k.id) o false ≡ (was && not member)
    after_is b None q member false x y = refl
    after_is b None q member true x y = absurd (cc y)
    after_is b (Some k) q true false x y = false_from_ne_true _ (λ u. (let bad : true ≡ false = sym (fewer k.id u) ∙ y in cc bad))
    after_is b (Some k) q false false x y = false_from_ne_true _ (λ u. (let bad : true ≡ false = sym (fewer k.id u) ∙ y in cc bad))
    after_is b (Some k) q true true x y =
        let i = found-in (is_current_of b) m.world.known k q in
        fallen k i.0 (ap (lists_bundle r.members) (eqb-true k.bundle.0 b.0 (and_parts k.current _ i.1).1) ∙ x)
    after_is b (Some k) q false true x y =
        let i = found-in (is_current_of b) m.world.known k q in
        stands k i.0 (ap (lists_bundle r.members) (eqb-true k.bundle.0 b.0 (and_parts k.current _ i.1).1) ∙ x) y

    now_is : (b : BundleId) (member was : Bool) → lists_bundle r.members b.0 ≡ member → is_resolved m.world b ≡ was → is_resolved (dropped r.members m.world) b ≡ (was && not member)
    now_is b member was x y = ap (λ o. option_map_or (λ (k : Known). is_in_use W k.id) o false) (current b) ∙ after_is b (current_revision m.world b) refl member was x y

    unset : (b : BundleId) → lists_bundle ids b.0 ≡ true → resolved_at b h ≡ false
    unset b q =
        let inside = only b (member-contains ids b q) in
        let apart : (b.0 == 0) ≡ false = ne_eqb b.0 0 (λ z. absurd (window-outside (revisions m.before) m.world r t w (subst (Contains r.members) (λ i. record { 0 = z i }) inside.0))) in
        resolved-set b m.before e false (ap (λ k. cond k (Some false) None) q) ∙ ap (λ k. k || false) apart

    kept : (b : BundleId) → lists_bundle ids b.0 ≡ false → resolved_at b h ≡ resolved_at b m.before
    kept b q = resolved-quiet b m.before e (ap (λ k. cond k (Some false) None) q)

    told : (b : BundleId) (k : Bool) → lists_bundle ids b.0 ≡ k → resolved_at b h ≡ true → b.0 ≤ length (installed m.before)
    told b true q z = absurd (let bad : true ≡ false = sym z ∙ unset b q in cc bad)
    told b false q z = a.given b (sym (kept b q) ∙ z)

    rest : (b : BundleId) → lists_bundle ids b.0 ≡ false → (member was : Bool) → lists_bundle r.members b.0 ≡ member → is_resolved m.world b ≡ was → (was && not member) ≡ was
    rest b q true true x y = absurd (let bad : true ≡ false = sym (contains-member ids b (every b (member-contains r.members b x) y)) ∙ q in cc bad)
    rest b q true false x y = refl
    rest b q false true x y = refl
    rest b q false false x y = refl

    one : (b : BundleId) → is_live b m.before ≡ true → (k : Bool) → lists_bundle ids b.0 ≡ k → is_resolved (dropped r.members m.world) b ≡ resolved_at b h
    one b l true q =
        let inside = only b (member-contains ids b q) in
        now_is b true true (contains-member r.members b inside.0) inside.1 ∙ sym (unset b q)
    one b l false q =
        now_is b (lists_bundle r.members b.0) (is_resolved m.world b) refl refl ∙ rest b q (lists_bundle r.members b.0) (is_resolved m.world b) refl refl ∙ a.agree b l ∙ sym (kept b q)

-- ---- one more entry

agrees-accepted : (m : Moment) (o : Op) (y : Reply) (after : World) → IsReply m o y → is_accepted y ≡ true → Leaves m o y after → IsKept m.before m.world →
    Agrees m.setting.depot m.before m.world → Agrees m.setting.depot (m.before ++ entry_of m o y ∷ []) after
agrees-accepted m (op.Install location) y after r acc l k a = go (bundle_from m.setting.depot m.before location) (accepted m (op.Install location) y r acc).1
  where
    go : (f : Option Bundle) → y ≡ installs f (length (installed m.before)) → Agrees m.setting.depot (m.before ++ entry_of m (op.Install location) y ∷ []) after
    go (Some known) e = subst (λ z. Agrees m.setting.depot (m.before ++ entry_of m (op.Install location) z ∷ []) after) (sym e)
        (still-agrees m (op.Install location) (answer.Bundle known.bundle true) after (subst (λ z. Leaves m (op.Install location) z after) e l)
        (record { installed = λ n since. refl; gone = λ b. refl; updated = λ b. refl; brings = refl }) (λ b. refl) a)
    go None e = subst (λ z. Agrees m.setting.depot (m.before ++ entry_of m (op.Install location) z ∷ []) after) (sym e)
        (by-new m location after (subst (λ z. IsReply m (op.Install location) z) e r) (subst (λ z. Leaves m (op.Install location) z after) e l) k.tidy a)
agrees-accepted m (op.Resolve b) y after r acc l k a = go (is_resolved m.world b) refl (accepted m (op.Resolve b) y r acc).1
  where
    go : (c : Bool) → is_resolved m.world b ≡ c → AnswersResolve (is_resolved m.world b) m b y → Agrees m.setting.depot (m.before ++ entry_of m (op.Resolve b) y ∷ []) after
    go true e p =
        let is : y ≡ answer.Resolved [] = subst (λ c. AnswersResolve c m b y) e p in
        let same : after ≡ m.world = subst (λ c. Resolves c m b [] after) e (subst (λ z. Leaves m (op.Resolve b) z after) is l) in
        subst (λ z. Agrees m.setting.depot (m.before ++ entry_of m (op.Resolve b) z ∷ []) after) (sym is)
        (still-agrees m (op.Resolve b) (answer.Resolved []) after same (record { installed = λ n since. refl; gone = λ b. refl; updated = λ b. refl; brings = refl }) (λ b. refl) a)
    go false e p =
        let q = subst (λ c. AnswersResolve c m b y) e p in
        let to = subst (λ c. Resolves c m b (newly_resolved m q.0) after) e (subst (λ z. Leaves m (op.Resolve b) z after) q.2 l) in
        let x = extends-of m.world after b to.0 in
        subst (λ z. Agrees m.setting.depot (m.before ++ entry_of m (op.Resolve b) z ∷ []) after) (sym (q.2 ∙ ap answer.Resolved to.1))
        (by-search m b after x.2.kept x.1 a)
agrees-accepted m (op.Update u location) y after r acc l k a =
    let p = accepted m (op.Update u location) y r acc in
    subst (λ z. Agrees m.setting.depot (m.before ++ entry_of m (op.Update u location) z ∷ []) after) (sym p.1)
    (by-renewal m u location after (λ e. p.0.1.0 no.InvalidOperation (refl, e)) (true_from_ne_false _ (λ n. p.0.0 no.NoSuchBundle (refl, n))) (subst (λ z. Leaves m (op.Update u location) z after) p.1 l)
    (pended-tidy (revisions m.before) m.world u (λ e. p.0.1.0 no.InvalidOperation (refl, e)) k.tidy) a)
agrees-accepted m (op.Uninstall u) y after r acc l k a =
    let p = accepted m (op.Uninstall u) y r acc in
    subst (λ z. Agrees m.setting.depot (m.before ++ entry_of m (op.Uninstall u) z ∷ []) after) (sym p.1)
    (by-removal m u after (λ e. p.0.1.0 no.InvalidOperation (refl, e)) (subst (λ z. Leaves m (op.Uninstall u) z after) p.1 l) a)
agrees-accepted m op.DropWirings y after r acc l k a =
    let p = (accepted m op.DropWirings y r acc).1 in
    let some : IsSomeAnd (refresh m.before) (λ r. after ≡ dropped r.members m.world) = subst (λ z. Leaves m op.DropWirings z after) p.says l in
    subst (λ z. Agrees m.setting.depot (m.before ++ entry_of m op.DropWirings z ∷ []) after) (sym p.says)
    (by-fall m p.refresh p.ids after k.tidy (k.window p.refresh p.own.0 p.own.2) (subst (λ o. IsSomeAnd o (λ r. after ≡ dropped r.members m.world)) p.own.0 some)
    (λ b i. All-contains (λ b. Contains p.refresh.members b × (is_resolved m.world b ≡ true)) p.ids b p.resolved.only i) (λ b c q. p.resolved.every b (c, q)) a)
agrees-accepted m (op.Load b class) y after r acc l k a =
    still-agrees m (op.Load b class) y after (load-stays m b class y after r l) (record { installed = λ n since. refl; gone = λ b. refl; updated = λ b. refl; brings = refl }) (λ b. refl) a
agrees-accepted m o y after r acc l k a = still-agrees m o y after l (record { installed = λ n since. refl; gone = λ b. refl; updated = λ b. refl; brings = refl }) (λ b. refl) a

resolves-refused : (b : BundleId) (o : Op) (f : Refusal) → resolves_by b o (answer.Refused f) ≡ None
resolves-refused b (op.Resolve r) f = refl
resolves-refused b (op.Update u location) f = refl
resolves-refused b op.DropWirings f = refl
resolves-refused b o f = refl

agrees-step : (m : Moment) (o : Op) (y : Reply) (after : World) → IsReply m o y → Leaves m o y after → IsKept m.before m.world → Agrees m.setting.depot m.before m.world →
    Agrees m.setting.depot (m.before ++ entry_of m o y ∷ []) after
agrees-step m o y after r l k a = go (is_accepted y) refl
  where
    go : (c : Bool) → is_accepted y ≡ c → Agrees m.setting.depot (m.before ++ entry_of m o y ∷ []) after
    go true e = agrees-accepted m o y after r e l k a
    go false e =
        let f = refused-is y e in
        subst (λ z. Agrees m.setting.depot (m.before ++ entry_of m o z ∷ []) after) (sym f.1)
        (still-agrees m o (answer.Refused f.0) after (leaves-refused m o f.0 after (subst (λ z. Leaves m o z after) f.1 l)) (bundles-refused o f.0) (λ b. resolves-refused b o f.0) a)

first-agrees : (depot : List DepotRow) → Agrees depot [] first_world
first-agrees depot = record {
  agree = λ b l. (let z = zero-of b l in subst (λ x. is_resolved first_world x ≡ resolved_at x []) (sym z) refl);
  given = λ b q. (let z = eqb-true b.0 0 (first-or (b.0 == 0) q) in omega (arith, z));
  ids = λ b l. (let z : b.0 ≡ 0 = ap (λ (x : BundleId). x.0) (zero-of b l) in omega (arith, z));
  known = λ k i. elim i [ inl e ↦ (let z : k.bundle.0 ≡ 0 = ap (λ (x : Known). x.bundle.0) e in omega (arith, z)) | inr j ↦ elim j [ ] ];
  rows = λ b l. (the_system_bundle, Contains-first the_system_bundle [], sym (zero-of b l));
}
  where
    first-or : (k : Bool) → (k || false) ≡ true → k ≡ true
    first-or true e = refl
    first-or false e = absurd (cc e)

    zero-of : (b : BundleId) → is_live b [] ≡ true → b ≡ system
    zero-of b l = let z : b.0 ≡ 0 = eqb-true b.0 0 (first-or (b.0 == 0) l) in λ i. record { 0 = z i }

-- of every legal history
pub always-agrees : (setting : Setting) (told : List Told) → AreAllowed setting told → Agrees setting.depot (entries_in told) (world_after told)
always-agrees setting told legal =
    holds (IsAllowed setting) (λ l. Agrees setting.depot (entries_in l) (world_after l)) (first-agrees setting.depot)
    (λ front x before a allowed.
    subst (λ h. Agrees setting.depot h (world_after (front ++ x ∷ []))) (sym (entries-last front x))
    (subst (Agrees setting.depot (entries_in front ++ x.entry ∷ [])) (sym (world-last front x))
    (agrees-step (moment setting front x.entry.tag) x.entry.op x.entry.reply x.world allowed.replied allowed.left (always-kept setting front before) a)))
    told legal

-- the state of each bundle is read off the entries alone
pub state-agrees : (setting : Setting) (told : List Told) → AreAllowed setting told → (b : BundleId) → state (world_after told) (entries_in told) b ≡ state_at (entries_in told) b
state-agrees setting told legal b = go (b.0 == 0) (is_live b (entries_in told)) refl
  where
    go : (k l : Bool) → is_live b (entries_in told) ≡ l →
        cond k Active (cond l (running (phase b (entries_in told)) (is_resolved (world_after told) b)) Uninstalled) ≡ cond k Active (cond l (running (phase b (entries_in told)) (resolved_at b (entries_in told))) Uninstalled)
    go true l e = refl
    go false false e = refl
    go false true e = ap (running (phase b (entries_in told))) ((always-agrees setting told legal).agree b e)

-- each live bundle has its row, and so a revision in the depot
pub live-row : (setting : Setting) (told : List Told) → AreAllowed setting told → (b : BundleId) → is_live b (entries_in told) ≡ true → (c : Bundle) × Contains (bundles setting.depot (entries_in told)) c × (c.bundle ≡ b)
live-row setting told legal b l = (always-agrees setting told legal).rows b l
