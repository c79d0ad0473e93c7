-- The current revision of a live bundle is the one that its row shows, in every legal history.
use Rattle.std.proofs.Common.{◌≡◌, ◌⊎◌, inl, inr, ◌+◌, ℕ, Bool, true, false, List, [], ◌∷◌, ◌++◌, length, append-nil, refl, sym, ap, ◌∙◌, subst, arith}
use Rattle.std.specs.Prelude.{◌==◌, ◌&&◌, ◌||◌, cond, not, is_some, map, Option, None, Some, find, IsSomeAnd, Contains}
use Rattle.std.specs.List.{filter_map}
use Rattle.std.specs.Option.{option_map_or}
use Rattle.std.proofs.lemmas.Bool.{and_parts, eq-eqb, eqb-true, false_from_ne_true, ne_eqb, not-true, or_right}
use Rattle.osgi_base.specs.declared.ids.BundleId.{BundleId}
use Rattle.osgi_legal.specs.Quiet.{QuietBundles}
use Rattle.osgi_ops.specs.Bundles.{lists_bundle, Bundle, bundle_from, bundles, Installed, installed, installed_by, is_uninstall, live, revisions, row_from, source, system, the_system_bundle, updated_to}
use Rattle.osgi_ops.specs.Depots.{stored_revision}
use Rattle.osgi_legal.specs.Legal.{AreAllowed, entry_of, IsAllowed, IsTold}
use Rattle.osgi_ops.specs.Levels.{refresh}
use Rattle.osgi_ops.specs.Moments.{entries_in, first_world, Moment, moment, Told, world_after}
use Rattle.osgi_legal.specs.Operations.{IsReply}
use Rattle.osgi_ops.specs.Replies.{is_accepted}
use Rattle.osgi_ops.specs.Resolved.{current_revision, is_current_of, is_fragment_bundle, is_resolved}
use Rattle.osgi_ops.specs.Resolving.{AnswersResolve, newly_resolved, Resolves}
use Rattle.osgi_ops.specs.Settings.{Setting}
use Rattle.osgi_ops.specs.Worlds.{Brings, dropped, Leaves, pended, with_revision}
use Rattle.osgi_ops.specs.rows.Bundles.{installs}
use Rattle.osgi_ops.specs.declared.depot.DepotRow.{DepotRow}
use Rattle.osgi_ops.specs.declared.entry.Entry.{Entry}
use Rattle.osgi_ops.specs.declared.op.Op.{Op}
use Rattle.osgi_ops.specs.declared.op.Op.TheVariants as op
use Rattle.osgi_ops.specs.declared.refusal.Refusal.TheVariants as no
use Rattle.osgi_ops.specs.declared.reply.Reply.{Reply}
use Rattle.osgi_ops.specs.declared.reply.Reply.TheVariants as answer
use Rattle.osgi_world.specs.System.{known_system}
use Rattle.osgi_world.specs.declared.revision.Revision.{Revision}
use Rattle.osgi_world.specs.declared.world.Known.{Known}
use Rattle.osgi_world.specs.declared.world.World.{World}
use Rattle.osgi_ops.specs.laws.Along.{holds}
use Rattle.osgi_ops.specs.laws.Items.{contains-In, find-kept, find-push, In-filter}
use Rattle.osgi_ops.specs.laws.Members.{Contains-cases, Contains-filter_map, Contains-map, Contains-none}
use Rattle.osgi_legal.proofs.Accepted.{accepted}
use Rattle.osgi_ops.specs.laws.Bundles.{later, left_by, live-push, source-by}
use Rattle.osgi_legal.proofs.Legal.{at-told, world-last}
use Rattle.osgi_legal.proofs.Names.{IsBrought, row-cases, row-made}
use Rattle.osgi_legal.proofs.Owned.{entries-last}
use Rattle.osgi_legal.proofs.Phases.{same-id}
use Rattle.osgi_legal.proofs.Quiet.{bundles-quiet, bundles-refused}
use Rattle.osgi_stage.proofs.Running.{current-pended}
use Rattle.osgi_stage.proofs.States.{Agrees, always-agrees, find-new, find-none, find-other, none-current}
use Rattle.osgi_legal.proofs.Tidy.{extends-of}
use Rattle.osgi_stage.proofs.Windows.{leaves-refused, refused-is}
use Rattle.osgi_stage.proofs.Loads.{load-stays}

-- the bundle has a current revision, which is this one
pub record IsCurrent (world : World) (b : BundleId) (v : Revision) : Type 0 where
  pub known : Known
  pub is : current_revision world b ≡ Some known
  pub revision : known.revision ≡ v

abbrev pub AreCurrent : List DepotRow → List Entry → World → Type 0
AreCurrent depot h world = (c : Bundle) → Contains (bundles depot h) c → IsCurrent world c.bundle c.revision

still-current : (m : Moment) (o : Op) (y : Reply) (after : World) → QuietBundles o y → ((b : BundleId) → current_revision after b ≡ current_revision m.world b) → AreCurrent m.setting.depot m.before m.world →
    AreCurrent m.setting.depot (m.before ++ entry_of m o y ∷ []) after
still-current m o y after quiet same a = λ c i. (
    let s = bundles-quiet m.setting.depot m.before (entry_of m o y) quiet in
    let r = a c (subst (λ l. Contains l c) s.rows i) in
    record { known = r.known; is = same c.bundle ∙ r.is; revision = r.revision })

-- ---- an Install

new-current : (m : Moment) (location : List ℕ) (after : World) → let id : BundleId = record { 0 = length (installed m.before) + 1 } in Brings m id location m.world after → Agrees m.setting.depot m.before m.world →
    AreCurrent m.setting.depot m.before m.world → AreCurrent m.setting.depot (m.before ++ entry_of m (op.Install location) (answer.Bundle id false) ∷ []) after
new-current m location after br g a = subst (AreCurrent m.setting.depot (m.before ++ e ∷ [])) (sym br.is) (λ c i. go c (row-cases m.setting.depot m.before e c i))
  where
    id : BundleId
    id = record { 0 = length (installed m.before) + 1 }

    e : Entry
    e = entry_of m (op.Install location) (answer.Bundle id false)

    w : World
    w = with_revision m.world (record { 0 = revisions m.before + 1 }) id br.revision

    new_known : Known
    new_known = record { id = record { 0 = revisions m.before + 1 }; bundle = id; current = true; revision = br.revision }

    none : find (is_current_of id) m.world.known ≡ None
    none = find-none (is_current_of id) m.world.known (λ x i. false_from_ne_true _ (λ c. (
        let f = g.known x i in
        let q : x.bundle.0 ≡ id.0 = eqb-true x.bundle.0 id.0 (and_parts x.current _ c).1 in absurd (omega (arith, f, q)))))

    fresh : IsCurrent w id br.revision
    fresh = record { known = new_known; is = find-new (is_current_of id) m.world.known new_known none (eq-eqb id.0 id.0 refl); revision = refl }

    go : (c : Bundle) → ((d : Bundle) × Contains (bundles m.setting.depot m.before) d × (d.bundle ≡ c.bundle) × (d.revision ≡ c.revision)) ⊎ IsBrought m.setting.depot (length (installed m.before)) e c → IsCurrent w c.bundle c.revision
    go c (inl d) =
        let r = a d.0 d.1 in
        record { known = r.known; is = find-push (is_current_of c.bundle) m.world.known new_known r.known (ap (λ x. find (is_current_of x) m.world.known) (sym d.2) ∙ r.is); revision = r.revision ∙ d.3 }
    go c (inr b) = by b.by
      where
        by : ((x : BundleId) × (e.op ≡ op.Install b.location) × (e.reply ≡ answer.Bundle x false) × (c.bundle ≡ id)) ⊎ ((e.op ≡ op.Update c.bundle b.location) × (is_accepted e.reply ≡ true)) → IsCurrent w c.bundle c.revision
        by (inl k) =
            let at : location ≡ b.location = cc (k.1) in
            let v : br.revision ≡ c.revision = (let s : Some br.revision ≡ Some c.revision = sym br.read ∙ ap (stored_revision m.setting.depot) at ∙ b.read in cc s) in
            subst (λ x. IsCurrent w x c.revision) (sym k.3) (subst (IsCurrent w id) v fresh)
        by (inr k) = absurd (cc (k.0))

-- ---- an Update

abbrev map-later : List Entry → Entry → List Installed
map-later h e = map (later e) (left_by e (live h))

-- the row of an updated bundle shows what it was updated to
updated-row : (depot : List DepotRow) (h : List Entry) (e : Entry) (u : BundleId) (location : List ℕ) → e.op ≡ op.Update u location → is_accepted e.reply ≡ true → (u ≡ system → ⊥) → (c : Bundle) →
    Contains (bundles depot (h ++ e ∷ [])) c → c.bundle ≡ u → stored_revision depot location ≡ Some c.revision
updated-row depot h e u location o acc apart c i q = go (Contains-cases the_system_bundle _ c i)
  where
    says : updated_to u e.op e.reply ≡ Some location
    says = ap (λ x. updated_to u x e.reply) o ∙ (λ j. cond (acc j && eq-eqb u.0 u.0 refl j) (Some location) None)

    none : installed_by (length (installed h)) e.op e.reply [] ≡ []
    none = ap (λ x. installed_by (length (installed h)) x e.reply []) o

    from : (j : Installed) → Contains (map-later h e) j → row_from depot j ≡ Some c → stored_revision depot location ≡ Some c.revision
    from j k r =
        let l = Contains-map (later e) (left_by e (live h)) j k in
        let m = row-made depot j c r in
        let same : u ≡ l.0.bundle = sym q ∙ m.0 ∙ ap (λ (x : Installed). x.bundle) (sym l.2) in
        ap (stored_revision depot) (sym (ap source (sym l.2) ∙ source-by l.0 e (Some location) (ap (λ b. updated_to b e.op e.reply) (sym same) ∙ says))) ∙ m.1

    go : (the_system_bundle ≡ c) ⊎ Contains (filter_map (row_from depot) (live (h ++ e ∷ []))) c → stored_revision depot location ≡ Some c.revision
    go (inl s) = absurd (apart (sym q ∙ ap (λ (x : Bundle). x.bundle) (sym s)))
    go (inr j) =
        let l = Contains-filter_map (row_from depot) (live (h ++ e ∷ [])) c j in
        from l.0 (subst (λ k. Contains k l.0) (live-push h e ∙ ap (λ k. map-later h e ++ k) none ∙ append-nil (map-later h e)) l.1) l.2

renewed-current : (m : Moment) (u : BundleId) (location : List ℕ) (after : World) → (u ≡ system → ⊥) → Brings m u location (pended u m.world) after → AreCurrent m.setting.depot m.before m.world →
    AreCurrent m.setting.depot (m.before ++ entry_of m (op.Update u location) answer.Done ∷ []) after
renewed-current m u location after apart br a = subst (AreCurrent m.setting.depot (m.before ++ e ∷ [])) (sym br.is) (λ c i. go c i (u.0 == c.bundle.0) refl)
  where
    e : Entry
    e = entry_of m (op.Update u location) answer.Done

    w : World
    w = with_revision (pended u m.world) (record { 0 = revisions m.before + 1 }) u br.revision

    new_known : Known
    new_known = record { id = record { 0 = revisions m.before + 1 }; bundle = u; current = true; revision = br.revision }

    go : (c : Bundle) → Contains (bundles m.setting.depot (m.before ++ e ∷ [])) c → (k : Bool) → (u.0 == c.bundle.0) ≡ k → IsCurrent w c.bundle c.revision
    go c i true q =
        let same : u ≡ c.bundle = same-id u c.bundle q in
        let read = updated-row m.setting.depot m.before e u location refl refl apart c i (sym same) in
        let v : br.revision ≡ c.revision = (let s : Some br.revision ≡ Some c.revision = sym br.read ∙ read in cc s) in
        subst (λ x. IsCurrent w x c.revision) same
        (record { known = new_known; is = find-new (is_current_of u) (pended u m.world).known new_known (none-current u m.world) (eq-eqb u.0 u.0 refl); revision = v })
    go c i false q = by (row-cases m.setting.depot m.before e c i)
      where
        by : ((d : Bundle) × Contains (bundles m.setting.depot m.before) d × (d.bundle ≡ c.bundle) × (d.revision ≡ c.revision)) ⊎ IsBrought m.setting.depot (length (installed m.before)) e c → IsCurrent w c.bundle c.revision
        by (inl d) =
            let r = a d.0 d.1 in
            record {
              known = r.known;
              is = find-other (is_current_of c.bundle) (pended u m.world).known new_known q ∙ current-pended u c.bundle m.world q ∙ ap (λ x. current_revision m.world x) (sym d.2) ∙ r.is;
              revision = r.revision ∙ d.3;
            }
        by (inr b) = elim b.by [
          | inl k ↦ absurd (cc (k.1))
          | inr k ↦ (let same : u ≡ c.bundle = cc (k.0) in absurd (let bad : true ≡ false = sym (eq-eqb u.0 c.bundle.0 (ap (λ (x : BundleId). x.0) same)) ∙ q in cc bad))
        ]

-- ---- an Uninstall

removed-current : (m : Moment) (u : BundleId) (after : World) → (u ≡ system → ⊥) → after ≡ pended u m.world → AreCurrent m.setting.depot m.before m.world →
    AreCurrent m.setting.depot (m.before ++ entry_of m (op.Uninstall u) answer.Done ∷ []) after
removed-current m u after apart is a = subst (AreCurrent m.setting.depot (m.before ++ e ∷ [])) (sym is) (λ c i. go c i (row-cases m.setting.depot m.before e c i))
  where
    e : Entry
    e = entry_of m (op.Uninstall u) answer.Done

    other : (c : Bundle) → Contains (bundles m.setting.depot (m.before ++ e ∷ [])) c → (u.0 == c.bundle.0) ≡ false
    other c i = from (Contains-cases the_system_bundle _ c i)
      where
        one : (j : Installed) → Contains (map-later m.before e) j → row_from m.setting.depot j ≡ Some c → (u.0 == c.bundle.0) ≡ false
        one j k r =
            let l = Contains-map (later e) (left_by e (live m.before)) j k in
            let s = row-made m.setting.depot j c r in
            let f = In-filter (λ (x : Installed). not (is_uninstall x.bundle e.op e.reply)) (live m.before) l.0 (contains-In (left_by e (live m.before)) l.0 l.1) in
            ap (λ (x : BundleId). u.0 == x.0) (s.0 ∙ ap (λ (x : Installed). x.bundle) (sym l.2)) ∙ not-true _ f.1

        from : (the_system_bundle ≡ c) ⊎ Contains (filter_map (row_from m.setting.depot) (live (m.before ++ e ∷ []))) c → (u.0 == c.bundle.0) ≡ false
        from (inl s) = ap (λ (x : Bundle). u.0 == x.bundle.0) (sym s) ∙ ne_eqb u.0 0 (λ q. absurd (apart (λ i. record { 0 = q i })))
        from (inr j) =
            let l = Contains-filter_map (row_from m.setting.depot) (live (m.before ++ e ∷ [])) c j in
            one l.0 (subst (λ k. Contains k l.0) (live-push m.before e ∙ append-nil (map-later m.before e)) l.1) l.2

    go : (c : Bundle) → Contains (bundles m.setting.depot (m.before ++ e ∷ [])) c → ((d : Bundle) × Contains (bundles m.setting.depot m.before) d × (d.bundle ≡ c.bundle) × (d.revision ≡ c.revision)) ⊎ IsBrought m.setting.depot (length (installed m.before)) e c →
        IsCurrent (pended u m.world) c.bundle c.revision
    go c i (inl d) =
        let r = a d.0 d.1 in
        record { known = r.known; is = current-pended u c.bundle m.world (other c i) ∙ ap (λ x. current_revision m.world x) (sym d.2) ∙ r.is; revision = r.revision ∙ d.3 }
    go c i (inr b) = elim b.by [ inl k ↦ absurd (cc (k.1)) | inr k ↦ absurd (cc (k.0)) ]

-- ---- one more entry

current-accepted : (m : Moment) (o : Op) (y : Reply) (after : World) → IsReply m o y → is_accepted y ≡ true → Leaves m o y after → Agrees m.setting.depot m.before m.world → AreCurrent m.setting.depot m.before m.world →
    AreCurrent m.setting.depot (m.before ++ entry_of m o y ∷ []) after
current-accepted m (op.Install location) y after r acc l g a = go (bundle_from m.setting.depot m.before location) (accepted m (op.Install location) y r acc).1
  where
    go : (f : Option Bundle) → y ≡ installs f (length (installed m.before)) → AreCurrent m.setting.depot (m.before ++ entry_of m (op.Install location) y ∷ []) after
    go (Some known) e = subst (λ z. AreCurrent m.setting.depot (m.before ++ entry_of m (op.Install location) z ∷ []) after) (sym e)
        (still-current m (op.Install location) (answer.Bundle known.bundle true) after (record { installed = λ n since. refl; gone = λ b. refl; updated = λ b. refl; brings = refl })
        (λ b. ap (λ w. current_revision w b) (subst (λ z. Leaves m (op.Install location) z after) e l)) a)
    go None e = subst (λ z. AreCurrent m.setting.depot (m.before ++ entry_of m (op.Install location) z ∷ []) after) (sym e)
        (new-current m location after (subst (λ z. Leaves m (op.Install location) z after) e l) g a)
current-accepted m (op.Resolve b) y after r acc l g a =
    still-current m (op.Resolve b) y after (record { installed = λ n since. refl; gone = λ b. refl; updated = λ b. refl; brings = refl }) (λ x. go x (is_resolved m.world b) refl (accepted m (op.Resolve b) y r acc).1) a
  where
    go : (x : BundleId) (c : Bool) → is_resolved m.world b ≡ c → AnswersResolve (is_resolved m.world b) m b y → current_revision after x ≡ current_revision m.world x
    go x true e p =
        let is : y ≡ answer.Resolved [] = subst (λ c. AnswersResolve c m b y) e p in
        ap (λ w. current_revision w x) (subst (λ c. Resolves c m b [] after) e (subst (λ z. Leaves m (op.Resolve b) z after) is l))
    go x false e p =
        let q = subst (λ c. AnswersResolve c m b y) e p in
        let to = subst (λ c. Resolves c m b (newly_resolved m q.0) after) e (subst (λ z. Leaves m (op.Resolve b) z after) q.2 l) in
        ap (find (is_current_of x)) (extends-of m.world after b to.0).1
current-accepted m (op.Update u location) y after r acc l g a =
    let p = accepted m (op.Update u location) y r acc in
    subst (λ z. AreCurrent m.setting.depot (m.before ++ entry_of m (op.Update u location) z ∷ []) after) (sym p.1)
    (renewed-current m u location after (λ e. p.0.1.0 no.InvalidOperation (refl, e)) (subst (λ z. Leaves m (op.Update u location) z after) p.1 l) a)
current-accepted m (op.Uninstall u) y after r acc l g a =
    let p = accepted m (op.Uninstall u) y r acc in
    subst (λ z. AreCurrent m.setting.depot (m.before ++ entry_of m (op.Uninstall u) z ∷ []) after) (sym p.1)
    (removed-current m u after (λ e. p.0.1.0 no.InvalidOperation (refl, e)) (subst (λ z. Leaves m (op.Uninstall u) z after) p.1 l) a)
current-accepted m op.DropWirings y after r acc l g a =
    let p = (accepted m op.DropWirings y r acc).1 in
    let some : IsSomeAnd (refresh m.before) (λ r. after ≡ dropped r.members m.world) = subst (λ z. Leaves m op.DropWirings z after) p.says l in
    let is : after ≡ dropped p.refresh.members m.world = subst (λ o. IsSomeAnd o (λ r. after ≡ dropped r.members m.world)) p.own.0 some in
    still-current m op.DropWirings y after (record { installed = λ n since. refl; gone = λ b. refl; updated = λ b. refl; brings = refl })
    (λ x. ap (λ w. current_revision w x) is ∙ find-kept (is_current_of x) (λ (k : Known). not (lists_bundle p.refresh.members k.bundle.0) || k.current) m.world.known (λ k c. or_right _ _ (and_parts k.current _ c).0)) a
current-accepted m (op.Load b class) y after r acc l g a =
    still-current m (op.Load b class) y after (record { installed = λ n since. refl; gone = λ b. refl; updated = λ b. refl; brings = refl }) (λ x. ap (λ w. current_revision w x) (load-stays m b class y after r l)) a
current-accepted m o y after r acc l g a =
    still-current m o y after (record { installed = λ n since. refl; gone = λ b. refl; updated = λ b. refl; brings = refl }) (λ x. ap (λ w. current_revision w x) l) a

current-step : (m : Moment) (o : Op) (y : Reply) (after : World) → IsReply m o y → Leaves m o y after → Agrees m.setting.depot m.before m.world → AreCurrent m.setting.depot m.before m.world →
    AreCurrent m.setting.depot (m.before ++ entry_of m o y ∷ []) after
current-step m o y after r l g a = go (is_accepted y) refl
  where
    go : (c : Bool) → is_accepted y ≡ c → AreCurrent m.setting.depot (m.before ++ entry_of m o y ∷ []) after
    go true e = current-accepted m o y after r e l g a
    go false e =
        let f = refused-is y e in
        subst (λ z. AreCurrent m.setting.depot (m.before ++ entry_of m o z ∷ []) after) (sym f.1)
        (still-current m o (answer.Refused f.0) after (bundles-refused o f.0) (λ x. ap (λ w. current_revision w x) (leaves-refused m o f.0 after (subst (λ z. Leaves m o z after) f.1 l))) a)

first-current : (depot : List DepotRow) → AreCurrent depot [] first_world
first-current depot c i = go (Contains-cases the_system_bundle [] c i)
  where
    go : (the_system_bundle ≡ c) ⊎ Contains [] c → IsCurrent first_world c.bundle c.revision
    go (inl s) = subst (λ (x : Bundle). IsCurrent first_world x.bundle x.revision) s (record { known = known_system; is = refl; revision = refl })
    go (inr j) = absurd (Contains-none c j)

-- of every legal history
pub rows-current : (setting : Setting) (told : List Told) → AreAllowed setting told → AreCurrent setting.depot (entries_in told) (world_after told)
rows-current setting told legal =
    holds (IsAllowed setting) (λ l. AreCurrent setting.depot (entries_in l) (world_after l)) (first-current setting.depot)
    (λ front x before a allowed.
    subst (λ h. AreCurrent setting.depot h (world_after (front ++ x ∷ []))) (sym (entries-last front x))
    (subst (AreCurrent setting.depot (entries_in front ++ x.entry ∷ [])) (sym (world-last front x))
    (current-step (moment setting front x.entry.tag) x.entry.op x.entry.reply x.world allowed.replied allowed.left (always-agrees setting front before) a)))
    told legal

pub current-at : (now : Moment) → IsTold now → AreCurrent now.setting.depot now.before now.world
current-at now t = at-told (λ m. AreCurrent m.setting.depot m.before m.world) (λ setting told tag legal. rows-current setting told legal) now t

-- so a bundle is a fragment where its row's revision has a host
pub fragment-at : (now : Moment) → IsTold now → (c : Bundle) → Contains (bundles now.setting.depot now.before) c → is_fragment_bundle now.world c.bundle ≡ is_some c.revision.host
fragment-at now t c i =
    let k = current-at now t c i in
    ap (λ o. option_map_or (λ (x : Known). is_some x.revision.host) o false) k.is ∙ ap (λ (v : Revision). is_some v.host) k.revision
