-- A bundle has a current revision exactly while it is live, in every legal history; and what is up is resolved.
use Rattle.std.proofs.Common.{◌≡◌, inl, ◌+◌, ◌<◌, ℕ, Bool, true, false, List, [], ◌∷◌, ◌++◌, length, refl, sym, ap, ◌∙◌, subst, arith}
use Rattle.std.specs.Prelude.{◌==◌, ◌||◌, cond, not, map, Option, None, Some, find, IsSomeAnd, Contains}
use Rattle.std.specs.List.{list_any}
use Rattle.std.specs.Option.{option_map_or}
use Rattle.std.proofs.lemmas.Bool.{and_parts, eq-eqb, eqb-true, false_from_ne_true, ne_eqb, or_right}
use Rattle.std.proofs.lemmas.List.Folds.{list_any-append}
use Rattle.osgi_base.specs.declared.ids.BundleId.{BundleId}
use Rattle.osgi_legal.specs.Quiet.{QuietBundles}
use Rattle.osgi_ops.specs.Settings.{Setting}
use Rattle.osgi_ops.specs.Bundles.{lists_bundle, Bundle, bundle_from, bundles, installed, is_live, is_uninstall, is_up, live, revisions}
use Rattle.osgi_ops.specs.Conditions.{state_of}
use Rattle.osgi_legal.specs.Legal.{AreAllowed, entry_of, IsAllowed, IsTold}
use Rattle.osgi_ops.specs.Levels.{refresh}
use Rattle.osgi_ops.specs.Moments.{entries_in, first_world, Moment, moment, Told, world_after}
use Rattle.osgi_legal.specs.Operations.{IsReply}
use Rattle.osgi_ops.specs.Replies.{is_accepted}
use Rattle.osgi_ops.specs.Resolved.{current_revision, is_current_of, is_in_use, is_resolved}
use Rattle.osgi_ops.specs.Resolving.{AnswersResolve, newly_resolved, Resolves}
use Rattle.osgi_ops.specs.Worlds.{dropped, Leaves, pended}
use Rattle.osgi_ops.specs.rows.Bundles.{installs}
use Rattle.osgi_ops.specs.declared.entry.Entry.{Entry}
use Rattle.osgi_ops.specs.declared.op.Op.{Op}
use Rattle.osgi_ops.specs.declared.op.Op.TheVariants as op
use Rattle.osgi_ops.specs.declared.refusal.Refusal.TheVariants as no
use Rattle.osgi_ops.specs.declared.reply.Reply.{Reply}
use Rattle.osgi_ops.specs.declared.reply.Reply.TheVariants as answer
use Rattle.osgi_ops.specs.laws.Along.{holds}
use Rattle.osgi_ops.specs.laws.Bundles.{has_id, later, left_by, live-any, live-push, live-stays}
use Rattle.osgi_ops.specs.laws.Items.{find-kept}
use Rattle.osgi_ops.specs.laws.Resolved.{in_use-from}
use Rattle.osgi_world.specs.System.{known_system}
use Rattle.osgi_world.specs.declared.world.Known.{Known}
use Rattle.osgi_world.specs.declared.world.World.{World}
use Rattle.osgi_legal.proofs.Accepted.{accepted}
use Rattle.osgi_stage.proofs.Facts.{row-at, running-at}
use Rattle.osgi_legal.proofs.Legal.{at-told, world-last}
use Rattle.osgi_legal.proofs.Owned.{entries-last}
use Rattle.osgi_legal.proofs.Quiet.{bundles-refused}
use Rattle.osgi_stage.proofs.Rows.{current-at}
use Rattle.osgi_stage.proofs.Running.{current-pended}
use Rattle.osgi_stage.proofs.States.{always-agrees, find-none, find-other, none-current}
use Rattle.osgi_legal.proofs.Tidy.{extends-of}
use Rattle.osgi_stage.proofs.Windows.{leaves-refused, refused-is}
use Rattle.osgi_stage.proofs.Loads.{load-stays}

-- a bundle that is not live has no current revision
abbrev pub AreGone : List Entry → World → Type 0
AreGone h world = (b : BundleId) → is_live b h ≡ false → current_revision world b ≡ None

-- what is not live after an entry that uninstalls nothing was not before
was-gone : (h : List Entry) (e : Entry) (b : BundleId) → is_uninstall b e.op e.reply ≡ false → is_live b (h ++ e ∷ []) ≡ false → is_live b h ≡ false
was-gone h e b stays gone = false_from_ne_true (is_live b h) (λ l. (let bad : true ≡ false = sym (live-stays b h e l stays) ∙ gone in absurd (cc bad)))

still-gone : (m : Moment) (o : Op) (y : Reply) (after : World) → QuietBundles o y → ((b : BundleId) → current_revision after b ≡ current_revision m.world b) → AreGone m.before m.world → AreGone (m.before ++ entry_of m o y ∷ []) after
still-gone m o y after quiet same a b gone = same b ∙ a b (was-gone m.before (entry_of m o y) b (quiet.gone b) gone)

-- ---- an Install

module _ (m : Moment) (location : List ℕ) where
  id : BundleId
  id = record { 0 = length (installed m.before) + 1 }

  e : Entry
  e = entry_of m (op.Install location) (answer.Bundle (record { 0 = length (installed m.before) + 1 }) false)

  new-live : is_live (record { 0 = length (installed m.before) + 1 }) (m.before ++ entry_of m (op.Install location) (answer.Bundle (record { 0 = length (installed m.before) + 1 }) false) ∷ []) ≡ true
  unfolding id e
  new-live =
      live-any id (m.before ++ e ∷ [])
      ∙ or_right (id.0 == 0) _ (ap (list_any (has_id id)) (live-push m.before e) ∙ list_any-append (has_id id) (map (later e) (left_by e (live m.before))) _ ∙ or_right _ _ (ap (λ t. t || false) (eq-eqb id.0 id.0 refl)))

new-gone : (m : Moment) (location : List ℕ) (after : World) → let id : BundleId = record { 0 = length (installed m.before) + 1 } in Leaves m (op.Install location) (answer.Bundle id false) after → AreGone m.before m.world →
    AreGone (m.before ++ entry_of m (op.Install location) (answer.Bundle id false) ∷ []) after
new-gone m location after br a b gone =
    let id : BundleId = record { 0 = length (installed m.before) + 1 } in
    let e : Entry = entry_of m (op.Install location) (answer.Bundle id false) in
    let k : Known = record { id = record { 0 = revisions m.before + 1 }; bundle = id; current = true; revision = br.revision } in
    let other : (id.0 == b.0) ≡ false = false_from_ne_true (id.0 == b.0) (λ q. (
    let same : id ≡ b = λ i. record { 0 = eqb-true id.0 b.0 q i } in
    let bad : true ≡ false = sym (subst (λ x. is_live x (m.before ++ e ∷ []) ≡ true) same (new-live m location)) ∙ gone in absurd (cc bad))) in
    ap (λ w. current_revision w b) br.is ∙ find-other (is_current_of b) m.world.known k other ∙ a b (was-gone m.before e b refl gone)

-- ---- an Update, and an Uninstall

renewed-gone : (m : Moment) (u : BundleId) (location : List ℕ) (after : World) → is_live u m.before ≡ true → Leaves m (op.Update u location) answer.Done after → AreGone m.before m.world →
    AreGone (m.before ++ entry_of m (op.Update u location) answer.Done ∷ []) after
renewed-gone m u location after there br a b gone =
    let was = was-gone m.before (entry_of m (op.Update u location) answer.Done) b refl gone in
    let k : Known = record { id = record { 0 = revisions m.before + 1 }; bundle = u; current = true; revision = br.revision } in
    let other : (u.0 == b.0) ≡ false = false_from_ne_true (u.0 == b.0) (λ q. (
    let same : u ≡ b = λ i. record { 0 = eqb-true u.0 b.0 q i } in
    let bad : true ≡ false = sym there ∙ ap (λ x. is_live x m.before) same ∙ was in absurd (cc bad))) in
    ap (λ w. current_revision w b) br.is ∙ find-other (is_current_of b) (pended u m.world).known k other ∙ current-pended u b m.world other ∙ a b was

removed-gone : (m : Moment) (u : BundleId) (after : World) → after ≡ pended u m.world → AreGone m.before m.world → AreGone (m.before ++ entry_of m (op.Uninstall u) answer.Done ∷ []) after
removed-gone m u after is a b gone = ap (λ w. current_revision w b) is ∙ go (u.0 == b.0) refl
  where
    go : (t : Bool) → (u.0 == b.0) ≡ t → current_revision (pended u m.world) b ≡ None
    go true q = let same : u ≡ b = λ i. record { 0 = eqb-true u.0 b.0 q i } in subst (λ x. current_revision (pended u m.world) x ≡ None) same (none-current u m.world)
    go false q = current-pended u b m.world q ∙ a b (was-gone m.before (entry_of m (op.Uninstall u) answer.Done) b q gone)

-- ---- one more entry

gone-accepted : (m : Moment) (o : Op) (y : Reply) (after : World) → IsReply m o y → is_accepted y ≡ true → Leaves m o y after → AreGone m.before m.world → AreGone (m.before ++ entry_of m o y ∷ []) after
gone-accepted m (op.Install location) y after r acc l a = go (bundle_from m.setting.depot m.before location) (accepted m (op.Install location) y r acc).1
  where
    go : (f : Option Bundle) → y ≡ installs f (length (installed m.before)) → AreGone (m.before ++ entry_of m (op.Install location) y ∷ []) after
    go (Some known) e = subst (λ z. AreGone (m.before ++ entry_of m (op.Install location) z ∷ []) after) (sym e)
        (still-gone m (op.Install location) (answer.Bundle known.bundle true) after (record { installed = λ n since. refl; gone = λ b. refl; updated = λ b. refl; brings = refl })
        (λ b. ap (λ w. current_revision w b) (subst (λ z. Leaves m (op.Install location) z after) e l)) a)
    go None e = subst (λ z. AreGone (m.before ++ entry_of m (op.Install location) z ∷ []) after) (sym e)
        (new-gone m location after (subst (λ z. Leaves m (op.Install location) z after) e l) a)
gone-accepted m (op.Resolve b) y after r acc l a =
    still-gone m (op.Resolve b) y after (record { installed = λ n since. refl; gone = λ b. refl; updated = λ b. refl; brings = refl }) (λ x. go x (is_resolved m.world b) refl (accepted m (op.Resolve b) y r acc).1) a
  where
    go : (x : BundleId) (c : Bool) → is_resolved m.world b ≡ c → AnswersResolve (is_resolved m.world b) m b y → current_revision after x ≡ current_revision m.world x
    go x true e p =
        let is : y ≡ answer.Resolved [] = subst (λ c. AnswersResolve c m b y) e p in
        ap (λ w. current_revision w x) (subst (λ c. Resolves c m b [] after) e (subst (λ z. Leaves m (op.Resolve b) z after) is l))
    go x false e p =
        let q = subst (λ c. AnswersResolve c m b y) e p in
        let to = subst (λ c. Resolves c m b (newly_resolved m q.0) after) e (subst (λ z. Leaves m (op.Resolve b) z after) q.2 l) in
        ap (find (is_current_of x)) (extends-of m.world after b to.0).1
gone-accepted m (op.Update u location) y after r acc l a =
    let p = accepted m (op.Update u location) y r acc in
    let there : is_live u m.before ≡ true = not-false (is_live u m.before) (λ e. p.0.0 no.NoSuchBundle (refl, e)) in
    subst (λ z. AreGone (m.before ++ entry_of m (op.Update u location) z ∷ []) after) (sym p.1) (renewed-gone m u location after there (subst (λ z. Leaves m (op.Update u location) z after) p.1 l) a)
  where
    not-false : (t : Bool) → (t ≡ false → ⊥) → t ≡ true
    not-false true n = refl
    not-false false n = absurd (n refl)
gone-accepted m (op.Uninstall u) y after r acc l a =
    let p = accepted m (op.Uninstall u) y r acc in
    subst (λ z. AreGone (m.before ++ entry_of m (op.Uninstall u) z ∷ []) after) (sym p.1) (removed-gone m u after (subst (λ z. Leaves m (op.Uninstall u) z after) p.1 l) a)
gone-accepted m op.DropWirings y after r acc l a =
    let p = (accepted m op.DropWirings y r acc).1 in
    let some : IsSomeAnd (refresh m.before) (λ r. after ≡ dropped r.members m.world) = subst (λ z. Leaves m op.DropWirings z after) p.says l in
    let is : after ≡ dropped p.refresh.members m.world = subst (λ o. IsSomeAnd o (λ r. after ≡ dropped r.members m.world)) p.own.0 some in
    still-gone m op.DropWirings y after (record { installed = λ n since. refl; gone = λ b. refl; updated = λ b. refl; brings = refl })
    (λ x. ap (λ w. current_revision w x) is ∙ find-kept (is_current_of x) (λ (k : Known). not (lists_bundle p.refresh.members k.bundle.0) || k.current) m.world.known (λ k c. or_right _ _ (and_parts k.current _ c).0)) a
gone-accepted m (op.Load b class) y after r acc l a =
    still-gone m (op.Load b class) y after (record { installed = λ n since. refl; gone = λ b. refl; updated = λ b. refl; brings = refl }) (λ x. ap (λ w. current_revision w x) (load-stays m b class y after r l)) a
gone-accepted m o y after r acc l a =
    still-gone m o y after (record { installed = λ n since. refl; gone = λ b. refl; updated = λ b. refl; brings = refl }) (λ x. ap (λ w. current_revision w x) l) a

gone-step : (m : Moment) (o : Op) (y : Reply) (after : World) → IsReply m o y → Leaves m o y after → AreGone m.before m.world → AreGone (m.before ++ entry_of m o y ∷ []) after
gone-step m o y after r l a = go (is_accepted y) refl
  where
    go : (c : Bool) → is_accepted y ≡ c → AreGone (m.before ++ entry_of m o y ∷ []) after
    go true e = gone-accepted m o y after r e l a
    go false e =
        let f = refused-is y e in
        subst (λ z. AreGone (m.before ++ entry_of m o z ∷ []) after) (sym f.1)
        (still-gone m o (answer.Refused f.0) after (bundles-refused o f.0) (λ x. ap (λ w. current_revision w x) (leaves-refused m o f.0 after (subst (λ z. Leaves m o z after) f.1 l))) a)

first-gone : AreGone [] first_world
first-gone b gone = go (b.0 == 0) refl gone
  where
    go : (t : Bool) → (b.0 == 0) ≡ t → (t || false) ≡ false → current_revision first_world b ≡ None
    go true q bad = absurd (cc bad)
    go false q fine = ap (λ t. cond t (Some known_system) None) (ne_eqb 0 b.0 (λ e. (let bad : true ≡ false = sym (eq-eqb b.0 0 (sym e)) ∙ q in absurd (cc bad))))

pub gone-none : (setting : Setting) (told : List Told) → AreAllowed setting told → AreGone (entries_in told) (world_after told)
gone-none setting told legal =
    holds (IsAllowed setting) (λ l. AreGone (entries_in l) (world_after l)) first-gone
    (λ front x before a allowed.
    subst (λ h. AreGone h (world_after (front ++ x ∷ []))) (sym (entries-last front x))
    (subst (AreGone (entries_in front ++ x.entry ∷ [])) (sym (world-last front x))
    (gone-step (moment setting front x.entry.tag) x.entry.op x.entry.reply x.world allowed.replied allowed.left a)))
    told legal

-- ---- at a moment

-- a bundle that is not live has no current revision
pub gone-at : (now : Moment) → IsTold now → (b : BundleId) → is_live b now.before ≡ false → current_revision now.world b ≡ None
gone-at now t = at-told (λ m. AreGone m.before m.world) (λ setting told tag legal. gone-none setting told legal) now t

-- a live one has one
pub there-at : (now : Moment) → IsTold now → (b : BundleId) → is_live b now.before ≡ true → (k : Known) × (current_revision now.world b ≡ Some k)
there-at now t b l =
    let row : (c : Bundle) × Contains (bundles now.setting.depot now.before) c × (c.bundle ≡ b) = row-at now t b l in
    let k = current-at now t row.0 row.1 in
    (k.known, ap (current_revision now.world) (sym row.2) ∙ k.is)

-- so it is live where it has one
pub live-at : (now : Moment) → IsTold now → (b : BundleId) (k : Known) → current_revision now.world b ≡ Some k → is_live b now.before ≡ true
live-at now t b k is = go (is_live b now.before) refl
  where
    go : (l : Bool) → is_live b now.before ≡ l → is_live b now.before ≡ true
    go true e = e
    go false e = let bad : None ≡ Some k = sym (gone-at now t b e) ∙ is in absurd (cc bad)

pub dead-at : (now : Moment) → IsTold now → (b : BundleId) → current_revision now.world b ≡ None → is_live b now.before ≡ false
dead-at now t b none = false_from_ne_true (is_live b now.before) (λ l. (let k = there-at now t b l in let bad : None ≡ Some k.0 = sym none ∙ k.1 in absurd (cc bad)))

-- an id that was not given has none
pub fresh-at : (now : Moment) → IsTold now → (b : BundleId) → length (installed now.before) < b.0 → current_revision now.world b ≡ None
fresh-at now t b above = at-told (λ m. length (installed m.before) < b.0 → current_revision m.world b ≡ None) (λ setting told tag legal above. (
    let g = always-agrees setting told legal in
    find-none (is_current_of b) (world_after told).known (λ x i. false_from_ne_true _ (λ c. (
    let f = g.known x i in
    let q : x.bundle.0 ≡ b.0 = eqb-true x.bundle.0 b.0 (and_parts x.current _ c).1 in absurd (omega (arith, f, q, above))))))) now t above

-- what is up is resolved
pub up-resolved : (now : Moment) → IsTold now → (b : BundleId) → is_up (state_of now b) ≡ true → is_resolved now.world b ≡ true
up-resolved now t b up =
    let r = running-at now t b up in
    ap (λ o. option_map_or (λ (k : Known). is_in_use now.world.wirings k.id) o false) r.is ∙ in_use-from now.world.wirings r.known.id (inl r.in_force)
