-- Between a BeginRefresh and its DropWirings the closure stays what it was, and no world of a legal history is untidy.
use Rattle.std.proofs.Common.{◌≡◌, ◌⊎◌, inl, inr, ◌+◌, ◌≤◌, ℕ, Bool, true, false, List, [], ◌∷◌, ◌++◌, length, length-append, append-nil, refl, sym, ap, ◌∙◌, subst, arith}
use Rattle.std.specs.Prelude.{◌==◌, ◌&&◌, not, cond, is_some, Option, None, Some, filter, IsSomeAnd, Contains, ⊤}
use Rattle.std.specs.Option.{option_map}
use Rattle.std.proofs.lemmas.Bool.{and_parts, eqb-true, not-true}
use Rattle.std.proofs.lemmas.List.Elements.{All-contains, All-weaker, filter-append}
use Rattle.osgi_base.specs.declared.ids.BundleId.{BundleId}
use Rattle.osgi_base.specs.declared.ids.RevisionId.{RevisionId}
use Rattle.osgi_ops.specs.Bundles.{brings_revision, Bundle, bundle_from, installed, revisions, system}
use Rattle.osgi_ops.specs.Closures.{asked, attached, depends, DependsOn, hosting, IsAsked, IsClosed, IsClosure, IsMember, LeansOn, wired}
use Rattle.osgi_legal.specs.Legal.{AreAllowed, entry_of, IsAllowed}
use Rattle.osgi_ops.specs.Levels.{Refresh, refresh, refresh_by}
use Rattle.osgi_ops.specs.Moments.{entries_in, Moment, moment, Told, world_after}
use Rattle.osgi_legal.specs.Operations.{IsReply}
use Rattle.osgi_ops.specs.Replies.{is_accepted}
use Rattle.osgi_ops.specs.Resolved.{is_in_use, is_resolved, waits_for_removal}
use Rattle.osgi_ops.specs.Resolving.{AnswersResolve, newly_resolved, Resolves}
use Rattle.osgi_ops.specs.Settings.{Setting}
use Rattle.osgi_ops.specs.Worlds.{Brings, dropped, Leaves, pended, with_revision}
use Rattle.osgi_ops.specs.rows.Bundles.{installs, resolve_refusals, unresolved_refusals}
use Rattle.osgi_ops.specs.declared.entry.Entry.{Entry}
use Rattle.osgi_ops.specs.declared.op.Op.{Op}
use Rattle.osgi_ops.specs.declared.op.Op.TheVariants as op
use Rattle.osgi_ops.specs.declared.refusal.Refusal.{Refusal}
use Rattle.osgi_ops.specs.declared.refusal.Refusal.TheVariants as no
use Rattle.osgi_ops.specs.declared.reply.Reply.{Reply}
use Rattle.osgi_ops.specs.declared.reply.Reply.TheVariants as answer
use Rattle.osgi_world.specs.Lists.{In}
use Rattle.osgi_world.specs.System.{known_system}
use Rattle.osgi_world.specs.Wirings.{InForce}
use Rattle.osgi_world.specs.declared.revision.Revision.{Revision}
use Rattle.osgi_world.specs.declared.wiring.Wiring.{Wiring}
use Rattle.osgi_world.specs.declared.world.Known.{Known}
use Rattle.osgi_world.specs.declared.world.World.{World}
use Rattle.osgi_ops.specs.laws.Along.{carry-last, holds}
use Rattle.osgi_ops.specs.laws.Items.{In-left, In-push}
use Rattle.osgi_legal.proofs.Accepted.{accepted, NoneHolds}
use Rattle.osgi_legal.proofs.Legal.{world-last}
use Rattle.osgi_legal.proofs.Owned.{entries-last}
use Rattle.osgi_legal.proofs.Tidy.{any-in, brought-tidy, dropped-tidy, first-tidy, IsTidy, pended-tidy, resolved-tidy}
use Rattle.osgi_stage.proofs.Loads.{load-stays}

-- ---- the closure, with one more revision known

lean-given : (n : ℕ) (world : World) (r s : RevisionId) → IsTidy n world → LeansOn world.wirings r s → (r.0 ≤ n) × (s.0 ≤ n)
lean-given n world r s t (wired {w = w} h) = (of r h.wiring h.stands h.revision, (let f = t.provided h.wiring w h.stands h.has in of w.capability.provider f.wiring f.stands f.revision))
  where
    of : (x : RevisionId) (g : Wiring) → In g world.wirings → g.revision ≡ x → x.0 ≤ n
    of x g i e = let k = t.wired g i in let f = t.few k.0 k.1 in let q : k.0.id.0 ≡ x.0 = ap (λ (y : RevisionId). y.0) (k.2 ∙ e) in omega (arith, f, q)
lean-given n world r s t (hosting h) = (of r h.wiring h.stands h.revision, part h.wiring h.stands s h.has)
  where
    of : (x : RevisionId) (g : Wiring) → In g world.wirings → g.revision ≡ x → x.0 ≤ n
    of x g i e = let k = t.wired g i in let f = t.few k.0 k.1 in let q : k.0.id.0 ≡ x.0 = ap (λ (y : RevisionId). y.0) (k.2 ∙ e) in omega (arith, f, q)

    part : (g : Wiring) → In g world.wirings → (x : RevisionId) → In x g.fragments → x.0 ≤ n
    part g i x j = let k = t.attached g x i j in let f = t.few k.0 k.1 in let q : k.0.id.0 ≡ x.0 = ap (λ (y : RevisionId). y.0) k.2 in omega (arith, f, q)
lean-given n world r s t (attached h) = (part h.wiring h.stands r h.has, of s h.wiring h.stands h.revision)
  where
    of : (x : RevisionId) (g : Wiring) → In g world.wirings → g.revision ≡ x → x.0 ≤ n
    of x g i e = let k = t.wired g i in let f = t.few k.0 k.1 in let q : k.0.id.0 ≡ x.0 = ap (λ (y : RevisionId). y.0) (k.2 ∙ e) in omega (arith, f, q)

    part : (g : Wiring) → In g world.wirings → (x : RevisionId) → In x g.fragments → x.0 ≤ n
    part g i x j = let k = t.attached g x i j in let f = t.few k.0 k.1 in let q : k.0.id.0 ≡ x.0 = ap (λ (y : RevisionId). y.0) k.2 in omega (arith, f, q)

abbrev grown : ℕ → World → BundleId → Revision → World
grown n world b v = with_revision world (record { 0 = n + 1 }) b v

depends-on : (n : ℕ) (world : World) (b : BundleId) (v : Revision) (c d : BundleId) → DependsOn world c d → DependsOn (grown n world b v) c d
depends-on n world b v c d r = record { k = r.k; l = r.l; has = In-left world.known _ r.k r.has; there = In-left world.known _ r.l r.there; of = r.of; of_other = r.of_other; leans = r.leans }

depends-back : (n : ℕ) (world : World) (b : BundleId) (v : Revision) (c d : BundleId) → IsTidy n world → DependsOn (grown n world b v) c d → DependsOn world c d
depends-back n world b v c d t r =
    let given = lean-given n world r.k.id r.l.id t r.leans in
    record { k = r.k; l = r.l; has = old r.k given.0 (In-push world.known new r.k r.has); there = old r.l given.1 (In-push world.known new r.l r.there); of = r.of; of_other = r.of_other; leans = r.leans }
  where
    new : Known
    new = record { id = record { 0 = n + 1 }; bundle = b; current = true; revision = v }

    old : (k : Known) → k.id.0 ≤ n → In k world.known ⊎ (k ≡ new) → In k world.known
    old k f (inl i) = i
    old k f (inr e) = let q : k.id.0 ≡ n + 1 = ap (λ (x : Known). x.id.0) e in absurd (omega (arith, f, q))

member-on : (n : ℕ) (world : World) (b : BundleId) (v : Revision) (Asked : BundleId → Type 0) (c : BundleId) → IsMember world Asked c → IsMember (grown n world b v) Asked c
member-on n world b v Asked c (asked a) = asked a
member-on n world b v Asked c (depends {b = d} r m) = depends (depends-on n world b v c d r) (member-on n world b v Asked d m)

member-back : (n : ℕ) (world : World) (b : BundleId) (v : Revision) (Asked : BundleId → Type 0) (c : BundleId) → IsTidy n world → IsMember (grown n world b v) Asked c → IsMember world Asked c
member-back n world b v Asked c t (asked a) = asked a
member-back n world b v Asked c t (depends {b = d} r m) = depends (depends-back n world b v c d t r) (member-back n world b v Asked d t m)

-- ---- an open refresh that has not dropped

-- its members are the closure, in this world, of what it was begun for; the system bundle was not asked for
pub record IsWindow (world : World) (r : Refresh) : Type 0 where
  pub begun : World
  pub named : List BundleId
  pub closure : IsClosure world (IsAsked begun named) r.members
  pub apart : IsAsked begun named system → ⊥

grown-window : (n : ℕ) (world : World) (b : BundleId) (v : Revision) (r : Refresh) → IsTidy n world → IsWindow world r → IsWindow (grown n world b v) r
grown-window n world b v r t w = record {
  begun = w.begun;
  named = w.named;
  closure = record {
    only = All-weaker (IsMember world (IsAsked w.begun w.named)) (IsMember (grown n world b v) (IsAsked w.begun w.named)) (λ c m. member-on n world b v (IsAsked w.begun w.named) c m) r.members w.closure.only;
    every = λ c m. w.closure.every c (member-back n world b v (IsAsked w.begun w.named) c t m);
    rising = w.closure.rising;
  };
  apart = w.apart;
}

-- nothing makes the system bundle a member
pub system-alone : (n : ℕ) (world : World) (c : BundleId) → IsTidy n world → DependsOn world system c → ⊥
system-alone n world c t d = go (t.system d.k d.has d.of) d.leans
  where
    revision_0 : RevisionId
    revision_0 = record { 0 = 0 }

    by : (r s : RevisionId) → r ≡ revision_0 → LeansOn world.wirings r s → ⊥
    by r s e (wired {w = w} h) = let b = t.bare h.wiring h.stands (h.revision ∙ e) in elim (subst (λ l. In w l) b.0 h.has) [ ]
    by r s e (hosting h) = let b = t.bare h.wiring h.stands (h.revision ∙ e) in elim (subst (λ l. In s l) b.1 h.has) [ ]
    by r s e (attached h) =
        let k = t.attached h.wiring r h.stands h.has in
        let same : k.0 ≡ known_system = t.once k.0 known_system k.1 t.known (k.2 ∙ e) in
        let bad : true ≡ false = sym k.3 ∙ ap (λ (x : Known). is_some x.revision.host) same in cc bad

    go : d.k ≡ known_system → LeansOn world.wirings d.k.id d.l.id → ⊥
    go e l = by d.k.id d.l.id (ap (λ (x : Known). x.id) e) l

no-system : (n : ℕ) (world : World) (Asked : BundleId → Type 0) (b : BundleId) → IsTidy n world → (Asked system → ⊥) → b ≡ system → IsMember world Asked b → ⊥
no-system n world Asked b t apart e (asked a) = apart (subst Asked e a)
no-system n world Asked b t apart e (depends {b = c} d m) = system-alone n world c t (subst (λ x. DependsOn world x c) e d)

pub window-closed : (world : World) (r : Refresh) → IsWindow world r → IsClosed world r.members
window-closed world r w = λ b c d m. w.closure.every c (depends d (All-contains (IsMember world (IsAsked w.begun w.named)) r.members b w.closure.only m))

pub window-outside : (n : ℕ) (world : World) (r : Refresh) → IsTidy n world → IsWindow world r → Contains r.members system → ⊥
window-outside n world r t w c =
    no-system n world (IsAsked w.begun w.named) system t w.apart refl (All-contains (IsMember world (IsAsked w.begun w.named)) r.members system w.closure.only c)

-- the system bundle's only revision is current, so it waits for nothing
not-waiting : (n : ℕ) (world : World) → IsTidy n world → waits_for_removal world system ≡ true → ⊥
not-waiting n world t e =
    let k = any-in (λ (k : Known). not k.current && (k.bundle.0 == system.0) && is_in_use world.wirings k.id) world.known e in
    let p = and_parts (not k.0.current && (k.0.bundle.0 == system.0)) _ k.2 in
    let q = and_parts (not k.0.current) (k.0.bundle.0 == system.0) p.0 in
    let s : k.0 ≡ known_system = t.system k.0 k.1 (let z : k.0.bundle.0 ≡ 0 = eqb-true k.0.bundle.0 0 q.1 in λ i. record { 0 = z i }) in
    let bad : true ≡ false = sym (ap (λ (x : Known). x.current) s) ∙ not-true _ q.0 in cc bad

-- ---- one more entry

pub revisions-more : (h : List Entry) (e : Entry) → brings_revision e.op e.reply ≡ true → revisions (h ++ e ∷ []) ≡ revisions h + 1
revisions-more h e b =
    ap (λ (l : List Entry). length l) (filter-append (λ (x : Entry). brings_revision x.op x.reply) h (e ∷ []) ∙ ap (λ k. filter (λ (x : Entry). brings_revision x.op x.reply) h ++ cond k (e ∷ []) []) b)
    ∙ length-append (filter (λ (x : Entry). brings_revision x.op x.reply) h) (e ∷ [])

pub revisions-same : (h : List Entry) (e : Entry) → brings_revision e.op e.reply ≡ false → revisions (h ++ e ∷ []) ≡ revisions h
revisions-same h e b =
    ap (λ (l : List Entry). length l)
    (filter-append (λ (x : Entry). brings_revision x.op x.reply) h (e ∷ []) ∙ ap (λ k. filter (λ (x : Entry). brings_revision x.op x.reply) h ++ cond k (e ∷ []) []) b ∙ append-nil _)

refresh-last : (h : List Entry) (e : Entry) → refresh (h ++ e ∷ []) ≡ refresh_by (refresh h) e e.op e.reply
refresh-last h e = carry-last (λ before (x : Entry). refresh_by before x x.op x.reply) None h e

-- the world after a legal history, and the closure of a refresh that is open and has not dropped
pub record IsKept (history : List Entry) (world : World) : Type 0 where
  pub tidy : IsTidy (revisions history) world
  pub window : (r : Refresh) → refresh history ≡ Some r → r.dropped ≡ false → IsWindow world r

still : (m : Moment) (o : Op) (y : Reply) (after : World) → after ≡ m.world → brings_revision o y ≡ false → refresh_by (refresh m.before) (entry_of m o y) o y ≡ refresh m.before →
    IsKept m.before m.world → IsKept (m.before ++ entry_of m o y ∷ []) after
still m o y after same none quiet k = subst (IsKept (m.before ++ entry_of m o y ∷ [])) (sym same) (record {
  tidy = subst (λ n. IsTidy n m.world) (sym (revisions-same m.before (entry_of m o y) none)) k.tidy;
  window = λ r e d. k.window r (sym quiet ∙ sym (refresh-last m.before (entry_of m o y)) ∙ e) d;
})

pub leaves-refused : (m : Moment) (o : Op) (f : Refusal) (after : World) → Leaves m o (answer.Refused f) after → after ≡ m.world
leaves-refused m (op.Install location) f after l = l
leaves-refused m (op.Resolve bundle) f after l = l
leaves-refused m (op.Update bundle location) f after l = l
leaves-refused m (op.Uninstall bundle) f after l = l
leaves-refused m op.DropWirings f after l = l
leaves-refused m (op.Load bundle class) f after l = l
leaves-refused m o f after l = l

brings-refused : (o : Op) (f : Refusal) → brings_revision o (answer.Refused f) ≡ false
brings-refused (op.Install location) f = refl
brings-refused (op.Update bundle location) f = refl
brings-refused o f = refl

refresh-refused : (before : Option Refresh) (e : Entry) (o : Op) (f : Refusal) → refresh_by before e o (answer.Refused f) ≡ before
refresh-refused before e (op.BeginRefresh bundles) f = refl
refresh-refused before e op.DropWirings f = refl
refresh-refused before e op.EndRefresh f = refl
refresh-refused before e o f = refl

-- where no refresh is open of this kind, none is after it
none-open : (m : Moment) (Holds : Refresh → Type 0) → ((f : Refusal) → IsSomeAnd (refresh m.before) (λ r. Holds r × (f ≡ no.Refreshing r.tag)) → ⊥) → (r : Refresh) → refresh m.before ≡ Some r → Holds r → ⊥
none-open m Holds n r e h = n (no.Refreshing r.tag) (subst (λ o. IsSomeAnd o (λ r2. Holds r2 × (no.Refreshing r.tag ≡ no.Refreshing r2.tag))) (sym e) (h, refl))

-- the world changed, and no refresh is open
anew : (m : Moment) (o : Op) (y : Reply) (after : World) (n : ℕ) → revisions (m.before ++ entry_of m o y ∷ []) ≡ n → IsTidy n after → refresh_by (refresh m.before) (entry_of m o y) o y ≡ refresh m.before →
    ((r : Refresh) → refresh m.before ≡ Some r → r.dropped ≡ false → ⊥) → IsKept (m.before ++ entry_of m o y ∷ []) after
anew m o y after n count t quiet none = record {
  tidy = subst (λ k. IsTidy k after) (sym count) t;
  window = λ r e d. absurd (none r (sym quiet ∙ sym (refresh-last m.before (entry_of m o y)) ∙ e) d);
}

by-install : (m : Moment) (location : List ℕ) (y : Reply) (after : World) → IsReply m (op.Install location) y → is_accepted y ≡ true → Leaves m (op.Install location) y after → IsKept m.before m.world →
    IsKept (m.before ++ entry_of m (op.Install location) y ∷ []) after
by-install m location y after r acc l k = go (bundle_from m.setting.depot m.before location) (accepted m (op.Install location) y r acc).1
  where
    go : (f : Option Bundle) → y ≡ installs f (length (installed m.before)) → IsKept (m.before ++ entry_of m (op.Install location) y ∷ []) after
    go (Some known) e = subst (λ z. IsKept (m.before ++ entry_of m (op.Install location) z ∷ []) after) (sym e)
        (still m (op.Install location) (answer.Bundle known.bundle true) after (subst (λ z. Leaves m (op.Install location) z after) e l) refl refl k)
    go None e = subst (λ z. IsKept (m.before ++ entry_of m (op.Install location) z ∷ []) after) (sym e) (made (subst (λ z. Leaves m (op.Install location) z after) e l))
      where
        id : BundleId
        id = record { 0 = length (installed m.before) + 1 }

        h : List Entry
        h = m.before ++ entry_of m (op.Install location) (answer.Bundle id false) ∷ []

        made : Brings m id location m.world after → IsKept h after
        made b = subst (IsKept h) (sym b.is) (record {
          tidy = subst (λ n. IsTidy n (grown (revisions m.before) m.world id b.revision)) (sym (revisions-more m.before (entry_of m (op.Install location) (answer.Bundle id false)) refl))
              (brought-tidy (revisions m.before) m.world id b.revision (λ e. (let q : length (installed m.before) + 1 ≡ 0 = ap (λ (x : BundleId). x.0) e in absurd (omega (arith, q)))) k.tidy);
          window = λ r e d. grown-window (revisions m.before) m.world id b.revision r k.tidy (k.window r (sym (refresh-last m.before (entry_of m (op.Install location) (answer.Bundle id false))) ∙ e) d);
        })

by-resolve : (m : Moment) (b : BundleId) (y : Reply) (after : World) → IsReply m (op.Resolve b) y → is_accepted y ≡ true → Leaves m (op.Resolve b) y after → IsKept m.before m.world →
    IsKept (m.before ++ entry_of m (op.Resolve b) y ∷ []) after
by-resolve m b y after r acc l k = go (is_resolved m.world b) refl (accepted m (op.Resolve b) y r acc)
  where
    go : (c : Bool) → is_resolved m.world b ≡ c →
        NoneHolds (resolve_refusals m b) × AnswersResolve (is_resolved m.world b) m b y → IsKept (m.before ++ entry_of m (op.Resolve b) y ∷ []) after
    go true e p =
        let is : y ≡ answer.Resolved [] = subst (λ c. AnswersResolve c m b y) e p.1 in
        let same : after ≡ m.world = subst (λ c. Resolves c m b [] after) e (subst (λ z. Leaves m (op.Resolve b) z after) is l) in
        still m (op.Resolve b) y after same refl refl k
    go false e p =
        let a = subst (λ c. AnswersResolve c m b y) e p.1 in
        let to = subst (λ c. Resolves c m b (newly_resolved m a.0) after) e (subst (λ z. Leaves m (op.Resolve b) z after) a.2 l) in
        let none : NoneHolds (unresolved_refusals false m b) = subst (λ c. NoneHolds (unresolved_refusals c m b)) e p.0.1.1 in
        anew m (op.Resolve b) y after (revisions m.before) (revisions-same m.before (entry_of m (op.Resolve b) y) refl) (resolved-tidy (revisions m.before) m.world after b to.0 k.tidy) refl
        (λ r q d. none-open m (λ r. (r.dropped ≡ false) ⊎ (r.tag ≡ m.tag → ⊥)) none.0 r q (inl d))

by-update : (m : Moment) (u : BundleId) (location : List ℕ) (y : Reply) (after : World) → IsReply m (op.Update u location) y → is_accepted y ≡ true → Leaves m (op.Update u location) y after → IsKept m.before m.world →
    IsKept (m.before ++ entry_of m (op.Update u location) y ∷ []) after
by-update m u location y after r acc l k =
    let p = accepted m (op.Update u location) y r acc in
    let b : Brings m u location (pended u m.world) after = subst (λ z. Leaves m (op.Update u location) z after) p.1 l in
    let apart : u ≡ system → ⊥ = λ e. p.0.1.0 no.InvalidOperation (refl, e) in
    anew m (op.Update u location) y after (revisions m.before + 1) (revisions-more m.before (entry_of m (op.Update u location) y) acc)
    (subst (IsTidy (revisions m.before + 1)) (sym b.is) (brought-tidy (revisions m.before) (pended u m.world) u b.revision apart (pended-tidy (revisions m.before) m.world u apart k.tidy))) refl
    (λ r q d. none-open m (λ r. ⊤) p.0.1.1.0 r q tt)

by-uninstall : (m : Moment) (u : BundleId) (y : Reply) (after : World) → IsReply m (op.Uninstall u) y → is_accepted y ≡ true → Leaves m (op.Uninstall u) y after → IsKept m.before m.world →
    IsKept (m.before ++ entry_of m (op.Uninstall u) y ∷ []) after
by-uninstall m u y after r acc l k =
    let p = accepted m (op.Uninstall u) y r acc in
    let same : after ≡ pended u m.world = subst (λ z. Leaves m (op.Uninstall u) z after) p.1 l in
    let apart : u ≡ system → ⊥ = λ e. p.0.1.0 no.InvalidOperation (refl, e) in
    anew m (op.Uninstall u) y after (revisions m.before) (revisions-same m.before (entry_of m (op.Uninstall u) y) refl)
    (subst (IsTidy (revisions m.before)) (sym same) (pended-tidy (revisions m.before) m.world u apart k.tidy)) refl
    (λ r q d. none-open m (λ r. ⊤) p.0.1.1.0 r q tt)

by-begin : (m : Moment) (named : List BundleId) (y : Reply) (after : World) → IsReply m (op.BeginRefresh named) y → is_accepted y ≡ true → Leaves m (op.BeginRefresh named) y after → IsKept m.before m.world →
    IsKept (m.before ++ entry_of m (op.BeginRefresh named) y ∷ []) after
by-begin m named y after r acc l k =
    let p = accepted m (op.BeginRefresh named) y r acc in
    subst (IsKept (m.before ++ entry_of m (op.BeginRefresh named) y ∷ [])) (sym l) (record {
      tidy = subst (λ n. IsTidy n m.world) (sym (revisions-same m.before (entry_of m (op.BeginRefresh named) y) refl)) k.tidy;
      window = λ r e d.
          let is : Some (record { tag = m.tag; members = p.1.all; dropped = false }) ≡ Some r =
          sym (ap (λ z. refresh_by (refresh m.before) (entry_of m (op.BeginRefresh named) y) (op.BeginRefresh named) z) p.1.says) ∙ sym (refresh-last m.before (entry_of m (op.BeginRefresh named) y)) ∙ e in
          let same : record { tag = m.tag; members = p.1.all; dropped = false } ≡ r = cc is in
          subst (IsWindow m.world) same (record { begun = m.world; named = named; closure = p.1.closure; apart = asked-apart named p.0.1.0 });
    })
  where
    asked-apart : (list : List BundleId) → ((f : Refusal) → (f ≡ no.InvalidOperation) × Contains list system → ⊥) → IsAsked m.world list system → ⊥
    asked-apart [] n a = not-waiting (revisions m.before) m.world k.tidy a
    asked-apart (b ∷ more) n a = n no.InvalidOperation (refl, a)

by-drop : (m : Moment) (y : Reply) (after : World) → IsReply m op.DropWirings y → is_accepted y ≡ true → Leaves m op.DropWirings y after → IsKept m.before m.world →
    IsKept (m.before ++ entry_of m op.DropWirings y ∷ []) after
by-drop m y after r acc l k =
    let p = (accepted m op.DropWirings y r acc).1 in
    let some : IsSomeAnd (refresh m.before) (λ r. after ≡ dropped r.members m.world) = subst (λ z. Leaves m op.DropWirings z after) p.says l in
    let same : after ≡ dropped p.refresh.members m.world = subst (λ o. IsSomeAnd o (λ r. after ≡ dropped r.members m.world)) p.own.0 some in
    let w = k.window p.refresh p.own.0 p.own.2 in
    record {
      tidy = subst (λ n. IsTidy n after) (sym (revisions-same m.before (entry_of m op.DropWirings y) refl))
          (subst (IsTidy (revisions m.before)) (sym same) (dropped-tidy (revisions m.before) m.world p.refresh.members (window-closed m.world p.refresh w) (window-outside (revisions m.before) m.world p.refresh k.tidy w) k.tidy));
      window = λ r e d.
          let is : Some (record p.refresh { dropped = true }) ≡ Some r =
          sym (ap (λ o. option_map (λ (x : Refresh). record x { dropped = true }) o) p.own.0)
          ∙ sym (ap (λ c. cond c (option_map (λ (x : Refresh). record x { dropped = true }) (refresh m.before)) (refresh m.before)) acc)
          ∙ sym (refresh-last m.before (entry_of m op.DropWirings y)) ∙ e in
          let gone : record p.refresh { dropped = true } ≡ r = cc is in
          absurd (let bad : true ≡ false = ap (λ (x : Refresh). x.dropped) gone ∙ d in cc bad);
    }

by-end : (m : Moment) (y : Reply) (after : World) → is_accepted y ≡ true → Leaves m op.EndRefresh y after → IsKept m.before m.world → IsKept (m.before ++ entry_of m op.EndRefresh y ∷ []) after
by-end m y after acc l k = subst (IsKept (m.before ++ entry_of m op.EndRefresh y ∷ [])) (sym l) (record {
  tidy = subst (λ n. IsTidy n m.world) (sym (revisions-same m.before (entry_of m op.EndRefresh y) refl)) k.tidy;
  window = λ r e d.
      absurd (let is : None ≡ Some r = sym (ap (λ c. cond c None (refresh m.before)) acc) ∙ sym (refresh-last m.before (entry_of m op.EndRefresh y)) ∙ e in cc is);
})

by-accepted : (m : Moment) (o : Op) (y : Reply) (after : World) → IsReply m o y → is_accepted y ≡ true → Leaves m o y after → IsKept m.before m.world → IsKept (m.before ++ entry_of m o y ∷ []) after
by-accepted m (op.Install location) y after r acc l k = by-install m location y after r acc l k
by-accepted m (op.Resolve b) y after r acc l k = by-resolve m b y after r acc l k
by-accepted m (op.Update u location) y after r acc l k = by-update m u location y after r acc l k
by-accepted m (op.Uninstall u) y after r acc l k = by-uninstall m u y after r acc l k
by-accepted m (op.BeginRefresh named) y after r acc l k = by-begin m named y after r acc l k
by-accepted m op.DropWirings y after r acc l k = by-drop m y after r acc l k
by-accepted m op.EndRefresh y after r acc l k = by-end m y after acc l k
by-accepted m (op.Load b class) y after r acc l k = still m (op.Load b class) y after (load-stays m b class y after r l) refl refl k
by-accepted m o y after r acc l k = still m o y after l refl refl k

pub refused-is : (y : Reply) → is_accepted y ≡ false → (f : Refusal) × (y ≡ answer.Refused f)
refused-is (answer.Refused f) e = (f, refl)
refused-is y e = absurd (cc e)

pub kept-step : (m : Moment) (o : Op) (y : Reply) (after : World) → IsReply m o y → Leaves m o y after → IsKept m.before m.world → IsKept (m.before ++ entry_of m o y ∷ []) after
kept-step m o y after r l k = go (is_accepted y) refl
  where
    go : (c : Bool) → is_accepted y ≡ c → IsKept (m.before ++ entry_of m o y ∷ []) after
    go true e = by-accepted m o y after r e l k
    go false e =
        let f = refused-is y e in
        subst (λ z. IsKept (m.before ++ entry_of m o z ∷ []) after) (sym f.1)
        (still m o (answer.Refused f.0) after (leaves-refused m o f.0 after (subst (λ z. Leaves m o z after) f.1 l)) (brings-refused o f.0)
        (refresh-refused (refresh m.before) (entry_of m o (answer.Refused f.0)) o f.0) k)

-- of every legal history
pub always-kept : (setting : Setting) (told : List Told) → AreAllowed setting told → IsKept (entries_in told) (world_after told)
always-kept setting told legal =
    holds (IsAllowed setting) (λ l. IsKept (entries_in l) (world_after l)) (record { tidy = first-tidy; window = λ r e d. absurd (cc e) })
    (λ front x before k a.
    subst (λ h. IsKept h (world_after (front ++ x ∷ []))) (sym (entries-last front x))
    (subst (IsKept (entries_in front ++ x.entry ∷ [])) (sym (world-last front x)) (kept-step (moment setting front x.entry.tag) x.entry.op x.entry.reply x.world a.replied a.left k)))
    told legal

-- until the drop the members are the closure of what the refresh was begun for, and the system bundle is none of them
pub members-stay : (setting : Setting) (told : List Told) → AreAllowed setting told → (r : Refresh) → refresh (entries_in told) ≡ Some r → r.dropped ≡ false → IsWindow (world_after told) r
members-stay setting told legal r e d = (always-kept setting told legal).window r e d

pub members-closed : (setting : Setting) (told : List Told) → AreAllowed setting told → (r : Refresh) → refresh (entries_in told) ≡ Some r → r.dropped ≡ false → IsClosed (world_after told) r.members
members-closed setting told legal r e d = window-closed (world_after told) r (members-stay setting told legal r e d)

pub system-outside : (setting : Setting) (told : List Told) → AreAllowed setting told → (r : Refresh) → refresh (entries_in told) ≡ Some r → r.dropped ≡ false → Contains r.members system → ⊥
system-outside setting told legal r e d = let k = always-kept setting told legal in window-outside (revisions (entries_in told)) (world_after told) r k.tidy (k.window r e d)

-- the wiring of the system bundle's revision has no wires and no fragments, and it is always there
pub system-bare : (setting : Setting) (told : List Told) → AreAllowed setting told → (g : Wiring) → In g (world_after told).wirings → g.revision ≡ record { 0 = 0 } → (g.wires ≡ []) × (g.fragments ≡ [])
system-bare setting told legal = (always-kept setting told legal).tidy.bare

pub system-in_force : (setting : Setting) (told : List Told) → AreAllowed setting told → InForce (world_after told).wirings (record { 0 = 0 })
system-in_force setting told legal = (always-kept setting told legal).tidy.in_force
