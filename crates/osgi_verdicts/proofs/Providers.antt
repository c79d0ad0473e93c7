-- In each world of a legal history the wires of one revision for one package have one provider.
use Rattle.std.proofs.Common.{◌≡◌, inl, inr, ◌+◌, ◌≤◌, ℕ, Bool, true, false, IsTrue, cond, List, [], ◌∷◌, ◌++◌, refl, sym, ap, ◌∙◌, subst, arith}
use Rattle.std.specs.Prelude.{Option, None, Some, IsSomeAnd, slice_get, option_and_then, ◌==◌}
use Rattle.std.specs.Option.{option_map, option_map_or}
use Rattle.std.proofs.lemmas.Bool.{eqb-true}
use Rattle.osgi_base.specs.declared.ids.BundleId.{BundleId}
use Rattle.osgi_base.specs.declared.ids.RevisionId.{RevisionId}
use Rattle.osgi_legal.proofs.Legal.{at-told, world-last}
use Rattle.osgi_legal.proofs.Owned.{entries-last}
use Rattle.osgi_legal.proofs.Tidy.{extends-of, IsTidy, known-bundle, passed-id}
use Rattle.osgi_stage.proofs.Windows.{always-kept, revisions-more, revisions-same}
use Rattle.osgi_ops.specs.Bundles.{brings_revision, revisions}
use Rattle.osgi_legal.specs.Legal.{AreAllowed, entry_of, IsAllowed, IsTold}
use Rattle.osgi_ops.specs.Levels.{Refresh, refresh}
use Rattle.osgi_ops.specs.Moments.{entries_in, first_world, Moment, moment, Told, world_after}
use Rattle.osgi_ops.specs.Resolved.{is_current_of, is_resolved}
use Rattle.osgi_ops.specs.Resolving.{Resolves}
use Rattle.osgi_ops.specs.Settings.{Setting}
use Rattle.osgi_ops.specs.Worlds.{Brings, dropped, Leaves, passed, pended, stays_known, with_revision}
use Rattle.osgi_ops.specs.declared.entry.Entry.{Entry}
use Rattle.osgi_ops.specs.declared.op.Op.{Op}
use Rattle.osgi_ops.specs.declared.op.Op.TheVariants as op
use Rattle.osgi_ops.specs.declared.reply.Reply.{Reply}
use Rattle.osgi_ops.specs.declared.reply.Reply.TheVariants as answer
use Rattle.osgi_ops.specs.laws.Along.{holds}
use Rattle.osgi_ops.specs.laws.Items.{found-in, In-filter, In-map, In-push}
use Rattle.osgi_world.specs.Consistency.{Extends}
use Rattle.osgi_world.specs.Lists.{In}
use Rattle.osgi_world.specs.Lookups.{capability_at, known_at, revision_at}
use Rattle.osgi_world.specs.Satisfaction.{is_package}
use Rattle.osgi_world.specs.Wirings.{HasWire, IsExport, PackageWire}
use Rattle.osgi_world.specs.declared.capability.Capability.{Capability}
use Rattle.osgi_world.specs.declared.revision.Revision.{Revision}
use Rattle.osgi_world.specs.declared.wiring.Wire.{Wire}
use Rattle.osgi_world.specs.declared.wiring.Wiring.{Wiring}
use Rattle.osgi_world.specs.declared.world.Known.{Known}
use Rattle.osgi_world.specs.declared.world.World.{World}
use Rattle.osgi_stage.proofs.Loads.{load-stays}
use Rattle.osgi_legal.specs.Operations.{IsReply}

-- a world in which so many revisions were brought: one provider for each package of each revision, and capabilities of given revisions alone
pub record IsWired (n : ℕ) (world : World) : Type 0 where
  pub one : (r : RevisionId) (p : List ℕ) (x y : RevisionId) → PackageWire world.known world.wirings r p x → PackageWire world.known world.wirings r p y → x ≡ y
  pub owned : (r : RevisionId) (w : Wire) → HasWire world.wirings r w → w.capability.owner.0 ≤ n

-- ---- a world that has no more wirings, and of the revisions that were given knows no more

record IsWithin (n : ℕ) (world after : World) : Type 0 where
  pub wirings : (g : Wiring) → In g after.wirings → In g world.wirings
  pub known : (k : Known) → In k after.known → k.id.0 ≤ n → (l : Known) × In l world.known × (l.id ≡ k.id) × (l.revision ≡ k.revision)

-- what is known under an id is of the revision with this id
known-is : (K : List Known) (r : RevisionId) (k : Known) → known_at K r ≡ Some k → In k K × (k.id ≡ r)
known-is K r k q =
    let i = found-in (λ (l : Known). l.id.0 == r.0) K k q in
    (i.0, (let s : k.id.0 ≡ r.0 = eqb-true k.id.0 r.0 i.1 in λ j. record { 0 = s j }))

-- what the owner has at this place is an export of the package
abbrev IsExportOf : ℕ → List ℕ → Option Revision → Type 0
IsExportOf index p o =
    let at : Option Capability = option_and_then (λ (v : Revision). slice_get v.capabilities index) o in
    IsTrue (is_package (option_map_or (λ (c : Capability). c.namespace) at [])) × (option_map_or (λ (c : Capability). c.name) at [] ≡ p)

module _ (n : ℕ) (world after : World) (t : IsTidy n world) (within : IsWithin n world after) (wired : IsWired n world) where
  export-back : (owner : RevisionId) (index : ℕ) (p : List ℕ) → owner.0 ≤ n → IsExport after.known owner index p → IsExport world.known owner index p
  export-back owner index p given e = go (known_at after.known owner) refl
    where
      go : (o : Option Known) → known_at after.known owner ≡ o → IsExport world.known owner index p
      go None q =
          let none : IsExportOf index p None = subst (λ o. IsExportOf index p (option_map (λ (k : Known). k.revision) o)) q e in
          absurd (let bad : false ≡ true = none.0 in cc bad)
      go (Some k) q =
          let i = known-is after.known owner k q in
          let l = within.known k i.0 (subst (λ (r : RevisionId). r.0 ≤ n) (sym i.1) given) in
          let at : known_at world.known owner ≡ Some l.0 = known-bundle world.known t.once l.0 l.1 owner (l.2 ∙ i.1) in
          let same : revision_at after.known owner ≡ revision_at world.known owner =
          ap (λ o. option_map (λ (k : Known). k.revision) o) q ∙ ap Some (sym l.3) ∙ sym (ap (λ o. option_map (λ (k : Known). k.revision) o) at) in
          subst (IsExportOf index p) same e

  wire-back : (r : RevisionId) (w : Wire) → HasWire after.wirings r w → HasWire world.wirings r w
  wire-back r w h = record { wiring = h.wiring; stands = within.wirings h.wiring h.stands; revision = h.revision; has = h.has }

  package-back : (r : RevisionId) (p : List ℕ) (x : RevisionId) → PackageWire after.known after.wirings r p x → PackageWire world.known world.wirings r p x
  package-back r p x a =
      let has = wire-back r a.wire a.has in
      record { wire = a.wire; has = has; export = export-back a.wire.capability.owner a.wire.capability.index p (wired.owned r a.wire has) a.export; provider = a.provider }

  within-wired : (m : ℕ) → n ≤ m → IsWired m after
  within-wired m more = record {
    one = λ r p x y a b. wired.one r p x y (package-back r p x a) (package-back r p y b);
    owned = λ r w h. (let few = wired.owned r w (wire-back r w h) in omega (arith, few, more));
  }

-- ---- what an entry leaves

-- one more revision
brought-within : (n : ℕ) (world after : World) (b : BundleId) (v : Revision) → IsWithin n world after → IsWithin n world (with_revision after (record { 0 = n + 1 }) b v)
brought-within n world after b v w = record {
  wirings = w.wirings;
  known = λ k i given. elim (In-push after.known _ k i) [
    | inl j ↦ w.known k j given
    | inr s ↦ absurd (let number : k.id.0 ≡ n + 1 = ap (λ (x : Known). x.id.0) s in omega (arith, number, given))
  ];
}

itself-within : (n : ℕ) (world : World) → IsWithin n world world
itself-within n world = record { wirings = λ g i. i; known = λ k i given. (k, i, refl, refl) }

passed-revision : (b : BundleId) (k : Known) → (passed b k).revision ≡ k.revision
passed-revision b k = go (is_current_of b k)
  where
    go : (c : Bool) → (cond c (record k { current = false }) k).revision ≡ k.revision
    go true = refl
    go false = refl

pended-within : (n : ℕ) (b : BundleId) (world : World) → IsWithin n world (pended b world)
pended-within n b world = record {
  wirings = λ g i. i;
  known = λ k i given. (
      let l = In-map (passed b) _ k i in
      (l.0, (In-filter (stays_known world.wirings b) world.known l.0 l.1).0, sym (passed-id b l.0) ∙ sym (ap (λ (x : Known). x.id) l.2), sym (passed-revision b l.0) ∙ sym (ap (λ (x : Known). x.revision) l.2)));
}

dropped-within : (n : ℕ) (members : List BundleId) (world : World) → IsWithin n world (dropped members world)
dropped-within n members world = record {
  wirings = λ g i. (In-filter _ world.wirings g i).0;
  known = λ k i given. (k, (In-filter _ world.known k i).0, refl, refl);
}

-- more wirings
revision-given : (n : ℕ) (world : World) → IsTidy n world → (r : RevisionId) (index : ℕ) (c : Capability) → capability_at world.known r index ≡ Some c → r.0 ≤ n
revision-given n world t r index c at = go (known_at world.known r) refl
  where
    go : (o : Option Known) → known_at world.known r ≡ o → r.0 ≤ n
    go None q =
        let none : None ≡ Some c = sym (ap (λ o. option_and_then (λ (v : Revision). slice_get v.capabilities index) (option_map (λ (k : Known). k.revision) o)) q) ∙ at in
        absurd (cc none)
    go (Some k) q =
        let i = known-is world.known r k q in
        let few = t.few k i.0 in
        let number : k.id.0 ≡ r.0 = ap (λ (x : RevisionId). x.0) i.1 in
        omega (arith, few, number)

extended-wired : (n : ℕ) (world after : World) (root : RevisionId) → IsTidy n world → after.known ≡ world.known → Extends world.known world.wirings after.wirings root → IsWired n after
extended-wired n world after root t known x = subst (λ K. IsWired n (record { known = K; wirings = after.wirings })) (sym known) (record {
  one = x.consistent.coherent.rules.one_provider;
  owned = λ r w h. (let s = x.consistent.satisfied r w h in revision-given n world t w.capability.owner w.capability.index s.capability s.capability_is);
})

more : (h : List Entry) (e : Entry) → revisions h ≤ revisions (h ++ e ∷ [])
more h e = go (brings_revision e.op e.reply) refl
  where
    go : (k : Bool) → brings_revision e.op e.reply ≡ k → revisions h ≤ revisions (h ++ e ∷ [])
    go true q = let n = revisions-more h e q in omega (arith, n)
    go false q = let n = revisions-same h e q in omega (arith, n)

module _ (m : Moment) (t : IsTidy (revisions m.before) m.world) (wired : IsWired (revisions m.before) m.world) where
  leave-within : (o : Op) (y : Reply) (after : World) → IsWithin (revisions m.before) m.world after → IsWired (revisions (m.before ++ entry_of m o y ∷ [])) after
  leave-within o y after w = within-wired (revisions m.before) m.world after t w wired (revisions (m.before ++ entry_of m o y ∷ [])) (more m.before (entry_of m o y))

  same-wired : (o : Op) (y : Reply) (after : World) → after ≡ m.world → IsWired (revisions (m.before ++ entry_of m o y ∷ [])) after
  same-wired o y after same = leave-within o y after (subst (IsWithin (revisions m.before) m.world) (sym same) (itself-within (revisions m.before) m.world))

  brings-wired : (o : Op) (y : Reply) (b : BundleId) (location : List ℕ) (before after : World) → IsWithin (revisions m.before) m.world before → Brings m b location before after →
      IsWired (revisions (m.before ++ entry_of m o y ∷ [])) after
  brings-wired o y b location before after w brought =
      leave-within o y after (subst (IsWithin (revisions m.before) m.world) (sym brought.is) (brought-within (revisions m.before) m.world before b brought.revision w))

  resolves-wired : (o : Op) (y : Reply) (b : BundleId) (added : List BundleId) (resolved : Bool) (after : World) → Resolves resolved m b added after → IsWired (revisions (m.before ++ entry_of m o y ∷ [])) after
  resolves-wired o y b added true after l = same-wired o y after l
  resolves-wired o y b added false after l =
      let x = extends-of m.world after b l.0 in
      let w = extended-wired (revisions m.before) m.world after x.0 t x.1 x.2 in
      let grown = more m.before (entry_of m o y) in
      record { one = w.one; owned = λ r v h. (let few = w.owned r v h in omega (arith, few, grown)) }

  drops-wired : (o : Op) (y : Reply) (begun : Option Refresh) (after : World) → IsSomeAnd begun (λ r. after ≡ dropped r.members m.world) → IsWired (revisions (m.before ++ entry_of m o y ∷ [])) after
  drops-wired o y None after l = absurd l
  drops-wired o y (Some r) after l = leave-within o y after (subst (IsWithin (revisions m.before) m.world) (sym l) (dropped-within (revisions m.before) r.members m.world))

  leaves-wired : (o : Op) (y : Reply) (after : World) → IsReply m o y → Leaves m o y after → IsWired (revisions (m.before ++ entry_of m o y ∷ [])) after
  leaves-wired (op.Install location) (answer.Bundle b false) after r l = brings-wired _ _ b location m.world after (itself-within (revisions m.before) m.world) l
  leaves-wired (op.Resolve b) (answer.Resolved added) after r l = resolves-wired _ _ b added (is_resolved m.world b) after l
  leaves-wired (op.Update b location) answer.Done after r l = brings-wired _ _ b location (pended b m.world) after (pended-within (revisions m.before) b m.world) l
  leaves-wired (op.Uninstall b) answer.Done after r l = leave-within _ _ after (subst (IsWithin (revisions m.before) m.world) (sym l) (pended-within (revisions m.before) b m.world))
  leaves-wired op.DropWirings (answer.Ids ids) after r l = drops-wired _ _ (refresh m.before) after l
  leaves-wired (op.Load b class) y after r l = same-wired _ _ after (load-stays m b class y after r l)
  leaves-wired o y after r l = same-wired o y after l

-- ---- every legal history

first-wired : IsWired 0 first_world
first-wired = record { one = λ r p x y a b. absurd (none r a.wire a.has); owned = λ r w h. absurd (none r w h) }
  where
    none : (r : RevisionId) (w : Wire) → HasWire first_world.wirings r w → ⊥
    none r w h = elim h.stands [
      | inl s ↦ elim (subst (λ (g : Wiring). In w g.wires) s h.has) [ ]
      | inr i ↦ elim i [ ]
    ]

all-wired : (setting : Setting) (told : List Told) → AreAllowed setting told → IsWired (revisions (entries_in told)) (world_after told)
all-wired setting told legal =
    holds (IsAllowed setting) (λ l. IsWired (revisions (entries_in l)) (world_after l)) first-wired
    (λ front x before wired a.
    subst (λ h. IsWired (revisions h) (world_after (front ++ x ∷ []))) (sym (entries-last front x))
    (subst (IsWired (revisions (entries_in front ++ x.entry ∷ []))) (sym (world-last front x))
    (leaves-wired (moment setting front x.entry.tag) (always-kept setting front before).tidy wired x.entry.op x.entry.reply x.world a.replied a.left)))
    told legal

pub one-provider : (now : Moment) → IsTold now → (r : RevisionId) (p : List ℕ) (x y : RevisionId) → PackageWire now.world.known now.world.wirings r p x → PackageWire now.world.known now.world.wirings r p y → x ≡ y
one-provider now told =
    at-told (λ m. (r : RevisionId) (p : List ℕ) (x y : RevisionId) → PackageWire m.world.known m.world.wirings r p x → PackageWire m.world.known m.world.wirings r p y → x ≡ y)
    (λ setting told tag legal. (all-wired setting told legal).one) now told
