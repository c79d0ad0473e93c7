-- No two live bundles have one name and one version, in any legal history; and each has a revision in the depot.
use Rattle.std.proofs.Common.{◌≡◌, ◌⊎◌, inl, inr, ◌+◌, ℕ, List, [], ◌∷◌, ◌++◌, length, map, Bool, true, false, refl, sym, ap, ◌∙◌, subst}
use Rattle.std.specs.Prelude.{◌==◌, ◌&&◌, cond, Option, None, Some, unwrap_or, Contains}
use Rattle.std.specs.List.{filter_map}
use Rattle.std.specs.Option.{option_map}
use Rattle.std.proofs.lemmas.Bool.{eq-eqb}
use Rattle.std.proofs.lemmas.List.Elements.{Contains-append_cases}
use Rattle.osgi_base.specs.declared.ids.BundleId.{BundleId}
use Rattle.osgi_ops.specs.Along.{latest}
use Rattle.osgi_ops.specs.Bundles.{Bundle, bundles, bundle_from, Installed, installed, installed_by, live, row_from, source, the_system_bundle, updated_to}
use Rattle.osgi_ops.specs.Depots.{stored_revision, row_number}
use Rattle.osgi_legal.specs.Legal.{AreAllowed, IsAllowed}
use Rattle.osgi_ops.specs.Moments.{entries_in, Moment, moment, Told}
use Rattle.osgi_legal.specs.Operations.{IsReply}
use Rattle.osgi_ops.specs.Replies.{is_accepted}
use Rattle.osgi_ops.specs.Settings.{Setting}
use Rattle.osgi_ops.specs.rows.Bundles.{install_refusals, installs}
use Rattle.osgi_ops.specs.declared.depot.DepotRow.{DepotRow}
use Rattle.osgi_ops.specs.declared.entry.Entry.{Entry}
use Rattle.osgi_ops.specs.declared.op.Op.{Op}
use Rattle.osgi_ops.specs.declared.op.Op.TheVariants as op
use Rattle.osgi_ops.specs.declared.refusal.Refusal.TheVariants as no
use Rattle.osgi_ops.specs.declared.reply.Reply.{Reply}
use Rattle.osgi_ops.specs.declared.reply.Reply.TheVariants as answer
use Rattle.osgi_world.specs.declared.revision.Revision.{Revision}
use Rattle.osgi_ops.specs.laws.Along.{holds}
use Rattle.osgi_ops.specs.laws.Members.{Contains-cases, Contains-filter, Contains-filter_map, Contains-first, Contains-map, Contains-mapped, Contains-more, Contains-none}
use Rattle.osgi_legal.proofs.Accepted.{accepted, NoneHolds}
use Rattle.osgi_ops.specs.laws.Bundles.{later, left_by, live-push, source-by}
use Rattle.osgi_legal.proofs.Owned.{entries-last}
use Rattle.osgi_legal.proofs.Phases.{same-id}

-- ---- rows

-- a row is that of a bundle whose source has a revision
pub row-made : (depot : List DepotRow) (i : Installed) (c : Bundle) → row_from depot i ≡ Some c → (c.bundle ≡ i.bundle) × (stored_revision depot (source i) ≡ Some c.revision)
row-made depot i c e = go (stored_revision depot (source i)) refl e
  where
    go : (o : Option Revision) → stored_revision depot (source i) ≡ o →
        option_map (λ (revision : Revision). record { bundle = i.bundle; location = i.location; row = row_number depot (source i); revision = revision }) o ≡ Some c →
        (c.bundle ≡ i.bundle) × (stored_revision depot (source i) ≡ Some c.revision)
    go None q s = absurd (cc s)
    go (Some v) q s =
        let same : record { bundle = i.bundle; location = i.location; row = row_number depot (source i); revision = v } ≡ c = cc s in
        (sym (ap (λ (x : Bundle). x.bundle) same), q ∙ ap Some (ap (λ (x : Bundle). x.revision) same))

-- ---- rows after one more entry

-- the row is that of the bundle that the entry installed behind n others, or updated
pub record IsBrought (depot : List DepotRow) (n : ℕ) (e : Entry) (c : Bundle) : Type 0 where
  pub location : List ℕ
  pub read : stored_revision depot location ≡ Some c.revision
  pub by :
      ((id : BundleId) × (e.op ≡ op.Install location) × (e.reply ≡ answer.Bundle id false) × (c.bundle ≡ record { 0 = n + 1 }))
      ⊎ ((e.op ≡ op.Update c.bundle location) × (is_accepted e.reply ≡ true))

pub update-is : (b : BundleId) (o : Op) (reply : Reply) (location : List ℕ) → updated_to b o reply ≡ Some location → (o ≡ op.Update b location) × (is_accepted reply ≡ true)
update-is b (op.Update u l) reply location e = go (is_accepted reply) (u.0 == b.0) refl refl e
  where
    go : (k s : Bool) → is_accepted reply ≡ k → (u.0 == b.0) ≡ s → cond (k && s) (Some l) None ≡ Some location → (op.Update u l ≡ op.Update b location) × (is_accepted reply ≡ true)
    go true true f g q =
        let same : u ≡ b = same-id u b g in
        let where_to : l ≡ location = cc q in
        ((λ i. op.Update (same i) (where_to i)), f)
    go true false f g q = absurd (cc q)
    go false s f g q = absurd (cc q)
update-is b o reply location e = absurd (cc e)

new-is : (n : ℕ) (o : Op) (reply : Reply) (i : Installed) → Contains (installed_by n o reply []) i →
    (id : BundleId) × (o ≡ op.Install i.location) × (reply ≡ answer.Bundle id false) × (i.since ≡ []) × (i.bundle ≡ record { 0 = n + 1 })
new-is n (op.Install location) (answer.Bundle b false) i c = go (Contains-cases _ [] i c)
  where
    go : (record { bundle = record { 0 = n + 1 }; location = location; since = [] } ≡ i) ⊎ Contains [] i →
        (id : BundleId) × (op.Install location ≡ op.Install i.location) × (answer.Bundle b false ≡ answer.Bundle id false) × (i.since ≡ []) × (i.bundle ≡ record { 0 = n + 1 })
    go (inl s) = (b, ap (λ (x : Installed). op.Install x.location) s, refl, sym (ap (λ (x : Installed). x.since) s), sym (ap (λ (x : Installed). x.bundle) s))
    go (inr j) = absurd (Contains-none i j)
new-is n o reply i c = absurd (Contains-none i c)

-- each row is one of those before with its revision, or what the entry brought
pub row-cases : (depot : List DepotRow) (h : List Entry) (e : Entry) (c : Bundle) → Contains (bundles depot (h ++ e ∷ [])) c →
    ((d : Bundle) × Contains (bundles depot h) d × (d.bundle ≡ c.bundle) × (d.revision ≡ c.revision)) ⊎ IsBrought depot (length (installed h)) e c
row-cases depot h e c there = first (Contains-cases the_system_bundle _ c there)
  where
    new : List Installed
    new = installed_by (length (installed h)) e.op e.reply []

    Goal : Type 0
    Goal = ((d : Bundle) × Contains (bundles depot h) d × (d.bundle ≡ c.bundle) × (d.revision ≡ c.revision)) ⊎ IsBrought depot (length (installed h)) e c

    old : (i : Installed) → Contains (live h) i → row_from depot (later e i) ≡ Some c → (u : Option (List ℕ)) → updated_to i.bundle e.op e.reply ≡ u → Goal
    old i in_h r None q =
        let same : source (later e i) ≡ source i = source-by i e None q in
        let row : row_from depot i ≡ Some c =
        sym (ap (λ s. option_map (λ (revision : Revision). record { bundle = i.bundle; location = i.location; row = row_number depot s; revision = revision }) (stored_revision depot s)) same) ∙ r in
        inl (c, Contains-more the_system_bundle _ c (Contains-mapped (row_from depot) (live h) i c in_h row), refl, refl)
    old i in_h r (Some location) q =
        let m = row-made depot (later e i) c r in
        let u = update-is i.bundle e.op e.reply location q in
        inr (record {
          location = location;
          read = ap (stored_revision depot) (sym (source-by i e (Some location) q)) ∙ m.1;
          by = inr (u.0 ∙ ap (λ b. op.Update b location) (sym m.0), u.1);
        })

    fresh : (i : Installed) → Contains new i → row_from depot i ≡ Some c → Goal
    fresh i n r =
        let m = row-made depot i c r in
        let k = new-is (length (installed h)) e.op e.reply i n in
        let at : source i ≡ i.location = ap (λ (l : List Entry). unwrap_or (latest (λ (x : Entry). updated_to i.bundle x.op x.reply) l) i.location) k.3 in
        inr (record { location = i.location; read = ap (stored_revision depot) (sym at) ∙ m.1; by = inl (k.0, k.1, k.2, m.0 ∙ k.4) })

    one : (i : Installed) → Contains (map (later e) (left_by e (live h))) i ⊎ Contains new i → row_from depot i ≡ Some c → Goal
    one i (inl k) r =
        let l = Contains-map (later e) (left_by e (live h)) i k in
        let f = Contains-filter _ (live h) l.0 l.1 in
        old l.0 f.0 (ap (row_from depot) l.2 ∙ r) (updated_to l.0.bundle e.op e.reply) refl
    one i (inr n) r = fresh i n r

    first : (the_system_bundle ≡ c) ⊎ Contains (filter_map (row_from depot) (live (h ++ e ∷ []))) c → Goal
    first (inl s) = inl (the_system_bundle, Contains-first the_system_bundle _, ap (λ (x : Bundle). x.bundle) s, ap (λ (x : Bundle). x.revision) s)
    first (inr i) =
        let l = Contains-filter_map (row_from depot) (live (h ++ e ∷ [])) c i in
        one l.0 (Contains-append_cases (map (later e) (left_by e (live h))) new l.0 (subst (λ (k : List Installed). Contains k l.0) (live-push h e) l.1)) l.2

-- ---- names

-- of two rows with one name and one version the bundles are one
abbrev pub AreNamedApart : List Bundle → Type 0
AreNamedApart rows = (b c : Bundle) → Contains rows b → Contains rows c → b.revision.name ≡ c.revision.name → b.revision.version ≡ c.revision.version → b.bundle ≡ c.bundle

-- what an accepted operation brought is no duplicate of a live bundle
not-duplicate : (m : Moment) (e : Entry) (c d : Bundle) → IsReply m e.op e.reply → IsBrought m.setting.depot (length (installed m.before)) e c → Contains (bundles m.setting.depot m.before) d →
    d.revision.name ≡ c.revision.name → d.revision.version ≡ c.revision.version → d.bundle ≡ c.bundle
not-duplicate m e c d r i there name version = by-kind i.by
  where
    depot : List DepotRow
    depot = m.setting.depot

    installing : (f : Option Bundle) → bundle_from depot m.before i.location ≡ f → (id : BundleId) → IsReply m (op.Install i.location) (answer.Bundle id false) → d.bundle ≡ c.bundle
    installing (Some known) q id s =
        let a : answer.Bundle id false ≡ installs (bundle_from depot m.before i.location) (length (installed m.before)) = (accepted m (op.Install i.location) (answer.Bundle id false) s refl).1 in
        let b : answer.Bundle id false ≡ answer.Bundle known.bundle true = a ∙ ap (λ (o : Option Bundle). installs o (length (installed m.before))) q in
        absurd (cc b)
    installing None q id s =
        let none : NoneHolds (install_refusals None m i.location) =
        subst (λ (o : Option Bundle). NoneHolds (install_refusals o m i.location)) q (accepted m (op.Install i.location) (answer.Bundle id false) s refl).0 in
        absurd (none.1.0 (no.DuplicateBundle d.bundle)
        (record { revision = c.revision; is = i.read; other = d; live = there; apart = (λ s. cc s); name = name; version = version; says = refl }))

    updating : IsReply m (op.Update c.bundle i.location) e.reply → is_accepted e.reply ≡ true → (k : Bool) → (d.bundle.0 == c.bundle.0) ≡ k → d.bundle ≡ c.bundle
    updating s f true q = same-id d.bundle c.bundle q
    updating s f false q =
        let none = (accepted m (op.Update c.bundle i.location) e.reply s f).0 in
        absurd (none.1.1.1.1.1.0 (no.DuplicateBundle d.bundle)
        (record {
          revision = c.revision;
          is = i.read;
          other = d;
          live = there;
          apart = λ s. (let t : c.bundle ≡ d.bundle = cc s in let bad : true ≡ false = sym (own d.bundle) ∙ ap (λ (x : BundleId). d.bundle.0 == x.0) (sym t) ∙ q in cc bad);
          name = name;
          version = version;
          says = refl;
        }))
      where
        own : (b : BundleId) → (b.0 == b.0) ≡ true
        own b = eq-eqb b.0 b.0 refl

    by-kind : ((id : BundleId) × (e.op ≡ op.Install i.location) × (e.reply ≡ answer.Bundle id false) × (c.bundle ≡ record { 0 = length (installed m.before) + 1 })) ⊎ ((e.op ≡ op.Update c.bundle i.location) × (is_accepted e.reply ≡ true)) → d.bundle ≡ c.bundle
    by-kind (inl k) = installing (bundle_from depot m.before i.location) refl k.0 (subst (λ y. IsReply m (op.Install i.location) y) k.2 (subst (λ o. IsReply m o e.reply) k.1 r))
    by-kind (inr k) = updating (subst (λ o. IsReply m o e.reply) k.0 r) k.1 (d.bundle.0 == c.bundle.0) refl

both-brought : (depot : List DepotRow) (n : ℕ) (e : Entry) (b c : Bundle) → IsBrought depot n e b → IsBrought depot n e c → b.bundle ≡ c.bundle
both-brought depot n e b c i j = go i.by j.by
  where
    go : ((id : BundleId) × (e.op ≡ op.Install i.location) × (e.reply ≡ answer.Bundle id false) × (b.bundle ≡ record { 0 = n + 1 })) ⊎ ((e.op ≡ op.Update b.bundle i.location) × (is_accepted e.reply ≡ true)) →
        ((id : BundleId) × (e.op ≡ op.Install j.location) × (e.reply ≡ answer.Bundle id false) × (c.bundle ≡ record { 0 = n + 1 })) ⊎ ((e.op ≡ op.Update c.bundle j.location) × (is_accepted e.reply ≡ true)) →
        b.bundle ≡ c.bundle
    go (inl k) (inl l) = k.3 ∙ sym l.3
    go (inl k) (inr l) = absurd (let s : op.Install i.location ≡ op.Update c.bundle j.location = sym k.1 ∙ l.0 in cc s)
    go (inr k) (inl l) = absurd (let s : op.Update b.bundle i.location ≡ op.Install j.location = sym k.0 ∙ l.1 in cc s)
    go (inr k) (inr l) = let s : op.Update b.bundle i.location ≡ op.Update c.bundle j.location = sym k.0 ∙ l.0 in cc s

names-step : (setting : Setting) (front : List Told) (x : Told) → IsAllowed setting front x → AreNamedApart (bundles setting.depot (entries_in front)) →
    AreNamedApart (bundles setting.depot (entries_in front ++ x.entry ∷ []))
names-step setting front x a apart b c in_b in_c name version =
    go (row-cases setting.depot (entries_in front) x.entry b in_b) (row-cases setting.depot (entries_in front) x.entry c in_c)
  where
    Row : Bundle → Type 0
    Row r = ((d : Bundle) × Contains (bundles setting.depot (entries_in front)) d × (d.bundle ≡ r.bundle) × (d.revision ≡ r.revision))
        ⊎ IsBrought setting.depot (length (installed (entries_in front))) x.entry r

    m : Moment
    m = moment setting front x.entry.tag

    go : Row b → Row c → b.bundle ≡ c.bundle
    go (inl d) (inl f) =
        sym d.2
        ∙ apart d.0 f.0 d.1 f.1 (ap (λ (v : Revision). v.name) d.3 ∙ name ∙ sym (ap (λ (v : Revision). v.name) f.3)) (ap (λ (v : Revision). v.version) d.3 ∙ version ∙ sym (ap (λ (v : Revision). v.version) f.3))
        ∙ f.2
    go (inl d) (inr j) =
        sym d.2 ∙ not-duplicate m x.entry c d.0 a.replied j d.1 (ap (λ (v : Revision). v.name) d.3 ∙ name) (ap (λ (v : Revision). v.version) d.3 ∙ version)
    go (inr i) (inl f) =
        sym (not-duplicate m x.entry b f.0 a.replied i f.1 (ap (λ (v : Revision). v.name) f.3 ∙ sym name) (ap (λ (v : Revision). v.version) f.3 ∙ sym version)) ∙ f.2
    go (inr i) (inr j) = both-brought setting.depot (length (installed (entries_in front))) x.entry b c i j

first-apart : (depot : List DepotRow) → AreNamedApart (bundles depot [])
first-apart depot b c i j name version = go (Contains-cases the_system_bundle [] b i) (Contains-cases the_system_bundle [] c j)
  where
    go : (the_system_bundle ≡ b) ⊎ Contains [] b → (the_system_bundle ≡ c) ⊎ Contains [] c → b.bundle ≡ c.bundle
    go (inl s) (inl t) = ap (λ (r : Bundle). r.bundle) (sym s ∙ t)
    go (inl s) (inr k) = absurd (Contains-none c k)
    go (inr k) t = absurd (Contains-none b k)

-- of every legal history
pub names-apart : (setting : Setting) (told : List Told) → AreAllowed setting told → AreNamedApart (bundles setting.depot (entries_in told))
names-apart setting told legal =
    holds (IsAllowed setting) (λ l. AreNamedApart (bundles setting.depot (entries_in l))) (first-apart setting.depot)
    (λ front x before apart a. subst (λ h. AreNamedApart (bundles setting.depot h)) (sym (entries-last front x)) (names-step setting front x a apart)) told legal
