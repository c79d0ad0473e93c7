-- What stays traced as more is traced, and what a trace says of constraints.
use Rattle.std.proofs.Common.{◌≡◌, ℕ, [], ◌∷◌, ◌++◌, cond, true, refl, sym, ◌∙◌, ap, subst, append_assoc, append-nil, Contains}
use Rattle.std.proofs.lemmas.List.Elements.{Contains-append_left, Contains-push}
use Rattle.std.specs.BTreeMap.{is_at}
use Rattle.osgi_space_rows.specs.Rows.{RowLists}
use Rattle.osgi_space_rows.specs.computed.Groups as groups
use Rattle.osgi_space_rows.specs.computed.Groups.{values_of}
use Rattle.osgi_space_rows.specs.declared.grouped.Grouped.{Grouped}
use Rattle.osgi_space_sources.specs.computed.Exact.{exact_given, given_cmp}
use Rattle.osgi_space_sources.specs.computed.Leads.{FollowsFrom, IsLead, IsUnder, LeadsBack}
use Rattle.osgi_space_sources.specs.computed.Pairs.{IsUse, MayUse}
use Rattle.osgi_space_sources.specs.computed.Reach.{Reach, starts, steps}
use Rattle.osgi_space_sources.specs.computed.RowSources.{ExportUses, Sources}
use Rattle.osgi_space_sources.specs.computed.Traces.{AreTraced, IsTraced, IsTracedTo, Keeps, UsesFrom}
use Rattle.osgi_space_sources.specs.declared.given.Given.{Given}
use Rattle.osgi_space_sources.specs.declared.lead.Lead.{Lead}
use Rattle.osgi_space_sources.specs.declared.trace.Trace.{Trace}
use Rattle.osgi_space_sources.proofs.Using.{use-may}
use Rattle.osgi_space_sources.proofs.Whole.{grown-kept}

-- ---- values by a key

module _ (old new : Grouped Given Given) (key value : Given) (adds : groups.Adds given_cmp old new key value) where
  pub under-kept : (h s : Given) → IsUnder old h s → IsUnder new h s
  under-kept h s at = subst (λ xs. Contains xs s) (sym (adds h)) (Contains-append_left (values_of given_cmp old h) (cond (is_at (given_cmp key) h) (value ∷ []) []) s at)

  pub under-pushed : IsUnder new key value
  under-pushed =
      let here : is_at (given_cmp key) key ≡ true = (exact_given key key).1 refl in
      let more : values_of given_cmp new key ≡ values_of given_cmp old key ++ value ∷ [] = adds key ∙ ap (λ b. values_of given_cmp old key ++ cond b (value ∷ []) []) here in
      subst (λ xs. Contains xs value) (sym more) (Contains-push (values_of given_cmp old key) value)

-- ---- what was traced stays so

pub keeps-same : (t : Trace) → Keeps t t
keeps-same t = record {
  exports = ([], sym (append-nil t.exports));
  users = λ h k u. u;
  leads = λ l at. at;
}

pub keeps-then : {a b c : Trace} → Keeps a b → Keeps b c → Keeps a c
keeps-then {a} {b} {c} first second = record {
  exports = (first.exports.0 ++ second.exports.0, second.exports.1 ∙ ap (λ xs. xs ++ second.exports.0) first.exports.1 ∙ append_assoc a.exports first.exports.0 second.exports.0);
  users = λ h k u. second.users h k (first.users h k u);
  leads = λ l at. second.leads l (first.leads l at);
}

module _ (R : RowLists) (A D : ℕ → Type 0) (old new : Trace) (keeps : Keeps old new) where
  pub to-kept : (h s : Given) → IsTracedTo R A D old h s → IsTracedTo R A D new h s
  to-kept h s to = record {
    noted = λ d. keeps.leads _ (to.noted d);
    followed = λ a may. let f = to.followed a may in (grown-kept old.exports new.exports keeps.exports s f.0, keeps.users s h f.1);
  }

  pub traced-kept : (h : Given) → IsTraced R A D old h → IsTraced R A D new h
  traced-kept h traced s uses = to-kept h s (traced s uses)

-- ---- what exports lead to

-- where a constraint follows from an export, that may use packages
pub follows-may : (R : RowLists) (A : ℕ → Type 0) (h : Given) {g : Given} → FollowsFrom R A h g → MayUse R h.source h.package
follows-may R A h {g} (starts uses) = use-may R h.source h.package g uses
follows-may R A h (steps before next) = follows-may R A h before

-- the use of a package by an export, and a source of it for the exporter
uses-from : (R : RowLists) (k g s : Given) → IsUse R k.source k.package g → s.package ≡ g.package → Sources R g.source g.package s.source → UsesFrom R k s
uses-from R k g s uses named source = (
  subst (λ u. ExportUses R k.source k.package u) (sym named) uses.1,
  subst (λ u. Sources R k.source u s.source) (sym named) (subst (λ e. Sources R e g.package s.source) uses.0 source),
)

module _ (R : RowLists) (A D : ℕ → Type 0) (t : Trace) (traced : AreTraced R A D t) where
  -- the lead is carried back from those that were noted
  abbrev pub Led : Lead → Type 0
  Led = Reach (Contains t.leads) (LeadsBack t.users)

  -- the constraint is a use by a traced export, and what that leads to, h leads to
  record Passes (h g : Given) : Type 0 where
    pub export : Given
    pub there : Contains t.exports export
    pub uses : IsUse R export.source export.package g
    pub leads : (s : Given) → Led (record { export = export; source = s }) → Led (record { export = h; source = s })

  passes : (h : Given) → Contains t.exports h → {g : Given} → FollowsFrom R A h g → Passes h g
  passes h at (starts uses) = record { export = h; there = at; uses = uses; leads = λ s led. led }
  passes h at {g} (steps {x = from} before (m, source, among, uses)) =
      let p = passes h at before in
      let to = traced p.export p.there m (uses-from R p.export from m p.uses source.0 source.1) in
      let f = to.followed among (use-may R m.source m.package g uses) in
      record {
        export = m;
        there = f.0;
        uses = uses;
        leads = λ s led. p.leads s (steps led (f.1, refl));
      }

  pub lead-there : (h s : Given) → Contains t.exports h → IsLead R A h s → D s.package → Led (record { export = h; source = s })
  lead-there h s at (g, follows, source) disputed =
      let p = passes h at follows in
      let to = traced p.export p.there s (uses-from R p.export g s p.uses source.0 source.1) in
      p.leads s (starts (to.noted disputed))
