-- The uses of all revisions in force are kept by the rows where they are by the wirings.
use Rattle.std.proofs.Common.{ℕ, List, refl, sym, subst, Any}
use Rattle.osgi_base.specs.declared.ids.RevisionId.{RevisionId}
use Rattle.osgi_space_rules.specs.Rules.{UsesHold}
use Rattle.osgi_world.specs.Sources as relation
use Rattle.osgi_world.specs.declared.wiring.Wiring.{Wiring}
use Rattle.osgi_world.specs.declared.world.Known.{Known}
use Rattle.osgi_space_rows.specs.Agree.{AreRowsOf}
use Rattle.osgi_space_rows.specs.Rows.{RowLists}
use Rattle.osgi_space_sources.specs.computed.Clashes.{KeepsUses}
use Rattle.osgi_space_sources.specs.computed.RowSources.{Clash, Implied}
use Rattle.osgi_space_sources.specs.laws.Adding.{any-in, any-of}
use Rattle.osgi_space.proofs.Bridge.{clash-from, clash-to, implied-from, implied-to}
use Rattle.osgi_space.proofs.Ids.{contains-in, in-contains}

module _ (K : List Known) (W : List Wiring) (N : ℕ → List ℕ) (R : RowLists) (is : AreRowsOf K W N R) where
  pub uses-hold : ¬ Any (λ (g : Wiring). ¬ KeepsUses R g.revision.0) W → UsesHold K W
  uses-hold none r e u in_force implied clash =
      let f = implied-from K W N R is {A = λ x. Unit {0}} (λ x b. b) implied in
      let c = clash-from K W N R is (subst (λ v. relation.Clash K W r e v) (sym f.1) clash) in
      none (any-of (λ (g : Wiring). ¬ KeepsUses R g.revision.0) W in_force.wiring (in-contains W in_force.wiring in_force.stands)
      (λ keeps. keeps e.0 f.0 (subst (λ (s : RevisionId). Implied R (λ x. Unit {0}) s.0 e.0 f.0) (sym in_force.revision) f.2)
      (subst (λ (s : RevisionId). Clash R s.0 e.0 f.0) (sym in_force.revision) c)))

  pub uses-kept : UsesHold K W → ¬ Any (λ (g : Wiring). ¬ KeepsUses R g.revision.0) W
  uses-kept holds any =
      let g = any.1 in
      any.4 (λ e u implied clash.
      holds g.revision (record { 0 = e }) (N u) (record { wiring = g; stands = contains-in W g (any-in (λ (h : Wiring). ¬ KeepsUses R h.revision.0) W any); revision = refl })
      (implied-to K W N R is {B = λ x. Unit {0}} (λ x a. a) implied) (clash-to K W N R is clash))
