-- Where the revision sees no disputed package none of its constraints is violated.
use Rattle.std.proofs.Common.{◌↔◌, ◌⊎◌, inl, inr, ℕ, Any, refl, sym, subst, Contains, IsTrue}
use Rattle.osgi_space_sources.specs.computed.Amongst.{IsAmong}
use Rattle.osgi_space_sources.specs.computed.Clashes.{HasWires, IsClash, KeepsUsesAmong}
use Rattle.osgi_space_sources.specs.computed.Disputes.{IsDisputed}
use Rattle.osgi_space_sources.specs.computed.Pairs.{IsFollowing, IsImplied}
use Rattle.osgi_space_sources.specs.computed.RowSources.{Clash, Implied}
use Rattle.osgi_space_sources.specs.declared.given.Given.{Given}
use Rattle.osgi_space_sources.specs.laws.Adding.{any-in, any-of}
use Rattle.osgi_space_sources.proofs.Alone.{agrees-with-itself}
use Rattle.osgi_space_sources.proofs.Carried.{space-implied}
use Rattle.osgi_space_sources.proofs.Givers.{seen-parts}
use Rattle.osgi_space_sources.proofs.Rows.{some-imported}
use Rattle.osgi_space_rows.specs.declared.rows.Import.{Import}
use Rattle.osgi_space_sources.proofs.Agreeing.{agrees-unless, implied-end}
use Rattle.osgi_space_sources.specs.laws.Following.{none-implied}
use Rattle.osgi_space_sources.specs.laws.Sets.{none_in}
use Rattle.std.specs.Ordering.{nat_cmp}
use Rattle.osgi_space_sources.proofs.uses.keeps_uses.Goals as goal

pub returns-then-is_empty : goal.returns-then-is_empty
returns-then-is_empty c =
    let none = none_in nat_cmp c.args.disputed.now.packages (c.is_empty.ensures.none.0 c.if-is_empty.true) in
    let keeps : KeepsUsesAmong c.args.rows.now (IsAmong c.args.among) c.args.revision =
    agrees-unless c.args.rows.now c.args.disputed.now c.requires.disputed (IsAmong c.args.among) c.args.revision (λ e u implied clash. none u) in
    record { uses = (λ t. keeps, λ k. refl) }

pub returns-then-not-has : goal.returns-then-not-has
returns-then-not-has c =
    let away : ¬ IsAmong c.args.among c.args.revision = λ there. let yes = c.has.ensures.among.1 there in let no = c.if-not-has.true in cc in
    let keeps : KeepsUsesAmong c.args.rows.now (IsAmong c.args.among) c.args.revision = λ e u implied clash.
    none-implied c.args.rows.now (IsAmong c.args.among) c.args.revision away (record { «package» = u; source = e }) implied in
    record { uses = (λ t. keeps, λ k. refl) }

pub returns-then-not-has_wires : goal.returns-then-not-has_wires
returns-then-not-has_wires c =
    let none : ¬ HasWires c.args.rows.now c.args.revision = λ has. let yes = c.has_wires.ensures.wires.1 has in let no = c.if-not-has_wires.true in cc in
    record { uses = (λ t. agrees-with-itself c.args.rows.now c.args.revision none (IsAmong c.args.among), λ k. refl) }

pub returns-then-not-sees_disputed : goal.returns-then-not-sees_disputed
returns-then-not-sees_disputed c =
    let R = c.args.rows.now in
    let r = c.args.revision in
    let A = IsAmong c.args.among in
    let disputed = c.args.disputed.now in
    let D : ℕ → Type 0 = IsDisputed disputed in
    let givens = c.in_ok-givens.givens.items in
    let away : (e u : ℕ) → Implied R A r e u → Clash R r e u → ¬ D u = λ e u implied clash there.
    let h : Given = record { «package» = u; source = clash.ours } in
    let sees : Any (λ (row : Import). D row.imported) c.of_revision-imports.result.now ⊎ Any (λ (g : Given). D g.package) c.as_slice.result.now =
    elim ((seen-parts R r h).1 clash.ours_in) [
      | inl wired ↦ inl (subst (λ xs. Any (λ (row : Import). D row.imported) xs) (sym c.of_revision-imports.ensures.rows) ((some-imported R (λ p x. D p) r).1 (u, clash.ours, wired, there)))
      | inr unwired ↦ inr (subst (λ xs. Any (λ (g : Given). D g.package) xs) (sym c.as_slice.ensures.value) (any-of (λ (g : Given). D g.package) givens h ((c.in_ok-givens.ensures.sources h).1 unwired) there))
    ] in
    let yes = c.sees_disputed.ensures.disputed.1 sees in
    let no = c.if-not-sees_disputed.true in cc in
    record { uses = (λ t. agrees-unless R disputed c.requires.disputed A r away, λ k. refl) }

-- the constraints of a revision with wires are seen by ends of wires
pub constraints_between-requires : goal.constraints_between-requires
constraints_between-requires c =
    let R = c.args.rows.now in
    let r = c.args.revision in
    let A = IsAmong c.args.among in
    let there : A r = c.has.ensures.among.0 c.if-not-has.false in
    let wires : HasWires R r = c.has_wires.ensures.wires.0 c.if-not-has_wires.false in
    let imports = c.of_revision-imports.result.now in
    let givens = c.in_ok-givens.givens.items in
    record {
      disputed = c.requires.disputed;
      ends = λ g follows.
          let carried = space-implied R A r there imports c.of_revision-imports.ensures.rows givens c.in_ok-givens.ensures.sources g in
          c.requires.disputed.ends g.source (implied-end R (inl wires) (carried.0 (subst (λ xs. IsFollowing R A imports xs g) c.as_slice-2.ensures.value follows)));
    }

pub returns : goal.returns
returns c =
    let R = c.args.rows.now in
    let r = c.args.revision in
    let P : Given → Type 0 = λ g. IsClash R r g in
    let A = IsAmong c.args.among in
    let pairs = c.in_ok-found.found in
    let imports = c.of_revision-imports.result.now in
    let givens = c.in_ok-givens.givens.items in
    let there : A r = c.has.ensures.among.0 c.if-not-has.false in
    let following : (g : Given) → Contains pairs g ↔ IsFollowing R A imports givens g =
    subst (λ xs. (g : Given) → Contains pairs g ↔ IsFollowing R A imports xs g) c.as_slice-2.ensures.value c.in_ok-found.ensures.following in
    let implied : (g : Given) → Contains pairs g ↔ IsImplied R A r g = λ g.
    let carried = space-implied R A r there imports c.of_revision-imports.ensures.rows givens c.in_ok-givens.ensures.sources g in
    (λ at. carried.0 ((following g).0 at), λ i. (following g).1 (carried.1 i)) in
    let kept : IsTrue c.in_ok-are_kept.field-0 ↔ ¬ Any P pairs = subst (λ xs. IsTrue c.in_ok-are_kept.field-0 ↔ ¬ Any P xs) c.items.ensures.items c.in_ok-are_kept.ensures.uses in
    record {
      uses = (
        λ t e u i clash. kept.0 t (any-of P pairs (record { «package» = u; source = e }) ((implied (record { «package» = u; source = e })).1 i) clash),
        λ keeps. kept.1 (λ any. keeps any.1.source any.1.package ((implied any.1).0 (any-in P pairs any)) any.4),
      );
    }
