-- When the conditions of starts and stops hold, by what is read of the tables.
use Rattle.std.proofs.Common.{◌≡◌, ap, sym, subst, false, refl, true}
use Rattle.std.specs.Prelude.{Bool, cond, None, Option, Some, IsSome, IsSomeAnd}
use Rattle.osgi_base.specs.declared.ids.BundleId.{BundleId}
use Rattle.osgi_base.specs.declared.ids.Tag.{Tag}
use Rattle.osgi_bundle.specs.Rows.{IsBegun}
use Rattle.osgi_bundle.specs.declared.kept.BundleKept.{BundleKept}
use Rattle.osgi_legal.proofs.Targets.{target-once}
use Rattle.osgi_ops.specs.Bundles.{is_changing}
use Rattle.osgi_ops.specs.Conditions.{at_target, IsTarget, state_change, state_of}
use Rattle.osgi_ops.specs.Moments.{Moment}
use Rattle.osgi_ops.specs.Replies.{took_effect}
use Rattle.osgi_ops.specs.States.{is_changing as is_changing_number}
use Rattle.osgi_ops.specs.declared.refusal.Refusal.{Refusal}
use Rattle.osgi_ops.specs.declared.refusal.Refusal.TheVariants as no
use Rattle.osgi_ops.specs.declared.reply.Reply.TheVariants as answer
use Rattle.osgi_ops.specs.declared.target.Target.{Target}
use Rattle.osgi_reply_life.proofs.Rows.{IsRowAt}

-- ---- tests

pub not_so : (k : Bool) → ¬ (k ≡ true) → k ≡ false
not_so true none = absurd (none refl)
not_so false none = refl

-- ---- targets

-- what calls for no refusal of the bundle calls for none of the target that stands for it
pub not_at : (now : Moment) (target : Target) (b : BundleId) (condition : BundleId → Refusal → Type 0) → IsTarget now target b → ((f : Refusal) → ¬ condition b f) → (f : Refusal) → ¬ at_target now target condition f
not_at now target b condition is none f called = none f (subst (λ c. condition c f) (target-once now target called.0 b called.1 is) called.2)

-- ---- state changes

-- the refusal names the line that began the change
abbrev pub SaysChange : Option Tag → Refusal → Type 0
SaysChange by f = IsSomeAnd by (λ tag. f ≡ no.StateChange tag)

-- what the row says of a change that is under way
pub changing_by : (row : BundleKept) (by : Tag) → cond (is_changing_number row.state) row.by None ≡ Some by → (is_changing_number row.state ≡ true) × SaysChange row.by (no.StateChange by)
changing_by row by is = go (is_changing_number row.state) refl is
  where
    go : (k : Bool) → is_changing_number row.state ≡ k → cond k row.by None ≡ Some by → (is_changing_number row.state ≡ true) × SaysChange row.by (no.StateChange by)
    go true e is = (e, subst (λ o. SaysChange o (no.StateChange by)) (sym is) refl)
    go false e is = absurd (cc is)

pub settled_by : (row : BundleKept) → IsBegun row → cond (is_changing_number row.state) row.by None ≡ None → is_changing_number row.state ≡ false
settled_by row begun none = go (is_changing_number row.state) refl none
  where
    go : (k : Bool) → is_changing_number row.state ≡ k → cond k row.by None ≡ None → is_changing_number row.state ≡ false
    go true e none = let bad : false ≡ true = subst IsSome none (begun e) in absurd (cc bad)
    go false e none = e

-- it is none that comes with a clean up
pub says_nothing : (by : Option Tag) (f : Refusal) → SaysChange by f → took_effect (answer.Refused f) ≡ false
says_nothing None f is = absurd is
says_nothing (Some tag) f is = ap (λ g. took_effect (answer.Refused g)) is

-- so it is the one that a bundle in change calls for
pub changed_by : (now : Moment) (b : BundleId) (row : BundleKept) (f : Refusal) → IsRowAt now b row → is_changing (state_of now b) ≡ true → SaysChange row.by f → state_change is_changing now b f
changed_by now b row f is changing says = (changing, subst (λ o. SaysChange o f) is.by says)
