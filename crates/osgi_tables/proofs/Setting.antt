-- Bundles that are set as resolved, one by one.
use Rattle.std.proofs.Common.{◌≡◌, ◌+◌, add-one, drop, drop-cons, ℕ, ◌<◌, List, [], ◌∷◌, length, get_or, ap, sym, ◌∙◌, refl}
use Rattle.std.specs.Prelude.{All, Bool, true, false, cond, find, IsSomeAnd, Option, Some}
use Rattle.std.proofs.lemmas.List.Elements.{All-weaker}
use Rattle.osgi_base.specs.declared.ids.BundleId.{BundleId}
use Rattle.osgi_bundle.specs.Rows.{has_bundle_id, IsSettable, with_state}
use Rattle.osgi_bundle.specs.declared.kept.BundleKept.{BundleKept}
use Rattle.osgi_ops.specs.States.{is_up}
use Rattle.osgi_ops.specs.declared.state.TheConstants.{RESOLVED}
use Rattle.osgi_tables.specs.Changes.{with_resolved}

-- setting one leaves the others settable
Down : BundleKept → Type 0
Down row = is_up row.state ≡ false

set_by : (r new : BundleKept) (t : Bool) (o then : Option BundleKept) → (Down r → Down new) → (IsSomeAnd o Down → IsSomeAnd then Down) → IsSomeAnd (cond t (Some r) o) Down → IsSomeAnd (cond t (Some new) then) Down
set_by r new true o then one more is = one is
set_by r new false o then one more is = more is

set_here : (b : BundleId) (r : BundleKept) (o then : Option BundleKept) (t : Bool) → (IsSomeAnd o Down → IsSomeAnd then Down) → IsSomeAnd (cond (has_bundle_id b r) (Some r) o) Down →
    IsSomeAnd (cond (has_bundle_id b (cond t (record r { state = RESOLVED }) r)) (Some (cond t (record r { state = RESOLVED }) r)) then) Down
unfolding Down
set_here b r o then true more is = set_by r (record r { state = RESOLVED }) (has_bundle_id b r) o then (λ down. refl) more is
set_here b r o then false more is = set_by r r (has_bundle_id b r) o then (λ down. down) more is

pub set_settable : (c b : BundleId) (rows : List BundleKept) → IsSettable b rows → IsSettable b (with_state c RESOLVED rows)
unfolding Down
set_settable c b [] is = absurd is
set_settable c b (r ∷ rs) is = set_here b r (find (has_bundle_id b) rs) (find (has_bundle_id b) (with_state c RESOLVED rs)) (has_bundle_id c r) (set_settable c b rs) is

pub all_settable : (c : BundleId) (ids : List BundleId) (rows : List BundleKept) → All (λ b. IsSettable b rows) ids → All (λ b. IsSettable b (with_state c RESOLVED rows)) ids
all_settable c ids rows all = All-weaker (λ b. IsSettable b rows) (λ b. IsSettable b (with_state c RESOLVED rows)) (λ b is. set_settable c b rows is) ids all

-- one bundle more is set
pub one_set : (list : List BundleId) (i : ℕ) (d : BundleId) (rows new : List BundleKept) → i < length list → new ≡ with_state (get_or list i d) RESOLVED rows → with_resolved (drop (i + 1) list) new ≡ with_resolved (drop i list) rows
one_set list i d rows new within is =
    ap (with_resolved (drop (i + 1) list)) is
    ∙ ap (λ n. with_resolved (get_or list i d ∷ drop n list) rows) (add-one i)
    ∙ sym (ap (λ l. with_resolved l rows) (drop-cons list i d within))
