-- A bundle that is made, and then inserted.
use Rattle.std.proofs.Common.{◌≡◌, inl, inr, true, false, ℕ, List, [], ◌∷◌, ap, sym, ◌∙◌}
use Rattle.std.specs.Prelude.{Bool}
use Rattle.osgi_base.specs.Verdict.{answers, Gives, refuses}
use Rattle.osgi_base.specs.declared.ids.BundleId.{BundleId}
use Rattle.osgi_bundle.specs.Rows.{row_refusals, IsBegun, IsTwin, new_row}
use Rattle.osgi_bundle.specs.declared.kept.BundleKept.{BundleKept}
use Rattle.osgi_ops.specs.declared.refusal.Refusal.{Refusal}
use Rattle.osgi_ops.specs.States.{is_changing}
use Rattle.osgi_version.specs.declared.version.Version.{Version}

-- ---- an answer that is given, said otherwise

pub gives_due : {A : Type 0} (conditions : List (Refusal → Type 0)) (due : A → Type 0) (x : A) → Gives conditions due (answers x) → due x
gives_due [] due x given = given
gives_due (condition ∷ rest) due x (inl (refusal, called, same)) = absurd (cc same)
gives_due (condition ∷ rest) due x (inr (none, given)) = gives_due rest due x given

pub gives_answer : {A B : Type 0} (conditions : List (Refusal → Type 0)) (due : A → Type 0) (other : B → Type 0) (x : A) (y : B) → Gives conditions due (answers x) → other y → Gives conditions other (answers y)
gives_answer [] due other x y given is = is
gives_answer (condition ∷ rest) due other x y (inl (refusal, called, same)) is = absurd (cc same)
gives_answer (condition ∷ rest) due other x y (inr (none, given)) is = inr (none, gives_answer rest due other x y given is)

pub gives_refusal : {A B : Type 0} (conditions : List (Refusal → Type 0)) (due : A → Type 0) (other : B → Type 0) (refusal : Refusal) → Gives conditions due (refuses refusal) → Gives conditions other (refuses refusal)
gives_refusal [] due other refusal given = given
gives_refusal (condition ∷ rest) due other refusal (inl (first, called, same)) =
    let is : refusal ≡ first = cc same in
    inl (first, called, ap refuses is)
gives_refusal (condition ∷ rest) due other refusal (inr (none, given)) = inr (none, gives_refusal rest due other refusal given)

-- ---- the bundle that is made

-- no live bundle has its name and version
pub made_apart : {A : Type 0} (name : List ℕ) (version : Version) (rows : List BundleKept) (due : A → Type 0) (x : A) → Gives (row_refusals name version rows) due (answers x) → (refusal : Refusal) → ¬ IsTwin name version rows refusal
made_apart name version rows due x (inl (refusal, called, same)) = absurd (cc same)
made_apart name version rows due x (inr (none, given)) = none

-- it is one as it is installed
pub made_new : (made : BundleKept) (id : BundleId) (location name : List ℕ) (version : Version) (fragment : Bool) (row : ℕ) → made ≡ new_row id location name version fragment row → made ≡ new_row made.bundle made.location made.name made.version made.fragment made.row
made_new made id location name version fragment row is = is ∙ ap (λ (r : BundleKept). new_row r.bundle r.location r.name r.version r.fragment r.row) (sym is)

-- and so neither starting nor stopping
pub new_begun : (made : BundleKept) → made ≡ new_row made.bundle made.location made.name made.version made.fragment made.row → IsBegun made
new_begun made is changing = let bad : true ≡ false = sym changing ∙ ap (λ (r : BundleKept). is_changing r.state) is in absurd (cc bad)
