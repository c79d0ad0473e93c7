-- The count of a user's uses after one more.
use Rattle.std.proofs.Common.{◌≡◌, ℕ, ◌+◌, ◌≤◌, List, [], ◌∷◌, ◌∙◌, refl, arith, eq-eqb}
use Rattle.std.specs.Prelude.{Bool, true, false, Result, Ok, Err, IfOk, OnErr, OnOk}
use Rattle.std.specs.declared.alloc.AllocError.{AllocError}
use Rattle.std.proofs.lemmas.Bool.{cond-true}
use Rattle.osgi_base.specs.declared.ids.BundleId.{BundleId}
use Rattle.osgi_base.specs.declared.ids.ServiceId.{ServiceId}
use Rattle.osgi_ops.specs.declared.refusal.Refusal.{Refusal}
use Rattle.osgi_registry.specs.laws.Standing.{count-with}
use Rattle.osgi_registry.specs.Rows.{change, count_of, is_service, RegistryRows, LiveService, use_count, used_more}

more_here : (user : BundleId) (row : LiveService) → count_of user (used_more user row).uses ≡ count_of user row.uses + 1
more_here user row = count-with user user (count_of user row.uses + 1) row.uses ∙ cond-true _ _ _ (eq-eqb user.0 user.0 refl)

more_by : (user : BundleId) (service : ServiceId) (row : LiveService) (rest : List LiveService) (here : Bool) → is_service service row ≡ here →
    use_count user service (change service (used_more user) rest) ≤ use_count user service rest + 1 →
    use_count user service (change service (used_more user) (row ∷ rest)) ≤ use_count user service (row ∷ rest) + 1
more_by user service row rest true is later = rw (is, is) (omega (arith, more_here user row))
more_by user service row rest false is later = rw (is, is) later

-- a use more counts one more at most
pub use_count-more : (user : BundleId) (service : ServiceId) (rows : List LiveService) → use_count user service (change service (used_more user) rows) ≤ use_count user service rows + 1
use_count-more user service [] = omega arith
use_count-more user service (row ∷ rest) = more_by user service row rest (is_service service row) refl (use_count-more user service rest)

-- and so does a get, whatever it answers
pub got_more : (user : BundleId) (service : ServiceId) (old new : RegistryRows) (answer : Result (Result (List ℕ) Refusal) AllocError) →
    IfOk answer (λ a. OnOk a (new.rows ≡ change service (used_more user) old.rows)) → IfOk answer (λ a. OnErr a (new ≡ old)) → OnErr answer (new ≡ old) →
    use_count user service new.rows ≤ use_count user service old.rows + 1
got_more user service old new (Ok (Ok object)) rows refused unchanged = rw rows (use_count-more user service old.rows)
got_more user service old new (Ok (Err refusal)) rows refused unchanged = rw refused (omega arith)
got_more user service old new (Err error) rows refused unchanged = rw unchanged (omega arith)
