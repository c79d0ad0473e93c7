-- The index after one more revision.
use Rattle.std.proofs.Common.{◌≡◌, ◌==◌, ℕ, List, [], ◌∷◌, ◌++◌, ap, sym, ◌∙◌, refl, arith}
use Rattle.std.specs.Prelude.{Bool, true, false, cond, Option, None, Some, find, is_some}
use Rattle.std.specs.Borrow.{Bor}
use Rattle.std.specs.BTreeMap.{BTreeMap, get, Updates}
use Rattle.std.specs.Option.{option_copied, option_or}
use Rattle.std.specs.Ordering.{is_eq, nat_cmp}
use Rattle.std.proofs.lemmas.Bool.{eqb-true}
use Rattle.std.proofs.lemmas.Bool.Decides.{nat_tests}
use Rattle.std.proofs.lemmas.Cmp.{is_eq_index}
use Rattle.std.proofs.lemmas.List.Folds.{find-append}
use Rattle.osgi_world.specs.declared.world.Known.{Known}
use Rattle.osgi_lookup.specs.computed.Index.{IsIndexOf}

is_eq_nat : (a b : ℕ) → is_eq (nat_cmp a b) ≡ (a == b)
is_eq_nat a b = rw is_eq_index (grind (arith, nat_tests))

pub nothing : {X : Type 0} (o : Option X) → is_some o ≡ false → o ≡ None
nothing None none = refl
nothing (Some x) none = absurd (cc none)

put_by : (old new : Option (Bor Known)) (known : Bor Known) (here : Bool) → (here ≡ true → old ≡ None) → new ≡ cond here (Some known) old → option_copied new ≡ option_or (option_copied old) (cond here (Some known.now) None)
put_by old new known true none is = ap option_copied is ∙ ap (λ o. option_or (option_copied o) (Some known.now)) (sym (none refl))
put_by None new known false none is = ap option_copied is
put_by (Some k) new known false none is = ap option_copied is

kept_by : (old : Option (Bor Known)) (known : Known) (here : Bool) → (here ≡ true → is_some old ≡ true) → option_copied old ≡ option_or (option_copied old) (cond here (Some known) None)
kept_by None known true some = absurd (cc (some refl))
kept_by None known false some = refl
kept_by (Some k) known here some = refl

module _ (index : BTreeMap ℕ (Bor Known)) (K : List Known) (known : Bor Known) (is : IsIndexOf index K) where
  pushed : (id : ℕ) → option_or (option_copied (get nat_cmp index id)) (cond (known.now.id.0 == id) (Some known.now) None) ≡ find (λ (k : Known). k.id.0 == id) (K ++ known.now ∷ [])
  pushed id = ap (λ o. option_or o (cond (known.now.id.0 == id) (Some known.now) None)) (is id) ∙ sym (find-append (λ (k : Known). k.id.0 == id) K (known.now ∷ []))

  same_at : (id : ℕ) → (known.now.id.0 == id) ≡ true → get nat_cmp index id ≡ get nat_cmp index known.now.id.0
  same_at id here = ap (get nat_cmp index) (sym (eqb-true known.now.id.0 id here))

  -- one whose id had none
  pub index_new : (new : BTreeMap ℕ (Bor Known)) → is_some (get nat_cmp index known.now.id.0) ≡ false → Updates nat_cmp index new known.now.id.0 (Some known) → IsIndexOf new (K ++ known.now ∷ [])
  index_new new none updates = λ id.
      let here = known.now.id.0 == id in
      put_by (get nat_cmp index id) (get nat_cmp new id) known here (λ h. same_at id h ∙ nothing _ none)
      (updates.0 id ∙ ap (λ b. cond b (Some known) (get nat_cmp index id)) (is_eq_nat known.now.id.0 id))
      ∙ pushed id

  -- and one whose id had one
  pub index_known : is_some (get nat_cmp index known.now.id.0) ≡ true → IsIndexOf index (K ++ known.now ∷ [])
  index_known some = λ id.
      kept_by (get nat_cmp index id) known.now (known.now.id.0 == id) (λ h. ap is_some (same_at id h) ∙ some) ∙ pushed id
