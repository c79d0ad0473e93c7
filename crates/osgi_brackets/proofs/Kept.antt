-- The brackets of each caller, where those of one were written.
use Rattle.std.proofs.Common.{◌≡◌, ◌==◌, ◌-◌, ◌<◌, ℕ, length, take, arith, length-append, length-take, Bool, true, false, cond, List, [], ◌∷◌, ◌++◌, map, reverse, refl, sym, ◌∙◌, ap, subst, Option, None, Some, OnSome, IsSomeAnd, Result, Ok, Err, OnErr, vec_capacity, vec_len}
use Rattle.std.proofs.lemmas.Bool.{eq-eqb, eqb-true}
use Rattle.std.proofs.lemmas.List.{reverse-append}
use Rattle.std.specs.Option.{option_map_or, option_to_list}
use Rattle.std.specs.declared.alloc.Global.{Global}
use Rattle.std.specs.declared.vec.Vec.{Vec}
use Rattle.osgi_base.specs.NumberMaps.{Puts, value_at}
use Rattle.osgi_base.specs.declared.ids.Tag.{Tag}
use Rattle.osgi_base.specs.declared.number_map.NumberMap.{NumberMap}
use Rattle.osgi_ops.specs.Brackets.{Bracket, bracket}
use Rattle.osgi_ops.specs.OwnBrackets.{without_first}
use Rattle.osgi_brackets.specs.Kinds.{bracket_of, cause_of}
use Rattle.osgi_brackets.specs.declared.bracket.BracketKind.{BracketKind}
use Rattle.osgi_brackets.specs.declared.bracket.OpenBracket.{OpenBracket}

pub on-some : {X : Type 0} (o : Option X) (x : X) (P : Type 0) → o ≡ Some x → OnSome o P → P
on-some o x P is on = subst (λ o. OnSome o P) is on

pub on-err : {T E P : Type 0} (r : Result T E) → P → OnErr r P
on-err (Ok x) p = tt
on-err (Err e) p = p

-- what is shown of a caller
abbrev pub shown : ℕ → Option (Vec OpenBracket Global) → List Bracket
shown caller kept = map (bracket_of caller) (reverse (option_map_or (λ own. own.items) kept []))

-- ---- one caller's brackets

pub shown-by : (caller : ℕ) (xs ys : List OpenBracket) → ys ≡ xs → map (bracket_of caller) (reverse ys) ≡ map (bracket_of caller) (reverse xs)
shown-by caller xs ys e = ap (λ l. map (bracket_of caller) (reverse l)) e

pub shown-pushed : (tag : Tag) (kind : BracketKind) (xs ys : List OpenBracket) → ys ≡ xs ++ record { command = tag.command; kind = kind } ∷ [] →
    map (bracket_of tag.caller) (reverse ys) ≡ bracket tag (cause_of kind) ∷ map (bracket_of tag.caller) (reverse xs)
shown-pushed tag kind xs ys e =
    shown-by tag.caller (xs ++ record { command = tag.command; kind = kind } ∷ []) ys e
    ∙ ap (map (bracket_of tag.caller)) (reverse-append xs (record { command = tag.command; kind = kind } ∷ []))

pub shown-popped : (caller : ℕ) (xs ys : List OpenBracket) (taken : Option OpenBracket) → xs ≡ ys ++ option_to_list taken → ys ≡ take (length xs - 1) xs →
    map (bracket_of caller) (reverse ys) ≡ without_first (map (bracket_of caller) (reverse xs))
shown-popped caller xs [] None e rest = sym (ap without_first (shown-by caller [] xs e))
shown-popped caller xs (y ∷ ys) None e rest = absurd (omega (arith, ap length rest, ap length e, length-append (y ∷ ys) [], length-take (length xs - 1) xs))
shown-popped caller xs ys (Some x) e rest = sym (ap without_first (shown-by caller (ys ++ x ∷ []) xs e ∙ ap (map (bracket_of caller)) (reverse-append ys (x ∷ []))))

-- ---- those of all, where one caller's were written

module _ (old new : NumberMap (Vec OpenBracket Global)) (writes : ℕ) (before after : Vec OpenBracket Global) (puts : Puts old new writes after) where
  shown-one : (turn : List Bracket → List Bracket) → shown writes (Some after) ≡ turn (shown writes (value_at old writes)) → (caller : ℕ) (same : Bool) → (writes == caller) ≡ same →
      value_at new caller ≡ cond same (Some after) (value_at old caller) → shown caller (value_at new caller) ≡ cond same (turn (shown caller (value_at old caller))) (shown caller (value_at old caller))
  shown-one turn written caller true same is =
      ap (shown caller) is ∙ subst (λ n. shown n (Some after) ≡ turn (shown n (value_at old n))) (eqb-true writes caller same) written
  shown-one turn written caller false same is = ap (shown caller) is

  pub shown-after : (turn : List Bracket → List Bracket) → shown writes (Some after) ≡ turn (shown writes (value_at old writes)) → (caller : ℕ) →
      shown caller (value_at new caller) ≡ cond (writes == caller) (turn (shown caller (value_at old caller))) (shown caller (value_at old caller))
  shown-after turn written caller = shown-one turn written caller (writes == caller) refl (puts caller)

  cond-same : {Y : Type 0} (b : Bool) (y : Y) → cond b y y ≡ y
  cond-same true y = refl
  cond-same false y = refl

  pub shown-kept : shown writes (Some after) ≡ shown writes (value_at old writes) → (caller : ℕ) → shown caller (value_at new caller) ≡ shown caller (value_at old caller)
  shown-kept written caller = shown-after (λ l. l) written caller ∙ cond-same (writes == caller) (shown caller (value_at old caller))

-- where what was written has room, the caller has
pub room-after : (old new : NumberMap (Vec OpenBracket Global)) (caller : ℕ) (own : Vec OpenBracket Global) → Puts old new caller own → vec_len own < vec_capacity own → IsSomeAnd (value_at new caller) (λ v. vec_len v < vec_capacity v)
room-after old new caller own puts room =
    subst (λ (o : Option (Vec OpenBracket Global)). IsSomeAnd o (λ v. vec_len v < vec_capacity v)) (sym (puts caller ∙ ap (λ t. cond t (Some own) (value_at old caller)) (eq-eqb caller caller refl))) room
