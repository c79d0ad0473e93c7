-- A part of a clause is read as the path, directive or attribute that it is, and nothing else is.
use Rattle.std.proofs.Common.{◌≡◌, ℕ, ◌+◌, ◌<◌, List, [], ◌∷◌, ◌++◌, length, get_or, take, drop, ap, sym, ◌∙◌, refl, arith}
use Rattle.std.specs.Prelude.{Bool, true, false, ◌==◌, Option, None, Some, option_and_then, codes}
use Rattle.std.specs.Option.{option_map}
use Rattle.std.proofs.Math.Seq.{drop-append-add, drop-append_seam, take-append_seam}
use Rattle.std.proofs.lemmas.Bool.{cond-false, cond-true, eqb-true, or_from}
use Rattle.std.proofs.lemmas.List.Elements.{All-head}
use Rattle.std.proofs.lemmas.Option.{option_and_then_some}
use Rattle.osgi_header.specs.declared.clause.Pair.{Pair}
use Rattle.osgi_header.specs.declared.clause.Typed.{Typed}
use Rattle.osgi_header.specs.declared.parameters.ClausePart.{ClausePart}
use Rattle.osgi_header.specs.declared.parameters.ClausePart.TheVariants.{Path, Directive, Attribute}
use Rattle.osgi_base.specs.laws.Places.{Fails, Found, found, nowhere, position-front, position-none, somewhere}
use Rattle.osgi_base.specs.laws.Scans.{other_byte}
use Rattle.osgi_header.proofs.Values.{name_read, name_sound, path_read, path_sound, trimmed_each, value_read, value_sound}
use Rattle.osgi_header.specs.computed.ClauseReader.{attribute_of, colon_of, directive_of, ends_kind, ends_name, parameter_name, parameter_of, part_by, part_of, path_of, typed_of, parameter_value}
use Rattle.osgi_header.specs.Clauses.{is_parameter_name_byte, is_path_byte, IsDirective, IsParameterName, IsPath, IsPlainAttribute, IsTypedAttribute}
use Rattle.osgi_header.specs.Spaces.{is_space_or_tab}

-- what a part of a clause is
pub data IsPart : List ℕ → ClausePart → Type 0 where
  path : {text path : List ℕ} → IsPath text path → IsPart text (Path path)
  directive : {text : List ℕ} {pair : Pair} → IsDirective text pair → IsPart text (Directive pair)
  plain : {text : List ℕ} {typed : Typed} → IsPlainAttribute text typed → IsPart text (Attribute typed)
  typed : {text : List ℕ} {typed : Typed} → IsTypedAttribute text typed → IsPart text (Attribute typed)

-- what an answer was made from
pub record WasMapped {A B : Type 0} (f : A → B) (o : Option A) (y : B) : Type 0 where
  pub value : A
  pub was : o ≡ Some value
  pub is : f value ≡ y

pub mapped : {A B : Type 0} (f : A → B) (o : Option A) (y : B) → option_map f o ≡ Some y → WasMapped f o y
mapped f None y e = absurd (cc e)
mapped f (Some x) y e = record { value = x; was = refl; is = cc e }

-- ---- the bytes that end a name or a type

goes_on : (p : ℕ → Bool) (b : ℕ) → p 58 ≡ false → p 61 ≡ false → p b ≡ true → ends_name b ≡ false
goes_on p b no_colon no_equals passes = or_from (b == 58) (b == 61) (other_byte p 58 b no_colon passes) (other_byte p 61 b no_equals passes)

path_goes_on : (text name : List ℕ) → IsPath text name → Fails ends_name text
path_goes_on text name is =
    trimmed_each (λ b. ends_name b ≡ false) text name (λ b blank. goes_on is_space_or_tab b refl refl blank) is.trimmed
    (λ k d below. goes_on is_path_byte (get_or name k d) refl refl (is.bytes k d below))

name_goes_on : (text name : List ℕ) → IsParameterName text name → Fails ends_name text
name_goes_on text name is =
    trimmed_each (λ b. ends_name b ≡ false) text name (λ b blank. goes_on is_space_or_tab b refl refl blank) is.trimmed
    (λ k d below. goes_on is_parameter_name_byte (get_or name k d) refl refl (is.bytes k d below))

kind_goes_on : (text kind : List ℕ) → IsPath text kind → Fails ends_kind text
kind_goes_on text kind is =
    trimmed_each (λ b. ends_kind b ≡ false) text kind (λ b blank. other_byte is_space_or_tab 61 b refl blank) is.trimmed
    (λ k d below. other_byte is_path_byte 61 (get_or kind k d) refl (is.bytes k d below))

-- ---- what a part is read as

part_at : (prefix : List ℕ) (b : ℕ) (rest : List ℕ) → Fails ends_name prefix → ends_name b ≡ true →
    part_of (prefix ++ b ∷ rest) ≡ option_and_then (λ name. parameter_of name (b ∷ rest)) (parameter_name prefix)
part_at prefix b rest fails passes =
    rw (position-front ends_name prefix b rest fails passes, take-append_seam prefix (b ∷ rest), drop-append_seam prefix (b ∷ rest)) refl

parameter_at : (text name : List ℕ) (b : ℕ) (rest : List ℕ) → IsParameterName text name → ends_name b ≡ true → part_of (text ++ b ∷ rest) ≡ parameter_of name (b ∷ rest)
parameter_at text name b rest is passes =
    part_at text b rest (name_goes_on text name is) passes
    ∙ ap (option_and_then (λ n. parameter_of n (b ∷ rest))) (name_read text name is)

typed_at : (name type value : List ℕ) → Fails ends_kind type →
    typed_of name (type ++ 61 ∷ value) ≡ option_and_then (λ kind. attribute_of name kind value) (path_of type)
typed_at name type value fails =
    rw (position-front ends_kind type 61 value fails refl, take-append_seam type (61 ∷ value), drop-append-add type (61 ∷ value) 1) refl

colon_typed : (name type value : List ℕ) → 0 < length type → Fails ends_kind type → colon_of name (type ++ 61 ∷ value) ≡ typed_of name (type ++ 61 ∷ value)
colon_typed name [] value some fails = absurd (omega (arith, some))
colon_typed name (b ∷ type) value some fails = cond-false (b == 61) _ _ (All-head (λ x. ends_kind x ≡ false) b type fails)

kind_some : (text kind : List ℕ) → IsPath text kind → 0 < length text
kind_some [] kind is = absurd (cc (path_read [] kind is))
kind_some (b ∷ text) kind is = omega arith

pub part_read : (text : List ℕ) (part : ClausePart) → IsPart text part → part_of text ≡ Some part
part_read text part (path {path = name} is) =
    ap (part_by text) (position-none ends_name text (path_goes_on text name is)) ∙ ap (option_map Path) (path_read text name is)
part_read text part (directive {pair = pair} is) =
    ap part_of is.is ∙ parameter_at is.name pair.name 58 (61 ∷ is.value) is.named refl
    ∙ ap (option_map (λ value. Directive (record { name = pair.name; value = value }))) (value_read is.value pair.value is.valued)
part_read text part (plain {typed = one} is) =
    ap part_of is.is ∙ parameter_at is.name one.name 61 is.value is.named refl
    ∙ ap (option_map (λ value. Attribute (record { name = one.name; kind = codes "String"; value = value }))) (value_read is.value one.value is.valued)
    ∙ ap (λ kind. Some (Attribute (record { name = one.name; kind = kind; value = one.value }))) (sym is.kind)
part_read text part (typed {typed = one} is) =
    ap part_of is.is ∙ parameter_at is.name one.name 58 (is.type ++ 61 ∷ is.value) is.named refl
    ∙ colon_typed one.name is.type is.value (kind_some is.type one.kind is.kind) (kind_goes_on is.type one.kind is.kind)
    ∙ typed_at one.name is.type is.value (kind_goes_on is.type one.kind is.kind)
    ∙ ap (option_and_then (λ kind. attribute_of one.name kind is.value)) (path_read is.type one.kind is.kind)
    ∙ ap (option_map (λ value. Attribute (record { name = one.name; kind = one.kind; value = value }))) (value_read is.value one.value is.valued)

-- ---- and nothing else

directive_sound : (prefix name rest : List ℕ) (part : ClausePart) → IsParameterName prefix name → directive_of name rest ≡ Some part → IsPart (prefix ++ 58 ∷ 61 ∷ rest) part
directive_sound prefix name rest part named e =
    let read = mapped (λ value. Directive (record { name = name; value = value })) (parameter_value rest) part e in
    rw (← read.is) (directive (record { name = prefix; value = rest; is = refl; named = named; valued = value_sound rest read.value read.was }))

plain_sound : (prefix name rest : List ℕ) (part : ClausePart) → IsParameterName prefix name → attribute_of name (codes "String") rest ≡ Some part → IsPart (prefix ++ 61 ∷ rest) part
plain_sound prefix name rest part named e =
    let read = mapped (λ value. Attribute (record { name = name; kind = codes "String"; value = value })) (parameter_value rest) part e in
    rw (← read.is) (plain (record { name = prefix; value = rest; is = refl; named = named; kind = refl; valued = value_sound rest read.value read.was }))

typed_found : (prefix name type value : List ℕ) (part : ClausePart) → IsParameterName prefix name → Fails ends_kind type → typed_of name (type ++ 61 ∷ value) ≡ Some part →
    IsPart (prefix ++ (58 ∷ type ++ 61 ∷ value)) part
typed_found prefix name type value part named fails e =
    option_and_then_some (λ kind. attribute_of name kind value) (path_of type) part (sym (typed_at name type value fails) ∙ e)
    (λ kind was made.
    let read = mapped (λ v. Attribute (record { name = name; kind = kind; value = v })) (parameter_value value) part made in
    rw (← read.is)
    (typed (record {
      name = prefix;
      type = type;
      value = value;
      is = refl;
      named = named;
      kind = path_sound type kind was;
      valued = value_sound value read.value read.was;
    })))

typed_by : (prefix name rest : List ℕ) (part : ClausePart) → IsParameterName prefix name → Found ends_kind rest → typed_of name rest ≡ Some part → IsPart (prefix ++ 58 ∷ rest) part
typed_by prefix name rest part named (nowhere fails) e =
    absurd (cc (e, ap (option_and_then (λ end. option_and_then (λ kind. attribute_of name kind (drop (end + 1) rest)) (path_of (take end rest)))) (position-none ends_kind rest fails)))
typed_by prefix name rest part named (somewhere type b value fails passes is) e =
    let split : rest ≡ type ++ 61 ∷ value = is ∙ ap (λ x. type ++ x ∷ value) (eqb-true b 61 passes) in
    rw split (typed_found prefix name type value part named fails (ap (typed_of name) (sym split) ∙ e))

colon_by : (prefix name : List ℕ) (b : ℕ) (rest : List ℕ) (part : ClausePart) (test : Bool) → (b == 61) ≡ test → IsParameterName prefix name → colon_of name (b ∷ rest) ≡ Some part →
    IsPart (prefix ++ 58 ∷ b ∷ rest) part
colon_by prefix name b rest part true equals named e =
    rw (eqb-true b 61 equals) (directive_sound prefix name rest part named (sym (cond-true (b == 61) _ _ equals) ∙ e))
colon_by prefix name b rest part false other named e =
    typed_by prefix name (b ∷ rest) part named (found ends_kind (b ∷ rest)) (sym (cond-false (b == 61) _ _ other) ∙ e)

colon_sound : (prefix name rest : List ℕ) (part : ClausePart) → IsParameterName prefix name → colon_of name rest ≡ Some part → IsPart (prefix ++ 58 ∷ rest) part
colon_sound prefix name [] part named e = typed_by prefix name [] part named (found ends_kind []) e
colon_sound prefix name (b ∷ rest) part named e = colon_by prefix name b rest part (b == 61) refl named e

parameter_by : (prefix name : List ℕ) (b : ℕ) (rest : List ℕ) (part : ClausePart) (equal colon : Bool) → (b == 61) ≡ equal → (b == 58) ≡ colon → IsParameterName prefix name →
    parameter_of name (b ∷ rest) ≡ Some part → IsPart (prefix ++ b ∷ rest) part
parameter_by prefix name b rest part true colon equals colons named e =
    rw (eqb-true b 61 equals) (plain_sound prefix name rest part named (sym (cond-true (b == 61) _ _ equals) ∙ e))
parameter_by prefix name b rest part false true equals colons named e =
    rw (eqb-true b 58 colons)
    (colon_sound prefix name rest part named (sym (cond-true (b == 58) _ _ colons) ∙ sym (cond-false (b == 61) _ _ equals) ∙ e))
parameter_by prefix name b rest part false false equals colons named e =
    absurd (cc (e, cond-false (b == 61) (attribute_of name (codes "String") rest) _ equals ∙ cond-false (b == 58) (colon_of name rest) None colons))

part_found : (text : List ℕ) (part : ClausePart) → Found ends_name text → part_of text ≡ Some part → IsPart text part
part_found text part (nowhere fails) e =
    let read = mapped Path (path_of text) part (sym (ap (part_by text) (position-none ends_name text fails)) ∙ e) in
    rw (← read.is) (path (path_sound text read.value read.was))
part_found text part (somewhere prefix b rest fails passes is) e =
    option_and_then_some (λ name. parameter_of name (b ∷ rest)) (parameter_name prefix) part (sym (part_at prefix b rest fails passes) ∙ ap part_of (sym is) ∙ e)
    (λ name was made. rw is (parameter_by prefix name b rest part (b == 61) (b == 58) refl refl (name_sound prefix name was) made))

pub part_sound : (text : List ℕ) (part : ClausePart) → part_of text ≡ Some part → IsPart text part
part_sound text part e = part_found text part (found ends_name text) e
