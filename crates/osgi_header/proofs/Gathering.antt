-- The parts of a clause are gathered as the clause that they are, and no others are.
use Rattle.std.proofs.Common.{◌≡◌, ℕ, ◌<◌, List, [], ◌∷◌, ◌++◌, length, ap, sym, ◌∙◌, refl, arith, append-nil, append_assoc, length-append, subst}
use Rattle.std.specs.Prelude.{Bool, true, false, cond, not, ◌==◌, ◌&&◌, None, Some, option_and_then}
use Rattle.std.specs.List.{join_with_byte}
use Rattle.std.proofs.lemmas.Bool.{and_left, and_right, cond-true, ne_eqb}
use Rattle.std.proofs.lemmas.Option.{option_and_then_some}
use Rattle.osgi_header.specs.declared.clause.Clause.{Clause}
use Rattle.osgi_header.specs.declared.clause.Pair.{Pair}
use Rattle.osgi_header.specs.declared.clause.Typed.{Typed}
use Rattle.osgi_header.specs.declared.parameters.ClausePart.{ClausePart}
use Rattle.osgi_header.specs.declared.parameters.ClausePart.TheVariants.{Path, Directive, Attribute}
use Rattle.osgi_base.specs.declared.parts.QuoteState.TheVariants.{Bare}
use Rattle.osgi_header.proofs.PartReading.{directive as is_directive, IsPart, part_read, part_sound, path as is_path, plain as is_plain, typed as is_typed}
use Rattle.osgi_header.proofs.Scanning.{joined_scan, part_in_clause, part_in_value}
use Rattle.osgi_base.specs.Parts.{scan}
use Rattle.osgi_header.proofs.Splitting.{AreWhole, cut_is, cut_joined, cut_some, joined_cut}
use Rattle.osgi_header.specs.computed.ClauseReader.{clause_after, clause_of, empty_clause, may_take, part_of, with_part}
use Rattle.osgi_header.specs.Clauses.{AreParameters, ArePaths, directive, IsClause, none, plain, typed}
use Rattle.osgi_header.specs.computed.Cutting.{cut}

-- whether a clause has no parameters yet
abbrev is_fresh : Clause → Bool
is_fresh clause = (length clause.directives == 0) && (length clause.attributes == 0)

abbrev with_parameters : Clause → List Pair → List Typed → Clause
with_parameters clause directives attributes =
    record { paths = clause.paths; directives = clause.directives ++ directives; attributes = clause.attributes ++ attributes }

abbrev with_paths : Clause → List (List ℕ) → Clause
with_paths clause paths = record { paths = clause.paths ++ paths; directives = clause.directives; attributes = clause.attributes }

pushed_some : {A : Type 0} (xs : List A) (x : A) → (length (xs ++ x ∷ []) == 0) ≡ false
pushed_some xs x = ne_eqb (length (xs ++ x ∷ [])) 0 (λ e. absurd (omega (arith, e, length-append xs (x ∷ []))))

has_items : {A : Type 0} (xs : List A) → 0 < length xs → not (length xs == 0) ≡ true
has_items xs some = ap not (ne_eqb (length xs) 0 (λ e. absurd (omega (arith, e, some))))

-- ---- parameters

-- after a clause with parameters stand parameters
record GoesOn (clause : Clause) (texts : List (List ℕ)) (whole : Clause) : Type 0 where
  directives : List Pair
  attributes : List Typed
  are : AreParameters texts directives attributes
  is : with_parameters clause directives attributes ≡ whole

-- what may be taken was taken
taken : (test : Bool) (texts : List (List ℕ)) (next whole : Clause) → cond test (clause_after next texts) None ≡ Some whole → (test ≡ true) × (clause_after next texts ≡ Some whole)
taken true texts next whole e = (refl, e)
taken false texts next whole e = absurd (cc e)

onto_directive : (clause : Clause) (text : List ℕ) (texts : List (List ℕ)) (pair : Pair) (whole : Clause) → IsPart text (Directive pair) →
    GoesOn (with_part clause (Directive pair)) texts whole → GoesOn clause (text ∷ texts) whole
onto_directive clause text texts pair whole (is_directive is) more = record {
  directives = pair ∷ more.directives;
  attributes = more.attributes;
  are = directive is more.are;
  is =
      ap (λ l. record { paths = clause.paths; directives = l; attributes = clause.attributes ++ more.attributes }) (sym (append_assoc clause.directives (pair ∷ []) more.directives))
      ∙ more.is;
}

onto_attribute : (clause : Clause) (text : List ℕ) (texts : List (List ℕ)) (one : Typed) (whole : Clause) → IsPart text (Attribute one) →
    GoesOn (with_part clause (Attribute one)) texts whole → GoesOn clause (text ∷ texts) whole
onto_attribute clause text texts one whole (is_plain is) more = record {
  directives = more.directives;
  attributes = one ∷ more.attributes;
  are = plain is more.are;
  is =
      ap (λ l. record { paths = clause.paths; directives = clause.directives ++ more.directives; attributes = l }) (sym (append_assoc clause.attributes (one ∷ []) more.attributes))
      ∙ more.is;
}
onto_attribute clause text texts one whole (is_typed is) more = record {
  directives = more.directives;
  attributes = one ∷ more.attributes;
  are = typed is more.are;
  is =
      ap (λ l. record { paths = clause.paths; directives = clause.directives ++ more.directives; attributes = l }) (sym (append_assoc clause.attributes (one ∷ []) more.attributes))
      ∙ more.is;
}

-- the clause after a parameter has some
used_directive : (clause : Clause) (pair : Pair) → is_fresh (with_part clause (Directive pair)) ≡ false
used_directive clause pair = and_left (length (clause.directives ++ pair ∷ []) == 0) (length clause.attributes == 0) (pushed_some clause.directives pair)

used_attribute : (clause : Clause) (one : Typed) → is_fresh (with_part clause (Attribute one)) ≡ false
used_attribute clause one = and_right (length clause.directives == 0) (length (clause.attributes ++ one ∷ []) == 0) (pushed_some clause.attributes one)

goes_on_by : (clause : Clause) (text : List ℕ) (texts : List (List ℕ)) (part : ClausePart) (whole : Clause) → is_fresh clause ≡ false → IsPart text part →
    cond (may_take clause part) (clause_after (with_part clause part) texts) None ≡ Some whole →
    ((next : Clause) → is_fresh next ≡ false → clause_after next texts ≡ Some whole → GoesOn next texts whole) → GoesOn clause (text ∷ texts) whole
goes_on_by clause text texts (Path name) whole used is e later =
    let took = taken (is_fresh clause) texts (with_part clause (Path name)) whole e in
    absurd (cc (used, took.0))
goes_on_by clause text texts (Directive pair) whole used is e later =
    let took = taken (may_take clause (Directive pair)) texts (with_part clause (Directive pair)) whole e in
    onto_directive clause text texts pair whole is (later (with_part clause (Directive pair)) (used_directive clause pair) took.1)
goes_on_by clause text texts (Attribute one) whole used is e later =
    let took = taken (may_take clause (Attribute one)) texts (with_part clause (Attribute one)) whole e in
    onto_attribute clause text texts one whole is (later (with_part clause (Attribute one)) (used_attribute clause one) took.1)

ends_here : (clause whole : Clause) → Some clause ≡ Some whole → GoesOn clause [] whole
ends_here clause whole e =
    let same : clause ≡ whole = cc e in
    record {
      directives = [];
      attributes = [];
      are = none;
      is =
          ap (λ l. record { paths = clause.paths; directives = l; attributes = clause.attributes ++ [] }) (append-nil clause.directives)
          ∙ ap (λ l. record { paths = clause.paths; directives = clause.directives; attributes = l }) (append-nil clause.attributes)
          ∙ same;
    }

goes_on : (clause : Clause) (texts : List (List ℕ)) (whole : Clause) → is_fresh clause ≡ false → clause_after clause texts ≡ Some whole → GoesOn clause texts whole
goes_on clause [] whole used e = ends_here clause whole e
goes_on clause (text ∷ texts) whole used e =
    option_and_then_some (λ part. cond (may_take clause part) (clause_after (with_part clause part) texts) None) (part_of text) whole e
    (λ part was made. goes_on_by clause text texts part whole used (part_sound text part was) made (λ next n h. goes_on next texts whole n h))

-- ---- paths, and parameters after them

record Gathers (clause : Clause) (texts : List (List ℕ)) (whole : Clause) : Type 0 where
  paths : List (List ℕ)
  parameters : List (List ℕ)
  named : List (List ℕ)
  is : texts ≡ paths ++ parameters
  are_paths : ArePaths paths named
  all : whole.paths ≡ clause.paths ++ named
  directives : List Pair
  attributes : List Typed
  are_parameters : AreParameters parameters directives attributes
  are_directives : whole.directives ≡ clause.directives ++ directives
  are_attributes : whole.attributes ≡ clause.attributes ++ attributes

from_parameters : (clause : Clause) (texts : List (List ℕ)) (whole : Clause) → GoesOn clause texts whole → Gathers clause texts whole
from_parameters clause texts whole more = record {
  paths = [];
  parameters = texts;
  named = [];
  is = refl;
  are_paths = tt;
  all = ap (λ c. c.paths) (sym more.is) ∙ sym (append-nil clause.paths);
  directives = more.directives;
  attributes = more.attributes;
  are_parameters = more.are;
  are_directives = ap (λ c. c.directives) (sym more.is);
  are_attributes = ap (λ c. c.attributes) (sym more.is);
}

onto_path : (clause : Clause) (text name : List ℕ) (texts : List (List ℕ)) (whole : Clause) → IsPart text (Path name) →
    Gathers (with_part clause (Path name)) texts whole → Gathers clause (text ∷ texts) whole
onto_path clause text name texts whole (is_path is) more = record {
  paths = text ∷ more.paths;
  parameters = more.parameters;
  named = name ∷ more.named;
  is = ap (λ l. text ∷ l) more.is;
  are_paths = (is, more.are_paths);
  all = more.all ∙ append_assoc clause.paths (name ∷ []) more.named;
  directives = more.directives;
  attributes = more.attributes;
  are_parameters = more.are_parameters;
  are_directives = more.are_directives;
  are_attributes = more.are_attributes;
}

gathers_by : (clause : Clause) (text : List ℕ) (texts : List (List ℕ)) (part : ClausePart) (whole : Clause) → IsPart text part →
    cond (may_take clause part) (clause_after (with_part clause part) texts) None ≡ Some whole →
    ((next : Clause) → clause_after next texts ≡ Some whole → Gathers next texts whole) → Gathers clause (text ∷ texts) whole
gathers_by clause text texts (Path name) whole is e later =
    let took = taken (is_fresh clause) texts (with_part clause (Path name)) whole e in
    onto_path clause text name texts whole is (later (with_part clause (Path name)) took.1)
gathers_by clause text texts (Directive pair) whole is e later =
    let took = taken (may_take clause (Directive pair)) texts (with_part clause (Directive pair)) whole e in
    from_parameters clause (text ∷ texts) whole
    (onto_directive clause text texts pair whole is (goes_on (with_part clause (Directive pair)) texts whole (used_directive clause pair) took.1))
gathers_by clause text texts (Attribute one) whole is e later =
    let took = taken (may_take clause (Attribute one)) texts (with_part clause (Attribute one)) whole e in
    from_parameters clause (text ∷ texts) whole
    (onto_attribute clause text texts one whole is (goes_on (with_part clause (Attribute one)) texts whole (used_attribute clause one) took.1))

gathers : (clause : Clause) (texts : List (List ℕ)) (whole : Clause) → clause_after clause texts ≡ Some whole → Gathers clause texts whole
gathers clause [] whole e = from_parameters clause [] whole (ends_here clause whole e)
gathers clause (text ∷ texts) whole e =
    option_and_then_some (λ part. cond (may_take clause part) (clause_after (with_part clause part) texts) None) (part_of text) whole e
    (λ part was made. gathers_by clause text texts part whole (part_sound text part was) made (λ next h. gathers next texts whole h))

gathered : (text name : List ℕ) (texts : List (List ℕ)) (whole : Clause) → IsPart text (Path name) → Gathers (with_part empty_clause (Path name)) texts whole →
    (all : List ℕ) → all ≡ join_with_byte 59 (text ∷ texts) → IsClause all whole
gathered text name texts whole (is_path is) more all joined = record {
  paths = text ∷ more.paths;
  parameters = more.parameters;
  is = joined ∙ ap (λ l. join_with_byte 59 (text ∷ l)) more.is;
  some = omega arith;
  are_paths = subst (ArePaths (text ∷ more.paths)) (sym more.all) (is, more.are_paths);
  are_parameters =
      subst (AreParameters more.parameters whole.directives) (sym more.are_attributes)
      (subst (λ l. AreParameters more.parameters l more.attributes) (sym more.are_directives) more.are_parameters);
}

-- the first part is a path
first_by : (text : List ℕ) (texts : List (List ℕ)) (part : ClausePart) (whole : Clause) → IsPart text part →
    cond (may_take empty_clause part) (clause_after (with_part empty_clause part) texts) None ≡ Some whole →
    (all : List ℕ) → all ≡ join_with_byte 59 (text ∷ texts) → IsClause all whole
first_by text texts (Path name) whole is e all joined = gathered text name texts whole is (gathers (with_part empty_clause (Path name)) texts whole e) all joined
first_by text texts (Directive pair) whole is e all joined = absurd (cc e)
first_by text texts (Attribute one) whole is e all joined = absurd (cc e)

sound_by : (text : List ℕ) (parts : List (List ℕ)) (whole : Clause) → 0 < length parts → text ≡ join_with_byte 59 parts → clause_after empty_clause parts ≡ Some whole → IsClause text whole
sound_by text [] whole some is e = absurd (omega (arith, some))
sound_by text (first ∷ parts) whole some is e =
    option_and_then_some (λ part. cond (may_take empty_clause part) (clause_after (with_part empty_clause part) parts) None) (part_of first) whole e
    (λ part was made. first_by first parts part whole (part_sound first part was) made text is)

pub clause_sound : (text : List ℕ) (clause : Clause) → clause_of text ≡ Some clause → IsClause text clause
clause_sound text clause e =
    let parts = cut_is 59 Bare text in
    sound_by text (cut 59 text) clause (cut_some parts) (cut_joined parts) e

-- ---- and each clause is gathered

paths_read : (clause : Clause) (texts paths : List (List ℕ)) (more : List (List ℕ)) → is_fresh clause ≡ true → ArePaths texts paths →
    clause_after clause (texts ++ more) ≡ clause_after (with_paths clause paths) more
paths_read clause [] [] more fresh are = ap (λ l. clause_after (record { paths = l; directives = clause.directives; attributes = clause.attributes }) more) (sym (append-nil clause.paths))
paths_read clause [] (path ∷ paths) more fresh are = absurd are
paths_read clause (text ∷ texts) [] more fresh are = absurd are
paths_read clause (text ∷ texts) (path ∷ paths) more fresh are =
    ap (option_and_then (λ part. cond (may_take clause part) (clause_after (with_part clause part) (texts ++ more)) None)) (part_read text (Path path) (is_path are.0))
    ∙ cond-true (is_fresh clause) _ _ fresh
    ∙ paths_read (with_part clause (Path path)) texts paths more fresh are.1
    ∙ ap (λ l. clause_after (record { paths = l; directives = clause.directives; attributes = clause.attributes }) more) (append_assoc clause.paths (path ∷ []) paths)

take_part : (clause : Clause) (text : List ℕ) (texts : List (List ℕ)) (part : ClausePart) → IsPart text part → may_take clause part ≡ true →
    clause_after clause (text ∷ texts) ≡ clause_after (with_part clause part) texts
take_part clause text texts part is may =
    ap (option_and_then (λ p. cond (may_take clause p) (clause_after (with_part clause p) texts) None)) (part_read text part is)
    ∙ cond-true (may_take clause part) _ _ may

parameters_read : (clause : Clause) {texts : List (List ℕ)} {directives : List Pair} {attributes : List Typed} → 0 < length clause.paths →
    AreParameters texts directives attributes → clause_after clause texts ≡ Some (with_parameters clause directives attributes)
parameters_read clause some none =
    ap (λ l. Some (record { paths = clause.paths; directives = l; attributes = clause.attributes })) (sym (append-nil clause.directives))
    ∙ ap (λ l. Some (record { paths = clause.paths; directives = clause.directives ++ []; attributes = l })) (sym (append-nil clause.attributes))
parameters_read clause some (directive {text = text} {texts = texts} {pair = pair} {directives = directives} {attributes = attributes} is more) =
    take_part clause text texts (Directive pair) (is_directive is) (has_items clause.paths some)
    ∙ parameters_read (with_part clause (Directive pair)) some more
    ∙ ap (λ l. Some (record { paths = clause.paths; directives = l; attributes = clause.attributes ++ attributes })) (append_assoc clause.directives (pair ∷ []) directives)
parameters_read clause some (plain {text = text} {texts = texts} {typed = one} {directives = directives} {attributes = attributes} is more) =
    take_part clause text texts (Attribute one) (is_plain is) (has_items clause.paths some)
    ∙ parameters_read (with_part clause (Attribute one)) some more
    ∙ ap (λ l. Some (record { paths = clause.paths; directives = clause.directives ++ directives; attributes = l })) (append_assoc clause.attributes (one ∷ []) attributes)
parameters_read clause some (typed {text = text} {texts = texts} {typed = one} {directives = directives} {attributes = attributes} is more) =
    take_part clause text texts (Attribute one) (is_typed is) (has_items clause.paths some)
    ∙ parameters_read (with_part clause (Attribute one)) some more
    ∙ ap (λ l. Some (record { paths = clause.paths; directives = clause.directives ++ directives; attributes = l })) (append_assoc clause.attributes (one ∷ []) attributes)

paths_some : (texts paths : List (List ℕ)) → ArePaths texts paths → 0 < length texts → 0 < length paths
paths_some [] paths are some = absurd (omega (arith, some))
paths_some (text ∷ texts) [] are some = absurd are
paths_some (text ∷ texts) (path ∷ paths) are some = omega arith

-- no separator stands outside quotes in any of the parts
whole_paths : (separator : ℕ) (texts paths more : List (List ℕ)) → ((text : List ℕ) (part : ClausePart) → IsPart text part → scan separator Bare text ≡ Some Bare) → ArePaths texts paths →
    AreWhole separator more → AreWhole separator (texts ++ more)
whole_paths separator [] [] more one are whole = whole
whole_paths separator [] (path ∷ paths) more one are whole = absurd are
whole_paths separator (text ∷ texts) [] more one are whole = absurd are
whole_paths separator (text ∷ texts) (path ∷ paths) more one are whole =
    (one text (Path path) (is_path are.0), whole_paths separator texts paths more one are.1 whole)

whole_parameters : (separator : ℕ) {texts : List (List ℕ)} {directives : List Pair} {attributes : List Typed} →
    ((text : List ℕ) (part : ClausePart) → IsPart text part → scan separator Bare text ≡ Some Bare) → AreParameters texts directives attributes → AreWhole separator texts
whole_parameters separator one none = tt
whole_parameters separator one (directive {text = text} {pair = pair} is more) = (one text (Directive pair) (is_directive is), whole_parameters separator one more)
whole_parameters separator one (plain {text = text} {typed = it} is more) = (one text (Attribute it) (is_plain is), whole_parameters separator one more)
whole_parameters separator one (typed {text = text} {typed = it} is more) = (one text (Attribute it) (is_typed is), whole_parameters separator one more)

whole_parts : (separator : ℕ) (text : List ℕ) (clause : Clause) (is : IsClause text clause) →
    ((text : List ℕ) (part : ClausePart) → IsPart text part → scan separator Bare text ≡ Some Bare) → AreWhole separator (is.paths ++ is.parameters)
whole_parts separator text clause is one =
    whole_paths separator is.paths clause.paths is.parameters one is.are_paths (whole_parameters separator one is.are_parameters)

pub clause_read : (text : List ℕ) (clause : Clause) → IsClause text clause → clause_of text ≡ Some clause
clause_read text clause is =
    ap clause_of is.is
    ∙ ap (clause_after empty_clause) (joined_cut 59 (is.paths ++ is.parameters) (omega (arith, is.some, length-append is.paths is.parameters)) (whole_parts 59 text clause is part_in_clause))
    ∙ paths_read empty_clause is.paths clause.paths is.parameters refl is.are_paths
    ∙ parameters_read (with_paths empty_clause clause.paths) (paths_some is.paths clause.paths is.are_paths is.some) is.are_parameters

-- no `,` stands outside quotes in a clause
pub clause_scan : (text : List ℕ) (clause : Clause) → IsClause text clause → scan 44 Bare text ≡ Some Bare
clause_scan text clause is = ap (scan 44 Bare) is.is ∙ joined_scan (is.paths ++ is.parameters) (whole_parts 44 text clause is part_in_value)
