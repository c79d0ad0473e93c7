-- One more text that is named.
use Rattle.std.proofs.Common.{◌≡◌, ◌<◌, ◌+◌, ℕ, List, [], ◌∷◌, ◌++◌, length, take, get_or, ap, sym, ◌∙◌, refl, subst, append-nil}
use Rattle.std.specs.Prelude.{Bool, true, false, cond, not, if◌then◌else◌, ◌||◌, Option, None, Some}
use Rattle.std.specs.BTreeMap.{is_at}
use Rattle.std.specs.BTreeSet.{BTreeSet, contains}
use Rattle.std.specs.Cmp.Lexicographic.{slice_cmp}
use Rattle.std.specs.List.{filter_map}
use Rattle.std.specs.Option.{option_to_list}
use Rattle.std.specs.Ordering.{nat_cmp}
use Rattle.std.specs.Str.{bytes_eq}
use Rattle.std.proofs.lemmas.List.{take_more}
use Rattle.std.proofs.lemmas.List.Elements.{filter_map-append}
use Rattle.std.proofs.lemmas.List.Folds.{list_any-append}
use Rattle.std.proofs.lemmas.Map.Text.{is_eq-slice_cmp}
use Rattle.osgi_depot.specs.Depots.{firsts, location_in}
use Rattle.osgi_base.specs.Texts.{is_among}
use Rattle.osgi_depot.specs.computed.Locations.{AreSeen}
use Rattle.osgi_ops.specs.laws.Along.{along-last}
use Rattle.osgi_session.specs.declared.line.Line.{Line}

-- ---- a text more

firsts_push : (texts : List (List ℕ)) (text : List ℕ) → firsts (texts ++ text ∷ []) ≡ firsts texts ++ (if is_among texts text then [] else text ∷ [])
firsts_push texts text = along-last (λ before text. if is_among before text then [] else text ∷ []) texts text

or_last : (a b : Bool) → cond a true b ≡ (b || (a || false))
or_last true true = refl
or_last true false = refl
or_last false true = refl
or_last false false = refl

-- the list after a text that is new, or is not
abbrev pub with_new : List (List ℕ) → List ℕ → Bool → List (List ℕ)
with_new list text true = list ++ text ∷ []
with_new list text false = list

module _ (old new : BTreeSet (List ℕ)) (list named : List (List ℕ)) (text : List ℕ) (seen : AreSeen old list named) where
  firsts_with : (is_new : Bool) → is_new ≡ not (is_among named text) → with_new list text is_new ≡ firsts (named ++ text ∷ [])
  firsts_with is_new e = ap (with_new list text) e ∙ by_case (is_among named text) refl
    where
      by_case : (among : Bool) → is_among named text ≡ among → with_new list text (not among) ≡ firsts (named ++ text ∷ [])
      by_case true is = seen.firsts_are ∙ sym (append-nil (firsts named)) ∙ ap (λ b. firsts named ++ (if b then [] else text ∷ [])) (sym is) ∙ sym (firsts_push named text)
      by_case false is = ap (λ l. l ++ text ∷ []) seen.firsts_are ∙ ap (λ b. firsts named ++ (if b then [] else text ∷ [])) (sym is) ∙ sym (firsts_push named text)

  pub seen_more : (is_new : Bool) → is_new ≡ not (contains (slice_cmp nat_cmp) old text) →
      ((q : List ℕ) → contains (slice_cmp nat_cmp) new q ≡ cond (is_at (slice_cmp nat_cmp text) q) true (contains (slice_cmp nat_cmp) old q)) →
      AreSeen new (with_new list text is_new) (named ++ text ∷ [])
  seen_more is_new e updates = record {
    has = λ q.
        updates q ∙ ap (λ t. cond t true (contains (slice_cmp nat_cmp) old q)) (is_eq-slice_cmp text q) ∙ ap (cond (bytes_eq text q) true) (seen.has q)
        ∙ or_last (bytes_eq text q) (is_among named q) ∙ sym (list_any-append (λ t. bytes_eq t q) named (text ∷ []));
    firsts_are = firsts_with is_new (e ∙ ap not (seen.has text));
  }

  -- the set after a text, whose copies were put into the set and, where it is new, at the list's end
  module _ (key : List ℕ) (key_is : key ≡ text) (is_new : Bool) (added : is_new ≡ not (contains (slice_cmp nat_cmp) old key))
      (updates : (q : List ℕ) → contains (slice_cmp nat_cmp) new q ≡ cond (is_at (slice_cmp nat_cmp key) q) true (contains (slice_cmp nat_cmp) old q)) where
    seen_so : AreSeen new (with_new list text is_new) (named ++ text ∷ [])
    seen_so =
        seen_more is_new (added ∙ ap (λ k. not (contains (slice_cmp nat_cmp) old k)) key_is)
        (λ q. updates q ∙ ap (λ k. cond (is_at (slice_cmp nat_cmp k) q) true (contains (slice_cmp nat_cmp) old q)) key_is)

    pub seen_pushed : (last : List ℕ) (pushed : List (List ℕ)) → last ≡ text → is_new ≡ true → pushed ≡ list ++ last ∷ [] → AreSeen new pushed (named ++ text ∷ [])
    seen_pushed last pushed last_is it_is items =
        subst (λ (l : List (List ℕ)). AreSeen new l (named ++ text ∷ [])) (ap (with_new list text) it_is ∙ ap (λ k. list ++ k ∷ []) (sym last_is) ∙ sym items) seen_so

    pub seen_kept : is_new ≡ false → AreSeen new list (named ++ text ∷ [])
    seen_kept it_is_not = subst (λ (l : List (List ℕ)). AreSeen new l (named ++ text ∷ [])) (ap (with_new list text) it_is_not) seen_so

-- ---- a line more

abbrev pub named_in : List Line → List (List ℕ)
named_in lines = filter_map (λ (line : Line). location_in line.content) lines

one_named : (line : Line) (o : Option (List ℕ)) → location_in line.content ≡ o → named_in (line ∷ []) ≡ option_to_list o
one_named line None is = rw is refl
one_named line (Some location) is = rw is refl

pub named_more : (lines : List Line) (i : ℕ) (line : Line) (o : Option (List ℕ)) → i < length lines → line ≡ get_or lines i line → location_in line.content ≡ o →
    named_in (take (i + 1) lines) ≡ named_in (take i lines) ++ option_to_list o
named_more lines i line o below is named =
    ap named_in (take_more lines i line below ∙ ap (λ (l : Line). take i lines ++ l ∷ []) (sym is))
    ∙ filter_map-append (λ (line : Line). location_in line.content) (take i lines) (line ∷ []) ∙ ap (λ l. named_in (take i lines) ++ l) (one_named line o named)

-- what was seen after a line that names a location or none
pub line_seen : (old new : BTreeSet (List ℕ)) (before after : List (List ℕ)) (lines : List Line) (i : ℕ) (line : Line) (o : Option (List ℕ)) → i < length lines → line ≡ get_or lines i line →
    o ≡ location_in line.content → new ≡ old → after ≡ before → AreSeen old before (named_in (take i lines) ++ option_to_list o) → AreSeen new after (named_in (take (i + 1) lines))
line_seen old new before after lines i line o below is named set list seen =
    subst (λ (s : BTreeSet (List ℕ)). AreSeen s after (named_in (take (i + 1) lines))) (sym set)
    (subst (λ (l : List (List ℕ)). AreSeen old l (named_in (take (i + 1) lines))) (sym list)
    (subst (AreSeen old before) (sym (named_more lines i line o below is (sym named))) seen))

pub unnamed_seen : (set : BTreeSet (List ℕ)) (list named : List (List ℕ)) → AreSeen set list named → AreSeen set list (named ++ [])
unnamed_seen set list named seen = subst (AreSeen set list) (sym (append-nil named)) seen
