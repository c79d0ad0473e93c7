-- Of the headers with one name the last is kept.
use Rattle.std.proofs.Common.{◌≡◌, ℕ, List, [], ◌∷◌, ◌++◌, length, take, drop, ap, sym, ◌∙◌, refl, append_assoc}
use Rattle.std.specs.Prelude.{Bool, true, false, cond, not, reverse, ◌||◌}
use Rattle.std.specs.Cmp.Lexicographic.{slice_cmp}
use Rattle.std.specs.List.{list_any}
use Rattle.std.specs.Ordering.{is_eq, nat_cmp}
use Rattle.std.specs.Str.{bytes_eq, str_to_ascii_lowercase}
use Rattle.std.proofs.Math.Seq.{drop-append_seam, take-append_seam}
use Rattle.std.proofs.lemmas.Bool.{cond-false, cond-true}
use Rattle.std.proofs.lemmas.List.{reverse-append, take-append-drop}
use Rattle.std.proofs.lemmas.Cmp.{nat_list_eq_equiv}
use Rattle.std.proofs.lemmas.Map.Text.{is_eq-slice_cmp}
use Rattle.std.specs.declared.alloc.Global.{Global}
use Rattle.std.specs.declared.vec.Vec.{Vec}
use Rattle.osgi_header.specs.declared.header.Header.{Header}
use Rattle.osgi_header.specs.Headers.{counting, have_one_name}

-- a header taken from the end of those that are left
pub record Taken (headers left fewer : List Header) (header : Header) : Type 0 where
  pub rest : drop (length fewer) headers ≡ header ∷ drop (length left) headers
  pub prefix : fewer ≡ take (length fewer) headers

pub taken : (headers left fewer : List Header) (header : Header) → left ≡ fewer ++ header ∷ [] → left ≡ take (length left) headers → Taken headers left fewer header
taken headers left fewer header is prefix =
    let remainder : List Header = drop (length left) headers in
    let split : headers ≡ fewer ++ header ∷ remainder
    = sym (take-append-drop (length left) headers) ∙ ap (λ l. l ++ remainder) (sym prefix ∙ is) ∙ append_assoc fewer (header ∷ []) remainder in
    record {
      rest = ap (drop (length fewer)) split ∙ drop-append_seam fewer (header ∷ remainder);
      prefix = sym (ap (take (length fewer)) split ∙ take-append_seam fewer (header ∷ remainder));
    }

kept_by : (header : Header) (remainder kept next : List Header) (again : Bool) → list_any (have_one_name header) remainder ≡ again → reverse kept ≡ counting remainder →
    next ≡ cond (not again) (kept ++ header ∷ []) kept → reverse next ≡ counting (header ∷ remainder)
kept_by header remainder kept next true e so_far is = ap reverse is ∙ so_far ∙ sym (cond-true (list_any (have_one_name header) remainder) _ _ e)
kept_by header remainder kept next false e so_far is =
    ap reverse is ∙ reverse-append kept (header ∷ []) ∙ ap (λ l. header ∷ l) so_far ∙ sym (cond-false (list_any (have_one_name header) remainder) _ _ e)

pub kept_more : (header : Header) (remainder kept next : List Header) (counts : Bool) → counts ≡ not (list_any (have_one_name header) remainder) → reverse kept ≡ counting remainder →
    next ≡ cond counts (kept ++ header ∷ []) kept → reverse next ≡ counting (header ∷ remainder)
kept_more header remainder kept next counts e so_far is =
    kept_by header remainder kept next (list_any (have_one_name header) remainder) refl so_far (is ∙ ap (λ t. cond t (kept ++ header ∷ []) kept) e)

-- ---- the names that were seen

abbrev Key : Type 0
Key = Vec ℕ Global

-- whether a name is among the keys
abbrev pub is_key : List Key → List ℕ → Bool
is_key keys name = list_any (λ k. is_eq (slice_cmp nat_cmp name k.items)) keys

-- whether a name without case is among those of the headers
abbrev pub is_named : List ℕ → List Header → Bool
is_named low headers = list_any (λ h. bytes_eq low (str_to_ascii_lowercase h.name)) headers

-- the keys are the names of the headers
abbrev pub AreNames : List Key → List Header → Type 0
AreNames keys headers = (q : Key) → is_key keys q.items ≡ is_named q.items headers

or_else : (test rest : Bool) → cond test true rest ≡ (test || rest)
or_else true rest = refl
or_else false rest = refl

pub names_more : (keys more : List Key) (key : Key) (header : Header) (remainder : List Header) → key.items ≡ str_to_ascii_lowercase header.name → AreNames keys remainder →
    ((q : Key) → is_key more q.items ≡ cond (is_eq (slice_cmp nat_cmp key.items q.items)) true (is_key keys q.items)) → AreNames more (header ∷ remainder)
names_more keys more key header remainder low are added = λ q.
    added q
    ∙ ap (λ t. cond t true (is_key keys q.items))
    (is_eq-slice_cmp key.items q.items ∙ nat_list_eq_equiv.symm key.items q.items ∙ ap (bytes_eq q.items) low)
    ∙ ap (cond (bytes_eq q.items (str_to_ascii_lowercase header.name)) true) (are q)
    ∙ or_else (bytes_eq q.items (str_to_ascii_lowercase header.name)) (is_named q.items remainder)

-- a name counts where no header after it has it
pub counts_is : (keys : List Key) (key : Key) (header : Header) (remainder : List Header) (counts : Bool) → key.items ≡ str_to_ascii_lowercase header.name → AreNames keys remainder →
    counts ≡ not (is_key keys key.items) → counts ≡ not (list_any (have_one_name header) remainder)
counts_is keys key header remainder counts low are is =
    is ∙ ap not (are key) ∙ ap (λ l. not (is_named l remainder)) low
