-- Sections that are the same, and the sections that parts have.
use Rattle.std.proofs.Common.{◌≡◌, ◌≢◌, ℕ, ◌<◌, List, [], ◌∷◌, ◌++◌, length, get_or, map, ap, sym, ◌∙◌, refl, arith, length-append}
use Rattle.std.specs.Prelude.{AllPairs, Bool, true, false, cond, nat_lt, ◌||◌, Some}
use Rattle.std.specs.BTreeMap.{is_at}
use Rattle.std.specs.BTreeSet.{BTreeSet, contains}
use Rattle.std.specs.Cmp.Lexicographic.{slice_cmp}
use Rattle.std.specs.Ordering.{nat_cmp}
use Rattle.std.specs.Str.{bytes_eq}
use Rattle.std.proofs.Math.ListN.{get_or-append, get_or-map}
use Rattle.std.proofs.Math.Seq.{get_or-append_seam}
use Rattle.std.proofs.lemmas.Bool.{false≢true}
use Rattle.std.proofs.lemmas.Cmp.{nat_list_eq_equiv}
use Rattle.std.proofs.lemmas.List.{length-map, map-append}
use Rattle.std.proofs.lemmas.List.Folds.{Any-from_list_any, list_any_at}
use Rattle.std.proofs.lemmas.List.Quantifiers.{all_pairs_push}
use Rattle.std.proofs.lemmas.Map.Text.{is_eq-slice_cmp}
use Rattle.std.proofs.lemmas.Option.{cond_some}
use Rattle.std.proofs.lemmas.Slice.Eq.{bytes_eq-Decides}
use Rattle.osgi_model.specs.laws.Made.{mapped}
use Rattle.osgi_ops.specs.declared.section.Section.{Section}
use Rattle.osgi_ops.specs.declared.section.Section.TheVariants.{Start, Stop, On, Job, Make}
use Rattle.osgi_session.specs.declared.statement.Statement.{Statement}
use Rattle.osgi_script.specs.computed.ScriptReader.{add_statement, has_section, is_taken, with_statement}
use Rattle.osgi_session.specs.Scripts.{is_section}
use Rattle.osgi_session.specs.laws.Sections.{is_section-self}
use Rattle.osgi_session.specs.declared.script.Part.{Part}
use Rattle.osgi_script.specs.declared.taken.Taken.{Taken}
use Rattle.osgi_script.specs.declared.script.TheConstants.{MAX_STATEMENTS}

pub same_sound : (s t : Section) → is_section s t ≡ true → s ≡ t
same_sound Start Start e = refl
same_sound Stop Stop e = refl
same_sound (On name) (On other) e = ap On ((bytes_eq-Decides name other).0 e)
same_sound (Job name) (Job other) e = ap Job ((bytes_eq-Decides name other).0 e)
same_sound (Make name) (Make other) e = ap Make ((bytes_eq-Decides name other).0 e)
same_sound s t e = absurd (cc e)

abbrev section_of : Part → Section
section_of part = part.section

-- no two parts are of one section
abbrev pub AreApart : List Part → Type 0
AreApart parts = AllPairs (λ (p q : Part). p.section ≢ q.section) parts

pub has_at : (parts : List Part) (section : Section) (k : ℕ) (d : Part) → k < length parts → (get_or parts k d).section ≡ section → has_section parts section ≡ true
has_at parts section k d below is =
    list_any_at (λ (p : Part). is_section section p.section) parts k d below (ap (is_section section) is ∙ is_section-self section)

-- a part of another section may follow
pub apart_push : (parts : List Part) (part : Part) → AreApart parts → has_section parts part.section ≡ false → AreApart (parts ++ part ∷ [])
apart_push parts part apart new =
    all_pairs_push (λ (p q : Part). p.section ≢ q.section) parts part apart (λ k d below same. false≢true (sym new ∙ has_at parts part.section k d below same))

-- and one of the same section may not
found_by : (parts rest : List Part) (part : Part) (test : Bool) → has_section parts part.section ≡ test → AreApart (parts ++ part ∷ rest) → test ≡ false
found_by parts rest part false e apart = refl
found_by parts rest part true e apart =
    let (k, x, below, is, passes) = Any-from_list_any (λ (p : Part). is_section part.section p.section) parts e in
    let same : x.section ≡ part.section = sym (same_sound part.section x.section passes) in
    let within : length parts < length (parts ++ part ∷ rest) = omega (arith, length-append parts (part ∷ rest)) in
    absurd (apart k (length parts) x below within
    (ap (λ (p : Part). p.section) (get_or-append parts (part ∷ rest) x k below ∙ is) ∙ same ∙ ap (λ (p : Part). p.section) (sym (get_or-append_seam parts part rest x))))

pub apart_new : (parts rest : List Part) (part : Part) → AreApart (parts ++ part ∷ rest) → has_section parts part.section ≡ false
apart_new parts rest part apart = found_by parts rest part (has_section parts part.section) refl apart

-- parts that are of the same sections are apart as well
apart_same : (parts others : List Part) → map section_of parts ≡ map section_of others → AreApart parts → AreApart others
apart_same parts others same apart = λ i j d less below.
    let long : length parts ≡ length others = sym (length-map parts section_of) ∙ ap length same ∙ length-map others section_of in
    let at : (k : ℕ) → (get_or parts k d).section ≡ (get_or others k d).section
    = λ k. sym (get_or-map section_of parts k d) ∙ ap (λ l. get_or l k d.section) same ∙ get_or-map section_of others k d in
    λ alike. apart i j d less (omega (arith, below, long)) (at i ∙ alike ∙ sym (at j))

pub apart_last : (done : List Part) (last next : Part) → next.section ≡ last.section → AreApart (done ++ last ∷ []) → AreApart (done ++ next ∷ [])
apart_last done last next same apart =
    apart_same (done ++ last ∷ []) (done ++ next ∷ [])
    (map-append section_of done (last ∷ []) ∙ ap (λ s. map section_of done ++ s ∷ []) (sym same) ∙ sym (map-append section_of done (next ∷ []))) apart

-- ---- sections that have heads

or_else : (test rest : Bool) → cond test true rest ≡ (test || rest)
or_else true rest = refl
or_else false rest = refl

-- a name joins the names that were taken
name_taken : (old new : BTreeSet (List ℕ)) (key name : List ℕ) → key ≡ name →
    ((q : List ℕ) → contains (slice_cmp nat_cmp) new q ≡ cond (is_at (slice_cmp nat_cmp key) q) true (contains (slice_cmp nat_cmp) old q)) →
    (q : List ℕ) → contains (slice_cmp nat_cmp) new q ≡ (bytes_eq q name || contains (slice_cmp nat_cmp) old q)
name_taken old new key name same updates q =
    updates q
    ∙ ap (λ t. cond t true (contains (slice_cmp nat_cmp) old q)) (is_eq-slice_cmp key q ∙ nat_list_eq_equiv.symm key q ∙ ap (bytes_eq q) same)
    ∙ or_else (bytes_eq q name) (contains (slice_cmp nat_cmp) old q)

pub on_taken : (taken : Taken) (new : BTreeSet (List ℕ)) (section : Section) (key name : List ℕ) → section ≡ On name → key ≡ name →
    ((q : List ℕ) → contains (slice_cmp nat_cmp) new q ≡ cond (is_at (slice_cmp nat_cmp key) q) true (contains (slice_cmp nat_cmp) taken.on q)) →
    (other : Section) → is_taken (record { start = taken.start; stop = taken.stop; on = new; job = taken.job; make = taken.make }) other ≡ (is_section other section || is_taken taken other)
on_taken taken new section key name is same updates Start = rw is refl
on_taken taken new section key name is same updates Stop = rw is refl
on_taken taken new section key name is same updates (On q) = rw is (name_taken taken.on new key name same updates q)
on_taken taken new section key name is same updates (Job q) = rw is refl
on_taken taken new section key name is same updates (Make q) = rw is refl

pub job_taken : (taken : Taken) (new : BTreeSet (List ℕ)) (section : Section) (key name : List ℕ) → section ≡ Job name → key ≡ name →
    ((q : List ℕ) → contains (slice_cmp nat_cmp) new q ≡ cond (is_at (slice_cmp nat_cmp key) q) true (contains (slice_cmp nat_cmp) taken.job q)) →
    (other : Section) → is_taken (record { start = taken.start; stop = taken.stop; on = taken.on; job = new; make = taken.make }) other ≡ (is_section other section || is_taken taken other)
job_taken taken new section key name is same updates Start = rw is refl
job_taken taken new section key name is same updates Stop = rw is refl
job_taken taken new section key name is same updates (On q) = rw is refl
job_taken taken new section key name is same updates (Job q) = rw is (name_taken taken.job new key name same updates q)
job_taken taken new section key name is same updates (Make q) = rw is refl

pub make_taken : (taken : Taken) (new : BTreeSet (List ℕ)) (section : Section) (key name : List ℕ) → section ≡ Make name → key ≡ name →
    ((q : List ℕ) → contains (slice_cmp nat_cmp) new q ≡ cond (is_at (slice_cmp nat_cmp key) q) true (contains (slice_cmp nat_cmp) taken.make q)) →
    (other : Section) → is_taken (record { start = taken.start; stop = taken.stop; on = taken.on; job = taken.job; make = new }) other ≡ (is_section other section || is_taken taken other)
make_taken taken new section key name is same updates Start = rw is refl
make_taken taken new section key name is same updates Stop = rw is refl
make_taken taken new section key name is same updates (On q) = rw is refl
make_taken taken new section key name is same updates (Job q) = rw is refl
make_taken taken new section key name is same updates (Make q) = rw is (name_taken taken.make new key name same updates q)

-- a statement more leaves the sections as they are
pub same_sections : (s : Statement) (old new : List Part) → add_statement s old ≡ Some new → (section : Section) → has_section new section ≡ has_section old section
same_sections s [] new e section = absurd (cc e)
same_sections s (p ∷ []) new e section =
    let read = cond_some (nat_lt (length p.statements) MAX_STATEMENTS) (with_statement p s ∷ []) new e in
    ap (λ l. has_section l section) (sym read.1)
same_sections s (p ∷ next ∷ parts) new e section =
    let read = mapped (λ rest. p ∷ rest) (add_statement s (next ∷ parts)) new e in
    ap (λ l. has_section l section) (sym read.is) ∙ ap (λ t. is_section section p.section || t) (same_sections s (next ∷ parts) read.value read.was section)

pub none_apart : AreApart []
none_apart i j d less below = absurd (omega arith)
