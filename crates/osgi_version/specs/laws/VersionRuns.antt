-- Each text of the grammar runs through the machine.
use Rattle.std.proofs.Common.{◌≡◌, ◌<◌, ◌+◌, ◌*◌, ℕ, Some, List, [], ◌∷◌, ◌++◌, length, refl, ap, ◌∙◌, sym, append_assoc, arith}
use Rattle.std.specs.Char.{digit_value}
use Rattle.std.specs.Str.Parse.{digits_value_after}
use Rattle.std.proofs.lemmas.List.{append-nil}
use Rattle.osgi_version.specs.Bytes.{Each, IsBlank, IsDigit, IsWordByte}
use Rattle.osgi_version.specs.computed.Classes.{class_of, IsWordClass}
use Rattle.osgi_version.specs.computed.Run.{run, gather}
use Rattle.osgi_version.specs.computed.VersionMachine.{finish}
use Rattle.osgi_version.specs.Versions.{Parts, IsNumber, IsMinor, IsMicro, IsQualified, IsBody, major, minor, micro, qualified, SpellsVersion, blank, body}
use Rattle.osgi_version.specs.laws.Capping.{free_next, free_step, grown}
use Rattle.osgi_version.specs.laws.Classes.{blank_class, digit_class, dot, word_class}
use Rattle.osgi_version.specs.laws.Digits.{digit_is, each_digit}
use Rattle.osgi_version.specs.laws.Running.{run_then, run_each}
use Rattle.osgi_version.specs.laws.VersionSeen.{led_end}
use Rattle.osgi_version.specs.declared.bytes.Class.{Class}
use Rattle.osgi_version.specs.declared.bytes.Class.TheVariants.{Digit, Blank, Letter}
use Rattle.osgi_version.specs.declared.version_state.VersionState.{VersionState}
use Rattle.osgi_version.specs.declared.version_state.VersionState.TheVariants.{Lead, Major, MinorDot, Minor, MicroDot, Micro, QualifierDot, Qualifier, Trail}
use Rattle.osgi_version.specs.laws.Cutting.{end_part, middle_part}

lead_runs : (lead : List ℕ) → Each IsBlank lead → run free_step Lead lead ≡ Some Lead
lead_runs lead blanks = run_each free_step IsBlank (λ (u : ℕ). Lead) (λ u b. u) (λ u b e. ap (free_next Lead b) (blank_class b e)) 0 lead blanks

-- the numeral's value, from the left
gather_grown : (n : ℕ) (ds : List ℕ) → Each IsDigit ds → gather grown n ds ≡ digits_value_after 10 n ds
gather_grown n [] all = refl
gather_grown n (d ∷ ds) all =
    let same : grown n d ≡ n * 10 + digit_value d = omega (arith, digit_is d all.0) in
    ap (λ x. gather grown x ds) same ∙ gather_grown (n * 10 + digit_value d) ds all.1

-- a number after the state s
number_runs : (s : VersionState) (f : ℕ → VersionState) → ((b : ℕ) → IsDigit b → free_step s b ≡ Some (f (grown 0 b))) →
    ((n b : ℕ) → IsDigit b → free_step (f n) b ≡ Some (f (grown n b))) → (ds : List ℕ) (n : ℕ) → IsNumber ds n → run free_step s ds ≡ Some (f n)
number_runs s f first turn [] n h = absurd (omega (arith, h.numeral.0))
number_runs s f first turn (d ∷ ds) n h =
    let digits = each_digit (d ∷ ds) h.numeral.1 in
    rw (first d digits.0)
    (run_each free_step IsDigit f grown turn (grown 0 d) ds digits.1
    ∙ ap (λ x. Some (f x)) (gather_grown 0 (d ∷ ds) digits ∙ sym h.value))

dotted_runs : (s t : VersionState) (f : ℕ → VersionState) → free_step s 46 ≡ Some t → ((b : ℕ) → IsDigit b → free_step t b ≡ Some (f (grown 0 b))) →
    ((n b : ℕ) → IsDigit b → free_step (f n) b ≡ Some (f (grown n b))) → (text prefix ds : List ℕ) (n : ℕ) → text ≡ prefix ++ 46 ∷ ds → run free_step Lead prefix ≡ Some s →
    IsNumber ds n → run free_step Lead text ≡ Some (f n)
dotted_runs s t f e first turn text prefix ds n parts h number =
    rw parts (run_then free_step Lead s prefix (46 ∷ ds) (Some (f n)) h (rw e (number_runs t f first turn ds n number)))

major_runs : (text : List ℕ) (m : ℕ) → IsNumber text m → run free_step Lead text ≡ Some (Major m)
major_runs text m h =
    number_runs Lead Major (λ b e. ap (free_next Lead b) (digit_class b e)) (λ n b e. ap (free_next (Major n) b) (digit_class b e)) text m h

minor_runs : (text : List ℕ) (m i : ℕ) → IsMinor text m i → run free_step Lead text ≡ Some (Minor m i)
minor_runs text m i h = dotted_runs (Major m) (MinorDot m) (Minor m) (ap (free_next (Major m) 46) dot) (λ b e. ap (free_next (MinorDot m) b) (digit_class b e)) (λ n b e. ap (free_next (Minor m n) b) (digit_class b e)) text h.prefix h.digits i h.parts (major_runs h.prefix m h.major) h.number

micro_runs : (text : List ℕ) (m i n : ℕ) → IsMicro text m i n → run free_step Lead text ≡ Some (Micro m i n)
micro_runs text m i n h = dotted_runs (Minor m i) (MicroDot m i) (Micro m i) (ap (free_next (Minor m i) 46) dot) (λ b e. ap (free_next (MicroDot m i) b) (digit_class b e)) (λ n b e. ap (free_next (Micro m i n) b) (digit_class b e)) text h.prefix h.digits n h.parts (minor_runs h.prefix m i h.minor) h.number

word_turn : (s t : VersionState) (b : ℕ) (c : Class) → class_of b ≡ c → IsWordClass c → free_next s b Digit ≡ Some t → free_next s b Letter ≡ Some t → free_step s b ≡ Some t
word_turn s t b Digit e w d l = rw e d
word_turn s t b Letter e w d l = rw e l
word_turn s t b c e w d l = absurd w

count : ℕ → ℕ → ℕ
count k b = k + 1

counted : (k : ℕ) (q : List ℕ) → gather count k q ≡ k + length q
unfolding count
counted k [] = omega arith
counted k (b ∷ q) = counted (k + 1) q ∙ omega arith

words_run : (m i n : ℕ) (q : List ℕ) → 0 < length q → Each IsWordByte q → run free_step (QualifierDot m i n) q ≡ Some (Qualifier m i n (length q))
unfolding count
words_run m i n [] lt h = absurd (omega arith)
words_run m i n (b ∷ q) lt h = rw (word_turn (QualifierDot m i n) (Qualifier m i n 1) b (class_of b) refl (word_class b h.0) refl refl)
    (run_each free_step IsWordByte (Qualifier m i n) count (λ k b w. word_turn (Qualifier m i n k) (Qualifier m i n (k + 1)) b (class_of b) refl (word_class b w) refl refl) 1 q h.1
    ∙ ap (λ k. Some (Qualifier m i n k)) (let e : gather count 1 q ≡ length (b ∷ q) = counted 1 q ∙ omega arith in e))

qualified_runs : (text q : List ℕ) (m i n : ℕ) → IsQualified text m i n q → run free_step Lead text ≡ Some (Qualifier m i n (length q))
qualified_runs text q m i n h = rw h.parts (run_then free_step Lead (Micro m i n) h.prefix (46 ∷ q) _ (micro_runs h.prefix m i n h.micro) (rw (ap (free_next (Micro m i n) 46) dot) (words_run m i n q h.some h.words)))

trail_runs : (m i n k w : ℕ) (end : List ℕ) → Each IsBlank end → run free_step (Trail m i n k w) end ≡ Some (Trail m i n k (w + length end))
unfolding count
trail_runs m i n k w end h = run_each free_step IsBlank (Trail m i n k) count (λ w b e. ap (free_next (Trail m i n k w) b) (blank_class b e)) w end h ∙ ap (λ x. Some (Trail m i n k x)) (counted w end)

-- blanks after a whole version
ends : (s : VersionState) (m i n k : ℕ) → ((b : ℕ) → free_next s b Blank ≡ Some (Trail m i n k 1)) → (b : ℕ) (end : List ℕ) → Each IsBlank (b ∷ end) → run free_step s (b ∷ end) ≡ Some (Trail m i n k (length (b ∷ end)))
ends s m i n k turn b end h = rw (ap (free_next s b) (blank_class b h.0) ∙ turn b) (trail_runs m i n k 1 end h.1 ∙ ap (λ x. Some (Trail m i n k x)) (omega arith))

pub record Runs (text : List ℕ) (v : Parts) : Type 0 where
  pub state : VersionState
  pub reaches : run free_step Lead text ≡ Some state
  pub finishes : finish text state ≡ Some v

-- white space before what begins with a number
led_runs : (lead inner : List ℕ) (s : VersionState) → Each IsBlank lead → run free_step Lead inner ≡ Some s → run free_step Lead (lead ++ inner) ≡ Some s
led_runs lead inner s blanks h = run_then free_step Lead Lead lead inner (Some s) (lead_runs lead blanks) h

with_end : (s : VersionState) (lead inner : List ℕ) (v : Parts) → Each IsBlank lead → run free_step Lead inner ≡ Some s → ((text : List ℕ) → text ≡ lead ++ inner → finish text s ≡ Some v)
    → IsBody inner v → ((b : ℕ) → free_next s b Blank ≡ Some (Trail v.major v.minor v.micro (length v.qualifier) 1))
    → (text end : List ℕ) → text ≡ lead ++ (inner ++ end) → Each IsBlank end → Runs text v
with_end s lead inner v ls e f h turn text [] parts bs =
    let same : text ≡ lead ++ inner = parts ∙ ap (λ x. lead ++ x) (append-nil inner) in
    record { state = s; reaches = rw same (led_runs lead inner s ls e); finishes = f text same }
with_end s lead inner v ls e f h turn text (b ∷ end) parts bs =
    let cut : text ≡ (lead ++ inner) ++ b ∷ end = parts ∙ sym (append_assoc lead inner (b ∷ end)) in
    let at = led_end (lead ++ inner) lead inner v refl h in
    record {
      state = Trail v.major v.minor v.micro (length v.qualifier) (length (b ∷ end));
      reaches =
          rw cut
          (run_then free_step Lead s (lead ++ inner) (b ∷ end) _ (led_runs lead inner s ls e) (ends s v.major v.minor v.micro (length v.qualifier) turn b end bs));
      finishes =
          ap (λ q. Some (record { major = v.major; minor = v.minor; micro = v.micro; qualifier = q }))
          (middle_part text at.0 v.qualifier (b ∷ end) (length v.qualifier) (length (b ∷ end)) (cut ∙ ap (λ x. x ++ (b ∷ end)) at.1) refl refl);
    }

-- complete: what is spelled so is accepted
pub spells_runs : (text : List ℕ) (v : Parts) → SpellsVersion text v → Runs text v
spells_runs text v (blank h) = record { state = Lead; reaches = lead_runs text h; finishes = refl }
spells_runs text v (body lead inner end parts ls (major {m = m} h) bs) =
    with_end (Major m) lead inner _ ls (major_runs inner m h) (λ t e. refl) (major h) (λ b. refl) text end parts bs
spells_runs text v (body lead inner end parts ls (minor {m = m} {i = i} h) bs) =
    with_end (Minor m i) lead inner _ ls (minor_runs inner m i h) (λ t e. refl) (minor h) (λ b. refl) text end parts bs
spells_runs text v (body lead inner end parts ls (micro {m = m} {i = i} {c = n} h) bs) =
    with_end (Micro m i n) lead inner _ ls (micro_runs inner m i n h) (λ t e. refl) (micro h) (λ b. refl) text end parts bs
spells_runs text v (body lead inner end parts ls (qualified {m = m} {i = i} {c = n} {q = q} h) bs) =
    with_end (Qualifier m i n (length q)) lead inner _ ls (qualified_runs inner q m i n h)
    (λ t e.
    let at = led_end t lead inner _ e (qualified h) in
    ap (λ x. Some (record { major = m; minor = i; micro = n; qualifier = x })) (end_part t at.0 q (length q) at.1 refl))
    (qualified h) (λ b. refl) text end parts bs
