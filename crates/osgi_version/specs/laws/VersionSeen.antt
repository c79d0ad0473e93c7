-- What was read where the version machine is in a state, in the words of the grammar.
use Rattle.std.proofs.Common.{◌≡◌, ◌+◌, ℕ, true, Some, List, [], ◌∷◌, ◌++◌, length, refl, ap, ◌∙◌, sym, subst, append_assoc, arith, length-append}
use Rattle.std.specs.Option.{IfSome}
use Rattle.std.proofs.lemmas.Int.Digits.{digits_value_push}
use Rattle.std.proofs.lemmas.List.{append-nil}
use Rattle.osgi_version.specs.Bytes.{Each, IsBlank, IsDigit, IsWordByte}
use Rattle.osgi_version.specs.computed.Classes.{class_of}
use Rattle.osgi_version.specs.computed.Run.{run}
use Rattle.osgi_version.specs.computed.VersionMachine.{step, is_fine, finish}
use Rattle.osgi_version.specs.Versions.{Parts, IsNumber, IsMinor, IsMicro, IsQualified, IsBody, major, minor, micro, qualified, SpellsVersion, blank, body}
use Rattle.osgi_version.specs.laws.Capping.{capped, fine_capped, free_next, free_step, grown, reached}
use Rattle.osgi_version.specs.laws.Classes.{blank_of, digit_of, dot_is, word_of}
use Rattle.osgi_version.specs.laws.Digits.{digit_below, digit_is, digits_push}
use Rattle.osgi_version.specs.laws.Running.{each_push, run_keeps}
use Rattle.osgi_version.specs.declared.bytes.Class.{Class}
use Rattle.osgi_version.specs.declared.bytes.Class.TheVariants.{Digit, Dot, Blank, Letter}
use Rattle.osgi_version.specs.declared.version_state.VersionState.{VersionState}
use Rattle.osgi_version.specs.declared.version_state.VersionState.TheVariants.{Lead, Major, MinorDot, Minor, MicroDot, Micro, QualifierDot, Qualifier, Trail}
use Rattle.osgi_version.specs.laws.Cutting.{push_parts, end_part, middle_part}

pub record IsDotted (text : List ℕ) (Front : List ℕ → Type 0) : Type 0 where
  pub prefix : List ℕ
  pub parts : text ≡ prefix ++ 46 ∷ []
  pub first : Front prefix

-- a qualified text whose qualifier has so many bytes
pub record IsEndingIn (text : List ℕ) (m i n k : ℕ) : Type 0 where
  pub qualifier : List ℕ
  pub long : length qualifier ≡ k
  pub is : IsQualified text m i n qualifier

pub record IsTrail (text : List ℕ) (m i n k w : ℕ) : Type 0 where
  pub prefix : List ℕ
  pub end : List ℕ
  pub qualifier : List ℕ
  pub parts : text ≡ prefix ++ end
  pub long : length qualifier ≡ k
  pub wide : length end ≡ w
  pub blanks : Each IsBlank end
  pub body : IsBody prefix (record { major = m; minor = i; micro = n; qualifier = qualifier })

-- a text after white space
pub record IsLed (text : List ℕ) (Inner : List ℕ → Type 0) : Type 0 where
  pub lead : List ℕ
  pub inner : List ℕ
  pub parts : text ≡ lead ++ inner
  pub blanks : Each IsBlank lead
  pub is : Inner inner

abbrev pub Seen : List ℕ → VersionState → Type 0
Seen p Lead = Each IsBlank p
Seen p (Major m) = IsLed p (λ a. IsNumber a m)
Seen p (MinorDot m) = IsLed p (λ a. IsDotted a (λ f. IsNumber f m))
Seen p (Minor m i) = IsLed p (λ a. IsMinor a m i)
Seen p (MicroDot m i) = IsLed p (λ a. IsDotted a (λ f. IsMinor f m i))
Seen p (Micro m i n) = IsLed p (λ a. IsMicro a m i n)
Seen p (QualifierDot m i n) = IsLed p (λ a. IsDotted a (λ f. IsMicro f m i n))
Seen p (Qualifier m i n k) = IsLed p (λ a. IsEndingIn a m i n k)
Seen p (Trail m i n k w) = IsLed p (λ a. IsTrail a m i n k w)

pub one_digit : (b : ℕ) → IsDigit b → IsNumber (b ∷ []) (grown 0 b)
one_digit b e = record { numeral = (omega arith, (digit_below b e, tt)); value = omega (arith, digit_is b e) }

pub digit_push : (ds : List ℕ) (n b : ℕ) → IsNumber ds n → IsDigit b → IsNumber (ds ++ b ∷ []) (grown n b)
digit_push ds n b h e = record {
  numeral = (omega (arith, length-append ds (b ∷ [])), digits_push ds b h.numeral.1 (digit_below b e));
  value = omega (arith, h.value, digits_value_push 10 ds b, digit_is b e);
}

minor_push : (p : List ℕ) (m i b : ℕ) → IsMinor p m i → IsDigit b → IsMinor (p ++ b ∷ []) m (grown i b)
minor_push p m i b h e = record { prefix = h.prefix; digits = h.digits ++ b ∷ []; parts = push_parts p h.prefix (46 ∷ h.digits) b h.parts; major = h.major; number = digit_push h.digits i b h.number e }

micro_push : (p : List ℕ) (m i n b : ℕ) → IsMicro p m i n → IsDigit b → IsMicro (p ++ b ∷ []) m i (grown n b)
micro_push p m i n b h e = record { prefix = h.prefix; digits = h.digits ++ b ∷ []; parts = push_parts p h.prefix (46 ∷ h.digits) b h.parts; minor = h.minor; number = digit_push h.digits n b h.number e }

dot_push : (p : List ℕ) (F : List ℕ → Type 0) (b : ℕ) → F p → class_of b ≡ Dot → IsDotted (p ++ b ∷ []) F
dot_push p F b h e = record { prefix = p; parts = ap (λ x. p ++ x ∷ []) (dot_is b e); first = h }

pub dotted_push : (p a : List ℕ) (b : ℕ) → p ≡ a ++ 46 ∷ [] → p ++ b ∷ [] ≡ a ++ 46 ∷ b ∷ []
dotted_push p a b e = push_parts p a (46 ∷ []) b e

trail_one : (p q : List ℕ) (m i n k b : ℕ) → length q ≡ k → IsBody p (record { major = m; minor = i; micro = n; qualifier = q }) → IsBlank b → IsTrail (p ++ b ∷ []) m i n k 1
trail_one p q m i n k b l h e = record { prefix = p; end = b ∷ []; qualifier = q; parts = refl; long = l; wide = refl; blanks = (e, tt); body = h }

word_one : (p : List ℕ) (m i n b : ℕ) → IsDotted p (λ a. IsMicro a m i n) → IsWordByte b → IsEndingIn (p ++ b ∷ []) m i n 1
word_one p m i n b h e = record {
  qualifier = b ∷ [];
  long = refl;
  is = record { prefix = h.prefix; parts = dotted_push p h.prefix b h.parts; micro = h.first; some = omega arith; words = (e, tt) };
}

word_push : (p : List ℕ) (m i n k b : ℕ) → IsEndingIn p m i n k → IsWordByte b → IsEndingIn (p ++ b ∷ []) m i n (k + 1)
word_push p m i n k b h e = record {
  qualifier = h.qualifier ++ b ∷ [];
  long = omega (arith, length-append h.qualifier (b ∷ []), h.long);
  is = record {
    prefix = h.is.prefix;
    parts = push_parts p h.is.prefix (46 ∷ h.qualifier) b h.is.parts;
    micro = h.is.micro;
    some = omega (arith, length-append h.qualifier (b ∷ []));
    words = each_push IsWordByte h.qualifier b h.is.words e;
  };
}

trail_push : (p : List ℕ) (m i n k w b : ℕ) → IsTrail p m i n k w → IsBlank b → IsTrail (p ++ b ∷ []) m i n k (w + 1)
trail_push p m i n k w b h e = record {
  prefix = h.prefix;
  end = h.end ++ b ∷ [];
  qualifier = h.qualifier;
  parts = push_parts p h.prefix h.end b h.parts;
  long = h.long;
  wide = omega (arith, length-append h.end (b ∷ []), h.wide);
  blanks = each_push IsBlank h.end b h.blanks e;
  body = h.body;
}

-- one byte more after the white space
led_push : (p : List ℕ) (F G : List ℕ → Type 0) (b : ℕ) → ((a : List ℕ) → F a → G (a ++ b ∷ [])) → IsLed p F → IsLed (p ++ b ∷ []) G
led_push p F G b push h = record { lead = h.lead; inner = h.inner ++ b ∷ []; parts = push_parts p h.lead h.inner b h.parts; blanks = h.blanks; is = push h.inner h.is }

-- one clause for each arrow of the machine
pub seen_next : (p : List ℕ) (s : VersionState) (b : ℕ) (c : Class) → class_of b ≡ c → Seen p s → IfSome (free_next s b c) (Seen (p ++ b ∷ []))
seen_next p Lead b Blank e h = each_push IsBlank p b h (blank_of b e)
seen_next p Lead b Digit e h = record { lead = p; inner = b ∷ []; parts = refl; blanks = h; is = one_digit b (digit_of b e) }
seen_next p (Major m) b Digit e h = led_push p _ (λ a. IsNumber a (grown m b)) b (λ a f. digit_push a m b f (digit_of b e)) h
seen_next p (Major m) b Dot e h = led_push p _ (λ a. IsDotted a (λ f. IsNumber f m)) b (λ a f. dot_push a _ b f e) h
seen_next p (Major m) b Blank e h = led_push p _ (λ a. IsTrail a m 0 0 0 1) b (λ a f. trail_one a [] m 0 0 0 b refl (major f) (blank_of b e)) h
seen_next p (MinorDot m) b Digit e h = led_push p _ (λ a. IsMinor a m (grown 0 b)) b
    (λ a f. record { prefix = f.prefix; digits = b ∷ []; parts = dotted_push a f.prefix b f.parts; major = f.first; number = one_digit b (digit_of b e) }) h
seen_next p (Minor m i) b Digit e h = led_push p _ (λ a. IsMinor a m (grown i b)) b (λ a f. minor_push a m i b f (digit_of b e)) h
seen_next p (Minor m i) b Dot e h = led_push p _ (λ a. IsDotted a (λ f. IsMinor f m i)) b (λ a f. dot_push a _ b f e) h
seen_next p (Minor m i) b Blank e h = led_push p _ (λ a. IsTrail a m i 0 0 1) b (λ a f. trail_one a [] m i 0 0 b refl (minor f) (blank_of b e)) h
seen_next p (MicroDot m i) b Digit e h = led_push p _ (λ a. IsMicro a m i (grown 0 b)) b
    (λ a f. record { prefix = f.prefix; digits = b ∷ []; parts = dotted_push a f.prefix b f.parts; minor = f.first; number = one_digit b (digit_of b e) }) h
seen_next p (Micro m i n) b Digit e h = led_push p _ (λ a. IsMicro a m i (grown n b)) b (λ a f. micro_push a m i n b f (digit_of b e)) h
seen_next p (Micro m i n) b Dot e h = led_push p _ (λ a. IsDotted a (λ f. IsMicro f m i n)) b (λ a f. dot_push a _ b f e) h
seen_next p (Micro m i n) b Blank e h = led_push p _ (λ a. IsTrail a m i n 0 1) b (λ a f. trail_one a [] m i n 0 b refl (micro f) (blank_of b e)) h
seen_next p (QualifierDot m i n) b Digit e h = led_push p _ (λ a. IsEndingIn a m i n 1) b (λ a f. word_one a m i n b f (word_of b Digit e tt)) h
seen_next p (QualifierDot m i n) b Letter e h = led_push p _ (λ a. IsEndingIn a m i n 1) b (λ a f. word_one a m i n b f (word_of b Letter e tt)) h
seen_next p (Qualifier m i n k) b Digit e h = led_push p _ (λ a. IsEndingIn a m i n (k + 1)) b (λ a f. word_push a m i n k b f (word_of b Digit e tt)) h
seen_next p (Qualifier m i n k) b Letter e h = led_push p _ (λ a. IsEndingIn a m i n (k + 1)) b (λ a f. word_push a m i n k b f (word_of b Letter e tt)) h
seen_next p (Qualifier m i n k) b Blank e h = led_push p _ (λ a. IsTrail a m i n k 1) b
    (λ a f. trail_one a f.qualifier m i n k b f.long (qualified f.is) (blank_of b e)) h
seen_next p (Trail m i n k w) b Blank e h = led_push p _ (λ a. IsTrail a m i n k (w + 1)) b (λ a f. trail_push a m i n k w b f (blank_of b e)) h
seen_next p s b c e h = tt

seen_free : (p : List ℕ) (s : VersionState) → run free_step Lead p ≡ Some s → Seen p s
seen_free p s e = run_keeps free_step Seen (λ q t b h. seen_next q t b (class_of b) refl h) [] p Lead s tt e

-- what was read where the machine is in a state: the numbers are those of the text, or the greatest that it counts
pub record HasSeen (p : List ℕ) (s : VersionState) : Type 0 where
  pub free : VersionState
  pub is : s ≡ capped free
  pub seen : Seen p free

pub has_seen : (p : List ℕ) (s : VersionState) → run step Lead p ≡ Some s → HasSeen p s
has_seen p s e = let at = reached p s e in record { free = at.free; is = at.is; seen = seen_free p at.free at.runs }

-- where all numbers fit, they are those of the text
pub seen_fine : (p : List ℕ) (s : VersionState) → run step Lead p ≡ Some s → is_fine s ≡ true → Seen p s
seen_fine p s e fine =
    let has = has_seen p s e in
    subst (Seen p) (sym (fine_capped has.free (rw has.is at fine)) ∙ sym has.is) has.seen

-- the qualifier is the end of a body
pub body_end : (a : List ℕ) (v : Parts) → IsBody a v → (f : List ℕ) × (a ≡ f ++ v.qualifier)
body_end a v (major h) = (a, sym (append-nil a))
body_end a v (minor h) = (a, sym (append-nil a))
body_end a v (micro h) = (a, sym (append-nil a))
body_end a v (qualified {q = q} h) = (h.prefix ++ 46 ∷ [], h.parts ∙ sym (append_assoc h.prefix (46 ∷ []) q))

whole : (p : List ℕ) (v : Parts) → IsLed p (λ a. IsBody a v) → SpellsVersion p v
whole p v h = body h.lead h.inner [] (h.parts ∙ ap (λ x. h.lead ++ x) (sym (append-nil h.inner))) h.blanks h.is tt

led : (p : List ℕ) (F G : List ℕ → Type 0) → ((a : List ℕ) → F a → G a) → IsLed p F → IsLed p G
led p F G f h = record { lead = h.lead; inner = h.inner; parts = h.parts; blanks = h.blanks; is = f h.inner h.is }

-- the qualifier is the end of a body after white space
pub led_end : (text lead inner : List ℕ) (v : Parts) → text ≡ lead ++ inner → IsBody inner v → (f : List ℕ) × (text ≡ f ++ v.qualifier)
led_end text lead inner v parts h =
    let at = body_end inner v h in
    (lead ++ at.0, parts ∙ ap (λ x. lead ++ x) at.1 ∙ sym (append_assoc lead at.0 v.qualifier))

-- sound: what the machine accepts is spelled so
pub seen_finish : (p : List ℕ) (s : VersionState) → Seen p s → IfSome (finish p s) (SpellsVersion p)
seen_finish p Lead h = blank h
seen_finish p (Major m) h = whole p _ (led p _ _ (λ a f. major f) h)
seen_finish p (MinorDot m) h = tt
seen_finish p (Minor m i) h = whole p _ (led p _ _ (λ a f. minor f) h)
seen_finish p (MicroDot m i) h = tt
seen_finish p (Micro m i n) h = whole p _ (led p _ _ (λ a f. micro f) h)
seen_finish p (QualifierDot m i n) h = tt
seen_finish p (Qualifier m i n k) h =
    let at = led_end p h.lead h.inner _ h.parts (qualified h.is.is) in
    rw (end_part p at.0 h.is.qualifier k at.1 h.is.long)
    (whole p _ (record { lead = h.lead; inner = h.inner; parts = h.parts; blanks = h.blanks; is = qualified h.is.is }))
seen_finish p (Trail m i n k w) h =
    let at = led_end (h.lead ++ h.is.prefix) h.lead h.is.prefix _ refl h.is.body in
    let parts : p ≡ h.lead ++ (h.is.prefix ++ h.is.end) = h.parts ∙ ap (λ x. h.lead ++ x) h.is.parts in
    rw (middle_part p at.0 h.is.qualifier h.is.end k w (parts ∙ sym (append_assoc h.lead h.is.prefix h.is.end) ∙ ap (λ x. x ++ h.is.end) at.1) h.is.long h.is.wide)
    (body h.lead h.is.prefix h.is.end parts h.blanks h.is.body h.is.blanks)
