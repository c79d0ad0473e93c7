-- A text that no `,` cuts has its quotes closed or an open one, as a scan of it says.
use Rattle.std.proofs.Common.{◌≡◌, ◌≢◌, ℕ, ◌⊎◌, inl, inr, List, [], ◌∷◌, ◌++◌, ap, sym, ◌∙◌, refl, append_assoc}
use Rattle.std.specs.Prelude.{Bool, true, false, ◌==◌, not, Some}
use Rattle.std.proofs.lemmas.Bool.{cond-false, cond-true, eqb-false, eqb-true, ne_eqb}
use Rattle.osgi_base.specs.declared.parts.QuoteState.{QuoteState}
use Rattle.osgi_base.specs.declared.parts.QuoteState.TheVariants.{Bare, Escaped, Quoted}
use Rattle.osgi_base.specs.laws.Scans.{scan-append, scan-one, scan_more, scan_quoted, spelled_scan}
use Rattle.osgi_base.specs.Parts.{ends_part, is_bare, state_after, scan}
use Rattle.osgi_header.proofs.Splitting.{scan_place}
use Rattle.osgi_header.specs.ClauseFaults.{byte, IsClosedText, IsEndless, IsOpen, nothing as closed_nothing, quotes, slashed, spelled}
use Rattle.osgi_header.specs.computed.Cutting.{is_open}
use Rattle.osgi_base.specs.Quotes.{backslash, escaped, IsQuoted, nothing, plain, Spells}

-- ---- from the grammar to the scan

pub closed_scan : {text : List ℕ} → IsClosedText text → scan 44 Bare text ≡ Some Bare
closed_scan closed_nothing = refl
closed_scan (byte {b = b} {rest = rest} no_comma no_quote more) = scan-one 44 b rest (ne_eqb b 44 no_comma, ne_eqb b 34 no_quote) ∙ closed_scan more
closed_scan (quotes {quoted = quoted} {text = text} {rest = rest} is more) =
    scan-append 44 Bare Bare quoted rest (scan_quoted 44 quoted text is refl) ∙ closed_scan more

-- where a scan of a text with an open quote ends
pub record EndsOpen (text : List ℕ) : Type 0 where
  pub end : QuoteState
  pub scanned : scan 44 Bare text ≡ Some end
  pub within : is_bare end ≡ false

endless_by : (text prefix remainder : List ℕ) → text ≡ prefix ++ 34 ∷ remainder → IsClosedText prefix → IsEndless remainder → EndsOpen text
endless_by text prefix remainder is closed (spelled spells) = record {
  end = Quoted;
  scanned = ap (scan 44 Bare) is ∙ scan-append 44 Bare Bare prefix (34 ∷ remainder) (closed_scan closed) ∙ spelled_scan 44 spells;
  within = refl;
}
endless_by text prefix remainder is closed (slashed {spelled = written} spells) = record {
  end = Escaped;
  scanned =
      ap (scan 44 Bare) is ∙ scan-append 44 Bare Bare prefix (34 ∷ remainder) (closed_scan closed)
      ∙ scan-append 44 Quoted Quoted written (92 ∷ []) (spelled_scan 44 spells);
  within = refl;
}

pub open_scan : (text : List ℕ) → IsOpen text → EndsOpen text
open_scan text is = endless_by text is.prefix is.remainder is.is is.closed is.endless

-- ---- from the scan to the grammar

-- what a text is, by where a scan of it ends
pub Ends : QuoteState → List ℕ → Type 0
Ends Bare text = IsClosedText text
Ends Quoted text = IsOpen text
Ends Escaped text = IsOpen text

-- what follows an opening quote, and maybe a `\`, by where a scan of it ends
data Within (end : QuoteState) : List ℕ → Type 0 where
  ends : {written text : List ℕ} (rest : List ℕ) → Spells written text → Ends end rest → Within end (written ++ 34 ∷ rest)
  endless : {text : List ℕ} → IsEndless text → is_bare end ≡ false → Within end text

open_from : (end : QuoteState) (text : List ℕ) → is_bare end ≡ false → IsOpen text → Ends end text
unfolding Ends
open_from Bare text within is = absurd (cc within)
open_from Quoted text within is = is
open_from Escaped text within is = is

open_byte : (b : ℕ) (rest : List ℕ) → b ≢ 44 → b ≢ 34 → IsOpen rest → IsOpen (b ∷ rest)
open_byte b rest no_comma no_quote is =
    record { prefix = b ∷ is.prefix; remainder = is.remainder; is = ap (λ l. b ∷ l) is.is; closed = byte no_comma no_quote is.closed; endless = is.endless }

ends_byte : (end : QuoteState) (b : ℕ) (rest : List ℕ) → b ≢ 44 → b ≢ 34 → Ends end rest → Ends end (b ∷ rest)
unfolding Ends
ends_byte Bare b rest no_comma no_quote is = byte no_comma no_quote is
ends_byte Quoted b rest no_comma no_quote is = open_byte b rest no_comma no_quote is
ends_byte Escaped b rest no_comma no_quote is = open_byte b rest no_comma no_quote is

open_quoted : (quoted text rest : List ℕ) → IsQuoted quoted text → IsOpen rest → IsOpen (quoted ++ rest)
open_quoted quoted text rest q is = record {
  prefix = quoted ++ is.prefix;
  remainder = is.remainder;
  is = ap (λ l. quoted ++ l) is.is ∙ sym (append_assoc quoted is.prefix (34 ∷ is.remainder));
  closed = quotes q is.closed;
  endless = is.endless;
}

ends_quoted : (end : QuoteState) (quoted text rest : List ℕ) → IsQuoted quoted text → Ends end rest → Ends end (quoted ++ rest)
unfolding Ends
ends_quoted Bare quoted text rest q is = quotes q is
ends_quoted Quoted quoted text rest q is = open_quoted quoted text rest q is
ends_quoted Escaped quoted text rest q is = open_quoted quoted text rest q is

-- an opening quote, and what follows it
from_within : (end : QuoteState) (rest : List ℕ) → Within end rest → Ends end (34 ∷ rest)
from_within end rest (ends {written = written} {text = text} more spells is) =
    let quoted : List ℕ = 34 ∷ written ++ 34 ∷ [] in
    let whole : quoted ++ more ≡ 34 ∷ rest = append_assoc (34 ∷ written) (34 ∷ []) more in
    rw (← whole) (ends_quoted end quoted text more (record { spelled = written; is = refl; spells = spells }) is)
from_within end rest (endless is within) =
    open_from end (34 ∷ rest) within (record { prefix = []; remainder = rest; is = refl; closed = closed_nothing; endless = is })

endless_plain : (b : ℕ) (rest : List ℕ) → b ≢ 34 → b ≢ 92 → IsEndless rest → IsEndless (b ∷ rest)
endless_plain b rest no_quote no_slash (spelled spells) = spelled (plain no_quote no_slash spells)
endless_plain b rest no_quote no_slash (slashed spells) = slashed (plain no_quote no_slash spells)

within_plain : (end : QuoteState) (b : ℕ) (rest : List ℕ) → b ≢ 34 → b ≢ 92 → Within end rest → Within end (b ∷ rest)
within_plain end b rest no_quote no_slash (ends {written = written} more spells is) = ends {written = b ∷ written} more (plain no_quote no_slash spells) is
within_plain end b rest no_quote no_slash (endless is within) = endless (endless_plain b rest no_quote no_slash is) within

-- what a byte after a `\` stands for, if that is more than one of two
data Behind : ℕ → Type 0 where
  special : {b : ℕ} → (b ≡ 34) ⊎ (b ≡ 92) → Behind b
  other : {b : ℕ} → b ≢ 34 → b ≢ 92 → Behind b

remainder : (b : ℕ) (quote slash : Bool) → (b == 34) ≡ quote → (b == 92) ≡ slash → Behind b
remainder b true slash is_quote is_slash = special (inl (eqb-true b 34 is_quote))
remainder b false true is_quote is_slash = special (inr (eqb-true b 92 is_slash))
remainder b false false is_quote is_slash = other (eqb-false b 34 is_quote) (eqb-false b 92 is_slash)

endless_slash : (b : ℕ) (rest : List ℕ) → Behind b → IsEndless rest → IsEndless (92 ∷ b ∷ rest)
endless_slash b rest (special is) (spelled spells) = spelled (escaped is spells)
endless_slash b rest (special is) (slashed spells) = slashed (escaped is spells)
endless_slash b rest (other no_quote no_slash) (spelled spells) = spelled (backslash no_quote no_slash spells)
endless_slash b rest (other no_quote no_slash) (slashed spells) = slashed (backslash no_quote no_slash spells)

within_slash : (end : QuoteState) (b : ℕ) (rest : List ℕ) → Behind b → Within end rest → Within end (92 ∷ b ∷ rest)
within_slash end b rest (special is) (ends {written = written} after spells more) = ends {written = 92 ∷ b ∷ written} after (escaped is spells) more
within_slash end b rest (other no_quote no_slash) (ends {written = written} after spells more) =
    ends {written = 92 ∷ b ∷ written} after (backslash no_quote no_slash spells) more
within_slash end b rest is (endless more within) = endless (endless_slash b rest is more) within

-- what a scan that begins at a place says
Says : QuoteState → List ℕ → QuoteState → Type 0
Says Bare text end = Ends end text
Says Quoted text end = Within end text
Says Escaped text end = Within end (92 ∷ text)

says_end : (place : QuoteState) → Says place [] place
unfolding Says Ends
says_end Bare = closed_nothing
says_end Quoted = endless (spelled nothing) refl
says_end Escaped = endless (slashed nothing) refl

bare_more : (b : ℕ) (rest : List ℕ) (end : QuoteState) (quote : Bool) → (b == 34) ≡ quote → b ≢ 44 → Says (state_after Bare b) rest end → Ends end (b ∷ rest)
unfolding Says
bare_more b rest end true is no_comma says =
    rw (eqb-true b 34 is) (from_within end rest (rw (cond-true (b == 34) Quoted Bare is) at says))
bare_more b rest end false is no_comma says =
    ends_byte end b rest no_comma (eqb-false b 34 is) (rw (cond-false (b == 34) Quoted Bare is) at says)

quoted_more : (b : ℕ) (rest : List ℕ) (end : QuoteState) (slash quote : Bool) → (b == 92) ≡ slash → (b == 34) ≡ quote → Says (state_after Quoted b) rest end → Within end (b ∷ rest)
unfolding Says
quoted_more b rest end true quote is_slash is_quote says =
    rw (eqb-true b 92 is_slash) (rw (cond-true (b == 92) Escaped _ is_slash) at says)
quoted_more b rest end false true is_slash is_quote says =
    rw (eqb-true b 34 is_quote)
    (ends {written = []} rest nothing (rw (cond-false (b == 92) Escaped _ is_slash, cond-true (b == 34) Bare Quoted is_quote) at says))
quoted_more b rest end false false is_slash is_quote says =
    within_plain end b rest (eqb-false b 34 is_quote) (eqb-false b 92 is_slash)
    (rw (cond-false (b == 92) Escaped _ is_slash, cond-false (b == 34) Bare Quoted is_quote) at says)

says_more : (place : QuoteState) (b : ℕ) (rest : List ℕ) (end : QuoteState) → (is_bare place ≡ true → b ≢ 44) → Says (state_after place b) rest end → Says place (b ∷ rest) end
unfolding Says
says_more Bare b rest end no_comma says = bare_more b rest end (b == 34) refl (no_comma refl) says
says_more Quoted b rest end no_comma says = quoted_more b rest end (b == 92) (b == 34) refl refl says
says_more Escaped b rest end no_comma says = within_slash end b rest (remainder b (b == 34) (b == 92) refl refl) says

no_comma_at : (place : QuoteState) (b : ℕ) → ends_part 44 place b ≡ false → is_bare place ≡ true → b ≢ 44
no_comma_at Bare b e bare = eqb-false b 44 e
no_comma_at Quoted b e bare = absurd (cc bare)
no_comma_at Escaped b e bare = absurd (cc bare)

scan_says : (place : QuoteState) (text : List ℕ) (end : QuoteState) → scan 44 place text ≡ Some end → Says place text end
scan_says place [] end scanned =
    let same : place ≡ end = cc scanned in
    rw (← same) (says_end place)
scan_says place (b ∷ rest) end scanned =
    let more = scan_more 44 place b rest end (ends_part 44 place b) refl scanned in
    says_more place b rest end (no_comma_at place b more.0) (scan_says (state_after place b) rest end more.1)

pub scan_ends : (text : List ℕ) (end : QuoteState) → scan 44 Bare text ≡ Some end → Ends end text
unfolding Says
scan_ends text end scanned = scan_says Bare text end scanned

pub scan_closed : (text : List ℕ) → scan 44 Bare text ≡ Some Bare → IsClosedText text
unfolding Ends
scan_closed text scanned = scan_ends text Bare scanned

open_by : (text : List ℕ) (end : QuoteState) → is_bare end ≡ false → Ends end text → IsOpen text
unfolding Ends
open_by text Bare within is = absurd (cc within)
open_by text Quoted within is = is
open_by text Escaped within is = is

pub scan_open : (text : List ℕ) (end : QuoteState) → scan 44 Bare text ≡ Some end → is_bare end ≡ false → IsOpen text
scan_open text end scanned within = open_by text end within (scan_ends text end scanned)

pub is_open-scan : (text : List ℕ) (end : QuoteState) → scan 44 Bare text ≡ Some end → is_open text ≡ not (is_bare end)
is_open-scan text end scanned = ap (λ p. not (is_bare p)) (scan_place 44 Bare end text scanned)
