-- Arguments are read as what they say, and only as that.
use Rattle.std.proofs.Common.{◌≡◌, ℕ, ◌<◌, ◌^◌, List, [], ◌∷◌, ap, sym, ◌∙◌, refl, arith, subst}
use Rattle.std.specs.Prelude.{Bool, true, false, nat_lt, Option, None, Some, option_and_then, codes}
use Rattle.std.specs.Option.{option_map}
use Rattle.std.specs.Str.{bytes_eq}
use Rattle.std.specs.Str.Parse.{digits_value}
use Rattle.std.proofs.lemmas.Bool.{cond-false, cond-true, lt-ltb, ltb-true}
use Rattle.std.proofs.lemmas.Option.{cond_some, option_and_then_some}
use Rattle.osgi_base.specs.declared.ids.BundleId.{BundleId}
use Rattle.osgi_base.specs.declared.ids.ServiceId.{ServiceId}
use Rattle.osgi_model.specs.laws.Made.{mapped, same_text}
use Rattle.osgi_console.specs.Console.{AreBundleIds, IsLevel}
use Rattle.osgi_console.specs.computed.ArgumentReader.{aim_of, bundle_ids_of, level_by, level_of, only_bundle_of}
use Rattle.osgi_console.specs.declared.arguments.Aim.{Aim}
use Rattle.osgi_syntax.specs.laws.Ids.{bundle_id_read, bundle_id_sound, id_read, id_sound, whole_bundle_id, whole_id}
use Rattle.osgi_syntax.specs.Splitting.{only_word_of}
use Rattle.osgi_syntax.specs.WordReader.{bundle_id_of, service_id_of}
use Rattle.osgi_syntax.specs.LineWords.{AreLineWords, IsLineWord}
use Rattle.osgi_syntax.specs.Words.{IsBundleId, IsId}

-- ---- one word

-- the one argument is a word that is this
pub record IsOnly {A : Type 0} (Is : List ℕ → A → Type 0) (arguments : List (List ℕ)) (it : A) : Type 0 where
  pub word : List ℕ
  pub is : arguments ≡ word ∷ []
  pub says : Is word it

-- of a kind of words: what they are read as, what they say, and that reading gives only that
pub only : {A : Type 0} (read : List ℕ → Option A) (Is : List ℕ → A → Type 0) → ((word : List ℕ) (it : A) → read word ≡ Some it → Is word it) →
    (arguments : List (List ℕ)) (it : A) → option_and_then read (only_word_of arguments) ≡ Some it → IsOnly Is arguments it
only read Is sound [] it e = absurd (cc e)
only read Is sound (word ∷ []) it e = record { word = word; is = refl; says = sound word it e }
only read Is sound (word ∷ second ∷ rest) it e = absurd (cc e)

-- ---- levels

level_sound_by : (word : List ℕ) (number : Option ServiceId) (level : ℕ) → service_id_of word ≡ number → level_by number ≡ Some level → IsLevel word level
level_sound_by word None level is e = absurd (cc e)
level_sound_by word (Some service) level is e =
    let id = id_sound word service is in
    let read = cond_some (nat_lt service.0 (2 ^ 8)) service.0 level e in
    record {
      numeral = id.numeral;
      short = id.short;
      fits = subst (λ n. n < 2 ^ 8) id.number (ltb-true service.0 (2 ^ 8) read.0);
      number = sym read.1 ∙ id.number;
    }

pub level_sound : (word : List ℕ) (level : ℕ) → level_of word ≡ Some level → IsLevel word level
level_sound word level e = level_sound_by word (service_id_of word) level refl e

-- the same digits as the id of a service
as_service : (word : List ℕ) (level : ℕ) → IsLevel word level → IsId word (record { 0 = digits_value 10 word })
as_service word level is = record { numeral = is.numeral; short = is.short; number = refl }

pub level_read : (word : List ℕ) (level : ℕ) → IsLevel word level → level_of word ≡ Some level
level_read word level is =
    ap level_by (id_read word (record { 0 = digits_value 10 word }) (as_service word level is))
    ∙ cond-true _ _ _ (lt-ltb (digits_value 10 word) (2 ^ 8) is.fits) ∙ ap Some (sym is.number)

pub whole_level : (word : List ℕ) (level : ℕ) → IsLevel word level → IsLineWord word
whole_level word level is = whole_id word (record { 0 = digits_value 10 word }) (as_service word level is)

-- ---- a bundle for good or for this time

abbrev pub aim : BundleId → Bool → Aim
aim bundle transient = record { bundle = bundle; transient = transient }

pub data IsAim : List (List ℕ) → Aim → Type 0 where
  for_good : {id : List ℕ} {bundle : BundleId} → IsBundleId id bundle → IsAim (id ∷ []) (aim bundle false)
  this_time : {id : List ℕ} {bundle : BundleId} → IsBundleId id bundle → IsAim (codes "-t" ∷ id ∷ []) (aim bundle true)

aim_by : (word : List ℕ) (words : List (List ℕ)) (a : Aim) (test : Bool) → bytes_eq word (codes "-t") ≡ test → aim_of (word ∷ words) ≡ Some a → IsAim (word ∷ words) a
aim_by word words a true is e =
    let read = mapped (λ bundle. aim bundle true) (only_bundle_of words) a (sym (cond-true (bytes_eq word (codes "-t")) _ _ is) ∙ e) in
    let alone = only bundle_id_of IsBundleId bundle_id_sound words read.value read.was in
    subst (λ w. IsAim (w ∷ words) a) (sym (same_text word (codes "-t") is))
    (subst (λ l. IsAim (codes "-t" ∷ l) a) (sym alone.is) (subst (IsAim (codes "-t" ∷ alone.word ∷ [])) read.is (this_time alone.says)))
aim_by word words a false other e =
    let read = mapped (λ bundle. aim bundle false) (only_bundle_of (word ∷ words)) a (sym (cond-false (bytes_eq word (codes "-t")) _ _ other) ∙ e) in
    let alone = only bundle_id_of IsBundleId bundle_id_sound (word ∷ words) read.value read.was in
    subst (λ l. IsAim l a) (sym alone.is) (subst (IsAim (alone.word ∷ [])) read.is (for_good alone.says))

pub aim_sound : (arguments : List (List ℕ)) (a : Aim) → aim_of arguments ≡ Some a → IsAim arguments a
aim_sound [] a e = absurd (cc e)
aim_sound (word ∷ words) a e = aim_by word words a (bytes_eq word (codes "-t")) refl e

no_switch_by : (id : List ℕ) (bundle : BundleId) (test : Bool) → bytes_eq id (codes "-t") ≡ test → IsBundleId id bundle → test ≡ false
no_switch_by id bundle true same is =
    let none : bundle_id_of (codes "-t") ≡ None = refl in
    absurd (cc (bundle_id_read id bundle is, ap bundle_id_of (same_text id (codes "-t") same), none))
no_switch_by id bundle false other is = refl

pub aim_read : (arguments : List (List ℕ)) (a : Aim) → IsAim arguments a → aim_of arguments ≡ Some a
aim_read arguments a (for_good {id = id} {bundle = bundle} is) =
    cond-false (bytes_eq id (codes "-t")) _ _ (no_switch_by id bundle (bytes_eq id (codes "-t")) refl is) ∙ rw (bundle_id_read id bundle is) refl
aim_read arguments a (this_time {id = id} {bundle = bundle} is) = rw (bundle_id_read id bundle is) refl

pub whole_aim : (arguments : List (List ℕ)) (a : Aim) → IsAim arguments a → AreLineWords arguments
whole_aim arguments a (for_good {id = id} {bundle = bundle} is) = (whole_bundle_id id bundle is, tt)
whole_aim arguments a (this_time {id = id} {bundle = bundle} is) = (record { some = omega arith; scanned = refl }, (whole_bundle_id id bundle is, tt))

-- ---- bundles

pub ids_sound : (words : List (List ℕ)) (bundles : List BundleId) → bundle_ids_of words ≡ Some bundles → AreBundleIds words bundles
ids_sound [] bundles e =
    let none : [] ≡ bundles = cc e in
    rw (← none) tt
ids_sound (word ∷ words) bundles e =
    option_and_then_some (λ bundle. option_map (λ rest. bundle ∷ rest) (bundle_ids_of words)) (bundle_id_of word) bundles e
    (λ bundle is behind.
    let read = mapped (λ rest. bundle ∷ rest) (bundle_ids_of words) bundles behind in
    rw (← read.is) (bundle_id_sound word bundle is, ids_sound words read.value read.was))

pub ids_read : (words : List (List ℕ)) (bundles : List BundleId) → AreBundleIds words bundles → bundle_ids_of words ≡ Some bundles
ids_read [] [] are = refl
ids_read [] (bundle ∷ bundles) are = absurd are
ids_read (word ∷ words) [] are = absurd are
ids_read (word ∷ words) (bundle ∷ bundles) are = rw (bundle_id_read word bundle are.0, ids_read words bundles are.1) refl

pub whole_ids : (words : List (List ℕ)) (bundles : List BundleId) → AreBundleIds words bundles → AreLineWords words
whole_ids [] bundles are = tt
whole_ids (word ∷ words) [] are = absurd are
whole_ids (word ∷ words) (bundle ∷ bundles) are = (whole_bundle_id word bundle are.0, whole_ids words bundles are.1)
