-- The last key that comes before those of longer names.
use Rattle.std.proofs.Common.{◌≡◌, ◌<◌, ℕ, List, [], ◌∷◌, ◌++◌, ap, sym, subst, ◌∙◌, refl, arith}
use Rattle.std.specs.Prelude.{true, false, Option, None, Some, IsSome}
use Rattle.std.specs.BTreeMap.{BTreeMap, get}
use Rattle.std.specs.BTreeMap.Range.{IsEntryInRange, IsInRange}
use Rattle.std.specs.Cmp.{nat_cmp_total}
use Rattle.std.specs.Ordering.{is_eq, is_gt, is_lt, nat_cmp, ordering_reverse, ordering_then}
use Rattle.std.specs.declared.cmp.Ordering.{Ordering}
use Rattle.std.specs.declared.cmp.Ordering.TheVariants.{Less, Equal, Greater}
use Rattle.std.specs.declared.ops.Bound.TheVariants.{Excluded, Unbounded}
use Rattle.std.proofs.lemmas.Cmp.{ranked}
use Rattle.osgi_base.specs.computed.Texts.{text_cmp}
use Rattle.osgi_base.specs.declared.ids.BundleId.{BundleId}
use Rattle.osgi_bundle.specs.computed.Kept.{HasNoVersion, IsHighest, lowest_version, name_cmp, named}
use Rattle.osgi_bundle.specs.declared.directory.BundleName.{BundleName}
use Rattle.osgi_version.specs.Comparing.{version_cmp}
use Rattle.osgi_version.specs.declared.version.Version.{Version}
use Rattle.osgi_bundle.proofs.Names.{decides_text}

-- ---- texts and versions compared

itself : (o : Ordering) → o ≡ ordering_reverse o → o ≡ Equal
itself Less same = absurd (cc same)
itself Equal same = refl
itself Greater same = absurd (cc same)

-- a name comes before itself with one more byte
longer : (name : List ℕ) → text_cmp name (name ++ 0 ∷ []) ≡ Less
longer [] = refl
longer (byte ∷ rest) = ap (λ o. ordering_then o (text_cmp rest (rest ++ 0 ∷ []))) (itself (nat_cmp byte byte) (nat_cmp_total.antisymm byte byte)) ∙ longer rest

not_below : (n : ℕ) → ¬ (nat_cmp n 0 ≡ Less)
not_below n less = let below : n < 0 = ranked n 0 Less (sym less) in omega (arith, below)

not_before : (name : List ℕ) → ¬ (text_cmp name [] ≡ Less)
not_before [] less = cc less
not_before (byte ∷ rest) less = cc less

then_not : (o p : Ordering) → ¬ (o ≡ Less) → ¬ (p ≡ Less) → ¬ (ordering_then o p ≡ Less)
then_not Less p first second less = first refl
then_not Equal p first second less = second less
then_not Greater p first second less = cc less

-- and all that come before that are no later than the name
upto : (a name : List ℕ) → text_cmp a (name ++ 0 ∷ []) ≡ Less → is_gt (text_cmp a name) ≡ false
upto [] [] less = refl
upto [] (y ∷ ys) less = refl
upto (x ∷ xs) [] less = absurd (then_not (nat_cmp x 0) (text_cmp xs []) (not_below x) (not_before xs) less)
upto (x ∷ xs) (y ∷ ys) less = by (nat_cmp x y) less (upto xs ys)
  where
    by : (o : Ordering) → ordering_then o (text_cmp xs (ys ++ 0 ∷ [])) ≡ Less → (text_cmp xs (ys ++ 0 ∷ []) ≡ Less → is_gt (text_cmp xs ys) ≡ false) → is_gt (ordering_then o (text_cmp xs ys)) ≡ false
    by Less l more = refl
    by Equal l more = more l
    by Greater l more = absurd (cc l)

-- no version is below the lowest
lowest : (v : Version) → ¬ (version_cmp v lowest_version ≡ Less)
lowest v = then_not (nat_cmp v.major 0) _ (not_below v.major) (then_not (nat_cmp v.minor 0) _ (not_below v.minor) (then_not (nat_cmp v.micro 0) _ (not_below v.micro) (not_before v.qualifier)))

-- ---- the keys of a name

module _ (names : BTreeMap BundleName BundleId) (name : List ℕ) where
  -- the least key after those of the name
  abbrev pub end_of : BundleName
  end_of = named (name ++ 0 ∷ []) lowest_version

  within : (v : Version) → name_cmp (named name v) end_of ≡ Less
  within v = ap (λ o. ordering_then o (version_cmp v lowest_version)) (longer name)

  no_later : (k : BundleName) → name_cmp k end_of ≡ Less → is_gt (text_cmp k.name name) ≡ false
  no_later k less = by (text_cmp k.name (name ++ 0 ∷ [])) refl less
    where
      by : (o : Ordering) → text_cmp k.name (name ++ 0 ∷ []) ≡ o → ordering_then o (version_cmp k.version lowest_version) ≡ Less → is_gt (text_cmp k.name name) ≡ false
      by Less is l = upto k.name name is
      by Equal is l = absurd (lowest k.version l)
      by Greater is l = absurd (cc l)

  -- no key comes before the end
  pub none_before : ((q : BundleName) → IsInRange name_cmp Unbounded (Excluded end_of) q → get name_cmp names q ≡ None) → HasNoVersion names name
  none_before none = λ v. none (named name v) (tt, within v)

  module _ (key : BundleName) (bundle : BundleId) (there : IsEntryInRange name_cmp Unbounded (Excluded end_of) names (key, bundle))
      (last : (q : BundleName) → IsInRange name_cmp Unbounded (Excluded end_of) q → IsSome (get name_cmp names q) → is_lt (name_cmp key q) ≡ false) where
    last_version : (v : Version) → IsSome (get name_cmp names (named name v)) → is_lt (ordering_then (text_cmp key.name name) (version_cmp key.version v)) ≡ false
    last_version v some = last (named name v) (tt, within v) some

    -- the last key before the end is of the name
    pub highest_is : key.name ≡ name → IsHighest names name bundle
    highest_is same = record {
      version = key.version;
      stands = subst (λ n. get name_cmp names (named n key.version) ≡ Some bundle) same there.1;
      highest = λ v some. ap (λ o. is_lt (ordering_then o (version_cmp key.version v))) (sym (equal same)) ∙ last_version v some;
    }
      where
        equal : key.name ≡ name → text_cmp key.name name ≡ Equal
        equal e = by (text_cmp key.name name) ((decides_text key.name name).1 e)
          where
            by : (o : Ordering) → is_eq o ≡ true → o ≡ Equal
            by Less is = absurd (cc is)
            by Equal is = refl
            by Greater is = absurd (cc is)

    -- or it is of another
    pub none_is : ¬ (key.name ≡ name) → HasNoVersion names name
    none_is other = λ v. by v (get name_cmp names (named name v)) refl
      where
        ordered : (o : Ordering) → text_cmp key.name name ≡ o → (p : Ordering) → is_lt (ordering_then o p) ≡ false → ⊥
        ordered Less is p l = cc l
        ordered Equal is p l = other ((decides_text key.name name).0 (ap is_eq is))
        ordered Greater is p l = (let bad : true ≡ false = sym (ap is_gt is) ∙ no_later key there.0.1 in cc bad)

        by : (v : Version) → (o : Option BundleId) → get name_cmp names (named name v) ≡ o → get name_cmp names (named name v) ≡ None
        by v None is = is
        by v (Some b) is = absurd (ordered (text_cmp key.name name) refl (version_cmp key.version v) (last_version v (subst IsSome (sym is) refl)))
