-- Headers of one clause.
use Rattle.std.proofs.Common.{◌≡◌, ◌≢◌, ◌<◌, ℕ, List, [], ◌∷◌, length, drop, get_or, ap, sym, ◌∙◌, refl, subst, inl, inr, arith}
use Rattle.std.specs.Prelude.{⊤, ◌⊎◌, cond, is_some, codes, None, Some, Option, Ok, Err}
use Rattle.osgi_base.specs.Verdict.{Where, answers}
use Rattle.osgi_base.specs.laws.Verdicts.{gives_rest}
use Rattle.osgi_header.specs.declared.clause.Clause.{Clause}
use Rattle.osgi_header.specs.declared.clause.ClauseAt.{ClauseAt}
use Rattle.osgi_world.specs.declared.manifest_fault.ManifestKind.{ManifestKind}
use Rattle.osgi_world.specs.declared.manifest_fault.ManifestKind.TheVariants as fault
use Rattle.osgi_world.specs.declared.requirement.Requirement.{Requirement}
use Rattle.osgi_version.specs.Ranges.{IsReadableRange}
use Rattle.osgi_package.specs.Only.{IsOnly}
use Rattle.osgi_package.specs.laws.Splits.{split_at}
use Rattle.osgi_package.specs.laws.Verdicts.{first_only, rest_only}
use Rattle.osgi_package.specs.Parameters.{directive_value, version_text}
use Rattle.osgi_clause.specs.ClauseFaults.{HasNone}
use Rattle.osgi_clause.specs.Walks.{IsTheFirst, Walked}
use Rattle.osgi_clause.specs.computed.Lone.{host_by, IsHostMade, IsNamingOf, lone_of}
use Rattle.osgi_clause.specs.Lone.{IsLone, SaysHost, SaysNaming}
use Rattle.osgi_clause.specs.computed.Templates.{IsBundleIn, IsBundleOf, named_of}
use Rattle.osgi_clause.specs.declared.naming.Naming.{Naming}
use Rattle.osgi_clause.specs.declared.fault.ClauseFault.{ClauseFault}
use Rattle.osgi_clause.specs.Faults.{IsNaming, host_faults, name_faults}
use Rattle.osgi_clause.specs.Members.{IsHost}
use Rattle.osgi_clause.specs.Directives.{Repeats}
use Rattle.osgi_clause.proofs.ByClause.{host_bundle}
use Rattle.osgi_clause.proofs.Made.{heads}
use Rattle.osgi_clause.proofs.Walks.{fine_more, fine_none}
use Rattle.osgi_version.specs.RangeValues.{range_parts}

module _ {A : Type 0} (Says : Clause → A → Type 0) where
  pub lone_some : (clause : Clause) (made : A) → IsOnly (Says clause) made → IsOnly (IsLone Says (clause ∷ [])) (Some made)
  lone_some clause made is = record { holds = (clause, refl, is.holds); only = only }
    where
      only : (other : Option A) → IsLone Says (clause ∷ []) other → other ≡ Some made
      only None e = absurd (cc e)
      only (Some other) (one, e, says) = ap Some (is.only other (subst (λ c. Says c other) (sym (heads clause one [] [] e)) says))

  module _ (faults : List Clause → Clause → List (ManifestKind → Type 0)) where
    pub walked_fault : (clauses : List ClauseAt) (first : ClauseAt) (rest : List ClauseAt) (fault : ClauseFault) → clauses ≡ first ∷ rest →
        IsTheFirst (faults [] first.clause) fault.kind → fault.at ≡ first.at → Walked faults (IsLone Says) clauses (Err fault)
    walked_fault clauses first rest fault e is at = record { before = []; clause = first; rest = rest; is = e; fine = fine_none faults; first = is; at = at }

    lone_by : (kind : ManifestKind) → ((x : Clause) (xs : List Clause) (clause : Clause) → IsTheFirst (faults (x ∷ xs) clause) kind) → (first : ClauseAt) (rest : List ClauseAt) (made : A) →
        HasNone (faults [] first.clause) → IsOnly (Says first.clause) made → Walked faults (IsLone Says) (first ∷ rest) (lone_of (first ∷ rest) kind made)
    lone_by kind second first [] made fine is = (fine_more faults [] first.clause (fine_none faults) fine, lone_some first.clause made is)
    lone_by kind second first (other ∷ rest) made fine is = record {
      before = first ∷ [];
      clause = other;
      rest = rest;
      is = refl;
      fine = fine_more faults [] first.clause (fine_none faults) fine;
      first = second first.clause [] other.clause;
      at = refl;
    }

    pub walked_lone : (kind : ManifestKind) → ((x : Clause) (xs : List Clause) (clause : Clause) → IsTheFirst (faults (x ∷ xs) clause) kind) →
        (clauses : List ClauseAt) (first : ClauseAt) (rest : List ClauseAt) (made : A) → clauses ≡ first ∷ rest → HasNone (faults [] first.clause) → IsOnly (Says first.clause) made →
        Walked faults (IsLone Says) clauses (lone_of clauses kind made)
    walked_lone kind second clauses first rest made e fine is =
        subst (λ l. Walked faults (IsLone Says) l (lone_of l kind made)) (sym e) (lone_by kind second first rest made fine is)

not_nil : (x : Clause) (xs : List Clause) → x ∷ xs ≢ []
not_nil x xs e = cc e

-- ---- names

pub second_name : (x : Clause) (xs : List Clause) (clause : Clause) → IsTheFirst (name_faults (x ∷ xs) clause) fault.BadName
second_name x xs clause = first_only fault.BadName _ [] (λ (fine : Unit {0}). ⊤) (inl (not_nil x xs))

pub bad_name : (clause : Clause) → IsNamingOf clause None → IsTheFirst (name_faults [] clause) fault.BadName
bad_name clause is = first_only fault.BadName _ [] (λ (fine : Unit {0}). ⊤) (inr is)

abbrev Nameless : Clause → Type 0
Nameless clause = (◌≢◌ {A = List Clause} [] []) ⊎ (Repeats clause ⊎ (¬ IsNaming clause))

pub good_name : (clause : Clause) (naming : Naming) → IsNamingOf clause (Some naming) → HasNone (name_faults [] clause)
good_name clause naming is = gives_rest fault.BadName _ [] (λ (fine : Unit {0}). ⊤) (answers tt) fine tt
  where
    fine : ¬ (Nameless clause)
    fine (inl some) = some refl
    fine (inr (inl twice)) = is.0 twice
    fine (inr (inr none)) = none is.1

pub one_naming : (clause : Clause) (naming : Naming) → IsNamingOf clause (Some naming) → IsOnly (SaysNaming clause) naming
one_naming clause naming is = record {
  holds = is.2;
  only = λ other says.
      let name : other.name ≡ naming.name = heads other.name naming.name [] [] (sym says.name ∙ is.2.name) in
      let singleton : other.singleton ≡ naming.singleton = says.singleton ∙ sym is.2.singleton in
      let attach : other.attach ≡ naming.attach = says.attach ∙ sym is.2.attach in
      λ i. record { name = name i; singleton = singleton i; attach = attach i };
}

-- ---- hosts

pub second_host : (x : Clause) (xs : List Clause) (clause : Clause) → IsTheFirst (host_faults (x ∷ xs) clause) fault.BadClause
second_host x xs clause =
    first_only fault.BadClause _ (Where fault.BadRange (¬ IsReadableRange (version_text (codes "bundle-version") clause)) ∷ Where fault.Extension (directive_value (codes "extension") clause ≢ None) ∷ [])
    (λ (fine : Unit {0}). ⊤) (inl (not_nil x xs))

module _ (clause : Clause) where
  abbrev NoHost : Type 0
  NoHost = (◌≢◌ {A = List Clause} [] []) ⊎ (Repeats clause ⊎ (¬ ((host : List ℕ) × (clause.paths ≡ host ∷ []))))

  abbrev Unranged : Type 0
  Unranged = ¬ IsReadableRange (version_text (codes "bundle-version") clause)

  abbrev IsExtension : Type 0
  IsExtension = directive_value (codes "extension") clause ≢ None

  abbrev after_ranges : List (ManifestKind → Type 0)
  after_ranges = Where fault.Extension IsExtension ∷ []

  abbrev after_clauses : List (ManifestKind → Type 0)
  after_clauses = Where fault.BadRange Unranged ∷ after_ranges

  module _ (once : ¬ Repeats clause) (host : List ℕ) (is : clause.paths ≡ host ∷ []) where
    one_host : ¬ NoHost
    one_host (inl some) = some refl
    one_host (inr (inl twice)) = once twice
    one_host (inr (inr none)) = none (host, is)

    pub unranged_host : Unranged → IsTheFirst (host_faults [] clause) fault.BadRange
    unranged_host bad =
        rest_only fault.BadClause NoHost after_clauses (λ (fine : Unit {0}). ⊤) _ one_host (first_only fault.BadRange Unranged after_ranges (λ (fine : Unit {0}). ⊤) bad)

    module _ (bundle : Requirement) (in_range : IsBundleIn clause bundle) where
      ranged : ¬ Unranged
      ranged fails = fails (range_parts in_range.range, in_range.is_range.holds)

      pub extension_host : IsExtension → IsTheFirst (host_faults [] clause) fault.Extension
      extension_host extends =
          rest_only fault.BadClause NoHost after_clauses (λ (fine : Unit {0}). ⊤) _ one_host
          (rest_only fault.BadRange Unranged after_ranges (λ (fine : Unit {0}). ⊤) _ ranged (first_only fault.Extension IsExtension [] (λ (fine : Unit {0}). ⊤) extends))

      pub good_host : ¬ IsExtension → HasNone (host_faults [] clause)
      good_host plain =
          gives_rest fault.BadClause NoHost after_clauses (λ (fine : Unit {0}). ⊤) (answers tt) one_host
          (gives_rest fault.BadRange Unranged after_ranges (λ (fine : Unit {0}). ⊤) (answers tt) ranged
          (gives_rest fault.Extension IsExtension [] (λ (fine : Unit {0}). ⊤) (answers tt) plain tt))

      pub says_host : IsOnly (SaysHost clause) (named_of bundle host)
      says_host =
          let made = host_bundle clause bundle in_range in
          record {
            holds = (host, is, (made host).holds);
            only = λ other says.
                (made host).only other (subst (λ h. IsHost clause h other) (heads says.0 host [] [] (sym says.1 ∙ is)) says.2);
          }

      extended : (test : Option (List ℕ)) → directive_value (codes "extension") clause ≡ test → IsHostMade clause (cond (is_some test) (Err fault.Extension) (Ok (named_of bundle host)))
      extended None e = (good_host (λ extends. extends e), says_host)
      extended (Some text) e = extension_host (λ none. cc (sym e ∙ none))

    pub host_made : (bundle : Option Requirement) → IsBundleOf clause bundle → IsHostMade clause (host_by clause host bundle)
    host_made None bad = unranged_host bad
    host_made (Some bundle) in_range = extended bundle in_range (directive_value (codes "extension") clause) refl

-- ---- lists that begin with an item

pub first_of : {A : Type 0} (xs : List A) (x : A) → 0 < length xs → x ≡ get_or xs 0 x → xs ≡ x ∷ drop 1 xs
first_of xs x some is = sym (split_at xs 0 x some is)

pub one_path : {A : Type 0} (xs : List A) (x : A) → 0 < length xs → length xs < 2 → x ≡ get_or xs 0 x → xs ≡ x ∷ []
one_path [] x some few is = absurd (omega (arith, some))
one_path (y ∷ []) x some few is = ap (λ z. z ∷ []) (sym is)
one_path (y ∷ z ∷ xs) x some few is = absurd (omega (arith, few))
