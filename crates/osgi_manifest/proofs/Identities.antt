-- What the name's and the host's headers say of a revision.
use Rattle.std.proofs.Common.{◌≡◌, ℕ, List, [], ◌∷◌, ap, sym, ◌∙◌, refl, subst}
use Rattle.std.specs.Prelude.{codes, MatchOption, None, Option, Some}
use Rattle.osgi_header.specs.Clauses.{AreClausesOf}
use Rattle.osgi_header.specs.declared.clause.Clause.{Clause}
use Rattle.osgi_header.specs.declared.header.Header.{Header}
use Rattle.osgi_world.specs.declared.requirement.Requirement.{Requirement}
use Rattle.osgi_world.specs.declared.revision.Revision.{Revision}
use Rattle.osgi_clause.specs.Lone.{IsLone, SaysHost}
use Rattle.osgi_manifest.specs.computed.Lone.{IsNamedAs}
use Rattle.osgi_clause.specs.declared.naming.Naming.{Naming}
use Rattle.osgi_manifest.specs.Manifests.{HasHost, SaysName}
use Rattle.osgi_manifest.specs.Values.{AreClausesIn}

pub named_holds : (headers : List Header) (naming : Naming) (revision : Revision) → IsNamedAs headers naming → revision.name ≡ naming.name → revision.singleton ≡ naming.singleton →
    revision.attach ≡ naming.attach → SaysName headers revision
named_holds headers naming revision has name singleton attach = record {
  clause = has.2.0;
  one = subst (AreClausesIn headers (codes "Bundle-SymbolicName")) has.2.1 has.1;
  name = has.2.2.name ∙ ap (λ n. n ∷ []) (sym name);
  singleton = singleton ∙ has.2.2.singleton;
  attach = attach ∙ has.2.2.attach;
}

pub named_only : (headers : List Header) (revision : Revision) → SaysName headers revision →
    IsNamedAs headers (record { name = revision.name; singleton = revision.singleton; attach = revision.attach })
named_only headers revision named =
    (named.clause ∷ [], named.one, (named.clause, refl, record { name = named.name; singleton = named.singleton; attach = named.attach }))

no_clause : (clause : Clause) (clauses : List Clause) → clauses ≡ [] → clauses ≡ clause ∷ [] → ⊥
no_clause clause clauses none one = absurd (cc (sym none ∙ one))

pub hosted_holds : (value : Option (List ℕ)) (host : Requirement) (clauses : List Clause) → MatchOption value (clauses ≡ []) (λ text. AreClausesOf text clauses) →
    IsLone SaysHost clauses (Some host) → HasHost value (Some host)
hosted_holds None host clauses none lone = absurd (no_clause lone.0 clauses none lone.1)
hosted_holds (Some value) host clauses are lone = record {
  clause = lone.0;
  path = lone.2.0;
  requirement = host;
  one = subst (AreClausesOf value) lone.1 are;
  one_path = lone.2.1;
  is = lone.2.2;
  host_is = refl;
}
