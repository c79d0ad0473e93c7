-- The rules of all wirings, from those of each.
use Rattle.std.proofs.Common.{◌↔◌, IsTrue, sym, subst}
use Rattle.std.specs.Prelude.{MatchOption}
use Rattle.osgi_space_rules.specs.computed.Entries.{AreProviders, OneProvider}
use Rattle.osgi_space_rules.specs.computed.Growing.{Each}
use Rattle.osgi_space_rules.specs.computed.Holding.{WiringHolds}
use Rattle.osgi_space_rules.proofs.Coherent.{each_holds, kept}
use Rattle.osgi_space_rules.proofs.Providers.{one_of}
use Rattle.osgi_world.specs.Consistency.{KeepsRules}
use Rattle.osgi_space_rules.proofs.rules.keeps_wiring_rules.Goals as goal

pub each_holds-requires : goal.each_holds-requires
each_holds-requires c =
    let K = c.args.known.now in
    let W = c.args.wirings.now in
    let are : AreProviders K W c.in-Some.providers = subst (λ found. MatchOption found (¬ OneProvider K W) (AreProviders K W)) c.in-Some.is c.in_ok-providers.ensures.providers in
    record { providers = subst (λ V. AreProviders K V c.in-Some.providers) (sym c.in_ok-index.ensures.wirings) are }

pub returns : goal.returns
returns c =
    let K = c.args.known.now in
    let W = c.args.wirings.now in
    let are : AreProviders K W c.in-Some.providers = subst (λ found. MatchOption found (¬ OneProvider K W) (AreProviders K W)) c.in-Some.is c.in_ok-providers.ensures.providers in
    let each : IsTrue c.in_ok-each_holds.field-0 ↔ Each (WiringHolds K W) W = subst (λ V. IsTrue c.in_ok-each_holds.field-0 ↔ Each (WiringHolds K V) V) c.in_ok-index.ensures.wirings c.in_ok-each_holds.ensures.each in
    let keeps : IsTrue c.in_ok-each_holds.field-0 → KeepsRules K W = λ t.
    kept K W (each.0 t) (one_of K W c.in-Some.providers are) (c.in_ok-singletons_differ.ensures.differ.0 c.if-not-branch.false) in
    record {
      rules = (keeps, λ is. each.1 (each_holds K W is));
      holds = λ t uses. record { rules = keeps t; uses = uses };
      needed = λ is. each.1 (each_holds K W is.rules);
    }
