-- The one path of a clause without repeats is the host's name.
use Rattle.std.proofs.Common.{◌≡◌, ◌∙◌, ℕ, List, [], ◌∷◌, sym, subst, arith}
use Rattle.std.specs.Prelude.{IfOk, Ok, Err, Result}
use Rattle.std.specs.declared.alloc.AllocError.{AllocError}
use Rattle.osgi_header.specs.declared.clause.Clause.{Clause}
use Rattle.osgi_world.specs.declared.manifest_fault.ManifestKind.{ManifestKind}
use Rattle.osgi_world.specs.declared.requirement.Requirement.{Requirement}
use Rattle.osgi_clause.specs.computed.Lone.{IsHostBy, IsHostMade}
use Rattle.osgi_clause.specs.Directives.{Repeats}
use Rattle.osgi_clause.proofs.ByClause.{not_so}
use Rattle.osgi_clause.proofs.LoneWalks.{host_made, one_path}
use Rattle.osgi_clause.proofs.host.clause_host.Goals as goal

made : (clause : Clause) (path : List ℕ) (r : Result (Result Requirement ManifestKind) AllocError) → ¬ Repeats clause → clause.paths ≡ path ∷ [] → IfOk r (IsHostBy clause path) →
    IfOk r (IsHostMade clause)
made clause path (Ok host) once is by = subst (IsHostMade clause) (sym by.2) (host_made clause once path is by.0 by.1)
made clause path (Err e) once is by = tt

pub returns-in-len1 : goal.returns-in-len1
returns-in-len1 c =
    let clause = c.args.clause.now in
    record {
      host = made clause c.path-item.result c.named_host.result (not_so _ c.in_ok-repeats.field-0 c.if-branch.false c.in_ok-repeats.ensures.repeats)
          (sym c.items.ensures.items ∙ one_path c.items.result.now c.path-item.result (omega (arith, c.in-len1.len_at_least)) (omega (arith, c.in-len1.len_below)) c.path-item.is) c.named_host.ensures.host;
    }
