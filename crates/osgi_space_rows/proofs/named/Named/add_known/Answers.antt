-- One known revision more.
use Rattle.std.proofs.Common.{◌≡◌, ◌+◌, List, [], take, ap, sym, ◌∙◌, subst}
use Rattle.std.specs.Prelude.{Option, None, Some}
use Rattle.std.specs.Option.{option_copied, option_map_or}
use Rattle.osgi_world.specs.Lookups.{revision_at}
use Rattle.osgi_world.specs.declared.capability.Capability.{Capability}
use Rattle.osgi_world.specs.declared.revision.Revision.{Revision}
use Rattle.osgi_space_rows.specs.computed.Payloads.{Adds, capabilities_of, Fact, KnownSays, OneSays, Says}
use Rattle.osgi_space_rows.specs.declared.named.Named.{Named}
use Rattle.osgi_space_rows.proofs.Payload.{adds-none, adds-then, none-says, says-more}
use Rattle.osgi_space_rows.proofs.named.Named.add_known.Goals.{in-Some+in_ok-add_capabilities, in_default}
use Rattle.osgi_space_rows.proofs.named.Named.add_known.Goals as goal

pub loop-each-preserved : goal.loop-each-preserved
loop-each-preserved c =
    let K = c.args.known.now in
    let all = c.args.more.now in
    let each = c.each-item.result in
    let i = c.loop-each.each-index in
    let more = says-more (KnownSays K) each all i c.loop-each-test.true c.each-item.is in
    let listed : Option Revision → List Capability = λ o. option_map_or (λ (v : Revision). v.capabilities) o [] in
    elim c.match-revision.branch [
      | in-Some+in_ok-add_capabilities w ↦
          let found : revision_at K each.id ≡ Some w.in-Some.revision.now = sym c.revision.ensures.revision ∙ ap option_copied w.in-Some.is in
          let same : w.items.result.now ≡ capabilities_of K each.id = w.items.ensures.items ∙ ap listed (sym found) in
          let adds = subst (λ cs. Adds c.loop-each.self w.add_capabilities.new.self (OneSays (Says each.id.0) cs)) same w.in_ok-add_capabilities.ensures.adds in
          subst (λ (n : Named). Adds c.args.self.now n (OneSays (KnownSays K) (take (i + 1) all))) (sym w.self-is)
          (adds-then c.args.self.now c.loop-each.self w.add_capabilities.new.self (OneSays (KnownSays K) (take i all)) (KnownSays K each) (OneSays (KnownSays K) (take (i + 1) all)) c.loop-each.invariant adds more)
      | in_default w ↦
          let found : revision_at K each.id ≡ None = sym c.revision.ensures.revision ∙ ap option_copied w.in_default.is in
          let same : [] ≡ capabilities_of K each.id = ap listed (sym found) in
          let none = subst (λ cs. (y : Fact) → ¬ OneSays (Says each.id.0) cs y) same (none-says (Says each.id.0)) in
          subst (λ (n : Named). Adds c.args.self.now n (OneSays (KnownSays K) (take (i + 1) all))) (sym w.self-is)
          (adds-then c.args.self.now c.loop-each.self c.loop-each.self (OneSays (KnownSays K) (take i all)) (KnownSays K each) (OneSays (KnownSays K) (take (i + 1) all)) c.loop-each.invariant
          (adds-none c.loop-each.self (KnownSays K each) c.loop-each.invariant.named none) more)
    ]
