-- Each id adds its text.
use Rattle.std.proofs.Common.{◌∷◌, ◌++◌, get_or, refl, ap, sym, ◌∙◌}
use Rattle.std.specs.Fmt.{decimal}
use Rattle.osgi_base.specs.declared.ids.ServiceId.{ServiceId}
use Rattle.osgi_console_text.proofs.Parts.{ids_text-some, parts_end, parts_step}
use Rattle.osgi_console_text.proofs.ids.add_service_ids.Goals as goal

pub loop-id-preserved : goal.loop-id-preserved
loop-id-preserved c =
    let id : ServiceId = get_or c.args.ids.now c.loop-id.id-index (record { 0 = 0 }) in
    parts_step (λ (id : ServiceId). 32 ∷ decimal id.0) c.args.ids.now c.loop-id.id-index (record { 0 = 0 }) id _ c.loop-id.out.items _ c.loop-id-test.true refl
    c.in_ok-add_spaced_number.ensures.added c.loop-id.invariant

pub returns : goal.returns
returns c =
    record {
      added = parts_end (λ (id : ServiceId). 32 ∷ decimal id.0) c.args.ids.now c.loop-id.id-index _ c.loop-id.out.items c.loop-id-test.false c.loop-id.invariant
          ∙ ap (λ l. c.args.out.now.items ++ l) (sym (ids_text-some (λ (id : ServiceId). id.0) c.args.ids.now (sym (c.if-is_empty.ensures))));
    }
