-- The service that is made is inserted.
use Rattle.std.proofs.Common.{◌≡◌, ◌+◌, ◌∷◌, [], ◌++◌, ap, sym, ◌∙◌}
use Rattle.osgi_base.specs.declared.ids.ServiceId.{ServiceId}
use Rattle.osgi_ops.specs.declared.service.Service.{Service}
use Rattle.osgi_registry.specs.Rows.{new_row, LiveService}
use Rattle.osgi_registry.specs.laws.Standing.{stands_registered}
use Rattle.osgi_registry.proofs.registry.Registry.register.Goals as goal

pub insert-requires : goal.insert-requires
insert-requires c =
    let is_made = rw c.in-Ok.is at c.in_ok-made.ensures.made in
    record { next = ap (λ (s : Service). s.service.0) is_made; fits = c.requires.ids_left; room = rw c.in-Ok.is at c.in_ok-made.ensures.room }

pub returns-in_ok-insert-in-Ok-clause-rows : goal.returns-in_ok-insert-in-Ok-clause-rows
returns-in_ok-insert-in-Ok-clause-rows c =
    let next : ServiceId = record { 0 = c.args.self.now.issued + 1 } in
    let is_made : c.in-Ok.made ≡ (new_row next c.args.owner c.args.classes c.args.object c.args.scope c.args.properties).service = rw c.in-Ok.is at c.in_ok-made.ensures.made in
    let row : Service → LiveService = λ (s : Service). record { service = s; scope = c.args.scope; uses = [] } in
    c.in_ok-insert-in-Ok.ensures.rows
    ∙ ap (λ (s : Service). c.args.self.now.rows ++ row s ∷ [])
    (is_made ∙ ap (λ (s : Service). (new_row s.service c.args.owner c.args.classes c.args.object c.args.scope c.args.properties).service) (sym is_made))

pub returns-in_ok-insert-in-Ok-clause-stands : goal.returns-in_ok-insert-in-Ok-clause-stands
returns-in_ok-insert-in-Ok-clause-stands c =
    let is_made = rw c.in-Ok.is at c.in_ok-made.ensures.made in
    λ history tag stands.
    stands_registered history c.args.self.now c.insert.new.self tag c.args.owner c.args.classes c.args.object c.args.scope c.args.properties _ stands (ap (λ (s : Service). s.service.0) is_made) (returns-in_ok-insert-in-Ok-clause-rows c) c.in_ok-insert-in-Ok.ensures.issued
