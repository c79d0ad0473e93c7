-- They are the members of the course.
use Rattle.std.proofs.Common.{◌∙◌, sym}
use Rattle.osgi_resolver_path.proofs.OnWay.{members-at}
use Rattle.osgi_resolver_path.proofs.path.Path.members.Goals as goal

pub returns : goal.returns
returns c = record { members = λ P of. c.as_slice.ensures.value ∙ members-at c.self.inside.world.now c.self.inside.root c.self.inside.lists c.self.inside.spaces c.self.inside.course c.self.invariant c.args.self.now (sym c.self.view_is) P of }
