-- By the place of the member.
use Rattle.std.proofs.Common.{◌∙◌, ap, sym, subst, arith, length, reverse, refl}
use Rattle.std.specs.Prelude.{not, slice_get}
use Rattle.std.specs.Bool.{Decides}
use Rattle.std.proofs.lemmas.List.{length-reverse}
use Rattle.osgi_world.specs.Hopeless.{IsDecided}
use Rattle.osgi_world.specs.declared.world.World.{World}
use Rattle.osgi_resolver_theory.proofs.States.{member-current}
use Rattle.osgi_resolver_path.specs.computed.Courses.{lists_of}
use Rattle.osgi_resolver_path.specs.computed.Views.{decided_in, is_spatial_next}
use Rattle.osgi_resolver_path.proofs.Decided.{decided-before, decided-last, decided-later, get-in}
use Rattle.osgi_resolver_path.proofs.Next.{right-state}
use Rattle.osgi_resolver_path.proofs.views.is_decided_at.Goals as goal

pub returns-then-place-course : goal.returns-then-place-course
returns-then-place-course c = record {
  decided = λ P in_it knows at there. let course = c.args.course.now in (λ t. decided-before P in_it.is (reverse course.marks.items) (lists_of course) at c.args.place c.args.member there (omega arith), λ d. refl);
}

pub returns-then-place-course-2 : goal.returns-then-place-course-2
returns-then-place-course-2 c = record {
  decided = λ P in_it knows at there.
      let course = c.args.course.now in
      let next = c.is_spatial_next.ensures.spatial ∙ ap (λ (W : World). is_spatial_next W.known (slice_get course.queue (length course.marks.items))) (c.offers.ensures.world ∙ sym in_it.world) in
      subst (λ b. Decides (not b) (IsDecided P (decided_in course) c.args.member)) (sym next)
      (decided-last P in_it.is (reverse course.marks.items) (lists_of course) at c.args.place c.args.member there (length course.marks.items) (sym (length-reverse course.marks.items)) (omega arith));
}

pub returns : goal.returns
returns c = record {
  decided = λ P in_it knows at there.
      let course = c.args.course.now in
      let ms = reverse course.marks.items in
      let m = c.args.member in
      let is_current = member-current P in_it.is (decided_in course) (right-state P ms (lists_of course) at) m (subst (Rattle.osgi_world.specs.Lists.In m) at.ids (get-in course.ids.items c.args.place m there)) in
      subst (λ b. Decides b (IsDecided P (decided_in course) m)) (sym (c.is_free.ensures.free P in_it knows is_current.0))
      (decided-later P in_it.is ms (lists_of course) at c.args.place m there (omega arith));
}
