-- The last mark is split from those before it.
use Rattle.std.proofs.Common.{◌≡◌, ◌-◌, List, Some, length, refl, subst, take}
use Rattle.std.specs.Prelude.{slice_get}
use Rattle.osgi_resolver_path.specs.declared.course.Mark.{Mark}
use Rattle.osgi_resolver_path.proofs.Lasts.{last-split}
use Rattle.osgi_resolver_path.proofs.last.last_of.Goals as goal

pub returns : goal.returns
returns c = record {
  last =
      let marks = c.args.course.now.marks.items in
      let m = c.in_ok-mark.mark.now in
      record {
        mark = m;
        before = take (length marks - 1) marks;
        marks = last-split marks m (subst (λ (l : List Mark). Some m ≡ slice_get l (length l - 1)) c.deref.ensures.value c.in_ok-mark.ensures.value);
        decision_is = refl;
        value_is = refl;
        wired_is = c.wired_by.ensures.wired;
        fragment_is = c.fragment_by.ensures.fragment;
        joined_is = c.member_at.ensures.member;
      };
}
