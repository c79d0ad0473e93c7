-- By what stands under its number.
use Rattle.std.proofs.Common.{◌≡◌, List, None, Some, ap, sym, ◌∙◌, subst}
use Rattle.std.specs.Option.{option_copied}
use Rattle.std.specs.Prelude.{slice_get}
use Rattle.std.proofs.lemmas.Option.{slice_get_past}
use Rattle.osgi_base.specs.declared.ids.RevisionId.{RevisionId}
use Rattle.osgi_resolver_path.proofs.Decided.{get-some}
use Rattle.osgi_resolver_path.proofs.Placed.{none-placed, none-there, one-there}
use Rattle.osgi_resolver_path.proofs.course.Course.has.Goals as goal

pub returns-in_default : goal.returns-in_default
returns-in_default c = record { has = none-placed c.args.self.now.places c.args.self.now.ids.items c.args.revision c.requires.placed (sym c.get.ensures.value ∙ ap option_copied c.in_default.is) }

pub returns-in-Some-get : goal.returns-in-Some-get
returns-in-Some-get c =
    let items = c.deref.result.now in
    let n = c.in-Some.place.now in
    let m = c.in-Some-get.member.now in
    let at = c.in-Some-get.ensures.lookup in
    let there : slice_get items n ≡ Some m = get-some items n m at.3.0 ∙ ap Some (sym at.1) in
    record {
      has = one-there c.args.self.now.places c.args.self.now.ids.items c.args.revision m n c.requires.placed (sym c.get.ensures.value ∙ ap option_copied c.in-Some.is)
          (subst (λ (l : List RevisionId). slice_get l n ≡ Some m) c.deref.ensures.value there);
    }

pub returns-in-None : goal.returns-in-None
returns-in-None c =
    let n = c.in-Some.place.now in
    let none : slice_get c.deref.result.now n ≡ None = slice_get_past c.deref.result.now n c.in-None.ensures.lookup.3 in
    record {
      has = none-there c.args.self.now.places c.args.self.now.ids.items c.args.revision n c.requires.placed (sym c.get.ensures.value ∙ ap option_copied c.in-Some.is)
          (subst (λ (l : List RevisionId). slice_get l n ≡ None) c.deref.ensures.value none);
    }
