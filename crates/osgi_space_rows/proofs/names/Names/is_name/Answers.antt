-- A name has the number under which it stands.
use Rattle.std.proofs.Common.{◌≡◌, sym, ◌∙◌, ap, rules}
use Rattle.std.specs.Prelude.{slice_get, Bool, true, IsTrue, None, Some}
use Rattle.std.specs.Str.{bytes_eq}
use Rattle.std.proofs.lemmas.Slice.Eq.{bytes_eq-Decides}
use Rattle.osgi_space_rows.proofs.Numbered.{is_known}
use Rattle.osgi_space_rows.proofs.Places.{some-same}
use Rattle.osgi_space_rows.proofs.names.Names.is_name.Goals as goal

true_of : {b : Bool} → IsTrue b → b ≡ true
true_of t = search (rules, t)

of_true : {b : Bool} → b ≡ true → IsTrue b
of_true e = search (rules, e)

pub returns-in-Some : goal.returns-in-Some
returns-in-Some c =
    let at : slice_get c.args.self.now c.args.number ≡ Some c.in-Some.name.now = search rules in
    let is : c.eq.result ≡ bytes_eq c.in-Some.name.now c.args.text.now = search rules in
    record {
      is = (
        λ t. at ∙ ap Some ((bytes_eq-Decides c.in-Some.name.now c.args.text.now).0 (sym is ∙ true_of t)),
        λ has. of_true (is ∙ (bytes_eq-Decides c.in-Some.name.now c.args.text.now).1 (some-same c.in-Some.name.now c.args.text.now (sym at ∙ has))),
      );
    }

pub returns-in-None : goal.returns-in-None
returns-in-None c =
    let at : slice_get c.args.self.now c.args.number ≡ None = search rules in
    record { is = (λ t. absurd (cc t), λ has. absurd (is_known c.args.text.now (sym at ∙ has))) }
