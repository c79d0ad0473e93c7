-- What stands from these places on is noted, one kind of rows after another.
use Rattle.std.proofs.Common.{◌∙◌, List, drop, ap, sym, subst, Contains}
use Rattle.std.proofs.lemmas.List.{take_rest}
use Rattle.osgi_space_sources.specs.computed.Disputes.{NotesMore}
use Rattle.osgi_space_sources.specs.laws.Noted.{extends-ends, extends-then}
use Rattle.osgi_space_rows.specs.declared.rows.Attachment.{Attachment}
use Rattle.osgi_space_rows.specs.declared.rows.Import.{Import}
use Rattle.osgi_space_rows.specs.declared.rows.Required.{Required}
use Rattle.osgi_space.proofs.disputed_rows.with_more.Goals as goal

pub returns : goal.returns
returns c =
    let R = c.args.rows.now in
    let places = c.args.places in
    let bundles = c.in_ok-note_bundle_wires.ensures in
    let last = c.in_ok-note_fragments.ensures in
    let attached : NotesMore R c.note_bundle_wires.new.possible c.note_fragments.new.possible = extends-ends R c.note_bundle_wires.new.possible c.note_fragments.new.possible last.nothing_lost last.ends in
    let later = extends-then R bundles.extends attached in
    record {
      imports = λ r p x at.
          let done = c.in_ok-note_package_wires.ensures.noted r p x
          (subst (λ (l : List Import). Contains l (record { revision = r; imported = p; provider = x })) (sym (take_rest c.all.result.now places.imports ∙ ap (drop places.imports) c.all.ensures.rows)) at) in
          (later.sources p x done.0, later.ends r done.1, later.ends x done.2);
      required = λ row at.
          let done = bundles.ends row (subst (λ (l : List Required). Contains l row) (sym (take_rest c.all-2.result.now places.required ∙ ap (drop places.required) c.all-2.ensures.rows)) at) in
          (attached.ends row.revision done.0, attached.ends row.provider done.1);
      attached = λ h f p at own. last.noted h f p
          (subst (λ (l : List Attachment). Contains l (record { host = h; fragment = f })) (sym (take_rest c.all-3.result.now places.attached ∙ ap (drop places.attached) c.all-3.ensures.rows)) at) own;
      extends = extends-then R c.in_ok-note_package_wires.ensures.extends later;
    }
