-- A capability with many values, and one with few.
use Rattle.std.proofs.Common.{List, ◌∙◌, refl, subst}
use Rattle.osgi_base.specs.computed.Texts.{text_cmp}
use Rattle.osgi_candidates.specs.computed.Texts.{AddsTexts, IsSomeText}
use Rattle.osgi_candidates.specs.declared.texts.TextIndex.{TextIndex}
use Rattle.osgi_candidates.proofs.ByText.{adds_many, text_attributes}
use Rattle.osgi_model.specs.declared.value.Attribute.{Attribute}
use Rattle.osgi_space_rows.specs.computed.Groups.{Adds}
use Rattle.osgi_candidates.proofs.texts.TextIndex.add_capability.Goals as goal

pub returns-then-has_many : goal.returns-then-has_many
returns-then-has_many c =
    let old = c.args.self.now in
    let new : TextIndex = record { texts = old.texts; others = old.others; many = c.push.new.self } in
    let adds = subst (λ n. Adds text_cmp old.many c.push.new.self n c.args.place) c.in_ok-copy.ensures.same c.in_ok-push.ensures.added in
    record { added = adds_many old new c.args.place c.args.capability.now refl refl adds }

pub returns : goal.returns
returns c =
    let old = c.args.self.now in
    let new = c.add_attributes.new.self in
    let items = c.items-attributes.ensures.items ∙ c.get.ensures.value in
    let added = subst (λ (l : List Attribute). AddsTexts old new (IsSomeText c.args.place c.args.capability.now.name l)) items c.in_ok-add_attributes.ensures.added in
    record { added = text_attributes old new c.args.place c.args.capability.now added }
