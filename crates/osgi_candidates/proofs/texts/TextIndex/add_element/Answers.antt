-- A text stands under itself, and another value under the attribute.
use Rattle.std.proofs.Common.{refl, subst}
use Rattle.osgi_candidates.specs.computed.Texts.{attribute_cmp, attribute_key, key_cmp, text_key}
use Rattle.osgi_candidates.specs.declared.texts.TextIndex.{TextIndex}
use Rattle.osgi_candidates.proofs.ByText.{adds_other, adds_text, text_value}
use Rattle.osgi_space_rows.specs.computed.Groups.{Adds}
use Rattle.osgi_candidates.proofs.texts.TextIndex.add_element.Goals as goal

pub returns-in_ok-push-in-Some : goal.returns-in_ok-push-in-Some
returns-in_ok-push-in-Some c =
    let old = c.args.self.now in
    let new : TextIndex = record { texts = c.push.new.self; others = old.others; many = old.many } in
    let text = c.in-Some.text.now in
    let one = subst (λ n. Adds key_cmp old.texts c.push.new.self (text_key n c.in_ok-copy.field-0 c.in_ok-copy-in-Some.field-0) c.args.place) c.in_ok-copy-2.ensures.same c.in_ok-push-in-Some.ensures.added in
    let two = subst (λ a. Adds key_cmp old.texts c.push.new.self (text_key c.args.name.now a c.in_ok-copy-in-Some.field-0) c.args.place) c.in_ok-copy.ensures.same one in
    let adds = subst (λ t. Adds key_cmp old.texts c.push.new.self (text_key c.args.name.now c.args.attribute.now t) c.args.place) c.in_ok-copy-in-Some.ensures.same two in
    record { added = adds_text old new c.args.place c.args.name.now c.args.attribute.now text c.args.value.now refl refl adds (text_value c.args.value.now text c.in-Some.ensures.text) }

pub returns-in_ok-push-in-None : goal.returns-in_ok-push-in-None
returns-in_ok-push-in-None c =
    let old = c.args.self.now in
    let new : TextIndex = record { texts = old.texts; others = c.push-in-None.new.self; many = old.many } in
    let one = subst (λ n. Adds attribute_cmp old.others c.push-in-None.new.self (attribute_key n c.in_ok-copy.field-0) c.args.place) c.in_ok-copy-2.ensures.same c.in_ok-push-in-None.ensures.added in
    let adds = subst (λ a. Adds attribute_cmp old.others c.push-in-None.new.self (attribute_key c.args.name.now a) c.args.place) c.in_ok-copy.ensures.same one in
    record { added = adds_other old new c.args.place c.args.name.now c.args.attribute.now c.args.value.now refl refl adds }
