-- One more peek adds its text to that of its line.
use Rattle.std.proofs.Common.{◌≡◌, ◌+◌, ◌++◌, ◌∷◌, [], List, ap, sym, subst, ◌∙◌, take}
use Rattle.std.proofs.lemmas.List.{take_more}
use Rattle.osgi_ops.specs.declared.peek.Peek.{Peek}
use Rattle.osgi_console_text.proofs.TextMap.{peek_put}
use Rattle.osgi_console_text.specs.computed.Texts.{AreTextsOf}
use Rattle.osgi_console_text.proofs.rendering.peeked.Goals as goal

pub loop-peek-preserved : goal.loop-peek-preserved
loop-peek-preserved c =
    let peeks : List Peek = c.args.peeks.now in
    let i = c.loop-peek.peek-index in
    let p = c.peek-item.result in
    let front : List Peek = take i peeks in
    let more : take (i + 1) peeks ≡ front ++ p ∷ []
    = take_more peeks i p c.loop-peek-test.true ∙ ap (λ (x : Peek). front ++ x ∷ []) (sym c.peek-item.is) in
    record {
      texts = subst (λ l. AreTextsOf [] l c.insert.new.self) (sym more)
          (peek_put front p c.loop-peek.texts c.remove.new.self c.insert.new.self c.remove.result c.in_ok-text.text c.loop-peek.invariant.texts c.remove.ensures.value c.in_ok-text.ensures.text
          c.in_ok-text.ensures.ended (c.remove.ensures.updates.0, c.in_ok-insert.ensures.updates.0));
    }
