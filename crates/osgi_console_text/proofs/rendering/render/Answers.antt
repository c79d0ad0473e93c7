-- What a line writes by the texts is what it writes by the history and the peeks.
use Rattle.std.proofs.Common.{◌≡◌, ◌+◌, ◌++◌, ◌∷◌, List, ap, sym, ◌∙◌, drop, drop-cons, add-one, append_assoc, suc}
use Rattle.osgi_session.specs.Rendering.{line_text, render}
use Rattle.osgi_ops.specs.declared.entry.Entry.{Entry}
use Rattle.osgi_ops.specs.declared.peek.Peek.{Peek}
use Rattle.osgi_session.specs.declared.line.Line.{Line}
use Rattle.osgi_console_text.proofs.TextMap.{line_text_from}
use Rattle.osgi_console_text.proofs.rendering.render.Goals as goal

pub loop-line-preserved : goal.loop-line-preserved
loop-line-preserved c =
    let lines : List Line = c.args.lines.now in
    let entries : List Entry = c.args.entries.now in
    let peeks : List Peek = c.args.peeks.now in
    let i = c.loop-line.line-index in
    let line = c.line-item.result in
    let left : drop i lines ≡ line ∷ drop (i + 1) lines
    = rw add-one (drop-cons lines i line c.loop-line-test.true ∙ ap (λ (x : Line). x ∷ drop (suc i) lines) (sym c.line-item.is)) in
    rw (c.in_ok-add_line.ensures.added, line_text_from entries peeks c.in_ok-texts.texts line c.in_ok-texts.ensures.texts)
    (append_assoc c.loop-line.out.items (line_text entries peeks line) (render (drop (i + 1) lines) entries peeks)
    ∙ ap (λ l. c.loop-line.out.items ++ render l entries peeks) (sym left) ∙ c.loop-line.invariant)
