-- One more entry adds its text to that of its line.
use Rattle.std.proofs.Common.{◌≡◌, ◌+◌, ◌++◌, ◌∷◌, [], List, ap, sym, subst, ◌∙◌, take}
use Rattle.std.specs.Prelude.{unwrap_or}
use Rattle.std.proofs.lemmas.List.{take_more}
use Rattle.osgi_brackets.specs.Open.{StandsFor}
use Rattle.osgi_ops.specs.Levels.{active_level, moved_to}
use Rattle.osgi_ops.specs.declared.entry.Entry.{Entry}
use Rattle.osgi_session.specs.Rendering.{depth, entry_lines, entry_text, lines_at}
use Rattle.osgi_console_text.proofs.TextMap.{level-last, texts_put}
use Rattle.osgi_console_text.specs.computed.Texts.{AreTextsOf, written}
use Rattle.osgi_console_text.proofs.rendering.texts.Goals as goal

pub loop-entry-preserved : goal.loop-entry-preserved
loop-entry-preserved c =
    let entries : List Entry = c.args.entries.now in
    let i = c.loop-entry.entry-index in
    let e = c.entry-item.result in
    let history : List Entry = take i entries in
    let before = c.loop-entry.invariant in
    let more : take (i + 1) entries ≡ history ++ e ∷ []
    = take_more entries i e c.loop-entry-test.true ∙ ap (λ (x : Entry). history ++ x ∷ []) (sym c.entry-item.is) in
    let added : c.in_ok-text.text.text.items ≡ written c.remove.result ++ entry_text history e
    = c.in_ok-text.ensures.text
    ∙ ap (λ d. written c.remove.result ++ lines_at d (entry_lines c.loop-entry.level e.op e.reply)) (c.in_ok-depth.ensures.depth history before.stands)
    ∙ ap (λ level. written c.remove.result ++ lines_at (depth history e) (entry_lines level e.op e.reply)) before.level in
    record {
      stands = subst (λ h. StandsFor h c.depth_of.new.brackets) (sym more) (c.in_ok-depth.ensures.follows history before.stands);
      level = c.level_after-level.ensures.level ∙ ap (unwrap_or (moved_to e.op e.reply)) before.level ∙ sym (ap active_level more ∙ level-last history e);
      texts = subst (λ h. AreTextsOf h c.args.peeks.now c.insert.new.self) (sym more)
          (texts_put history c.args.peeks.now e c.loop-entry.texts c.remove.new.self c.insert.new.self c.remove.result c.in_ok-text.text before.texts c.remove.ensures.value added c.in_ok-text.ensures.ended
          (c.remove.ensures.updates.0, c.in_ok-insert.ensures.updates.0));
    }
