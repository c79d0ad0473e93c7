-- The text of a line's entries, with one more entry.
use Rattle.std.proofs.Common.{◌≡◌, ℕ, List, [], ◌∷◌, ◌++◌}
use Rattle.std.specs.Prelude.{cond}
use Rattle.osgi_ops.specs.laws.Along.{along-last}
use Rattle.osgi_session.specs.Lines.{is_of}
use Rattle.osgi_session.specs.Rendering.{entries_text, entry_text}
use Rattle.osgi_ops.specs.declared.entry.Entry.{Entry}

pub entries_text-push : (number : ℕ) (history : List Entry) (e : Entry) →
    entries_text number (history ++ e ∷ []) ≡ entries_text number history ++ (cond (is_of number e) (entry_text history e) [])
entries_text-push number history e = along-last (λ before (x : Entry). cond (is_of number x) (entry_text before x) []) history e
