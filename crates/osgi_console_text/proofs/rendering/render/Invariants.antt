-- The text so far, and that of the lines that are left.
use Rattle.std.proofs.Common.{◌≡◌, ◌++◌, drop}
use Rattle.osgi_session.specs.Rendering.{render}
use Rattle.osgi_console_text.proofs.rendering.render.Given as goal

abbrev pub invariant-loop-line : goal.invariant-loop-line
invariant-loop-line l = l.out.items ++ render (drop l.line-index l.lines) l.entries l.peeks ≡ render l.lines l.entries l.peeks
