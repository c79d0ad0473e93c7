-- The calls that a reading took.
use Rattle.std.proofs.Common.{◌≡◌, List, [], ◌∷◌, ◌++◌, append_assoc, refl, sym, ap, ◌∙◌}
use Rattle.osgi_session.specs.Plans.{End}
use Rattle.osgi_session.specs.Runs.{Call, call, Task, Sections, Reads, at_stop, asked, ran, calm, empty, handed, over, fails, goes, none, took}
use Rattle.osgi_ops.specs.declared.op.Op.TheVariants.{Hand, EndHand, TakeJob, EndJob}
use Rattle.osgi_ops.specs.declared.reply.Reply.TheVariants.{Handed, Job}

-- the calls that a reading took
pub record Taken (calls left : List Call) : Type 0 where
  pub word : List Call
  pub is : calls ≡ word ++ left

unfoldable pub no-word : {left : List Call} → Taken left left
no-word = record { word = []; is = refl }

unfoldable pub then-word : {calls mid left : List Call} → Taken calls mid → Taken mid left → Taken calls left
then-word {calls} {mid} {left} a b = record { word = a.word ++ b.word; is = a.is ∙ ap (λ l. a.word ++ l) b.is ∙ sym (append_assoc a.word b.word left) }

unfoldable pub put-word : {calls left : List Call} (c : Call) → Taken calls left → Taken (c ∷ calls) left
put-word c a = record { word = c ∷ a.word; is = ap (λ l. c ∷ l) a.is }

unfoldable pub word-of : {script : Sections} {t : Task} {end : End} {calls left : List Call} → Reads script t end calls left → Taken calls left
word-of at_stop = no-word
word-of (asked {asks = o} {reply = y} d x) = put-word (call o y) (then-word (word-of d) (word-of x))
word-of (ran s x) = then-word (word-of s) (word-of x)
word-of calm = no-word
word-of (empty {reply = y} e) = put-word (call Hand y) no-word
word-of (handed {listener = l} {kind = kd} {owner = w} {row = n} {name = m} {event = v} {reply = y} s x) =
    put-word (call Hand (Handed l kd w n m v)) (then-word (word-of s) (put-word (call (EndHand l) y) (word-of x)))
word-of over = no-word
word-of (fails x f) = word-of x
word-of (goes x f y) = then-word (word-of x) (word-of y)
word-of (none {reply = y} e) = put-word (call TakeJob y) no-word
word-of (took {owner = w} {row = n} {name = m} {reply = y} s x) =
    put-word (call TakeJob (Job w n m)) (then-word (word-of s) (put-word (call EndJob y) (word-of x)))
