-- What is left of a plan waits for what comes of its step.
use Rattle.std.proofs.Common.{◌≡◌, ◌∙◌, Bool, true, false, ap, subst, sym}
use Rattle.osgi_session.specs.Plans.{Plan, ask, run, stop}
use Rattle.osgi_session.specs.Steps.{Last, begin, replied, drained_out, left_section, Pending, fresh, asking, draining, within, ended, drained_first, first_step, resume, Step}
use Rattle.osgi_lifecycle.specs.Pendings.{Awaits, IsNext}
use Rattle.osgi_lifecycle.specs.declared.next.Next.{Next}
use Rattle.osgi_lifecycle.specs.declared.next.Next.TheVariants as next

awaits-first : (n : Next) (p : Plan) → IsNext n (first_step p).next → Awaits n (first_step p).pending
awaits-first (next.Do o) (ask asks rest) h = λ reply. tt
awaits-first (next.Do o) (run row owner which rest) h = absurd h
awaits-first (next.Do o) (stop end) h = absurd h
awaits-first next.Drain (ask asks rest) h = absurd h
awaits-first next.Drain (run row owner which rest) h = absurd h
awaits-first next.Drain (stop end) h = absurd h
awaits-first (next.Run r o s) (ask asks rest) h = absurd h
awaits-first (next.Run r o s) (run row owner which rest) h = λ fails. tt
awaits-first (next.Run r o s) (stop end) h = absurd h
awaits-first (next.End r f b) p h = tt

awaits-drained : (n : Next) (b : Bool) (p : Plan) → IsNext n (drained_first b p).next → Awaits n (drained_first b p).pending
awaits-drained n false p h = awaits-first n p h
awaits-drained (next.Do o) true p h = absurd h
awaits-drained next.Drain true p h = tt
awaits-drained (next.Run r o s) true p h = absurd h
awaits-drained (next.End r f b) true p h = tt

-- nothing is left of a plan that was told what it did not wait for
awaits-none : (n : Next) → IsNext n (resume ended begin).next → Awaits n ended
awaits-none (next.Do o) h = absurd h
awaits-none next.Drain h = absurd h
awaits-none (next.Run r o s) h = absurd h
awaits-none (next.End r f b) h = tt

awaits-step : (n : Next) (q : Pending) (told : Last) → IsNext n (resume q told).next → Awaits n (resume q told).pending
awaits-step n (fresh p) begin h = awaits-first n p h
awaits-step n (asking drains rest) (replied reply) h = awaits-drained n (drains reply) (rest reply) h
awaits-step n (draining p) drained_out h = awaits-first n p h
awaits-step n (within rest) (left_section fails) h = awaits-first n (rest fails) h
awaits-step n _ _ h = awaits-none n h

awaited : (n : Next) (q after : Pending) (told : Last) → IsNext n (resume q told).next → after ≡ (resume q told).pending → Awaits n after
awaited n q after told h e = subst (λ a. Awaits n a) (sym e) (awaits-step n q told h)

-- what is told of a step, and what is left after it, is so of one that equals it
pub told-next : (n : Next) {s t : Step} → s ≡ t → IsNext n s.next → IsNext n t.next
told-next n e h = subst (λ (u : Step). IsNext n u.next) e h

pub told-pending : (after : Pending) {s t : Step} → s ≡ t → after ≡ s.pending → after ≡ t.pending
told-pending after e h = h ∙ ap (λ (u : Step). u.pending) e

-- a step that is the one which was computed, with what is awaited then
pub awaited-step : (n : Next) (q after : Pending) (told : Last) {s : Step} → s ≡ resume q told → IsNext n s.next → after ≡ s.pending → Awaits n after
awaited-step n q after told e h r = awaited n q after told (told-next n e h) (told-pending after e r)
