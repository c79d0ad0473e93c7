-- What is left of a plan before and after a step.
use Rattle.std.proofs.Common.{◌≡◌, ◌⊎◌, Bool, true, ap, inl, inr, refl}
use Rattle.osgi_ops.specs.declared.op.Op.{Op}
use Rattle.osgi_ops.specs.declared.reply.Reply.{Reply}
use Rattle.osgi_session.specs.Plans as plans
use Rattle.osgi_session.specs.Plans.{stirs}
use Rattle.osgi_session.specs.Steps.{begin, drained_first, drained_out, draining, first_step, left_section, replied, resume, asking}
use Rattle.osgi_lifecycle.specs.Draining.{drained_by}
use Rattle.osgi_lifecycle.specs.Following.{after_reply, after_section, left_of}
use Rattle.osgi_lifecycle.specs.Pendings.{IsAnswer, last_of, pending_at, pending_of}
use Rattle.osgi_lifecycle.specs.declared.head.Head.TheVariants as head
use Rattle.osgi_lifecycle.specs.declared.last.Last.{Last}
use Rattle.osgi_lifecycle.specs.declared.last.Last.TheVariants as last
use Rattle.osgi_lifecycle.specs.declared.plan.Plan.{Plan}
use Rattle.osgi_lifecycle.specs.declared.plan.Stage.{Stage}
use Rattle.osgi_lifecycle.specs.declared.plan.Stage.TheVariants as stage
use Rattle.osgi_lifecycle.specs.declared.stirring.Stirring.{Stirring}

-- an operation was asked, and its reply is awaited
pub asked : (p : Plan) (o : Op) (kept : Stirring) → drained_by kept ≡ stirs o →
    pending_at stage.Asked (record p { stage = stage.Asked; stirring = kept }) ≡ (first_step (left_of (head.Ask o) p.rest)).pending
asked p o kept e = ap (λ (f : Reply → Bool). asking f (after_reply p.rest.at p.rest.kept)) e

begun-at : (s : Stage) (p : Plan) → IsAnswer (pending_at s p) begin → resume (pending_at s p) begin ≡ first_step (left_of p.ready p.rest)
begun-at stage.Fresh p h = refl
begun-at stage.Asked p h = absurd h
begun-at stage.Draining p h = absurd h
begun-at stage.Within p h = absurd h
begun-at stage.Ended p h = absurd h

drained-at : (s : Stage) (p : Plan) → IsAnswer (pending_at s p) drained_out → resume (pending_at s p) drained_out ≡ first_step (left_of p.ready p.rest)
drained-at stage.Fresh p h = absurd h
drained-at stage.Asked p h = absurd h
drained-at stage.Draining p h = refl
drained-at stage.Within p h = absurd h
drained-at stage.Ended p h = absurd h

replied-at : (s : Stage) (p : Plan) (reply : Reply) → IsAnswer (pending_at s p) (replied reply) →
    resume (pending_at s p) (replied reply) ≡ drained_first (drained_by p.stirring reply) (after_reply p.rest.at p.rest.kept reply)
replied-at stage.Fresh p reply h = absurd h
replied-at stage.Asked p reply h = refl
replied-at stage.Draining p reply h = absurd h
replied-at stage.Within p reply h = absurd h
replied-at stage.Ended p reply h = absurd h

ran-at : (s : Stage) (p : Plan) (fails : Bool) → IsAnswer (pending_at s p) (left_section fails) →
    resume (pending_at s p) (left_section fails) ≡ first_step (after_section p.rest.at p.rest.kept fails)
ran-at stage.Fresh p fails h = absurd h
ran-at stage.Asked p fails h = absurd h
ran-at stage.Draining p fails h = absurd h
ran-at stage.Within p fails h = refl
ran-at stage.Ended p fails h = absurd h

-- a plan that was told this goes on with this step
pub ready-given : (p : Plan) (told : Last) → (told ≡ last.Begin) ⊎ (told ≡ last.Drained) → IsAnswer (pending_of p) (last_of told) → resume (pending_of p) (last_of told) ≡ first_step (left_of p.ready p.rest)
unfolding pending_of
ready-given p told (inl e) h = rw e (begun-at p.stage p (rw e at h))
ready-given p told (inr e) h = rw e (drained-at p.stage p (rw e at h))

pub replied-on : (p : Plan) (told : Last) (reply : Reply) → told ≡ last.Reply reply → IsAnswer (pending_of p) (last_of told) →
    resume (pending_of p) (last_of told) ≡ drained_first (drained_by p.stirring reply) (after_reply p.rest.at p.rest.kept reply)
unfolding pending_of
replied-on p told reply e h = rw e (replied-at p.stage p reply (rw e at h))

pub ran-on : (p : Plan) (told : Last) (fails : Bool) → told ≡ last.Ran fails → IsAnswer (pending_of p) (last_of told) →
    resume (pending_of p) (last_of told) ≡ first_step (after_section p.rest.at p.rest.kept fails)
unfolding pending_of
ran-on p told fails e h = rw e (ran-at p.stage p fails (rw e at h))

-- a plan whose next step is held back until events were handed
pub held-back : (drains : Bool) (left rest : plans.Plan) → drains ≡ true → left ≡ rest → draining left ≡ (drained_first drains rest).pending
held-back drains left rest e q = rw e (ap draining q)
