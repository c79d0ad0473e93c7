-- Each plan closes what it opens.
use Rattle.std.proofs.Common.{ℕ, suc, zero, List, [], ◌∷◌, Bool, true, false, refl}
use Rattle.std.specs.Prelude.{None, Some, ◌||◌, ◌+◌, ◌-◌, cond, nat_lt, ◌==◌, reverse}
use Rattle.std.proofs.lemmas.Bool.{eq-eqb}
use Rattle.osgi_base.specs.declared.ids.BundleId.{BundleId}
use Rattle.osgi_base.specs.declared.ids.ServiceId.{ServiceId}
use Rattle.osgi_ops.specs.Brackets.{opens}
use Rattle.osgi_runs.specs.Bound.{Closes}
use Rattle.osgi_ops.specs.Replies.{is_refusal}
use Rattle.osgi_session.specs.declared.command.Command.{Command}
use Rattle.osgi_session.specs.declared.command.Command.TheVariants as command
use Rattle.osgi_ops.specs.declared.op.Op.TheVariants as op
use Rattle.osgi_ops.specs.declared.target.Target.{Target}
use Rattle.osgi_ops.specs.declared.target.Target.TheVariants.{Id}
use Rattle.osgi_ops.specs.declared.reply.Reply.{Reply}
use Rattle.osgi_ops.specs.declared.reply.Reply.TheVariants as answer
use Rattle.osgi_session.specs.Plans.{Plan, ask, stop, done, unless_refused, after_one, one, after_begin_start, after_resolve, after_wish, start, HowStopped, stopped, section_failed, not_stopped, how_stopped, after_begin_stop, halt, even_if_its_section_failed, if_it_stopped, start_all, halt_all, restart, after_stop_to_update, stop_members, after_begin_refresh, to_start, to_stop, or_end_the_walk, climb, descend, after_begin_level, after_last_level_set, after_level_set, after_register, after_find, after_await, after_resolve_lazy, after_wish_lazy, after_load, after_get, plan, end_of}

after-refusal : (reply : Reply) (rest : Plan) → Closes None rest → Closes None (unless_refused reply rest)
after-refusal (answer.Refused refusal) rest c = tt
after-refusal reply rest c = c

after-one : (reply : Reply) → Closes None (after_one reply)
after-one reply = after-refusal reply (stop done) tt

-- operations that open nothing
begin-start : (bundle : BundleId) (transient : Bool) (rest : Bool → Plan) → ((bad : Bool) → Closes None (rest bad)) → (reply : Reply) →
    Closes (opens (op.BeginStart bundle transient) reply) (after_begin_start bundle rest reply)
begin-start bundle transient rest c (answer.Begun begun row) = λ fails. (eq-eqb bundle.0 bundle.0 refl, λ reply good. (good, c (is_refusal reply)))
begin-start bundle transient rest c (answer.Refused refusal) = c true
begin-start bundle transient rest c reply = c false

resolve : (bundle : BundleId) (transient : Bool) (rest : Bool → Plan) → ((bad : Bool) → Closes None (rest bad)) → (reply : Reply) → Closes None (after_resolve bundle transient rest reply)
resolve bundle transient rest c (answer.Refused refusal) = c true
resolve bundle transient rest c reply = (refl, begin-start bundle transient rest c)

wish : (transient : Bool) (rest : Bool → Plan) → ((bad : Bool) → Closes None (rest bad)) → (reply : Reply) → Closes None (after_wish transient rest reply)
wish transient rest c (answer.Go bundle) = (refl, resolve bundle transient rest c)
wish transient rest c (answer.Refused refusal) = c true
wish transient rest c reply = c false

pub closes-start : (target : Target) (transient : Bool) (rest : Bool → Plan) → ((bad : Bool) → Closes None (rest bad)) → Closes None (start target transient rest)
closes-start target transient rest c = (refl, wish transient rest c)

begin-stop : (target : Target) (transient : Bool) (rest : HowStopped → Plan) → ((how : HowStopped) → Closes None (rest how)) → (reply : Reply) → Closes (opens (op.BeginStop target transient) reply) (after_begin_stop rest reply)
begin-stop target transient rest c (answer.Begun begun row) = λ fails. (eq-eqb begun.0 begun.0 refl, λ reply good. (good, c (how_stopped reply)))
begin-stop target transient rest c (answer.Refused refusal) = c not_stopped
begin-stop target transient rest c reply = c (stopped false)

pub closes-halt : (target : Target) (transient : Bool) (rest : HowStopped → Plan) → ((how : HowStopped) → Closes None (rest how)) → Closes None (halt target transient rest)
closes-halt target transient rest c = (refl, begin-stop target transient rest c)

failure : (rest : Plan) → Closes None rest → (how : HowStopped) → Closes None (even_if_its_section_failed rest how)
failure rest c not_stopped = tt
failure rest c section_failed = c
failure rest c (stopped begun) = c

past : (rest : Plan) → Closes None rest → (how : HowStopped) → Closes None (if_it_stopped rest how)
past rest c not_stopped = tt
past rest c section_failed = tt
past rest c (stopped begun) = c

starts : (bundles : List BundleId) (rest : Plan) → Closes None rest → Closes None (start_all bundles rest)
starts [] rest c = c
starts (b ∷ more) rest c = closes-start (Id b) true (λ bad. start_all more rest) (λ bad. starts more rest c)

halts : (bundles : List BundleId) (rest : Plan) → Closes None rest → Closes None (halt_all bundles rest)
halts [] rest c = c
halts (b ∷ more) rest c = closes-halt (Id b) true (λ how. halt_all more rest) (λ how. halts more rest c)

members : (bundles : List BundleId) (rest : Plan) → Closes None rest → Closes None (stop_members bundles rest)
members [] rest c = c
members (b ∷ more) rest c = closes-halt (Id b) true (even_if_its_section_failed (stop_members more rest)) (failure (stop_members more rest) (members more rest c))

restarts : (bundle : BundleId) (begun bad : Bool) → Closes None (restart bundle begun bad)
restarts bundle true bad = closes-start (Id bundle) true (λ worse. stop (end_of (bad || worse))) (λ worse. tt)
restarts bundle false bad = tt

update : (bundle : BundleId) (location : List ℕ) (how : HowStopped) → Closes None (after_stop_to_update bundle location how)
update bundle location (stopped begun) = (refl, λ reply. restarts bundle begun (is_refusal reply))
update bundle location section_failed = (refl, λ reply. restarts bundle true (is_refusal reply))
update bundle location not_stopped = tt

refresh : (reply : Reply) → Closes None (after_begin_refresh reply)
refresh (answer.Closure all active) =
    members active _ (refl, λ reply. after-refusal reply _ (starts (reverse active) (one op.EndRefresh) (refl, after-one)))
refresh reply = after-one reply

stuck : (reply : Reply) (rest : Plan) → Closes None rest → Closes None (or_end_the_walk reply rest)
stuck (answer.Refused refusal) rest c = (refl, after-one)
stuck reply rest c = c

climbs : (more level : ℕ) → Closes None (climb more level)
climbs zero level = (refl, after-one)
climbs (suc more) level = (refl, λ reply. stuck reply _ (starts (to_start reply) (climb more (level + 1)) (climbs more (level + 1))))

descends : (more level : ℕ) → Closes None (descend more level)
descends zero level = (refl, after-one)
descends (suc more) level =
    (refl, λ listed. after-refusal listed _ (halts (to_stop listed) _ (refl, λ reply. stuck reply (descend more (level - 1)) (descends more (level - 1)))))

walk : (down : Bool) (from to : ℕ) → Closes None (cond down (descend (from - to) from) (climb (to - from) from))
walk true from to = descends (from - to) from
walk false from to = climbs (to - from) from

begin-level : (reply : Reply) → Closes None (after_begin_level reply)
begin-level (answer.Level from to) = walk (nat_lt to from) from to
begin-level reply = after-one reply

last-set : (bundle : BundleId) (reply : Reply) → Closes None (after_last_level_set bundle reply)
last-set bundle (answer.Leveled true) = closes-start (Id bundle) true (λ bad. stop (end_of bad)) (λ bad. tt)
last-set bundle (answer.Leveled false) = tt
last-set bundle reply = after-one reply

set : (bundle : BundleId) (level : ℕ) (reply : Reply) → Closes None (after_level_set bundle level reply)
set bundle level (answer.Up up) = closes-halt (Id bundle) true _ (past _ (refl, last-set bundle))
set bundle level reply = last-set bundle reply

register : (reply : Reply) → Closes None (after_register reply)
register (answer.Service service) = tt
register reply = after-one reply

find : (reply : Reply) → Closes None (after_find reply)
find (answer.Best found) = tt
find reply = after-one reply

-- a start of a bundle that may wait
await : (bundle : BundleId) (rest : Bool → Plan) → ((bad : Bool) → Closes None (rest bad)) → (reply : Reply) → Closes None (after_await bundle rest reply)
await bundle rest c (answer.Eager eager) = (refl, begin-start bundle false rest c)
await bundle rest c (answer.Refused refusal) = c true
await bundle rest c reply = c false

resolve-lazy : (bundle : BundleId) (rest : Bool → Plan) → ((bad : Bool) → Closes None (rest bad)) → (reply : Reply) → Closes None (after_resolve_lazy bundle rest reply)
resolve-lazy bundle rest c (answer.Refused refusal) = c true
resolve-lazy bundle rest c reply = (refl, await bundle rest c)

wish-lazy : (rest : Bool → Plan) → ((bad : Bool) → Closes None (rest bad)) → (reply : Reply) → Closes None (after_wish_lazy rest reply)
wish-lazy rest c (answer.Go bundle) = (refl, resolve-lazy bundle rest c)
wish-lazy rest c (answer.Refused refusal) = c true
wish-lazy rest c reply = c false

-- a load that starts a bundle which waited
load-more : (reply : Reply) → Closes None (after_load reply)
load-more (answer.LoadedMore by wire (Some bundle)) = closes-start (Id bundle) true (λ bad. stop done) (λ bad. tt)
load-more reply = after-one reply

-- a make that a Get begins ends with its own end
get : (user : BundleId) (service : ServiceId) (reply : Reply) → Closes (opens (op.Get user service) reply) (after_get reply)
get user service (answer.Make owner row name) = λ fails. (refl, λ reply good. (refl, after-one reply))
get user service reply = after-one reply

get-own : (user : BundleId) (service : ServiceId) (reply : Reply) → Closes (opens (op.GetOwn user service) reply) (after_get reply)
get-own user service (answer.Make owner row name) = λ fails. (refl, λ reply good. (refl, after-one reply))
get-own user service reply = after-one reply

loads : (console : Bool) (bundle : BundleId) (class : List ℕ) →
    Closes None (cond console (ask (op.Resolve bundle) (λ reply. unless_refused reply (ask (op.Load bundle class) after_load))) (ask (op.Load bundle class) after_load))
loads true bundle class = (refl, λ reply. after-refusal reply (ask (op.Load bundle class) after_load) (refl, load-more))
loads false bundle class = (refl, load-more)

-- every plan does
pub closes-plan : (owner : BundleId) (c : Command) → Closes None (plan owner c)
closes-plan owner (command.Register classes object properties) = (refl, register)
closes-plan owner (command.Find class filter) = (refl, find)
closes-plan owner (command.Start target transient) = closes-start target transient (λ bad. stop (end_of bad)) (λ bad. tt)
closes-plan owner (command.Stop target transient) = closes-halt target transient _ (past (stop done) tt)
closes-plan owner (command.Load bundle class) = loads (owner.0 == 0) bundle class
closes-plan owner (command.Update bundle location) = closes-halt (Id bundle) true _ (update bundle location)
closes-plan owner (command.Uninstall bundle) = closes-halt (Id bundle) true _ (failure _ (refl, after-one))
closes-plan owner (command.Refresh bundles) = (refl, refresh)
closes-plan owner (command.Level level) = (refl, begin-level)
closes-plan owner (command.BundleLevel bundle level) = (refl, set bundle level)
closes-plan owner (command.Fail text) = (refl, λ reply. after-refusal reply _ tt)
closes-plan owner (command.Modify service properties) = (refl, after-one)
closes-plan owner (command.Unregister service) = (refl, after-one)
closes-plan owner (command.FindAll class filter) = (refl, after-one)
closes-plan owner (command.Get service) = (refl, get owner service)
closes-plan owner (command.GetOwn service) = (refl, get-own owner service)
closes-plan owner (command.UngetOwn service object) = (refl, after-one)
closes-plan owner (command.Factory classes scope name properties) = (refl, register)
closes-plan owner (command.Give text) = (refl, after-one)
closes-plan owner (command.Peek class filter) = tt
closes-plan owner (command.StartLazy bundle) = (refl, wish-lazy (λ bad. stop (end_of bad)) (λ bad. tt))
closes-plan owner (command.Unget service) = (refl, after-one)
closes-plan owner (command.Install location) = (refl, after-one)
closes-plan owner (command.Resolve bundle) = (refl, after-one)
closes-plan owner (command.Wires bundle) = (refl, after-one)
closes-plan owner command.Bundles = (refl, after-one)
closes-plan owner command.Services = (refl, after-one)
closes-plan owner (command.Listen name kind filter) = (refl, after-one)
closes-plan owner (command.Unlisten name) = (refl, after-one)
closes-plan owner (command.Job name) = (refl, after-one)
closes-plan owner (command.Print text) = (refl, after-one)
