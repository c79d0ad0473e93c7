-- No plan of a command takes a job.
use Rattle.std.proofs.Common.{ℕ, suc, zero, List, [], ◌∷◌, Bool, true, false, refl}
use Rattle.std.specs.Prelude.{Some, ◌||◌, ◌+◌, ◌-◌, cond, nat_lt, ◌==◌, reverse}
use Rattle.osgi_base.specs.declared.ids.BundleId.{BundleId}
use Rattle.osgi_runs.specs.Bound.{NoTake}
use Rattle.osgi_ops.specs.Replies.{is_refusal}
use Rattle.osgi_session.specs.declared.command.Command.{Command}
use Rattle.osgi_session.specs.declared.command.Command.TheVariants as command
use Rattle.osgi_ops.specs.declared.op.Op.TheVariants as op
use Rattle.osgi_ops.specs.declared.target.Target.{Target}
use Rattle.osgi_ops.specs.declared.target.Target.TheVariants.{Id}
use Rattle.osgi_ops.specs.declared.reply.Reply.{Reply}
use Rattle.osgi_ops.specs.declared.reply.Reply.TheVariants as answer
use Rattle.osgi_session.specs.Plans.{Plan, ask, stop, done, unless_refused, after_one, one, after_begin_start, after_resolve, after_wish, start, HowStopped, stopped, section_failed, not_stopped, how_stopped, after_begin_stop, halt, even_if_its_section_failed, if_it_stopped, start_all, halt_all, restart, after_stop_to_update, stop_members, after_begin_refresh, to_start, to_stop, or_end_the_walk, climb, descend, after_begin_level, after_last_level_set, after_level_set, after_register, after_find, after_await, after_resolve_lazy, after_wish_lazy, after_load, after_get, plan, end_of}

after-refusal : (reply : Reply) (rest : Plan) → NoTake rest → NoTake (unless_refused reply rest)
after-refusal (answer.Refused refusal) rest c = tt
after-refusal reply rest c = c

after-one : (reply : Reply) → NoTake (after_one reply)
after-one reply = after-refusal reply (stop done) tt

begin-start : (bundle : BundleId) (transient : Bool) (rest : Bool → Plan) → ((bad : Bool) → NoTake (rest bad)) → (reply : Reply) →
    NoTake (after_begin_start bundle rest reply)
begin-start bundle transient rest c (answer.Begun begun row) = λ fails. (refl, λ reply. c (is_refusal reply))
begin-start bundle transient rest c (answer.Refused refusal) = c true
begin-start bundle transient rest c reply = c false

resolve : (bundle : BundleId) (transient : Bool) (rest : Bool → Plan) → ((bad : Bool) → NoTake (rest bad)) → (reply : Reply) → NoTake (after_resolve bundle transient rest reply)
resolve bundle transient rest c (answer.Refused refusal) = c true
resolve bundle transient rest c reply = (refl, begin-start bundle transient rest c)

wish : (transient : Bool) (rest : Bool → Plan) → ((bad : Bool) → NoTake (rest bad)) → (reply : Reply) → NoTake (after_wish transient rest reply)
wish transient rest c (answer.Go bundle) = (refl, resolve bundle transient rest c)
wish transient rest c (answer.Refused refusal) = c true
wish transient rest c reply = c false

pub takes-start : (target : Target) (transient : Bool) (rest : Bool → Plan) → ((bad : Bool) → NoTake (rest bad)) → NoTake (start target transient rest)
takes-start target transient rest c = (refl, wish transient rest c)

begin-stop : (target : Target) (transient : Bool) (rest : HowStopped → Plan) → ((how : HowStopped) → NoTake (rest how)) → (reply : Reply) → NoTake (after_begin_stop rest reply)
begin-stop target transient rest c (answer.Begun begun row) = λ fails. (refl, λ reply. c (how_stopped reply))
begin-stop target transient rest c (answer.Refused refusal) = c not_stopped
begin-stop target transient rest c reply = c (stopped false)

pub takes-halt : (target : Target) (transient : Bool) (rest : HowStopped → Plan) → ((how : HowStopped) → NoTake (rest how)) → NoTake (halt target transient rest)
takes-halt target transient rest c = (refl, begin-stop target transient rest c)

failure : (rest : Plan) → NoTake rest → (how : HowStopped) → NoTake (even_if_its_section_failed rest how)
failure rest c not_stopped = tt
failure rest c section_failed = c
failure rest c (stopped begun) = c

past : (rest : Plan) → NoTake rest → (how : HowStopped) → NoTake (if_it_stopped rest how)
past rest c not_stopped = tt
past rest c section_failed = tt
past rest c (stopped begun) = c

starts : (bundles : List BundleId) (rest : Plan) → NoTake rest → NoTake (start_all bundles rest)
starts [] rest c = c
starts (b ∷ more) rest c = takes-start (Id b) true (λ bad. start_all more rest) (λ bad. starts more rest c)

halts : (bundles : List BundleId) (rest : Plan) → NoTake rest → NoTake (halt_all bundles rest)
halts [] rest c = c
halts (b ∷ more) rest c = takes-halt (Id b) true (λ how. halt_all more rest) (λ how. halts more rest c)

members : (bundles : List BundleId) (rest : Plan) → NoTake rest → NoTake (stop_members bundles rest)
members [] rest c = c
members (b ∷ more) rest c = takes-halt (Id b) true (even_if_its_section_failed (stop_members more rest)) (failure (stop_members more rest) (members more rest c))

restarts : (bundle : BundleId) (begun bad : Bool) → NoTake (restart bundle begun bad)
restarts bundle true bad = takes-start (Id bundle) true (λ worse. stop (end_of (bad || worse))) (λ worse. tt)
restarts bundle false bad = tt

update : (bundle : BundleId) (location : List ℕ) (how : HowStopped) → NoTake (after_stop_to_update bundle location how)
update bundle location (stopped begun) = (refl, λ reply. restarts bundle begun (is_refusal reply))
update bundle location section_failed = (refl, λ reply. restarts bundle true (is_refusal reply))
update bundle location not_stopped = tt

refresh : (reply : Reply) → NoTake (after_begin_refresh reply)
refresh (answer.Closure all active) =
    members active _ (refl, λ reply. after-refusal reply _ (starts (reverse active) (one op.EndRefresh) (refl, after-one)))
refresh reply = after-one reply

stuck : (reply : Reply) (rest : Plan) → NoTake rest → NoTake (or_end_the_walk reply rest)
stuck (answer.Refused refusal) rest c = (refl, after-one)
stuck reply rest c = c

climbs : (more level : ℕ) → NoTake (climb more level)
climbs zero level = (refl, after-one)
climbs (suc more) level = (refl, λ reply. stuck reply _ (starts (to_start reply) (climb more (level + 1)) (climbs more (level + 1))))

descends : (more level : ℕ) → NoTake (descend more level)
descends zero level = (refl, after-one)
descends (suc more) level =
    (refl, λ listed. after-refusal listed _ (halts (to_stop listed) _ (refl, λ reply. stuck reply (descend more (level - 1)) (descends more (level - 1)))))

walk : (down : Bool) (from to : ℕ) → NoTake (cond down (descend (from - to) from) (climb (to - from) from))
walk true from to = descends (from - to) from
walk false from to = climbs (to - from) from

begin-level : (reply : Reply) → NoTake (after_begin_level reply)
begin-level (answer.Level from to) = walk (nat_lt to from) from to
begin-level reply = after-one reply

last-set : (bundle : BundleId) (reply : Reply) → NoTake (after_last_level_set bundle reply)
last-set bundle (answer.Leveled true) = takes-start (Id bundle) true (λ bad. stop (end_of bad)) (λ bad. tt)
last-set bundle (answer.Leveled false) = tt
last-set bundle reply = after-one reply

set : (bundle : BundleId) (level : ℕ) (reply : Reply) → NoTake (after_level_set bundle level reply)
set bundle level (answer.Up up) = takes-halt (Id bundle) true _ (past _ (refl, last-set bundle))
set bundle level reply = last-set bundle reply

register : (reply : Reply) → NoTake (after_register reply)
register (answer.Service service) = tt
register reply = after-one reply

find : (reply : Reply) → NoTake (after_find reply)
find (answer.Best found) = tt
find reply = after-one reply

-- a start of a bundle that may wait
await : (bundle : BundleId) (rest : Bool → Plan) → ((bad : Bool) → NoTake (rest bad)) → (reply : Reply) → NoTake (after_await bundle rest reply)
await bundle rest c (answer.Eager eager) = (refl, begin-start bundle false rest c)
await bundle rest c (answer.Refused refusal) = c true
await bundle rest c reply = c false

resolve-lazy : (bundle : BundleId) (rest : Bool → Plan) → ((bad : Bool) → NoTake (rest bad)) → (reply : Reply) → NoTake (after_resolve_lazy bundle rest reply)
resolve-lazy bundle rest c (answer.Refused refusal) = c true
resolve-lazy bundle rest c reply = (refl, await bundle rest c)

wish-lazy : (rest : Bool → Plan) → ((bad : Bool) → NoTake (rest bad)) → (reply : Reply) → NoTake (after_wish_lazy rest reply)
wish-lazy rest c (answer.Go bundle) = (refl, resolve-lazy bundle rest c)
wish-lazy rest c (answer.Refused refusal) = c true
wish-lazy rest c reply = c false

load-more : (reply : Reply) → NoTake (after_load reply)
load-more (answer.LoadedMore by wire (Some bundle)) = takes-start (Id bundle) true (λ bad. stop done) (λ bad. tt)
load-more reply = after-one reply

get : (reply : Reply) → NoTake (after_get reply)
get (answer.Make owner row name) = λ fails. (refl, after-one)
get reply = after-one reply

loads : (console : Bool) (bundle : BundleId) (class : List ℕ) →
    NoTake (cond console (ask (op.Resolve bundle) (λ reply. unless_refused reply (ask (op.Load bundle class) after_load))) (ask (op.Load bundle class) after_load))
loads true bundle class = (refl, λ reply. after-refusal reply (ask (op.Load bundle class) after_load) (refl, load-more))
loads false bundle class = (refl, load-more)

-- none of them
pub takes-plan : (owner : BundleId) (c : Command) → NoTake (plan owner c)
takes-plan owner (command.Register classes object properties) = (refl, register)
takes-plan owner (command.Find class filter) = (refl, find)
takes-plan owner (command.Start target transient) = takes-start target transient (λ bad. stop (end_of bad)) (λ bad. tt)
takes-plan owner (command.Stop target transient) = takes-halt target transient _ (past (stop done) tt)
takes-plan owner (command.Load bundle class) = loads (owner.0 == 0) bundle class
takes-plan owner (command.Update bundle location) = takes-halt (Id bundle) true _ (update bundle location)
takes-plan owner (command.Uninstall bundle) = takes-halt (Id bundle) true _ (failure _ (refl, after-one))
takes-plan owner (command.Refresh bundles) = (refl, refresh)
takes-plan owner (command.Level level) = (refl, begin-level)
takes-plan owner (command.BundleLevel bundle level) = (refl, set bundle level)
takes-plan owner (command.Fail text) = (refl, λ reply. after-refusal reply _ tt)
takes-plan owner (command.Modify service properties) = (refl, after-one)
takes-plan owner (command.Unregister service) = (refl, after-one)
takes-plan owner (command.FindAll class filter) = (refl, after-one)
takes-plan owner (command.Get service) = (refl, get)
takes-plan owner (command.GetOwn service) = (refl, get)
takes-plan owner (command.UngetOwn service object) = (refl, after-one)
takes-plan owner (command.Factory classes scope name properties) = (refl, register)
takes-plan owner (command.Give text) = (refl, after-one)
takes-plan owner (command.Peek class filter) = tt
takes-plan owner (command.StartLazy bundle) = (refl, wish-lazy (λ bad. stop (end_of bad)) (λ bad. tt))
takes-plan owner (command.Unget service) = (refl, after-one)
takes-plan owner (command.Install location) = (refl, after-one)
takes-plan owner (command.Resolve bundle) = (refl, after-one)
takes-plan owner (command.Wires bundle) = (refl, after-one)
takes-plan owner command.Bundles = (refl, after-one)
takes-plan owner command.Services = (refl, after-one)
takes-plan owner (command.Listen name kind filter) = (refl, after-one)
takes-plan owner (command.Unlisten name) = (refl, after-one)
takes-plan owner (command.Job name) = (refl, after-one)
takes-plan owner (command.Print text) = (refl, after-one)
