-- What a command asks of the framework, step by step.
use Rattle.std.specs.Prelude.{ℕ, zero, suc, nat_lt, ◌==◌, ◌+◌, ◌-◌, ◌||◌, Bool, true, false, if◌then◌else◌, List, [], ◌∷◌, Option, Some, reverse}
use Rattle.osgi_base.specs.declared.ids.BundleId.{BundleId}
use Rattle.osgi_base.specs.declared.ids.ServiceId.{ServiceId}
use Rattle.osgi_ops.specs.Replies.{is_accepted, is_refusal, took_effect}
use Rattle.osgi_session.specs.declared.command.Command.{Command}
use Rattle.osgi_session.specs.declared.command.Command.TheVariants as command
use Rattle.osgi_ops.specs.declared.op.Op.{Op}
use Rattle.osgi_ops.specs.declared.op.Op.TheVariants as op
use Rattle.osgi_ops.specs.declared.target.Target.{Target}
use Rattle.osgi_ops.specs.declared.target.Target.TheVariants.{Id}
use Rattle.osgi_ops.specs.declared.refusal.Refusal.TheVariants.{ActivatorError}
use Rattle.osgi_ops.specs.declared.reply.Reply.{Reply}
use Rattle.osgi_ops.specs.declared.reply.Reply.TheVariants as answer
use Rattle.osgi_ops.specs.declared.scope.Scope.TheVariants.{Singleton}
use Rattle.osgi_ops.specs.declared.section.Section.{Section}
use Rattle.osgi_ops.specs.declared.section.Section.TheVariants as section

-- how a plan ended: as done, as having found or registered a service, as refused, or as told to fail
pub data End : Type 0 where
  done : End
  bound : Option ServiceId → End
  refused : End
  failed : End

-- what is left to do: an operation, and what comes after its reply; a section of a bundle's script, and what comes after it,
-- failed or not; or nothing. After some operations a drain comes before anything else
pub data Plan : Type 0 where
  ask : Op → (Reply → Plan) → Plan
  run : ℕ → BundleId → Section → (Bool → Plan) → Plan
  stop : End → Plan

-- bundles may wait for a load of one of their classes. Then a stop that finds nothing to stop may have ended such a waiting, of which
-- there are events, and a reply that says so does not tell whether it did: a drain follows each. This has to say what `is_here` of
-- `osgi_legal` says of Await: where Await has come and this is false, the events of a waiting that ended are not handed
abbrev pub waits_here : Bool
waits_here = false

-- after this operation with this reply something may wait to be handed to a listener, and a drain follows
abbrev pub stirs : Op → Reply → Bool
stirs (op.Register owner classes object scope properties) reply = is_accepted reply
stirs (op.Modify owner service properties) reply = is_accepted reply
stirs (op.Unregister owner service) reply = is_accepted reply
stirs (op.Install location) reply = is_accepted reply
stirs (op.Resolve bundle) reply = is_accepted reply
stirs (op.BeginStart bundle transient) (answer.Begun begun row) = true
stirs (op.EndStart bundle fails) reply = took_effect reply
stirs (op.BeginStop target transient) (answer.Begun begun row) = true
stirs (op.BeginStop target transient) (answer.Idle bundle) = waits_here
stirs (op.EndStop bundle fails) reply = took_effect reply
stirs (op.Await asked) (answer.Waiting bundle) = true
stirs (op.EndMake fails) reply = true
stirs (op.Update bundle location) reply = is_accepted reply
stirs (op.Uninstall bundle) reply = is_accepted reply
stirs op.DropWirings reply = is_accepted reply
stirs op.EndRefresh reply = is_accepted reply
stirs op.EndLevel reply = is_accepted reply
stirs _ _ = false

abbrev pub end_of : Bool → End
end_of true = refused
end_of false = done

-- a step that is refused ends its plan as refused
abbrev pub unless_refused : Reply → Plan → Plan
unless_refused (answer.Refused refusal) rest = stop refused
unless_refused reply rest = rest

abbrev pub after_one : Reply → Plan
after_one reply = unless_refused reply (stop done)

-- one operation
abbrev pub one : Op → Plan
one o = ask o after_one

-- ---- starts: what comes then is told whether it was refused

abbrev pub after_end_start : (Bool → Plan) → Reply → Plan
after_end_start rest reply = rest (is_refusal reply)

abbrev pub after_begin_start : BundleId → (Bool → Plan) → Reply → Plan
after_begin_start bundle rest (answer.Begun begun row) = run row bundle section.Start (λ fails. ask (op.EndStart bundle fails) (after_end_start rest))
after_begin_start bundle rest (answer.Refused refusal) = rest true
after_begin_start bundle rest reply = rest false

abbrev pub after_resolve : BundleId → Bool → (Bool → Plan) → Reply → Plan
after_resolve bundle transient rest (answer.Refused refusal) = rest true
after_resolve bundle transient rest reply = ask (op.BeginStart bundle transient) (after_begin_start bundle rest)

abbrev pub after_wish : Bool → (Bool → Plan) → Reply → Plan
after_wish transient rest (answer.Go bundle) = ask (op.Resolve bundle) (after_resolve bundle transient rest)
after_wish transient rest (answer.Refused refusal) = rest true
after_wish transient rest reply = rest false

abbrev pub start : Target → Bool → (Bool → Plan) → Plan
start target transient rest = ask (op.WishStart target transient) (after_wish transient rest)

-- ---- starts of bundles that may wait: one that does not wait is started as any other

abbrev pub after_await : BundleId → (Bool → Plan) → Reply → Plan
after_await bundle rest (answer.Eager eager) = ask (op.BeginStart bundle false) (after_begin_start bundle rest)
after_await bundle rest (answer.Refused refusal) = rest true
after_await bundle rest reply = rest false

abbrev pub after_resolve_lazy : BundleId → (Bool → Plan) → Reply → Plan
after_resolve_lazy bundle rest (answer.Refused refusal) = rest true
after_resolve_lazy bundle rest reply = ask (op.Await bundle) (after_await bundle rest)

abbrev pub after_wish_lazy : (Bool → Plan) → Reply → Plan
after_wish_lazy rest (answer.Go bundle) = ask (op.Resolve bundle) (after_resolve_lazy bundle rest)
after_wish_lazy rest (answer.Refused refusal) = rest true
after_wish_lazy rest reply = rest false

abbrev pub start_lazy : BundleId → (Bool → Plan) → Plan
start_lazy bundle rest = ask (op.WishStart (Id bundle) false) (after_wish_lazy rest)

-- ---- stops

-- how a stop went: well, whether or not there was something to stop; its section failed; or it was refused otherwise
pub data HowStopped : Type 0 where
  stopped : Bool → HowStopped
  section_failed : HowStopped
  not_stopped : HowStopped

abbrev pub how_stopped : Reply → HowStopped
how_stopped (answer.Refused ActivatorError) = section_failed
how_stopped (answer.Refused refusal) = not_stopped
how_stopped reply = stopped true

abbrev pub after_end_stop : (HowStopped → Plan) → Reply → Plan
after_end_stop rest reply = rest (how_stopped reply)

abbrev pub after_begin_stop : (HowStopped → Plan) → Reply → Plan
after_begin_stop rest (answer.Begun bundle row) = run row bundle section.Stop (λ fails. ask (op.EndStop bundle fails) (after_end_stop rest))
after_begin_stop rest (answer.Refused refusal) = rest not_stopped
after_begin_stop rest reply = rest (stopped false)

abbrev pub halt : Target → Bool → (HowStopped → Plan) → Plan
halt target transient rest = ask (op.BeginStop target transient) (after_begin_stop rest)

-- it goes on after a stop, also after one whose section failed; any other refusal ends the plan as refused
abbrev pub even_if_its_section_failed : Plan → HowStopped → Plan
even_if_its_section_failed rest not_stopped = stop refused
even_if_its_section_failed rest how = rest

-- it goes on after a stop that went well; any refusal ends the plan as refused
abbrev pub if_it_stopped : Plan → HowStopped → Plan
if_it_stopped rest (stopped begun) = rest
if_it_stopped rest how = stop refused

-- ---- starts and stops of several bundles, one after another, whatever comes of them

-- each bundle is started for now, and what comes of it does not count
abbrev pub start_all : List BundleId → Plan → Plan
start_all [] rest = rest
start_all (b ∷ more) rest = start (Id b) true (λ bad. start_all more rest)

-- each bundle is stopped for now; `goes` says what comes of each stop
abbrev pub halt_each : (Plan → HowStopped → Plan) → List BundleId → Plan → Plan
halt_each goes [] rest = rest
halt_each goes (b ∷ more) rest = halt (Id b) true (goes (halt_each goes more rest))

-- and what comes of it does not count
abbrev pub halt_all : List BundleId → Plan → Plan
halt_all bundles rest = halt_each (λ more how. more) bundles rest

-- ---- update: the bundle is stopped for now, updated, and, where there was something to stop, started for now, be the update refused or not

abbrev pub restart : BundleId → Bool → Bool → Plan
restart bundle true bad = start (Id bundle) true (λ worse. stop (end_of (bad || worse)))
restart bundle false bad = stop (end_of bad)

abbrev pub updating : BundleId → List ℕ → Bool → Plan
updating bundle location begun = ask (op.Update bundle location) (λ reply. restart bundle begun (is_refusal reply))

-- a stop that was refused for another reason than its section ends the plan before the update
abbrev pub after_stop_to_update : BundleId → List ℕ → HowStopped → Plan
after_stop_to_update bundle location (stopped begun) = updating bundle location begun
after_stop_to_update bundle location section_failed = updating bundle location true
after_stop_to_update bundle location not_stopped = stop refused

-- ---- refresh: its active members are stopped for now, the wirings go, and these members are started for now in the opposite order. A stop whose
-- section alone failed does not end it, nor does a start

abbrev pub stop_members : List BundleId → Plan → Plan
stop_members bundles rest = halt_each even_if_its_section_failed bundles rest

abbrev pub after_begin_refresh : Reply → Plan
after_begin_refresh (answer.Closure all active) =
    stop_members active (ask op.DropWirings (λ reply. unless_refused reply (start_all (reverse active) (one op.EndRefresh))))
after_begin_refresh reply = after_one reply

-- ---- level: upwards each next level is reached, and then what it starts is started for now; downwards what stands on each level is stopped for now,
-- and then the level below it is reached. What comes of these starts and stops does not count

abbrev pub to_start : Reply → List BundleId
to_start (answer.Moved bundles) = bundles
to_start reply = []

abbrev pub to_stop : Reply → List BundleId
to_stop (answer.Ids bundles) = bundles
to_stop reply = []

-- a refused move to a level ends the walk
abbrev pub or_end_the_walk : Reply → Plan → Plan
or_end_the_walk (answer.Refused refusal) rest = one op.EndLevel
or_end_the_walk reply rest = rest

-- so many levels up, from this one
abbrev pub climb : ℕ → ℕ → Plan
climb zero level = one op.EndLevel
climb (suc more) level = ask (op.MoveLevel (level + 1)) (λ reply. or_end_the_walk reply (start_all (to_start reply) (climb more (level + 1))))

-- so many levels down
abbrev pub descend : ℕ → ℕ → Plan
descend zero level = one op.EndLevel
descend (suc more) level =
    ask (op.ListLevel level) (λ listed. unless_refused listed
    (halt_all (to_stop listed) (ask (op.MoveLevel (level - 1)) (λ reply. or_end_the_walk reply (descend more (level - 1))))))

abbrev pub after_begin_level : Reply → Plan
after_begin_level (answer.Level from to) = if nat_lt to from then descend (from - to) from else climb (to - from) from
after_begin_level reply = after_one reply

-- ---- blevel: the level is set; a bundle that is up while its level is above the active one is stopped for now first, and the level set once
-- more; one that may run now is started for now

-- an `Up` that is answered once more ends the plan
abbrev pub after_last_level_set : BundleId → Reply → Plan
after_last_level_set bundle (answer.Leveled true) = start (Id bundle) true (λ bad. stop (end_of bad))
after_last_level_set bundle reply = after_one reply

abbrev pub after_level_set : BundleId → ℕ → Reply → Plan
after_level_set bundle level (answer.Up up) = halt (Id bundle) true (if_it_stopped (ask (op.SetBundleLevel bundle level) (after_last_level_set bundle)))
after_level_set bundle level reply = after_last_level_set bundle reply

-- ---- what a statement's variable is bound to: the service that was registered, or found

abbrev pub after_register : Reply → Plan
after_register (answer.Service service) = stop (bound (Some service))
after_register reply = after_one reply

abbrev pub after_find : Reply → Plan
after_find (answer.Best found) = stop (bound found)
after_find reply = after_one reply

-- ---- load and get

-- a bundle that waited for the class is started, and what comes of that does not end the plan
abbrev pub after_load : Reply → Plan
after_load (answer.LoadedMore by wire (Some bundle)) = start (Id bundle) true (λ bad. stop done)
after_load reply = after_one reply

-- the console resolves the bundle first; a script loads from its own, which is resolved
abbrev pub load : BundleId → BundleId → List ℕ → Plan
load owner bundle class =
    if owner.0 == 0 then ask (op.Resolve bundle) (λ reply. unless_refused reply (ask (op.Load bundle class) after_load)) else ask (op.Load bundle class) after_load

-- an object that is to be made is made by a section
abbrev pub after_get : Reply → Plan
after_get (answer.Make owner row name) = run row owner (section.Make name) (λ fails. one (op.EndMake fails))
after_get reply = after_one reply

-- the plan of a command that the owner runs
abbrev pub plan : BundleId → Command → Plan
plan owner (command.Register classes object properties) = ask (op.Register owner classes object Singleton properties) after_register
plan owner (command.Modify service properties) = one (op.Modify owner service properties)
plan owner (command.Unregister service) = one (op.Unregister owner service)
plan owner (command.Find class filter) = ask (op.Find owner class filter) after_find
plan owner (command.FindAll class filter) = one (op.FindAll owner class filter)
plan owner (command.Get service) = ask (op.Get owner service) after_get
plan owner (command.GetOwn service) = ask (op.GetOwn owner service) after_get
plan owner (command.UngetOwn service object) = one (op.UngetOwn owner service object)
plan owner (command.Factory classes scope name properties) = ask (op.Register owner classes name scope properties) after_register
plan owner (command.Give text) = one (op.Give owner text)
plan owner (command.Peek class filter) = stop done
plan owner (command.StartLazy bundle) = start_lazy bundle (λ bad. stop (end_of bad))
plan owner (command.Unget service) = one (op.Unget owner service)
plan owner (command.Start target transient) = start target transient (λ bad. stop (end_of bad))
plan owner (command.Stop target transient) = halt target transient (if_it_stopped (stop done))
plan owner (command.Load bundle class) = load owner bundle class
plan owner (command.Install location) = one (op.Install location)
plan owner (command.Update bundle location) = halt (Id bundle) true (after_stop_to_update bundle location)
plan owner (command.Uninstall bundle) = halt (Id bundle) true (even_if_its_section_failed (one (op.Uninstall bundle)))
plan owner (command.Resolve bundle) = one (op.Resolve bundle)
plan owner (command.Refresh bundles) = ask (op.BeginRefresh bundles) after_begin_refresh
plan owner (command.Wires bundle) = one (op.ListWires bundle)
plan owner (command.Level level) = ask (op.BeginLevel level) after_begin_level
plan owner (command.BundleLevel bundle level) = ask (op.SetBundleLevel bundle level) (after_level_set bundle level)
plan owner command.Bundles = one op.ListBundles
plan owner command.Services = one op.ListServices
plan owner (command.Listen name kind filter) = one (op.AddListener owner name kind filter)
plan owner (command.Unlisten name) = one (op.RemoveListener owner name)
plan owner (command.Job name) = one (op.QueueJob owner name)
plan owner (command.Print text) = one (op.Print owner text)
plan owner (command.Fail text) = ask (op.Fail owner text) (λ reply. unless_refused reply (stop failed))
