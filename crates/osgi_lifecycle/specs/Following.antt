-- What comes after each step of a plan, as the code keeps it.
use Rattle.std.specs.Prelude.{ℕ, ◌-◌, ◌||◌, Bool, false, List, drop, reverse}
use Rattle.osgi_base.specs.declared.ids.BundleId.{BundleId}
use Rattle.osgi_ops.specs.Replies.{is_refusal}
use Rattle.osgi_ops.specs.declared.op.Op.TheVariants as op
use Rattle.osgi_ops.specs.declared.reply.Reply.{Reply}
use Rattle.osgi_session.specs.Plans as plans
use Rattle.osgi_session.specs.Plans.{Plan, ask, run, stop, end_of}
use Rattle.osgi_lifecycle.specs.declared.at.AfterStart.{AfterStart}
use Rattle.osgi_lifecycle.specs.declared.at.AfterStart.TheVariants as on_start
use Rattle.osgi_lifecycle.specs.declared.at.AfterStop.{AfterStop}
use Rattle.osgi_lifecycle.specs.declared.at.AfterStop.TheVariants as on_stop
use Rattle.osgi_lifecycle.specs.declared.at.At.{At}
use Rattle.osgi_lifecycle.specs.declared.at.At.TheVariants as at
use Rattle.osgi_lifecycle.specs.declared.at.HowStopped as declared
use Rattle.osgi_lifecycle.specs.declared.at.HowStopped.TheVariants as how
use Rattle.osgi_lifecycle.specs.declared.head.End.{End}
use Rattle.osgi_lifecycle.specs.declared.head.End.TheVariants as end
use Rattle.osgi_lifecycle.specs.declared.head.Head.{Head}
use Rattle.osgi_lifecycle.specs.declared.head.Head.TheVariants as head
use Rattle.osgi_lifecycle.specs.declared.kept.Kept.{Kept}
use Rattle.osgi_lifecycle.specs.declared.rest.Rest.{Rest}

abbrev pub end_in : End → plans.End
end_in end.Done = plans.done
end_in (end.Bound service) = plans.bound service
end_in end.Refused = plans.refused
end_in end.Failed = plans.failed

abbrev pub stop_in : declared.HowStopped → plans.HowStopped
stop_in (how.Stopped begun) = plans.stopped begun
stop_in how.SectionFailed = plans.section_failed
stop_in how.NotStopped = plans.not_stopped

abbrev pub after_fail : Reply → Plan
after_fail reply = plans.unless_refused reply (stop plans.failed)

abbrev pub after_drop : List BundleId → Reply → Plan
after_drop active reply = plans.unless_refused reply (plans.start_all (reverse active) (plans.one op.EndRefresh))

-- the bundles that are left to start or stop, from the next on
abbrev pub ahead : Kept → List BundleId
ahead kept = drop kept.place kept.bundles.items

-- the bundles that are left to stop are stopped, and the refresh goes on
abbrev pub stopping_members : Kept → Plan
stopping_members kept = plans.stop_members (ahead kept) (ask op.DropWirings (after_drop kept.bundles.items))

-- the bundles that are left to start are started, from the last on, and the refresh ends
abbrev pub starting_members : Kept → Plan
starting_members kept = plans.start_all (reverse kept.bundles.items) (plans.one op.EndRefresh)

-- the bundles that are left to start are started, and the way goes on up from this level
abbrev pub starting_level : ℕ → ℕ → Kept → Plan
starting_level level to kept = plans.start_all (ahead kept) (plans.climb (to - level) level)

abbrev pub after_move_down : ℕ → ℕ → Reply → Plan
after_move_down level to reply = plans.or_end_the_walk reply (plans.descend (level - to) level)

-- the bundles that are left to stop are stopped, and the way goes on down to this level
abbrev pub stopping_level : ℕ → ℕ → Kept → Plan
stopping_level level to kept = plans.halt_all (ahead kept) (ask (op.MoveLevel level) (after_move_down level to))

abbrev pub after_start : AfterStart → Kept → Bool → Plan
after_start (on_start.End before) kept bad = stop (end_of (before || bad))
after_start on_start.Loaded kept bad = stop plans.done
after_start on_start.Refresh kept bad = starting_members kept
after_start (on_start.Climb level to) kept bad = starting_level level to kept

abbrev pub after_stop : AfterStop → Kept → plans.HowStopped → Plan
after_stop on_stop.End kept how = plans.if_it_stopped (stop plans.done) how
after_stop (on_stop.Update bundle) kept how = plans.after_stop_to_update bundle kept.text how
after_stop (on_stop.Uninstall bundle) kept how = plans.even_if_its_section_failed (plans.one (op.Uninstall bundle)) how
after_stop on_stop.Refresh kept how = plans.even_if_its_section_failed (stopping_members kept) how
after_stop (on_stop.Descend level to) kept how = stopping_level level to kept
after_stop (on_stop.SetLevel bundle level) kept how = plans.if_it_stopped (ask (op.SetBundleLevel bundle level) (plans.after_last_level_set bundle)) how

-- what comes after the reply for which the plan waits
abbrev pub after_reply : At → Kept → Reply → Plan
after_reply at.Only kept reply = plans.after_one reply
after_reply at.Register kept reply = plans.after_register reply
after_reply at.Find kept reply = plans.after_find reply
after_reply at.Fail kept reply = after_fail reply
after_reply at.Get kept reply = plans.after_get reply
after_reply at.WishLazy kept reply = plans.after_wish_lazy (after_start (on_start.End false) kept) reply
after_reply (at.ResolveLazy bundle) kept reply = plans.after_resolve_lazy bundle (after_start (on_start.End false) kept) reply
after_reply (at.Await bundle) kept reply = plans.after_await bundle (after_start (on_start.End false) kept) reply
after_reply (at.WishStart transient after) kept reply = plans.after_wish transient (after_start after kept) reply
after_reply (at.Resolve bundle transient after) kept reply = plans.after_resolve bundle transient (after_start after kept) reply
after_reply (at.BeginStart bundle after) kept reply = plans.after_begin_start bundle (after_start after kept) reply
after_reply (at.EndStart after) kept reply = plans.after_end_start (after_start after kept) reply
after_reply (at.BeginStop after) kept reply = plans.after_begin_stop (after_stop after kept) reply
after_reply (at.EndStop after) kept reply = plans.after_end_stop (after_stop after kept) reply
after_reply (at.LoadResolve bundle) kept reply = plans.unless_refused reply (ask (op.Load bundle kept.text) plans.after_load)
after_reply at.Load kept reply = plans.after_load reply
after_reply (at.Update bundle again) kept reply = plans.restart bundle again (is_refusal reply)
after_reply at.BeginRefresh kept reply = plans.after_begin_refresh reply
after_reply at.DropWirings kept reply = after_drop kept.bundles.items reply
after_reply at.BeginLevel kept reply = plans.after_begin_level reply
after_reply (at.MoveUp level to) kept reply = plans.or_end_the_walk reply (plans.start_all (plans.to_start reply) (plans.climb (to - level) level))
after_reply (at.ListLevel level to) kept reply =
    plans.unless_refused reply (plans.halt_all (plans.to_stop reply) (ask (op.MoveLevel level) (after_move_down level to)))
after_reply (at.MoveDown level to) kept reply = after_move_down level to reply
after_reply (at.SetLevel bundle level) kept reply = plans.after_level_set bundle level reply
after_reply (at.SetLevelAgain bundle) kept reply = plans.after_last_level_set bundle reply
after_reply (at.StartSection bundle after) kept reply = stop plans.refused
after_reply (at.StopSection bundle after) kept reply = stop plans.refused
after_reply at.MakeSection kept reply = stop plans.refused

-- what comes after the section whose end the plan waits for
abbrev pub after_section : At → Kept → Bool → Plan
after_section (at.StartSection bundle after) kept fails = ask (op.EndStart bundle fails) (plans.after_end_start (after_start after kept))
after_section (at.StopSection bundle after) kept fails = ask (op.EndStop bundle fails) (plans.after_end_stop (after_stop after kept))
after_section at.MakeSection kept fails = plans.one (op.EndMake fails)
after_section _ kept fails = stop plans.refused

-- what is left to do
abbrev pub left_of : Head → Rest → Plan
left_of (head.Ask asks) rest = ask asks (after_reply rest.at rest.kept)
left_of (head.Run row owner which) rest = run row owner which (after_section rest.at rest.kept)
left_of (head.Stop end) rest = stop (end_in end)
