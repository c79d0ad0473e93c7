-- What each operation answers: its refusals in order, each with its condition, and its answer.
use Rattle.std.specs.Prelude.{◌≡◌, true, false, List, ◌++◌, MatchBool}
use Rattle.osgi_base.specs.Verdict.{Gives}
use Rattle.osgi_ops.specs.Bundles.{bundle_from}
use Rattle.osgi_ops.specs.Conditions.{asker_conditions, asker_of}
use Rattle.osgi_ops.specs.Moments.{Moment}
use Rattle.osgi_ops.specs.Replies.{verdict}
use Rattle.osgi_legal.specs.Stages.{dynamics_here, factories_here, is_here}
use Rattle.osgi_ops.specs.rows.Bundles.{InstallAnswers, install_refusals, LoadAnswers, load_refusals, ResolveAnswers, resolve_refusals, UninstallAnswers, uninstall_refusals, UpdateAnswers, update_refusals}
use Rattle.osgi_ops.specs.rows.Events.{AddListenerAnswers, add_listener_refusals, EndHandAnswers, end_hand_refusals, HandAnswers, hand_refusals, RemoveListenerAnswers, remove_listener_refusals}
use Rattle.osgi_ops.specs.rows.Jobs.{EndJobAnswers, end_job_refusals, FailAnswers, fail_refusals, PrintAnswers, print_refusals, QueueJobAnswers, queue_job_refusals, TakeJobAnswers, take_job_refusals}
use Rattle.osgi_ops.specs.rows.Levels.{BeginLevelAnswers, begin_level_refusals, EndLevelAnswers, end_level_refusals, ListLevelAnswers, list_level_refusals, MoveLevelAnswers, move_level_refusals, SetBundleLevelAnswers, set_bundle_level_refusals}
use Rattle.osgi_ops.specs.rows.Life.{AwaitAnswers, await_refusals, BeginStartAnswers, begin_start_refusals, BeginStopAnswers, begin_stop_refusals, EndStartAnswers, end_start_refusals, EndStopAnswers, end_stop_refusals, WishStartAnswers, wish_start_refusals}
use Rattle.osgi_ops.specs.rows.Lists.{ListBundlesAnswers, list_bundles_refusals, ListServicesAnswers, list_services_refusals, ListWiresAnswers, list_wires_refusals}
use Rattle.osgi_ops.specs.rows.Refresh.{BeginRefreshAnswers, begin_refresh_refusals, DropWiringsAnswers, drop_wirings_refusals, EndRefreshAnswers, end_refresh_refusals}
use Rattle.osgi_ops.specs.rows.Services.{EndMakeAnswers, end_make_refusals, FindAllAnswers, find_all_refusals, FindAnswers, find_refusals, GetAnswers, get_refusals, GiveAnswers, give_refusals, ModifyAnswers, modify_refusals, RegisterAnswers, register_refusals, UngetAnswers, unget_refusals, UngetOwnAnswers, unget_own_refusals, UnregisterAnswers, unregister_refusals}
use Rattle.osgi_ops.specs.declared.op.Op.{Op}
use Rattle.osgi_ops.specs.declared.op.Op.TheVariants as op
use Rattle.osgi_ops.specs.declared.refusal.Refusal.{Refusal}
use Rattle.osgi_ops.specs.declared.refusal.Refusal.TheVariants.{InvalidOperation}
use Rattle.osgi_ops.specs.declared.reply.Reply.{Reply}
use Rattle.osgi_ops.specs.declared.reply.Reply.TheVariants as answer

-- the refusals that are an operation's own, in order, each where its condition holds
abbrev pub own_conditions : Moment → Op → List (Refusal → Type 0)
own_conditions now (op.Register owner classes object scope properties) = register_refusals factories_here now owner scope properties
own_conditions now (op.Modify owner service properties) = modify_refusals now owner service properties
own_conditions now (op.Unregister owner service) = unregister_refusals now owner service
own_conditions now (op.Find asker class filter) = find_refusals
own_conditions now (op.FindAll asker class filter) = find_all_refusals
own_conditions now (op.Get user service) = get_refusals now false user service
own_conditions now (op.GetOwn user service) = get_refusals now true user service
own_conditions now (op.EndMake failed) = end_make_refusals now failed
own_conditions now (op.Give owner text) = give_refusals now owner
own_conditions now (op.UngetOwn user service object) = unget_own_refusals now user service object
own_conditions now (op.Unget user service) = unget_refusals
own_conditions now (op.AddListener owner name kind filter) = add_listener_refusals now owner name
own_conditions now (op.RemoveListener owner name) = remove_listener_refusals
own_conditions now op.Hand = hand_refusals now
own_conditions now (op.EndHand listener) = end_hand_refusals now listener
own_conditions now (op.QueueJob owner name) = queue_job_refusals now
own_conditions now op.TakeJob = take_job_refusals now
own_conditions now op.EndJob = end_job_refusals now
own_conditions now (op.Print owner text) = print_refusals
own_conditions now (op.Fail owner text) = fail_refusals
own_conditions now (op.Install location) = install_refusals (bundle_from now.setting.depot now.before location) now location
own_conditions now (op.Resolve bundle) = resolve_refusals now bundle
own_conditions now (op.WishStart target transient) = wish_start_refusals now target transient
own_conditions now (op.BeginStart bundle transient) = begin_start_refusals now bundle transient
own_conditions now (op.Await bundle) = await_refusals now bundle
own_conditions now (op.EndStart bundle failed) = end_start_refusals now bundle failed
own_conditions now (op.BeginStop target transient) = begin_stop_refusals now target
own_conditions now (op.EndStop bundle failed) = end_stop_refusals now bundle failed
own_conditions now (op.Update bundle location) = update_refusals now bundle location
own_conditions now (op.Uninstall bundle) = uninstall_refusals now bundle
own_conditions now (op.BeginRefresh named) = begin_refresh_refusals now named
own_conditions now op.DropWirings = drop_wirings_refusals now
own_conditions now op.EndRefresh = end_refresh_refusals now
own_conditions now (op.BeginLevel target) = begin_level_refusals now target
own_conditions now (op.ListLevel level) = list_level_refusals
own_conditions now (op.MoveLevel to) = move_level_refusals now to
own_conditions now op.EndLevel = end_level_refusals now
own_conditions now (op.SetBundleLevel bundle level) = set_bundle_level_refusals now bundle level
own_conditions now (op.Load bundle class) = load_refusals dynamics_here now bundle class
own_conditions now op.ListBundles = list_bundles_refusals
own_conditions now op.ListServices = list_services_refusals
own_conditions now (op.ListWires bundle) = list_wires_refusals now bundle

-- the refusals of an operation in order: those of who asks, and its own
abbrev pub conditions : Moment → Op → List (Refusal → Type 0)
conditions now o = asker_conditions now (asker_of o) ++ own_conditions now o

-- the answer of an operation that is not refused
abbrev pub Answers : Moment → Op → Reply → Type 0
Answers now (op.Register owner classes object scope properties) reply = RegisterAnswers now reply
Answers now (op.Modify owner service properties) reply = ModifyAnswers reply
Answers now (op.Unregister owner service) reply = UnregisterAnswers reply
Answers now (op.Find asker class filter) reply = FindAnswers now asker class filter reply
Answers now (op.FindAll asker class filter) reply = FindAllAnswers now class filter reply
Answers now (op.Get user service) reply = GetAnswers now false user service reply
Answers now (op.GetOwn user service) reply = GetAnswers now true user service reply
Answers now (op.EndMake failed) reply = EndMakeAnswers now reply
Answers now (op.Give owner text) reply = GiveAnswers reply
Answers now (op.UngetOwn user service object) reply = UngetOwnAnswers reply
Answers now (op.Unget user service) reply = UngetAnswers now user service reply
Answers now (op.AddListener owner name kind filter) reply = AddListenerAnswers now reply
Answers now (op.RemoveListener owner name) reply = RemoveListenerAnswers now owner name reply
Answers now op.Hand reply = HandAnswers now reply
Answers now (op.EndHand listener) reply = EndHandAnswers reply
Answers now (op.QueueJob owner name) reply = QueueJobAnswers reply
Answers now op.TakeJob reply = TakeJobAnswers now reply
Answers now op.EndJob reply = EndJobAnswers reply
Answers now (op.Print owner text) reply = PrintAnswers reply
Answers now (op.Fail owner text) reply = FailAnswers reply
Answers now (op.Install location) reply = InstallAnswers now location reply
Answers now (op.Resolve bundle) reply = ResolveAnswers now bundle reply
Answers now (op.WishStart target transient) reply = WishStartAnswers now target reply
Answers now (op.BeginStart bundle transient) reply = BeginStartAnswers now bundle reply
Answers now (op.Await bundle) reply = AwaitAnswers now bundle reply
Answers now (op.EndStart bundle failed) reply = EndStartAnswers reply
Answers now (op.BeginStop target transient) reply = BeginStopAnswers now target reply
Answers now (op.EndStop bundle failed) reply = EndStopAnswers reply
Answers now (op.Update bundle location) reply = UpdateAnswers reply
Answers now (op.Uninstall bundle) reply = UninstallAnswers reply
Answers now (op.BeginRefresh named) reply = BeginRefreshAnswers now named reply
Answers now op.DropWirings reply = DropWiringsAnswers now reply
Answers now op.EndRefresh reply = EndRefreshAnswers reply
Answers now (op.BeginLevel target) reply = BeginLevelAnswers now target reply
Answers now (op.ListLevel level) reply = ListLevelAnswers now level reply
Answers now (op.MoveLevel to) reply = MoveLevelAnswers now to reply
Answers now op.EndLevel reply = EndLevelAnswers reply
Answers now (op.SetBundleLevel bundle level) reply = SetBundleLevelAnswers now bundle level reply
Answers now (op.Load bundle class) reply = LoadAnswers dynamics_here now bundle class reply
Answers now op.ListBundles reply = ListBundlesAnswers now reply
Answers now op.ListServices reply = ListServicesAnswers now reply
Answers now (op.ListWires bundle) reply = ListWiresAnswers now bundle reply

-- the reply is the first refusal whose condition holds now, else the answer
abbrev pub IsRow : Moment → Op → Reply → Type 0
IsRow now op reply = Gives (conditions now op) (Answers now op) (verdict reply)

-- so of an operation that has come; any other is refused as an invalid operation
abbrev pub IsReply : Moment → Op → Reply → Type 0
IsReply now op reply = MatchBool (is_here op) (IsRow now op reply) (reply ≡ answer.Refused InvalidOperation)
