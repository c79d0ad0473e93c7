-- At each moment of a legal history an operation has one reply.
use Rattle.std.proofs.Common.{◌≡◌, ℕ, Bool, true, false, List, refl, sym, ap, ◌∙◌}
use Rattle.std.specs.Prelude.{Option, None, Some}
use Rattle.osgi_base.specs.Verdict.{answers, refuses, Verdict}
use Rattle.osgi_base.specs.declared.ids.BundleId.{BundleId}
use Rattle.osgi_legal.proofs.Verdicts.{EachIsOne, IsOne, verdict-one, where-one}
use Rattle.osgi_ops.specs.Bundles.{Bundle, bundle_from, is_changing, is_up}
use Rattle.osgi_legal.specs.Legal.{IsTold}
use Rattle.osgi_ops.specs.Moments.{Moment}
use Rattle.osgi_legal.specs.Operations.{Answers, conditions, IsReply, IsRow}
use Rattle.osgi_ops.specs.Replies.{verdict}
use Rattle.osgi_ops.specs.Resolved.{is_resolved}
use Rattle.osgi_legal.specs.Stages.{is_here}
use Rattle.osgi_ops.specs.declared.op.Op.{Op}
use Rattle.osgi_ops.specs.declared.op.Op.TheVariants as op
use Rattle.osgi_ops.specs.declared.refusal.Refusal.{Refusal}
use Rattle.osgi_ops.specs.declared.reply.Reply.{Reply}
use Rattle.osgi_ops.specs.declared.reply.Reply.TheVariants.{Refused}
use Rattle.osgi_legal.specs.laws.Stages.{here-row, late-refused}
use Rattle.osgi_ops.specs.rows.Bundles.{install_refusals, unresolved_refusals}
use Rattle.osgi_verdicts.proofs.Bundles.{over_budget-one, resolve-one, unresolvable-one}
use Rattle.osgi_verdicts.proofs.Chosen.{lowest-one}
use Rattle.osgi_verdicts.proofs.Conditions.{change-one, duplicate-one, make-one, making-one, owner-one, read-one, refreshing-one, target-one, with-one}
use Rattle.osgi_verdicts.proofs.Events.{hand-one}
use Rattle.osgi_verdicts.proofs.Levels as levels
use Rattle.osgi_verdicts.proofs.Life.{stop-one, wish-one}
use Rattle.osgi_verdicts.proofs.Lists.{wires-one}
use Rattle.osgi_verdicts.proofs.Loading.{load-one}
use Rattle.osgi_verdicts.proofs.Refreshes as refresh
use Rattle.osgi_verdicts.proofs.Services.{end_make-one, find-one, find_all-one, get-one}

-- ---- conditions

install-each : (now : Moment) → IsTold now → (known : Option Bundle) (location : List ℕ) → EachIsOne (install_refusals known now location)
install-each now told (Some known) location = tt
install-each now told None location = (read-one now location, (duplicate-one now told None location, (where-one _ _, tt)))

resolve-each : (resolved : Bool) (now : Moment) (bundle : BundleId) → EachIsOne (unresolved_refusals resolved now bundle)
resolve-each true now bundle = tt
resolve-each false now bundle = (refreshing-one now _, (unresolvable-one now bundle, (over_budget-one now bundle, tt)))

-- each condition of an operation, whether it has come or not, calls for one refusal at most
each-one : (now : Moment) → IsTold now → (o : Op) → EachIsOne (conditions now o)
each-one now told (op.Register owner classes object scope properties) = (where-one _ _, (where-one _ _, (where-one _ _, (where-one _ _, (where-one _ _, tt)))))
each-one now told (op.Modify owner service properties) = (where-one _ _, (where-one _ _, (where-one _ _, (owner-one now owner service, (where-one _ _, tt)))))
each-one now told (op.Unregister owner service) = (where-one _ _, (where-one _ _, (where-one _ _, (owner-one now owner service, tt))))
each-one now told (op.Find asker class filter) = (where-one _ _, (where-one _ _, tt))
each-one now told (op.FindAll asker class filter) = (where-one _ _, (where-one _ _, tt))
each-one now told (op.Get user service) = (where-one _ _, (where-one _ _, (where-one _ _, (with-one _ _ (making-one now user service), (where-one _ _, tt)))))
each-one now told (op.GetOwn user service) = (where-one _ _, (where-one _ _, (where-one _ _, (with-one _ _ (making-one now user service), (where-one _ _, tt)))))
each-one now told (op.EndMake failed) =
    (where-one _ _, (where-one _ _, (make-one now _ (λ m. where-one _ _), (make-one now _ (λ m. where-one _ _), (make-one now _ (λ m. where-one _ _), tt)))))
each-one now told (op.Give owner text) = (where-one _ _, (where-one _ _, (where-one _ _, tt)))
each-one now told (op.UngetOwn user service object) = (where-one _ _, (where-one _ _, (where-one _ _, (where-one _ _, tt))))
each-one now told (op.Await bundle) = (where-one _ _, (where-one _ _, (refreshing-one now _, (change-one is_changing now bundle, tt))))
each-one now told (op.Unget user service) = (where-one _ _, (where-one _ _, tt))
each-one now told (op.AddListener owner name kind filter) = (where-one _ _, (where-one _ _, (where-one _ _, (where-one _ _, tt))))
each-one now told (op.RemoveListener owner name) = (where-one _ _, (where-one _ _, tt))
each-one now told op.Hand = (where-one _ _, (where-one _ _, tt))
each-one now told (op.EndHand listener) = (where-one _ _, tt)
each-one now told (op.QueueJob owner name) = (where-one _ _, (where-one _ _, (where-one _ _, tt)))
each-one now told op.TakeJob = (where-one _ _, tt)
each-one now told op.EndJob = (where-one _ _, tt)
each-one now told (op.Print owner text) = (where-one _ _, (where-one _ _, tt))
each-one now told (op.Fail owner text) = (where-one _ _, (where-one _ _, tt))
each-one now told (op.Install location) = install-each now told (bundle_from now.setting.depot now.before location) location
each-one now told (op.Resolve bundle) = (where-one _ _, (where-one _ _, resolve-each (is_resolved now.world bundle) now bundle))
each-one now told (op.WishStart target transient) =
    (where-one _ _, (target-one now target _ (λ b. where-one _ _), (target-one now target _ (change-one is_changing now), (target-one now target _ (λ b. where-one _ _), tt))))
each-one now told (op.BeginStart bundle transient) =
    (where-one _ _, (where-one _ _, (refreshing-one now _, (change-one is_changing now bundle, (where-one _ _, (where-one _ _, tt))))))
each-one now told (op.EndStart bundle failed) = (where-one _ _, (where-one _ _, tt))
each-one now told (op.BeginStop target transient) = (
  where-one _ _,
  (
    target-one now target _ (λ b. where-one _ _),
    (
      target-one now target _ (λ b. refreshing-one now _),
      (
        target-one now target _ (change-one is_changing now),
        (target-one now target _ (λ b. where-one _ _), tt),
      ),
    ),
  ),
)
each-one now told (op.EndStop bundle failed) = (where-one _ _, (where-one _ _, tt))
each-one now told (op.Update bundle location) =
    (where-one _ _, (where-one _ _, (refreshing-one now _, (change-one is_up now bundle, (read-one now location, (duplicate-one now told (Some bundle) location, tt))))))
each-one now told (op.Uninstall bundle) = (where-one _ _, (where-one _ _, (refreshing-one now _, (change-one is_up now bundle, tt))))
each-one now told (op.BeginRefresh named) = (where-one _ _, (where-one _ _, (refreshing-one now _, (lowest-one is_changing now _, tt))))
each-one now told op.DropWirings = refresh.drop-each now
each-one now told op.EndRefresh = (where-one _ _, tt)
each-one now told (op.BeginLevel target) = levels.begin-each now target
each-one now told (op.ListLevel level) = tt
each-one now told (op.MoveLevel to) = levels.move-each now to
each-one now told op.EndLevel = (where-one _ _, tt)
each-one now told (op.SetBundleLevel bundle level) = (where-one _ _, (where-one _ _, (change-one is_changing now bundle, tt)))
each-one now told (op.Load bundle class) = (where-one _ _, (where-one _ _, (with-one _ _ (refreshing-one now _), tt)))
each-one now told op.ListBundles = tt
each-one now told op.ListServices = tt
each-one now told (op.ListWires bundle) = (where-one _ _, tt)

-- ---- answers

answer-one : (now : Moment) → IsTold now → (o : Op) → IsOne (Answers now o)
answer-one now told (op.Register owner classes object scope properties) y z a b = a ∙ sym b
answer-one now told (op.Modify owner service properties) y z a b = a ∙ sym b
answer-one now told (op.Unregister owner service) y z a b = a ∙ sym b
answer-one now told (op.Find asker class filter) y z a b = find-one now asker class filter y z a b
answer-one now told (op.FindAll asker class filter) y z a b = find_all-one now class filter y z a b
answer-one now told (op.Get user service) y z a b = get-one now false user service y z a b
answer-one now told (op.GetOwn user service) y z a b = get-one now true user service y z a b
answer-one now told (op.EndMake failed) y z a b = end_make-one now y z a b
answer-one now told (op.Give owner text) y z a b = a ∙ sym b
answer-one now told (op.UngetOwn user service object) y z a b = a ∙ sym b
answer-one now told (op.Await bundle) y z a b = a ∙ sym b
answer-one now told (op.Unget user service) y z a b = a ∙ sym b
answer-one now told (op.AddListener owner name kind filter) y z a b = a ∙ sym b
answer-one now told (op.RemoveListener owner name) y z a b = a ∙ sym b
answer-one now told op.Hand y z a b = hand-one now y z a b
answer-one now told (op.EndHand listener) y z a b = a ∙ sym b
answer-one now told (op.QueueJob owner name) y z a b = a ∙ sym b
answer-one now told op.TakeJob y z a b = a ∙ sym b
answer-one now told op.EndJob y z a b = a ∙ sym b
answer-one now told (op.Print owner text) y z a b = a ∙ sym b
answer-one now told (op.Fail owner text) y z a b = a ∙ sym b
answer-one now told (op.Install location) y z a b = a ∙ sym b
answer-one now told (op.Resolve bundle) y z a b = resolve-one (is_resolved now.world bundle) now bundle y z a b
answer-one now told (op.WishStart target transient) y z a b = wish-one now target y z a b
answer-one now told (op.BeginStart bundle transient) y z a b = a ∙ sym b
answer-one now told (op.EndStart bundle failed) y z a b = a ∙ sym b
answer-one now told (op.BeginStop target transient) y z a b = stop-one now target y z a b
answer-one now told (op.EndStop bundle failed) y z a b = a ∙ sym b
answer-one now told (op.Update bundle location) y z a b = a ∙ sym b
answer-one now told (op.Uninstall bundle) y z a b = a ∙ sym b
answer-one now told (op.BeginRefresh named) y z a b = refresh.begin-one now named y z a b
answer-one now told op.DropWirings y z a b = refresh.drop-one now y z a b
answer-one now told op.EndRefresh y z a b = a ∙ sym b
answer-one now told (op.BeginLevel target) y z a b = a ∙ sym b
answer-one now told (op.ListLevel level) y z a b = levels.list-one now level y z a b
answer-one now told (op.MoveLevel to) y z a b = levels.move-one now to y z a b
answer-one now told op.EndLevel y z a b = a ∙ sym b
answer-one now told (op.SetBundleLevel bundle level) y z a b = a ∙ sym b
answer-one now told (op.Load bundle class) y z a b = load-one now told bundle class y z a b
answer-one now told op.ListBundles y z a b = a ∙ sym b
answer-one now told op.ListServices y z a b = a ∙ sym b
answer-one now told (op.ListWires bundle) y z a b = wires-one now bundle y z a b

-- ---- replies

-- the reply that a verdict is of
abbrev reply_of : Verdict Refusal Reply → Reply
reply_of (refuses refusal) = Refused refusal
reply_of (answers reply) = reply

reply-back : (y : Reply) → reply_of (verdict y) ≡ y
reply-back (Refused refusal) = refl
reply-back y = refl

-- of every operation, whether it has come or not, the row determines the reply
pub row-once : (now : Moment) → IsTold now → (o : Op) (y z : Reply) → IsRow now o y → IsRow now o z → y ≡ z
row-once now told o y z one other =
    let same : verdict y ≡ verdict z = verdict-one (conditions now o) (Answers now o) (each-one now told o) (answer-one now told o) (verdict y) (verdict z) one other in
    sym (reply-back y) ∙ ap reply_of same ∙ reply-back z

-- so an operation has one reply: that of its row, or this refusal while it has not come
pub reply-once : (now : Moment) → IsTold now → (o : Op) (y z : Reply) → IsReply now o y → IsReply now o z → y ≡ z
reply-once now told o y z one other = go (is_here o) refl
  where
    go : (here : Bool) → is_here o ≡ here → y ≡ z
    go true h = row-once now told o y z (here-row now o y h one) (here-row now o z h other)
    go false h = late-refused now o y h one ∙ sym (late-refused now o z h other)
