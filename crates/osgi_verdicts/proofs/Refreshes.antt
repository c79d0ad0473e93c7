-- What the operations of a refresh answer, and why a drop is refused, is determined.
use Rattle.std.proofs.Common.{◌≡◌, true, List, sym, ap, ◌∙◌, subst}
use Rattle.std.specs.Prelude.{Some, Contains}
use Rattle.osgi_base.specs.declared.ids.BundleId.{BundleId}
use Rattle.osgi_legal.proofs.Verdicts.{EachIsOne, IsOne, where-one}
use Rattle.osgi_ops.specs.Bundles.{Active, is_up}
use Rattle.osgi_ops.specs.Closures.{IsAsked, Rises}
use Rattle.osgi_ops.specs.Conditions.{AreThose, IsOwnOpen, IsStopOrder, lowest_change, state_of}
use Rattle.osgi_ops.specs.Levels.{Refresh}
use Rattle.osgi_ops.specs.Moments.{Moment}
use Rattle.osgi_ops.specs.Resolved.{is_resolved}
use Rattle.osgi_ops.specs.declared.reply.Reply.TheVariants as answer
use Rattle.osgi_ops.specs.rows.Refresh.{BeginRefreshAnswers, DropWiringsAnswers, drop_wirings_refusals}
use Rattle.osgi_verdicts.proofs.Chosen.{closure-one, lowest-one, rising-one, stopped-one}

pub begin-one : (now : Moment) (named : List BundleId) → IsOne (BeginRefreshAnswers now named)
begin-one now named y z a b =
    let all : b.all ≡ a.all = closure-one now.world (IsAsked now.world named) b.all a.all b.closure a.closure in
    let there : AreThose (λ x. Contains a.all x × (state_of now x ≡ Active)) (IsStopOrder now) b.active =
    subst (λ (l : List BundleId). AreThose (λ x. Contains l x × (state_of now x ≡ Active)) (IsStopOrder now) b.active) all b.to_be_stopped in
    let active : a.active ≡ b.active = stopped-one now (λ x. Contains a.all x × (state_of now x ≡ Active)) a.active b.active a.to_be_stopped there in
    a.says ∙ (λ i. answer.Closure (sym all i) (active i)) ∙ sym b.says

own-one : (now : Moment) → IsOne (IsOwnOpen now)
own-one now r s a b = let same : Some r ≡ Some s = sym a.0 ∙ b.0 in cc same

pub drop-each : (now : Moment) → EachIsOne (drop_wirings_refusals now)
drop-each now = (
  where-one _ _,
  (
    (λ f g a b.
        lowest-one is_up now (λ x. Contains a.0.members x) f g a.2 (subst (λ (r : Refresh). lowest_change is_up now (λ x. Contains r.members x) g) (own-one now b.0 a.0 b.1 a.1) b.2)),
    tt,
  ),
)

pub drop-one : (now : Moment) → IsOne (DropWiringsAnswers now)
drop-one now y z a b =
    let there : AreThose (λ x. Contains a.refresh.members x × (is_resolved now.world x ≡ true)) Rises b.ids =
    subst (λ (r : Refresh). AreThose (λ x. Contains r.members x × (is_resolved now.world x ≡ true)) Rises b.ids) (own-one now b.refresh a.refresh b.own a.own) b.resolved in
    a.says ∙ ap answer.Ids (rising-one (λ x. Contains a.refresh.members x × (is_resolved now.world x ≡ true)) a.ids b.ids a.resolved there) ∙ sym b.says
