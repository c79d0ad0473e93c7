-- The ids of one kind, or those of two as one list.
use Rattle.std.proofs.Common.{◌≡◌, ap, inl, inr, ◌∙◌}
use Rattle.std.specs.Prelude.{◌||◌, filter}
use Rattle.osgi_listeners.specs.Rows.{ids_of, is_kind}
use Rattle.osgi_ops.specs.declared.kind.Kind.TheVariants as kind
use Rattle.osgi_sights.specs.computed.Asking.{merged}
use Rattle.osgi_sights.proofs.Merging.{merged-nil, merged-services}
use Rattle.osgi_sights.proofs.askers.askers.Goals as goal

pub returns-in-Bundle : goal.returns-in-Bundle
returns-in-Bundle c = record { askers = rw c.in-Bundle.is (c.new.ensures.merged ∙ merged-nil c.of_kind.result.now ∙ c.of_kind.ensures.of_kind); in_order = c.of_kind.ensures.in_order }

pub returns-in-Framework : goal.returns-in-Framework
returns-in-Framework c = record { askers = rw c.in-Framework.is (c.new-in-Framework.ensures.merged ∙ merged-nil c.of_kind-in-Framework.result.now ∙ c.of_kind-in-Framework.ensures.of_kind); in_order = c.of_kind-in-Framework.ensures.in_order }

pub returns-in-Service : goal.returns-in-Service
returns-in-Service c = record { askers = elim c.in-Service.is [ inl is ↦ rw is.2 same | inr is ↦ rw is.2 same ]; in_order = c.of_kind-in-Service.ensures.in_order }
  where
    same : c.new-in-Service.result ≡ ids_of (filter (λ row. is_kind kind.Service row || is_kind kind.All row) c.args.listeners.now.rows)
    same = c.new-in-Service.ensures.merged ∙ ap (λ ids. merged ids c.of_kind-in-Service-2.result.now) c.of_kind-in-Service.ensures.of_kind
        ∙ ap (λ ids. merged (ids_of (filter (is_kind kind.Service) c.args.listeners.now.rows)) ids) c.of_kind-in-Service-2.ensures.of_kind
        ∙ merged-services c.args.listeners.now c.of_kind-in-Service.ensures.in_order
