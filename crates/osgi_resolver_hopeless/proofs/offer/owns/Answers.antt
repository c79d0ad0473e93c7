-- The revision itself, or one of its fragments.
use Rattle.std.proofs.Common.{inl, inr}
use Rattle.osgi_resolver_hopeless.proofs.Answering.{yes}
use Rattle.osgi_resolver_hopeless.proofs.offer.owns.Goals as goal

pub returns-then-owner-revision : goal.returns-then-owner-revision
returns-then-owner-revision c = record { owns = yes (inl c.if-owner-revision.true) }

pub returns : goal.returns
returns c = record {
  owns = (
    λ t. inr (c.is_attached.ensures.attached.0 t),
    λ either. elim either [ inl e ↦ absurd (c.if-owner-revision.false e) | inr a ↦ c.is_attached.ensures.attached.1 a ],
  );
}
