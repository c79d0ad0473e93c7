-- The host is; another one is where it clashes.
use Rattle.std.proofs.Common.{inl, inr, refl}
use Rattle.osgi_resolver_hopeless.proofs.Answering.{refuted}
use Rattle.osgi_resolver_hopeless.proofs.concerned.is_touched.Goals as goal

pub returns-then-revision-host : goal.returns-then-revision-host
returns-then-revision-host c = record { touched = λ either. refl }

pub returns : goal.returns
returns c = record {
  touched = λ either. elim either [
    | inl same ↦ absurd (c.if-revision-host.false same)
    | inr clash ↦ refuted _ c.in_ok-are_kept.ensures.uses clash
  ];
}
