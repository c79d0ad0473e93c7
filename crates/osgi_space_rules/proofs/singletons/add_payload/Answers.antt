-- The revision itself, then its fragments.
use Rattle.osgi_base.specs.computed.Texts.{text_cmp}
use Rattle.osgi_space_rules.specs.computed.Entries.{IsEntry}
use Rattle.osgi_space_rules.specs.computed.Growing.{HasEntry, AnyOf}
use Rattle.osgi_space_rules.proofs.OneValue.{extends_first_fails, extends_two}
use Rattle.osgi_space_rules.proofs.singletons.add_payload.Goals as goal

pub returns-then-not-branch : goal.returns-then-not-branch
returns-then-not-branch c =
    let K = c.args.known.now in
    let g = c.args.wiring.now in
    record {
      added = extends_first_fails (HasEntry text_cmp c.args.singletons.now) _ (HasEntry text_cmp c.add_singleton.new.singletons) (IsEntry K g.revision) (λ e. AnyOf (λ f. IsEntry K f e) g.fragments) c.in_ok-add_singleton.field-0 c.if-not-branch.true c.in_ok-add_singleton.ensures.added;
    }

pub returns : goal.returns
returns c =
    let K = c.args.known.now in
    let g = c.args.wiring.now in
    rw (← c.items-fragments.ensures.items) (record {
      added =
          extends_two (HasEntry text_cmp c.args.singletons.now) (HasEntry text_cmp c.add_singleton.new.singletons) (HasEntry text_cmp c.add_fragments.new.singletons) (IsEntry K g.revision) (λ e. AnyOf (λ f. IsEntry K f e) c.items-fragments.result.now) c.in_ok-add_fragments.field-0
          (c.in_ok-add_singleton.ensures.added.added c.if-not-branch.false) c.in_ok-add_fragments.ensures.added;
    })
