-- A current singleton.
use Rattle.osgi_base.specs.computed.Texts.{text_cmp}
use Rattle.osgi_space_rules.specs.computed.Entries.{IsEntry}
use Rattle.osgi_space_rules.specs.computed.Growing.{HasEntry}
use Rattle.osgi_space_rules.proofs.Exact.{text_exact, text_total}
use Rattle.osgi_space_rules.proofs.OneValue.{extends_like, put_extends}
use Rattle.osgi_space_rules.proofs.Rivals.{entry_of_one}
use Rattle.osgi_space_rules.proofs.singletons.add_singleton.Goals as goal

pub returns : goal.returns
returns c =
    let both = c.is_current_singleton.ensures.both.0 c.if-not-is_current_singleton.false in
    record {
      added =
          extends_like c.in_ok-put_one.field-0 (HasEntry text_cmp c.args.singletons.now) (HasEntry text_cmp c.put_one.new.entries) _ (IsEntry c.args.known.now c.args.id)
          (entry_of_one c.args.known.now c.args.id c.in_ok-name.name c.in_ok-name.ensures.name both)
          (put_extends text_total text_exact c.args.singletons.now c.put_one.new.entries c.in_ok-name.name c.args.id c.in_ok-put_one.field-0 c.in_ok-put_one.ensures.put);
    }
