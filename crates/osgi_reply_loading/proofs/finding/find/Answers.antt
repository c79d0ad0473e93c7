-- What is found is the best of the services that are open to who asks.
use Rattle.osgi_reply_loading.proofs.ServicesFound.{replied_found}
use Rattle.osgi_reply_loading.proofs.finding.find.Goals as goal

pub returns : goal.returns
returns c = record {
  replied =
      replied_found c.args.tables.now c.args.asker c.args.class.now c.args.filter.now c.in_ok-service.service c.requires.asker
      (rw (c.wirings-wirings.ensures.wirings, c.as_ref.ensures.value) at c.in_ok-service.ensures.found);
}
