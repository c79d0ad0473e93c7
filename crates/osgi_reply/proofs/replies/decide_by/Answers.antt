-- What is decided of each operation is decided for who asks.
use Rattle.std.proofs.Common.{refl, subst, sym}
use Rattle.osgi_reply.proofs.BundlesListed.{replied_bundles}
use Rattle.osgi_reply.proofs.Matching.{in_registry, served_all}
use Rattle.osgi_reply.proofs.TextsWritten.{replied_failed, replied_printed}
use Rattle.osgi_tables.proofs.Replying.{asked_ok, decided_own, of_services, own_ok, unchanging}
use Rattle.osgi_ops.specs.declared.op.Op.TheVariants as op
use Rattle.osgi_ops.specs.declared.reply.Reply.TheVariants as answer
use Rattle.osgi_tables.specs.Replied.{IsAnsweredToAll}
use Rattle.osgi_reply.proofs.replies.decide_by.Goals as goal

pub returns-in_ok-register-in-Register-clause-decided : goal.returns-in_ok-register-in-Register-clause-decided
returns-in_ok-register-in-Register-clause-decided c =
    in_registry c.args.asked.now (op.Register c.in-Register.owner c.in-Register.classes c.in-Register.object c.in-Register.scope c.in-Register.properties) c.args.tables.now c.in_registry.result c.in_ok-register-in-Register.field-0 c.in_registry.ensures.same c.in-Register.is refl refl (of_services _ _ (λ n since. refl) (λ b. refl) (λ b. refl) refl (λ b. refl) refl refl refl (λ l. refl) refl refl (λ now world same. same)) c.requires.asker c.in_ok-register-in-Register.ensures.decided

pub returns-in_ok-modify-in-Modify-clause-decided : goal.returns-in_ok-modify-in-Modify-clause-decided
returns-in_ok-modify-in-Modify-clause-decided c =
    in_registry c.args.asked.now (op.Modify c.in-Modify.owner c.in-Modify.service c.in-Modify.properties) c.args.tables.now c.in_registry-in-Modify.result c.in_ok-modify-in-Modify.field-0 c.in_registry-in-Modify.ensures.same c.in-Modify.is refl refl (of_services _ _ (λ n since. refl) (λ b. refl) (λ b. refl) refl (λ b. refl) refl refl refl (λ l. refl) refl refl (λ now world same. same)) c.requires.asker c.in_ok-modify-in-Modify.ensures.decided

pub returns-in-Unregister-clause-decided : goal.returns-in-Unregister-clause-decided
returns-in-Unregister-clause-decided c =
    in_registry c.args.asked.now (op.Unregister c.in-Unregister.owner c.in-Unregister.service) c.args.tables.now c.in_registry-in-Unregister.result c.unregister.result c.in_registry-in-Unregister.ensures.same c.in-Unregister.is refl refl (of_services _ _ (λ n since. refl) (λ b. refl) (λ b. refl) refl (λ b. refl) refl refl refl (λ l. refl) refl refl (λ now world same. same)) c.requires.asker c.unregister.ensures.decided

pub returns-in_ok-get-in-Get-clause-decided : goal.returns-in_ok-get-in-Get-clause-decided
returns-in_ok-get-in-Get-clause-decided c =
    in_registry c.args.asked.now (op.Get c.in-Get.user c.in-Get.service) c.args.tables.now c.in_registry-in-Get.result c.in_ok-get-in-Get.field-0 c.in_registry-in-Get.ensures.same c.in-Get.is refl refl (of_services _ _ (λ n since. refl) (λ b. refl) (λ b. refl) refl (λ b. refl) c.in_ok-get-in-Get.ensures.unopened refl refl (λ l. refl) refl refl (λ now world same. same)) c.requires.asker c.in_ok-get-in-Get.ensures.decided

pub returns-in-Unget-clause-decided : goal.returns-in-Unget-clause-decided
returns-in-Unget-clause-decided c =
    in_registry c.args.asked.now (op.Unget c.in-Unget.user c.in-Unget.service) c.args.tables.now c.in_registry-in-Unget.result c.unget.result c.in_registry-in-Unget.ensures.same c.in-Unget.is refl refl (of_services _ _ (λ n since. refl) (λ b. refl) (λ b. refl) refl (λ b. refl) refl refl refl (λ l. refl) refl refl (λ now world same. same)) c.requires.asker c.unget.ensures.decided

pub find-requires : goal.find-requires
find-requires c = record { asker = rw c.in-Find.is at c.requires.asker }

pub returns-in_ok-find-in-Find-clause-decided : goal.returns-in_ok-find-in-Find-clause-decided
returns-in_ok-find-in-Find-clause-decided c =
    unchanging c.args.asked.now (op.Find c.in-Find.asker c.in-Find.class c.in-Find.filter) c.args.tables.now c.unchanging.result c.in_ok-find-in-Find.field-0 c.unchanging.ensures.same c.in-Find.is refl c.in_ok-find-in-Find.ensures.replied

pub returns-in_ok-find_all-in-FindAll-clause-decided : goal.returns-in_ok-find_all-in-FindAll-clause-decided
returns-in_ok-find_all-in-FindAll-clause-decided c =
    unchanging c.args.asked.now (op.FindAll c.in-FindAll.asker c.in-FindAll.class c.in-FindAll.filter) c.args.tables.now c.unchanging-in-FindAll.result c.in_ok-find_all-in-FindAll.field-0 c.unchanging-in-FindAll.ensures.same c.in-FindAll.is refl
    (served_all (op.FindAll c.in-FindAll.asker c.in-FindAll.class c.in-FindAll.filter) c.args.tables.now c.in_ok-find_all-in-FindAll.field-0 refl (of_services _ c.in_ok-find_all-in-FindAll.field-0 (λ n since. refl) (λ b. refl) (λ b. refl) refl (λ b. refl) refl refl refl (λ l. refl) refl refl (λ now world same. same)) (rw c.in-FindAll.is at c.requires.asker) c.in_ok-find_all-in-FindAll.ensures.served (λ past before after e. refl))

pub queue_job-requires : goal.queue_job-requires
queue_job-requires c = record { asker = rw c.in-QueueJob.is at c.requires.asker }

pub returns-in-QueueJob-clause-decided : goal.returns-in-QueueJob-clause-decided
returns-in-QueueJob-clause-decided c = asked_ok c.queue_job.result c.args.asked.now (op.QueueJob c.in-QueueJob.owner c.in-QueueJob.name) c.args.tables.now c.in-QueueJob.is c.queue_job.ensures.decided

pub returns-in-TakeJob-clause-decided : goal.returns-in-TakeJob-clause-decided
returns-in-TakeJob-clause-decided c = own_ok c.take_job.result c.args.asked.now op.TakeJob c.args.tables.now c.in-TakeJob.is c.take_job.ensures.decided

pub returns-in-Print-clause-decided : goal.returns-in-Print-clause-decided
returns-in-Print-clause-decided c =
    unchanging c.args.asked.now (op.Print c.in-Print.owner c.in-Print.text) c.args.tables.now c.unchanging-in-Print.result answer.Done c.unchanging-in-Print.ensures.same c.in-Print.is refl (replied_printed c.args.tables.now c.in-Print.owner c.in-Print.text (rw c.in-Print.is at c.requires.asker))

pub returns-in-Fail-clause-decided : goal.returns-in-Fail-clause-decided
returns-in-Fail-clause-decided c =
    unchanging c.args.asked.now (op.Fail c.in-Fail.owner c.in-Fail.text) c.args.tables.now c.unchanging-in-Fail.result answer.Done c.unchanging-in-Fail.ensures.same c.in-Fail.is refl (replied_failed c.args.tables.now c.in-Fail.owner c.in-Fail.text (rw c.in-Fail.is at c.requires.asker))

pub returns-in_ok-load-in-Load-clause-decided : goal.returns-in_ok-load-in-Load-clause-decided
returns-in_ok-load-in-Load-clause-decided c =
    unchanging c.args.asked.now (op.Load c.in-Load.bundle c.in-Load.class) c.args.tables.now c.unchanging-in-Load.result c.in_ok-load-in-Load.field-0 c.unchanging-in-Load.ensures.same c.in-Load.is refl c.in_ok-load-in-Load.ensures.replied

pub returns-in_ok-list_services-in-ListServices-clause-decided : goal.returns-in_ok-list_services-in-ListServices-clause-decided
returns-in_ok-list_services-in-ListServices-clause-decided c =
    unchanging c.args.asked.now op.ListServices c.args.tables.now c.unchanging-in-ListServices.result c.in_ok-list_services-in-ListServices.field-0 c.unchanging-in-ListServices.ensures.same c.in-ListServices.is refl
    (served_all op.ListServices c.args.tables.now c.in_ok-list_services-in-ListServices.field-0 refl (of_services _ c.in_ok-list_services-in-ListServices.field-0 (λ n since. refl) (λ b. refl) (λ b. refl) refl (λ b. refl) refl refl refl (λ l. refl) refl refl (λ now world same. same)) (rw c.in-ListServices.is at c.requires.asker) c.in_ok-list_services-in-ListServices.ensures.served (λ past before after e. refl))

pub returns-in-Install-clause-decided : goal.returns-in-Install-clause-decided
returns-in-Install-clause-decided c = asked_ok c.install.result c.args.asked.now (op.Install c.in-Install.location) c.args.tables.now c.in-Install.is c.install.ensures.decided

pub returns-in-Resolve-clause-decided : goal.returns-in-Resolve-clause-decided
returns-in-Resolve-clause-decided c = asked_ok c.resolve.result c.args.asked.now (op.Resolve c.in-Resolve.bundle) c.args.tables.now c.in-Resolve.is c.resolve.ensures.decided

pub returns-in_ok-list_bundles-in-ListBundles-clause-decided : goal.returns-in_ok-list_bundles-in-ListBundles-clause-decided
returns-in_ok-list_bundles-in-ListBundles-clause-decided c =
    unchanging c.args.asked.now op.ListBundles c.args.tables.now c.unchanging-in-ListBundles.result c.in_ok-list_bundles-in-ListBundles.field-0 c.unchanging-in-ListBundles.ensures.same c.in-ListBundles.is refl
    (subst (IsAnsweredToAll op.ListBundles c.args.tables.now) (sym c.in_ok-list_bundles-in-ListBundles.ensures.listed) (replied_bundles c.args.tables.now))

pub returns-in_ok-list_wires-in-ListWires-clause-decided : goal.returns-in_ok-list_wires-in-ListWires-clause-decided
returns-in_ok-list_wires-in-ListWires-clause-decided c =
    unchanging c.args.asked.now (op.ListWires c.in-ListWires.bundle) c.args.tables.now c.unchanging-in-ListWires.result c.in_ok-list_wires-in-ListWires.field-0 c.unchanging-in-ListWires.ensures.same c.in-ListWires.is refl c.in_ok-list_wires-in-ListWires.ensures.replied

pub returns-in_ok-wish_start-in-WishStart-clause-decided : goal.returns-in_ok-wish_start-in-WishStart-clause-decided
returns-in_ok-wish_start-in-WishStart-clause-decided c =
    unchanging c.args.asked.now (op.WishStart c.in-WishStart.target c.in-WishStart.transient) c.args.tables.now c.unchanging-in-WishStart.result c.in_ok-wish_start-in-WishStart.field-0 c.unchanging-in-WishStart.ensures.same c.in-WishStart.is refl c.in_ok-wish_start-in-WishStart.ensures.replied

pub returns-in-BeginStart-clause-decided : goal.returns-in-BeginStart-clause-decided
returns-in-BeginStart-clause-decided c =
    decided_own c.args.asked.now (op.BeginStart c.in-BeginStart.bundle c.in-BeginStart.transient) c.args.tables.now c.begin_start.result.0 c.begin_start.result.1 c.in-BeginStart.is c.begin_start.ensures.decided

pub returns-in-EndStart-clause-decided : goal.returns-in-EndStart-clause-decided
returns-in-EndStart-clause-decided c =
    decided_own c.args.asked.now (op.EndStart c.in-EndStart.bundle c.in-EndStart.failed) c.args.tables.now c.end_start.result.0 c.end_start.result.1 c.in-EndStart.is c.end_start.ensures.decided

pub returns-in-BeginStop-clause-decided : goal.returns-in-BeginStop-clause-decided
returns-in-BeginStop-clause-decided c = own_ok c.begin_stop.result c.args.asked.now (op.BeginStop c.in-BeginStop.target c.in-BeginStop.transient) c.args.tables.now c.in-BeginStop.is c.begin_stop.ensures.decided

pub returns-in-EndStop-clause-decided : goal.returns-in-EndStop-clause-decided
returns-in-EndStop-clause-decided c =
    decided_own c.args.asked.now (op.EndStop c.in-EndStop.bundle c.in-EndStop.failed) c.args.tables.now c.end_stop.result.0 c.end_stop.result.1 c.in-EndStop.is c.end_stop.ensures.decided

pub add_listener-requires : goal.add_listener-requires
add_listener-requires c = record { room = c.requires.room; asker = rw c.in-AddListener.is at c.requires.asker }

pub returns-in-AddListener-clause-decided : goal.returns-in-AddListener-clause-decided
returns-in-AddListener-clause-decided c =
    asked_ok c.add_listener.result c.args.asked.now (op.AddListener c.in-AddListener.owner c.in-AddListener.name c.in-AddListener.kind c.in-AddListener.filter) c.args.tables.now c.in-AddListener.is c.add_listener.ensures.decided

pub remove_listener-requires : goal.remove_listener-requires
remove_listener-requires c = record { asker = rw c.in-RemoveListener.is at c.requires.asker }

pub returns-in-RemoveListener-clause-decided : goal.returns-in-RemoveListener-clause-decided
returns-in-RemoveListener-clause-decided c =
    asked_ok c.remove_listener.result c.args.asked.now (op.RemoveListener c.in-RemoveListener.owner c.in-RemoveListener.name) c.args.tables.now c.in-RemoveListener.is c.remove_listener.ensures.decided

pub returns-in-Hand-clause-decided : goal.returns-in-Hand-clause-decided
returns-in-Hand-clause-decided c = own_ok c.hand.result c.args.asked.now op.Hand c.args.tables.now c.in-Hand.is c.hand.ensures.decided
