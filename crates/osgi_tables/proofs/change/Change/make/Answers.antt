-- The change is made of tables with room, and those who see what happens are told.
use Rattle.std.proofs.Common.{ap, sym, subst, ◌∙◌}
use Rattle.osgi_listeners.specs.Rows.{Listening}
use Rattle.osgi_listeners.specs.Sights.{HasRoomFor, sights_of}
use Rattle.osgi_tables.proofs.Replying.{on_err}
use Rattle.osgi_tables.proofs.Roomier.{can_alike, changed_so, tables_alike}
use Rattle.osgi_tables.proofs.Telling.{alike_roomier, earlier_there, is_told, nothing_told, room_there, told_replied}
use Rattle.osgi_tables.specs.Changes.{cleaned_in, happened}
use Rattle.osgi_tables.specs.Replied.{IsReplied}
use Rattle.osgi_tables.proofs.change.Change.make.Goals as goal

pub returns-in_err-reserve_for-clause-unchanged : goal.returns-in_err-reserve_for-clause-unchanged
returns-in_err-reserve_for-clause-unchanged c =
    on_err c.from_residual-in_err-reserve_for.result (tables_alike c.args.tables.now c.reserve_for.new.self (alike_roomier c.args.tables.now.listeners c.reserve_for.new.self c.reserve_for.ensures.roomier))

pub commit-requires : goal.commit-requires
commit-requires c = record {
  possible = can_alike c.args.self c.args.tables.now c.reserve_for.new.self (alike_roomier c.args.tables.now.listeners c.reserve_for.new.self c.reserve_for.ensures.roomier) c.requires.possible;
}

pub returns-in_err-commit-clause-unchanged : goal.returns-in_err-commit-clause-unchanged
returns-in_err-commit-clause-unchanged c =
    on_err c.from_residual-in_err-commit.result
    (λ now stood.
    c.in_err-commit.ensures.unchanged now (tables_alike c.args.tables.now c.reserve_for.new.self (alike_roomier c.args.tables.now.listeners c.reserve_for.new.self c.reserve_for.ensures.roomier) now stood))

pub deliver_all-requires-clause-room : goal.deliver_all-requires-clause-room
deliver_all-requires-clause-room c =
    subst (λ told. HasRoomFor (sights_of told) c.commit.new.tables.listeners.rows) (sym c.as_slice-2.ensures.value)
    (subst (λ told. HasRoomFor (sights_of told) c.commit.new.tables.listeners.rows) c.as_slice.ensures.value
    (room_there c.args.self (record c.args.tables.now { listeners = c.reserve_for.new.self }) c.commit.new.tables (sights_of c.as_slice.result.now)
    (λ none. ap sights_of c.as_slice.ensures.value ∙ nothing_told c.args.tables.now.listeners (cleaned_in c.args.self) c.args.tables.now.wirings.world (happened c.args.self c.args.tables.now.registry c.args.tables.now.bundles) (sights_of c.in_ok-told.told.items) c.in_ok-told.ensures.sights none)
    c.in_ok-commit.ensures.changed c.in_ok-reserve_for.ensures.room))

pub deliver_all-requires-clause-earlier : goal.deliver_all-requires-clause-earlier
deliver_all-requires-clause-earlier c =
    earlier_there c.args.self c.args.tables.now c.commit.new.tables c.reserve_for.new.self c.args.entries (alike_roomier c.args.tables.now.listeners c.reserve_for.new.self c.reserve_for.ensures.roomier) c.in_ok-commit.ensures.changed c.requires.earlier

pub returns-clause-replied : goal.returns-clause-replied
returns-clause-replied c asked reply decided =
    let sights = sights_of c.in_ok-told.told.items in
    let alike = alike_roomier c.args.tables.now.listeners c.reserve_for.new.self c.reserve_for.ensures.roomier in
    let so = changed_so c.args.tables.now c.commit.new.tables c.reserve_for.new.self alike c.args.self c.in_ok-commit.ensures.changed in
    let told = is_told c.args.entries c.commit.new.tables.listeners c.deliver_all.new.self c.as_slice-2.result.now c.in_ok-told.told.items c.as_slice-2.ensures.value c.deliver_all.ensures.rows c.deliver_all.ensures.turns c.deliver_all.ensures.issued in
    subst (λ (l : Listening). IsReplied c.args.entries asked c.args.tables.now (record c.commit.new.tables { listeners = l }) reply sights) (sym told)
    (told_replied c.args.entries asked c.args.tables.now c.commit.new.tables reply c.args.self sights decided so c.in_ok-told.ensures.sights c.in_ok-told.ensures.small)
