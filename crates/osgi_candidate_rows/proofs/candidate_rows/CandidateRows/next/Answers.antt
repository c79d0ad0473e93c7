-- What is passed over in the row is out.
use Rattle.std.proofs.Common.{◌≤◌, ◌≡◌, ◌⊎◌, length, subst}
use Rattle.osgi_candidate_rows.specs.Listed.{AreOutBetween, Listed, listed}
use Rattle.osgi_candidate_rows.proofs.Indexed.{row-of}
use Rattle.osgi_candidate_rows.proofs.Numbers.{row-there}
use Rattle.osgi_candidate_rows.proofs.Taken.{listed-end, listed-some, max-cases, out-none, out-some}
use Rattle.osgi_candidate_rows.proofs.candidate_rows.CandidateRows.next.Goals as goal

pub place_from-requires : goal.place_from-requires
place_from-requires c = record { row = row-there c.self.inside.choices.now c.self.inside.rows c.in-Some.row c.self.invariant.0 (row-of c.self.inside.choices.now c.self.inside.index c.args.requirement c.in-Some.row c.self.invariant.1 c.in-Some.ensures.row).0 }

pub returns-in-Some-place_from-clause-listed : goal.returns-in-Some-place_from-clause-listed
returns-in-Some-place_from-clause-listed c =
    let choices = c.self.inside.choices.now in
    let row = row-of choices c.self.inside.index c.args.requirement c.in-Some.row c.self.invariant.1 c.in-Some.ensures.row in
    let place = c.in-Some-place_from.place in
    subst (λ (s : Listed). (place ≤ length (listed s.choices c.args.requirement)) ⊎ (place ≡ c.args.from)) c.self.view_is
    (listed-some choices c.self.inside.rows.removed c.args.requirement c.in-Some.row c.args.from row.1 place (c.in-Some-place_from.ensures.place choices c.self.invariant.0 row.0))

pub returns-in-Some-place_from-clause-out : goal.returns-in-Some-place_from-clause-out
returns-in-Some-place_from-clause-out c =
    let choices = c.self.inside.choices.now in
    let row = row-of choices c.self.inside.index c.args.requirement c.in-Some.row c.self.invariant.1 c.in-Some.ensures.row in
    let place = c.in-Some-place_from.place in
    subst (λ (s : Listed). AreOutBetween s c.args.requirement c.args.from place) c.self.view_is
    (out-some choices c.self.inside.rows.removed c.args.requirement c.in-Some.row c.args.from row.1 place (c.in-Some-place_from.ensures.place choices c.self.invariant.0 row.0))

pub returns-in-None-clause-listed : goal.returns-in-None-clause-listed
returns-in-None-clause-listed c =
    let choices = c.self.inside.choices.now in
    let row = row-of choices c.self.inside.index c.args.requirement c.in-Some.row c.self.invariant.1 c.in-Some.ensures.row in
    let k = c.max.result in
    let cases = subst (λ n. (k ≡ c.args.from) ⊎ (k ≤ n)) c.count_in.ensures.count (max-cases c.args.from c.count_in.result k c.max.ensures) in
    subst (λ (s : Listed). (k ≤ length (listed s.choices c.args.requirement)) ⊎ (k ≡ c.args.from)) c.self.view_is
    (listed-end choices c.self.inside.rows.removed c.args.requirement c.in-Some.row c.args.from row.1 k cases)

pub returns-in-None-clause-out : goal.returns-in-None-clause-out
returns-in-None-clause-out c =
    let choices = c.self.inside.choices.now in
    let row = row-of choices c.self.inside.index c.args.requirement c.in-Some.row c.self.invariant.1 c.in-Some.ensures.row in
    let k = c.max.result in
    let cases = subst (λ n. (k ≡ c.args.from) ⊎ (k ≤ n)) c.count_in.ensures.count (max-cases c.args.from c.count_in.result k c.max.ensures) in
    subst (λ (s : Listed). AreOutBetween s c.args.requirement c.args.from k) c.self.view_is
    (out-none choices c.self.inside.rows.removed c.args.requirement c.in-Some.row c.args.from row.1 k (c.in-None.ensures.place choices c.self.invariant.0 row.0) cases)
