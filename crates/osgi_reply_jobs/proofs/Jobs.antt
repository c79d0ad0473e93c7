-- What is decided of jobs, and what their ends come to.
use Rattle.std.proofs.Common.{◌≡◌, ◌≢◌, ◌≤◌, inl, inr, ℕ, true, false, List, [], ◌∷◌, length, refl, sym, ap, ◌∙◌, subst}
use Rattle.std.specs.Option.{option_map_or}
use Rattle.std.specs.Prelude.{None, Some}
use Rattle.osgi_base.specs.Verdict.{answers, refuses}
use Rattle.osgi_base.specs.declared.ids.BundleId.{BundleId}
use Rattle.osgi_base.specs.declared.ids.Tag.{Tag}
use Rattle.osgi_brackets.specs.Open.{Closes, HoldsMost, open_of}
use Rattle.osgi_brackets.specs.declared.brackets.Brackets.{Brackets}
use Rattle.osgi_bundle.specs.Rows.{row_at}
use Rattle.osgi_bundle.specs.declared.kept.BundleKept.{BundleKept}
use Rattle.osgi_jobs.specs.Queue.{oldest_in}
use Rattle.osgi_legal.specs.Askers.{MayAsk}
use Rattle.osgi_legal.specs.Legal.{IsTold}
use Rattle.osgi_legal.specs.Operations.{Answers, own_conditions}
use Rattle.osgi_legal.specs.laws.Stages.{row-here}
use Rattle.osgi_legal.proofs.Askers.{asker-passes}
use Rattle.osgi_ops.specs.OwnBrackets.{own_closes}
use Rattle.osgi_ops.specs.Jobs.{jobs, Queued}
use Rattle.osgi_ops.specs.Listening.{happenings}
use Rattle.osgi_ops.specs.Moments.{Moment}
use Rattle.osgi_ops.specs.declared.asked.Asked.{Asked}
use Rattle.osgi_ops.specs.declared.limits.TheConstants.{MAX_JOBS}
use Rattle.osgi_ops.specs.declared.op.Op.TheVariants as op
use Rattle.osgi_ops.specs.declared.refusal.Many.TheVariants as many
use Rattle.osgi_ops.specs.declared.refusal.Refusal.TheVariants as no
use Rattle.osgi_ops.specs.declared.reply.Reply.TheVariants as answer
use Rattle.osgi_ops.specs.rows.Jobs.{taken}
use Rattle.osgi_tables.proofs.Asking.{passed_by}
use Rattle.osgi_tables.proofs.DepotRows.{shown_row}
use Rattle.osgi_tables.proofs.Heard.{job_ended_stands, no_job_stands, queued_stands, taken_stands}
use Rattle.osgi_tables.proofs.Living.{deep_at, own_end_at, shallow_at}
use Rattle.osgi_tables.proofs.Replying.{decided_refused, decided_same, replied_refused, replied_unseen, unseen}
use Rattle.osgi_tables.specs.Asked.{asker_refusal}
use Rattle.osgi_tables.specs.Changes.{IsReplyAndChange, IsReplyAndChangeToAll}
use Rattle.osgi_tables.specs.Replied.{end_reply, IsReplied, StandsFor}
use Rattle.osgi_tables.specs.declared.change.Change.TheVariants as change
use Rattle.osgi_tables.specs.declared.tables.Tables.{Tables}

-- ---- QueueJob

module _ (tables : Tables) (owner : BundleId) (name : List ℕ) (asks : asker_refusal tables.bundles (Some owner) ≡ None) where
  may_ask : (now : Moment) → IsTold now → StandsFor now tables → MayAsk now (Some owner)
  may_ask now told stood = passed_by now tables.bundles (Some owner) told stood.bundles asks

  -- as many are queued as may be
  pub decided_full : MAX_JOBS ≤ length tables.jobs → IsReplyAndChangeToAll (op.QueueJob owner name) tables (answer.Refused (no.TooMany many.Jobs)) change.Nothing
  decided_full full who =
      decided_refused (record { tag = who; op = op.QueueJob owner name }) tables (no.TooMany many.Jobs) refl
      (λ now at stood.
      row-here now (op.QueueJob owner name) (answer.Refused (no.TooMany many.Jobs)) refl
      (asker-passes now (Some owner) (own_conditions now (op.QueueJob owner name)) (Answers now (op.QueueJob owner name)) (refuses (no.TooMany many.Jobs)) (may_ask now at.told stood)
      (inl (no.TooMany many.Jobs, (refl, subst (λ n. MAX_JOBS ≤ n) (ap length stood.jobs) full), refl))))

  -- it is queued
  queued : ¬ (MAX_JOBS ≤ length tables.jobs) → IsReplyAndChangeToAll (op.QueueJob owner name) tables answer.Done (change.Queue owner name)
  queued room who = record {
    possible = tt;
    cleans = refl;
    answered = λ new changed.
        unseen (record { tag = who; op = op.QueueJob owner name }) tables new answer.Done
        (λ now at stood.
        row-here now (op.QueueJob owner name) answer.Done refl
        (asker-passes now (Some owner) (own_conditions now (op.QueueJob owner name)) (Answers now (op.QueueJob owner name)) (answers answer.Done) (may_ask now at.told stood)
        (inr ((λ f called. room (subst (λ n. MAX_JOBS ≤ n) (ap length (sym stood.jobs)) called.1)), refl))))
        (λ now at stood. ap (λ (t : Tables). t.wirings.world) changed ∙ stood.world)
        (λ past before after e. refl)
        (λ now at stood. queued_stands now tables new owner name stood changed);
  }

  -- so it is with a copy of its name
  pub decided_queued : ¬ (MAX_JOBS ≤ length tables.jobs) → (copied : List ℕ) → copied ≡ name → IsReplyAndChangeToAll (op.QueueJob owner name) tables answer.Done (change.Queue owner copied)
  decided_queued room copied same = subst (λ (n : List ℕ). IsReplyAndChangeToAll (op.QueueJob owner name) tables answer.Done (change.Queue owner n)) (sym same) (queued room)

-- ---- TakeJob

-- a job that the line of the tag asks for
abbrev pub by_tag : Tag → Asked
by_tag tag = record { tag = tag; op = op.TakeJob }

none_there : (list : List Queued) → oldest_in list ≡ None → list ≡ []
none_there [] is = refl
none_there (oldest ∷ rest) is = absurd (cc is)

first_there : (list : List Queued) (oldest : Queued) → oldest_in list ≡ Some oldest → (rest : List Queued) × (list ≡ oldest ∷ rest)
first_there [] oldest is = absurd (cc is)
first_there (first ∷ rest) oldest is = let same : first ≡ oldest = cc is in (rest, ap (λ q. q ∷ rest) same)

-- where none is queued none is taken
pub decided_none : (tables : Tables) (tag : Tag) → oldest_in tables.jobs ≡ None → IsReplyAndChange (by_tag tag) tables answer.NoJob change.Nothing
decided_none tables tag none =
    decided_same (by_tag tag) tables answer.NoJob refl
    (unseen (by_tag tag) tables tables answer.NoJob
    (λ now at stood.
    let empty : jobs now.before ≡ [] = sym stood.jobs ∙ none_there tables.jobs none in
    row-here now op.TakeJob answer.NoJob refl (inr ((λ f called. called.1.0 empty), sym (ap (taken now) empty))))
    (λ now at stood. stood.world)
    (λ past before after e. refl)
    (λ now at stood. no_job_stands now tables stood))

module _ (tables : Tables) (tag : Tag) (oldest : Queued) (is : oldest_in tables.jobs ≡ Some oldest) where
  whole : (now : Moment) → StandsFor now tables → (rest : List Queued) × (jobs now.before ≡ oldest ∷ rest)
  whole now stood = let first = first_there tables.jobs oldest is in (first.0, sym stood.jobs ∙ first.1)

  some : (now : Moment) → StandsFor now tables → jobs now.before ≢ []
  some now stood none = let bad : oldest ∷ (whole now stood).0 ≡ [] = sym (whole now stood).1 ∙ none in cc bad

  -- as many brackets are open as may be
  pub decided_deep : HoldsMost tag.caller tables.brackets → IsReplyAndChange (by_tag tag) tables (answer.Refused no.TooDeep) change.Nothing
  decided_deep deep =
      decided_refused (by_tag tag) tables no.TooDeep refl
      (λ now at stood. row-here now op.TakeJob (answer.Refused no.TooDeep) refl (inl (no.TooDeep, (refl, (some now stood, deep_at (by_tag tag) tables now at stood deep)), refl)))

  -- it is taken
  taken_first : ¬ HoldsMost tag.caller tables.brackets → IsReplyAndChange (by_tag tag) tables (answer.Job oldest.owner (option_map_or (λ (r : BundleKept). r.row) (row_at oldest.owner tables.bundles.rows) 0) oldest.name) (change.TakeJob tag)
  taken_first shallow =
      let row : ℕ = option_map_or (λ (r : BundleKept). r.row) (row_at oldest.owner tables.bundles.rows) 0 in
      record {
        possible = tt;
        cleans = refl;
        answered = λ new changed.
            unseen (by_tag tag) tables new (answer.Job oldest.owner row oldest.name)
            (λ now at stood.
            row-here now op.TakeJob (answer.Job oldest.owner row oldest.name) refl
            (inr ((λ f called. shallow_at (by_tag tag) tables now at stood shallow called.1.1), ap (λ n. answer.Job oldest.owner n oldest.name) (shown_row now at.told tables.bundles oldest.owner stood.bundles) ∙ sym (ap (taken now) (whole now stood).1))))
            (λ now at stood. ap (λ (t : Tables). t.wirings.world) changed.is ∙ stood.world)
            (λ past before after e. refl)
            (λ now at stood. taken_stands now tables new tag oldest.owner row oldest.name at.tag stood changed);
      }

  -- so it is with the row that was found and a copy of its name
  pub decided_taken : ¬ HoldsMost tag.caller tables.brackets → (row : ℕ) (name : List ℕ) → row ≡ option_map_or (λ (r : BundleKept). r.row) (row_at oldest.owner tables.bundles.rows) 0 → name ≡ oldest.name →
      IsReplyAndChange (by_tag tag) tables (answer.Job oldest.owner row name) (change.TakeJob tag)
  decided_taken shallow row name found same = subst (λ (p : ℕ × List ℕ). IsReplyAndChange (by_tag tag) tables (answer.Job oldest.owner p.0 p.1) (change.TakeJob tag)) (sym (λ i. (found i, same i))) (taken_first shallow)

-- ---- the end of a job

abbrev pub end_by : Tag → Asked
end_by tag = record { tag = tag; op = op.EndJob }

module _ (tables : Tables) (tag : Tag) where
  -- it is none
  pub ended_none : (entries : ℕ) → own_closes tag op.EndJob (open_of tables.brackets tag.caller) ≡ false → IsReplied entries (end_by tag) tables tables (end_reply false) []
  ended_none entries other =
      replied_unseen entries (end_by tag) tables tables (answer.Refused no.InvalidOperation) (λ past before after e is says. ap (λ o. happenings past before after e o e.reply) is)
      (replied_refused (end_by tag) tables no.InvalidOperation refl
      (λ now at stood. row-here now op.EndJob (answer.Refused no.InvalidOperation) refl (inl (no.InvalidOperation, (refl, own_end_at (end_by tag) tables now at stood ∙ other), refl))))

  -- it is ended
  pub ended_job : (entries : ℕ) (kept : Brackets) → own_closes tag op.EndJob (open_of tables.brackets tag.caller) ≡ true → Closes tables.brackets kept tag.caller → IsReplied entries (end_by tag) tables (record tables { brackets = kept }) (end_reply true) []
  ended_job entries kept own closed =
      replied_unseen entries (end_by tag) tables (record tables { brackets = kept }) answer.Done (λ past before after e is says. ap (λ o. happenings past before after e o e.reply) is)
      (unseen (end_by tag) tables (record tables { brackets = kept }) answer.Done
      (λ now at stood.
      row-here now op.EndJob answer.Done refl (inr ((λ f called. let bad : true ≡ false = sym (own_end_at (end_by tag) tables now at stood ∙ own) ∙ called.1 in cc bad), refl)))
      (λ now at stood. stood.world)
      (λ past before after e. refl)
      (λ now at stood.
      job_ended_stands now tables kept stood (subst (λ (t : Tag). own_closes t op.EndJob (open_of tables.brackets t.caller) ≡ true) (sym at.tag) own)
      (subst (λ (t : Tag). Closes tables.brackets kept t.caller) (sym at.tag) closed)))
