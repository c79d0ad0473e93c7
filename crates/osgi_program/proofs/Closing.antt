-- What a hall gives back that one caller alone called: the history that this caller's lines made.
use Rattle.std.proofs.Common.{◌≡◌, ◌<◌, ◌⊎◌, inl, inr, ℕ, List, [], ◌∷◌, length, map, ap, sym, ◌∙◌, refl, subst, arith}
use Rattle.std.specs.List.{Contains}
use Rattle.std.specs.Prelude.{◌==◌, cond}
use Rattle.std.proofs.lemmas.Bool.{eq-eqb}
use Rattle.std.proofs.lemmas.List.{length-map}
use Rattle.std.proofs.lemmas.List.Elements.{All-head, All-tail}
use Rattle.osgi_framework.specs.Entries.{as_hall, from_hall}
use Rattle.osgi_framework.specs.laws.Entries.{from-as}
use Rattle.osgi_hall.specs.Histories.{calls_by}
use Rattle.osgi_hall.specs.Passes.{IsByKnownCallers, PassView}
use Rattle.osgi_hall.specs.declared.entry.Entry.{Entry}
use Rattle.osgi_hall.specs.declared.entry.Joined.{Joined}
use Rattle.osgi_ops.specs.declared.entry.Entry as framework
use Rattle.osgi_ops.specs.declared.op.Op.{Op}
use Rattle.osgi_ops.specs.declared.reply.Reply.{Reply}
use Rattle.osgi_program.specs.computed.Running.{RunsLines}
use Rattle.osgi_program.specs.declared.lines.Ran.{Ran}
use Rattle.osgi_runner.specs.Passes.{calls_of, Grown, has_seen}
use Rattle.osgi_session.specs.Runs.{Sections}
use Rattle.osgi_session.specs.declared.line.Line.{Line}

module _ {O R : Type 0} where
  -- it is of caller 0, or of one of no others
  abbrev IsOfNoOther : Entry O R → Type 0
  IsOfNoOther e = (e.tag.caller ≡ 0) ⊎ Contains (map (λ (known : Joined O R). known.caller) []) e.tag.caller

  -- where no other has joined, the calls of caller 0 are the whole history
  all_own : (seen : List (Entry O R)) → IsByKnownCallers {O = O} {R = R} [] seen → calls_by 0 seen ≡ seen
  all_own [] known = refl
  all_own (e ∷ seen) known =
      let here : e.tag.caller ≡ 0 = elim (All-head IsOfNoOther e seen known) [ inl is ↦ is | inr other ↦ absurd (let none = other.1 in omega (arith, none)) ] in
      ap (λ k. cond k (e ∷ calls_by 0 seen) (calls_by 0 seen)) (eq-eqb e.tag.caller 0 here) ∙ ap (λ l. e ∷ l) (all_own seen (All-tail IsOfNoOther e seen known))

  pub alone : (ended : List (Joined O R)) (seen own : List (Entry O R)) → ended ≡ [] → IsByKnownCallers ended seen → calls_by 0 seen ≡ own → own ≡ seen
  alone ended seen own none known is = sym is ∙ all_own seen (subst (λ (l : List (Joined O R)). IsByKnownCallers l seen) none known)

-- what the lines made of the calls of caller 0 they made of the history of the closed hall
pub ran_all : {Z : Type 0} (how : Ran) (script : Sections) (limit most : ℕ) (lines : List Line) (before after : PassView Op Reply Z) (history : List (Entry Op Reply)) →
    before.own ≡ [] → before.caller ≡ 0 → before.ended ≡ [] → Grown before after → IsByKnownCallers after.ended after.seen → calls_by after.caller after.seen ≡ after.own → history ≡ after.seen → limit ≡ most →
    RunsLines how script (has_seen limit after) lines (calls_of before) (calls_of after) → RunsLines how script (length history == most) lines [] (map from_hall history)
ran_all how script limit most lines before after history none zero joined grown known is all same runs =
    let own : after.own ≡ history = alone after.ended after.seen after.own (grown.same.ended ∙ joined) known (subst (λ (k : ℕ). calls_by k after.seen ≡ after.own) (grown.same.caller ∙ zero) is) ∙ sym all in
    let seen = subst (λ (l : List (Entry Op Reply)). RunsLines how script (length l == limit) lines (calls_of before) (calls_of after)) (sym all) runs in
    let limited = subst (λ (k : ℕ). RunsLines how script (length history == k) lines (calls_of before) (calls_of after)) same seen in
    let begun = subst (λ (l : List (Entry Op Reply)). RunsLines how script (length history == most) lines (map from_hall l) (calls_of after)) none limited in
    subst (λ (l : List (Entry Op Reply)). RunsLines how script (length history == most) lines [] (map from_hall l)) own begun

-- and so of the framework's own history
pub as_told : (how : Ran) (script : Sections) (limit most : ℕ) (lines : List Line) (history entries : List framework.Entry) → limit ≡ most → entries ≡ history →
    RunsLines how script (length (map as_hall history) == limit) lines [] (map from_hall (map as_hall history)) → RunsLines how script (length entries == most) lines [] entries
as_told how script limit most lines history entries same is runs =
    let told = subst (λ (l : List framework.Entry). RunsLines how script (length (map as_hall history) == limit) lines [] l) (from-as history) runs in
    let counted = subst (λ (k : ℕ). RunsLines how script (k == limit) lines [] history) (length-map history as_hall) told in
    let limited = subst (λ (k : ℕ). RunsLines how script (length history == k) lines [] history) same counted in
    subst (λ (l : List framework.Entry). RunsLines how script (length l == most) lines [] l) (sym is) limited
