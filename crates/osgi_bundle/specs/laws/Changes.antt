-- A table that stands for a history, after a start or a stop began or ended.
use Rattle.std.proofs.Common.{◌≡◌, inl, inr, ℕ, List, [], ◌∷◌, ◌++◌, map, ap, sym, subst, ◌∙◌, refl}
use Rattle.std.specs.Prelude.{◌==◌, Bool, true, false, cond, Option, None, Some, Contains, IsSomeAnd, unwrap_or}
use Rattle.std.proofs.lemmas.Bool.{cases_eq, eq-eqb, ne_eqb}
use Rattle.osgi_base.specs.declared.ids.BundleId.{BundleId}
use Rattle.osgi_base.specs.declared.ids.Tag.{Tag}
use Rattle.osgi_bundle.specs.Rows.{has_bundle_id, row_at, TableRows, with_begun, with_state}
use Rattle.osgi_bundle.specs.Stands.{kept_of, Puts, StandsFor, StandsPut}
use Rattle.osgi_bundle.specs.declared.kept.BundleKept.{BundleKept}
use Rattle.osgi_bundle.specs.laws.Standing.{kept_alike, map_alike, map_twice, same_bundles, same_count, same_live, state_alike}
use Rattle.osgi_ops.specs.Bundles.{Active, begun_by, Bundle, bundles, idle, is_live, last_begin, number_of, Phase, phase as phase_of, put_into, running, starting, state, stopping, Uninstalled}
use Rattle.osgi_ops.specs.Resolved.{is_resolved}
use Rattle.osgi_ops.specs.declared.depot.DepotRow.{DepotRow}
use Rattle.osgi_ops.specs.declared.entry.Entry.{Entry}
use Rattle.osgi_ops.specs.declared.state.TheConstants.{ACTIVE}
use Rattle.osgi_ops.specs.laws.Along.{latest-quiet, latest-set}
use Rattle.osgi_ops.specs.laws.Bundles.{last_begin-kept, phase-kept, row-live}
use Rattle.osgi_world.specs.declared.world.World.{World}

-- the tag of an entry that puts a bundle into this phase, where it begins a start or a stop
abbrev tag_of : Tag → Option Phase → Option Tag
tag_of tag o = elim o [ Some starting ↦ Some tag | Some stopping ↦ Some tag | _ ↦ None ]

-- the bundle is another than the system bundle, whatever the table stands for
abbrev pub IsNoSystem : BundleId → TableRows → Type 0
IsNoSystem bundle table = (depot : List DepotRow) (history : List Entry) (world : World) → StandsFor depot history world table → ¬ (bundle.0 ≡ 0)

-- for the system bundle's row is active
pub no_system : (bundle : BundleId) (table : TableRows) → IsSomeAnd (row_at bundle table.rows) (λ (row : BundleKept). ¬ (row.state ≡ ACTIVE)) → IsNoSystem bundle table
no_system bundle table other depot history world stands own =
    let rows : List BundleKept = map (kept_of world history) (bundles depot history) in
    let given : IsSomeAnd (row_at bundle rows) (λ (row : BundleKept). ¬ (row.state ≡ ACTIVE)) = subst (λ l. IsSomeAnd (row_at bundle l) (λ (row : BundleKept). ¬ (row.state ≡ ACTIVE))) stands.rows other in
    by (0 == bundle.0) (eq-eqb 0 bundle.0 (sym own)) _ _ refl given
  where
    by : (here : Bool) → here ≡ true → (first : BundleKept) (more : Option BundleKept) → first.state ≡ ACTIVE → IsSomeAnd (cond here (Some first) more) (λ (row : BundleKept). ¬ (row.state ≡ ACTIVE)) → ⊥
    by true is first more active given = given active
    by false is first more active given = absurd (cc is)

module _ (depot : List DepotRow) (history : List Entry) (world : World) (phase : Phase) (bundle : BundleId) (e : Entry) (puts : Puts phase bundle e) where
  -- other bundles are kept as they were
  others_put : (b : Bundle) → ¬ (b.bundle.0 ≡ bundle.0) → kept_of world history b ≡ kept_of world (history ++ e ∷ []) b
  others_put b other =
      let none : put_into b.bundle e.op e.reply ≡ None = puts.puts b.bundle ∙ ap (λ t. cond t (Some phase) None) (ne_eqb bundle.0 b.bundle.0 (λ same. other (sym same))) in
      kept_alike world world history (history ++ e ∷ []) b
      (state_alike world world history (history ++ e ∷ []) b.bundle (sym (same_live depot history e puts.installs puts.uninstalls b.bundle)) (sym (phase-kept b.bundle history e none)) refl)
      (sym (last_begin-kept b.bundle history e none))

  own_put : put_into bundle e.op e.reply ≡ Some phase
  own_put = puts.puts bundle ∙ ap (λ t. cond t (Some phase) None) (eq-eqb bundle.0 bundle.0 refl)

  own_phase : phase_of bundle (history ++ e ∷ []) ≡ phase
  own_phase = ap (λ o. unwrap_or o idle) (latest-set (λ (x : Entry). put_into bundle x.op x.reply) history e phase own_put)

  -- the bundle is in the phase's state
  own_state : ¬ (bundle.0 ≡ 0) → is_live bundle history ≡ true → is_resolved world bundle ≡ true → state world (history ++ e ∷ []) bundle ≡ running phase true
  own_state apart live resolved =
      let other : (bundle.0 == 0) ≡ false = ne_eqb bundle.0 0 apart in
      let there : is_live bundle (history ++ e ∷ []) ≡ true = same_live depot history e puts.installs puts.uninstalls bundle ∙ live in
      λ i. cond (other i) Active (cond (there i) (running (own_phase i) (resolved i)) Uninstalled)

  -- and its last begin is this entry, if it is a begin
  own_begun : tag_of e.tag (Some phase) ≡ Some e.tag → last_begin bundle (history ++ e ∷ []) ≡ Some e.tag
  own_begun begins = latest-set (begun_by bundle) history e e.tag (ap (tag_of e.tag) own_put ∙ begins)

  own_ended : tag_of e.tag (Some phase) ≡ None → last_begin bundle (history ++ e ∷ []) ≡ last_begin bundle history
  own_ended ends = latest-quiet (begun_by bundle) history e (ap (tag_of e.tag) own_put ∙ ends)

  -- rows where that of the bundle is changed to what is kept of it
  stands_changed : (f : BundleKept → BundleKept) (old new : TableRows) →
      ((b : Bundle) → Contains (bundles depot history) b → b.bundle ≡ bundle → f (kept_of world history b) ≡ kept_of world (history ++ e ∷ []) b) → StandsFor depot history world old →
      new.rows ≡ map (λ (row : BundleKept). cond (has_bundle_id bundle row) (f row) row) old.rows → new.issued ≡ old.issued → StandsFor depot (history ++ e ∷ []) world new
  stands_changed f old new own stands rows issued =
      let g : BundleKept → BundleKept = λ row. cond (has_bundle_id bundle row) (f row) row in
      let each : (b : Bundle) → Contains (bundles depot history) b → g (kept_of world history b) ≡ kept_of world (history ++ e ∷ []) b = λ b there. elim (cases_eq b.bundle.0 bundle.0) [
        | inl same ↦ ap (λ t. cond t (f (kept_of world history b)) (kept_of world history b)) (eq-eqb b.bundle.0 bundle.0 same) ∙ own b there (λ i. record { 0 = same i })
        | inr other ↦ ap (λ t. cond t (f (kept_of world history b)) (kept_of world history b)) (ne_eqb b.bundle.0 bundle.0 other) ∙ others_put b other
      ] in
      record {
        rows =
            rows
            ∙ ap (map g) stands.rows
            ∙ map_twice g (kept_of world history) (bundles depot history)
            ∙ map_alike (λ b. g (kept_of world history b)) (kept_of world (history ++ e ∷ [])) (bundles depot history) each
            ∙ ap (map (kept_of world (history ++ e ∷ []))) (sym (same_bundles depot history e puts.installs puts.uninstalls puts.updates));
        issued = issued ∙ stands.issued ∙ sym (same_count depot history e puts.installs puts.uninstalls);
      }

  module _ (apart : ¬ (bundle.0 ≡ 0)) (resolved : is_resolved world bundle ≡ true) (old new : TableRows) (stands : StandsFor depot history world old) (number : ℕ) (is : number_of (running phase true) ≡ number) where
    state_put : (b : Bundle) → Contains (bundles depot history) b → b.bundle ≡ bundle → number ≡ number_of (state world (history ++ e ∷ []) b.bundle)
    state_put b there same =
        let live : is_live bundle history ≡ true = subst (λ (c : BundleId). is_live c history ≡ true) same (row-live depot history b there) in
        sym is ∙ ap number_of (sym (own_state apart live resolved)) ∙ ap (λ (c : BundleId). number_of (state world (history ++ e ∷ []) c)) (sym same)

    -- a begin puts the state and the tag
    begun_put : tag_of e.tag (Some phase) ≡ Some e.tag → new.rows ≡ with_begun bundle number e.tag old.rows → new.issued ≡ old.issued → StandsFor depot (history ++ e ∷ []) world new
    begun_put begins rows issued =
        stands_changed (λ row. record row { state = number; by = Some e.tag }) old new
        (λ b there same. λ i. record (kept_of world history b) { state = state_put b there same i; by = (sym (own_begun begins) ∙ ap (λ (c : BundleId). last_begin c (history ++ e ∷ [])) (sym same)) i }) stands rows issued

    -- an end the state alone
    ended_put : tag_of e.tag (Some phase) ≡ None → new.rows ≡ with_state bundle number old.rows → new.issued ≡ old.issued → StandsFor depot (history ++ e ∷ []) world new
    ended_put ends rows issued =
        stands_changed (λ row. record row { state = number }) old new
        (λ b there same. λ i. record (kept_of world history b) {
          state = state_put b there same i;
          by = (ap (λ (c : BundleId). last_begin c history) same ∙ sym (own_ended ends) ∙ ap (λ (c : BundleId). last_begin c (history ++ e ∷ [])) (sym same)) i;
        }) stands rows issued

-- the rows where a start or a stop of the bundle began
pub stands_begun : (phase : Phase) (number : ℕ) (tag : Tag) (bundle : BundleId) (old new : TableRows) → number_of (running phase true) ≡ number → ((t : Tag) → tag_of t (Some phase) ≡ Some t) → IsNoSystem bundle old →
    new.rows ≡ with_begun bundle number tag old.rows → new.issued ≡ old.issued → StandsPut phase tag bundle old new
stands_begun phase number tag bundle old new is begins apart rows issued = λ depot history world e tagged puts resolved stands.
    begun_put depot history world phase bundle e puts (apart depot history world stands) resolved old new stands number is (begins e.tag)
    (rows ∙ ap (λ t. with_begun bundle number t old.rows) (sym tagged)) issued

-- and where it ended
pub stands_ended : (phase : Phase) (number : ℕ) (tag : Tag) (bundle : BundleId) (old new : TableRows) → number_of (running phase true) ≡ number → ((t : Tag) → tag_of t (Some phase) ≡ None) → IsNoSystem bundle old →
    new.rows ≡ with_state bundle number old.rows → new.issued ≡ old.issued → StandsPut phase tag bundle old new
stands_ended phase number tag bundle old new is ends apart rows issued = λ depot history world e tagged puts resolved stands.
    ended_put depot history world phase bundle e puts (apart depot history world stands) resolved old new stands number is (ends e.tag) rows issued
