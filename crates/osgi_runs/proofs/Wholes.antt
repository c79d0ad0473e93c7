-- A session is whole without a cut, or a run of it was cut.
use Rattle.std.proofs.Common.{◌≡◌, ◌⊎◌, inl, inr, ◌+◌, ℕ, List, [], ◌∷◌, Bool, true, false, refl}
use Rattle.std.specs.Prelude.{◌||◌}
use Rattle.std.specs.List.{list_any}
use Rattle.std.proofs.lemmas.List.Elements.{All-head, All-tail}
use Rattle.osgi_session.specs.Runs.{Sections}
use Rattle.osgi_session.specs.Sessions.{AreLanes, Block, cut, IsCutRunOf, Lane, LaneRun, lanes, lanes_cut, Makes, Never, NoneCut, over, ran, SomeCut}
use Rattle.osgi_ops.specs.declared.entry.Entry.{Entry}
use Rattle.osgi_session.specs.declared.line.Line.{Line}

-- a run of a line was cut, as it may be
pub record WasCut (script : Sections) (lawful : Bool → Type 0) : Type 0 where
  pub caller : ℕ
  pub line : Line
  pub spent : Bool
  pub entries : List Entry
  pub is : IsCutRunOf script caller line spent entries
  pub allowed : lawful spent

pub uncut-lane : {script : Sections} {lawful : Bool → Type 0} {caller : ℕ} {was_cut : Bool} {lines : List Line} {entries : List Entry} →
    Lane script lawful caller was_cut lines entries → was_cut ≡ false → Lane script Never caller was_cut lines entries
uncut-lane over e = over
uncut-lane (ran r x) e = ran r (uncut-lane x e)
uncut-lane (cut c l) e = absurd (cc e)

lane-cut : {script : Sections} {lawful : Bool → Type 0} {caller : ℕ} {was_cut : Bool} {lines : List Line} {entries : List Entry} →
    Lane script lawful caller was_cut lines entries → was_cut ≡ true → WasCut script lawful
lane-cut over e = absurd (cc e)
lane-cut (ran r x) e = lane-cut x e
lane-cut {caller = c} (cut {spent = s} {line = l} {entries = n} k a) e = record { caller = c; line = l; spent = s; entries = n; is = k; allowed = a }

abbrev IsUncut : LaneRun → Type 0
IsUncut lane = lane.cut ≡ false

uncut-lanes : (script : Sections) (lawful : Bool → Type 0) (first : ℕ) (each : List LaneRun) (part : List Entry) → AreLanes script lawful first each part → NoneCut each →
    AreLanes script Never first each part
uncut-lanes script lawful first [] part a u = a
uncut-lanes script lawful first (lane ∷ more) part a u = (uncut-lane a.0 (All-head IsUncut lane more u), uncut-lanes script lawful (first + 1) more part a.1 (All-tail IsUncut lane more u))

cut-lanes : {script : Sections} {lawful : Bool → Type 0} (first : ℕ) (each : List LaneRun) (part : List Entry) → AreLanes script lawful first each part →
    SomeCut each → WasCut script lawful
cut-lanes first [] part a c = absurd (cc c)
cut-lanes {script} {lawful} first (lane ∷ more) part a c = go lane.cut refl c (cut-lanes (first + 1) more part a.1)
  where
    go : (k : Bool) → lane.cut ≡ k → (k || list_any (λ (l : LaneRun). l.cut) more) ≡ true → (SomeCut more → WasCut script lawful) → WasCut script lawful
    go true e q ih = lane-cut a.0 e
    go false e q ih = ih q

-- so a session whose lines are all whole, as status 0 and 1 say, is without a cut
pub whole-or-cut : {script : Sections} {lawful : Bool → Type 0} {first : ℕ} {more : List Block} {history : List Entry} → Makes script lawful first more history →
    Makes script Never first more history ⊎ WasCut script lawful
whole-or-cut over = inl over
whole-or-cut (ran r x) = elim (whole-or-cut x) [ inl y ↦ inl (ran r y) | inr c ↦ inr c ]
whole-or-cut (cut {spent = s} {line = l} {entries = n} k a) = inr (record { caller = 0; line = l; spent = s; entries = n; is = k; allowed = a })
whole-or-cut {script} {lawful} {first = first} (lanes each part from a none x) = elim (whole-or-cut x) [ inl y ↦ inl (lanes each part from (uncut-lanes script lawful first each part a none) none y) | inr c ↦ inr c ]
whole-or-cut {first = first} (lanes_cut each part from a some) = inr (cut-lanes first each part a some)
