-- Readings of runs: one task reads one list of calls in one way, so a whole run is no beginning of another one.
use Rattle.std.proofs.Common.{◌≡◌, ℕ, ◌⊎◌, inl, inr, List, [], ◌∷◌, ◌++◌, Bool, true, false, refl, sym, ap, ◌∙◌, subst}
use Rattle.osgi_base.specs.declared.ids.BundleId.{BundleId}
use Rattle.osgi_base.specs.declared.ids.ListenerId.{ListenerId}
use Rattle.osgi_session.specs.Plans.{End, done, failed, Plan, ask, run, stop, stirs, plan}
use Rattle.osgi_session.specs.Runs.{Binding, Call, call, command_of, bind, bound_by, has_failed, event_bindings, Task, planned, drained, statements, taking, ends_drain, ends_jobs, Sections, Reads, at_stop, asked, ran, calm, empty, handed, over, fails, goes, none, took, Follows}
use Rattle.osgi_ops.specs.declared.event.Event.{Event}
use Rattle.osgi_ops.specs.declared.kind.Kind.{Kind}
use Rattle.osgi_ops.specs.declared.op.Op.{Op}
use Rattle.osgi_ops.specs.declared.op.Op.TheVariants.{Hand, EndHand, TakeJob, EndJob}
use Rattle.osgi_ops.specs.declared.refusal.Refusal.TheVariants.{HandingsSpent}
use Rattle.osgi_ops.specs.declared.reply.Reply.{Reply}
use Rattle.osgi_ops.specs.declared.reply.Reply.TheVariants.{Refused, Handed, Job}
use Rattle.osgi_session.specs.declared.command.Command.{Command}
use Rattle.osgi_ops.specs.declared.section.Section.{Section}
use Rattle.osgi_ops.specs.declared.section.Section.TheVariants as section
use Rattle.osgi_session.specs.declared.statement.Statement.{Statement}

-- a drain or the taking of jobs went on with a section and its end, and then with itself
pub record Inner (script : Sections) (again : Task) (owner : BundleId) (bindings : List Binding) (body : List Statement) (ends : Op) (calls left : List Call) : Type 0 where
  pub end : End
  pub quiet : End
  pub reply : Reply
  pub mid : List Call
  pub inside : Reads script (statements owner bindings body) end calls (call ends reply ∷ mid)
  pub rest : Reads script again quiet mid left

-- one step of a reading, taken back
abbrev pub AfterHand : Sections → Reply → List Call → List Call → Type 0
AfterHand script (Handed listener kind owner row name event) calls left =
    Inner script (drained true) owner (event_bindings event) (script row (section.On name)) (EndHand listener) calls left
AfterHand script (Refused HandingsSpent) calls left = ⊥
AfterHand script reply calls left = calls ≡ left

abbrev pub AfterTake : Sections → Reply → List Call → List Call → Type 0
AfterTake script (Job owner row name) calls left = Inner script taking owner [] (script row (section.Job name)) EndJob calls left
AfterTake script reply calls left = calls ≡ left

abbrev pub Back : Sections → Task → End → List Call → List Call → Type 0
Back script (planned (stop e)) end calls left = (e ≡ end) × (calls ≡ left)
Back script (planned (ask asks next)) end calls left =
    (reply : Reply) × (quiet : End) × (more : List Call) × (mid : List Call) × (calls ≡ call asks reply ∷ more)
    × Reads script (drained (stirs asks reply)) quiet more mid × Reads script (planned (next reply)) end mid left
Back script (planned (run row owner which next)) end calls left =
    (inner : End) × (mid : List Call) × Reads script (statements owner [] (script row which)) inner calls mid × Reads script (planned (next (has_failed inner))) end mid left
Back script (drained false) end calls left = (done ≡ end) × (calls ≡ left)
Back script (drained true) end calls left = (reply : Reply) × (more : List Call) × (calls ≡ call Hand reply ∷ more) × (done ≡ end) × AfterHand script reply more left
Back script (statements owner bindings []) end calls left = (done ≡ end) × (calls ≡ left)
Back script (statements owner bindings (s ∷ more)) end calls left =
    (inner : End) × (mid : List Call) × Reads script (planned (plan owner (command_of owner bindings s))) inner calls mid
    × (((has_failed inner ≡ true) × (failed ≡ end) × (mid ≡ left))
    ⊎ ((has_failed inner ≡ false) × Reads script (statements owner (bind (bound_by s) inner bindings) more) end mid left))
Back script taking end calls left = (reply : Reply) × (more : List Call) × (calls ≡ call TakeJob reply ∷ more) × (done ≡ end) × AfterTake script reply more left

after_hand : (script : Sections) (reply : Reply) (left : List Call) → ends_drain reply ≡ true → AfterHand script reply left left
after_hand script (Handed listener kind owner row name event) left e = absurd (cc e)
after_hand script (Refused HandingsSpent) left e = absurd (cc e)
after_hand script reply left e = refl

after_take : (script : Sections) (reply : Reply) (left : List Call) → ends_jobs reply ≡ true → AfterTake script reply left left
after_take script (Job owner row name) left e = absurd (cc e)
after_take script reply left e = refl

pub back : {script : Sections} {t : Task} {end : End} {calls left : List Call} → Reads script t end calls left → Back script t end calls left
back at_stop = (refl, refl)
back (asked {reply = y} {quiet = q} {calls = c} {mid = m} d x) = (y, q, c, m, refl, d, x)
back (ran {inner = q} {mid = m} s x) = (q, m, s, x)
back calm = (refl, refl)
back {script} (empty {reply = y} {left = l} e) = (y, l, refl, refl, after_hand script y l e)
back (handed {listener = k} {kind = kd} {owner = o} {row = w} {name = n} {event = v} {reply = y} {end = e} {quiet = q} {calls = c} {mid = m} s x) =
    (Handed k kd o w n v, c, refl, refl, record { end = e; quiet = q; reply = y; mid = m; inside = s; rest = x })
back over = (refl, refl)
back (fails {end = e} {left = l} x f) = (e, l, x, inl (f, refl, refl))
back (goes {inner = e} {mid = m} x f y) = (e, m, x, inr (f, y))
back {script} (none {reply = y} {left = l} e) = (y, l, refl, refl, after_take script y l e)
back (took {owner = o} {row = w} {name = n} {reply = y} {end = e} {quiet = q} {calls = c} {mid = m} s x) =
    (Job o w n, c, refl, refl, record { end = e; quiet = q; reply = y; mid = m; inside = s; rest = x })

-- every reading of the same task from the same calls ends alike
pub record Same (script : Sections) (t : Task) (end : End) (calls left : List Call) : Type 0 where
  pub same : (e : End) (rest : List Call) → Reads script t e calls rest → (end ≡ e) × (left ≡ rest)

same-asked : {script : Sections} {asks : Op} {next : Reply → Plan} {reply : Reply} {quiet end : End} {calls mid left : List Call} →
    Same script (drained (stirs asks reply)) quiet calls mid → Same script (planned (next reply)) end mid left →
    Same script (planned (ask asks next)) end (call asks reply ∷ calls) left
same-asked {script} {asks} {next} {reply} {quiet} {end} {calls} {mid} {left} ih jh = record {
  same = λ e rest y.
      let b = back y in
      let r : reply ≡ b.0 = ap (λ c. c.reply) (let h : call asks reply ≡ call asks b.0 = cc (b.4) in h) in
      let c : calls ≡ b.2 = cc (b.4) in
      let m : mid ≡ b.3 = (ih.same b.1 b.3 (subst (λ k. Reads script (drained (stirs asks k)) b.1 calls b.3) (sym r) (subst (λ l. Reads script (drained (stirs asks b.0)) b.1 l b.3) (sym c) b.5))).1 in
      jh.same e rest (subst (λ k. Reads script (planned (next k)) e mid rest) (sym r) (subst (λ l. Reads script (planned (next b.0)) e l rest) (sym m) b.6));
}

same-ran : {script : Sections} {row : ℕ} {owner : BundleId} {which : Section} {next : Bool → Plan} {inner end : End} {calls mid left : List Call} →
    Same script (statements owner [] (script row which)) inner calls mid → Same script (planned (next (has_failed inner))) end mid left →
    Same script (planned (run row owner which next)) end calls left
same-ran {script} {row} {owner} {which} {next} {inner} {end} {calls} {mid} ih jh = record {
  same = λ e rest y.
      let b = back y in
      let h = ih.same b.0 b.1 b.2 in
      jh.same e rest (subst (λ k. Reads script (planned (next (has_failed k))) e mid rest) (sym h.0) (subst (λ l. Reads script (planned (next (has_failed b.0))) e l rest) (sym h.1) b.3));
}

-- the end of a drain or of the jobs leaves what comes behind it
hand-ended : (script : Sections) (reply : Reply) (left rest : List Call) → ends_drain reply ≡ true → AfterHand script reply left rest → left ≡ rest
hand-ended script (Handed listener kind owner row name event) left rest e a = absurd (cc e)
hand-ended script (Refused HandingsSpent) left rest e a = absurd (cc e)
hand-ended script reply left rest e a = a

take-ended : (script : Sections) (reply : Reply) (left rest : List Call) → ends_jobs reply ≡ true → AfterTake script reply left rest → left ≡ rest
take-ended script (Job owner row name) left rest e a = absurd (cc e)
take-ended script reply left rest e a = a

same-empty : {script : Sections} {reply : Reply} {left : List Call} → ends_drain reply ≡ true → Same script (drained true) done (call Hand reply ∷ left) left
same-empty {script} {reply} {left} ends = record {
  same = λ e rest y.
      let b = back y in
      let r : reply ≡ b.0 = ap (λ c. c.reply) (let h : call Hand reply ≡ call Hand b.0 = cc (b.2) in h) in
      let c : left ≡ b.1 = cc (b.2) in
      (b.3, hand-ended script reply left rest ends (subst (λ k. AfterHand script k left rest) (sym r) (subst (λ l. AfterHand script b.0 l rest) (sym c) b.4)));
}

same-none : {script : Sections} {reply : Reply} {left : List Call} → ends_jobs reply ≡ true → Same script taking done (call TakeJob reply ∷ left) left
same-none {script} {reply} {left} ends = record {
  same = λ e rest y.
      let b = back y in
      let r : reply ≡ b.0 = ap (λ c. c.reply) (let h : call TakeJob reply ≡ call TakeJob b.0 = cc (b.2) in h) in
      let c : left ≡ b.1 = cc (b.2) in
      (b.3, take-ended script reply left rest ends (subst (λ k. AfterTake script k left rest) (sym r) (subst (λ l. AfterTake script b.0 l rest) (sym c) b.4)));
}

inner-same : {script : Sections} {again : Task} {owner : BundleId} {bindings : List Binding} {body : List Statement} {ends : Op} {end quiet : End} {reply : Reply} {calls mid left rest : List Call} →
    Same script (statements owner bindings body) end calls (call ends reply ∷ mid) → Same script again quiet mid left →
    Inner script again owner bindings body ends calls rest → left ≡ rest
inner-same {script} {again} {ends = ends} {reply = reply} {mid = mid} {left = left} {rest = rest} ih jh a =
    let m : mid ≡ a.mid = cc ((ih.same a.end (call ends a.reply ∷ a.mid) a.inside).1) in
    (jh.same a.quiet rest (subst (λ l. Reads script again a.quiet l rest) (sym m) a.rest)).1

same-handed : {script : Sections} {listener : ListenerId} {kind : Kind} {owner : BundleId} {row : ℕ} {name : List ℕ} {event : Event} {reply : Reply} {end quiet : End} {calls mid left : List Call} →
    Same script (statements owner (event_bindings event) (script row (section.On name))) end calls (call (EndHand listener) reply ∷ mid) → Same script (drained true) quiet mid left →
    Same script (drained true) done (call Hand (Handed listener kind owner row name event) ∷ calls) left
same-handed {script} {listener} {kind} {owner} {row} {name} {event} {calls = calls} {left = left} ih jh = record {
  same = λ e rest y.
      let b = back y in
      let r : Handed listener kind owner row name event ≡ b.0 = ap (λ c. c.reply) (let h : call Hand (Handed listener kind owner row name event) ≡ call Hand b.0 = cc (b.2) in h) in
      let c : calls ≡ b.1 = cc (b.2) in
      let a : AfterHand script (Handed listener kind owner row name event) calls rest = subst (λ k. AfterHand script k calls rest) (sym r) (subst (λ l. AfterHand script b.0 l rest) (sym c) b.4) in
      (b.3, inner-same ih jh a);
}

same-taken : {script : Sections} {owner : BundleId} {row : ℕ} {name : List ℕ} {reply : Reply} {end quiet : End} {calls mid left : List Call} →
    Same script (statements owner [] (script row (section.Job name))) end calls (call EndJob reply ∷ mid) → Same script taking quiet mid left →
    Same script taking done (call TakeJob (Job owner row name) ∷ calls) left
same-taken {script} {owner} {row} {name} {calls = calls} {left = left} ih jh = record {
  same = λ e rest y.
      let b = back y in
      let r : Job owner row name ≡ b.0 = ap (λ c. c.reply) (let h : call TakeJob (Job owner row name) ≡ call TakeJob b.0 = cc (b.2) in h) in
      let c : calls ≡ b.1 = cc (b.2) in
      let a : AfterTake script (Job owner row name) calls rest = subst (λ k. AfterTake script k calls rest) (sym r) (subst (λ l. AfterTake script b.0 l rest) (sym c) b.4) in
      (b.3, inner-same ih jh a);
}

apart : (a b : End) → a ≡ b → has_failed a ≡ true → has_failed b ≡ false → ⊥
apart a b e t f = let c : true ≡ false = sym t ∙ ap has_failed e ∙ f in cc c

same-fails : {script : Sections} {owner : BundleId} {bindings : List Binding} {s : Statement} {more : List Statement} {end : End} {calls left : List Call} →
    Same script (planned (plan owner (command_of owner bindings s))) end calls left → has_failed end ≡ true → Same script (statements owner bindings (s ∷ more)) failed calls left
same-fails {script} {end = end} {left = left} ih f = record {
  same = λ e rest y.
      let b = back y in
      let h = ih.same b.0 b.1 b.2 in
      elim b.3 [ inl p ↦ (p.1, h.1 ∙ p.2) | inr p ↦ absurd (apart end b.0 h.0 f p.0) ];
}

same-goes : {script : Sections} {owner : BundleId} {bindings : List Binding} {s : Statement} {more : List Statement} {end inner : End} {calls mid left : List Call} →
    Same script (planned (plan owner (command_of owner bindings s))) inner calls mid → has_failed inner ≡ false →
    Same script (statements owner (bind (bound_by s) inner bindings) more) end mid left → Same script (statements owner bindings (s ∷ more)) end calls left
same-goes {script} {owner} {bindings} {s} {more} {inner = inner} {mid = mid} ih f jh = record {
  same = λ e rest y.
      let b = back y in
      let h = ih.same b.0 b.1 b.2 in
      elim b.3 [
        | inl p ↦ absurd (apart b.0 inner (sym h.0) p.0 f)
        | inr p ↦ jh.same e rest (subst (λ k. Reads script (statements owner (bind (bound_by s) k bindings) more) e mid rest) (sym h.0)
            (subst (λ l. Reads script (statements owner (bind (bound_by s) b.0 bindings) more) e l rest) (sym h.1) p.1))
      ];
}

same-at_stop : {script : Sections} {end : End} {left : List Call} → Same script (planned (stop end)) end left left
same-at_stop = record { same = λ e rest y. back y }

same-over : {script : Sections} {owner : BundleId} {bindings : List Binding} {left : List Call} → Same script (statements owner bindings []) done left left
same-over = record { same = λ e rest y. back y }

same-calm : {script : Sections} {left : List Call} → Same script (drained false) done left left
same-calm = record { same = λ e rest y. back y }

pub reads-one : {script : Sections} {t : Task} {end : End} {calls left : List Call} → Reads script t end calls left → Same script t end calls left
reads-one at_stop = same-at_stop
reads-one (asked d x) = same-asked (reads-one d) (reads-one x)
reads-one (ran s x) = same-ran (reads-one s) (reads-one x)
reads-one calm = same-calm
reads-one (empty e) = same-empty e
reads-one (handed s x) = same-handed (reads-one s) (reads-one x)
reads-one over = same-over
reads-one (fails x f) = same-fails (reads-one x) f
reads-one (goes x f y) = same-goes (reads-one x) f (reads-one y)
reads-one (none e) = same-none e
reads-one (took s x) = same-taken (reads-one s) (reads-one x)

-- what is read does not depend on what stands behind it
pub reads-frame : {script : Sections} {t : Task} {end : End} {calls left : List Call} (more : List Call) → Reads script t end calls left → Reads script t end (calls ++ more) (left ++ more)
reads-frame more at_stop = at_stop
reads-frame more (asked d x) = asked (reads-frame more d) (reads-frame more x)
reads-frame more (ran s x) = ran (reads-frame more s) (reads-frame more x)
reads-frame more calm = calm
reads-frame more (empty e) = empty e
reads-frame more (handed s x) = handed (reads-frame more s) (reads-frame more x)
reads-frame more over = over
reads-frame more (fails x f) = fails (reads-frame more x) f
reads-frame more (goes x f y) = goes (reads-frame more x) f (reads-frame more y)
reads-frame more (none e) = none e
reads-frame more (took s x) = took (reads-frame more s) (reads-frame more x)

-- a whole run is not the beginning of another, so a run is whole or cut, and not both
pub whole-not-cut : {script : Sections} {c : Command} (calls more : List Call) → Follows script c calls → Follows script c (calls ++ more) → more ≡ []
whole-not-cut {script} calls more x y =
    let p = (reads-one (reads-frame more x.plan)).same y.end y.mid y.plan in
    ((reads-one (reads-frame more x.jobs)).same done [] (subst (λ l. Reads script taking done l []) (sym p.1) y.jobs)).1
