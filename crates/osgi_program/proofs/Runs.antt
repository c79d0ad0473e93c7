-- Lines that run one after another.
use Rattle.std.proofs.Common.{◌≡◌, inl, inr, List, [], ◌∷◌, ◌++◌, ap, sym, subst, ◌∙◌, refl, append_assoc}
use Rattle.std.specs.Prelude.{Bool, true, false}
use Rattle.osgi_ops.specs.declared.entry.Entry.{Entry}
use Rattle.osgi_program.specs.computed.Running.{IsSpentOrFull, RunsLine, RunsLines, Unspent}
use Rattle.osgi_program.specs.declared.lines.Ran.{Ran}
use Rattle.osgi_program.specs.declared.lines.Ran.TheVariants as ran
use Rattle.osgi_runs.proofs.Plain.{cut-there, idle-more, ran-more}
use Rattle.osgi_runs.specs.Plain.{commands_in}
use Rattle.osgi_session.specs.Runs.{Sections}
use Rattle.osgi_session.specs.Sessions.{IsCutRunOf, Lane, Never}
use Rattle.osgi_session.specs.declared.line.Line.{Line}

-- the lines so far, and what they made of the history
pub record SoFar (script : Sections) (front : List Line) (before after : List Entry) : Type 0 where
  pub made : List Entry
  pub is : after ≡ before ++ made
  pub lane : Lane script Never 0 false (commands_in front) made

joined : (before middle after made more : List Entry) → middle ≡ before ++ made → after ≡ middle ++ more → after ≡ before ++ (made ++ more)
joined before middle after made more first second = second ∙ ap (λ l. l ++ more) first ∙ append_assoc before made more

-- one more line
pub one_more : (script : Sections) (full : Bool) (front : List Line) (line : Line) (before middle after : List Entry) → SoFar script front before middle → RunsLine ran.All script full line middle after →
    SoFar script (front ++ line ∷ []) before after
one_more script full front line before middle after so_far (inl idle) =
    record { made = so_far.made; is = idle.2 ∙ so_far.is; lane = idle-more front line so_far.made so_far.lane idle.0 }
one_more script full front line before middle after so_far (inr (more, is, runs)) =
    record { made = so_far.made ++ more; is = joined before middle after so_far.made more so_far.is is; lane = ran-more front line so_far.made more so_far.lane runs }

cut_lane : (script : Sections) (lawful : Bool → Type 0) (lines front : List Line) (line : Line) (rest : List Line) (spent : Bool) (made more : List Entry) → lines ≡ front ++ line ∷ rest →
    Lane script Never 0 false (commands_in front) made → IsCutRunOf script 0 line spent more → lawful spent → Lane script lawful 0 true (commands_in lines) (made ++ more)
cut_lane script lawful lines front line rest spent made more is lane was_cut allowed =
    subst (λ (l : List Line). Lane script lawful 0 true (commands_in l) (made ++ more)) (sym is) (cut-there front line rest spent made more lane was_cut allowed)

-- a line whose run was cut, with those that were never begun
pub cut_line : (how : Ran) (script : Sections) (full : Bool) (lines front : List Line) (line : Line) (rest : List Line) (before middle after : List Entry) → lines ≡ front ++ line ∷ rest →
    SoFar script front before middle → (how ≡ ran.All → ⊥) → RunsLine how script full line middle after → RunsLines how script full lines before after
cut_line how script full lines front line rest before middle after is so_far other (inl idle) = absurd (other idle.1)
cut_line ran.All script full lines front line rest before middle after is so_far other (inr one) = absurd (other refl)
cut_line ran.Cut script full lines front line rest before middle after is so_far other (inr (inl (more, added, was_cut))) = (
  so_far.made ++ more,
  joined before middle after so_far.made more so_far.is added,
  cut_lane script (IsSpentOrFull full) lines front line rest true so_far.made more is so_far.lane was_cut (inl refl),
)
cut_line ran.Cut script full lines front line rest before middle after is so_far other (inr (inr (is_full, (more, added, was_cut)))) = (
  so_far.made ++ more,
  joined before middle after so_far.made more so_far.is added,
  cut_lane script (IsSpentOrFull full) lines front line rest false so_far.made more is so_far.lane was_cut (inr is_full),
)
cut_line ran.Starved script full lines front line rest before middle after is so_far other (inr (more, added, was_cut)) =
    (so_far.made ++ more, joined before middle after so_far.made more so_far.is added, cut_lane script Unspent lines front line rest false so_far.made more is so_far.lane was_cut refl)
