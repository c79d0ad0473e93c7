-- The last decision of a course, as its mark has it.
use Rattle.std.specs.Prelude.{◌≡◌, List, [], ◌∷◌, ◌++◌, Option, None, Some, slice_get}
use Rattle.std.specs.Option.{option_to_list}
use Rattle.osgi_base.specs.declared.ids.RevisionId.{RevisionId}
use Rattle.osgi_resolver_path.specs.Wires.{wired_by}
use Rattle.osgi_resolver_path.specs.declared.course.Course.{Course}
use Rattle.osgi_resolver_path.specs.declared.course.Mark.{Mark}
use Rattle.osgi_resolver_path.specs.declared.last.Last.{Last}
use Rattle.osgi_resolver_path.specs.declared.step.Step.{Step}
use Rattle.osgi_resolver_path.specs.declared.step.Step.TheVariants.{Attached, Wired as WiredStep}

abbrev pub fragment_by : Option Step → List RevisionId
fragment_by None = []
fragment_by (Some (Attached host fragment)) = fragment ∷ []
fragment_by (Some (WiredStep revision wire)) = []

-- the mark is the last one, and who joined by it, if anyone did, stands where the members ended before it
pub record IsLastOf (course : Course) (last : Last) : Type 0 where
  pub mark : Mark
  pub before : List Mark
  pub marks : course.marks.items ≡ before ++ mark ∷ []
  pub decision_is : last.decision ≡ mark.decision
  pub value_is : last.value ≡ mark.value
  pub wired_is : option_to_list last.wired ≡ wired_by mark.step
  pub fragment_is : option_to_list last.fragment ≡ fragment_by mark.step
  pub joined_is : last.joined ≡ slice_get course.ids.items mark.ids
