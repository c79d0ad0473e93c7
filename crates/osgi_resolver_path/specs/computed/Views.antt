-- What is seen of a course: which decisions are of packages and bundles, and what decisions add.
use Rattle.std.specs.Prelude.{◌≡◌, ◌⊎◌, ℕ, Bool, true, false, List, [], Option, None, Some, reverse}
use Rattle.osgi_base.specs.declared.ids.RevisionId.{RevisionId}
use Rattle.osgi_world.specs.Decisions as decisions
use Rattle.osgi_world.specs.Decisions.{Made, attaching, choose, pick}
use Rattle.osgi_world.specs.DueDecisions.{fragments_of}
use Rattle.osgi_world.specs.Lists.{In, item_at}
use Rattle.osgi_world.specs.Lookups.{requirement_namespace}
use Rattle.osgi_world.specs.declared.problem.Problem.{Problem}
use Rattle.osgi_world.specs.declared.wiring.CapRef.{CapRef}
use Rattle.osgi_world.specs.declared.wiring.ReqRef.{ReqRef}
use Rattle.osgi_world.specs.declared.wiring.Wire.{Wire}
use Rattle.osgi_world.specs.declared.world.Known.{Known}
use Rattle.osgi_resolver_decisions.specs.DecisionOf.{decision_of}
use Rattle.osgi_resolver_path.specs.computed.Courses.{AreKnown, IsRight, lists_of, made_of}
use Rattle.osgi_resolver_decisions.specs.computed.Free.{is_of_space}
use Rattle.osgi_resolver_decisions.specs.computed.Known.{IsProblemIn}
use Rattle.osgi_resolver_path.specs.computed.Moving.{IsLearnt}
use Rattle.osgi_resolver_path.specs.computed.Valued.{AreValues}
use Rattle.osgi_resolver_path.specs.declared.course.Course.{Course}
use Rattle.osgi_resolver_decisions.specs.declared.decision_ref.DecisionRef.{DecisionRef}
use Rattle.osgi_resolver_decisions.specs.declared.lists.Lists.{Lists}
use Rattle.osgi_resolver_path.specs.declared.values.Values.{Values}

-- the course is right for the problem
abbrev pub IsAt : Problem → Course → Type 0
IsAt P course = IsRight P (reverse course.marks.items) (lists_of course)

-- what is decided
abbrev pub decided_in : Course → Made
decided_in course = made_of (reverse course.marks.items)

-- ---- decisions of attachments, bundle requirements and imports

abbrev pub is_spatial : List Known → decisions.Decision → Bool
is_spatial K (attaching h f) = true
is_spatial K (choose h q) = is_of_space (requirement_namespace K q)
is_spatial K (pick h q c) = is_of_space (requirement_namespace K q)

-- the next decision is one of these, where one is left
abbrev pub is_spatial_next : List Known → Option DecisionRef → Bool
is_spatial_next K None = false
is_spatial_next K (Some d) = is_spatial K (decision_of d)

-- ---- what is added

-- the course is right for the problem, and the lists know the candidates of its members
pub record IsReady (P : Problem) (lists : Lists) (course : Course) : Type 0 where
  pub in_it : IsProblemIn lists.offers P
  pub at : IsAt P course
  pub learnt : IsLearnt lists course
  pub known : AreKnown P lists (decided_in course) course.ids.items

-- and these are the values of its decisions
pub record IsReadyWith (P : Problem) (lists : Lists) (values : Values) (course : Course) : Type 0 where
  pub ready : IsReady P lists course
  pub values_are : AreValues values (decided_in course)

-- an owner of a part of the host's payload
abbrev pub IsOwner : Problem → Course → RevisionId → RevisionId → Type 0
IsOwner P course host owner = (owner ≡ host) ⊎ In owner (fragments_of P (decided_in course) host)

abbrev pub wire_to : ReqRef → CapRef → Wire
wire_to q c = record { requirement = q; capability = c }

-- the candidate by a value, if there is one
abbrev pub by_value : List CapRef → Option ℕ → List CapRef
by_value cs None = []
by_value cs (Some v) = item_at cs v
