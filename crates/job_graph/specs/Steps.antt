-- What the steps of the reader and of the walks give.
use Rattle.std.specs.Prelude.{ℕ, ◌≡◌, ◌+◌, ◌*◌, ◌<◌, ◌≤◌, List, [], ◌∷◌, ◌++◌, length, map, drop, Bool, true, false, Option, Some, None}
use Rattle.std.specs.Prelude.{slice_index, slice_index_or, if◌then◌else◌, All}
use Rattle.job_graph.specs.declared.fault.GraphError.{GraphError}
use Rattle.job_graph.specs.declared.fault.GraphError.TheVariants as error
use Rattle.job_graph.specs.declared.walk.Mark.{Mark}
use Rattle.job_graph.specs.declared.walk.Mark.TheVariants as mark
use Rattle.job_graph.specs.declared.walk.Step.{Step}
use Rattle.job_graph.specs.declared.walk.Stop.{Stop}
use Rattle.job_graph.specs.declared.walk.Stop.TheVariants as stop
use Rattle.job_graph.specs.declared.depths.Found.{Found}
use Rattle.job_graph.specs.declared.depths.Found.TheVariants as found
use Rattle.job_graph.specs.declared.fates.Wave.{Wave}
use Rattle.job_graph.specs.Needs.{is_graph_job, needs_fault}
use Rattle.job_graph.specs.Depths.{depth_above, needs_at, DepthsOf}
use Rattle.job_graph.specs.Cycles.{Needs, IsRing, AreDistinct, IsCycle}

-- ---- reading

-- how many of these lines are jobs of the graph
abbrev pub job_count : List (List ℕ) → ℕ
job_count [] = 0
job_count (l ∷ ls) = if is_graph_job l then job_count ls + 1 else job_count ls

-- the error is the first wrong line of needs, or memory ran out
abbrev pub IsNeedsError : ℕ → List ℕ → GraphError → Type 0
IsNeedsError count text (error.Jobs at fault) = ⊥
IsNeedsError count text (error.Fault at fault) = needs_fault count text ≡ Some (record { line = at; fault = fault })
IsNeedsError count text (error.Cycle cycle) = ⊥
IsNeedsError count text error.Memory = Unit {0}

-- ---- marks

abbrev pub mark_at : List Mark → ℕ → Mark
mark_at marks job = slice_index_or marks job mark.Fresh

abbrev pub is_fresh : Mark → Bool
is_fresh mark.Fresh = true
is_fresh (mark.Open place) = false
is_fresh (mark.Known depth) = false

abbrev pub IsKnown : Mark → Type 0
IsKnown mark.Fresh = ⊥
IsKnown (mark.Open place) = ⊥
IsKnown (mark.Known depth) = Unit {0}

abbrev pub known_depth : Mark → ℕ
known_depth mark.Fresh = 0
known_depth (mark.Open place) = 0
known_depth (mark.Known depth) = depth

-- how many steps of the walk a job may still take
abbrev pub steps_left : Mark → ℕ
steps_left mark.Fresh = 2
steps_left (mark.Open place) = 1
steps_left (mark.Known depth) = 0

abbrev pub all_steps_left : List Mark → ℕ
all_steps_left [] = 0
all_steps_left (m ∷ ms) = steps_left m + all_steps_left ms

-- the place at which a look over needs stops, by the cause
abbrev pub Ends : List ℕ → List Mark → ℕ → Stop → Type 0
Ends needs marks at stop.End = at ≡ length needs
Ends needs marks at (stop.Fresh job) = (at < length needs) × (slice_index needs at ≡ job) × (mark_at marks job ≡ mark.Fresh)
Ends needs marks at (stop.Open place) = (at < length needs) × (mark_at marks (slice_index needs at) ≡ mark.Open place)

-- ---- the walk

-- the needs of a known job are known, and its depth is that over them
pub record IsSettled (needs : List (List ℕ)) (marks : List Mark) (job : ℕ) : Type 0 where
  pub all : All (λ n. IsKnown (mark_at marks n)) (needs_at needs job)
  pub depth : known_depth (mark_at marks job) ≡ depth_above (λ n. known_depth (mark_at marks n)) (needs_at needs job)

abbrev pub step_at : List Step → ℕ → Step
step_at path place = slice_index_or path place (record { job = 0; known = 0 })

abbrev pub job_at : List Step → ℕ → ℕ
job_at path place = (step_at path place).job

-- the first needs of a job on the path are known
pub record HasSeen (needs : List (List ℕ)) (marks : List Mark) (step : Step) : Type 0 where
  pub within : step.known ≤ length (needs_at needs step.job)
  pub known : (k : ℕ) → k < step.known → IsKnown (mark_at marks (slice_index (needs_at needs step.job) k))

-- the state of a walk: known jobs are settled; those on the path are open, each by its place, and each needs the next
pub record Walk (needs : List (List ℕ)) (marks : List Mark) (path : List Step) : Type 0 where
  pub long : length marks ≡ length needs
  pub settled : (job : ℕ) → IsKnown (mark_at marks job) → IsSettled needs marks job
  pub low : (job : ℕ) → known_depth (mark_at marks job) + all_steps_left marks ≤ 2 * length needs
  pub placed : (job place : ℕ) → mark_at marks job ≡ mark.Open place → (place < length path) × (job_at path place ≡ job)
  pub stands : (place : ℕ) → place < length path → mark_at marks (job_at path place) ≡ mark.Open place
  pub seen : (place : ℕ) → place < length path → HasSeen needs marks (step_at path place)
  pub linked : (place : ℕ) → place + 1 < length path → Needs needs (job_at path place) (job_at path (place + 1))

-- a step on: the walk goes on over this path, with fewer steps to come, and no job is farther from being known
pub record StepsOn (needs : List (List ℕ)) (old new : List Mark) (path : List Step) : Type 0 where
  pub walk : Walk needs new path
  pub fewer : all_steps_left new < all_steps_left old
  pub kept : (other : ℕ) → IsKnown (mark_at old other) → IsKnown (mark_at new other)
  pub begun : (other : ℕ) → is_fresh (mark_at old other) ≡ false → is_fresh (mark_at new other) ≡ false

-- this job is known, and so are all that were
pub record Reaches (old new : List Mark) (job : ℕ) : Type 0 where
  pub reached : IsKnown (mark_at new job)
  pub kept : (other : ℕ) → IsKnown (mark_at old other) → IsKnown (mark_at new other)

-- distinct jobs, each of which needs the next and the last the first
pub record IsRingOf (needs : List (List ℕ)) (jobs : List ℕ) : Type 0 where
  pub ring : IsRing needs jobs
  pub distinct : AreDistinct jobs

-- the depths, or a cycle
abbrev pub IsFound : List (List ℕ) → Found → Type 0
IsFound needs (found.Depths depths) = DepthsOf needs depths
IsFound needs (found.Cycle cycle) = IsCycle needs cycle

-- the jobs of a path from this place on need one another
pub record EndsInRing (needs : List (List ℕ)) (path : List Step) (place : ℕ) : Type 0 where
  pub within : place ≤ length path
  pub ring : IsRingOf needs (map (λ (step : Step). step.job) (drop place path))

-- ---- a wave

-- a job is added to those that run, or to those that are skipped
abbrev pub AddsJob : ℕ → Option ℕ → Wave → Wave → Type 0
AddsJob job None old new = new ≡ record { run = old.run ++ job ∷ []; skip = old.skip; by = old.by }
AddsJob job (Some by) old new = new ≡ record { run = old.run; skip = old.skip ++ job ∷ []; by = old.by ++ by ∷ [] }
