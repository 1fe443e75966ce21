-- The jobs of one depth that run, and those that are skipped.
use Rattle.std.specs.Prelude.{ℕ, ◌==◌, List, [], ◌∷◌, length, map, min, Bool, true, false, not, ◌&&◌, Option, Some, None, if◌then◌else◌}
use Rattle.std.specs.Prelude.{slice_index, slice_index_or}
use Rattle.std.specs.List.{filter, range_with_len}
use Rattle.std.specs.Option.{is_some}
use Rattle.job_graph.specs.declared.fates.Fate.{Fate}
use Rattle.job_graph.specs.declared.fates.Fate.TheVariants.{Unknown, Good, Bad, Skipped}
use Rattle.job_graph.specs.declared.fates.Wave.{Wave}
use Rattle.job_graph.specs.declared.graph.Graph.{Graph}
use Rattle.job_graph.specs.Depths.{needs_at}

abbrev pub is_good : Fate → Bool
is_good Good = true
is_good Unknown = false
is_good Bad = false
is_good (Skipped by) = false

-- the fate of a job
abbrev pub fate_at : List Fate → ℕ → Fate
fate_at fates job = slice_index_or fates job Unknown

-- the lesser of a number and another, if there is one
abbrev pub lesser : ℕ → Option ℕ → Option ℕ
lesser n None = Some n
lesser n (Some m) = Some (min n m)

-- the least of these needs that isn't good, if one isn't
abbrev pub least_not_good : List Fate → List ℕ → Option ℕ
least_not_good fates [] = None
least_not_good fates (n ∷ ns) = if is_good (fate_at fates n) then least_not_good fates ns else lesser n (least_not_good fates ns)

-- the need for which a job is skipped, if it is
abbrev pub blocker : List (List ℕ) → List Fate → ℕ → Option ℕ
blocker needs fates job = least_not_good fates (needs_at needs job)

-- a job of this depth runs if all its needs are good, and is skipped if one isn't
abbrev pub runs : Graph → ℕ → List Fate → ℕ → Bool
runs graph level fates job = (slice_index graph.depths job == level) && not (is_some (blocker graph.needs fates job))

abbrev pub skips : Graph → ℕ → List Fate → ℕ → Bool
skips graph level fates job = (slice_index graph.depths job == level) && is_some (blocker graph.needs fates job)

abbrev pub or_zero : Option ℕ → ℕ
or_zero None = 0
or_zero (Some n) = n

-- all jobs, in order
abbrev pub all_jobs : Graph → List ℕ
all_jobs graph = range_with_len 0 (length graph.needs)

-- the jobs of this depth that run, those that are skipped, and for each of these the least of its needs that isn't good
abbrev pub wave_of : Graph → ℕ → List Fate → Wave
wave_of graph level fates =
    record {
      run = filter (runs graph level fates) (all_jobs graph);
      skip = filter (skips graph level fates) (all_jobs graph);
      by = map (λ job. or_zero (blocker graph.needs fates job)) (filter (skips graph level fates) (all_jobs graph));
    }
