-- What was marked, with one job more.
use Rattle.std.proofs.Common.{◌≡◌, ℕ, ◌+◌, Bool, List, [], ◌∷◌, ◌++◌, length, refl, sym, ap, ◌∙◌, append_assoc, arith}
use Rattle.std.proofs.lemmas.List.{append-nil, map-append}
use Rattle.logbook.specs.Pages.{Book}
use Rattle.farm_machine.specs.declared.reports.Report.{Report}
use Rattle.farm_monitor.specs.declared.progress.Progress.{Progress}
use Rattle.farm_monitor.specs.Rows.{opening_row, last_or}
use Rattle.farm_monitor.proofs.Adding.{last_snoc}
use Rattle.job_driver.specs.Marks.{at_job, between_jobs, ended_in, HasAdded, rows_of, HasMarked}
use Rattle.job_driver.proofs.Working.{numbers_of}

last-append : (p : Progress) (xs ys : List Progress) → last_or p (xs ++ ys) ≡ last_or (last_or p xs) ys
last-append p [] ys = refl
last-append p (x ∷ xs) ys = last-append x xs ys

last-ended : (p : Progress) (jobs : List ℕ) → (last_or p (rows_of p.ended jobs)).ended ≡ p.ended + length jobs
last-ended p [] = omega arith
last-ended p (job ∷ jobs) = let rest = last-ended (between_jobs (p.ended + 1)) jobs in omega (arith, rest)

-- behind the rows of some jobs so many more have ended
ended-after : (rows : List Progress) (jobs : List ℕ) → ended_in (rows ++ rows_of (ended_in rows) jobs) ≡ ended_in rows + length jobs
ended-after rows jobs =
    ap (λ (p : Progress). p.ended) (last-append opening_row rows (rows_of (ended_in rows) jobs))
    ∙ last-ended (last_or opening_row rows) jobs

rows-more : (ended : ℕ) (jobs : List ℕ) (job : ℕ)
    → rows_of ended (jobs ++ job ∷ []) ≡ rows_of ended jobs
    ++ at_job job (ended + length jobs) ∷ between_jobs (ended + length jobs + 1) ∷ []
rows-more ended [] job =
    let none : ended ≡ ended + 0 = omega arith in
    ap (λ (n : ℕ). at_job job n ∷ between_jobs (n + 1) ∷ []) none
rows-more ended (j ∷ jobs) job =
    let on : ended + 1 + length jobs ≡ ended + length (j ∷ jobs) = omega arith in
    ap (λ (rows : List Progress). at_job j ended ∷ between_jobs (ended + 1) ∷ rows)
    (rows-more (ended + 1) jobs job
    ∙ ap (λ (n : ℕ). rows_of (ended + 1) jobs ++ at_job job n ∷ between_jobs (n + 1) ∷ []) on)

module _ {M : Type 0} (board : M → Book) (all : M → Bool) (rows : M → List Progress) where
  -- no job yet
  pub marked-none : (m : M) (reports : List Report) → reports ≡ [] → HasMarked board all rows m m reports
  marked-none m reports none = record {
    same_board = refl;
    added = λ yes. (
      yes,
      sym (ap (λ (rs : List Report). rows m ++ rows_of (ended_in (rows m)) (numbers_of rs)) none ∙ append-nil (rows m)),
    );
  }

  -- one job more
  pub marked-more : (old at begun new : M) (reports more : List Report) (report : Report) (job : ℕ)
      → HasMarked board all rows old at reports
      → board begun ≡ board at → HasAdded (all at) (all begun) (at_job job (ended_in (rows at))) (rows at) (rows begun)
      → board new ≡ board begun → HasAdded (all begun) (all new) (between_jobs (ended_in (rows begun) + 1)) (rows begun) (rows new)
      → more ≡ reports ++ report ∷ [] → report.number ≡ job → HasMarked board all rows old new more
  marked-more old at begun new reports more report job so_far begins begin ends end with_it number = record {
    same_board = ends ∙ begins ∙ so_far.same_board;
    added = λ yes.
        let e = end yes in
        let b = begin e.0 in
        let s = so_far.added b.0 in
        let first = rows old in
        let k = ended_in first in
        let js = numbers_of reports in
        let before : ended_in (rows at) ≡ k + length js = ap ended_in s.1 ∙ ended-after first js in
        let during : ended_in (rows begun) ≡ k + length js =
        ap ended_in b.1 ∙ ap (λ (p : Progress). p.ended) (last_snoc opening_row (rows at) (at_job job (ended_in (rows at)))) ∙ before in
        let mid : rows begun ≡ (first ++ rows_of k js) ++ at_job job (k + length js) ∷ [] =
        b.1 ∙ ap (λ (xs : List Progress). xs ++ at_job job (ended_in (rows at)) ∷ []) s.1
        ∙ ap (λ (n : ℕ). (first ++ rows_of k js) ++ at_job job n ∷ []) before in
        let last : rows new ≡ ((first ++ rows_of k js) ++ at_job job (k + length js) ∷ []) ++ between_jobs (k + length js + 1) ∷ [] =
        e.1 ∙ ap (λ (xs : List Progress). xs ++ between_jobs (ended_in (rows begun) + 1) ∷ []) mid
        ∙ ap (λ (n : ℕ). ((first ++ rows_of k js) ++ at_job job (k + length js) ∷ []) ++ between_jobs (n + 1) ∷ []) during in
        let joined : ((first ++ rows_of k js) ++ at_job job (k + length js) ∷ []) ++ between_jobs (k + length js + 1) ∷ []
        ≡ first ++ (rows_of k js ++ at_job job (k + length js) ∷ between_jobs (k + length js + 1) ∷ []) =
        append_assoc (first ++ rows_of k js) (at_job job (k + length js) ∷ []) (between_jobs (k + length js + 1) ∷ [])
        ∙ append_assoc first (rows_of k js) (at_job job (k + length js) ∷ between_jobs (k + length js + 1) ∷ []) in
        let named : js ++ job ∷ [] ≡ numbers_of more =
        ap (λ (n : ℕ). js ++ n ∷ []) (sym number)
        ∙ sym (ap numbers_of with_it ∙ map-append (λ (r : Report). r.number) reports (report ∷ [])) in (
          s.0,
          last ∙ joined ∙ ap (λ (xs : List Progress). first ++ xs) (sym (rows-more k js job))
              ∙ ap (λ (ns : List ℕ). first ++ rows_of k ns) named,
        );
  }
