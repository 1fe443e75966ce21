-- The lines of jobs.
use Rattle.std.proofs.Common.{◌≡◌, ℕ, ◌+◌, ◌<◌, ◌≤◌, true, false, List, [], ◌∷◌, ◌++◌, length, get_or, take, refl, ap, sym, ◌∙◌, subst}
use Rattle.std.proofs.Common.{⊎_elim, arith}
use Rattle.std.specs.Prelude.{◌==◌, All}
use Rattle.std.specs.List.{flat_map, position_or_len, after_first}
use Rattle.std.proofs.lemmas.Bool.{cases_lt}
use Rattle.std.proofs.lemmas.List.{append_assoc, append-nil, take_more, take_all}
use Rattle.std.proofs.lemmas.List.Concat.{flat_map-append}
use Rattle.std.proofs.lemmas.List.Splits.{slice_split_at, slice_split_first, length-slice_split}
use Rattle.std.proofs.lemmas.List.Sums.{fails_before_first}
use Rattle.farm_types.specs.Bytes.{line_feed}
use Rattle.job_list.specs.Prints.{AreJobWords}
use Rattle.job_list.specs.Texts.{NumberedLine, is_job, lines_of, jobs_from, job_lines}
use Rattle.job_list.specs.Jobs.{JobOf, AreJobs, JobsOf}
use Rattle.job_list.proofs.TextReading.{job_right}

-- a line of a job
pub record IsLine (line : List ℕ) (words : List (List ℕ)) : Type 0 where
  pub one : lines_of line ≡ line ∷ []
  pub job : is_job line ≡ true
  pub reads : JobOf line words

abbrev pub AreLines : List (List ℕ) → List (List (List ℕ)) → Type 0
AreLines [] [] = Unit {0}
AreLines [] (j ∷ js) = ⊥
AreLines (l ∷ ls) [] = ⊥
AreLines (l ∷ ls) (j ∷ js) = IsLine l j × AreLines ls js

abbrev pub with_feed : List ℕ → List ℕ
with_feed line = line ++ line_feed ∷ []

-- the text is made of lines of these jobs
pub record IsText (text : List ℕ) (jobs : List (List (List ℕ))) : Type 0 where
  pub lines : List (List ℕ)
  pub spelled : text ≡ flat_map with_feed lines
  pub each : AreLines lines jobs

pub no_lines : IsText [] []
no_lines = record { lines = []; spelled = refl; each = tt }

more_lines : (lines : List (List ℕ)) (jobs : List (List (List ℕ))) (line : List ℕ) (job : List (List ℕ)) → AreLines lines jobs
    → IsLine line job → AreLines (lines ++ line ∷ []) (jobs ++ job ∷ [])
more_lines [] [] line job h one = (one, tt)
more_lines [] (j ∷ js) line job h one = absurd h
more_lines (l ∷ ls) [] line job h one = absurd h
more_lines (l ∷ ls) (j ∷ js) line job h one = (h.0, more_lines ls js line job h.1 one)

-- one line more
pub one_more : (text : List ℕ) (jobs : List (List (List ℕ))) (line : List ℕ) (job : List (List ℕ)) → IsText text jobs
    → IsLine line job → IsText ((text ++ line) ++ line_feed ∷ []) (jobs ++ job ∷ [])
one_more text jobs line job h one = record {
  lines = h.lines ++ line ∷ [];
  spelled =
      append_assoc text line (line_feed ∷ [])
      ∙ ap (λ t. t ++ with_feed line) h.spelled
      ∙ ap (λ t. flat_map with_feed h.lines ++ t) (sym (append-nil (with_feed line)))
      ∙ sym (flat_map-append with_feed h.lines (line ∷ []));
  each = more_lines h.lines jobs line job h.each one;
}

no_feed : (line : List ℕ) → lines_of line ≡ line ∷ [] → All (λ c. (c == line_feed) ≡ false) line
no_feed line one k d lt = ⊎_elim
    (λ hit.
    let two = slice_split_first (λ c. c == line_feed) line d hit in
    let count = length-slice_split (λ c. c == line_feed) line in
    let single = ap length one in
    let double = ap length two in
    let rest = length-slice_split (λ c. c == line_feed) (after_first (λ c. c == line_feed) line) in
    absurd (omega (arith, count, single, double, rest)))
    (λ all. fails_before_first (λ c. c == line_feed) line k d (omega arith))
    (cases_lt (position_or_len (λ c. c == line_feed) line) (length line))

lines_by : (number : ℕ) (lines : List (List ℕ)) (jobs : List (List (List ℕ))) → AreLines lines jobs
    → AreJobs (jobs_from number (lines_of (flat_map with_feed lines))) jobs
lines_by number [] [] h = tt
lines_by number [] (j ∷ js) h = absurd h
lines_by number (l ∷ ls) [] h = absurd h
lines_by number (l ∷ ls) (j ∷ js) h =
    let rest : List ℕ = flat_map with_feed ls in
    let cut : lines_of (flat_map with_feed (l ∷ ls)) ≡ l ∷ lines_of rest =
    ap lines_of (append_assoc l (line_feed ∷ []) rest) ∙ slice_split_at (λ c. c == line_feed) l line_feed rest (no_feed l h.0.one) refl in
    let here : jobs_from number (l ∷ lines_of rest) ≡ record { number = number; bytes = l } ∷ jobs_from (number + 1) (lines_of rest) =
    let job = h.0.job in rw job refl in
    subst (λ lines. AreJobs lines (j ∷ js)) (sym (ap (jobs_from number) cut ∙ here)) (h.0.reads, lines_by (number + 1) ls js h.1)

-- the text has these jobs
pub jobs_by : (text : List ℕ) (jobs : List (List (List ℕ))) → IsText text jobs → AreJobs (job_lines text) jobs
jobs_by text jobs h = subst (λ t. AreJobs (job_lines t) jobs) (sym h.spelled) (lines_by 1 h.lines jobs h.each)

one_job : (line : List ℕ) (one other : List (List ℕ)) → JobOf line one → JobOf line other → one ≡ other
one_job line one other h k = let e = sym (job_right line one h) ∙ job_right line other k in cc

-- the words of lines are one list
pub one_list : (lines : List NumberedLine) (one other : List (List (List ℕ))) → AreJobs lines one → AreJobs lines other → one ≡ other
one_list [] [] [] h k = refl
one_list [] [] (n ∷ ns) h k = absurd k
one_list [] (m ∷ ms) other h k = absurd h
one_list (l ∷ ls) [] other h k = absurd h
one_list (l ∷ ls) (m ∷ ms) [] h k = absurd k
one_list (l ∷ ls) (m ∷ ms) (n ∷ ns) h k =
    let first = one_job l.bytes m n h.0 k.0 in
    let rest = one_list ls ms ns h.1 k.1 in
    rw (first, rest) refl

-- so a text that has these jobs and is a job list is a list of these
pub same_jobs : (text : List ℕ) (jobs other : List (List (List ℕ))) → AreJobs (job_lines text) jobs → JobsOf text other → JobsOf text jobs
same_jobs text jobs other each h = subst (λ t. JobsOf text t) (one_list (job_lines text) other jobs h.each each) h

-- the next line was written
pub next_text : (list new : List ℕ) (jobs : List (List (List ℕ))) (i : ℕ) (job : List (List ℕ)) (line : List ℕ) → i < length jobs
    → All AreJobWords jobs → job ≡ get_or jobs i job → lines_of line ≡ line ∷ []
    → (AreJobWords job → (is_job line ≡ true) × JobOf line job) → IsText list (take i jobs) → new ≡ (list ++ line) ++ line_feed ∷ []
    → IsText new (take (i + 1) jobs)
next_text list new jobs i job line lt all there one is h made =
    let can : AreJobWords job = subst AreJobWords (sym there) (all i job lt) in
    let so = is can in
    let more = one_more list (take i jobs) line job h (record { one = one; job = so.0; reads = so.1 }) in
    let front : take (i + 1) jobs ≡ take i jobs ++ job ∷ [] = take_more jobs i job lt ∙ ap (λ t. take i jobs ++ t ∷ []) (sym there) in
    subst (λ t. IsText new t) (sym front) (subst (λ t. IsText t (take i jobs ++ job ∷ [])) (sym made) more)

-- all lines were written
pub whole_text : (list : List ℕ) (jobs all : List (List (List ℕ))) (i : ℕ) → length jobs ≤ i → jobs ≡ all
    → IsText list (take i jobs) → AreJobs (job_lines list) all
whole_text list jobs all i le same h = subst (λ t. AreJobs (job_lines list) t) (take_all i jobs le ∙ same) (jobs_by list (take i jobs) h)
