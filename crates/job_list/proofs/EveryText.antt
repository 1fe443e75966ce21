-- Every text is a job list or has a fault.
use Rattle.std.proofs.Common.{◌≡◌, ℕ, zero, suc, ◌+◌, ◌<◌, ◌≤◌, List, [], ◌∷◌, ◌++◌, length, Some, refl, ap, sym, ◌∙◌, subst, inl, inr}
use Rattle.std.proofs.Common.{⊎_elim, arith}
use Rattle.std.specs.Prelude.{◌⊎◌}
use Rattle.std.specs.List.{slice_get}
use Rattle.std.proofs.lemmas.Bool.{cases_Bool, cases_lt, false≢true}
use Rattle.farm_types.specs.Limits.{job_list_max, jobs_max}
use Rattle.job_list.specs.declared.fault.JobFault.{JobFault}
use Rattle.job_list.specs.declared.fault.JobFault.TheVariants.{NoJobs, TooMany, TooLong, SameOutput, NotText}
use Rattle.job_list.specs.Texts.{NumberedLine, job_lines}
use Rattle.job_list.specs.Outputs.{outputs_of, IsLeastPair}
use Rattle.job_list.specs.Jobs.{JobOf, IsWrongLine, AreJobs, JobsOf, JobFaultStands}
use Rattle.job_list.proofs.EveryLine.{every_line}
use Rattle.job_list.proofs.TextReading.{is_text, text_true, text_is}
use Rattle.job_list.proofs.Pairs.{every_pair, get_past}

-- a job has words, or a fault that doesn't depend on its place
every_job : (line : List ℕ) → ((words : List (List ℕ)) × JobOf line words)
    ⊎ ((fault : JobFault) × ((count : ℕ) → IsWrongLine count line fault))
every_job line = ⊎_elim
    (λ yes. let legible = text_is line yes in ⊎_elim
    (λ h. inl (h.0, record { legible = legible; split = h.1 }))
    (λ h. inr (h.0, λ count. inr (inl (legible, h.1))))
    (every_line line))
    (λ no. inr (NotText, λ count. inl (refl, λ h. false≢true (sym no ∙ text_true line h))))
    (cases_Bool (is_text line))

-- behind this many jobs all these lines are right
record AllRight (count : ℕ) (lines : List NumberedLine) : Type 0 where
  jobs : List (List (List ℕ))
  each : AreJobs lines jobs
  few : count + length jobs ≤ jobs_max

-- behind this many jobs one of these lines is the first that isn't
record OneWrong (count : ℕ) (lines : List NumberedLine) : Type 0 where
  before : List NumberedLine
  line : NumberedLine
  after : List NumberedLine
  jobs : List (List (List ℕ))
  fault : JobFault
  split : lines ≡ before ++ line ∷ after
  right : AreJobs before jobs
  few : count + length jobs ≤ jobs_max
  wrong : IsWrongLine (count + length jobs) line.bytes fault

wrong_here : (count : ℕ) (l : NumberedLine) (ls : List NumberedLine) (fault : JobFault) → count ≤ jobs_max → IsWrongLine count l.bytes fault
    → OneWrong count (l ∷ ls)
wrong_here count l ls fault few wrong = record {
  before = [];
  line = l;
  after = ls;
  jobs = [];
  fault = fault;
  split = refl;
  right = tt;
  few = omega arith;
  wrong = let e : count ≡ count + 0 = omega arith in subst (λ n. IsWrongLine n l.bytes fault) e wrong;
}

wrong_later : (count : ℕ) (l : NumberedLine) (ls : List NumberedLine) (words : List (List ℕ)) → JobOf l.bytes words
    → OneWrong (count + 1) ls → OneWrong count (l ∷ ls)
wrong_later count l ls words job one = record {
  before = l ∷ one.before;
  line = one.line;
  after = one.after;
  jobs = words ∷ one.jobs;
  fault = one.fault;
  split = ap (λ t. l ∷ t) one.split;
  right = (job, one.right);
  few = let few = one.few in omega arith;
  wrong = let e : count + 1 + length one.jobs ≡ count + suc (length one.jobs) = omega arith in
      subst (λ n. IsWrongLine n one.line.bytes one.fault) e one.wrong;
}

right_later : (count : ℕ) (l : NumberedLine) (ls : List NumberedLine) (words : List (List ℕ)) → JobOf l.bytes words
    → AllRight (count + 1) ls → AllRight count (l ∷ ls)
right_later count l ls words job all = record { jobs = words ∷ all.jobs; each = (job, all.each); few = let few = all.few in omega arith }

full_or_not : (count : ℕ) → count ≤ jobs_max → (count ≡ jobs_max) ⊎ (count + 1 ≤ jobs_max)
full_or_not count few = ⊎_elim (λ room. inr (omega arith)) (λ full. inl (omega arith)) (cases_lt count jobs_max)

every_lines : (count : ℕ) (lines : List NumberedLine) → count ≤ jobs_max → AllRight count lines ⊎ OneWrong count lines
every_lines count [] few = inl (record { jobs = []; each = tt; few = omega arith })
every_lines count (l ∷ ls) few =
    let later = every_lines (count + 1) ls in
    ⊎_elim
    (λ job. ⊎_elim
    (λ full. inr (wrong_here count l ls TooMany few (inr (inr (refl, full, job.0, job.1)))))
    (λ room. ⊎_elim
    (λ all. inl (right_later count l ls job.0 job.1 all))
    (λ one. inr (wrong_later count l ls job.0 job.1 one))
    (later room))
    (full_or_not count few))
    (λ wrong. inr (wrong_here count l ls wrong.0 few (wrong.1 count)))
    (every_job l.bytes)

line_at : (lines : List NumberedLine) (jobs : List (List (List ℕ))) (i : ℕ) → AreJobs lines jobs → i < length (outputs_of jobs)
    → (line : NumberedLine) × (slice_get lines i ≡ Some line)
line_at [] [] i h lt = absurd (omega arith)
line_at [] (j ∷ js) i h lt = absurd h
line_at (l ∷ ls) [] i h lt = absurd h
line_at (l ∷ ls) (j ∷ js) zero h lt = (l, refl)
line_at (l ∷ ls) (j ∷ js) (suc i) h lt = line_at ls js i h.1 (omega arith)

Text : List ℕ → Type 0
Text text = ((jobs : List (List (List ℕ))) × JobsOf text jobs) ⊎ ((at : ℕ) × (fault : JobFault) × JobFaultStands text at fault)

text_wrong : (text : List ℕ) → length text ≤ job_list_max → OneWrong 0 (job_lines text) → Text text
unfolding Text
text_wrong text short one =
    let e : 0 + length one.jobs ≡ length one.jobs = omega arith in
    inr (
      one.line.number,
      one.fault,
      inr (
        short,
        inl (record {
          before = one.before;
          line = one.line;
          after = one.after;
          jobs = one.jobs;
          split = one.split;
          right = one.right;
          few = let few = one.few in omega arith;
          wrong = subst (λ n. IsWrongLine n one.line.bytes one.fault) e one.wrong;
          place = refl;
        }),
      ),
    )

text_shares : (text : List ℕ) (jobs : List (List (List ℕ))) (i j : ℕ) → length text ≤ job_list_max → AreJobs (job_lines text) jobs
    → length jobs ≤ jobs_max → IsLeastPair (outputs_of jobs) i j → Text text
unfolding Text
text_shares text jobs i j short each few pair =
    let there = line_at (job_lines text) jobs j each (get_past (outputs_of jobs) j (Some pair.same.0) pair.same.2) in
    inr (
      there.0.number,
      SameOutput (i + 1) (j + 1),
      inr (
        short,
        inr (inr (record {
          jobs = jobs;
          first = i;
          second = j;
          line = there.0;
          each = each;
          few = few;
          pair = pair;
          there = there.1;
          place = refl;
          named = refl;
        })),
      ),
    )

none_or_some : (lines : List NumberedLine) (jobs : List (List (List ℕ))) → AreJobs lines jobs → (lines ≡ []) ⊎ (1 ≤ length jobs)
none_or_some [] jobs h = inl refl
none_or_some (l ∷ ls) [] h = absurd h
none_or_some (l ∷ ls) (j ∷ js) h = inr (omega arith)

text_right : (text : List ℕ) → length text ≤ job_list_max → AllRight 0 (job_lines text) → Text text
unfolding Text
text_right text short all =
    let few : length all.jobs ≤ jobs_max = (let few = all.few in omega arith) in
    ⊎_elim
    (λ none. inr (0, NoJobs, inr (short, inr (inl (none, refl, refl)))))
    (λ some. ⊎_elim
    (λ pair. text_shares text all.jobs pair.0 pair.1 short all.each few pair.2)
    (λ apart. inl (all.jobs, record { short = short; each = all.each; some = some; few = few; apart = apart }))
    (every_pair (outputs_of all.jobs)))
    (none_or_some (job_lines text) all.jobs all.each)

short_or_long : (n : ℕ) → (n ≤ job_list_max) ⊎ (job_list_max < n)
short_or_long n = ⊎_elim inr inl (cases_lt job_list_max n)

pub every_text : (text : List ℕ) → ((jobs : List (List (List ℕ))) × JobsOf text jobs)
    ⊎ ((at : ℕ) × (fault : JobFault) × JobFaultStands text at fault)
unfolding Text
every_text text = ⊎_elim
    (λ short. ⊎_elim (text_right text short) (text_wrong text short) (every_lines 0 (job_lines text) (omega arith)))
    (λ long. inr (0, TooLong (length text), inl (long, refl, refl)))
    (short_or_long (length text))
