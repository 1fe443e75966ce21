-- One reading of each text.
use Rattle.std.proofs.Common.{◌≡◌, ℕ, suc, ◌+◌, ◌≤◌, Bool, true, false, cond, List, [], ◌∷◌, ◌++◌, length, Option, Some, None, Ok, Err}
use Rattle.std.proofs.Common.{refl, ap, sym, ◌∙◌, inl, inr, subst, arith}
use Rattle.std.specs.Prelude.{◌==◌, not, ◌&&◌, if◌then◌else◌}
use Rattle.std.specs.List.{slice_get, list_all}
use Rattle.std.specs.Str.{is_utf8}
use Rattle.std.proofs.lemmas.List.Sums.{AllPass-from_list_all, list_all-from_AllPass}
use Rattle.std.proofs.lemmas.Str.{is_utf8-from_IsUtf8, IsUtf8-from_is_utf8}
use Rattle.std.proofs.lemmas.Bool.Decides.{nat_tests}
use Rattle.std.proofs.lemmas.List.{append-nil}
use Rattle.farm_types.specs.Limits.{jobs_max}
use Rattle.job_list.specs.declared.fault.JobFault.{JobFault}
use Rattle.job_list.specs.declared.fault.JobFault.TheVariants.{TooMany, SameOutput, NotText}
use Rattle.job_list.specs.Lines.{LineFault}
use Rattle.job_list.specs.Texts.{NumberedLine, job_lines}
use Rattle.job_list.specs.Outputs.{outputs_of, IsLeastPair}
use Rattle.job_list.specs.Jobs.{IsText, JobOf, IsWrongLine, AreJobs, JobsOf, HasWrongLine, SharesOutput, LinesFault, JobFaultStands}
use Rattle.job_list.proofs.Cutting.{Reading, reading_of, line_right, line_wrong}
use Rattle.job_list.proofs.Pairs.{pair_not_apart, one_pair}

-- ---- one job

pub is_text : List ℕ → Bool
is_text line = is_utf8 line && list_all (λ c. not (c == 0)) line

pub text_true : (line : List ℕ) → IsText line → is_text line ≡ true
unfolding is_text
text_true line h =
    let utf8 = is_utf8-from_IsUtf8 line h.utf8 in
    let plain = list_all-from_AllPass (λ c. not (c == 0)) line h.plain in
    rw (utf8, plain) refl

pub text_is : (line : List ℕ) → is_text line ≡ true → IsText line
unfolding is_text
text_is line h = by (is_utf8 line) (list_all (λ c. not (c == 0)) line) refl refl h
  where
    by : (utf8 plain : Bool) → is_utf8 line ≡ utf8 → list_all (λ c. not (c == 0)) line ≡ plain → (utf8 && plain) ≡ true → IsText line
    by true true u z e = record { utf8 = IsUtf8-from_is_utf8 line u; plain = AllPass-from_list_all (λ c. not (c == 0)) line z }
    by true false u z e = absurd cc
    by false plain u z e = absurd cc

pub text_false : (line : List ℕ) → (IsText line → ⊥) → is_text line ≡ false
text_false line none = by (is_text line) refl
  where
    by : (b : Bool) → is_text line ≡ b → is_text line ≡ false
    by true e = absurd (none (text_is line e))
    by false e = e

-- the words of a job, or its fault
abbrev pub job_reading : List ℕ → Reading
job_reading line = if is_text line then reading_of line else Err NotText

pub job_right : (line : List ℕ) (words : List (List ℕ)) → JobOf line words → job_reading line ≡ Ok words
job_right line words h = let is = text_true line h.legible in rw is (line_right line words h.split)

job_no_text : (line : List ℕ) → (IsText line → ⊥) → job_reading line ≡ Err NotText
job_no_text line none = let is = text_false line none in rw is refl

job_breaks : (line : List ℕ) (fault : JobFault) → IsText line → LineFault line fault → job_reading line ≡ Err fault
job_breaks line fault legible h = let is = text_true line legible in rw is (line_wrong line fault h)

one_job : (line : List ℕ) (one other : List (List ℕ)) → JobOf line one → JobOf line other → one ≡ other
one_job line one other h k = let e = sym (job_right line one h) ∙ job_right line other k in cc

-- ---- all jobs

-- the words of lines are one list
one_list : (ls : List NumberedLine) (one other : List (List (List ℕ))) → AreJobs ls one → AreJobs ls other → one ≡ other
one_list [] [] [] h k = refl
one_list [] [] (n ∷ ns) h k = absurd k
one_list [] (m ∷ ms) other h k = absurd h
one_list (l ∷ ls) [] other h k = absurd h
one_list (l ∷ ls) (m ∷ ms) [] h k = absurd k
one_list (l ∷ ls) (m ∷ ms) (n ∷ ns) h k =
    let first = one_job l.bytes m n h.0 k.0 in
    let rest = one_list ls ms ns h.1 k.1 in
    rw (first, rest) refl

-- the first wrong line behind this many jobs
abbrev first_wrong : ℕ → List NumberedLine → Option (ℕ × JobFault)
first_wrong count [] = None
first_wrong count (l ∷ ls) = by (job_reading l.bytes) l.number (count == jobs_max) (first_wrong (count + 1) ls)
  where
    by : Reading → ℕ → Bool → Option (ℕ × JobFault) → Option (ℕ × JobFault)
    by (Err fault) at full more = Some (at, fault)
    by (Ok words) at full more = cond full (Some (at, TooMany)) more

passed : (count : ℕ) (before : List NumberedLine) (jobs : List (List (List ℕ))) (rest : List NumberedLine) → AreJobs before jobs
    → count + length jobs ≤ jobs_max → first_wrong count (before ++ rest) ≡ first_wrong (count + length jobs) rest
passed count [] [] rest h few = let e : count ≡ count + 0 = omega arith in ap (λ n. first_wrong n rest) e
passed count [] (j ∷ js) rest h few = absurd h
passed count (l ∷ ls) [] rest h few = absurd h
passed count (l ∷ ls) (j ∷ js) rest h few =
    let is = job_right l.bytes j h.0 in
    let not_full : (count == jobs_max) ≡ false = grind (arith, nat_tests) in
    let here : first_wrong count (l ∷ (ls ++ rest)) ≡ first_wrong (count + 1) (ls ++ rest) = rw (is, not_full) refl in
    let later = passed (count + 1) ls js rest h.1 (omega arith) in
    let e : count + 1 + length js ≡ count + suc (length js) = omega arith in
    here ∙ later ∙ ap (λ n. first_wrong n rest) e

stopped : (count : ℕ) (l : NumberedLine) (ls : List NumberedLine) (fault : JobFault) → IsWrongLine count l.bytes fault
    → first_wrong count (l ∷ ls) ≡ Some (l.number, fault)
stopped count l ls fault (inl p) = let is = job_no_text l.bytes p.1 in rw is (ap (λ f. Some (l.number, f)) (sym p.0))
stopped count l ls fault (inr (inl p)) = let is = job_breaks l.bytes fault p.0 p.1 in rw is refl
stopped count l ls fault (inr (inr p)) =
    let is = job_right l.bytes p.2 p.3 in
    let full : (count == jobs_max) ≡ true = rw p.1 refl in
    rw (is, full) (ap (λ f. Some (l.number, f)) (sym p.0))

all_right : (lines : List NumberedLine) (jobs : List (List (List ℕ))) → AreJobs lines jobs → length jobs ≤ jobs_max
    → first_wrong 0 lines ≡ None
all_right lines jobs h few = ap (first_wrong 0) (sym (append-nil lines)) ∙ passed 0 lines jobs [] h (omega arith)

one_wrong : (lines : List NumberedLine) (at : ℕ) (fault : JobFault) → HasWrongLine lines at fault → first_wrong 0 lines ≡ Some (at, fault)
one_wrong lines at fault h =
    let zero : 0 + length h.jobs ≡ length h.jobs = omega arith in
    ap (first_wrong 0) h.split ∙ passed 0 h.before h.jobs (h.line ∷ h.after) h.right (let few = h.few in omega arith)
    ∙ ap (λ n. first_wrong n (h.line ∷ h.after)) zero ∙ stopped (length h.jobs) h.line h.after fault h.wrong
    ∙ ap (λ n. Some (n, fault)) (sym h.place)

wrong_right : (lines : List NumberedLine) (at : ℕ) (fault : JobFault) (jobs : List (List (List ℕ))) → HasWrongLine lines at fault
    → AreJobs lines jobs → length jobs ≤ jobs_max → ⊥
wrong_right lines at fault jobs h each few = let e = sym (one_wrong lines at fault h) ∙ all_right lines jobs each few in cc

-- ---- a text

abbrev Same : ℕ → ℕ → JobFault → JobFault → Type 0
Same at there fault other = (at ≡ there) × (fault ≡ other)

same_wrong : (lines : List NumberedLine) (at there : ℕ) (fault other : JobFault) → HasWrongLine lines at fault
    → HasWrongLine lines there other → Same at there fault other
same_wrong lines at there fault other h k =
    let e = sym (one_wrong lines at fault h) ∙ one_wrong lines there other k in
    let both : (at, fault) ≡ (there, other) = cc in
    (ap (λ (p : ℕ × JobFault). p.0) both, ap (λ (p : ℕ × JobFault). p.1) both)

no_line_wrong : (lines : List NumberedLine) (at : ℕ) (fault : JobFault) → lines ≡ [] → HasWrongLine lines at fault → ⊥
no_line_wrong lines at fault none h = let e = sym (ap (first_wrong 0) none) ∙ one_wrong lines at fault h in cc

none_shares : (lines : List NumberedLine) (at : ℕ) (fault : JobFault) → lines ≡ [] → SharesOutput lines at fault → ⊥
none_shares lines at fault none h = let e : Some h.line ≡ None = sym h.there ∙ ap (λ ls. slice_get ls h.second) none in cc

same_share : (lines : List NumberedLine) (at there : ℕ) (fault other : JobFault) → SharesOutput lines at fault
    → SharesOutput lines there other → Same at there fault other
same_share lines at there fault other h k =
    let jobs : k.jobs ≡ h.jobs = one_list lines k.jobs h.jobs k.each h.each in
    let pair = one_pair (outputs_of h.jobs) h.first h.second k.first k.second h.pair
    (subst (λ js. IsLeastPair (outputs_of js) k.first k.second) jobs k.pair) in
    let e = sym h.there ∙ ap (slice_get lines) pair.1 ∙ k.there in
    let line : h.line ≡ k.line = cc in (
      h.place ∙ ap (λ (l : NumberedLine). l.number) line ∙ sym k.place,
      h.named ∙ ap (λ n. SameOutput (n + 1) (h.second + 1)) pair.0 ∙ ap (λ n. SameOutput (k.first + 1) (n + 1)) pair.1 ∙ sym k.named,
    )

same_lines : (lines : List NumberedLine) (at there : ℕ) (fault other : JobFault) → LinesFault lines at fault
    → LinesFault lines there other → Same at there fault other
same_lines lines at there fault other (inl h) (inl k) = same_wrong lines at there fault other h k
same_lines lines at there fault other (inl h) (inr (inl k)) = absurd (no_line_wrong lines at fault k.0 h)
same_lines lines at there fault other (inl h) (inr (inr k)) = absurd (wrong_right lines at fault k.jobs h k.each k.few)
same_lines lines at there fault other (inr (inl h)) (inl k) = absurd (no_line_wrong lines there other h.0 k)
same_lines lines at there fault other (inr (inl h)) (inr (inl k)) = (h.1 ∙ sym k.1, h.2 ∙ sym k.2)
same_lines lines at there fault other (inr (inl h)) (inr (inr k)) = absurd (none_shares lines there other h.0 k)
same_lines lines at there fault other (inr (inr h)) (inl k) = absurd (wrong_right lines there other h.jobs k h.each h.few)
same_lines lines at there fault other (inr (inr h)) (inr (inl k)) = absurd (none_shares lines at fault k.0 h)
same_lines lines at there fault other (inr (inr h)) (inr (inr k)) = same_share lines at there fault other h k

pub one_fault : (text : List ℕ) (at there : ℕ) (fault other : JobFault) → JobFaultStands text at fault
    → JobFaultStands text there other → (at ≡ there) × (fault ≡ other)
one_fault text at there fault other (inl h) (inl k) = (h.1 ∙ sym k.1, h.2 ∙ sym k.2)
one_fault text at there fault other (inl h) (inr k) = let long = h.0 in let short = k.0 in absurd (omega arith)
one_fault text at there fault other (inr h) (inl k) = let short = h.0 in let long = k.0 in absurd (omega arith)
one_fault text at there fault other (inr h) (inr k) = same_lines (job_lines text) at there fault other h.1 k.1

pub one_jobs : (text : List ℕ) (one other : List (List (List ℕ))) → JobsOf text one → JobsOf text other → one ≡ other
one_jobs text one other h k = one_list (job_lines text) one other h.each k.each

no_jobs_none : (lines : List NumberedLine) (jobs : List (List (List ℕ))) → lines ≡ [] → AreJobs lines jobs → 1 ≤ length jobs → ⊥
no_jobs_none lines jobs none each some = by jobs (subst (λ ls. AreJobs ls jobs) none each) some
  where
    by : (js : List (List (List ℕ))) → AreJobs [] js → 1 ≤ length js → ⊥
    by [] h some = omega arith
    by (j ∷ js) h some = h

right_lines : (text : List ℕ) (jobs : List (List (List ℕ))) (at : ℕ) (fault : JobFault) → JobsOf text jobs
    → LinesFault (job_lines text) at fault → ⊥
right_lines text jobs at fault h (inl k) = wrong_right (job_lines text) at fault jobs k h.each h.few
right_lines text jobs at fault h (inr (inl k)) = no_jobs_none (job_lines text) jobs k.0 h.each h.some
right_lines text jobs at fault h (inr (inr k)) =
    let same : k.jobs ≡ jobs = one_list (job_lines text) k.jobs jobs k.each h.each in
    pair_not_apart (outputs_of jobs) k.first k.second (subst (λ js. IsLeastPair (outputs_of js) k.first k.second) same k.pair) h.apart

pub no_both : (text : List ℕ) (jobs : List (List (List ℕ))) (at : ℕ) (fault : JobFault) → JobsOf text jobs
    → JobFaultStands text at fault → ⊥
no_both text jobs at fault h (inl k) = let short = h.short in let long = k.0 in omega arith
no_both text jobs at fault h (inr k) = right_lines text jobs at fault h k.1
