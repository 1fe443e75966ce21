-- Lines, one after another.
use Rattle.std.proofs.Common.{◌≡◌, ℕ, zero, suc, ◌+◌, ◌-◌, ◌<◌, ◌≤◌, Bool, true, false, List, [], ◌∷◌, ◌++◌, length, get_or, take, drop}
use Rattle.std.proofs.Common.{Some, refl, ap, sym, ◌∙◌, subst, inl, inr, arith}
use Rattle.std.specs.Prelude.{not, ◌==◌, ◌⊎◌, Result, Ok, Err, IfOk, IfErr, OnOk}
use Rattle.std.specs.List.{AllPass, slice_get}
use Rattle.std.proofs.lemmas.List.{append_assoc, append-nil, length-drop, drop_more, drop_all}
use Rattle.std.proofs.lemmas.List.Folds.{drop_split}
use Rattle.std.proofs.lemmas.List.Splits.{slice_split_none, slice_split_at}
use Rattle.farm_types.specs.Limits.{job_list_max, jobs_max}
use Rattle.farm_types.specs.Bytes.{line_feed, hash, is_blank}
use Rattle.job_list.specs.Texts.{is_job, lines_of, NumberedLine, jobs_from, job_lines}
use Rattle.job_list.specs.Outputs.{AreApart, outputs_of}
use Rattle.job_list.specs.Jobs.{JobOf, AreJobs, IsWrongLine, HasWrongLine, JobsOf, JobFaultStands}
use Rattle.job_list.specs.declared.fault.JobFault.TheVariants.{NoJobs}
use Rattle.job_list.specs.declared.list.Listed.{Listed}
use Rattle.job_list.specs.declared.fault.JobError.{JobError}
use Rattle.job_list.specs.declared.fault.JobError.TheVariants.{Fault, Memory}
use Rattle.job_list.specs.Answers.{IsError}
use Rattle.job_list.specs.Steps.{numbers_of, AddsLine, TakesLine, Left, ListsUpTo, ListedShare}

pub job_blank : (line : List ℕ) (i : ℕ) → i < length line → is_blank (get_or line i 0) ≡ true
    → is_job (drop i line) ≡ is_job (drop (i + 1) line)
job_blank line i lt e = ap is_job (drop_more line i 0 lt) ∙ rw e refl

pub job_other : (line : List ℕ) (i : ℕ) → i < length line → is_blank (get_or line i 0) ≡ false
    → is_job (drop i line) ≡ not (get_or line i 0 == hash)
job_other line i lt e = ap is_job (drop_more line i 0 lt) ∙ rw e refl

-- ---- lines of a text

no_feed : (c : ℕ) → not (c == line_feed) ≡ true → (c == line_feed) ≡ false
no_feed c h = by (c == line_feed) h
  where
    by : (b : Bool) → not b ≡ true → b ≡ false
    by true h = cc
    by false h = refl

pub lines_more : (text : List ℕ) (from end : ℕ) → from ≤ end → end < length text
    → AllPass (λ c. not (c == line_feed)) (take (end - from) (drop from text)) → get_or text end 0 ≡ line_feed
    → lines_of (drop from text) ≡ take (end - from) (drop from text) ∷ lines_of (drop (end + 1) text)
lines_more text from end low lt plain feed =
    let line : List ℕ = take (end - from) (drop from text) in
    let e : drop from text ≡ line ++ line_feed ∷ drop (end + 1) text = drop_split text from end low
    ∙ ap (λ t. line ++ t) (drop_more text end 0 lt ∙ ap (λ c. c ∷ drop (end + 1) text) feed) in
    ap lines_of e ∙ slice_split_at (λ c. c == line_feed) line line_feed (drop (end + 1) text)
    (λ k d l. no_feed (get_or line k d) (plain k d l)) refl

pub lines_end : (text : List ℕ) (from end : ℕ) → from ≤ end → end ≡ length text
    → AllPass (λ c. not (c == line_feed)) (take (end - from) (drop from text))
    → lines_of (drop from text) ≡ take (end - from) (drop from text) ∷ []
lines_end text from end low long plain =
    let line : List ℕ = take (end - from) (drop from text) in
    let e : drop from text ≡ line = drop_split text from end low ∙ ap (λ t. line ++ t) (drop_all end text (omega arith))
    ∙ append-nil line in
    ap lines_of e ∙ slice_split_none (λ c. c == line_feed) line (λ k d l. no_feed (get_or line k d) (plain k d l))

-- the lines from a place on are this one and others, which begin behind its line feed
pub record Next (text : List ℕ) (from end : ℕ) (line : List ℕ) : Type 0 where
  pub more : List (List ℕ)
  pub first : lines_of (drop from text) ≡ line ∷ more
  pub left : ((end + 1 ≤ length text) × (more ≡ lines_of (drop (end + 1) text))) ⊎ ((length text < end + 1) × (more ≡ []))

pub next_line : (text : List ℕ) (from end : ℕ) → from ≤ end → end ≤ length text
    → AllPass (λ c. not (c == line_feed)) (take (end - from) (drop from text)) → (end < length text → get_or text end 0 ≡ line_feed)
    → Next text from end (take (end - from) (drop from text))
next_line text from end low high plain feed = by (drop end text) refl
  where
    by : (rest : List ℕ) → drop end text ≡ rest → Next text from end (take (end - from) (drop from text))
    by [] e =
        let n : length (drop end text) ≡ 0 = ap length e in
        let whole : end ≡ length text = omega (arith, length-drop end text) in
        record { more = []; first = lines_end text from end low whole plain; left = inr (omega arith, refl) }
    by (c ∷ rest) e =
        let n : length (drop end text) ≡ suc (length rest) = ap length e in
        let lt : end < length text = omega (arith, length-drop end text) in
        record {
          more = lines_of (drop (end + 1) text);
          first = lines_more text from end low lt plain (feed lt);
          left = inl (omega arith, refl);
        }

-- ---- one line more

pub jobs_push : (ls : List NumberedLine) (l : NumberedLine) (js : List (List (List ℕ))) (words : List (List ℕ)) → AreJobs ls js
    → JobOf l.bytes words → AreJobs (ls ++ l ∷ []) (js ++ words ∷ [])
jobs_push [] l [] words h o = (o, tt)
jobs_push [] l (j ∷ js) words h o = absurd h
jobs_push (k ∷ ks) l [] words h o = absurd h
jobs_push (k ∷ ks) l (j ∷ js) words h o = (h.0, jobs_push ks l js words h.1 o)

numbers_push : (ls : List NumberedLine) (l : NumberedLine) → numbers_of (ls ++ l ∷ []) ≡ numbers_of ls ++ l.number ∷ []
numbers_push [] l = refl
numbers_push (k ∷ ks) l = ap (λ t. k.number ∷ t) (numbers_push ks l)

pub lists_none : (text : List ℕ) → ListsUpTo text 0 1 (record { jobs = []; lines = [] })
lists_none text = record { before = []; left = inl (omega arith, refl); right = tt; few = omega arith; numbers = refl }

-- the jobs of a text are those of the lines before a place, and those of this line and others
here_line : (text : List ℕ) (from number : ℕ) (before : List NumberedLine) (more : List (List ℕ)) (line : List ℕ)
    → from ≤ length text → Left text from number before → lines_of (drop from text) ≡ line ∷ more
    → job_lines text ≡ before ++ jobs_from number (line ∷ more)
here_line text from number before more line within (inl p) e = p.1 ∙ ap (λ ls. before ++ jobs_from number ls) e
here_line text from number before more line within (inr p) e = absurd (omega arith)

left_more : (text : List ℕ) (to number : ℕ) (before : List NumberedLine) (more : List (List ℕ))
    → job_lines text ≡ before ++ jobs_from number more → ((to ≤ length text) × (more ≡ lines_of (drop to text)))
    ⊎ ((length text < to) × (more ≡ [])) → Left text to number before
left_more text to number before more e (inl p) = inl (p.0, e ∙ ap (λ ls. before ++ jobs_from number ls) p.1)
left_more text to number before more e (inr p) = inr (p.0, e ∙ ap (λ ls. before ++ jobs_from number ls) p.1 ∙ append-nil before)

skipped : (number : ℕ) (line : List ℕ) (more : List (List ℕ)) → is_job line ≡ false
    → jobs_from number (line ∷ more) ≡ jobs_from (number + 1) more
skipped number line more is = rw is refl

taken : (number : ℕ) (line : List ℕ) (more : List (List ℕ)) → is_job line ≡ true
    → jobs_from number (line ∷ more) ≡ record { number = number; bytes = line } ∷ jobs_from (number + 1) more
taken number line more is = rw is refl

pub lists_more : (text : List ℕ) (from end number : ℕ) (old new : Listed) → from ≤ length text → ListsUpTo text from number old
    → Next text from end (take (end - from) (drop from text)) → TakesLine (take (end - from) (drop from text)) number old new
    → ListsUpTo text (end + 1) (number + 1) new
lists_more text from end number old new within h next took = by took.by
  where
    by : AddsLine (take (end - from) (drop from text)) number old new → ListsUpTo text (end + 1) (number + 1) new
    by (inl p) =
        let here = here_line text from number h.before next.more (take (end - from) (drop from text)) within h.left next.first in
        subst (λ (x : Listed). ListsUpTo text (end + 1) (number + 1) x) (sym p.1) (record {
          before = h.before;
          left = left_more text (end + 1) (number + 1) h.before next.more
              (here ∙ ap (λ t. h.before ++ t) (skipped number (take (end - from) (drop from text)) next.more p.0)) next.left;
          right = h.right;
          few = h.few;
          numbers = h.numbers;
        })
    by (inr p) =
        let l : NumberedLine = record { number = number; bytes = take (end - from) (drop from text) } in
        let here = here_line text from number h.before next.more (take (end - from) (drop from text)) within h.left next.first in
        let few = took.few in
        record {
          before = h.before ++ l ∷ [];
          left = left_more text (end + 1) (number + 1) (h.before ++ l ∷ []) next.more
              (here ∙ ap (λ t. h.before ++ t) (taken number (take (end - from) (drop from text)) next.more p.0)
              ∙ sym (append_assoc h.before (l ∷ []) (jobs_from (number + 1) next.more))) next.left;
          right = subst (λ (x : Listed). AreJobs (h.before ++ l ∷ []) x.jobs) (sym p.3) (jobs_push h.before l old.jobs p.1 h.right p.2);
          few = few;
          numbers = ap (λ (x : Listed). x.lines) p.3 ∙ ap (λ t. t ++ number ∷ []) h.numbers ∙ sym (numbers_push h.before l);
        }

pub lists_all : (text : List ℕ) (from number : ℕ) (listed : Listed) → length text < from → ListsUpTo text from number listed
    → AreJobs (job_lines text) listed.jobs × (listed.lines ≡ numbers_of (job_lines text))
lists_all text from number listed past h = by h.left
  where
    by : Left text from number h.before → AreJobs (job_lines text) listed.jobs × (listed.lines ≡ numbers_of (job_lines text))
    by (inl p) = absurd (omega arith)
    by (inr p) = (subst (λ ls. AreJobs ls listed.jobs) (sym p.1) h.right, h.numbers ∙ ap numbers_of (sym p.1))

pub wrong_error : (e : JobError) (line : List ℕ) (number count : ℕ) → is_job line ≡ true
    → IsError (λ at fault. (at ≡ number) × ((n : ℕ) → IsWrongLine n line fault)) e
    → IsError (λ at fault. (at ≡ number) × (is_job line ≡ true) × IsWrongLine count line fault) e
wrong_error (Fault at fault) line number count is h = (h.0, is, h.1 count)
wrong_error Memory line number count is h = tt

pub lists_error : (text : List ℕ) (from end number : ℕ) (old : Listed) (e : JobError) → from ≤ length text
    → ListsUpTo text from number old → Next text from end (take (end - from) (drop from text))
    → IsError (λ at fault. (at ≡ number) × (is_job (take (end - from) (drop from text)) ≡ true)
    × IsWrongLine (length old.jobs) (take (end - from) (drop from text)) fault) e → IsError (HasWrongLine (job_lines text)) e
lists_error text from end number old (Fault at fault) within h next wrong = record {
  before = h.before;
  line = record { number = number; bytes = take (end - from) (drop from text) };
  after = jobs_from (number + 1) next.more;
  jobs = old.jobs;
  split = here_line text from number h.before next.more (take (end - from) (drop from text)) within h.left next.first
      ∙ ap (λ t. h.before ++ t) (taken number (take (end - from) (drop from text)) next.more wrong.1);
  right = h.right;
  few = h.few;
  wrong = wrong.2;
  place = wrong.0;
}
lists_error text from end number old Memory within h next wrong = tt

-- ---- the whole text

pub text_error : (e : JobError) (text : List ℕ) → length text ≤ job_list_max → IsError (HasWrongLine (job_lines text)) e
    → IsError (JobFaultStands text) e
text_error (Fault at fault) text short h = inr (short, inl h)
text_error Memory text short h = tt

none_listed : (lines : List NumberedLine) (jobs : List (List (List ℕ))) → AreJobs lines jobs → length jobs ≡ 0 → lines ≡ []
none_listed [] jobs h e = refl
none_listed (l ∷ ls) [] h e = absurd h
none_listed (l ∷ ls) (j ∷ js) h e = absurd (omega arith)

pub text_empty : (text : List ℕ) (jobs : List (List (List ℕ))) → length text ≤ job_list_max → AreJobs (job_lines text) jobs
    → length jobs ≡ 0 → JobFaultStands text 0 NoJobs
text_empty text jobs short h e = inr (short, inr (inl (none_listed (job_lines text) jobs h e, refl, refl)))

-- as many numbers as jobs
pub numbers_long : (lines : List NumberedLine) (jobs : List (List (List ℕ))) → AreJobs lines jobs → length (numbers_of lines) ≡ length jobs
numbers_long [] [] h = refl
numbers_long [] (j ∷ js) h = absurd h
numbers_long (l ∷ ls) [] h = absurd h
numbers_long (l ∷ ls) (j ∷ js) h = ap suc (numbers_long ls js h.1)

line_there : (lines : List NumberedLine) (i at : ℕ) → slice_get (numbers_of lines) i ≡ Some at
    → (line : NumberedLine) × (slice_get lines i ≡ Some line) × (at ≡ line.number)
line_there [] i at h = absurd cc
line_there (l ∷ ls) zero at h = (l, refl, let e : l.number ≡ at = cc in sym e)
line_there (l ∷ ls) (suc i) at h = line_there ls i at h

share_error : (e : JobError) (text : List ℕ) (listed : Listed) → length text ≤ job_list_max → AreJobs (job_lines text) listed.jobs
    → length listed.jobs ≤ jobs_max → listed.lines ≡ numbers_of (job_lines text) → IsError (ListedShare listed) e
    → IsError (JobFaultStands text) e
share_error (Fault at fault) text listed short each few numbers h =
    let there = line_there (job_lines text) h.second at (ap (λ ns. slice_get ns h.second) (sym numbers) ∙ h.there) in
    inr (
      short,
      inr (inr (record {
        jobs = listed.jobs;
        first = h.first;
        second = h.second;
        line = there.0;
        each = each;
        few = few;
        pair = h.pair;
        there = there.1;
        place = there.2;
        named = h.named;
      })),
    )
share_error Memory text listed short each few numbers h = tt

pub list_answer : (r : Result (List (List (List ℕ))) JobError) (text : List ℕ) (listed : Listed) → length text ≤ job_list_max
    → AreJobs (job_lines text) listed.jobs → 1 ≤ length listed.jobs → length listed.jobs ≤ jobs_max → IfOk r (λ jobs. jobs ≡ listed.jobs)
    → OnOk r (AreApart (outputs_of listed.jobs)) → IfOk r (λ jobs. JobsOf text jobs)
list_answer (Ok jobs) text listed short each some few is apart =
    subst (JobsOf text) (sym is) (record { short = short; each = each; some = some; few = few; apart = apart })
list_answer (Err e) text listed short each some few is apart = tt

pub share_answer : (r : Result (List (List (List ℕ))) JobError) (text : List ℕ) (listed : Listed) → length text ≤ job_list_max
    → AreJobs (job_lines text) listed.jobs → length listed.jobs ≤ jobs_max → listed.lines ≡ numbers_of (job_lines text)
    → IfErr r (λ e. IsError (ListedShare listed) e) → IfErr r (λ e. IsError (JobFaultStands text) e)
share_answer (Ok jobs) text listed short each few numbers h = tt
share_answer (Err e) text listed short each few numbers h = share_error e text listed short each few numbers h
