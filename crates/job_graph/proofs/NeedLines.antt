-- The lines of needs, one after another.
use Rattle.std.proofs.Common.{◌≡◌, ℕ, ◌+◌, ◌<◌, ◌≤◌, Bool, true, false, List, [], ◌∷◌, ◌++◌, length, Some, None, refl, ap, sym, ◌∙◌}
use Rattle.std.proofs.Common.{inl, inr, arith}
use Rattle.std.proofs.lemmas.List.{append-nil, append_assoc, length-append}
use Rattle.job_list.specs.Texts.{is_job, lines_of}
use Rattle.job_list.proofs.Listing.{Next}
use Rattle.job_graph.specs.declared.fault.GraphFault.TheVariants.{BadNeed, NoJobAfter}
use Rattle.job_graph.specs.Lines.{is_needs, needed_words}
use Rattle.job_graph.specs.Needs.{all_named, jobs_named, is_graph_job, has_job, line_fault, fault_or, fault_from, needs_fault}
use Rattle.job_graph.specs.Needs.{needs_from, needs_of}
use Rattle.job_graph.specs.Steps.{job_count}
use Rattle.job_graph.proofs.Lines.{LinesLeft, Reading}

-- ---- jobs that follow

count_here : (l : List ℕ) (ls : List (List ℕ)) → is_graph_job l ≡ true → job_count (l ∷ ls) ≡ job_count ls + 1
count_here l ls e = rw e refl

count_past : (l : List ℕ) (ls : List (List ℕ)) → is_graph_job l ≡ false → job_count (l ∷ ls) ≡ job_count ls
count_past l ls e = rw e refl

has_some : (ls : List (List ℕ)) → 1 ≤ job_count ls → has_job ls ≡ true
has_some [] h = absurd (omega arith)
has_some (l ∷ ls) h = by (λ k. has_some ls k) (is_graph_job l) refl
  where
    by : (1 ≤ job_count ls → has_job ls ≡ true) → (b : Bool) → is_graph_job l ≡ b → has_job (l ∷ ls) ≡ true
    by more true e = rw e refl
    by more false e = rw e (more (let n = count_past l ls e in omega arith))

has_none : (ls : List (List ℕ)) → job_count ls ≡ 0 → has_job ls ≡ false
has_none [] h = refl
has_none (l ∷ ls) h = by (λ k. has_none ls k) (is_graph_job l) refl
  where
    by : (job_count ls ≡ 0 → has_job ls ≡ false) → (b : Bool) → is_graph_job l ≡ b → has_job (l ∷ ls) ≡ false
    by more true e = let n = count_here l ls e in absurd (omega arith)
    by more false e = rw e (more (let n = count_past l ls e in omega arith))

needs_no_job : (l : List ℕ) → is_needs l ≡ true → is_graph_job l ≡ false
needs_no_job l e = rw e refl

-- ---- the fault of a line

fault_other : (count : ℕ) (line : List ℕ) (after : List (List ℕ)) → is_needs line ≡ false → line_fault count line after ≡ None
fault_other count line after e = rw e refl

fault_bad : (count : ℕ) (line : List ℕ) (after : List (List ℕ)) → is_needs line ≡ true → all_named count (needed_words line) ≡ false
    → line_fault count line after ≡ Some BadNeed
fault_bad count line after e f = rw (e, f) refl

fault_last : (count : ℕ) (line : List ℕ) (after : List (List ℕ)) → is_needs line ≡ true → all_named count (needed_words line) ≡ true
    → has_job after ≡ false → line_fault count line after ≡ Some NoJobAfter
fault_last count line after e f g = rw (e, f, g) refl

fault_none : (count : ℕ) (line : List ℕ) (after : List (List ℕ)) → is_needs line ≡ true → all_named count (needed_words line) ≡ true
    → has_job after ≡ true → line_fault count line after ≡ None
fault_none count line after e f g = rw (e, f, g) refl

-- ---- the loop

-- the lines that are left are this one and others
lines_here : (text : List ℕ) (from end : ℕ) (line : List ℕ) (lines : List (List ℕ)) → from ≤ length text → LinesLeft text from lines
    → (next : Next text from end line) → lines ≡ line ∷ next.more
lines_here text from end line lines within (inl p) next = p.1 ∙ next.first
lines_here text from end line lines within (inr p) next = absurd (omega arith)

pub reads_none : (text : List ℕ) (count : ℕ) → job_count (lines_of text) ≡ count → Reading text count 0 1 [] []
reads_none text count h = record {
  lines = lines_of text;
  left = inl (omega arith, refl);
  so_far = refl;
  right = refl;
  jobs = let n = h in omega arith;
}

pub reads_needs : (text : List ℕ) (count from end number : ℕ) (line ahead new : List ℕ) (needs : List (List ℕ)) → from ≤ length text
    → Reading text count from number ahead needs → Next text from end line → is_needs line ≡ true
    → all_named count (needed_words line) ≡ true → (length needs ≡ count → ⊥) → new ≡ ahead ++ jobs_named count (needed_words line)
    → Reading text count (end + 1) (number + 1) new needs
reads_needs text count from end number line ahead new needs within h next e f some to =
    let here = lines_here text from end line h.lines within h.left next in
    let past = count_past line next.more (needs_no_job line e) in
    let jobs : length needs + job_count next.more ≡ count = ap (λ n. length needs + n) (sym past ∙ ap job_count (sym here)) ∙ h.jobs in
    let left : 1 ≤ job_count next.more = at_least (job_count next.more) (λ z. some (let z' : job_count next.more ≡ 0 = z in omega arith)) in
    let fault = fault_none count line next.more e f (has_some next.more left) in
    let step : needs_from count ahead (line ∷ next.more) ≡ needs_from count (ahead ++ jobs_named count (needed_words line)) next.more =
    rw e refl in
    record {
      lines = next.more;
      left = next.left;
      so_far = h.so_far ∙ ap (λ ls. needs ++ needs_from count ahead ls) here
          ∙ ap (λ t. needs ++ t) (step ∙ ap (λ o. needs_from count o next.more) (sym to));
      right = h.right ∙ ap (fault_from count number) here ∙ ap (λ x. fault_or number x (fault_from count (number + 1) next.more)) fault;
      jobs = jobs;
    }
  where
    at_least : (n : ℕ) → (n ≡ 0 → ⊥) → 1 ≤ n
    at_least n h = omega arith

pub reads_job : (text : List ℕ) (count from end number : ℕ) (line ahead : List ℕ) (needs new : List (List ℕ)) → from ≤ length text
    → Reading text count from number ahead needs → Next text from end line → is_needs line ≡ false → is_job line ≡ true
    → new ≡ needs ++ ahead ∷ [] → Reading text count (end + 1) (number + 1) [] new
reads_job text count from end number line ahead needs new within h next e f to =
    let here = lines_here text from end line h.lines within h.left next in
    let is : is_graph_job line ≡ true = rw (e, f) refl in
    let more = count_here line next.more is in
    let jobs : length needs + (job_count next.more + 1) ≡ count = ap (λ n. length needs + n) (sym more ∙ ap job_count (sym here))
    ∙ h.jobs in
    let long : length new ≡ length needs + 1 = ap length to ∙ length-append needs (ahead ∷ []) in
    let step : needs_from count ahead (line ∷ next.more) ≡ ahead ∷ needs_from count [] next.more = rw (e, f) refl in
    record {
      lines = next.more;
      left = next.left;
      so_far = h.so_far ∙ ap (λ ls. needs ++ needs_from count ahead ls) here ∙ ap (λ t. needs ++ t) step
          ∙ sym (append_assoc needs (ahead ∷ []) (needs_from count [] next.more))
          ∙ ap (λ t. t ++ needs_from count [] next.more) (sym to);
      right = h.right ∙ ap (fault_from count number) here
          ∙ ap (λ x. fault_or number x (fault_from count (number + 1) next.more)) (fault_other count line next.more e);
      jobs = omega arith;
    }

pub reads_other : (text : List ℕ) (count from end number : ℕ) (line ahead : List ℕ) (needs : List (List ℕ)) → from ≤ length text
    → Reading text count from number ahead needs → Next text from end line → is_needs line ≡ false → is_job line ≡ false
    → Reading text count (end + 1) (number + 1) ahead needs
reads_other text count from end number line ahead needs within h next e f =
    let here = lines_here text from end line h.lines within h.left next in
    let is : is_graph_job line ≡ false = rw (e, f) refl in
    let step : needs_from count ahead (line ∷ next.more) ≡ needs_from count ahead next.more = rw (e, f) refl in
    record {
      lines = next.more;
      left = next.left;
      so_far = h.so_far ∙ ap (λ ls. needs ++ needs_from count ahead ls) here ∙ ap (λ t. needs ++ t) step;
      right = h.right ∙ ap (fault_from count number) here
          ∙ ap (λ x. fault_or number x (fault_from count (number + 1) next.more)) (fault_other count line next.more e);
      jobs = ap (λ n. length needs + n) (sym (count_past line next.more is) ∙ ap job_count (sym here)) ∙ h.jobs;
    }

pub reads_all : (text : List ℕ) (count from number : ℕ) (ahead : List ℕ) (needs : List (List ℕ)) → length text < from
    → Reading text count from number ahead needs → (needs_fault count text ≡ None) × (needs ≡ needs_of count text)
reads_all text count from number ahead needs past h = by h.left
  where
    by : LinesLeft text from h.lines → (needs_fault count text ≡ None) × (needs ≡ needs_of count text)
    by (inl p) = absurd (omega arith)
    by (inr p) = (
      h.right ∙ ap (fault_from count number) p.1,
      sym (h.so_far ∙ ap (λ ls. needs ++ needs_from count ahead ls) p.1 ∙ append-nil needs),
    )

pub reads_bad : (text : List ℕ) (count from end number : ℕ) (line ahead : List ℕ) (needs : List (List ℕ)) → from ≤ length text
    → Reading text count from number ahead needs → Next text from end line → is_needs line ≡ true
    → all_named count (needed_words line) ≡ false → needs_fault count text ≡ Some (record { line = number; fault = BadNeed })
reads_bad text count from end number line ahead needs within h next e f =
    h.right
    ∙ ap (fault_from count number) (lines_here text from end line h.lines within h.left next)
    ∙ ap (λ x. fault_or number x (fault_from count (number + 1) next.more)) (fault_bad count line next.more e f)

pub reads_last : (text : List ℕ) (count from end number : ℕ) (line ahead : List ℕ) (needs : List (List ℕ)) → from ≤ length text
    → Reading text count from number ahead needs → Next text from end line → is_needs line ≡ true
    → all_named count (needed_words line) ≡ true → length needs ≡ count
    → needs_fault count text ≡ Some (record { line = number; fault = NoJobAfter })
reads_last text count from end number line ahead needs within h next e f all =
    let here = lines_here text from end line h.lines within h.left next in
    let past = count_past line next.more (needs_no_job line e) in
    let jobs : length needs + job_count next.more ≡ count = ap (λ n. length needs + n) (sym past ∙ ap job_count (sym here)) ∙ h.jobs in
    h.right
    ∙ ap (fault_from count number) here
    ∙ ap (λ x. fault_or number x (fault_from count (number + 1) next.more))
    (fault_last count line next.more e f (has_none next.more (omega arith)))
