-- The files of the workload, one after the other.
use Rattle.std.proofs.Common.{◌≡◌, ℕ, zero, suc, ◌+◌, ◌<◌, ◌≤◌, ◌^◌, Bool, true, false, cond, List, ◌++◌, map, refl, sym, ◌∙◌, ap, arith}
use Rattle.std.specs.Prelude.{Some, None, nat_eq, nat_lt, codes}
use Rattle.std.specs.Fmt.{decimal}
use Rattle.std.specs.List.{range_with_len}
use Rattle.std.specs.Ordering.{nat_cmp}
use Rattle.std.specs.Cmp.Lexicographic.{slice_cmp, nat_list_cmp_total, texts_ties, same_text}
use Rattle.std.specs.FinMap.{get, insert, from_entries, get-insert, get-empty, get-from_entries, from_entries_push}
use Rattle.std.specs.FinMap.{slice_cmp-IsAntisymmetric, nat_cmp-IsAntisymmetric}
use Rattle.std.proofs.lemmas.Bool.{ltb-true, ltb-false}
use Rattle.std.proofs.lemmas.Cmp.{nat_list_eq_equiv}
use Rattle.std.proofs.lemmas.Fmt.{decimal_injective}
use Rattle.std.proofs.lemmas.List.FromFn.{map-range_with_len_more}
use Rattle.farm_types.specs.Limits.{jobs_max}
use mathlib.Core.List.{append_cancel_left, append_cancel_right}
use lib.Pointwise.{pointwise}
use Rattle.file_map.specs.FileMaps.{Files}
use Rattle.workload.specs.Loads.{next_state, generator_after, job_source, job_file}

-- two jobs have two names
same_job : (a b : ℕ) → a < 2 ^ 64 → b < 2 ^ 64 → job_source a ≡ job_source b → a ≡ b
same_job a b small small' same =
    decimal_injective a b small small'
    (append_cancel_left (codes "j") (decimal a) (decimal b)
    (append_cancel_right (codes "j" ++ decimal a) (codes "j" ++ decimal b) (codes ".c") same))

apart : (a b : ℕ) (test : Bool) → a < b → b < 2 ^ 64 → pointwise nat_eq (job_source b) (job_source a) ≡ test → test ≡ false
apart a b false less small is = refl
apart a b true less small is =
    let same : b ≡ a = same_job b a small (omega (arith, less, small)) (same_text (job_source b) (job_source a) (sym is)) in
    absurd (omega (arith, same, less))

at_put : (files : Files) (path bytes q : List ℕ)
    → get (insert files path bytes) q ≡ cond (pointwise nat_eq q path) (Some bytes) (get files q)
at_put files path bytes q = get-insert nat_list_cmp_total files path bytes q
    ∙ ap (λ test. cond test (Some bytes) (get files q)) (sym (texts_ties q path))

-- no file of an earlier job has the name of a later one
none_yet : (n job first count : ℕ) → first + count ≤ job → job < 2 ^ 64
    → get (from_entries {R = slice_cmp nat_cmp} (map (job_file n) (range_with_len first count))) (job_source job) ≡ None
none_yet n job first zero within small = get-empty (slice_cmp nat_cmp) (job_source job)
none_yet n job first (suc count) within small =
    let other = apart first job (pointwise nat_eq (job_source job) (job_source first)) (omega (arith, within)) small refl in
    let rest = from_entries {R = slice_cmp nat_cmp} (map (job_file n) (range_with_len (first + 1) count)) in
    at_put rest (job_source first) (job_file n first).1 (job_source job)
    ∙ ap (λ test. cond test (Some (job_file n first).1) (get rest (job_source job))) other
    ∙ none_yet n job (first + 1) count (omega (arith, within)) small

-- the file of the next job is put behind those before
pub one_more_file : (n before : ℕ) → before + 1 < 2 ^ 64
    → from_entries {R = slice_cmp nat_cmp} (map (job_file n) (range_with_len 1 (before + 1)))
    ≡ insert (from_entries (map (job_file n) (range_with_len 1 before))) (job_source (before + 1)) (job_file n (before + 1)).1
one_more_file n before small =
    let files = map (job_file n) (range_with_len 1 before) in
    ap (λ list. from_entries {R = slice_cmp nat_cmp} list) (map-range_with_len_more (job_file n) 1 before (before + 1) (omega arith))
    ∙ from_entries_push nat_list_cmp_total (slice_cmp-IsAntisymmetric nat_cmp-IsAntisymmetric) files (job_source (before + 1))
    (job_file n (before + 1)).1
    (sym (get-from_entries nat_list_cmp_total files (job_source (before + 1))) ∙ none_yet n (before + 1) 1 before (omega arith) small)

-- the file of a job, where the first of some is put in front of the others
chosen : (n job first : ℕ) (rest : Files) (test less : Bool) → pointwise nat_eq (job_source job) (job_source first) ≡ test
    → nat_lt first job ≡ less → first ≤ job → job < 2 ^ 64
    → (first + 1 ≤ job → get rest (job_source job) ≡ Some (job_file n job).1)
    → cond test (Some (job_file n first).1) (get rest (job_source job)) ≡ Some (job_file n job).1
chosen n job first rest true less same is above small later =
    ap (λ k. Some (job_file n k).1)
    (sym (same_job job first small (omega (arith, above, small)) (same_text (job_source job) (job_source first) (sym same))))
chosen n job first rest false true same is above small later = later (omega (arith, ltb-true first job is))
chosen n job first rest false false same is above small later =
    let equal : first ≡ job = omega (arith, ltb-false first job is, above) in
    let tied : true ≡ false = sym (nat_list_eq_equiv.refl (job_source job))
    ∙ ap (λ k. pointwise nat_eq (job_source job) (job_source k)) (sym equal) ∙ same in
    absurd (cc tied)

there : (n job first count : ℕ) → first ≤ job → job < first + count → job < 2 ^ 64
    → get (from_entries {R = slice_cmp nat_cmp} (map (job_file n) (range_with_len first count))) (job_source job) ≡ Some (job_file n job).1
there n job first zero above below small = absurd (omega (arith, above, below))
there n job first (suc count) above below small =
    let rest = from_entries {R = slice_cmp nat_cmp} (map (job_file n) (range_with_len (first + 1) count)) in
    at_put rest (job_source first) (job_file n first).1 (job_source job)
    ∙ chosen n job first rest (pointwise nat_eq (job_source job) (job_source first)) (nat_lt first job) refl refl above small
    (λ more. there n job (first + 1) count more (omega (arith, below)) small)

pub one_file : (n job : ℕ) → n ≤ jobs_max → 1 ≤ job → job ≤ n
    → get (from_entries {R = slice_cmp nat_cmp} (map (job_file n) (range_with_len 1 n))) (job_source job) ≡ Some (job_file n job).1
one_file n job small some most = there n job 1 n some (omega (arith, most)) (omega (arith, small, most))

-- the generator's next number
pub state_step : (n k : ℕ) → generator_after n (k + 1) ≡ next_state (generator_after n k)
state_step n k = ap (generator_after n) (let next : k + 1 ≡ suc k = omega arith in next)
