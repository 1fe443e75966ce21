-- The numbers of all reports.
use Rattle.std.proofs.Common.{◌≡◌, ℕ, suc, ◌+◌, ◌<◌, Bool, true, cond, List, [], ◌∷◌, length, get_or, Option, Some, None, refl, sym, ap}
use Rattle.std.proofs.Common.{◌∙◌, subst, arith}
use Rattle.std.specs.Prelude.{All, map, count_by, slice_get, ◌==◌}
use Rattle.std.specs.List.{AllZip, sum_by, range_with_len}
use Rattle.std.proofs.lemmas.List.Sums.{sum_by-cons}
use Rattle.std.proofs.lemmas.Option.{get_or_from_slice_get, slice_get-get_or, slice_get_within}
use Rattle.edge_traits.specs.declared.entries.Put.{Put}
use Rattle.farm_types.specs.declared.ran.Ran.{Ran}
use Rattle.farm_machine.specs.declared.reports.End.{End}
use Rattle.farm_machine.specs.declared.reports.End.TheVariants.{Done, Failed}
use Rattle.farm_machine.specs.declared.reports.Report.{Report}
use Rattle.farm_machine.specs.declared.reports.Why5.TheVariants.{Station, Put as NotPut, Broke, NoHost, Memory, Fetch}
use Rattle.course_laws.specs.Returns.{is_done_or_wanted}
use Rattle.report_text.specs.Pieces.{is_done_well}
use Rattle.sample_compiler.specs.Samples.{SampleOf}
use Rattle.workload.specs.Loads.{job_words, files_of}
use Rattle.rehearsal.specs.declared.numbers.Count.{Count}
use Rattle.rehearsal.specs.Counts.{report_len, IsDone, CountsDone}
use Rattle.rehearsal.specs.Rehearsals.{ended_well, object_len, EndsAs, Tells}
use Rattle.rehearsal.proofs.Reporting.{Counted, TellsOf}

abbrev well : Report → Bool
well report = is_done_well report.end

-- runs of the jobs from a number on, one for each report
record Collected (n : ℕ) (puts : ℕ → List Put) (from : ℕ) (reports : List Report) : Type 0 where
  rans : List Ran
  left : AllZip (λ words ran. SampleOf (files_of n) words ran) (map job_words (range_with_len from (length reports))) rans
  ends : AllZip (λ report ran. EndsAs report.end ran) reports rans
  done : count_by well reports ≡ count_by ended_well rans
  bytes : sum_by (report_len puts) reports ≡ sum_by object_len rans

same_test : (end : End) (ran : Ran) → EndsAs end ran → is_done_well end ≡ ended_well ran
same_test (Done status note err out by) ran ends = ap (λ (s : ℕ). s == 0) ends.0
same_test (Failed why) ran ends = absurd ends

same_sum : {A B : Type 0} (f : A → ℕ) (g : B → ℕ) (x : A) (xs : List A) (y : B) (ys : List B) → f x ≡ g y
    → sum_by f xs ≡ sum_by g ys → sum_by f (x ∷ xs) ≡ sum_by g (y ∷ ys)
same_sum f g x xs y ys one more = sum_by-cons f x xs ∙ ap (λ k. k + sum_by f xs) one ∙ ap (λ k. g y + k) more ∙ sym (sum_by-cons g y ys)

collect : (n : ℕ) (puts : ℕ → List Put) (from : ℕ) (reports : List Report)
    → ((i : ℕ) (report : Report) → slice_get reports i ≡ Some report → Counted n (i + from) puts report) → Collected n puts from reports
collect n puts from [] all = record { rans = []; left = tt; ends = tt; done = refl; bytes = refl }
collect n puts from (report ∷ reports) all =
    let here : Counted n from puts report = subst (λ job. Counted n job puts report) (omega arith) (all 0 report refl) in
    let more = collect n puts (from + 1) reports
    (λ i other there. subst (λ job. Counted n job puts other) (omega arith) (all (suc i) other there)) in
    record {
      rans = here.left ∷ more.rans;
      left = (here.sample, more.left);
      ends = (here.ends, more.ends);
      done = same_sum (λ r. cond (well r) 1 0) (λ r. cond (ended_well r) 1 0) report reports here.left more.rans
          (ap (λ (b : Bool). cond b 1 0) (same_test report.end here.left here.ends)) more.done;
      bytes = same_sum (report_len puts) object_len report reports here.left more.rans here.len more.bytes;
    }

module _ (n : ℕ) (puts : ℕ → List Put) (reports : List Report) (one_each : length reports ≡ n)
    (told : (j : ℕ) (report : Report) → j < n → slice_get reports j ≡ Some report → TellsOf n (j + 1) puts report) where
  within : (j : ℕ) (report : Report) → slice_get reports j ≡ Some report → j < n
  within j report there = subst (λ k. j < k) one_each (slice_get_within reports j report there)

  pub all_returned : All (λ report. is_done_or_wanted report.end ≡ true) reports
  all_returned k d below = (told k (get_or reports k d) (subst (λ m. k < m) one_each below) (slice_get-get_or reports k d below)).returned

  wanted : (report : Report) → is_done_or_wanted report.end ≡ true → (IsDone report.end → ⊥) → report.end ≡ Failed Memory
  wanted report returned not = by_end report.end refl returned not
    where
      by_end : (end : End) → report.end ≡ end → is_done_or_wanted end ≡ true → (IsDone end → ⊥) → report.end ≡ Failed Memory
      by_end (Done status note err out by) same returned not = absurd (not tt)
      by_end (Failed Memory) same returned not = same
      by_end (Failed Station) same returned not = absurd (cc returned)
      by_end (Failed NotPut) same returned not = absurd (cc returned)
      by_end (Failed (Broke host cause)) same returned not = absurd (cc returned)
      by_end (Failed NoHost) same returned not = absurd (cc returned)
      by_end (Failed Fetch) same returned not = absurd (cc returned)

  pub all_told : (count : Option Count) → CountsDone puts reports count → Tells n reports count
  all_told None (report, at, there, not) = (report, at, there, wanted report (told at report (within at report there) there).returned not)
  all_told (Some count) (done, number, bytes) =
      let all = collect n puts 1 reports (λ i report there.
      (told i report (within i report there) there).counted
      (let is = get_or_from_slice_get reports i report report there in
      subst (λ r. IsDone r.end) is (done i report (subst (λ m. i < m) (sym one_each) (within i report there))))) in
      record {
        rans = all.rans;
        left = subst (λ m. AllZip (λ words ran. SampleOf (files_of n) words ran) (map job_words (range_with_len 1 m)) all.rans)
            one_each all.left;
        ends = all.ends;
        done = number ∙ all.done;
        reported = number;
        bytes = bytes ∙ all.bytes;
      }
