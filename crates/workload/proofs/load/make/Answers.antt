use Rattle.std.proofs.Common.{◌≡◌, ℕ, ◌+◌, List, ◌++◌, ◌∷◌, [], map, sym, ◌∙◌, ap, arith}
use Rattle.std.specs.List.{range_with_len}
use Rattle.std.specs.FinMap.{insert, from_entries}
use Rattle.std.proofs.lemmas.List.FromFn.{map-range_with_len_more}
use Rattle.file_map.specs.FileMaps.{Files}
use Rattle.workload.specs.Loads.{next_state, generator_after, factor_of, job_source, source_text, job_words, job_file}
use Rattle.workload.proofs.Filing.{one_more_file, state_step}
use Rattle.workload.proofs.load.make.Goals as goal

pub loop-before-preserved : goal.loop-before-preserved
loop-before-preserved c =
    let n = c.args.n in
    let k = c.loop-before.before in
    let words = c.in_ok-job_words.field-0 in
    let path = c.in_ok-job_source.field-0 in
    let text = c.in_ok-source_text.field-0 in
    let files : Files = from_entries (map (job_file n) (range_with_len 1 k)) in
    let state : c.next_factor-factor.new.self.state ≡ generator_after n (k + 1) = c.next_factor-factor.ensures.state
    ∙ ap next_state c.loop-before.invariant.state ∙ sym (state_step n k) in
    let factor : c.next_factor-factor.result ≡ factor_of (generator_after n (k + 1)) = c.next_factor-factor.ensures.factor
    ∙ ap factor_of state in
    record {
      jobs = c.in_ok-try_push.ensures.ok ∙ ap (λ (list : List (List (List ℕ))). list ++ words ∷ []) c.loop-before.invariant.jobs
          ∙ ap (λ (w : List (List ℕ)). map job_words (range_with_len 1 k) ++ w ∷ []) c.in_ok-job_words.ensures
          ∙ sym (map-range_with_len_more job_words 1 k (k + 1) (omega arith));
      files = c.in_ok-try_put.ensures.ok ∙ ap (λ (f : Files). insert f path text) c.loop-before.invariant.files
          ∙ ap (λ (p : List ℕ). insert files p text) c.in_ok-job_source.ensures
          ∙ ap (λ (t : List ℕ). insert files (job_source (k + 1)) t) (c.in_ok-source_text.ensures ∙ ap (source_text (k + 1)) factor)
          ∙ sym (one_more_file n k (omega (arith, c.requires.most, c.loop-before-test.true)));
      state = state;
      within = omega (arith, c.loop-before-test.true);
    }
