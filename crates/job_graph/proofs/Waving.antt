-- Which jobs of a level run.
use Rattle.std.proofs.Common.{◌≡◌, ℕ, ◌+◌, min, Bool, true, false, cond, List, [], ◌∷◌, ◌++◌, get_or, map, Option, Some, None, refl, ap}
use Rattle.std.proofs.Common.{sym, ◌∙◌, arith}
use Rattle.std.specs.Prelude.{◌==◌, All}
use Rattle.std.specs.List.{filter, range_with_len}
use Rattle.std.proofs.lemmas.Bool.Decides.{nat_tests}
use Rattle.std.proofs.lemmas.List.{map-id, map-append, append-nil}
use Rattle.std.proofs.lemmas.List.Elements.{All-nil, All-cons, All-tail}
use Rattle.std.proofs.lemmas.List.FromFn.{filter_of_map_range_with_len_more}
use Rattle.job_graph.specs.declared.fates.Fate.{Fate}
use Rattle.job_graph.specs.declared.fates.Wave.{Wave}
use Rattle.job_graph.specs.declared.graph.Graph.{Graph}
use Rattle.job_graph.specs.Depths.{needs_at}
use Rattle.job_graph.specs.Steps.{AddsJob}
use Rattle.job_graph.specs.Waves.{is_good, fate_at, lesser, least_not_good, blocker, runs, skips, or_zero}

-- ---- the least need that isn't good

-- the lesser of two numbers, if there are such
abbrev pub least_with : Option ℕ → Option ℕ → Option ℕ
least_with None other = other
least_with (Some n) other = lesser n other

not_good_here : (fates : List Fate) (n : ℕ) (ns : List ℕ) → is_good (fate_at fates n) ≡ false
    → least_not_good fates (n ∷ ns) ≡ lesser n (least_not_good fates ns)
not_good_here fates n ns e = rw e refl

good_here : (fates : List Fate) (n : ℕ) (ns : List ℕ) → is_good (fate_at fates n) ≡ true
    → least_not_good fates (n ∷ ns) ≡ least_not_good fates ns
good_here fates n ns e = rw e refl

least_swap : (n : ℕ) (l rest : Option ℕ) → least_with (lesser n l) rest ≡ least_with l (lesser n rest)
least_swap n None None = refl
least_swap n None (Some m) = refl
least_swap n (Some k) None = ap Some (min_comm n k)
  where
    min_comm : (a b : ℕ) → min a b ≡ min b a
    min_comm a b = omega arith
least_swap n (Some k) (Some m) = ap Some (three n k m)
  where
    three : (a b c : ℕ) → min (min a b) c ≡ min b (min a c)
    three a b c = omega arith

pub least_bad : (fates : List Fate) (l : Option ℕ) (r n : ℕ) (ns : List ℕ) → Some r ≡ lesser n l → is_good (fate_at fates n) ≡ false
    → least_with (Some r) (least_not_good fates ns) ≡ least_with l (least_not_good fates (n ∷ ns))
least_bad fates l r n ns is e = ap (λ x. least_with x (least_not_good fates ns)) is ∙ least_swap n l (least_not_good fates ns)
    ∙ ap (least_with l) (sym (not_good_here fates n ns e))

pub least_good : (fates : List Fate) (l : Option ℕ) (n : ℕ) (ns : List ℕ) → is_good (fate_at fates n) ≡ true
    → least_with l (least_not_good fates ns) ≡ least_with l (least_not_good fates (n ∷ ns))
least_good fates l n ns e = ap (least_with l) (sym (good_here fates n ns e))

pub least_whole : (l : Option ℕ) → least_with l None ≡ l
least_whole None = refl
least_whole (Some n) = refl

-- ---- the loop

filter_jobs_more : (p : ℕ → Bool) (n : ℕ) → filter p (range_with_len 0 (n + 1)) ≡ filter p (range_with_len 0 n) ++ cond (p n) (n ∷ []) []
filter_jobs_more p n =
    ap (filter p) (sym (map-id (range_with_len 0 (n + 1))))
    ∙ filter_of_map_range_with_len_more p (λ x. x) 0 n n (omega arith)
    ∙ ap (λ t. filter p t ++ cond (p n) (n ∷ []) []) (map-id (range_with_len 0 n))

filter_more_yes : (p : ℕ → Bool) (n : ℕ) → p n ≡ true → filter p (range_with_len 0 (n + 1)) ≡ filter p (range_with_len 0 n) ++ n ∷ []
filter_more_yes p n e = filter_jobs_more p n ∙ ap (λ b. filter p (range_with_len 0 n) ++ cond b (n ∷ []) []) e

filter_more_no : (p : ℕ → Bool) (n : ℕ) → p n ≡ false → filter p (range_with_len 0 (n + 1)) ≡ filter p (range_with_len 0 n)
filter_more_no p n e = filter_jobs_more p n ∙ ap (λ b. filter p (range_with_len 0 n) ++ cond b (n ∷ []) []) e
    ∙ append-nil (filter p (range_with_len 0 n))

-- the jobs below this one are sorted
pub record WaveUpTo (graph : Graph) (level : ℕ) (fates : List Fate) (job : ℕ) (wave : Wave) : Type 0 where
  pub run : wave.run ≡ filter (runs graph level fates) (range_with_len 0 job)
  pub skip : wave.skip ≡ filter (skips graph level fates) (range_with_len 0 job)
  pub by : wave.by ≡ map (λ n. or_zero (blocker graph.needs fates n)) (filter (skips graph level fates) (range_with_len 0 job))

at_level : (a b : ℕ) → a ≡ b → (a == b) ≡ true
at_level a b e = grind (arith, nat_tests)

off_level : (a b : ℕ) → (a ≡ b → ⊥) → (a == b) ≡ false
off_level a b ne = grind (arith, nat_tests)

module _ (graph : Graph) (level : ℕ) (fates : List Fate) (job : ℕ) (old new : Wave) (h : WaveUpTo graph level fates job old) where
  pub wave_skips : (by : ℕ) → get_or graph.depths job 0 ≡ level → least_not_good fates (needs_at graph.needs job) ≡ Some by
      → new.run ≡ old.run → new.skip ≡ old.skip ++ job ∷ [] → new.by ≡ old.by ++ by ∷ [] → WaveUpTo graph level fates (job + 1) new
  wave_skips by at blocked run skip more =
      let here : (get_or graph.depths job 0 == level) ≡ true = at_level (get_or graph.depths job 0) level at in
      let no : runs graph level fates job ≡ false = rw (here, blocked) refl in
      let yes : skips graph level fates job ≡ true = rw (here, blocked) refl in
      let list = filter_more_yes (skips graph level fates) job yes in
      let f : ℕ → ℕ = λ n. or_zero (blocker graph.needs fates n) in
      let last : f job ≡ by = ap or_zero blocked in
      record {
        run = run ∙ h.run ∙ sym (filter_more_no (runs graph level fates) job no);
        skip = skip ∙ ap (λ t. t ++ job ∷ []) h.skip ∙ sym list;
        by =
            more
            ∙ ap (λ t. t ++ by ∷ []) h.by
            ∙ ap (λ b. map f (filter (skips graph level fates) (range_with_len 0 job)) ++ b ∷ []) (sym last)
            ∙ sym (map-append f (filter (skips graph level fates) (range_with_len 0 job)) (job ∷ []))
            ∙ ap (map f) (sym list);
      }

  pub wave_runs : get_or graph.depths job 0 ≡ level → least_not_good fates (needs_at graph.needs job) ≡ None
      → new.run ≡ old.run ++ job ∷ [] → new.skip ≡ old.skip → new.by ≡ old.by → WaveUpTo graph level fates (job + 1) new
  wave_runs at blocked run skip more =
      let here : (get_or graph.depths job 0 == level) ≡ true = at_level (get_or graph.depths job 0) level at in
      let yes : runs graph level fates job ≡ true = rw (here, blocked) refl in
      let no : skips graph level fates job ≡ false = rw (here, blocked) refl in
      let f : ℕ → ℕ = λ n. or_zero (blocker graph.needs fates n) in
      record {
        run = run ∙ ap (λ t. t ++ job ∷ []) h.run ∙ sym (filter_more_yes (runs graph level fates) job yes);
        skip = skip ∙ h.skip ∙ sym (filter_more_no (skips graph level fates) job no);
        by = more ∙ h.by ∙ ap (map f) (sym (filter_more_no (skips graph level fates) job no));
      }

  pub wave_passes : (get_or graph.depths job 0 ≡ level → ⊥) → new ≡ old → WaveUpTo graph level fates (job + 1) new
  wave_passes off same =
      let here : (get_or graph.depths job 0 == level) ≡ false = off_level (get_or graph.depths job 0) level off in
      let no : runs graph level fates job ≡ false = rw here refl in
      let no' : skips graph level fates job ≡ false = rw here refl in
      let f : ℕ → ℕ = λ n. or_zero (blocker graph.needs fates n) in
      record {
        run = ap (λ (w : Wave). w.run) same ∙ h.run ∙ sym (filter_more_no (runs graph level fates) job no);
        skip = ap (λ (w : Wave). w.skip) same ∙ h.skip ∙ sym (filter_more_no (skips graph level fates) job no');
        by = ap (λ (w : Wave). w.by) same ∙ h.by ∙ ap (map f) (sym (filter_more_no (skips graph level fates) job no'));
      }

  pub wave_adds : (blocked : Option ℕ) → blocked ≡ least_not_good fates (needs_at graph.needs job) → get_or graph.depths job 0 ≡ level
      → AddsJob job blocked old new → WaveUpTo graph level fates (job + 1) new
  wave_adds None is at to = wave_runs at (sym is) (ap (λ (w : Wave). w.run) to) (ap (λ (w : Wave). w.skip) to) (ap (λ (w : Wave). w.by) to)
  wave_adds (Some by) is at to = wave_skips by at (sym is) (ap (λ (w : Wave). w.run) to) (ap (λ (w : Wave). w.skip) to)
      (ap (λ (w : Wave). w.by) to)

-- ---- laws

lesser_some : (n : ℕ) (o : Option ℕ) → lesser n o ≡ None → ⊥
lesser_some n None e = cc
lesser_some n (Some m) e = cc

pub none_all_good : (fates : List Fate) (ns : List ℕ) → least_not_good fates ns ≡ None → All (λ n. is_good (fate_at fates n) ≡ true) ns
none_all_good fates [] h = All-nil (λ n. is_good (fate_at fates n) ≡ true)
none_all_good fates (n ∷ ns) h = by (λ k. none_all_good fates ns k) (is_good (fate_at fates n)) refl
  where
    by : (least_not_good fates ns ≡ None → All (λ m. is_good (fate_at fates m) ≡ true) ns) → (b : Bool) → is_good (fate_at fates n) ≡ b
        → All (λ m. is_good (fate_at fates m) ≡ true) (n ∷ ns)
    by more true e = All-cons (λ m. is_good (fate_at fates m) ≡ true) n ns e (more (sym (good_here fates n ns e) ∙ h))
    by more false e = absurd (lesser_some n (least_not_good fates ns) (sym (not_good_here fates n ns e) ∙ h))

pub all_good_none : (fates : List Fate) (ns : List ℕ) → All (λ n. is_good (fate_at fates n) ≡ true) ns → least_not_good fates ns ≡ None
all_good_none fates [] h = refl
all_good_none fates (n ∷ ns) h = good_here fates n ns (h 0 n (omega arith))
    ∙ all_good_none fates ns (All-tail (λ m. is_good (fate_at fates m) ≡ true) n ns h)
