-- Whether calls follow is seen from each caller's own calls.
use Rattle.std.proofs.Common.{◌≡◌, ◌≢◌, ℕ, Bool, true, false, cond, List, [], ◌∷◌, ◌++◌, Some, None, nat_eq, refl, sym, ap, ◌∙◌, subst}
use Rattle.std.proofs.Common.{eq-eqb}
use Rattle.std.proofs.lemmas.Bool.{eqb-true, eqb-false}
use Rattle.slot_table.specs.declared.calls.CallEntry.{CallEntry}
use Rattle.slot_table.specs.History.{calls_by}
use Rattle.farm_machine.specs.Acts.{SlotEvent, next_met, after_met}
use Rattle.farm_machine.specs.Machine.{Wants, JobCall, Draws, Adds, Waits, Mismatched, job_call_of, MaskIs, set_at}
use Rattle.farm_machine.specs.Weave.{Reports, Progress, no_progress, progress_after, next_progress, last_progress, Follows, AllFollow}
use Rattle.farm_machine.specs.Weave.{CallersLaw}
use Rattle.farm_laws.proofs.SetAt.{set_at-elim, set_at-other}

-- a worker's job is reported by it
abbrev pub Own : Reports → Progress → Type 0
Own r b = (w j : ℕ) → b.current w ≡ Some j → r.worker j ≡ w

-- two books agree on one worker and its jobs
pub record Same (r : Reports) (w : ℕ) (b c : Progress) : Type 0 where
  pub current : b.current w ≡ c.current w
  pub past : (j : ℕ) → r.worker j ≡ w → b.past j ≡ c.past j
  pub rest : (j : ℕ) → r.worker j ≡ w → b.rest j ≡ c.rest j

same-refl : (r : Reports) (w : ℕ) (b : Progress) → Same r w b b
same-refl r w b = record { current = refl; past = λ j by. refl; rest = λ j by. refl }

same-sym : (r : Reports) (w : ℕ) (b c : Progress) → Same r w b c → Same r w c b
same-sym r w b c s = record { current = sym s.current; past = λ j by. sym (s.past j by); rest = λ j by. sym (s.rest j by) }

pub own-no_progress : (r : Reports) → Own r (no_progress r)
own-no_progress r w j e = cc

fits-same : (r : Reports) (wants : Wants) (w : ℕ) (b c : Progress) → Same r w b c
    → ((j : ℕ) → b.current w ≡ Some j → r.worker j ≡ w) → (a : JobCall) → Follows r wants b w a → Follows r wants c w a
fits-same r wants w b c s own (Draws None) h = tt
fits-same r wants w b c s own (Draws (Some j)) h = h
fits-same r wants w b c s own (Adds j mask x) h =
    let o : r.worker j ≡ w = own j h.0 in
    (sym s.current ∙ h.0, subst (λ (p : List SlotEvent). MaskIs mask (wants p)) (s.past j o) h.1, ap next_met (sym (s.rest j o)) ∙ h.2)
fits-same r wants w b c s own (Waits j mask kind) h =
    let o : r.worker j ≡ w = own j h.0 in (
      sym s.current ∙ h.0,
      subst (λ (p : List SlotEvent). MaskIs mask (wants p)) (s.past j o) h.1,
      (h.2.0, ap next_met (sym (s.rest j o)) ∙ h.2.1, h.2.2),
    )
fits-same r wants w b c s own Mismatched h = h

both : {A : Type 0} (f g : ℕ → A) (j k : ℕ) (a b : A) → (k ≡ j → a ≡ b) → f k ≡ g k → set_at f j a k ≡ set_at g j b k
both {A} f g j k a b same rest = go (nat_eq k j) refl
  where
    go : (t : Bool) → nat_eq k j ≡ t → cond t a (f k) ≡ cond t b (g k)
    go true e = same (eqb-true k j e)
    go false e = rest

move-same : (r : Reports) (w : ℕ) (b c : Progress) → Same r w b c → (a : JobCall) → Same r w (progress_after b w a) (progress_after c w a)
move-same r w b c s (Draws o) = record { current = both b.current c.current w w o o (λ e. refl) s.current; past = s.past; rest = s.rest }
move-same r w b c s (Adds j mask x) = record {
  current = s.current;
  past = λ k by. both b.past c.past j k (b.past j ++ x ∷ []) (c.past j ++ x ∷ [])
      (λ e. ap (λ (p : List SlotEvent). p ++ x ∷ []) (s.past j (ap r.worker (sym e) ∙ by))) (s.past k by);
  rest = λ k by. both b.rest c.rest j k (after_met (b.rest j)) (after_met (c.rest j))
      (λ e. ap after_met (s.rest j (ap r.worker (sym e) ∙ by))) (s.rest k by);
}
move-same r w b c s (Waits j mask kind) = s
move-same r w b c s Mismatched = s

move-other : (r : Reports) (wants : Wants) (v w : ℕ) (b c : Progress) → v ≢ w → Own r b → Same r w b c → (a : JobCall)
    → Follows r wants b v a → Same r w (progress_after b v a) c
move-other r wants v w b c other own s (Draws o) h =
    record { current = set_at-other b.current v o w (λ e. other (sym e)) ∙ s.current; past = s.past; rest = s.rest }
move-other r wants v w b c other own s (Adds j mask x) h =
    let apart : (k : ℕ) → r.worker k ≡ w → k ≢ j = λ k by e. other (sym (own v j h.0) ∙ ap r.worker (sym e) ∙ by) in
    record {
      current = s.current;
      past = λ k by. set_at-other b.past j (b.past j ++ x ∷ []) k (apart k by) ∙ s.past k by;
      rest = λ k by. set_at-other b.rest j (after_met (b.rest j)) k (apart k by) ∙ s.rest k by;
    }
move-other r wants v w b c other own s (Waits j mask kind) h = s
move-other r wants v w b c other own s Mismatched h = s

pub own-move : (r : Reports) (wants : Wants) (v : ℕ) (b : Progress) → Own r b → (a : JobCall) → Follows r wants b v a
    → Own r (progress_after b v a)
own-move r wants v b own (Draws None) h =
    λ w j. set_at-elim (λ o. o ≡ Some j → r.worker j ≡ w) b.current v None w (λ e is. cc) (λ n is. own w j is)
own-move r wants v b own (Draws (Some k)) h =
    λ w j. set_at-elim (λ o. o ≡ Some j → r.worker j ≡ w) b.current v (Some k) w (λ e is. let same : k ≡ j = cc in
    ap r.worker (sym same) ∙ h ∙ sym e) (λ n is. own w j is)
own-move r wants v b own (Adds j mask x) h = own
own-move r wants v b own (Waits j mask kind) h = own
own-move r wants v b own Mismatched h = own

pub forward : (r : Reports) (wants : Wants) (w : ℕ) (es : List CallEntry) (b c : Progress) → Own r b → Same r w b c → AllFollow r wants b es
    → AllFollow r wants c (calls_by w es) × Same r w (last_progress b es) (last_progress c (calls_by w es))
forward r wants w [] b c own s h = (tt, s)
forward r wants w (e ∷ es) b c own s h =
    go (nat_eq e.caller w) refl
    (forward r wants w es (next_progress b e) (next_progress c e) (own-move r wants e.caller b own (job_call_of e) h.0))
    (forward r wants w es (next_progress b e) c (own-move r wants e.caller b own (job_call_of e) h.0))
  where
    go : (t : Bool) → nat_eq e.caller w ≡ t
        → (Same r w (next_progress b e) (next_progress c e) → AllFollow r wants (next_progress b e) es
        → AllFollow r wants (next_progress c e) (calls_by w es)
        × Same r w (last_progress (next_progress b e) es) (last_progress (next_progress c e) (calls_by w es)))
        → (Same r w (next_progress b e) c → AllFollow r wants (next_progress b e) es
        → AllFollow r wants c (calls_by w es) × Same r w (last_progress (next_progress b e) es) (last_progress c (calls_by w es)))
        → AllFollow r wants c (cond t (e ∷ calls_by w es) (calls_by w es))
        × Same r w (last_progress (next_progress b e) es) (last_progress c (cond t (e ∷ calls_by w es) (calls_by w es)))
    go true is mine other =
        let at : e.caller ≡ w = eqb-true e.caller w is in
        let s' : Same r e.caller b c = subst (λ (v : ℕ). Same r v b c) (sym at) s in
        let next : Same r w (next_progress b e) (next_progress c e) =
        subst (λ (v : ℕ). Same r v (next_progress b e) (next_progress c e)) at (move-same r e.caller b c s' (job_call_of e)) in
        let ih = mine next h.1 in
        ((fits-same r wants e.caller b c s' (own e.caller) (job_call_of e) h.0, ih.0), ih.1)
    go false is mine other = other (move-other r wants e.caller w b c (eqb-false e.caller w is) own s (job_call_of e) h.0) h.1

pub backward : (r : Reports) (wants : Wants) (es : List CallEntry) (b : Progress) (c : ℕ → Progress) → Own r b
    → ((w : ℕ) → Same r w b (c w)) → ((w : ℕ) → AllFollow r wants (c w) (calls_by w es)) → AllFollow r wants b es
backward r wants [] b c own s h = tt
backward r wants (e ∷ es) b c own s h =
    let v = e.caller in
    let mine : AllFollow r wants (c v) (e ∷ calls_by v es) =
    subst (λ (t : Bool). AllFollow r wants (c v) (cond t (e ∷ calls_by v es) (calls_by v es))) (eq-eqb v v refl) (h v) in
    let fit : Follows r wants b v (job_call_of e) =
    fits-same r wants v (c v) b (same-sym r v b (c v) (s v)) (λ j is. own v j ((s v).current ∙ is)) (job_call_of e) mine.0 in (
      fit,
      backward r wants es (next_progress b e) (λ w. cond (nat_eq v w) (next_progress (c w) e) (c w))
          (own-move r wants v b own (job_call_of e) fit) (λ w. same' fit w (nat_eq v w) refl) (λ w. rest' w (nat_eq v w) (h w)),
    )
  where
    same' : Follows r wants b e.caller (job_call_of e) → (w : ℕ) (t : Bool) → nat_eq e.caller w ≡ t
        → Same r w (next_progress b e) (cond t (next_progress (c w) e) (c w))
    same' fit w true is =
        let at : e.caller ≡ w = eqb-true e.caller w is in
        subst (λ (v : ℕ). Same r w (next_progress b e) (progress_after (c w) v (job_call_of e))) (sym at)
        (subst (λ (v : ℕ). Same r w (progress_after b v (job_call_of e)) (progress_after (c w) w (job_call_of e))) (sym at)
        (move-same r w b (c w) (s w) (job_call_of e)))
    same' fit w false is = move-other r wants e.caller w b (c w) (eqb-false e.caller w is) own (s w) (job_call_of e) fit

    rest' : (w : ℕ) (t : Bool) → AllFollow r wants (c w) (cond t (e ∷ calls_by w es) (calls_by w es))
        → AllFollow r wants (cond t (next_progress (c w) e) (c w)) (calls_by w es)
    rest' w true h = h.1
    rest' w false h = h

pub callers : CallersLaw
callers h l r wants log legal drawn = (
  λ agrees w. let f = forward r wants w log (no_progress r) (no_progress r) (own-no_progress r) (same-refl r w (no_progress r))
      agrees.follow in
      record { follow = f.0; used = λ j below by. ap next_met (sym (f.1.rest j by)) ∙ agrees.used j below },
  λ own. let all : AllFollow r wants (no_progress r) log =
      backward r wants log (no_progress r) (λ w. no_progress r) (own-no_progress r) (λ w. same-refl r w (no_progress r))
      (λ w. (own w).follow) in
      record {
        legal = legal;
        follow = all;
        drawn = drawn;
        used = λ j below. let w = r.worker j in
            ap next_met ((forward r wants w log (no_progress r) (no_progress r) (own-no_progress r) (same-refl r w (no_progress r))
            all).1.rest j refl) ∙ (own w).used j below refl;
      },
)
