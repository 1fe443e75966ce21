-- A worker's own calls agree with its reports.
use Rattle.std.proofs.Common.{◌≡◌, ◌≢◌, inl, inr, ℕ, List, [], ◌∷◌, ◌++◌, Some, None, refl, sym, ap, ◌∙◌, subst, append_assoc}
use Rattle.std.proofs.lemmas.List.{append-nil}
use Rattle.slot_table.specs.declared.calls.CallEntry.{CallEntry}
use Rattle.slot_table.specs.declared.calls.SlotCall.TheVariants.{Draw}
use Rattle.slot_table.specs.declared.calls.SlotReply.TheVariants.{Drawn}
use Rattle.slot_table.specs.History.{entry}
use Rattle.farm_machine.specs.Acts.{SlotEvent, Act, Did, Met, slots_of, next_met, after_met}
use Rattle.farm_machine.specs.Machine.{Wants, JobCall, Draws, Adds, Waits, Mismatched, job_call_of, MaskIs, set_at}
use Rattle.farm_machine.specs.Weave.{Reports, Progress, no_progress, progress_after, next_progress, last_progress, Follows, AllFollow}
use Rattle.farm_machine.specs.Own.{ServedBy, Serves, AreRefused, DoneJob, Each, DoesJobs, AreApart, IsReported, HasNumber, WorkerLaw}
use Rattle.farm_machine.specs.Own.{ServesMoreLaw}
use Rattle.farm_laws.proofs.SetAt.{set_at-same, set_at-other}

-- the tries come before the call, and the calls before it stay
tries-then : (wants : Wants) (w j : ℕ) (past : List SlotEvent) (x : SlotEvent) (tries : List CallEntry) (e : CallEntry)
    → AreRefused wants w j past x tries → Serves wants w j past (x ∷ []) (e ∷ []) → Serves wants w j past (x ∷ []) (tries ++ e ∷ [])
tries-then wants w j past x [] e h one = one
tries-then wants w j past x (t ∷ ts) e h one = (h.0, go (job_call_of t) h.1 (λ more. tries-then wants w j past x ts e more one))
  where
    go : (a : JobCall) → ServedBy wants j past x a ⊥ (AreRefused wants w j past x ts)
        → (AreRefused wants w j past x ts → Serves wants w j past (x ∷ []) (ts ++ e ∷ []))
        → ServedBy wants j past x a (Serves wants w j (past ++ x ∷ []) [] (ts ++ e ∷ [])) (Serves wants w j past (x ∷ []) (ts ++ e ∷ []))
    go (Adds i mask y) h ih = absurd h.3
    go (Waits i mask kind) h ih = (h.0, h.1, h.2, ih h.3)
    go (Draws o) h ih = absurd h
    go Mismatched h ih = absurd h

pub serves-more : ServesMoreLaw
serves-more wants w j past [] x [] tries e h tried one = let P : List SlotEvent → Type 0 =
    λ p. Serves wants w j p (x ∷ []) (tries ++ e ∷ []) in subst P (append-nil past) (tries-then wants w j (past ++ []) x tries e tried one)
serves-more wants w j past [] x (f ∷ es) tries e h tried one = absurd h
serves-more wants w j past (y ∷ xs) x [] tries e h tried one = absurd h
serves-more wants w j past (y ∷ xs) x (f ∷ es) tries e h tried one = (
  h.0,
  go (job_call_of f) h.1
      (λ more. serves-more wants w j (past ++ y ∷ []) xs x es tries e more
      (subst (λ (p : List SlotEvent). AreRefused wants w j p x tries) (sym (append_assoc past (y ∷ []) xs)) tried)
      (subst (λ (p : List SlotEvent). Serves wants w j p (x ∷ []) (e ∷ [])) (sym (append_assoc past (y ∷ []) xs)) one))
      (λ more. serves-more wants w j past (y ∷ xs) x es tries e more tried one),
)
  where
    go : (a : JobCall) → ServedBy wants j past y a (Serves wants w j (past ++ y ∷ []) xs es) (Serves wants w j past (y ∷ xs) es)
        → (Serves wants w j (past ++ y ∷ []) xs es → Serves wants w j (past ++ y ∷ []) (xs ++ x ∷ []) (es ++ (tries ++ e ∷ [])))
        → (Serves wants w j past (y ∷ xs) es → Serves wants w j past (y ∷ (xs ++ x ∷ [])) (es ++ (tries ++ e ∷ [])))
        → ServedBy wants j past y a (Serves wants w j (past ++ y ∷ []) (xs ++ x ∷ []) (es ++ (tries ++ e ∷ [])))
        (Serves wants w j past (y ∷ (xs ++ x ∷ [])) (es ++ (tries ++ e ∷ [])))
    go (Adds i mask z) h now later = (h.0, h.1, h.2, now h.3)
    go (Waits i mask kind) h now later = (h.0, h.1, h.2, later h.3)
    go (Draws o) h now later = absurd h
    go Mismatched h now later = absurd h

next-slots : (acts : List Act) (x : SlotEvent) (xs : List SlotEvent) → slots_of acts ≡ x ∷ xs
    → (next_met acts ≡ Some x) × (slots_of (after_met acts) ≡ xs)
next-slots [] x xs e = cc
next-slots (Did d ∷ acts) x xs e = next-slots acts x xs e
next-slots (Met y ∷ acts) x xs e = (let s : y ≡ x = cc in ap Some s, cc)

no-slots : (acts : List Act) → slots_of acts ≡ [] → next_met acts ≡ None
no-slots [] e = refl
no-slots (Did d ∷ acts) e = no-slots acts e
no-slots (Met y ∷ acts) e = cc

follow-append : (r : Reports) (wants : Wants) (b : Progress) (xs ys : List CallEntry) → AllFollow r wants b xs
    → AllFollow r wants (last_progress b xs) ys → AllFollow r wants b (xs ++ ys)
follow-append r wants b [] ys h k = k
follow-append r wants b (x ∷ xs) ys h k = (h.0, follow-append r wants (next_progress b x) xs ys h.1 k)

pub last-append : (b : Progress) (xs ys : List CallEntry) → last_progress b (xs ++ ys) ≡ last_progress (last_progress b xs) ys
last-append b [] ys = refl
last-append b (x ∷ xs) ys = last-append (next_progress b x) xs ys

record IsServed (r : Reports) (wants : Wants) (j : ℕ) (b : Progress) (calls : List CallEntry) : Type 0 where
  follow : AllFollow r wants b calls
  used : next_met ((last_progress b calls).rest j) ≡ None
  rest : (k : ℕ) → k ≢ j → (last_progress b calls).rest k ≡ b.rest k
  past : (k : ℕ) → k ≢ j → (last_progress b calls).past k ≡ b.past k

-- the same of a call that is this for its job, and the calls behind it
record IsServedBy (r : Reports) (wants : Wants) (j : ℕ) (b : Progress) (v : ℕ) (a : JobCall) (calls : List CallEntry) : Type 0 where
  fits : Follows r wants b v a
  follow : AllFollow r wants (progress_after b v a) calls
  used : next_met ((last_progress (progress_after b v a) calls).rest j) ≡ None
  rest : (k : ℕ) → k ≢ j → (last_progress (progress_after b v a) calls).rest k ≡ b.rest k
  past : (k : ℕ) → k ≢ j → (last_progress (progress_after b v a) calls).past k ≡ b.past k

serve-one : (r : Reports) (wants : Wants) (w j v : ℕ) (es : List CallEntry) (past : List SlotEvent) (x : SlotEvent)
    (xs : List SlotEvent) (b : Progress) → v ≡ w → b.current w ≡ Some j → b.past j ≡ past → slots_of (b.rest j) ≡ x ∷ xs
    → (a : JobCall) → ServedBy wants j past x a (Serves wants w j (past ++ x ∷ []) xs es) (Serves wants w j past (x ∷ xs) es)
    → ((b' : Progress) → Serves wants w j (past ++ x ∷ []) xs es → b'.current w ≡ Some j → b'.past j ≡ past ++ x ∷ []
    → slots_of (b'.rest j) ≡ xs → IsServed r wants j b' es)
    → (Serves wants w j past (x ∷ xs) es → IsServed r wants j b es)
    → IsServedBy r wants j b v a es
serve-one r wants w j v es past x xs b at current is_past is_rest (Adds i mask y) h now later =
    let next = next-slots (b.rest j) x xs is_rest in
    let same : i ≡ j = h.0 in
    let b' : Progress = progress_after b v (Adds i mask y) in
    let here : (k : ℕ) → k ≢ j → k ≢ i = λ k n e. n (e ∙ same) in
    let ih : IsServed r wants j b' es = now b' h.3 current
    (ap (λ (k : ℕ). set_at b.past k (b.past k ++ y ∷ []) j) same ∙ set_at-same b.past j (b.past j ++ y ∷ [])
    ∙ ap (λ (p : List SlotEvent). p ++ y ∷ []) is_past ∙ ap (λ (z : SlotEvent). past ++ z ∷ []) h.2)
    (ap (λ (k : ℕ). slots_of (set_at b.rest k (after_met (b.rest k)) j)) same
    ∙ ap slots_of (set_at-same b.rest j (after_met (b.rest j))) ∙ next.1) in
    record {
      fits = (
        ap b.current at ∙ current ∙ ap Some (sym same),
        subst (λ (p : List SlotEvent). MaskIs mask (wants p))
            (sym (ap b.past same ∙ is_past)) h.1,
        ap (λ (k : ℕ). next_met (b.rest k)) same ∙ next.0 ∙ ap Some (sym h.2),
      );
      follow = ih.follow;
      used = ih.used;
      rest = λ k n. ih.rest k n ∙ set_at-other b.rest i (after_met (b.rest i)) k (here k n);
      past = λ k n. ih.past k n ∙ set_at-other b.past i (b.past i ++ y ∷ []) k (here k n);
    }
serve-one r wants w j v es past x xs b at current is_past is_rest (Waits i mask kind) h now later =
    let next = next-slots (b.rest j) x xs is_rest in
    let same : i ≡ j = h.0 in
    let ih : IsServed r wants j b es = later h.3 in
    record {
      fits = (
        ap b.current at ∙ current ∙ ap Some (sym same),
        subst (λ (p : List SlotEvent). MaskIs mask (wants p))
            (sym (ap b.past same ∙ is_past)) h.1,
        (x, ap (λ (k : ℕ). next_met (b.rest k)) same ∙ next.0, h.2),
      );
      follow = ih.follow;
      used = ih.used;
      rest = ih.rest;
      past = ih.past;
    }
serve-one r wants w j v es past x xs b at current is_past is_rest (Draws o) h now later = absurd h
serve-one r wants w j v es past x xs b at current is_past is_rest Mismatched h now later = absurd h

serve : (r : Reports) (wants : Wants) (w j : ℕ) (calls : List CallEntry) (past xs : List SlotEvent) (b : Progress)
    → Serves wants w j past xs calls → b.current w ≡ Some j → b.past j ≡ past → slots_of (b.rest j) ≡ xs → IsServed r wants j b calls
serve r wants w j [] past [] b h current is_past is_rest =
    record { follow = tt; used = no-slots (b.rest j) is_rest; rest = λ k n. refl; past = λ k n. refl }
serve r wants w j [] past (x ∷ xs) b h current is_past is_rest = absurd h
serve r wants w j (e ∷ es) past [] b h current is_past is_rest = absurd h
serve r wants w j (e ∷ es) past (x ∷ xs) b h current is_past is_rest =
    let s : IsServedBy r wants j b e.caller (job_call_of e) es =
    serve-one r wants w j e.caller es past x xs b h.0 current is_past is_rest (job_call_of e) h.1
    (λ b' now c p q. serve r wants w j es (past ++ x ∷ []) xs b' now c p q)
    (λ later. serve r wants w j es past (x ∷ xs) b later current is_past is_rest) in
    record { follow = (s.fits, s.follow); used = s.used; rest = s.rest; past = s.past }

record Went (r : Reports) (wants : Wants) (ss : List DoneJob) (b : Progress) (es : List CallEntry) : Type 0 where
  follow : AllFollow r wants b es
  used : Each (λ s. next_met ((last_progress b es).rest s.number) ≡ None) ss
  rest : (k : ℕ) → Each (λ s. s.number ≢ k) ss → (last_progress b es).rest k ≡ b.rest k

pub each-map : (P Q : DoneJob → Type 0) (ss : List DoneJob) → ((s : DoneJob) → P s → Q s) → Each P ss → Each Q ss
each-map P Q [] f h = tt
each-map P Q (s ∷ ss) f h = (f s h.0, each-map P Q ss f h.1)

pub each-both : (P Q R : DoneJob → Type 0) (ss : List DoneJob) → ((s : DoneJob) → P s → Q s → R s) → Each P ss → Each Q ss → Each R ss
each-both P Q R [] f h k = tt
each-both P Q R (s ∷ ss) f h k = (f s h.0 k.0, each-both P Q R ss f h.1 k.1)

-- the book has this story before it
abbrev IsNew : Progress → DoneJob → Type 0
IsNew b s = (b.rest s.number ≡ s.acts) × (b.past s.number ≡ [])

went : (r : Reports) (wants : Wants) (w : ℕ) (ss : List DoneJob) (es : List CallEntry) (b : Progress) → DoesJobs wants w ss es
    → AreApart ss → Each (λ s. r.worker s.number ≡ w) ss → Each (IsNew b) ss → Went r wants ss b es
went r wants w [] es b h apart by new = let P : List CallEntry → Type 0 = λ es. Went r wants [] b es in
    subst P (sym h) record { follow = tt; used = tt; rest = λ k n. refl }
went r wants w (s ∷ ss) es b (calls, more, is, serves, segments) apart by new =
    let j = s.number in
    let d = entry w Draw (Drawn (Some j)) in
    let b1 : Progress = next_progress b d in
    let one : IsServed r wants j b1 calls =
    serve r wants w j calls [] (slots_of s.acts) b1 serves (set_at-same b.current w (Some j)) new.0.1 (ap slots_of new.0.0) in
    let b2 : Progress = last_progress b1 calls in
    let new2 : Each (IsNew b2) ss =
    each-both (λ t. t.number ≢ j) (IsNew b) (IsNew b2) ss (λ t n is. (one.rest t.number n ∙ is.0, one.past t.number n ∙ is.1))
    apart.0 new.1 in
    let ih : Went r wants ss b2 more = went r wants w ss more b2 segments apart.1 by.1 new2 in
    let last : last_progress b (d ∷ (calls ++ more)) ≡ last_progress b2 more = last-append b1 calls more in
    let P : List CallEntry → Type 0 = λ es. Went r wants (s ∷ ss) b es in
    subst P (sym is) record {
      follow = (by.0, follow-append r wants b1 calls more one.follow ih.follow);
      used = (
        ap (λ (c : Progress). next_met (c.rest j)) last ∙ ap next_met (ih.rest j apart.0) ∙ one.used,
        each-map (λ t. next_met ((last_progress b2 more).rest t.number) ≡ None)
            (λ t. next_met ((last_progress b (d ∷ (calls ++ more))).rest t.number) ≡ None) ss
            (λ t e. ap (λ (c : Progress). next_met (c.rest t.number)) last ∙ e) ih.used,
      );
      rest = λ k n. ap (λ (c : Progress). c.rest k) last ∙ ih.rest k n.1 ∙ one.rest k (λ e. n.0 (sym e));
    }

used-at : (b : Progress) (j : ℕ) (ss : List DoneJob) → Each (λ s. next_met (b.rest s.number) ≡ None) ss → HasNumber j ss
    → next_met (b.rest j) ≡ None
used-at b j [] used h = absurd h
used-at b j (s ∷ ss) used h =
    elim h [ inl here ↦ ap (λ (k : ℕ). next_met (b.rest k)) (sym here) ∙ used.0 | inr there ↦ used-at b j ss used.1 there ]

pub worker : WorkerLaw
worker h l r wants w ss es segments apart is_in has =
    let d = entry w Draw (Drawn None) in
    let g : Went r wants ss (no_progress r) es =
    went r wants w ss es (no_progress r) segments apart
    (each-map (IsReported r w) (λ s. r.worker s.number ≡ w) ss (λ s i. i.0) is_in)
    (each-map (IsReported r w) (IsNew (no_progress r)) ss (λ s i. (i.1, refl)) is_in) in
    let last : last_progress (no_progress r) (es ++ d ∷ []) ≡ next_progress (last_progress (no_progress r) es) d =
    last-append (no_progress r) es (d ∷ []) in
    record {
      follow = follow-append r wants (no_progress r) es (d ∷ []) g.follow (tt, tt);
      used = λ j below by. ap (λ (c : Progress). next_met (c.rest j)) last
          ∙ used-at (last_progress (no_progress r) es) j ss g.used (has j below by);
    }
