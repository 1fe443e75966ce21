-- A put of a course is its last act, and is of the object of a compile before it.
use Rattle.std.proofs.Common.{◌≡◌, ◌⊎◌, inl, inr, ℕ, ◌+◌, Bool, true, false, ◌&&◌, cond, List, [], ◌∷◌, ◌++◌, length, nat_eq, nat_lt}
use Rattle.std.proofs.Common.{refl, sym, ap, ◌∙◌, subst, append_assoc, eq-eqb}
use Rattle.std.specs.Prelude.{◌≢◌}
use Rattle.std.proofs.lemmas.Bool.{eqb-true, true≢false}
use Rattle.std.proofs.lemmas.List.{append-nil}
use Rattle.farm_types.specs.declared.ran.Ran.{Ran}
use Rattle.farm_types.specs.declared.ran.Outcome.{Outcome}
use Rattle.edge_traits.specs.declared.entries.Run.{Run}
use Rattle.edge_traits.specs.declared.entries.Put.{Put}
use Rattle.edge_traits.specs.declared.cause.Cause.{Cause}
use Rattle.edge_traits.specs.Deeds.{ran, fetched, exchanged, put}
use Rattle.farm_machine.specs.declared.reports.By.{By}
use Rattle.farm_machine.specs.declared.reports.By.TheVariants.{Cpp, Remote, Here, InPlace}
use Rattle.farm_machine.specs.declared.reports.Why5.{Why5}
use Rattle.farm_machine.specs.declared.reports.Why5.TheVariants.{Station, Broke, Memory, Fetch}
use Rattle.farm_machine.specs.declared.reports.End.{End}
use Rattle.farm_machine.specs.declared.reports.End.TheVariants.{Done, Failed}
use Rattle.farm_machine.specs.Acts.{Takes, Gives, GivesBad, FindsDown, TakesLocal, GivesLocal, Act, Did, Met}
use Rattle.farm_machine.specs.Jobs.{Job, CanRequest, compile_command}
use Rattle.farm_machine.specs.Course.{IsRunOf, At, Start, LentInPlace, RanInPlace, Send, Lent, RanThere, Sent, Locally, LentHere, RanHere}
use Rattle.farm_machine.specs.Course.{Finish, Over, outcome_of, after_preprocessor, or_here, after_broken, after_whole, Tried, tried_too}
use Rattle.farm_machine.specs.Course.{no_host, Next, Ends, From, Reach, Course}
use Rattle.farm_machine.specs.Table.{IsSource}
use Rattle.course_laws.specs.Laws.{IsAmong, IsCompiled, IsOwnSource, PutsLast, PutLaw}
use Rattle.course_laws.proofs.Sources.{split, SourceAt, more-source, source-next}
use Rattle.course_laws.proofs.Tables.{along, over}

among-more : (act : Act) (acts : List Act) (a : Act) → IsAmong act acts → IsAmong act (acts ++ a ∷ [])
among-more act [] a h = absurd h
among-more act (b ∷ acts) a (inl e) = inl e
among-more act (b ∷ acts) a (inr h) = inr (among-more act acts a h)

among-last : (acts : List Act) (a : Act) → IsAmong a (acts ++ a ∷ [])
among-last [] a = inl refl
among-last (b ∷ acts) a = inr (among-last acts a)

-- a run of the compile's words on the job's source is among these acts
record Compiled (j : Job) (acts : List Act) (r : Ran) : Type 0 where
  source : List ℕ
  source_is : IsSource acts source
  run : Run
  among : IsAmong (Did (ran run)) acts
  is_run : IsRunOf run (compile_command j) source
  left : r ≡ run.ran

-- the outcome is that of a run here of the compile's words on the job's source
pub record IsHere (j : Job) (acts : List Act) (o : Outcome) : Type 0 where
  pub source : List ℕ
  pub source_is : IsSource acts source
  pub run : Run
  pub among : IsAmong (Did (ran run)) acts
  pub is_run : IsRunOf run (compile_command j) source
  pub left : o ≡ outcome_of run.ran

-- a compile whose outcome is to be finished: a host's has status 0
record Finished (j : Job) (acts : List Act) (o : Outcome) : Type 0 where
  compiled : IsCompiled j acts o
  whole : (o.status ≡ 0) ⊎ IsHere j acts o

-- A job that a host or this machine compiled has the status and messages of that compile. With fallback and retry on a host's has status 0.
-- The object of status 0 was put.
pub record IsCompiledEnd (j : Job) (acts : List Act) (status : ℕ) (err out : List ℕ) : Type 0 where
  pub outcome : Outcome
  pub compiled : IsCompiled j acts outcome
  pub status_is : outcome.status ≡ status
  pub err_is : outcome.err ≡ err
  pub out_is : outcome.out ≡ out
  pub whole : j.config.fallback ≡ true → j.config.retry ≡ true → (outcome.status ≡ 0) ⊎ IsHere j acts outcome
  pub object : status ≡ 0 → (x : Put) × IsAmong (Did (put x)) acts × (x.bytes ≡ outcome.object)

abbrev pub KnownEnd : Job → List Act → End → Type 0
KnownEnd j acts (Done status note err out (Remote host)) = IsCompiledEnd j acts status err out
KnownEnd j acts (Done status note err out Here) = IsCompiledEnd j acts status err out
KnownEnd j acts end = Unit {0}

-- what the acts before a place tell of a compile that was made
abbrev KnownAt : Job → List Act → At → Type 0
KnownAt j acts (RanThere host note r) = Compiled j acts r
KnownAt j acts (RanHere note r) = Compiled j acts r
KnownAt j acts (Lent host source note tried) = CanRequest j source
KnownAt j acts (Sent host source note tried x) = IsSource acts source × IsAmong (Did (exchanged x)) acts × CanRequest j source
KnownAt j acts (Finish by note o) = Finished j acts o
KnownAt j acts (Over e) = KnownEnd j acts e
KnownAt j acts at = Unit {0}

known-at : (j : Job) (acts : List Act) (c d : At) → c ≡ d → KnownAt j acts d → KnownAt j acts c
known-at j acts c d e h = subst (λ (at : At). KnownAt j acts at) (sym e) h

known-preprocessed : (j : Job) (acts : List Act) (r : Ran) → KnownAt j acts (after_preprocessor r)
known-preprocessed j acts r = go (nat_eq r.status 0)
  where
    go : (b : Bool) → KnownAt j acts (cond b (Send r.out r.err []) (Over (Done r.status [] r.err [] Cpp)))
    go true = tt
    go false = tt

known-or_here : (j : Job) (acts : List Act) (source note : List ℕ) (why : Why5) → KnownAt j acts (or_here j source note (Failed why))
known-or_here j acts source note why = go j.config.fallback
  where
    go : (b : Bool) → KnownAt j acts (cond b (Locally source note) (Over (Failed why)))
    go true = tt
    go false = tt

known-broken : (j : Job) (acts : List Act) (host : ℕ) (cause : Cause) (source note : List ℕ) (tried : List Tried)
    → KnownAt j acts (after_broken j host cause source note tried)
known-broken j acts host cause source note tried = go (nat_lt (length tried + 1) j.config.tries)
  where
    go : (b : Bool) → KnownAt j acts
        (cond b (Send source note (tried_too host cause tried)) (or_here j source note (Failed (Broke host cause))))
    go true = tt
    go false = known-or_here j acts source note (Broke host cause)

both-on : (a b c : Bool) → (a && b) ≡ c → c ≡ false → a ≡ true → b ≡ true → ⊥
both-on a b c is off on on' = true≢false (sym (ap (λ (x : Bool). x && b) on ∙ on') ∙ is ∙ off)

known-whole : (j : Job) (acts : List Act) (host : ℕ) (source note : List ℕ) (o : Outcome) → IsCompiled j acts o
    → KnownAt j acts (after_whole j host source note o)
known-whole j acts host source note o h = go (nat_eq o.status 0) (j.config.fallback && j.config.retry) refl refl
  where
    go : (a b : Bool) → nat_eq o.status 0 ≡ a → (j.config.fallback && j.config.retry) ≡ b
        → KnownAt j acts (cond a (Finish (Remote host) note o)
        (cond b (Locally source note) (Over (Done o.status note o.err o.out (Remote host)))))
    go true b is on = record { compiled = h; whole = inl (eqb-true o.status 0 is) }
    go false true is on = tt
    go false false is on = record {
      outcome = o;
      compiled = h;
      status_is = refl;
      err_is = refl;
      out_is = refl;
      whole = λ fallback retry. absurd (both-on j.config.fallback j.config.retry false on refl fallback retry);
      object = λ zero_. absurd (true≢false (sym (eq-eqb o.status 0 zero_) ∙ is));
    }

compiled-here : (j : Job) (acts : List Act) (a : Act) (r : Ran) → Compiled j acts r → Finished j (acts ++ a ∷ []) (outcome_of r)
compiled-here j acts a r k = record {
  compiled = record {
    source = k.source;
    source_is = more-source acts a k.source k.source_is;
    compile = inr (k.run, among-more (Did (ran k.run)) acts a k.among, k.is_run, ap outcome_of k.left);
  };
  whole = inr (record {
    source = k.source;
    source_is = more-source acts a k.source k.source_is;
    run = k.run;
    among = among-more (Did (ran k.run)) acts a k.among;
    is_run = k.is_run;
    left = ap outcome_of k.left;
  });
}

compiled-more : (j : Job) (acts : List Act) (a : Act) (o : Outcome) → IsCompiled j acts o → IsCompiled j (acts ++ a ∷ []) o
compiled-more j acts a o k = record {
  source = k.source;
  source_is = more-source acts a k.source k.source_is;
  compile = elim k.compile [
    | inl w ↦ inl (w.0, w.1, among-more (Did (exchanged w.0)) acts a w.2, w.3, w.4)
    | inr r ↦ inr (r.0, among-more (Did (ran r.0)) acts a r.1, r.2, r.3)
  ];
}

-- a job whose object was put has the end of its compile, by whomever
end-put : (j : Job) (acts : List Act) (by : By) (note : List ℕ) (o : Outcome) (x : Put) → Finished j acts o → o.status ≡ 0
    → x.bytes ≡ o.object → KnownEnd j (acts ++ Did (put x) ∷ []) (Done 0 note o.err o.out by)
end-put j acts by note o x k zero_ bytes = go by
  where
    made : IsCompiledEnd j (acts ++ Did (put x) ∷ []) 0 o.err o.out
    made = record {
      outcome = o;
      compiled = compiled-more j acts (Did (put x)) o k.compiled;
      status_is = zero_;
      err_is = refl;
      out_is = refl;
      whole = λ fallback retry. inl zero_;
      object = λ again. (x, among-last acts (Did (put x)), bytes);
    }

    go : (b : By) → KnownEnd j (acts ++ Did (put x) ∷ []) (Done 0 note o.err o.out b)
    go (Remote host) = made
    go Here = made
    go Cpp = tt
    go InPlace = tt

-- a job whose compile failed has the end of its compile, by whomever
end-failed : (j : Job) (acts : List Act) (by : By) (note : List ℕ) (o : Outcome) → Finished j acts o → o.status ≢ 0
    → KnownEnd j acts (Done o.status note o.err o.out by)
end-failed j acts by note o k nonzero = go by
  where
    made : IsCompiledEnd j acts o.status o.err o.out
    made = record {
      outcome = o;
      compiled = k.compiled;
      status_is = refl;
      err_is = refl;
      out_is = refl;
      whole = λ fallback retry. k.whole;
      object = λ zero_. absurd (nonzero zero_);
    }

    go : (b : By) → KnownEnd j acts (Done o.status note o.err o.out b)
    go (Remote host) = made
    go Here = made
    go Cpp = tt
    go InPlace = tt

ran-now : (j : Job) (acts : List Act) (source : List ℕ) (x : Run) → IsSource acts source → IsRunOf x (compile_command j) source
    → Compiled j (acts ++ Did (ran x) ∷ []) x.ran
ran-now j acts source x h is =
    record {
      source = source;
      source_is = more-source acts (Did (ran x)) source h;
      run = x;
      among = among-last acts (Did (ran x));
      is_run = is;
      left = refl;
    }

one-of : (j : Job) (acts : List Act) (c a b : At) → (c ≡ a) ⊎ (c ≡ b) → KnownAt j acts a → KnownAt j acts b → KnownAt j acts c
one-of j acts c a b (inl e) ka kb = known-at j acts c a e ka
one-of j acts c a b (inr e) ka kb = known-at j acts c b e kb

known-next : (j : Job) (acts : List Act) (at c : At) (a : Act) → Next j at a c → SourceAt acts at → KnownAt j acts at
    → KnownAt j (acts ++ a ∷ []) c
known-next j acts Start c (Met TakesLocal) h s k = known-at j (acts ++ Met TakesLocal ∷ []) c LentInPlace h.1 tt
known-next j acts Start c (Did (fetched x)) h s k = known-at j (acts ++ Did (fetched x) ∷ []) c (Send x.bytes [] []) h.3 tt
known-next j acts Start c (Did (ran x)) h s k =
    known-at j (acts ++ Did (ran x) ∷ []) c (after_preprocessor x.ran) h.3 (known-preprocessed j (acts ++ Did (ran x) ∷ []) x.ran)
known-next j acts LentInPlace c (Did (ran x)) h s k = known-at j (acts ++ Did (ran x) ∷ []) c (RanInPlace x.ran) h.1 tt
known-next j acts LentInPlace c (Met GivesLocal) h s k =
    one-of j (acts ++ Met GivesLocal ∷ []) c (Over (Failed Station)) (Over (Failed Memory)) h tt tt
known-next j acts (RanInPlace r) c (Met GivesLocal) h s k =
    one-of j (acts ++ Met GivesLocal ∷ []) c (Over (Done r.status [] r.err r.out InPlace)) (Over (Failed Memory)) h tt tt
known-next j acts (Send source note tried) c (Met FindsDown) h s k =
    known-at j (acts ++ Met FindsDown ∷ []) c (or_here j source note (Failed (no_host tried))) h.1
    (known-or_here j (acts ++ Met FindsDown ∷ []) source note (no_host tried))
known-next j acts (Send source note tried) c (Met (Takes host)) h s k =
    known-at j (acts ++ Met (Takes host) ∷ []) c (Lent host source note tried) h.3 h.0
known-next j acts (Send source note tried) c (Met TakesLocal) h s k =
    known-at j (acts ++ Met TakesLocal ∷ []) c (LentHere source note) h.1 tt
known-next j acts (Lent host source note tried) c (Did (ran x)) h s k =
    known-at j (acts ++ Did (ran x) ∷ []) c (RanThere host note x.ran) h.2 (ran-now j acts source x s h.1)
known-next j acts (Lent host source note tried) c (Did (exchanged x)) h s k =
    known-at j (acts ++ Did (exchanged x) ∷ []) c (Sent host source note tried x) h.2
    (more-source acts (Did (exchanged x)) source s, among-last acts (Did (exchanged x)), k)
known-next j acts (Lent host source note tried) c (Met (Gives i)) h s k =
    elim h.1 [
      | inl e ↦ known-at j (acts ++ Met (Gives i) ∷ []) c (Over (Failed Station)) e.1 tt
      | inr e ↦
          known-at j (acts ++ Met (Gives i) ∷ []) c (Over (Failed Memory)) e tt
    ]
known-next j acts (RanThere host note r) c (Met (Gives i)) h s k =
    one-of j (acts ++ Met (Gives i) ∷ []) c (Finish Here note (outcome_of r)) (Over (Failed Memory)) h.1
    (compiled-here j acts (Met (Gives i)) r k) tt
known-next j acts (Sent host source note tried x) c (Met (Gives i)) h s k =
    elim h.1 [
      | inl w ↦ known-at j (acts ++ Met (Gives i) ∷ []) c (after_whole j host source note w.0) w.2
          (known-whole j (acts ++ Met (Gives i) ∷ []) host source note w.0 record {
            source = source;
            source_is = more-source acts (Met (Gives i)) source k.0;
            compile = inl (x, host, among-more (Did (exchanged x)) acts (Met (Gives i)) k.1, k.2, w.1);
          })
      | inr other ↦ elim other [
        | inl b ↦ known-at j (acts ++ Met (Gives i) ∷ []) c (after_broken j host b.0 source note tried) b.3
            (known-broken j (acts ++ Met (Gives i) ∷ []) host b.0 source note tried)
        | inr e ↦ known-at j (acts ++ Met (Gives i) ∷ []) c (Over (Failed Memory)) e tt
      ]
    ]
known-next j acts (Sent host source note tried x) c (Met (GivesBad i until)) h s k =
    known-at j (acts ++ Met (GivesBad i until) ∷ []) c (after_broken j host h.2.0 source note tried) h.2.4
    (known-broken j (acts ++ Met (GivesBad i until) ∷ []) host h.2.0 source note tried)
known-next j acts (Locally source note) c (Met TakesLocal) h s k = known-at j (acts ++ Met TakesLocal ∷ []) c (LentHere source note) h tt
known-next j acts (LentHere source note) c (Did (ran x)) h s k =
    known-at j (acts ++ Did (ran x) ∷ []) c (RanHere note x.ran) h.1 (ran-now j acts source x s h.0)
known-next j acts (LentHere source note) c (Met GivesLocal) h s k =
    one-of j (acts ++ Met GivesLocal ∷ []) c (Over (Failed Station)) (Over (Failed Memory)) h tt tt
known-next j acts (RanHere note r) c (Met GivesLocal) h s k =
    one-of j (acts ++ Met GivesLocal ∷ []) c (Finish Here note (outcome_of r)) (Over (Failed Memory)) h
    (compiled-here j acts (Met GivesLocal) r k) tt
known-next j acts (Finish by note o) c (Did (put x)) h s k =
    known-at j (acts ++ Did (put x) ∷ []) c (Over (Done 0 note o.err o.out by)) h.3 (end-put j acts by note o x k h.0 h.2)
known-next j acts at c a h s k = absurd h

reach-known : (j : Job) (xs acts : List Act) (at b : At) → SourceAt acts at → KnownAt j acts at → Reach j at xs b → KnownAt j (acts ++ xs) b
reach-known j [] acts at b s k e = subst (λ (more : List Act). KnownAt j more b) (sym (append-nil acts)) (known-at j acts b at (sym e) k)
reach-known j (x ∷ xs) acts at b s k (c, next, more) =
    subst (λ (ys : List Act). KnownAt j ys b) (append_assoc acts (x ∷ []) xs)
    (reach-known j xs (acts ++ x ∷ []) c b (source-next j acts at c x next s) (known-next j acts at c x next s k) more)

-- the source that a course has after its first acts is the job's own
own-source : (j : Job) (acts rest : List Act) (end : End) (source : List ℕ) → From j Start (acts ++ rest) end → IsSource acts source
    → IsOwnSource j acts source
own-source j (Did (fetched x) ∷ acts) rest end source (c, next, from) is = (next.2, is)
own-source j (Did (ran x) ∷ acts) rest end source (c, next, from) is = (next.2, is)
own-source j acts rest end source course is = absurd is

-- a put comes where a compile of status 0 is to be finished, and ends the course
put-here : (j : Job) (before : List Act) (x : Put) (rest : List Act) (end : End) (b : At)
    → ((source : List ℕ) → IsSource before source → IsOwnSource j before source) → KnownAt j before b
    → From j b (Did (put x) ∷ rest) end → PutsLast j before x rest end
put-here j before x rest end (Finish by note o) own k (c, next, from) =
    let ended = over j (Done 0 note o.err o.out by) rest end (along j c (Over (Done 0 note o.err o.out by)) rest end next.3 from) in
    record {
      last = ended.0;
      path = next.1;
      outcome = o;
      compiled = k.compiled;
      own = own k.compiled.source k.compiled.source_is;
      status = next.0;
      object = next.2;
      done = (note, by, ended.1);
    }
put-here j before x rest end Start own k (c, next, from) = absurd next
put-here j before x rest end LentInPlace own k (c, next, from) = absurd next
put-here j before x rest end (RanInPlace r) own k (c, next, from) = absurd next
put-here j before x rest end (Send source note tried) own k (c, next, from) = absurd next
put-here j before x rest end (Lent host source note tried) own k (c, next, from) = absurd next
put-here j before x rest end (RanThere host note r) own k (c, next, from) = absurd next
put-here j before x rest end (Sent host source note tried y) own k (c, next, from) = absurd next
put-here j before x rest end (Locally source note) own k (c, next, from) = absurd next
put-here j before x rest end (LentHere source note) own k (c, next, from) = absurd next
put-here j before x rest end (RanHere note r) own k (c, next, from) = absurd next
put-here j before x rest end (Over e) own k (c, next, from) = absurd next

pub puts-last : PutLaw
puts-last j before x rest end course =
    let s = split j before (Did (put x) ∷ rest) Start end course in
    put-here j before x rest end s.0 (λ source is. own-source j before (Did (put x) ∷ rest) end source course is) (reach-known j before [] Start s.0 refl tt s.1) s.2

known-ends : (j : Job) (acts : List Act) (at : At) (end : End) → KnownAt j acts at → Ends j at end → KnownEnd j acts end
known-ends j acts Start end k h =
    elim h [
      | inl e ↦ failed-end (Failed Memory) e tt
      | inr other ↦ elim other [ inl f ↦ failed-end (Failed Fetch) f.2 tt | inr s ↦ failed-end (Failed Station) s.2 tt ]
    ]
  where
    failed-end : (known : End) → end ≡ known → KnownEnd j acts known → KnownEnd j acts end
    failed-end known e is = subst (λ (x : End). KnownEnd j acts x) (sym e) is
known-ends j acts (Send source note tried) end k h = subst (λ (x : End). KnownEnd j acts x) (sym h) tt
known-ends j acts (Locally source note) end k h = subst (λ (x : End). KnownEnd j acts x) (sym h) tt
known-ends j acts (Finish by note o) end k h =
    elim h [
      | inl zero_ ↦ elim zero_.1 [
        | inl e ↦ subst (λ (x : End). KnownEnd j acts x) (sym e) tt
        | inr e ↦
            subst (λ (x : End). KnownEnd j acts x) (sym e) tt
      ]
      | inr done ↦ subst (λ (x : End). KnownEnd j acts x) (sym done.1) (end-failed j acts by note o k done.0)
    ]
known-ends j acts (Over e) end k h = subst (λ (x : End). KnownEnd j acts x) (sym h) k
known-ends j acts at end k h = absurd h

-- what a course tells of the compile that its end names
pub known-end : (j : Job) (acts : List Act) (end : End) → Course j acts end → KnownEnd j acts end
known-end j acts end course =
    let whole : From j Start (acts ++ []) end = subst (λ (xs : List Act). From j Start xs end) (sym (append-nil acts)) course in
    let s = split j acts [] Start end whole in
    known-ends j acts s.0 end (reach-known j acts [] Start s.0 refl tt s.1) s.2
