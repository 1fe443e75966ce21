-- The walk of a job's acts is a course of the table, within its bounds, and hides no fault of an exchange.
use Rattle.std.proofs.Common.{◌≡◌, ◌≢◌, ◌⊎◌, inl, inr, ℕ, ◌+◌, Bool, true, false, ◌&&◌, cond, nat_eq, nat_lt, length}
use Rattle.std.proofs.Common.{List, [], ◌∷◌, ◌++◌, refl, sym, ap, subst}
use Rattle.farm_types.specs.declared.ran.Ran.{Ran}
use Rattle.farm_types.specs.declared.ran.Outcome.{Outcome}
use Rattle.edge_traits.specs.declared.cause.Cause.{Cause}
use Rattle.edge_traits.specs.declared.entries.Exchange.{Exchange}
use Rattle.edge_traits.specs.Deeds.{ran, fetched, exchanged, put, timed}
use Rattle.farm_machine.specs.declared.reports.By.{By}
use Rattle.farm_machine.specs.declared.reports.By.TheVariants.{Cpp, Remote}
use Rattle.farm_machine.specs.declared.reports.Why5.TheVariants.{Station, Broke, Memory}
use Rattle.farm_machine.specs.declared.reports.End.{End}
use Rattle.farm_machine.specs.declared.reports.End.TheVariants.{Done, Failed}
use Rattle.farm_machine.specs.Acts.{Takes, Gives, GivesBad, FindsDown, TakesLocal, GivesLocal, Act, Did, Met}
use Rattle.farm_machine.specs.Course.{At, Start, LentInPlace, RanInPlace, Send, Lent, RanThere, Sent, Locally, LentHere, RanHere, Finish}
use Rattle.farm_machine.specs.Course.{Over}
use Rattle.farm_machine.specs.Course.{after_preprocessor, or_here, after_broken, after_whole, no_host, Tried, tried_too}
use Rattle.farm_machine.specs.Course.{Next, Ends, Reach, From, Course}
use Rattle.farm_machine.specs.Jobs.{Job, CanRequest, output_name}
use Rattle.course_laws.proofs.InTable.{in-table, from-table}
use Rattle.course_laws.proofs.TablesBack.{table}
use Rattle.job_run.specs.Courses.{AreCompiles, AreBounded, IsCourseFront, IsJobCourse}
use Rattle.job_run.specs.Gives.{IsUnhurt}
use Rattle.job_run.specs.Strict.{IsStrict}
use Rattle.job_run.proofs.Asking.{StrictFrom, StrictCourse, is-course}

-- ---- behind the source a job runs compiles alone, and what it sends it may send

abbrev IsBehind : Job → At → Type 0
IsBehind j Start = ⊥
IsBehind j LentInPlace = ⊥
IsBehind j (Lent host source note tried) = CanRequest j source
IsBehind j (Sent host source note tried x) = CanRequest j source
IsBehind j at = Unit {0}

to-behind : (j : Job) (b c : At) → c ≡ b → IsBehind j b → IsBehind j c
to-behind j b c is behind = subst (IsBehind j) (sym is) behind

behind-preprocessor : (j : Job) (r : Ran) → IsBehind j (after_preprocessor r)
behind-preprocessor j r = go (nat_eq r.status 0)
  where
    go : (b : Bool) → IsBehind j (cond b (Send r.out r.err []) (Over (Done r.status [] r.err [] Cpp)))
    go true = tt
    go false = tt

behind-or-here : (j : Job) (source note : List ℕ) (end : End) → IsBehind j (or_here j source note end)
behind-or-here j source note end = go j.config.fallback
  where
    go : (b : Bool) → IsBehind j (cond b (Locally source note) (Over end))
    go true = tt
    go false = tt

behind-broken : (j : Job) (host : ℕ) (cause : Cause) (source note : List ℕ) (tried : List Tried)
    → IsBehind j (after_broken j host cause source note tried)
behind-broken j host cause source note tried = go (nat_lt (length tried + 1) j.config.tries)
  where
    go : (b : Bool)
        → IsBehind j (cond b (Send source note (tried_too host cause tried)) (or_here j source note (Failed (Broke host cause))))
    go true = tt
    go false = behind-or-here j source note (Failed (Broke host cause))

behind-whole : (j : Job) (host : ℕ) (source note : List ℕ) (o : Outcome) → IsBehind j (after_whole j host source note o)
behind-whole j host source note o = go (nat_eq o.status 0) (j.config.fallback && j.config.retry)
  where
    go : (a b : Bool)
        → IsBehind j
        (cond a (Finish (Remote host) note o) (cond b (Locally source note) (Over (Done o.status note o.err o.out (Remote host)))))
    go true b = tt
    go false true = tt
    go false false = tt

behind-next : (j : Job) (at c : At) (act : Act) → Next j at act c → IsBehind j at → IsBehind j c
behind-next j Start c act h behind = absurd behind
behind-next j LentInPlace c act h behind = absurd behind
behind-next j (RanInPlace r) c (Met GivesLocal) h behind = elim h [ inl e ↦ to-behind j _ c e tt | inr e ↦ to-behind j _ c e tt ]
behind-next j (Send source note tried) c (Met FindsDown) h behind =
    to-behind j _ c h.1 (behind-or-here j source note (Failed (no_host tried)))
behind-next j (Send source note tried) c (Met (Takes host)) h behind = to-behind j _ c h.3 h.0
behind-next j (Send source note tried) c (Met TakesLocal) h behind = to-behind j _ c h.1 tt
behind-next j (Lent host source note tried) c (Did (ran x)) h behind = to-behind j _ c h.2 tt
behind-next j (Lent host source note tried) c (Did (exchanged x)) h behind = to-behind j _ c h.2 behind
behind-next j (Lent host source note tried) c (Met (Gives k)) h behind =
    elim h.1 [ inl e ↦ to-behind j _ c e.1 tt | inr e ↦ to-behind j _ c e tt ]
behind-next j (RanThere host note r) c (Met (Gives k)) h behind = elim h.1 [ inl e ↦ to-behind j _ c e tt | inr e ↦ to-behind j _ c e tt ]
behind-next j (Sent host source note tried x) c (Met (Gives k)) h behind =
    elim h.1 [
      | inl whole ↦ to-behind j _ c whole.2 (behind-whole j host source note whole.0)
      | inr other ↦ elim other [
        | inl broken ↦ to-behind j _ c broken.3 (behind-broken j host broken.0 source note tried)
        | inr e ↦ to-behind j _ c e tt
      ]
    ]
behind-next j (Sent host source note tried x) c (Met (GivesBad k until)) h behind =
    to-behind j _ c h.2.4 (behind-broken j host h.2.0 source note tried)
behind-next j (Locally source note) c (Met TakesLocal) h behind = to-behind j _ c h tt
behind-next j (LentHere source note) c (Did (ran x)) h behind = to-behind j _ c h.1 tt
behind-next j (LentHere source note) c (Met GivesLocal) h behind = elim h [ inl e ↦ to-behind j _ c e tt | inr e ↦ to-behind j _ c e tt ]
behind-next j (RanHere note r) c (Met GivesLocal) h behind = elim h [ inl e ↦ to-behind j _ c e tt | inr e ↦ to-behind j _ c e tt ]
behind-next j (Finish by note o) c (Did (put x)) h behind = to-behind j _ c h.3 tt
behind-next j at c act h behind = absurd h

-- ---- bounds

compile-within : (j : Job) (at c : At) (act : Act) (acts : List Act) → IsBehind j at → IsStrict act at c → AreCompiles acts
    → AreCompiles (act ∷ acts)
compile-within j Start c act acts behind strict more = absurd behind
compile-within j LentInPlace c act acts behind strict more = absurd behind
compile-within j at c (Did (ran x)) acts behind strict more = (strict, more)
compile-within j at c (Did (fetched x)) acts behind strict more = (strict, more)
compile-within j at c (Did (exchanged x)) acts behind strict more = more
compile-within j at c (Did (put x)) acts behind strict more = more
compile-within j at c (Did (timed moment)) acts behind strict more = more
compile-within j at c (Met x) acts behind strict more = more

compiles : (j : Job) (acts : List Act) (at : At) (end : End) → IsBehind j at → StrictFrom j at acts end → AreCompiles acts
compiles j [] at end behind ends = tt
compiles j (act ∷ acts) at end behind (c, next, strict, more) =
    compile-within j at c act acts behind strict (compiles j acts c end (behind-next j at c act next behind) more)

in-place : (j : Job) (acts : List Act) (end : End) → StrictFrom j LentInPlace acts end → AreBounded (Met TakesLocal ∷ acts)
in-place j [] end ends = tt
in-place j (Did (ran x) ∷ acts) end (c, next, strict, more) =
    (strict, compiles j acts c end (to-behind j (RanInPlace x.ran) c next.1 tt) more)
in-place j (Met GivesLocal ∷ acts) end (c, next, strict, more) =
    compiles j acts c end (elim next [ inl e ↦ to-behind j _ c e tt | inr e ↦ to-behind j _ c e tt ]) more
in-place j (act ∷ acts) end (c, next, strict, more) = absurd next

bounded : (j : Job) (acts : List Act) (end : End) → StrictCourse j acts end → AreBounded acts
bounded j [] end ends = tt
bounded j (Met TakesLocal ∷ acts) end (c, next, strict, more) =
    in-place j acts end (subst (λ (b : At). StrictFrom j b acts end) next.1 more)
bounded j (Did (fetched x) ∷ acts) end (c, next, strict, more) = (strict, compiles j acts c end (to-behind j _ c next.3 tt) more)
bounded j (Did (ran x) ∷ acts) end (c, next, strict, more) =
    (strict, compiles j acts c end (to-behind j _ c next.3 (behind-preprocessor j x.ran)) more)
bounded j (act ∷ acts) end (c, next, strict, more) = absurd next

-- ---- where memory was wanting behind an exchange

-- from here a job can go on to another end
record Goes (j : Job) (at : At) : Type 0 where
  next : Act
  rest : List Act
  end : End
  whole : end ≢ Failed Memory
  from : From j at (next ∷ rest) end

goes-locally : (j : Job) (source note : List ℕ) → Goes j (Locally source note)
goes-locally j source note = record {
  next = Met TakesLocal;
  rest = Met GivesLocal ∷ [];
  end = Failed Station;
  whole = λ e. cc;
  from = (LentHere source note, refl, (Over (Failed Station), inl refl, refl));
}

goes-down : (j : Job) (source note : List ℕ) (tried : List Tried) → CanRequest j source → Goes j (Send source note tried)
goes-down j source note tried can = go j.config.fallback refl
  where
    go : (b : Bool) → j.config.fallback ≡ b → Goes j (Send source note tried)
    go true on = record {
      next = Met FindsDown;
      rest = Met TakesLocal ∷ Met GivesLocal ∷ [];
      end = Failed Station;
      whole = λ e. cc;
      from = (
        Locally source note,
        (can, ap (λ (b : Bool). cond b (Locally source note) (Over (Failed (no_host tried)))) (sym on)),
        (LentHere source note, refl, (Over (Failed Station), inl refl, refl)),
      );
    }
    go false off = record {
      next = Met FindsDown;
      rest = [];
      end = Failed (no_host tried);
      whole = other tried;
      from = (
        Over (Failed (no_host tried)),
        (can, ap (λ (b : Bool). cond b (Locally source note) (Over (Failed (no_host tried)))) (sym off)),
        refl,
      );
    }
      where
        other : (ts : List Tried) → Failed (no_host ts) ≢ Failed Memory
        other [] = λ e. cc
        other (t ∷ ts) = λ e. cc

goes-put : (j : Job) (by : By) (note : List ℕ) (o : Outcome) → o.status ≡ 0 → Goes j (Finish by note o)
goes-put j by note o well = record {
  next = Did (put (record { path = output_name j; bytes = o.object }));
  rest = [];
  end = Done 0 note o.err o.out by;
  whole = λ e. cc;
  from = (Over (Done 0 note o.err o.out by), (well, refl, refl, refl), refl);
}

goes-whole : (j : Job) (host : ℕ) (source note : List ℕ) (o : Outcome) → Ends j (after_whole j host source note o) (Failed Memory)
    → Goes j (after_whole j host source note o)
goes-whole j host source note o ends = go (nat_eq o.status 0) (j.config.fallback && j.config.retry) ends
  where
    go : (a b : Bool)
        → Ends j (cond a (Finish (Remote host) note o) (cond b (Locally source note) (Over (Done o.status note o.err o.out (Remote host)))))
        (Failed Memory)
        → Goes j (cond a (Finish (Remote host) note o) (cond b (Locally source note) (Over (Done o.status note o.err o.out (Remote host)))))
    go true b h = elim h [ inl well ↦ goes-put j (Remote host) note o well.0 | inr failed ↦ absurd (cc failed.1) ]
    go false true h = goes-locally j source note
    go false false h = absurd (cc h)

goes-broken : (j : Job) (host : ℕ) (cause : Cause) (source note : List ℕ) (tried : List Tried) → CanRequest j source
    → Ends j (after_broken j host cause source note tried) (Failed Memory) → Goes j (after_broken j host cause source note tried)
goes-broken j host cause source note tried can ends = go (nat_lt (length tried + 1) j.config.tries) ends
  where
    here : (b : Bool) → Ends j (cond b (Locally source note) (Over (Failed (Broke host cause)))) (Failed Memory)
        → Goes j (cond b (Locally source note) (Over (Failed (Broke host cause))))
    here true h = goes-locally j source note
    here false h = absurd (cc h)

    go : (b : Bool)
        → Ends j (cond b (Send source note (tried_too host cause tried)) (or_here j source note (Failed (Broke host cause))))
        (Failed Memory)
        → Goes j (cond b (Send source note (tried_too host cause tried)) (or_here j source note (Failed (Broke host cause))))
    go true h = goes-down j source note (tried_too host cause tried) can
    go false h = here j.config.fallback h

-- A job that wants memory behind an exchange and its give could have gone on, or the exchange was unhurt.
behind-give : (j : Job) (host k : ℕ) (source note : List ℕ) (tried : List Tried) (x : Exchange) (c : At) → CanRequest j source
    → Next j (Sent host source note tried x) (Met (Gives k)) c → IsStrict (Met (Gives k)) (Sent host source note tried x) c
    → Ends j c (Failed Memory) → IsUnhurt x ⊎ Goes j c
behind-give j host k source note tried x c can next strict ends =
    elim next.1 [
      | inl whole ↦ inr
          (subst (Goes j) (sym whole.2) (goes-whole j host source note whole.0 (subst (λ (b : At). Ends j b (Failed Memory)) whole.2 ends)))
      | inr other ↦ elim other [
        | inl broken ↦ inr
            (subst (Goes j) (sym broken.3)
            (goes-broken j host broken.0 source note tried can (subst (λ (b : At). Ends j b (Failed Memory)) broken.3 ends)))
        | inr over ↦ inl (subst (λ (b : At). IsStrict (Met (Gives k)) (Sent host source note tried x) b) over strict)
      ]
    ]

-- these acts lead to a place from which a job can go on
record LeadsOn (j : Job) (at : At) (acts : List Act) : Type 0 where
  to : At
  reach : Reach j at acts to
  goes : Goes j to

-- an exchange and its give that acts end with is unhurt
abbrev IsUnhurtPair : Act → Act → Type 0
IsUnhurtPair (Did (exchanged x)) (Met (Gives k)) = IsUnhurt x
IsUnhurtPair a b = Unit {0}

abbrev EndUnhurt : List Act → Type 0
EndUnhurt [] = Unit {0}
EndUnhurt (a ∷ []) = Unit {0}
EndUnhurt (a ∷ b ∷ []) = IsUnhurtPair a b
EndUnhurt (a ∷ b ∷ c ∷ acts) = EndUnhurt (b ∷ c ∷ acts)

end-unhurt : (front : List Act) (x : Exchange) (host : ℕ) → EndUnhurt (front ++ Did (exchanged x) ∷ Met (Gives host) ∷ []) → IsUnhurt x
end-unhurt [] x host h = h
end-unhurt (a ∷ []) x host h = h
end-unhurt (a ∷ b ∷ []) x host h = h
end-unhurt (a ∷ b ∷ c ∷ front) x host h = end-unhurt (b ∷ c ∷ front) x host h

last-pair : (j : Job) (at : At) (x : Exchange) (k : ℕ) → IsBehind j at
    → StrictFrom j at (Did (exchanged x) ∷ Met (Gives k) ∷ []) (Failed Memory)
    → IsUnhurt x ⊎ LeadsOn j at (Did (exchanged x) ∷ Met (Gives k) ∷ [])
last-pair j (Lent host source note tried) x k can (b, next, strict, (c, give, strict_too, ends)) =
    let is = next.2 in
    elim (behind-give j host k source note tried x c can (subst (λ (s : At). Next j s (Met (Gives k)) c) is give)
    (subst (λ (s : At). IsStrict (Met (Gives k)) s c) is strict_too) ends) [
      | inl unhurt ↦ inl unhurt
      | inr on ↦ inr (record { to = c; reach = (b, next, (c, give, refl)); goes = on })
    ]
last-pair j at x k can (b, next, strict, more) = absurd next

last-two : (j : Job) (at : At) (a b : Act) → IsBehind j at → StrictFrom j at (a ∷ b ∷ []) (Failed Memory)
    → IsUnhurtPair a b ⊎ LeadsOn j at (a ∷ b ∷ [])
last-two j at (Did (exchanged x)) (Met (Gives k)) behind from = last-pair j at x k behind from
last-two j at (Did (exchanged x)) (Met (Takes host)) behind from = inl tt
last-two j at (Did (exchanged x)) (Met (GivesBad host until)) behind from = inl tt
last-two j at (Did (exchanged x)) (Met FindsDown) behind from = inl tt
last-two j at (Did (exchanged x)) (Met TakesLocal) behind from = inl tt
last-two j at (Did (exchanged x)) (Met GivesLocal) behind from = inl tt
last-two j at (Did (exchanged x)) (Did d) behind from = inl tt
last-two j at (Did (ran x)) b behind from = inl tt
last-two j at (Did (fetched x)) b behind from = inl tt
last-two j at (Did (put x)) b behind from = inl tt
last-two j at (Did (timed moment)) b behind from = inl tt
last-two j at (Met x) b behind from = inl tt

hides-none : (j : Job) (acts : List Act) (at : At) → IsBehind j at → StrictFrom j at acts (Failed Memory)
    → EndUnhurt acts ⊎ LeadsOn j at acts
hides-none j [] at behind from = inl tt
hides-none j (a ∷ []) at behind from = inl tt
hides-none j (a ∷ b ∷ []) at behind from = last-two j at a b behind from
hides-none j (a ∷ b ∷ c ∷ acts) at behind (d, next, strict, more) =
    elim (hides-none j (b ∷ c ∷ acts) d (behind-next j at d a next behind) more) [
      | inl unhurt ↦ inl unhurt
      | inr on ↦ inr (record { to = on.to; reach = (d, next, on.reach); goes = on.goes })
    ]

-- the first act of a job is no exchange
behind-first : (a : Act) (acts : List Act) (j : Job) (c : At) → Next j Start a c → EndUnhurt acts → EndUnhurt (a ∷ acts)
behind-first a [] j c next unhurt = tt
behind-first (Met TakesLocal) (b ∷ []) j c next unhurt = tt
behind-first (Did (fetched x)) (b ∷ []) j c next unhurt = tt
behind-first (Did (ran x)) (b ∷ []) j c next unhurt = tt
behind-first a (b ∷ d ∷ acts) j c next unhurt = unhurt
behind-first a (b ∷ []) j c next unhurt = absurd next

more-first : (j : Job) (a : Act) (acts : List Act) (c : At) → Next j Start a c → EndUnhurt acts ⊎ LeadsOn j c acts
    → EndUnhurt (a ∷ acts) ⊎ LeadsOn j Start (a ∷ acts)
more-first j a acts c next more =
    elim more [
      | inl unhurt ↦ inl (behind-first a acts j c next unhurt)
      | inr on ↦ inr (record { to = on.to; reach = (c, next, on.reach); goes = on.goes })
    ]

-- a command in place has no exchange
in-place-none : (j : Job) (acts : List Act) → StrictFrom j LentInPlace acts (Failed Memory) → EndUnhurt acts ⊎ LeadsOn j LentInPlace acts
in-place-none j [] ends = absurd ends
in-place-none j (Did (ran x) ∷ acts) (c, next, strict, more) =
    elim (hides-none j acts c (to-behind j (RanInPlace x.ran) c next.1 tt) more) [
      | inl unhurt ↦ inl (one acts unhurt)
      | inr on ↦ inr (record { to = on.to; reach = (c, next, on.reach); goes = on.goes })
    ]
  where
    one : (xs : List Act) → EndUnhurt xs → EndUnhurt (Did (ran x) ∷ xs)
    one [] unhurt = tt
    one (b ∷ []) unhurt = tt
    one (b ∷ d ∷ xs) unhurt = unhurt
in-place-none j (Met GivesLocal ∷ acts) (c, next, strict, more) =
    elim (hides-none j acts c (elim next [ inl e ↦ to-behind j _ c e tt | inr e ↦ to-behind j _ c e tt ]) more) [
      | inl unhurt ↦ inl (one acts unhurt)
      | inr on ↦ inr (record { to = on.to; reach = (c, next, on.reach); goes = on.goes })
    ]
  where
    one : (xs : List Act) → EndUnhurt xs → EndUnhurt (Met GivesLocal ∷ xs)
    one [] unhurt = tt
    one (b ∷ []) unhurt = tt
    one (b ∷ d ∷ xs) unhurt = unhurt
in-place-none j (act ∷ acts) (c, next, strict, more) = absurd next

hides : (j : Job) (acts : List Act) → StrictCourse j acts (Failed Memory) → EndUnhurt acts ⊎ LeadsOn j Start acts
hides j [] from = inl tt
hides j (Met TakesLocal ∷ acts) (c, next, strict, more) =
    more-first j (Met TakesLocal) acts c next
    (subst (λ (b : At). EndUnhurt acts ⊎ LeadsOn j b acts) (sym next.1)
    (in-place-none j acts (subst (λ (b : At). StrictFrom j b acts (Failed Memory)) next.1 more)))
hides j (Did (fetched x) ∷ acts) (c, next, strict, more) =
    more-first j (Did (fetched x)) acts c next (hides-none j acts c (to-behind j _ c next.3 tt) more)
hides j (Did (ran x) ∷ acts) (c, next, strict, more) =
    more-first j (Did (ran x)) acts c next (hides-none j acts c (to-behind j _ c next.3 (behind-preprocessor j x.ran)) more)
hides j (act ∷ acts) (c, next, strict, more) = absurd next

reach-join : (j : Job) (xs ys : List Act) (at b : At) (end : End) → Reach j at xs b → From j b ys end → From j at (xs ++ ys) end
reach-join j [] ys at b end is from = subst (λ (c : At). From j c ys end) (sym is) from
reach-join j (x ∷ xs) ys at b end (c, next, more) from = (c, next, reach-join j xs ys c b end more from)

leads-front : (j : Job) (acts : List Act) → LeadsOn j Start acts → IsCourseFront j acts
leads-front j acts on =
    let goes = on.goes in
    record {
      next = goes.next;
      rest = goes.rest;
      end = goes.end;
      finished = (table j (acts ++ goes.next ∷ goes.rest) goes.end goes.whole).0
          (reach-join j acts (goes.next ∷ goes.rest) Start on.to goes.end on.reach goes.from);
    }

pub job-course : (j : Job) (acts : List Act) (end : End) → StrictCourse j acts end → IsJobCourse j acts end
job-course j acts end strict = record {
  of_table = in-table j acts end (is-course j acts Start end strict);
  hides_none = λ is. elim (hides j acts (subst (StrictCourse j acts) is strict)) [
    | inl unhurt ↦ inl (λ front x host parts. end-unhurt front x host (subst EndUnhurt parts unhurt))
    | inr on ↦ inr (leads-front j acts on)
  ];
  bounded = bounded j acts end strict;
}

-- ---- back to the walk

pub is-walked : (j : Job) (acts : List Act) (end : End) → IsJobCourse j acts end → Course j acts end
is-walked j acts end course = from-table j acts end course.of_table
