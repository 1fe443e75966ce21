-- The courses are those of the table.
use Rattle.std.proofs.Common.{◌≡◌, ◌≢◌, ◌⊎◌, inl, inr, ℕ, ◌+◌, ◌<◌, ◌≤◌, Bool, true, false, ◌&&◌, cond, List, [], ◌∷◌, length, nat_eq}
use Rattle.std.proofs.Common.{nat_lt, refl, sym, ap, subst}
use Rattle.std.proofs.lemmas.Bool.{eqb-true, eqb-false, ltb-true, ltb-false, and_parts, and_cases}
use Rattle.farm_types.specs.declared.ran.Ran.{Ran}
use Rattle.farm_types.specs.declared.ran.Outcome.{Outcome}
use Rattle.edge_traits.specs.declared.cause.Cause.{Cause}
use Rattle.edge_traits.specs.Deeds.{ran, fetched, exchanged, put}
use Rattle.farm_machine.specs.declared.reports.By.{By}
use Rattle.farm_machine.specs.declared.reports.By.TheVariants.{Cpp, Remote, Here, InPlace}
use Rattle.farm_machine.specs.declared.reports.Why5.TheVariants.{Station, Broke, Memory}
use Rattle.farm_machine.specs.declared.reports.End.{End}
use Rattle.farm_machine.specs.declared.reports.End.TheVariants.{Done, Failed}
use Rattle.farm_machine.specs.Acts.{Takes, Gives, GivesBad, FindsDown, TakesLocal, GivesLocal, Act, Did, Met}
use Rattle.farm_machine.specs.Jobs.{Job, CanRequest, may_be_sent, is_local_host}
use Rattle.farm_machine.specs.Course.{At, LentInPlace, RanInPlace, Send, Lent, RanThere, Sent, Locally, LentHere, RanHere, Finish, Over}
use Rattle.farm_machine.specs.Course.{outcome_of, after_preprocessor, or_here, after_broken, after_whole, Tried, tried_too, no_host, From}
use Rattle.farm_machine.specs.Course.{Course}
use Rattle.farm_machine.specs.Table.{EndPart, HerePart, HereOr, WholeThen, SendPart, CompilePart, Finished}

pub along : (j : Job) (c d : At) (acts : List Act) (end : End) → c ≡ d → From j c acts end → From j d acts end
along j c d acts end e h = subst (λ (at : At). From j at acts end) e h

pub over : (j : Job) (e : End) (acts : List Act) (end : End) → From j (Over e) acts end → (acts ≡ []) × (end ≡ e)
over j e [] end h = (refl, h)
over j e (a ∷ acts) end (c, next, from) = absurd next

not_over : {A : Type 0} (j : Job) (acts : List Act) (end : End) → end ≢ Failed Memory → From j (Over (Failed Memory)) acts end → A
not_over j acts end whole h = absurd (whole (over j (Failed Memory) acts end h).1)

end_part : (j : Job) (by : By) (note : List ℕ) (o : Outcome) (acts : List Act) (end : End) → end ≢ Failed Memory
    → From j (Finish by note o) acts end → EndPart j by note o acts end
end_part j by note o [] end whole h =
    elim h [ inl zero_ ↦ elim zero_.1 [ inl memory ↦ absurd (whole memory) | inr failed ↦ inr (zero_.0, failed) ] | inr other ↦ inl other ]
end_part j by note o (Did (put x) ∷ []) end whole (c, next, from) = (
  next.0,
  next.1,
  next.2,
  (over j (Done 0 note o.err o.out by) [] end
      (along j c (Over (Done 0 note o.err o.out by)) [] end next.3 from)).1,
)
end_part j by note o (Did (put x) ∷ a ∷ acts) end whole (c, next, from) = let e : a ∷ acts ≡ [] =
    (over j (Done 0 note o.err o.out by) (a ∷ acts) end (along j c (Over (Done 0 note o.err o.out by)) (a ∷ acts) end next.3 from)).0 in cc
end_part j by note o (a ∷ acts) end whole (c, next, from) = absurd next

ran_here : (j : Job) (note : List ℕ) (r : Ran) (acts : List Act) (end : End) → end ≢ Failed Memory
    → From j (RanHere note r) acts end → (rest : List Act) × (acts ≡ Met GivesLocal ∷ rest) × EndPart j Here note (outcome_of r) rest end
ran_here j note r (Met GivesLocal ∷ acts) end whole (c, next, from) =
    elim next [
      | inl e ↦ (
        acts,
        refl,
        end_part j Here note (outcome_of r) acts end whole
            (along j c (Finish Here note (outcome_of r)) acts end e from),
      )
      | inr e ↦ not_over j acts end whole (along j c (Over (Failed Memory)) acts end e from)
    ]
ran_here j note r [] end whole h = absurd h
ran_here j note r (a ∷ acts) end whole (c, next, from) = absurd next

lent_here : (j : Job) (source note : List ℕ) (acts : List Act) (end : End) → end ≢ Failed Memory
    → From j (LentHere source note) acts end → HerePart j source note (Met TakesLocal ∷ acts) end
lent_here j source note (Met GivesLocal ∷ acts) end whole (c, next, from) =
    elim next [
      | inl e ↦ let o = over j (Failed Station) acts end (along j c (Over (Failed Station)) acts end e from) in
          subst (λ (more : List Act). HerePart j source note (Met TakesLocal ∷ Met GivesLocal ∷ more) end) (sym o.0) o.1
      | inr e ↦ not_over j acts end whole (along j c (Over (Failed Memory)) acts end e from)
    ]
lent_here j source note (Did (ran x) ∷ acts) end whole (c, next, from) =
    let r = ran_here j note x.ran acts end whole (along j c (RanHere note x.ran) acts end next.1 from) in
    subst (λ (more : List Act). HerePart j source note (Met TakesLocal ∷ Did (ran x) ∷ more) end) (sym r.1) (next.0, r.2)
lent_here j source note [] end whole h = absurd h
lent_here j source note (a ∷ acts) end whole (c, next, from) = absurd next

here_part : (j : Job) (source note : List ℕ) (acts : List Act) (end : End) → end ≢ Failed Memory
    → From j (Locally source note) acts end → HerePart j source note acts end
here_part j source note (Met TakesLocal ∷ acts) end whole (c, next, from) =
    lent_here j source note acts end whole (along j c (LentHere source note) acts end next from)
here_part j source note [] end whole h = absurd (whole h)
here_part j source note (a ∷ acts) end whole (c, next, from) = absurd next

here_or : (j : Job) (source note : List ℕ) (why : End) (acts : List Act) (end : End) → end ≢ Failed Memory
    → From j (or_here j source note why) acts end → HereOr j source note why acts end
here_or j source note why acts end whole h = go j.config.fallback refl h
  where
    go : (b : Bool) → j.config.fallback ≡ b → From j (cond b (Locally source note) (Over why)) acts end → HereOr j source note why acts end
    go true e h = inl (e, here_part j source note acts end whole h)
    go false e h = let o = over j why acts end h in inr (e, o.0, o.1)

whole_then : (j : Job) (host : ℕ) (source note : List ℕ) (o : Outcome) (acts : List Act) (end : End) → end ≢ Failed Memory
    → From j (after_whole j host source note o) acts end → WholeThen j host source note o acts end
whole_then j host source note o acts end whole h = go (nat_eq o.status 0) refl (j.config.fallback && j.config.retry) refl h
  where
    go : (a : Bool) → nat_eq o.status 0 ≡ a → (b : Bool) → (j.config.fallback && j.config.retry) ≡ b
        → From j (cond a (Finish (Remote host) note o)
        (cond b (Locally source note) (Over (Done o.status note o.err o.out (Remote host))))) acts end
        → WholeThen j host source note o acts end
    go true e b f h = inl (eqb-true o.status 0 e, end_part j (Remote host) note o acts end whole h)
    go false e true f h = let p = and_parts j.config.fallback j.config.retry f in
        inr (inl (eqb-false o.status 0 e, p.0, p.1, here_part j source note acts end whole h))
    go false e false f h = let x = over j (Done o.status note o.err o.out (Remote host)) acts end h in
        inr (inr (eqb-false o.status 0 e, and_cases j.config.fallback j.config.retry f, x.0, x.1))

-- what follows a broken exchange
abbrev pub BrokenThen : Job → ℕ → Cause → List ℕ → List ℕ → List Tried → List Act → End → Type 0
BrokenThen j host cause source note tried acts end =
    ((length tried + 1 < j.config.tries) × SendPart j source note (tried_too host cause tried) acts end)
    ⊎ ((j.config.tries ≤ length tried + 1) × HereOr j source note (Failed (Broke host cause)) acts end)

broken_then : (j : Job) (host : ℕ) (cause : Cause) (source note : List ℕ) (tried : List Tried) (acts : List Act) (end : End)
    → end ≢ Failed Memory
    → (From j (Send source note (tried_too host cause tried)) acts end → SendPart j source note (tried_too host cause tried) acts end)
    → From j (after_broken j host cause source note tried) acts end → BrokenThen j host cause source note tried acts end
broken_then j host cause source note tried acts end whole again h = go (nat_lt (length tried + 1) j.config.tries) refl h
  where
    go : (b : Bool) → nat_lt (length tried + 1) j.config.tries ≡ b
        → From j (cond b (Send source note (tried_too host cause tried)) (or_here j source note (Failed (Broke host cause)))) acts
        end → BrokenThen j host cause source note tried acts end
    go true e h = inl (ltb-true (length tried + 1) j.config.tries e, again h)
    go false e h = inr (ltb-false (length tried + 1) j.config.tries e, here_or j source note (Failed (Broke host cause)) acts end whole h)

ran_there : (j : Job) (host : ℕ) (note : List ℕ) (r : Ran) (acts : List Act) (end : End) → end ≢ Failed Memory
    → From j (RanThere host note r) acts end → (k : ℕ) × (rest : List Act) × (acts ≡ Met (Gives k) ∷ rest) × (k ≡ host)
    × EndPart j Here note (outcome_of r) rest end
ran_there j host note r (Met (Gives k) ∷ acts) end whole (c, next, from) =
    elim next.1 [
      | inl e ↦ (
        k,
        acts,
        refl,
        next.0,
        end_part j Here note (outcome_of r) acts end whole
            (along j c (Finish Here note (outcome_of r)) acts end e from),
      )
      | inr e ↦ not_over j acts end whole (along j c (Over (Failed Memory)) acts end e from)
    ]
ran_there j host note r [] end whole h = absurd h
ran_there j host note r (a ∷ acts) end whole (c, next, from) = absurd next

-- part Send, where the request fits
send_part : (j : Job) (source note : List ℕ) (acts : List Act) (tried : List Tried) (end : End) → end ≢ Failed Memory
    → CanRequest j source → From j (Send source note tried) acts end → SendPart j source note tried acts end
send_part j source note [] tried end whole fits h = absurd (whole h)
send_part j source note (Met FindsDown ∷ acts) tried end whole fits (c, next, from) = (
  fits,
  here_or j source note (Failed (no_host tried)) acts end whole
      (along j c (or_here j source note (Failed (no_host tried))) acts end next.1 from),
)
send_part j source note (Met (Takes host) ∷ []) tried end whole fits (c, next, from) =
    let h : From j (Lent host source note tried) [] end = along j c (Lent host source note tried) [] end next.3 from in absurd h
send_part j source note (Met (Takes host) ∷ Met (Gives k) ∷ acts) tried end whole fits (c, next, from) =
    go (along j c (Lent host source note tried) (Met (Gives k) ∷ acts) end next.3 from)
  where
    go : From j (Lent host source note tried) (Met (Gives k) ∷ acts) end
        → SendPart j source note tried (Met (Takes host) ∷ Met (Gives k) ∷ acts) end
    go (d, next', from') = elim next'.1 [
      | inl e ↦ let o = over j (Failed Station) acts end (along j d (Over (Failed Station)) acts end e.1 from') in
          subst (λ (more : List Act). SendPart j source note tried (Met (Takes host) ∷ Met (Gives k) ∷ more) end) (sym o.0)
          ((next.0, next.1, next.2), next'.0, e.0, o.1)
      | inr e ↦ not_over j acts end whole (along j d (Over (Failed Memory)) acts end e from')
    ]
send_part j source note (Met (Takes host) ∷ Did (ran x) ∷ acts) tried end whole fits (c, next, from) =
    go (along j c (Lent host source note tried) (Did (ran x) ∷ acts) end next.3 from)
  where
    go : From j (Lent host source note tried) (Did (ran x) ∷ acts) end
        → SendPart j source note tried (Met (Takes host) ∷ Did (ran x) ∷ acts) end
    go (d, next', from') =
        let r = ran_there j host note x.ran acts end whole (along j d (RanThere host note x.ran) acts end next'.2 from') in
        subst (λ (more : List Act). SendPart j source note tried (Met (Takes host) ∷ Did (ran x) ∷ more) end) (sym r.2)
        ((next.0, next.1, next.2), r.3, next'.0, next'.1, r.4)
send_part j source note (Met (Takes host) ∷ Did (exchanged x) ∷ []) tried end whole fits (c, next, from) =
    go (along j c (Lent host source note tried) (Did (exchanged x) ∷ []) end next.3 from)
  where
    go : From j (Lent host source note tried) (Did (exchanged x) ∷ []) end → ⊥
    go (d, next', from') = let h : From j (Sent host source note tried x) [] end =
        along j d (Sent host source note tried x) [] end next'.2 from' in h
send_part j source note (Met (Takes host) ∷ Did (exchanged x) ∷ Met (Gives k) ∷ acts) tried end whole fits (c, next, from) =
    go (λ t. send_part j source note acts t end whole fits)
    (along j c (Lent host source note tried) (Did (exchanged x) ∷ Met (Gives k) ∷ acts) end next.3 from)
  where
    after : ((t : List Tried) → From j (Send source note t) acts end → SendPart j source note t acts end)
        → is_local_host j host ≡ false → From j (Sent host source note tried x) (Met (Gives k) ∷ acts) end
        → SendPart j source note tried (Met (Takes host) ∷ Did (exchanged x) ∷ Met (Gives k) ∷ acts) end
    after again remote (d, n, from') = (
      (next.0, next.1, next.2),
      n.0,
      remote,
      elim n.1 [
        | inl w ↦ inl (
          w.0,
          w.1,
          whole_then j host source note w.0 acts end whole
              (along j d (after_whole j host source note w.0) acts end w.2 from'),
        )
        | inr more ↦ elim more [
          | inl b ↦ inr (
            b.0,
            b.1,
            b.2,
            broken_then j host b.0 source note tried acts end whole (again (tried_too host b.0 tried))
                (along j d (after_broken j host b.0 source note tried) acts end b.3 from'),
          )
          | inr e ↦ not_over j acts end whole (along j d (Over (Failed Memory)) acts end e from')
        ]
      ],
    )

    go : ((t : List Tried) → From j (Send source note t) acts end → SendPart j source note t acts end)
        → From j (Lent host source note tried) (Did (exchanged x) ∷ Met (Gives k) ∷ acts) end
        → SendPart j source note tried (Met (Takes host) ∷ Did (exchanged x) ∷ Met (Gives k) ∷ acts) end
    go again (d, next', from') = after again next'.0 (along j d (Sent host source note tried x) (Met (Gives k) ∷ acts) end next'.2 from')
send_part j source note (Met (Takes host) ∷ Did (exchanged x) ∷ Met (GivesBad k until) ∷ acts) tried end whole fits
    (c, next, from) = go (λ t. send_part j source note acts t end whole fits)
    (along j c (Lent host source note tried) (Did (exchanged x) ∷ Met (GivesBad k until) ∷ acts) end next.3 from)
  where
    after : ((t : List Tried) → From j (Send source note t) acts end → SendPart j source note t acts end)
        → is_local_host j host ≡ false → From j (Sent host source note tried x) (Met (GivesBad k until) ∷ acts) end
        → SendPart j source note tried (Met (Takes host) ∷ Did (exchanged x) ∷ Met (GivesBad k until) ∷ acts) end
    after again remote (d, n, from') = (
      (next.0, next.1, next.2),
      n.0,
      remote,
      (
        n.2.0,
        n.2.1,
        n.2.2,
        n.2.3,
        broken_then j host n.2.0 source note tried acts end whole (again (tried_too host n.2.0 tried))
            (along j d (after_broken j host n.2.0 source note tried) acts end n.2.4 from'),
      ),
    )

    go : ((t : List Tried) → From j (Send source note t) acts end → SendPart j source note t acts end)
        → From j (Lent host source note tried) (Did (exchanged x) ∷ Met (GivesBad k until) ∷ acts) end
        → SendPart j source note tried (Met (Takes host) ∷ Did (exchanged x) ∷ Met (GivesBad k until) ∷ acts) end
    go again (d, next', from') =
        after again next'.0 (along j d (Sent host source note tried x) (Met (GivesBad k until) ∷ acts) end next'.2 from')
send_part j source note (Met TakesLocal ∷ acts) tried end whole fits (c, next, from) = absurd (next.0 fits)
send_part j source note (Met (Takes host) ∷ Did (exchanged x) ∷ a ∷ acts) tried end whole fits (c, next, from) =
    go (along j c (Lent host source note tried) (Did (exchanged x) ∷ a ∷ acts) end next.3 from)
  where
    go : From j (Lent host source note tried) (Did (exchanged x) ∷ a ∷ acts) end → ⊥
    go (d, next', from') = let h : From j (Sent host source note tried x) (a ∷ acts) end =
        along j d (Sent host source note tried x) (a ∷ acts) end next'.2 from' in h.1
send_part j source note (Met (Takes host) ∷ a ∷ acts) tried end whole fits (c, next, from) =
    let h : From j (Lent host source note tried) (a ∷ acts) end =
    along j c (Lent host source note tried) (a ∷ acts) end next.3 from in absurd h.1
send_part j source note (a ∷ acts) tried end whole fits (c, next, from) = absurd next

compile_part : (j : Job) (source note : List ℕ) (acts : List Act) (end : End) → end ≢ Failed Memory
    → From j (Send source note []) acts end → CompilePart j source note acts end
compile_part j source note [] end whole h = absurd (whole h)
compile_part j source note (Met TakesLocal ∷ acts) end whole (c, next, from) =
    inl (next.0, lent_here j source note acts end whole (along j c (LentHere source note) acts end next.1 from))
compile_part j source note (Met FindsDown ∷ acts) end whole (c, next, from) =
    inr (send_part j source note (Met FindsDown ∷ acts) [] end whole next.0 (c, next, from))
compile_part j source note (Met (Takes host) ∷ acts) end whole (c, next, from) =
    inr (send_part j source note (Met (Takes host) ∷ acts) [] end whole next.0 (c, next, from))
compile_part j source note (a ∷ acts) end whole (c, next, from) = absurd next

ran_in_place : (j : Job) (r : Ran) (acts : List Act) (end : End) → end ≢ Failed Memory → From j (RanInPlace r) acts end
    → (acts ≡ Met GivesLocal ∷ []) × (end ≡ Done r.status [] r.err r.out InPlace)
ran_in_place j r (Met GivesLocal ∷ acts) end whole (c, next, from) =
    elim next [
      | inl e ↦ let o = over j (Done r.status [] r.err r.out InPlace) acts end
          (along j c (Over (Done r.status [] r.err r.out InPlace)) acts end e from) in
          (ap (λ (more : List Act). Met GivesLocal ∷ more) o.0, o.1)
      | inr e ↦ not_over j acts end whole (along j c (Over (Failed Memory)) acts end e from)
    ]
ran_in_place j r [] end whole h = absurd h
ran_in_place j r (a ∷ acts) end whole (c, next, from) = absurd next

in_place : (j : Job) (acts : List Act) (end : End) → end ≢ Failed Memory → may_be_sent j ≡ false → From j LentInPlace acts end
    → Finished j (Met TakesLocal ∷ acts) end
in_place j (Met GivesLocal ∷ acts) end whole local (c, next, from) =
    elim next [
      | inl e ↦ let o = over j (Failed Station) acts end (along j c (Over (Failed Station)) acts end e from) in
          subst (λ (more : List Act). Finished j (Met TakesLocal ∷ Met GivesLocal ∷ more) end) (sym o.0) (local, o.1)
      | inr e ↦ not_over j acts end whole (along j c (Over (Failed Memory)) acts end e from)
    ]
in_place j (Did (ran x) ∷ acts) end whole local (c, next, from) =
    let r = ran_in_place j x.ran acts end whole (along j c (RanInPlace x.ran) acts end next.1 from) in
    subst (λ (more : List Act). Finished j (Met TakesLocal ∷ Did (ran x) ∷ more) end) (sym r.0) (local, next.0, r.1)
in_place j [] end whole local h = absurd h
in_place j (a ∷ acts) end whole local (c, next, from) = absurd next

pub forth : (j : Job) (acts : List Act) (end : End) → end ≢ Failed Memory → Course j acts end → Finished j acts end
forth j [] end whole h = elim h [ inl memory ↦ absurd (whole memory) | inr other ↦ other ]
forth j (Met TakesLocal ∷ acts) end whole (c, next, from) = in_place j acts end whole next.0 (along j c LentInPlace acts end next.1 from)
forth j (Did (fetched x) ∷ acts) end whole (c, next, from) =
    (next.0, next.1, next.2, compile_part j x.bytes [] acts end whole (along j c (Send x.bytes [] []) acts end next.3 from))
forth j (Did (ran x) ∷ acts) end whole (c, next, from) =
    (next.0, next.1, next.2, go (nat_eq x.ran.status 0) refl (along j c (after_preprocessor x.ran) acts end next.3 from))
  where
    go : (b : Bool) → nat_eq x.ran.status 0 ≡ b
        → From j (cond b (Send x.ran.out x.ran.err []) (Over (Done x.ran.status [] x.ran.err [] Cpp))) acts end
        → ((x.ran.status ≢ 0) × (acts ≡ []) × (end ≡ Done x.ran.status [] x.ran.err [] Cpp))
        ⊎ ((x.ran.status ≡ 0) × CompilePart j x.ran.out x.ran.err acts end)
    go true e h = inr (eqb-true x.ran.status 0 e, compile_part j x.ran.out x.ran.err acts end whole h)
    go false e h = let o = over j (Done x.ran.status [] x.ran.err [] Cpp) acts end h in inl (eqb-false x.ran.status 0 e, o.0, o.1)
forth j (a ∷ acts) end whole (c, next, from) = absurd next
