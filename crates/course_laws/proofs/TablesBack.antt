-- What the table has is a course.
use Rattle.std.proofs.Common.{◌≡◌, ◌⊎◌, inl, inr, ℕ, ◌+◌, Bool, true, false, ◌&&◌, cond, List, [], ◌∷◌, length, nat_eq}
use Rattle.std.proofs.Common.{refl, sym, ◌∙◌, subst, eq-eqb, ne_eqb}
use Rattle.std.proofs.lemmas.Bool.{cond-true, cond-false, and_from}
use Rattle.std.proofs.lemmas.Bool.{and_left, and_right, lt-ltb, le-ltb}
use Rattle.farm_types.specs.declared.ran.Outcome.{Outcome}
use Rattle.edge_traits.specs.declared.cause.Cause.{Cause}
use Rattle.edge_traits.specs.Deeds.{ran, fetched, exchanged, put}
use Rattle.farm_machine.specs.declared.reports.By.{By}
use Rattle.farm_machine.specs.declared.reports.By.TheVariants.{Cpp, Remote, Here, InPlace}
use Rattle.farm_machine.specs.declared.reports.Why5.TheVariants.{Station, Broke}
use Rattle.farm_machine.specs.declared.reports.End.{End}
use Rattle.farm_machine.specs.declared.reports.End.TheVariants.{Done, Failed}
use Rattle.farm_machine.specs.Acts.{Takes, Gives, GivesBad, FindsDown, TakesLocal, GivesLocal, Act, Did, Met}
use Rattle.farm_machine.specs.Jobs.{Job}
use Rattle.farm_machine.specs.Course.{At, LentInPlace, RanInPlace, Send, Lent, RanThere, Sent, Locally, LentHere, RanHere, Finish, Over}
use Rattle.farm_machine.specs.Course.{outcome_of, after_preprocessor, or_here, after_broken, after_whole, Tried, tried_too, no_host, From}
use Rattle.farm_machine.specs.Course.{Course}
use Rattle.farm_machine.specs.Table.{EndPart, HerePart, HereOr, WholeThen, SendPart, CompilePart, Finished, TableLaw}
use Rattle.course_laws.proofs.Tables.{BrokenThen, forth}

-- and back
over_back : (j : Job) (e : End) (acts : List Act) (end : End) → acts ≡ [] → end ≡ e → From j (Over e) acts end
over_back j e acts end none is = subst (λ (more : List Act). From j (Over e) more end) (sym none) is

end_back : (j : Job) (by : By) (note : List ℕ) (o : Outcome) (acts : List Act) (end : End) → EndPart j by note o acts end
    → From j (Finish by note o) acts end
end_back j by note o [] end h = elim h [ inl other ↦ inr other | inr failed ↦ inl (failed.0, inr failed.1) ]
end_back j by note o (Did (put x) ∷ []) end h = (Over (Done 0 note o.err o.out by), (h.0, h.1, h.2, refl), h.3)
end_back j by note o (a ∷ acts) end h = absurd h

here_back : (j : Job) (source note : List ℕ) (acts : List Act) (end : End) → HerePart j source note acts end
    → (more : List Act) × (acts ≡ Met TakesLocal ∷ more) × From j (LentHere source note) more end
here_back j source note (Met TakesLocal ∷ Did (ran x) ∷ Met GivesLocal ∷ acts) end h = (
  Did (ran x) ∷ Met GivesLocal ∷ acts,
  refl,
  (
    RanHere note x.ran,
    (h.0, refl),
    (Finish Here note (outcome_of x.ran), inl refl, end_back j Here note (outcome_of x.ran) acts end h.1),
  ),
)
here_back j source note (Met TakesLocal ∷ Met GivesLocal ∷ []) end h = (Met GivesLocal ∷ [], refl, (Over (Failed Station), inl refl, h))
here_back j source note acts end h = absurd h

locally_back : (j : Job) (source note : List ℕ) (acts : List Act) (end : End) → HerePart j source note acts end
    → From j (Locally source note) acts end
locally_back j source note acts end h = let b = here_back j source note acts end h in
    subst (λ (more : List Act). From j (Locally source note) more end) (sym b.1) (LentHere source note, refl, b.2)

or_back : (j : Job) (source note : List ℕ) (why : End) (acts : List Act) (end : End) → HereOr j source note why acts end
    → From j (or_here j source note why) acts end
or_back j source note why acts end h =
    elim h [
      | inl here ↦ subst (λ (b : Bool). From j (cond b (Locally source note) (Over why)) acts end) (sym here.0)
          (locally_back j source note acts end here.1)
      | inr not ↦ subst (λ (b : Bool). From j (cond b (Locally source note) (Over why)) acts end) (sym not.0)
          (over_back j why acts end not.1 not.2)
    ]

whole_back : (j : Job) (host : ℕ) (source note : List ℕ) (o : Outcome) (acts : List Act) (end : End)
    → WholeThen j host source note o acts end → From j (after_whole j host source note o) acts end
whole_back j host source note o acts end h =
    elim h [
      | inl ok ↦ subst (λ (at : At). From j at acts end) (sym (cond-true (nat_eq o.status 0) good other (eq-eqb o.status 0 ok.0)))
          (end_back j (Remote host) note o acts end ok.1)
      | inr bad ↦ elim bad [
        | inl here ↦ subst (λ (at : At). From j at acts end)
            (sym (cond-false (nat_eq o.status 0) good other (ne_eqb o.status 0 here.0)
            ∙ cond-true (j.config.fallback && j.config.retry) (Locally source note) done
            (and_from j.config.fallback j.config.retry here.1 here.2))) (locally_back j source note acts end here.3)
        | inr end' ↦ subst (λ (at : At). From j at acts end)
            (sym (cond-false (nat_eq o.status 0) good other (ne_eqb o.status 0 end'.0)
            ∙ cond-false (j.config.fallback && j.config.retry) (Locally source note) done
            (neither j.config.fallback j.config.retry end'.1)))
            (over_back j (Done o.status note o.err o.out (Remote host)) acts end end'.2 end'.3)
      ]
    ]
  where
    good : At
    good = Finish (Remote host) note o

    done : At
    done = Over (Done o.status note o.err o.out (Remote host))

    other : At
    other = cond (j.config.fallback && j.config.retry) (Locally source note) done

    neither : (a b : Bool) → (a ≡ false) ⊎ (b ≡ false) → (a && b) ≡ false
    neither a b e = elim e [ inl l ↦ and_left a b l | inr r ↦ and_right a b r ]

broken_back : (j : Job) (host : ℕ) (cause : Cause) (source note : List ℕ) (tried : List Tried) (acts : List Act) (end : End)
    → (SendPart j source note (tried_too host cause tried) acts end → From j (Send source note (tried_too host cause tried)) acts end)
    → BrokenThen j host cause source note tried acts end → From j (after_broken j host cause source note tried) acts end
broken_back j host cause source note tried acts end again h =
    elim h [
      | inl more ↦ subst (λ (b : Bool). From j
          (cond b (Send source note (tried_too host cause tried)) (or_here j source note (Failed (Broke host cause)))) acts end)
          (sym (lt-ltb (length tried + 1) j.config.tries more.0)) (again more.1)
      | inr last ↦ subst (λ (b : Bool). From j
          (cond b (Send source note (tried_too host cause tried)) (or_here j source note (Failed (Broke host cause)))) acts end)
          (sym (le-ltb (length tried + 1) j.config.tries last.0)) (or_back j source note (Failed (Broke host cause)) acts end last.1)
    ]

send_back : (j : Job) (source note : List ℕ) (acts : List Act) (tried : List Tried) (end : End)
    → SendPart j source note tried acts end → From j (Send source note tried) acts end
send_back j source note (Met FindsDown ∷ acts) tried end h =
    (or_here j source note (Failed (no_host tried)), (h.0, refl), or_back j source note (Failed (no_host tried)) acts end h.1)
send_back j source note (Met (Takes host) ∷ Did (ran x) ∷ Met (Gives k) ∷ acts) tried end h = (
  Lent host source note tried,
  (h.0.0, h.0.1, h.0.2, refl),
  (
    RanThere host note x.ran,
    (h.2, h.3, refl),
    (Finish Here note (outcome_of x.ran), (h.1, inl refl), end_back j Here note (outcome_of x.ran) acts end h.4),
  ),
)
send_back j source note (Met (Takes host) ∷ Met (Gives k) ∷ []) tried end h =
    (Lent host source note tried, (h.0.0, h.0.1, h.0.2, refl), (Over (Failed Station), (h.1, inl (h.2, refl)), h.3))
send_back j source note (Met (Takes host) ∷ Did (exchanged x) ∷ Met (Gives k) ∷ acts) tried end h =
    elim h.3 [
      | inl w ↦ (
        Lent host source note tried,
        (h.0.0, h.0.1, h.0.2, refl),
        (
          Sent host source note tried x,
          (h.2, w.1.begun, refl),
          (after_whole j host source note w.0, (h.1, inl (w.0, w.1, refl)), whole_back j host source note w.0 acts end w.2),
        ),
      )
      | inr b ↦ (
        Lent host source note tried,
        (h.0.0, h.0.1, h.0.2, refl),
        (
          Sent host source note tried x,
          (h.2, b.1.begun, refl),
          (
            after_broken j host b.0 source note tried,
            (h.1, inr (inl (b.0, b.1, b.2, refl))),
            broken_back j host b.0 source note
                tried acts end (λ p. send_back j source note acts (tried_too host b.0 tried) end p) b.3,
          ),
        ),
      )
    ]
send_back j source note (Met (Takes host) ∷ Did (exchanged x) ∷ Met (GivesBad k until) ∷ acts) tried end h =
    let b = h.3 in (
      Lent host source note tried,
      (h.0.0, h.0.1, h.0.2, refl),
      (
        Sent host source note tried x,
        (h.2, b.1.begun, refl),
        (
          after_broken j host b.0 source note tried,
          (h.1, h.2, (b.0, b.1, b.2, b.3, refl)),
          broken_back j host b.0 source note tried
              acts end (λ p. send_back j source note acts (tried_too host b.0 tried) end p) b.4,
        ),
      ),
    )
send_back j source note acts tried end h = absurd h

compile_part_back : (j : Job) (source note : List ℕ) (acts : List Act) (end : End) → CompilePart j source note acts end
    → From j (Send source note []) acts end
compile_part_back j source note acts end h =
    elim h [
      | inl here ↦ let b = here_back j source note acts end here.1 in
          subst (λ (more : List Act). From j (Send source note []) more end) (sym b.1) (LentHere source note, (here.0, refl), b.2)
      | inr send ↦ send_back j source note acts [] end send
    ]

pub back : (j : Job) (acts : List Act) (end : End) → Finished j acts end → Course j acts end
back j [] end h = inr h
back j (Met TakesLocal ∷ Did (ran x) ∷ Met GivesLocal ∷ []) end h =
    (LentInPlace, (h.0, refl), (RanInPlace x.ran, (h.1, refl), (Over (Done x.ran.status [] x.ran.err x.ran.out InPlace), inl refl, h.2)))
back j (Met TakesLocal ∷ Met GivesLocal ∷ []) end h = (LentInPlace, (h.0, refl), (Over (Failed Station), inl refl, h.1))
back j (Did (fetched x) ∷ acts) end h = (Send x.bytes [] [], (h.0, h.1, h.2, refl), compile_part_back j x.bytes [] acts end h.3)
back j (Did (ran x) ∷ acts) end h = (
  after_preprocessor x.ran,
  (h.0, h.1, h.2, refl),
  elim h.3 [
    | inl bad ↦ subst (λ (at : At). From j at acts end)
        (sym (cond-false (nat_eq x.ran.status 0) (Send x.ran.out x.ran.err []) (Over (Done x.ran.status [] x.ran.err [] Cpp))
        (ne_eqb x.ran.status 0 bad.0))) (over_back j (Done x.ran.status [] x.ran.err [] Cpp) acts end bad.1 bad.2)
    | inr ok ↦ subst (λ (at : At). From j at acts end)
        (sym (cond-true (nat_eq x.ran.status 0) (Send x.ran.out x.ran.err []) (Over (Done x.ran.status [] x.ran.err [] Cpp))
        (eq-eqb x.ran.status 0 ok.0))) (compile_part_back j x.ran.out x.ran.err acts end ok.1)
  ],
)
back j acts end h = absurd h

pub table : TableLaw
table j acts end whole = (forth j acts end whole, back j acts end)
