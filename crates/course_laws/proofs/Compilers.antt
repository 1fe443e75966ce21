-- What whole exchanges and puts are over honest peers.
use Rattle.std.proofs.Common.{◌≡◌, ◌⊎◌, inl, inr, ℕ, Bool, true, List, [], ◌∷◌, ◌++◌, refl, sym, ap, subst, ◌∙◌, eq-eqb}
use Rattle.std.specs.Prelude.{if◌then◌else◌, ◌==◌}
use Rattle.std.proofs.lemmas.List.{append-nil}
use Rattle.farm_types.specs.declared.placed.Word.{Word}
use Rattle.farm_types.specs.declared.ran.Ran.{Ran}
use Rattle.farm_types.specs.declared.ran.Outcome.{Outcome}
use Rattle.edge_traits.specs.declared.entries.Run.{Run}
use Rattle.edge_traits.specs.declared.entries.Exchange.{Exchange}
use Rattle.edge_traits.specs.Deeds.{ran, fetched, exchanged, put, timed}
use Rattle.wire_tokens.specs.Request.{SpellsRequest}
use Rattle.wire_tokens.proofs.Written.{request_written}
use Rattle.arg_strip.specs.Words.{placed_words, stripped}
use Rattle.arg_strip.proofs.Laws.{placed_again, stripped_is_remote}
use Rattle.farm_machine.specs.declared.reports.By.TheVariants.{Cpp, Remote, Here, InPlace}
use Rattle.farm_machine.specs.declared.reports.End.{End}
use Rattle.farm_machine.specs.declared.reports.End.TheVariants.{Done, Failed}
use Rattle.farm_machine.specs.Acts.{Act, Did, Met}
use Rattle.farm_machine.specs.Jobs.{Job, CanRequest, may_be_sent, compile_command, request_for}
use Rattle.farm_machine.specs.Course.{IsRunOf, IsWholeWith, Course, outcome_of}
use Rattle.farm_machine.specs.Table.{IsSource}
use Rattle.farm_machine.specs.Honest.{Programs, Peers, Compiles, object_of, AllRan, IsHonest}
use Rattle.course_laws.specs.Laws.{IsAmong}
use Rattle.course_laws.specs.Answers.{AllGiven, IsFullyHonestTo, FullyHonestLaw, WholeAnswerLaw, PutAnswerLaw, HasOutcome, IsAnswered}
use Rattle.course_laws.specs.Answers.{AreHonestFor, EndAnswerLaw}
use Rattle.course_laws.proofs.Puts.{puts-last, known-end, KnownEnd, IsCompiledEnd}

-- what a run of a compile answers: its object is left out where it failed
abbrev answer_of : Ran → Outcome
answer_of r = record { status = r.status; err = r.err; out = r.out; object = object_of r }

module _ (peers : Peers) (programs : Programs) where
  pub fully-honest : FullyHonestLaw peers programs
  fully-honest j honest source sent given o used = honest sent given (request_for j source) o used

  pub whole-answer : WholeAnswerLaw peers programs
  whole-answer j source x host o fits may whole honest =
      let spelled : SpellsRequest x.sent (request_for j source) =
      subst (λ (text : List ℕ). SpellsRequest text (request_for j source)) (sym whole.sent)
      (request_written (request_for j source) fits) in
      elim honest [
        | inl h ↦ h.0 x.sent x.given (request_for j source) o whole.used (may whole.dialed) spelled whole.spelled h.1
        | inr h ↦ h source x.sent x.given o whole.used (may whole.dialed) spelled whole.spelled
      ]

  given-among : (acts : List Act) (x : Exchange) → AllGiven peers acts → IsAmong (Did (exchanged x)) acts → x.dialed ≡ true
      → peers x.sent x.given
  given-among [] x all h = absurd h
  given-among (Did (exchanged y) ∷ acts) x all (inl e) = given-here e all.0
    where
      given-here : Did (exchanged y) ≡ Did (exchanged x) → (y.dialed ≡ true → peers y.sent y.given) → x.dialed ≡ true → peers x.sent x.given
      given-here e may = let same : y ≡ x = cc in subst (λ (z : Exchange). z.dialed ≡ true → peers z.sent z.given) same may
  given-among (Did (exchanged y) ∷ acts) x all (inr h) = given-among acts x all.1 h
  given-among (Did (ran y) ∷ acts) x all (inl e) = absurd cc
  given-among (Did (fetched y) ∷ acts) x all (inl e) = absurd cc
  given-among (Did (put y) ∷ acts) x all (inl e) = absurd cc
  given-among (Did (timed y) ∷ acts) x all (inl e) = absurd cc
  given-among (Met y ∷ acts) x all (inl e) = absurd cc
  given-among (Did (ran y) ∷ acts) x all (inr h) = given-among acts x all h
  given-among (Did (fetched y) ∷ acts) x all (inr h) = given-among acts x all h
  given-among (Did (put y) ∷ acts) x all (inr h) = given-among acts x all h
  given-among (Did (timed y) ∷ acts) x all (inr h) = given-among acts x all h
  given-among (Met y ∷ acts) x all (inr h) = given-among acts x all h

  ran-among : (acts : List Act) (x : Run) → AllRan programs acts → IsAmong (Did (ran x)) acts → programs x.words x.input x.ran
  ran-among [] x all h = absurd h
  ran-among (Did (ran y) ∷ acts) x all (inl e) = ran-here e all.0
    where
      ran-here : Did (ran y) ≡ Did (ran x) → programs y.words y.input y.ran → programs x.words x.input x.ran
      ran-here e may = let same : y ≡ x = cc in subst (λ (z : Run). programs z.words z.input z.ran) same may
  ran-among (Did (ran y) ∷ acts) x all (inr h) = ran-among acts x all.1 h
  ran-among (Did (exchanged y) ∷ acts) x all (inl e) = absurd cc
  ran-among (Did (fetched y) ∷ acts) x all (inl e) = absurd cc
  ran-among (Did (put y) ∷ acts) x all (inl e) = absurd cc
  ran-among (Did (timed y) ∷ acts) x all (inl e) = absurd cc
  ran-among (Met y ∷ acts) x all (inl e) = absurd cc
  ran-among (Did (exchanged y) ∷ acts) x all (inr h) = ran-among acts x all h
  ran-among (Did (fetched y) ∷ acts) x all (inr h) = ran-among acts x all h
  ran-among (Did (put y) ∷ acts) x all (inr h) = ran-among acts x all h
  ran-among (Did (timed y) ∷ acts) x all (inr h) = ran-among acts x all h
  ran-among (Met y ∷ acts) x all (inr h) = ran-among acts x all h

  -- a job that has a source may be sent
  sent-by-source : (j : Job) (acts more : List Act) (source : List ℕ) (end : End) → IsSource acts source
      → Course j (acts ++ more) end → may_be_sent j ≡ true
  sent-by-source j [] more source end h course = absurd h
  sent-by-source j (Did (fetched x) ∷ acts) more source end h (c, next, from) = next.0
  sent-by-source j (Did (ran x) ∷ acts) more source end h (c, next, from) = next.0
  sent-by-source j (a ∷ acts) more source end h course = absurd h

  object-is : (r : Ran) → r.status ≡ 0 → r.object ≡ object_of r
  object-is r zero_ = go (r.status == 0) (eq-eqb r.status 0 zero_)
    where
      go : (b : Bool) → b ≡ true → r.object ≡ (if b then r.object else [])
      go b e = subst (λ (t : Bool). r.object ≡ (if t then r.object else [])) (sym e) refl

  -- a run of the compile's words here is a compiler's
  here-answer : (j : Job) (source : List ℕ) (x : Run) (o : Outcome) → may_be_sent j ≡ true → IsRunOf x (compile_command j) source
      → programs x.words x.input x.ran
      → o ≡ outcome_of x.ran → o.status ≡ 0 → Compiles programs (request_for j source) o
  here-answer j source x o sent is may left well =
      let words : x.words ≡ placed_words (stripped j.words) = is.0 ∙ sym (placed_again j.words sent) in
      record {
        remote = stripped_is_remote j.words sent;
        run = x.ran;
        may = subst (λ (w : List Word). programs w source x.ran) words (subst (λ (input : List ℕ). programs x.words input x.ran) is.1 may);
        status = ap (λ (p : Outcome). p.status) left;
        err = ap (λ (p : Outcome). p.err) left;
        out = ap (λ (p : Outcome). p.out) left;
        object = ap (λ (p : Outcome). p.object) left ∙ object-is x.ran (sym (ap (λ (p : Outcome). p.status) left) ∙ well);
      }

  pub put-answer : PutAnswerLaw peers programs
  put-answer j before x rest end honest given left course =
      let p = puts-last j before x rest end course in
      let k = p.compiled in
      record {
        source = k.source;
        source_is = k.source_is;
        outcome = p.outcome;
        compiles = elim k.compile [
          | inl w ↦ whole-answer j k.source w.0 w.1 p.outcome w.3 (given-among before w.0 given w.2) w.4 (inl (honest, p.status))
          | inr r ↦ here-answer j k.source r.0 p.outcome
              (sent-by-source j before (Did (put x) ∷ rest) k.source end k.source_is course) r.2 (ran-among before r.0 left r.1) r.3
              p.status
        ];
        status = p.status;
        object = p.object;
      }

  -- a run of the compile's words here is a compiler's, with no object where it failed
  run-answer : (j : Job) (source : List ℕ) (x : Run) → may_be_sent j ≡ true → IsRunOf x (compile_command j) source
      → programs x.words x.input x.ran
      → Compiles programs (request_for j source) (answer_of x.ran)
  run-answer j source x sent is may =
      let words : x.words ≡ placed_words (stripped j.words) = is.0 ∙ sym (placed_again j.words sent) in
      record {
        remote = stripped_is_remote j.words sent;
        run = x.ran;
        may = subst (λ (w : List Word). programs w source x.ran) words (subst (λ (input : List ℕ). programs x.words input x.ran) is.1 may);
        status = refl;
        err = refl;
        out = refl;
        object = refl;
      }

  module _ (j : Job) (acts : List Act) (status : ℕ) (err out : List ℕ) (given : AllGiven peers acts) (left : AllRan programs acts)
      (k : IsCompiledEnd j acts status err out)
      (sent : (source : List ℕ) → IsSource acts source → may_be_sent j ≡ true) where
    by-run : (source : List ℕ) → IsSource acts source → (x : Run) → IsAmong (Did (ran x)) acts
        → IsRunOf x (compile_command j) source → k.outcome ≡ outcome_of x.ran → HasOutcome programs j acts status err out
    by-run source from x among is same = record {
      source = source;
      source_is = from;
      outcome = answer_of x.ran;
      compiles = run-answer j source x (sent source from) is (ran-among acts x left among);
      status_is = sym (ap (λ (o : Outcome). o.status) same) ∙ k.status_is;
      err_is = sym (ap (λ (o : Outcome). o.err) same) ∙ k.err_is;
      out_is = sym (ap (λ (o : Outcome). o.out) same) ∙ k.out_is;
      object = λ zero_.
          let p = k.object zero_ in (
            p.0,
            p.1,
            p.2 ∙ ap (λ (o : Outcome). o.object) same
                ∙ object-is x.ran (sym (ap (λ (o : Outcome). o.status) same) ∙ k.status_is ∙ zero_),
          );
    }

    by-host : (x : Exchange) (host : ℕ) → IsAmong (Did (exchanged x)) acts → CanRequest j k.compiled.source
        → IsWholeWith j x k.compiled.source host k.outcome
        → (IsHonest peers programs × (k.outcome.status ≡ 0)) ⊎ IsFullyHonestTo peers programs j → HasOutcome programs j acts status err out
    by-host x host among fits whole honest = record {
      source = k.compiled.source;
      source_is = k.compiled.source_is;
      outcome = k.outcome;
      compiles = whole-answer j k.compiled.source x host k.outcome fits (given-among acts x given among) whole honest;
      status_is = k.status_is;
      err_is = k.err_is;
      out_is = k.out_is;
      object = k.object;
    }

    has-outcome : AreHonestFor peers programs j → HasOutcome programs j acts status err out
    has-outcome honest = elim k.compiled.compile [
      | inl w ↦ elim honest [
        | inl h ↦ elim (k.whole h.1 h.2) [
          | inl zero_ ↦ by-host w.0 w.1 w.2 w.3 w.4 (inl (h.0, zero_))
          | inr here ↦ by-run here.source here.source_is here.run here.among here.is_run here.left
        ]
        | inr h ↦ by-host w.0 w.1 w.2 w.3 w.4 (inr h)
      ]
      | inr r ↦ by-run k.compiled.source k.compiled.source_is r.0 r.1 r.2 r.3
    ]

  pub end-answer : EndAnswerLaw peers programs
  end-answer j acts end honest given left course = go end (known-end j acts end course) course
    where
      sent-by : (e : End) → Course j acts e → (source : List ℕ) → IsSource acts source → may_be_sent j ≡ true
      sent-by e c source from = sent-by-source j acts [] source e from (subst (λ (xs : List Act). Course j xs e) (sym (append-nil acts)) c)

      go : (e : End) → KnownEnd j acts e → Course j acts e → IsAnswered programs j acts e
      go (Done status note err out (Remote host)) k c =
          has-outcome j acts status err out given left k (sent-by (Done status note err out (Remote host)) c) honest
      go (Done status note err out Here) k c =
          has-outcome j acts status err out given left k (sent-by (Done status note err out Here) c) honest
      go (Done status note err out Cpp) k c = tt
      go (Done status note err out InPlace) k c = tt
      go (Failed why) k c = tt
