-- Whether a station was called.
use Rattle.std.proofs.Common.{◌≡◌, ℕ, List, inl, inr, sym, ◌∙◌, ap, subst}
use Rattle.std.specs.Prelude.{Some, Result, Ok, Err}
use Rattle.farm_types.specs.declared.placed.Word.{Word}
use Rattle.farm_types.specs.declared.request.Request.{Request}
use Rattle.farm_types.specs.declared.ran.Ran.{Ran}
use Rattle.farm_types.specs.declared.ran.Outcome.{Outcome}
use Rattle.edge_traits.specs.declared.faults.Bounds.{Bounds}
use Rattle.edge_traits.specs.declared.faults.StationFault.{StationFault as RunStop}
use Rattle.edge_traits.specs.Links.{LinkView}
use Rattle.edge_traits.specs.Stations.{StationView}
use Rattle.wire_tokens.specs.Request.{BeginsRequest}
use Rattle.arg_scan.specs.Class.{IsRemote}
use Rattle.daemon_service.specs.declared.compilers.Compiler.{Compiler}
use Rattle.daemon_service.specs.declared.served.Served.{Served}
use Rattle.daemon_service.specs.declared.served.Served.TheVariants.{Answered, Refused, Cut, LinkFault, Stopped, StationFault, Memory}
use Rattle.daemon_service.specs.Replies.{program_of, first_word, sent_outcome}
use Rattle.daemon_service.specs.Parts.{RequestIs, Made, Replied}
use Rattle.daemon_service.specs.Calls.{IsUncompiled, IsEnded, IsRefused, Tries, Asks, unasked, asked, Calls, uncalled, called}

module _ {S : Type 0} (goes : S → List Word → List ℕ → Bounds → Result Ran RunStop → S → Type 0) (table : List Compiler)
    (before after : S) where
  -- no request was read
  pub unread_calls : (served : Served) (old new : LinkView) (given : List ℕ) → after ≡ before → RequestIs (Err served) old new given
      → Calls goes table before after served
  unread_calls (Answered status) old new given same is = absurd is
  unread_calls (Refused at fault) old new given same is = uncalled same tt
  unread_calls (Cut have) old new given same is = uncalled same tt
  unread_calls LinkFault old new given same is = uncalled same tt
  unread_calls Stopped old new given same is = uncalled same tt
  unread_calls StationFault old new given same is = uncalled same tt
  unread_calls Memory old new given same is = uncalled same tt

  -- a run that was tried, and its outcome
  pub tried_ok : (q : Request) (program : List ℕ) (ran : Ran) (o : Outcome) (ended : Result Ran RunStop) → ended ≡ Ok ran
      → IsRemote q.words → program_of table (first_word q.words) ≡ Some program
      → Tries goes program q before after ended → o ≡ sent_outcome ran → Asks goes table q before after (Ok o)
  tried_ok q program ran o ended is remote named (inl none) made = absurd (cc (is, none.1))
  tried_ok q program ran o ended is remote named (inr went) made = asked program ended remote named went (ran, is, made)

  pub tried_err : (q : Request) (program : List ℕ) (served : Served) (ended : Result Ran RunStop) → IsRemote q.words
      → program_of table (first_word q.words) ≡ Some program
      → Tries goes program q before after ended → Asks goes table q before after (Err served)
  tried_err q program served ended remote named (inl none) = unasked none.0 tt
  tried_err q program served ended remote named (inr went) = asked program ended remote named went tt

  -- the answer to a request whose outcome was made
  answered_refused : (text : List ℕ) (status : ℕ) (old new : LinkView) (answer : Served) → Replied text status old new answer
      → IsRefused status → IsUncompiled answer
  answered_refused text status old new (Answered said) done is = subst IsRefused (sym done.0) is
  answered_refused text status old new (Refused at fault) done is = tt
  answered_refused text status old new (Cut have) done is = tt
  answered_refused text status old new LinkFault done is = tt
  answered_refused text status old new Stopped done is = tt
  answered_refused text status old new StationFault done is = tt
  answered_refused text status old new Memory done is = tt

  answered_ended : (text : List ℕ) (status : ℕ) (old new : LinkView) (answer : Served) (ran : Ran) (ended : Result Ran RunStop)
      → Replied text status old new answer → ended ≡ Ok ran → ran.status ≡ status → IsEnded ended answer
  answered_ended text status old new (Answered said) ran ended done is same = (ran, is, same ∙ sym done.0)
  answered_ended text status old new (Refused at fault) ran ended done is same = (ran, is)
  answered_ended text status old new (Cut have) ran ended done is same = (ran, is)
  answered_ended text status old new LinkFault ran ended done is same = (ran, is)
  answered_ended text status old new Stopped ran ended done is same = (ran, is)
  answered_ended text status old new StationFault ran ended done is same = tt
  answered_ended text status old new Memory ran ended done is same = tt

  pub replied_calls : (q : Request) (o : Outcome) (given : List ℕ) (used : ℕ) (text : List ℕ) (old new : LinkView) (answer : Served)
      → BeginsRequest given used q → Asks goes table q before after (Ok o)
      → Replied text o.status old new answer → Calls goes table before after answer
  replied_calls q o given used text old new answer begins (unasked same is) done =
      uncalled same (answered_refused text o.status old new answer done is)
  replied_calls q o given used text old new answer begins (asked program ended remote named went made) done =
      called q program ended begins.spelled.fits remote named went
      (answered_ended text o.status old new answer made.0 ended done made.1 (sym (ap (λ p. p.status) made.2)))

  -- an answer of which no outcome was made
  pub unmade_calls : (q : Request) (given : List ℕ) (used : ℕ) (served : Served) → BeginsRequest given used q
      → (ran : List Word → List ℕ → Ran → Type 0) (old now : StationView) → Made table ran old now q (Err served)
      → Asks goes table q before after (Err served) → Calls goes table before after served
  unmade_calls q given used (Answered status) begins ran old now made asks = absurd made.is
  unmade_calls q given used (Refused at fault) begins ran old now made asks = absurd made.is
  unmade_calls q given used (Cut have) begins ran old now made asks = absurd made.is
  unmade_calls q given used LinkFault begins ran old now made asks = absurd made.is
  unmade_calls q given used Stopped begins ran old now made asks = absurd made.is
  unmade_calls q given used StationFault begins ran old now made (unasked same is) = uncalled same tt
  unmade_calls q given used StationFault begins ran old now made (asked program ended remote named went is) =
      called q program ended begins.spelled.fits remote named went tt
  unmade_calls q given used Memory begins ran old now made (unasked same is) = uncalled same tt
  unmade_calls q given used Memory begins ran old now made (asked program ended remote named went is) =
      called q program ended begins.spelled.fits remote named went tt
