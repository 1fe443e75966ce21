-- From a request that was sent whole over a new link, and what was then given, to the entry of an exchange.
use Rattle.std.proofs.Common.{◌≡◌, ℕ, ◌<◌, true, false, List, [], ◌++◌, refl, ◌∙◌, ap, sym, arith}
use Rattle.std.specs.Prelude.{Result, Ok, Err}
use Rattle.std.proofs.lemmas.List.{append-nil}
use Rattle.farm_types.specs.declared.request.Request.{Request}
use Rattle.farm_types.specs.declared.hosts.Host.{Host}
use Rattle.farm_types.specs.declared.ran.Outcome.{Outcome}
use Rattle.edge_traits.specs.declared.cause.Cause.TheVariants.{Dial, Send, Recv, Truncated, BadReply, Stopped}
use Rattle.edge_traits.specs.Told.{Grew}
use Rattle.edge_traits.specs.Causes.{Rose, Still}
use Rattle.edge_traits.specs.Links.{LinkView, IsNew}
use Rattle.edge_traits.specs.Sends.{SentPart, SendStops}
use Rattle.edge_traits.specs.declared.sending.SendFault.{SendFault}
use Rattle.edge_traits.specs.declared.sending.SendFault.TheVariants as sends
use Rattle.edge_traits.specs.Exchanges.{IsBegun, CutRequest}
use Rattle.edge_traits.proofs.ToldLemmas.{Grew-join, Grew-still}
use Rattle.remote_transfer.specs.declared.answers.Attempt.{Attempt}
use Rattle.remote_transfer.specs.declared.answers.Attempt.TheVariants as attempts
use Rattle.remote_transfer.specs.declared.answers.Stop.{Stop}
use Rattle.remote_transfer.specs.declared.answers.Stop.TheVariants.{Broke, Memory}
use Rattle.remote_transfer.specs.Answers.{answer_of, stop_of}
use Rattle.remote_transfer.specs.Attempts.{ExchangeIs, EndsBy}
use Rattle.remote_transfer.specs.Links.{ReplyIs, Given, IsFor, entry_of, Passed}

rose_above_none : (before now : ℕ) → Rose before now → 0 < now
rose_above_none before now rose = omega (arith, rose)

failed_not : true ≡ false → (faults : ℕ) → faults ≡ 0
failed_not unlike faults = absurd (cc)

-- what an attempt says of what passed over its link
abbrev pub Says : Request → Host → Attempt → LinkView → LinkView → Type 0
Says q h answer old new = Passed old new (λ x. ExchangeIs q h answer x × EndsBy answer x)

module _ (q : Request) (h : Host) (text : List ℕ) (old new : LinkView) (is_for : IsFor q h text old) (fresh : IsNew old)
    (origin : new.origin ≡ old.origin) where
  begun : (sent unsent given : List ℕ) → text ≡ sent ++ unsent → IsBegun (entry_of new sent given) q h
  begun sent unsent given parts = record {
    host = ap (λ o. o.host) origin ∙ is_for.host;
    port = ap (λ o. o.port) origin ∙ is_for.port;
    unsent = unsent;
    prefix = sym is_for.spelled ∙ parts;
  }

  -- what passed, by what was sent and given
  passed : (answer : Attempt) (sent given : List ℕ) → Grew old.sent new.sent sent → Grew old.given new.given given
      → ExchangeIs q h answer (entry_of new sent given) → EndsBy answer (entry_of new sent given) → Says q h answer old new
  passed answer sent given grew_sent grew_given is ends =
      record { sent = sent; given = given; grew_sent = grew_sent; grew_given = grew_given; is = (is, ends) }

  part_begun : (part : SentPart text old.sent new.sent) → IsBegun (entry_of new part.sent []) q h
  part_begun part = begun part.sent part.unsent [] part.parts

  part_cut : (part : SentPart text old.sent new.sent) → CutRequest (entry_of new part.sent []) q
  part_cut part = record {
    dialed = refl;
    unsent = part.unsent;
    prefix = sym is_for.spelled ∙ part.parts;
    proper = part.proper;
    given = refl;
  }

  -- the text was not sent whole
  pub not_sent : (fault : SendFault) → SentPart text old.sent new.sent → SendStops old new fault → Grew old.given new.given []
      → new.ended ≡ old.ended
      → Says q h (answer_of (Err (stop_of fault))) old new
  not_sent sends.Failed part stops none ended =
      passed (attempts.Broke Send) part.sent [] part.grew none
      (record { begun = part_begun part; shown = (part_cut part, rose_above_none _ _ stops.0) })
      (record { ended = ended ∙ fresh.ended; stopped = stops.1 ∙ fresh.stopped; faults = λ unlike. failed_not unlike _ })
  not_sent sends.Stopped part stops none ended =
      passed (attempts.Broke Stopped) part.sent [] part.grew none (record { begun = part_begun part; shown = (part_cut part, stops.0) })
      (record { ended = ended ∙ fresh.ended; stopped = stops.0; faults = λ none. stops.1 ∙ fresh.faults })
  not_sent sends.Memory part stops none ended =
      passed (attempts.Memory true) part.sent [] part.grew none (part_begun part, refl)
      (record { ended = ended ∙ fresh.ended; stopped = stops.0 ∙ fresh.stopped; faults = λ none. stops.1 ∙ fresh.faults })

  -- the whole text was sent, and then these bytes were given
  module _ (mid : LinkView) (sent : Grew old.sent mid.sent text) (no_more : Grew mid.sent new.sent []) (none : Grew old.given mid.given [])
      (running : mid.stopped ≡ old.stopped) (stopped : new.stopped ≡ mid.stopped) (open_still : mid.ended ≡ old.ended)
      (calm : Still old.faults mid.faults) where
    whole_passed : (answer : Attempt) (bytes : List ℕ) → Grew mid.given new.given bytes → ExchangeIs q h answer (entry_of new text bytes)
        → EndsBy answer (entry_of new text bytes) → Says q h answer old new
    whole_passed answer bytes grew = passed answer text bytes (Grew-still sent no_more) (Grew-join none grew refl)

    whole_begun : (bytes : List ℕ) → IsBegun (entry_of new text bytes) q h
    whole_begun bytes = begun text [] bytes (sym (append-nil text))

    never_stopped : new.stopped ≡ false
    never_stopped = stopped ∙ running ∙ fresh.stopped

    never_failed : Still mid.faults new.faults → new.faults ≡ 0
    never_failed still = still ∙ calm ∙ fresh.faults

    never_ended : new.ended ≡ mid.ended → new.ended ≡ false
    never_ended same = same ∙ open_still ∙ fresh.ended

    pub replied : (result : Result Outcome Stop) → Given (ReplyIs result mid new) mid.given new.given → Says q h (answer_of result) old new
    replied (Ok outcome) given =
        whole_passed (attempts.Whole outcome) given.bytes given.grew
        (record {
          begun = whole_begun given.bytes;
          dialed = refl;
          sent = is_for.spelled;
          used = given.is.0.0;
          spelled = given.is.0.1;
        })
        (record { ended = never_ended given.is.1; stopped = never_stopped; faults = λ none. never_failed given.is.2 })
    replied (Err (Broke Dial)) given = absurd given.is
    replied (Err (Broke Send)) given = absurd given.is
    replied (Err (Broke Recv)) given =
        whole_passed (attempts.Broke Recv) given.bytes given.grew
        (record {
          begun = whole_begun given.bytes;
          shown = (record { sent = is_for.spelled; short = given.is.0 }, rose_above_none _ _ given.is.1);
        })
        (record { ended = never_ended given.is.2; stopped = never_stopped; faults = λ unlike. failed_not unlike _ })
    replied (Err (Broke (Truncated have))) given =
        whole_passed (attempts.Broke (Truncated have)) given.bytes given.grew
        (record {
          begun = whole_begun given.bytes;
          shown = (record { sent = is_for.spelled; short = given.is.0 }, given.is.1, given.is.2);
        })
        (record { ended = given.is.2; stopped = never_stopped; faults = λ none. never_failed given.is.3 })
    replied (Err (Broke (BadReply at fault))) given =
        whole_passed (attempts.Broke (BadReply at fault)) given.bytes given.grew
        (record { begun = whole_begun given.bytes; shown = (is_for.spelled, given.is.0) })
        (record { ended = never_ended given.is.1; stopped = never_stopped; faults = λ none. never_failed given.is.2 })
    replied (Err (Broke Stopped)) given = absurd given.is
    replied (Err Memory) given =
        whole_passed (attempts.Memory true) given.bytes given.grew (whole_begun given.bytes, refl)
        (record { ended = never_ended given.is.0; stopped = never_stopped; faults = λ none. never_failed given.is.1 })
