-- A service answers in one way.
use Rattle.std.proofs.Common.{◌≡◌, ℕ, ◌≤◌, ◌⊎◌, inl, inr, List, length, true, false, refl, sym, ◌∙◌, ap, arith}
use Rattle.farm_types.specs.declared.request.Request.{Request}
use Rattle.wire_tokens.specs.declared.faults.RequestFault.{RequestFault}
use Rattle.wire_tokens.specs.Request.{BeginsRequest, RequestFaultStands, IsShortRequest}
use Rattle.wire_tokens.proofs.RequestLaws.{one_fault, spelled_or_fault}
use Rattle.edge_traits.specs.declared.entries.Run.{Run}
use Rattle.edge_traits.specs.declared.entries.Visit.{Visit}
use Rattle.edge_traits.specs.Causes.{Rose}
use Rattle.edge_traits.specs.Stations.{StationView}
use Rattle.daemon_service.specs.declared.compilers.Compiler.{Compiler}
use Rattle.daemon_service.specs.declared.served.Served.{Served}
use Rattle.daemon_service.specs.declared.served.Served.TheVariants.{Answered, Refused, Cut, LinkFault, Stopped, StationFault, Memory}
use Rattle.daemon_service.specs.Replies.{ServiceAnswer, unknown, not_one_source, compiled}
use Rattle.daemon_service.specs.Services.{IsAsked, WroteNothing, WrotePart, ServedAs, EndsBy, IsAnswered, LinkCause, StationCause}
use Rattle.farm_types.specs.declared.ran.Outcome.{Outcome}

either : {A B : Type 0} → A ⊎ B → (A → ⊥) → (B → ⊥) → ⊥
either (inl a) no_a no_b = no_a a
either (inr b) no_a no_b = no_b b

pub whole : (table : List Compiler) (served : Served) (runs : List Run) (x : Visit) (used : ℕ) (q : Request) (old now : ℕ)
    (before after : StationView)
    → ServedAs table served runs x → EndsBy served x → LinkCause served old now → StationCause served before after
    → BeginsRequest x.given used q → (Rose old now → ⊥) → (Rose before.faults after.faults → ⊥) → (Rose before.overruns after.overruns → ⊥)
    → x.stopped ≡ false → IsAnswered served ⊎ (served ≡ Memory)
whole table (Answered status) runs x used q old now before after is ends link station begins no_link no_fault no_overrun going = inl tt
whole table (Refused at fault) runs x used q old now before after is ends link station begins no_link no_fault no_overrun going =
    absurd (spelled_or_fault x.given used at q fault begins is.0)
whole table (Cut have) runs x used q old now before after is ends link station begins no_link no_fault no_overrun going =
    absurd (is.0.no_value used q begins)
whole table LinkFault runs x used q old now before after is ends link station begins no_link no_fault no_overrun going =
    absurd (no_link link)
whole table Stopped runs x used q old now before after is ends link station begins no_link no_fault no_overrun going =
    absurd (cc ends.stopped)
whole table StationFault runs x used q old now before after is ends link station begins no_link no_fault no_overrun going =
    absurd (either station no_fault no_overrun)
whole table Memory runs x used q old now before after is ends link station begins no_link no_fault no_overrun going = inr refl

asked_or_fault : (table : List Compiler) (given : List ℕ) (runs : List Run) (o : Outcome) (at : ℕ) (fault : RequestFault)
    → IsAsked table given runs o → RequestFaultStands given at fault → ⊥
asked_or_fault table given runs o at fault asked stands = spelled_or_fault given asked.used at asked.q fault asked.spelled stands

unread_or_asked : (table : List Compiler) (runs : List Run) (x : Visit) (at : ℕ) (fault : RequestFault)
    → ((IsShortRequest x.given × WroteNothing runs x) ⊎ WrotePart table runs x) → RequestFaultStands x.given at fault → ⊥
unread_or_asked table runs x at fault (inl unread) stands = unread.0.no_fault at fault stands
unread_or_asked table runs x at fault (inr part) stands = asked_or_fault table x.given runs part.o at fault part.asked stands

pub refused : (table : List Compiler) (served : Served) (runs : List Run) (x : Visit) (at : ℕ) (fault : RequestFault)
    → ServedAs table served runs x → RequestFaultStands x.given at fault → (served ≡ Refused at fault) ⊎ (served ≡ Memory)
refused table (Answered status) runs x at f is stands = absurd (asked_or_fault table x.given runs is.o at f is.asked stands)
refused table (Refused place found) runs x at f is stands =
    let one = one_fault x.given place at found f is.0 stands in
    inl (ap (λ n. Refused n found) one.0 ∙ ap (λ g. Refused at g) one.1)
refused table (Cut have) runs x at f is stands = absurd (is.0.no_fault at f stands)
refused table LinkFault runs x at f is stands = absurd (unread_or_asked table runs x at f is.1 stands)
refused table Stopped runs x at f is stands = absurd (asked_or_fault table x.given runs is.o at f is.asked stands)
refused table StationFault runs x at f is stands = absurd (spelled_or_fault x.given is.0.0 at is.0.1 f is.0.2 stands)
refused table Memory runs x at f is stands = inr refl

asked_or_short : (table : List Compiler) (given : List ℕ) (runs : List Run) (o : Outcome) → IsAsked table given runs o
    → IsShortRequest given → ⊥
asked_or_short table given runs o asked short = short.no_value asked.used asked.q asked.spelled

pub short : (table : List Compiler) (served : Served) (runs : List Run) (x : Visit) (old now : ℕ)
    → ServedAs table served runs x → LinkCause served old now → IsShortRequest x.given → (Rose old now → ⊥)
    → (served ≡ Cut (length x.given)) ⊎ (served ≡ Memory)
short table (Answered status) runs x old now is link less no_link = absurd (asked_or_short table x.given runs is.o is.asked less)
short table (Refused at fault) runs x old now is link less no_link = absurd (less.no_fault at fault is.0)
short table (Cut have) runs x old now is link less no_link = inl (ap Cut (sym is.1))
short table LinkFault runs x old now is link less no_link = absurd (no_link link)
short table Stopped runs x old now is link less no_link = absurd (asked_or_short table x.given runs is.o is.asked less)
short table StationFault runs x old now is link less no_link = absurd (less.no_value is.0.0 is.0.1 is.0.2)
short table Memory runs x old now is link less no_link = inr refl

pub end : (table : List Compiler) (served : Served) (runs : List Run) (x : Visit) → ServedAs table served runs x → EndsBy served x
    → x.ended ≡ true → served ≡ Cut (length x.given)
end table (Answered status) runs x is ends ended = absurd (cc ends.ended)
end table (Refused place found) runs x is ends ended = absurd (cc ends.ended)
end table (Cut have) runs x is ends ended = ap Cut (sym is.1)
end table LinkFault runs x is ends ended = absurd (cc ends.ended)
end table Stopped runs x is ends ended = absurd (cc ends.ended)
end table StationFault runs x is ends ended = absurd (cc ends.ended)
end table Memory runs x is ends ended = absurd (cc ends.ended)

one_answer : (table : List Compiler) (q : Request) (runs : List Run) (o : Outcome) → ServiceAnswer table q runs o → length runs ≤ 1
one_answer table q runs o (unknown is) = omega (arith, ap length is.no_run)
one_answer table q runs o (not_one_source is) = omega (arith, ap length is.no_run)
one_answer table q runs o (compiled is) = omega (arith, ap length is.one_run)

unread_or_part : (table : List Compiler) (runs : List Run) (x : Visit)
    → ((IsShortRequest x.given × WroteNothing runs x) ⊎ WrotePart table runs x) → length runs ≤ 1
unread_or_part table runs x (inl unread) = omega (arith, ap length unread.1.no_run)
unread_or_part table runs x (inr part) = one_answer table part.asked.q runs part.o part.asked.answers.answer

pub one_run : (table : List Compiler) (served : Served) (runs : List Run) (x : Visit) → ServedAs table served runs x → length runs ≤ 1
one_run table (Answered status) runs x is = one_answer table is.asked.q runs is.o is.asked.answers.answer
one_run table (Refused at found) runs x is = omega (arith, ap length is.1.no_run)
one_run table (Cut have) runs x is = omega (arith, ap length is.2.no_run)
one_run table LinkFault runs x is = unread_or_part table runs x is.1
one_run table Stopped runs x is = one_answer table is.asked.q runs is.o is.asked.answers.answer
one_run table StationFault runs x is = omega (arith, ap length is.1.no_run)
one_run table Memory runs x (inl nothing) = omega (arith, ap length nothing.no_run)
one_run table Memory runs x (inr part) = one_answer table part.asked.q runs part.o part.asked.answers.answer
