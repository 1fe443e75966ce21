use Rattle.std.proofs.Common.{◌≡◌, string_bytes, Global}
use Rattle.desk_service.proofs.Turns.{Serving}
use Rattle.desk_service.proofs.serving.serve.Given as goal

abbrev pub invariant-loop : goal.invariant-loop
invariant-loop g l = record {
  rules : l.desk.rules ≡ l.fn.desk.rules;
  serving : Serving l.fn.desk.rules (string_bytes l.greetings.token) l.fn.desk.state l.desk.state
      (g.C.Callers.log l.fn.callers) (g.C.Callers.log l.callers) l.due;
}
