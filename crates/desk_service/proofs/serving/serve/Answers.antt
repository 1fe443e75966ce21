use Rattle.std.proofs.Common.{string_bytes, ap, ◌∙◌}
use Rattle.desk_service.proofs.Turns.{heard-next, looked-next, served, serving-as}
use Rattle.desk_service.proofs.serving.serve.Goals as goal
use Rattle.desk_service.proofs.serving.serve.Goals.{then-due, else-due+in-Some}

pub returns-in-None-clause-served : goal.returns-in-None-clause-served
returns-in-None-clause-served g c =
    served c.args.desk.now.rules (string_bytes c.args.greetings.now.token) c.args.desk.now.state c.hear.new.desk.state
    (g.C.Callers.log c.args.callers.now) (g.C.Callers.log c.hear.new.callers) _
    (heard-next c.args.desk.now.rules c.loop.desk.rules (string_bytes c.args.greetings.now.token) c.args.desk.now.state
    c.loop.desk.state c.hear.new.desk.state (g.C.Callers.log c.args.callers.now) (g.C.Callers.log c.loop.callers)
    (g.C.Callers.log c.hear.new.callers) c.loop.due c.loop.invariant.serving c.loop.invariant.rules c.if-due.false
    c.hear.ensures.heard.0 c.hear.ensures.heard.1)

pub loop-preserved : goal.loop-preserved
loop-preserved g c = elim c.if-due.branch [
  | then-due w ↦ record {
    rules = ap (λ d. d.rules) w.desk-is ∙ w.look-due.ensures.rules ∙ c.loop.invariant.rules;
    serving = serving-as c.args.desk.now.rules (string_bytes c.args.greetings.now.token) c.args.desk.now.state
        w.look-due.new.desk.state c.if-due.desk.state (g.C.Callers.log c.args.callers.now) (g.C.Callers.log w.look-due.new.callers)
        (g.C.Callers.log c.if-due.callers) w.look-due.result c.if-due.due
        (looked-next c.args.desk.now.rules c.loop.desk.rules (string_bytes c.args.greetings.now.token) c.args.desk.now.state
        c.loop.desk.state w.look-due.new.desk.state (g.C.Callers.log c.args.callers.now) (g.C.Callers.log c.loop.callers)
        (g.C.Callers.log w.look-due.new.callers) c.loop.due w.look-due.result c.loop.now c.loop.invariant.serving
        c.loop.invariant.rules (w.look-due.ensures.looked (string_bytes c.args.greetings.now.token))
        (w.look-due.ensures.due (string_bytes c.args.greetings.now.token)))
        (ap (λ d. d.state) w.desk-is) (ap g.C.Callers.log w.callers-is) w.due-is;
  }
  | else-due+in-Some w ↦ record {
    rules = ap (λ d. d.rules) w.desk-is ∙ w.hear.ensures.rules ∙ c.loop.invariant.rules;
    serving = serving-as c.args.desk.now.rules (string_bytes c.args.greetings.now.token) c.args.desk.now.state w.hear.new.desk.state
        c.if-due.desk.state (g.C.Callers.log c.args.callers.now) (g.C.Callers.log w.hear.new.callers)
        (g.C.Callers.log c.if-due.callers) _ c.if-due.due
        (heard-next c.args.desk.now.rules c.loop.desk.rules (string_bytes c.args.greetings.now.token) c.args.desk.now.state
        c.loop.desk.state w.hear.new.desk.state (g.C.Callers.log c.args.callers.now) (g.C.Callers.log c.loop.callers)
        (g.C.Callers.log w.hear.new.callers) c.loop.due c.loop.invariant.serving c.loop.invariant.rules w.if-due.false
        w.hear.ensures.heard.0 w.hear.ensures.heard.1)
        (ap (λ d. d.state) w.desk-is) (ap g.C.Callers.log w.callers-is) w.due-is;
  }
]

pub returns-clause-served : goal.returns-clause-served
returns-clause-served g c =
    served c.args.desk.now.rules (string_bytes c.args.greetings.now.token) c.args.desk.now.state c.loop.desk.state
    (g.C.Callers.log c.args.callers.now) (g.C.Callers.log c.loop.callers) c.loop.due c.loop.invariant.serving
