use Rattle.std.proofs.Common.{ℕ, List, ◌++◌, subst, arith}
use Rattle.std.proofs.lemmas.List.{take_all}
use Rattle.wire_tokens.specs.Request.{RequestFaultStands}
use Rattle.wire_tokens.proofs.RequestLaws.{fault_longer}
use Rattle.compile_request.specs.declared.reader.State.{State}
use Rattle.compile_request.specs.Taking.{IsPlaced}
use Rattle.compile_request.specs.Reader.{IsAt, place_of}
use Rattle.compile_request.proofs.Pieces.{short_there, spelled_begins}
use Rattle.compile_request.proofs.reader.feed_state.Goals as goal

pub returns-in-More-clause-says : goal.returns-in-More-clause-says
returns-in-More-clause-says c text g =
    let r = c.in-More.ensures in
    let all = take_all c.in-More.taken c.args.piece.now (omega (arith, r.all)) in
    let there : IsPlaced c.in-Reading.partial text = subst (λ (s : State). IsAt (place_of s) text) c.in-Reading.is g in
    let placed = subst (λ (x : List ℕ). IsPlaced c.run.new.p (text ++ x)) all (r.says.2 text there) in
    short_there c.run.new.p r.says.1 (text ++ c.args.piece.now) placed

pub returns-in-Whole-clause-says : goal.returns-in-Whole-clause-says
returns-in-Whole-clause-says c text g =
    let r = c.in-Whole.ensures in
    let there : IsPlaced c.in-Reading.partial text = subst (λ (s : State). IsAt (place_of s) text) c.in-Reading.is g in
    (r.says.0, spelled_begins text c.args.piece.now c.in-Whole.taken c.in-Whole.request r.says.0 (r.says.1 text there))

pub returns-in-Refused-clause-says : goal.returns-in-Refused-clause-says
returns-in-Refused-clause-says c text g =
    let there : RequestFaultStands text c.in-Refused.at c.in-Refused.fault =
    subst (λ (s : State). IsAt (place_of s) text) c.in-Refused.is g in
    fault_longer text c.args.piece.now c.in-Refused.at c.in-Refused.fault there
