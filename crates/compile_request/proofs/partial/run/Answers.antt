use Rattle.std.proofs.Common.{ℕ, List, ◌++◌, take, subst, arith}
use Rattle.std.proofs.lemmas.List.{length-drop, take_rest}
use Rattle.wire_tokens.specs.Format.{Stands}
use Rattle.wire_tokens.specs.Request.{request_format, SpellsRequest}
use Rattle.compile_request.specs.Taking.{IsPlaced}
use Rattle.wire_tokens.proofs.PartialTokens.{join, join_all}
use Rattle.compile_request.proofs.partial.run.Goals as goal

pub loop-done-preserved : goal.loop-done-preserved
loop-done-preserved c =
    let s = rw take_rest at c.in-More.ensures.says in
    let i : ℕ = c.loop-done.done in
    record {
      within = omega (arith, s.0, length-drop i c.args.piece.now);
      holds = s.1;
      placed = λ text g. subst (IsPlaced c.take_some.new.p) (join text c.args.piece.now i c.in-More.taken)
          (s.2 (text ++ take i c.args.piece.now) (c.loop-done.invariant.placed text g));
    }

pub returns-in-Whole-clause-says : goal.returns-in-Whole-clause-says
returns-in-Whole-clause-says c =
    let s = rw take_rest at c.in-Whole.ensures.says in
    let i : ℕ = c.loop-done.done in (
      omega (arith, s.0, length-drop i c.args.piece.now),
      λ text g. subst (λ (x : List ℕ). SpellsRequest x c.in-Whole.request) (join text c.args.piece.now i c.in-Whole.taken)
          (s.1 (text ++ take i c.args.piece.now) (c.loop-done.invariant.placed text g)),
    )

pub returns-in-Bad-clause-says : goal.returns-in-Bad-clause-says
returns-in-Bad-clause-says c text g =
    let i : ℕ = c.loop-done.done in
    let s = rw take_rest at c.in-Bad.ensures.says in
    subst (λ (x : List ℕ). Stands request_format x c.in-Bad.at c.in-Bad.fault) (join_all text c.args.piece.now i)
    (s (text ++ take i c.args.piece.now) (c.loop-done.invariant.placed text g))
