use Rattle.std.proofs.Common.{◌≡◌, ℕ, ◌-◌, false, List, ◌++◌, take, Result, Ok, Err, refl, sym, ap, ◌∙◌, append_assoc, arith}
use Rattle.std.specs.Prelude.{OnOk}
use Rattle.std.specs.Result.{is_err}
use Rattle.reply_stream.specs.declared.partial.Partial.{Partial}
use Rattle.reply_stream.specs.Taking.{keeps}
use Rattle.reply_stream.proofs.Bytewise.{in_body, placed_more, finished, uncounted}
use Rattle.reply_stream.proofs.partial.body_bytes.Goals as goal

ok_gives : {T E P : Type 0} (r : Result T E) → is_err r ≡ false → OnOk r P → P
ok_gives (Ok x) e h = h
ok_gives (Err d) e h = absurd cc

pub returns-clause-says : goal.returns-clause-says
returns-clause-says c =
    let p : Partial = c.args.p.now in
    let taken : ℕ = c.min-taken.result in
    let mid : Partial = record p { body = c.try_extend.new.self; left = p.left - taken } in
    let m = c.min-taken.ensures in
    let b = in_body p c.requires.holds c.requires.in_body in
    let none = uncounted p.part p.body p.given p.left c.requires.in_body c.requires.kept b.kept in
    let more = ok_gives c.try_extend.result (sym c.is_err.ensures.value ∙ c.if-is_err.false) c.try_extend.ensures.ok in
    finished keeps p mid c.finish.new.p c.args.piece.now taken c.finish.result (omega arith)
    (λ text object g. placed_more p mid (take taken c.args.piece.now) refl
    (ap (λ (x : List ℕ). p.token ++ x) more ∙ sym (append_assoc p.token p.body (take taken c.args.piece.now))) none none text object g)
    c.finish.ensures.finishes
