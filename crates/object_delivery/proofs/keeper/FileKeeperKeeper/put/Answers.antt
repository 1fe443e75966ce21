use Rattle.std.proofs.Common.{[], refl, sym, subst, arith}
use Rattle.std.proofs.lemmas.List.{nil_from_length}
use Rattle.std.proofs.lemmas.Grind.{common_steps}
use Rattle.std.proofs.lemmas.Result.{err_from_is_err_and}
use Rattle.object_delivery.proofs.Delivering.{Written, written-none, written-more, put-ok, put-dropped, put-err}
use Rattle.object_delivery.proofs.keeper.FileKeeperKeeper.put.Goals.{then-not-is_empty+in_ok-add, else-not-is_empty}
use Rattle.object_delivery.proofs.keeper.FileKeeperKeeper.put.Given
use Rattle.object_delivery.proofs.keeper.FileKeeperKeeper.put.Goals as goal

written : (g : Given.Over) (c : goal.After-commit g) → Written (g.F.Files.shows c.args.self.now.files)
    (g.F.Files.shows c.if-not-is_empty.self.files) c.if-not-is_empty.self.pending c.args.path.now c.args.bytes.now
written g c =
    let b = c.in_ok-begin.ensures in elim c.if-not-is_empty.branch [
      | then-not-is_empty+in_ok-add w ↦
          let a = w.in_ok-add.ensures in
          subst (λ self. Written (g.F.Files.shows c.args.self.now.files) (g.F.Files.shows self.files) self.pending c.args.path.now
          c.args.bytes.now) (sym w.self-is)
          (written-more (g.F.Files.shows c.args.self.now.files) (g.F.Files.shows c.begin.new.self.files)
          (g.F.Files.shows w.add.new.self.files) c.begin.new.self.pending w.add.new.self.pending c.args.path.now
          c.args.bytes.now (written-none (g.F.Files.shows c.args.self.now.files) (g.F.Files.shows c.begin.new.self.files)
          c.begin.new.self.pending c.args.path.now [] refl b.ok b.cause.later b.pending) (a.ok c.args.path.now b.pending)
          a.cause.later a.pending)
      | else-not-is_empty w ↦
          subst (λ self. Written (g.F.Files.shows c.args.self.now.files) (g.F.Files.shows self.files) self.pending c.args.path.now
          c.args.bytes.now) (sym w.self-is)
          (written-none (g.F.Files.shows c.args.self.now.files) (g.F.Files.shows c.begin.new.self.files) c.begin.new.self.pending
          c.args.path.now c.args.bytes.now (nil_from_length c.args.bytes.now (grind (arith, common_steps))) b.ok b.cause.later
          b.pending)
    ]

pub returns-clause-ok : goal.returns-clause-ok
returns-clause-ok g c =
    let mid = written g c in
    put-ok (g.F.Files.shows c.args.self.now.files) (g.F.Files.shows c.if-not-is_empty.self.files)
    (g.F.Files.shows c.commit.new.self.files) c.if-not-is_empty.self.pending c.args.path.now c.args.bytes.now c.commit.result
    mid (c.commit.ensures.ok c.args.path.now mid.waits)

pub returns-clause-err : goal.returns-clause-err
returns-clause-err g c =
    let mid = written g c in
    put-err (g.F.Files.shows c.args.self.now.files) (g.F.Files.shows c.if-not-is_empty.self.files)
    (g.F.Files.shows c.commit.new.self.files) c.if-not-is_empty.self.pending c.args.path.now c.args.bytes.now c.commit.result
    mid (c.commit.ensures.err c.args.path.now mid.waits)

pub returns-in_err-add-clause-err : goal.returns-in_err-add-clause-err
returns-in_err-add-clause-err g c =
    let b = c.in_ok-begin.ensures in
    let w : Written (g.F.Files.shows c.args.self.now.files) (g.F.Files.shows c.begin.new.self.files) c.begin.new.self.pending
    c.args.path.now [] = written-none (g.F.Files.shows c.args.self.now.files) (g.F.Files.shows c.begin.new.self.files)
    c.begin.new.self.pending c.args.path.now [] refl b.ok b.cause.later b.pending in
    let e = c.in_err-add.ensures.err c.args.path.now b.pending in
    let p = err_from_is_err_and c.from_residual-in_err-add.result c.from_residual-in_err-add.ensures.1 in
    rw (p.1, p.2) (put-dropped (g.F.Files.shows c.args.self.now.files) (g.F.Files.shows c.begin.new.self.files)
    (g.F.Files.shows c.add.new.self.files) c.begin.new.self.pending c.args.path.now [] c.in_err-add.field-0.0 w e)
