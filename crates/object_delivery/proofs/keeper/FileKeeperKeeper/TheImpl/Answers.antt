use Rattle.std.proofs.Common.{rules, ap, arith}
use Rattle.object_delivery.proofs.Delivering.{begin-pending, begin-idle, begin-files, add-pending, add-idle, add-files, commit-idle}
use Rattle.object_delivery.proofs.Delivering.{abandon-files, put-files}
use Rattle.object_delivery.proofs.keeper.FileKeeperKeeper.TheImpl.Goals as goal

pub begin-tells : goal.begin-tells
begin-tells g c = record {
  begun = begin-pending (g.F.Files.shows c.args.self.now.files) (g.F.Files.shows c.new.self.now.files) c.args.path.now
      c.args.self.now.pending c.new.self.now.pending c.result c.ensures.pending c.ensures.ok;
  idle = begin-idle (g.F.Files.shows c.new.self.now.files) c.args.path.now c.new.self.now.pending c.result c.ensures.pending;
  files = begin-files (g.F.Files.shows c.args.self.now.files) (g.F.Files.shows c.new.self.now.files) c.args.path.now
      c.args.self.now.pending c.new.self.now.pending c.result c.ensures.ok c.ensures.err;
  puts = search rules;
  fetches = search rules;
  overruns = omega (arith, c.ensures.overruns);
  cause = c.ensures.cause;
}

pub add-tells : goal.add-tells
add-tells g c = record {
  added = add-pending (g.F.Files.shows c.args.self.now.files) (g.F.Files.shows c.new.self.now.files) c.args.self.now.pending
      c.new.self.now.pending c.args.piece.now c.result c.ensures.pending c.ensures.ok;
  idle = add-idle (g.F.Files.shows c.new.self.now.files) c.args.self.now.pending c.new.self.now.pending c.result c.ensures.pending;
  files = add-files (g.F.Files.shows c.args.self.now.files) (g.F.Files.shows c.new.self.now.files) c.args.self.now.pending
      c.new.self.now.pending c.args.piece.now c.result c.requires.pending c.ensures.ok c.ensures.err;
  puts = search rules;
  fetches = search rules;
  overruns = omega (arith, c.ensures.overruns);
  cause = c.ensures.cause;
}

pub abandon-tells : goal.abandon-tells
abandon-tells g c = record {
  idle = commit-idle (g.F.Files.shows c.new.self.now.files) c.new.self.now.pending c.ensures.pending;
  files = abandon-files (g.F.Files.shows c.args.self.now.files) (g.F.Files.shows c.new.self.now.files) c.args.self.now.pending
      c.new.self.now.pending c.ensures.dropped (λ none. ap (λ k. g.F.Files.shows k.files) (c.ensures.idle none));
  puts = search rules;
  fetches = search rules;
  faults = c.ensures.faults;
  removal = c.ensures.removal;
  overruns = omega (arith, c.ensures.overruns);
}

pub put-tells : goal.put-tells
put-tells g c = record {
  files = put-files (g.F.Files.shows c.args.self.now.files) (g.F.Files.shows c.new.self.now.files) c.args.self.now.pending
      c.new.self.now.pending c.args.path.now c.args.bytes.now c.result c.requires.name c.ensures.ok c.ensures.err;
  puts = search rules;
  idle = commit-idle (g.F.Files.shows c.new.self.now.files) c.new.self.now.pending c.ensures.pending;
  fetches = search rules;
  overruns = omega (arith, c.ensures.overruns);
  cause = c.ensures.cause;
}
