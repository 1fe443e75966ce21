use Rattle.std.proofs.Common.{◌++◌}
use Rattle.daemon_program.specs.Texts.{log_text}
use Rattle.daemon_program.specs.Sharing.{shares_text}
use Rattle.daemon_program.proofs.Telling.{part_wanted}
use Rattle.daemon_program.proofs.share_printing.print_shared.Goals as goal

pub returns-in-Err-Memory : goal.returns-in-Err-Memory
returns-in-Err-Memory g c =
    let one = c.args.shared.now in
    let ended = rw c.in-Err-Memory.field-0-is at c.in-Err-Memory.ensures in
    part_wanted (log_text one.log ++ shares_text one.counts.items one.stats) c.args.status (g.O.Sink.shows c.args.out.now)
    (g.O.Sink.shows c.print_all.new.out) (g.O.Sink.shows c.want_memory.new.out) c.want_memory.result
    ended.0 ended.1 c.want_memory.ensures
