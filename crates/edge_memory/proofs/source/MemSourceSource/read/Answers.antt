use Rattle.std.proofs.Common.{◌≤◌, ◌+◌, length, arith, rules}
use Rattle.std.proofs.lemmas.Grind.{common_steps}
use Rattle.edge_memory.proofs.Scripts.{gives_more, leaves_less}
use Rattle.edge_memory.proofs.source.MemSourceSource.read.Goals as goal

pub returns-else-count-eq0-clause-read : goal.returns-else-count-eq0-clause-read
returns-else-count-eq0-clause-read c =
    let fits : c.args.self.now.at + c.min-count.result ≤ length c.args.self.now.text =
    grind (arith, common_steps, c.args.self.now.within) in
    gives_more c.args.self.now.text c.put_front.new.room c.args.self.now.at c.min-count.result _ fits (search rules) c.put_front.ensures

pub returns-else-count-eq0-clause-left : goal.returns-else-count-eq0-clause-left
returns-else-count-eq0-clause-left c =
    let fits : c.args.self.now.at + c.min-count.result ≤ length c.args.self.now.text =
    grind (arith, common_steps, c.args.self.now.within) in
    leaves_less c.args.self.now.text c.put_front.new.room c.args.self.now.at c.min-count.result _ fits (search rules) c.put_front.ensures
