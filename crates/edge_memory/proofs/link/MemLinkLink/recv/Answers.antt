use Rattle.std.proofs.Common.{◌≤◌, ◌+◌, length, arith, rules}
use Rattle.std.proofs.lemmas.Grind.{common_steps}
use Rattle.edge_memory.proofs.Scripts.{gives_more}
use Rattle.edge_memory.proofs.link.MemLinkLink.recv.Goals as goal

pub returns-else-count-eq0-clause-given : goal.returns-else-count-eq0-clause-given
returns-else-count-eq0-clause-given c =
    let fits : c.args.self.now.at + c.next_count-count.result ≤ length c.args.self.now.gives =
    grind (arith, common_steps, c.args.self.now.within) in
    gives_more c.args.self.now.gives c.put_front.new.room c.args.self.now.at c.next_count-count.result _ fits (search rules)
    c.put_front.ensures
