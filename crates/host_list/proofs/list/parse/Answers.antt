use Rattle.host_list.specs.HostLists.{HostListOf, HostFaultStands}
use Rattle.host_list.proofs.Answering.{gives_value, gives_fault}
use Rattle.host_list.proofs.Limits.{answer_within}
use Rattle.host_list.proofs.TextReading.{one_hosts, no_both, one_fault}
use Rattle.host_list.proofs.list.parse.Goals as goal

pub returns-clause-only_list : goal.returns-clause-only_list
returns-clause-only_list c hosts h =
    gives_value (HostListOf c.args.text.now) (HostFaultStands c.args.text.now) (no_both c.args.text.now) (one_hosts c.args.text.now)
    c.read_words.result hosts c.read_words.ensures.list c.read_words.ensures.fault h

pub returns-clause-only_fault : goal.returns-clause-only_fault
returns-clause-only_fault c at fault h =
    gives_fault (HostListOf c.args.text.now) (HostFaultStands c.args.text.now) (no_both c.args.text.now) (one_fault c.args.text.now)
    c.read_words.result at fault c.read_words.ensures.list c.read_words.ensures.fault h

pub returns-clause-within : goal.returns-clause-within
returns-clause-within c = answer_within c.args.text.now c.read_words.result c.read_words.ensures.list
