use Rattle.host_list.specs.HostWords.{HostWord, WordFault}
use Rattle.host_list.proofs.Answering.{gives_value, gives_fault}
use Rattle.host_list.proofs.WordReading.{one_meaning, no_both, one_fault}
use Rattle.host_list.proofs.word.read_word.Goals as goal

pub returns-clause-only_meaning : goal.returns-clause-only_meaning
returns-clause-only_meaning c meaning h =
    gives_value (HostWord c.args.word.now) (WordFault c.args.word.now) (no_both c.args.word.now) (one_meaning c.args.word.now)
    c.read_by_rule.result meaning c.read_by_rule.ensures.meaning c.read_by_rule.ensures.fault h

pub returns-clause-only_fault : goal.returns-clause-only_fault
returns-clause-only_fault c at fault h =
    gives_fault (HostWord c.args.word.now) (WordFault c.args.word.now) (no_both c.args.word.now) (one_fault c.args.word.now)
    c.read_by_rule.result at fault c.read_by_rule.ensures.meaning c.read_by_rule.ensures.fault h
