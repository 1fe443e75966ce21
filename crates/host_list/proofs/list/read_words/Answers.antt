use Rattle.std.proofs.Common.{◌+◌, length, subst, sym, arith}
use Rattle.host_list.specs.Steps.{ReadsUpTo}
use Rattle.host_list.proofs.Reading.{reads_none, reads_more, reads_all, reads_error}
use Rattle.std.proofs.lemmas.Result.{err_from_is_err_and}
use Rattle.host_list.proofs.list.read_words.Goals as goal

pub loop-word-init : goal.loop-word-init
loop-word-init c = record {
  within = omega arith;
  read = subst (ReadsUpTo c.args.text.now 0) (sym c.no_hosts-hosts.ensures) (reads_none c.args.text.now);
}

pub returns-in_err-take_word-clause-fault : goal.returns-in_err-take_word-clause-fault
returns-in_err-take_word-clause-fault c =
    let p = err_from_is_err_and c.from_residual.result c.from_residual.ensures.1 in
    rw (p.1, p.2) (reads_error c.args.text.now c.loop-word.from c.loop-word.hosts _ _ c.in_err-take_word.field-0.0
    c.loop-word.invariant.read c.in-Some.ensures.some c.in_err-take_word.ensures.fault)

pub loop-word-preserved : goal.loop-word-preserved
loop-word-preserved c = let t = c.in_ok-take_word.ensures.taken in record {
  within = c.in-Some.ensures.within;
  read = reads_more c.args.text.now c.loop-word.from (c.in-Some.word.at + length c.in-Some.word.bytes.now) c.loop-word.hosts
      c.take_word.new.hosts (record { at = c.in-Some.word.at; bytes = c.in-Some.word.bytes.now }) c.loop-word.invariant.read
      c.in-Some.ensures.some t;
}

pub returns-clause-list : goal.returns-clause-list
returns-clause-list c = reads_all c.args.text.now c.loop-word.from c.loop-word.hosts c.loop-word.invariant.read c.in_default.ensures.none
