use Rattle.std.proofs.Common.{ℕ, ◌+◌, ◌-◌, List, get_or, take, drop, sym, subst, arith}
use Rattle.host_list.specs.HostWords.{SpellsParts}
use Rattle.host_list.proofs.PartLemmas.{adds}
use Rattle.host_list.proofs.Ranges.{split_at, range_more, length-range}
use Rattle.host_list.proofs.parts.read_parts.Goals as goal

pub returns-in-Err-clause-fault : goal.returns-in-Err-clause-fault
returns-in-Err-clause-fault c =
    let word : List ℕ = c.args.word.now in
    let from : ℕ = c.args.from in
    let at : ℕ = c.loop-at.at in
    let end : ℕ = c.part_end-end.result in
    let long = length-range word from at c.loop-at.invariant.low c.loop-at.invariant.high in
    record {
      port = c.loop-at.parts.port;
      limit = c.loop-at.parts.limit;
      parts = take (at - from) (drop from word);
      separator = get_or word at 0;
      number = take (end - (at + 1)) (drop (at + 1) word);
      rest = drop end word;
      split = split_at word from at end c.loop-at.invariant.low (omega arith) c.part_end-end.ensures.high;
      right = c.loop-at.invariant.right;
      plain = c.part_end-end.ensures.plain;
      ends = c.part_end-end.ensures.ends;
      wrong = c.in-Err.ensures.wrong;
      place = omega arith;
    }

pub loop-at-preserved : goal.loop-at-preserved
loop-at-preserved c =
    let word : List ℕ = c.args.word.now in
    let from : ℕ = c.args.from in
    let at : ℕ = c.loop-at.at in
    let end : ℕ = c.part_end-end.result in
    let more = range_more word from at end c.loop-at.invariant.low (omega arith) c.part_end-end.ensures.high in
    let added = adds c.loop-at.parts c.in-Ok.more (get_or word at 0) (take (end - (at + 1)) (drop (at + 1) word))
    (take (at - from) (drop from word)) c.in-Ok.ensures.adds c.loop-at.invariant.right in
    record {
      low = omega arith;
      high = c.part_end-end.ensures.high;
      ends = c.part_end-end.ensures.ends;
      right = subst (SpellsParts c.in-Ok.more.port c.in-Ok.more.limit) (sym more) added;
    }
