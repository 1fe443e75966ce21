use Rattle.std.proofs.Common.{ap, ◌∙◌}
use Rattle.sample_compiler.proofs.GatherLemmas.{gathers_more, front_of}
use Rattle.sample_compiler.specs.Meanings.{meanings}
use Rattle.sample_compiler.proofs.task.gather.Goals as goal

pub reading-preserved : goal.reading-preserved
reading-preserved c =
    let more = c.in_ok-add.ensures in
    gathers_more c.reading.gathered c.add.new.gathered c.in_ok-first.first.meaning (meanings c.reading.rest.now)
    (meanings c.in_ok-first.first.left.now) (meanings c.args.words.now)
    (ap meanings (front_of c.reading.rest.now c.word-item.result c.in-len1-up.len_at_least c.word-item.is) ∙ c.in_ok-first.ensures.meaning)
    c.reading.invariant
    (record {
      commands = more.commands;
      inputs = more.inputs;
      outputs = more.outputs;
      dirs = more.dirs;
      defines = more.defines;
      lacking = more.lacking;
    })
