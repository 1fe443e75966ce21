use Rattle.option_table.proofs.Sorting.{more_starts}
use Rattle.option_table.proofs.index.spans.Goals as goal

pub loop-letter-preserved : goal.loop-letter-preserved
loop-letter-preserved c =
    more_starts c.args.rows.now c.args.places.now c.loop-letter.starts c.loop-letter.letter _ c.loop-letter-test.true
    c.loop-letter.invariant c.start_of.ensures
