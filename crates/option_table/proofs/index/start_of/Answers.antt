use Rattle.std.proofs.Common.{rules, ltb}
use Rattle.std.proofs.lemmas.List.Sorted.{IsPartitionPoint-from_clause, IsPartitionedBy-ltb}
use Rattle.option_table.specs.Spans.{letter_at}
use Rattle.option_table.proofs.Sorting.{starts_at}
use Rattle.option_table.proofs.index.start_of.Goals as goal

pub returns : goal.returns
returns c =
    starts_at c.args.rows.now c.args.places.now c.args.letter _ c.partition_point-start.ensures.bound
    (IsPartitionPoint-from_clause (λ place. ltb (letter_at c.args.rows.now place) c.args.letter) c.args.places.now _
    c.partition_point-start.ensures.partitioned
    (IsPartitionedBy-ltb (letter_at c.args.rows.now) c.args.places.now c.args.letter c.requires.sorted) (λ a r q k. search rules))
