use Rattle.std.proofs.Common.{rules, sym, ◌∙◌, arith}
use Rattle.option_table.proofs.Sorting.{all_places, sorted_by_keys}
use Rattle.option_table.proofs.index.sorted_places.Goals as goal

pub returns-clause-all : goal.returns-clause-all
returns-clause-all g c =
    all_places c.args.rows.now c.listed_places-places.result c.sort_unstable_by.new.self
    (c.listed_places-places.ensures.len ∙ sym c.type_inv.rows)
    (λ k within. c.listed_places-places.ensures.each k (omega (arith, c.type_inv.rows))) c.sort_unstable_by.ensures.permutation

pub returns-clause-sorted : goal.returns-clause-sorted
returns-clause-sorted g c =
    sorted_by_keys c.args.rows.now c.sort_unstable_by.new.self c.sort_unstable_by.ensures.sorted (λ a r q k. search rules)
