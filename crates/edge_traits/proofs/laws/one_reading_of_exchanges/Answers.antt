use Rattle.edge_traits.proofs.ExchangeLaws.{one_outcome, whole_or_broken}
use Rattle.edge_traits.proofs.laws.one_reading_of_exchanges.Goals as goal

pub returns : goal.returns
returns c = record { one_outcome = one_outcome; whole_or_broken = whole_or_broken }
