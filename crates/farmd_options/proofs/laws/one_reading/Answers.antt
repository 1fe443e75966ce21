use Rattle.farmd_options.proofs.Meaning.{once, same_rules, right_numbers, right_rules}
use Rattle.farmd_options.proofs.laws.one_reading.Goals as goal

pub returns : goal.returns
returns c = record { once = once; rules = same_rules; within = right_numbers; right = right_rules }
