use Rattle.std.proofs.Common.{◌≡◌, ◌∷◌, ◌++◌, take}
use Rattle.std.specs.List.{flat_map}
use Rattle.farm_types.specs.Bytes.{double_quote}
use Rattle.job_list.specs.Prints.{byte_text}
use Rattle.job_list.proofs.printing.put_word.Given as goal

abbrev pub invariant-loop-byte : goal.invariant-loop-byte
invariant-loop-byte l = l.line ≡ l.fn.line ++ double_quote ∷ flat_map byte_text (take l.byte-index l.word)
