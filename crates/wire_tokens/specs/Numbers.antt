-- The numbers of the faults in printed text (docs/wire.md, "Faults").
use Rattle.std.specs.Prelude.{ℕ}
use Rattle.wire_tokens.specs.declared.faults.RequestFault.{RequestFault}
use Rattle.wire_tokens.specs.declared.faults.RequestFault.TheVariants.{WrongName, BadDigit, BadVersion, Count, TooLarge}
use Rattle.wire_tokens.specs.declared.faults.ReplyFault.{ReplyFault}
use Rattle.wire_tokens.specs.declared.faults.ReplyFault.TheVariants.{WrongName as ReplyWrongName, BadDigit as ReplyBadDigit}
use Rattle.wire_tokens.specs.declared.faults.ReplyFault.TheVariants.{BadVersion as ReplyBadVersion, TooLarge as ReplyTooLarge}
use Rattle.wire_tokens.specs.declared.faults.ReplyFault.TheVariants.{ObjectWithFailure}

abbrev pub request_fault_number : RequestFault → ℕ
request_fault_number WrongName = 1
request_fault_number BadDigit = 2
request_fault_number (BadVersion n) = 3
request_fault_number (Count n) = 4
request_fault_number (TooLarge which len) = 5

-- 4 is a fault of requests only
abbrev pub reply_fault_number : ReplyFault → ℕ
reply_fault_number ReplyWrongName = 1
reply_fault_number ReplyBadDigit = 2
reply_fault_number (ReplyBadVersion n) = 3
reply_fault_number (ReplyTooLarge which len) = 5
reply_fault_number (ObjectWithFailure status len) = 6
