use Rattle.wire_tokens.proofs.Lengths.{length-reply_text, longest_short_reply}
use Rattle.wire_tokens.proofs.Written.{reply_written}
use Rattle.wire_tokens.proofs.ReplyLaws as laws
use Rattle.wire_tokens.proofs.laws.one_reading_of_replies.Goals as goal

pub returns : goal.returns
returns c = record {
  spellings = record {
    one_spelling = laws.one_value;
    one_value = laws.one_meaning;
    no_proper_prefix = laws.no_longer_spelling;
  };
  written = reply_written;
  read_again = laws.written_again;
  faults = record { one_fault = laws.one_fault; longer = laws.fault_longer };
  kinds = record {
    one_of_three = laws.one_of_three;
    spelled_or_fault = laws.spelled_or_fault;
    spelled_or_short = λ text used v b s. s.no_value used v b;
    fault_or_short = λ text at fault t s. s.no_fault at fault t;
  };
  len = length-reply_text;
  short_texts = record {
    empty = laws.empty_is_short;
    cut = laws.cut_is_short;
    short = laws.short_len;
    longest = longest_short_reply;
  };
}
