use Rattle.compile_database.specs.Programs.{whole_input, long_input, broken_input, unread}
use Rattle.compile_database.proofs.Listed.{listed_by}
use Rattle.compile_database.proofs.program.list_input.Goals as goal

pub returns-in-Ok-Whole : goal.returns-in-Ok-Whole
returns-in-Ok-Whole g c = let read = (rw c.in-Ok-Whole.field-0-is at c.in-Ok-Whole.ensures.read) in
    whole_input c.in-Ok-Whole.text read.0 read.1 (listed_by c.as_slice.ensures c.list.ensures)

pub returns-in-Ok-TooLong : goal.returns-in-Ok-TooLong
returns-in-Ok-TooLong g c = long_input (rw c.in-Ok-TooLong.field-0-is at c.in-Ok-TooLong.ensures.read) c.complain.ensures

pub returns-in-Ok-Unread : goal.returns-in-Ok-Unread
returns-in-Ok-Unread g c = broken_input (rw c.in-Ok-Unread.field-0-is at c.in-Ok-Unread.ensures.read) c.complain-in-Ok-Unread.ensures

pub returns-in-Err : goal.returns-in-Err
returns-in-Err g c = unread c.read_input.ensures.some c.in-Err.ensures.memory c.no_memory.ensures
