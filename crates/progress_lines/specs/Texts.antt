-- The text in the room of a line.
use Rattle.std.specs.Prelude.{ℕ, List, take}
use Rattle.progress_lines.specs.declared.room.LineText.{LineText}

abbrev pub text_of : LineText → List ℕ
text_of t = take t.len t.bytes
