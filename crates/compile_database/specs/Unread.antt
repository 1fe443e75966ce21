-- Why the words of an entry weren't read.
use Rattle.std.specs.Prelude.{◌≡◌, ℕ, List, Result, Err}
use Rattle.compile_database.specs.declared.entry.NoWords.{NoWords}
use Rattle.compile_database.specs.declared.entry.Unread.{Unread}
use Rattle.compile_database.specs.declared.entry.Unread.TheVariants.{Reason, Memory}

-- it is the reason that was read, or memory ran out
abbrev pub IsUnread : Result (List (List ℕ)) NoWords → Unread → Type 0
IsUnread read (Reason reason) = read ≡ Err reason
IsUnread read Memory = Unit {0}
