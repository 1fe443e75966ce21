-- What `farmd` prints (docs/daemon.md).
use Rattle.std.specs.Prelude.{ℕ, suc, List, [], ◌∷◌, ◌++◌, codes, Option, Some, None}
use Rattle.std.specs.Fmt.{decimal}
use Rattle.std.specs.List.{flat_map}
use Rattle.stream_print.specs.Notices.{no_memory_notice}
use Rattle.wire_tokens.specs.Numbers.{request_fault_number}
use Rattle.wire_tokens.specs.Token.{lower_digits}
use Rattle.daemon_service.specs.declared.served.Served.{Served}
use Rattle.daemon_service.specs.declared.served.Served.TheVariants as served
use Rattle.daemon_worker.specs.declared.log.Met.{Met}
use Rattle.daemon_worker.specs.declared.log.Met.TheVariants as met
use Rattle.daemon_worker.specs.declared.log.Entry.{Entry}
use Rattle.object_cache.specs.declared.book.Stats.{Stats}

-- the status is a wait status, as eight lower-case hexadecimal digits
abbrev pub served_text : Served → List ℕ
served_text (served.Answered status) = codes "answered " ++ lower_digits 8 status
served_text (served.Refused at fault) = codes "refused " ++ decimal (request_fault_number fault) ++ codes " at " ++ decimal at
served_text (served.Cut have) = codes "cut " ++ decimal have
served_text served.LinkFault = codes "link fault"
served_text served.Stopped = codes "stopped"
served_text served.StationFault = codes "child fault"
served_text served.Memory = codes "no memory"

abbrev pub rule_text : Option ℕ → List ℕ
rule_text None = codes "no rule"
rule_text (Some number) = codes "rule " ++ decimal number

abbrev pub what_text : Met → List ℕ
what_text (met.Served what) = served_text what
what_text (met.Denied addr rule) = codes "denied by " ++ rule_text rule
what_text met.DoorFault = codes "door fault"
what_text met.DoorMemory = codes "no memory"

-- one line for an entry of the log
abbrev pub line_text : Entry → List ℕ
line_text entry = codes "door " ++ decimal entry.door ++ codes " conn " ++ decimal entry.number ++ codes " " ++ what_text entry.what
    ++ codes "\n"

abbrev pub log_text : List Entry → List ℕ
log_text entries = flat_map line_text entries

-- one line for the book of a door
abbrev pub book_line : ℕ → Stats → List ℕ
book_line door stats =
    codes "cache door " ++ decimal door ++ codes " hits " ++ decimal stats.hits ++ codes " misses " ++ decimal stats.misses
    ++ codes " unkept " ++ decimal stats.unkept ++ codes " bytes " ++ decimal stats.bytes ++ codes "\n"

-- the lines of the books, of doors whose numbers go on from this one
abbrev pub books_text : ℕ → List Stats → List ℕ
books_text door [] = []
books_text door (stats ∷ more) = book_line door stats ++ books_text (suc door) more

abbrev pub bad_words_text : ℕ → List ℕ
bad_words_text place = codes "farmd: bad words at word " ++ decimal place ++ codes "\n"

abbrev pub no_memory_text : List ℕ
no_memory_text = no_memory_notice (codes "farmd")
