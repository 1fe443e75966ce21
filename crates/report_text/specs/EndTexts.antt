-- What the line of a job says of its end.
use Rattle.std.specs.Prelude.{ℕ, ◌+◌, List, [], ◌++◌, Option, Some, None, slice_get, codes}
use Rattle.std.specs.Fmt.{decimal}
use Rattle.farm_types.specs.declared.hosts.Host.{Host}
use Rattle.wire_tokens.specs.Token.{lower_digits}
use Rattle.wire_tokens.specs.Numbers.{reply_fault_number}
use Rattle.edge_traits.specs.declared.cause.Cause.{Cause}
use Rattle.edge_traits.specs.declared.cause.Cause.TheVariants.{Dial, Send, Recv, Truncated, BadReply, Stopped}
use Rattle.farm_machine.specs.declared.reports.By.{By}
use Rattle.farm_machine.specs.declared.reports.By.TheVariants.{Cpp, Remote, Here, InPlace}
use Rattle.farm_machine.specs.declared.reports.Why5.{Why5}
use Rattle.farm_machine.specs.declared.reports.Why5.TheVariants.{Station, Put, Broke, NoHost, Memory, Fetch}
use Rattle.farm_machine.specs.declared.reports.End.{End}
use Rattle.farm_machine.specs.declared.reports.End.TheVariants.{Done, Failed}

-- a wait status, as eight lower-case hexadecimal digits
abbrev pub status_text : ℕ → List ℕ
status_text status = lower_digits 8 status

-- an entry of the host list, by its name and port
abbrev pub host_text : Host → List ℕ
host_text host = host.name.text ++ codes ":" ++ decimal host.port

-- the entry at this place; of a place that the list doesn't have nothing is printed
abbrev pub entry_text : Option Host → List ℕ
entry_text None = []
entry_text (Some host) = host_text host

abbrev pub host_text_at : List Host → ℕ → List ℕ
host_text_at hosts at = entry_text (slice_get hosts at)

abbrev pub cause_text : Cause → List ℕ
cause_text Dial = codes "dial"
cause_text Send = codes "send"
cause_text Recv = codes "recv"
cause_text (Truncated have) = codes "cut " ++ decimal have
cause_text (BadReply at fault) = codes "reply " ++ decimal (reply_fault_number fault) ++ codes " at " ++ decimal at
cause_text Stopped = codes "stopped"

abbrev pub by_text : List Host → By → List ℕ
by_text hosts Cpp = codes "cpp"
by_text hosts (Remote at) = codes "remote " ++ host_text_at hosts at
by_text hosts Here = codes "here"
by_text hosts InPlace = codes "local"

abbrev pub why_text : List Host → Why5 → List ℕ
why_text hosts Station = codes "child"
why_text hosts Put = codes "put"
why_text hosts (Broke at cause) = host_text_at hosts at ++ codes " " ++ cause_text cause
why_text hosts NoHost = codes "no host"
why_text hosts Memory = codes "memory"
why_text hosts Fetch = codes "read"

abbrev pub end_text : List Host → End → List ℕ
end_text hosts (Done status note err out by) = by_text hosts by ++ codes " stat " ++ status_text status
end_text hosts (Failed why) = codes "failed " ++ why_text hosts why
