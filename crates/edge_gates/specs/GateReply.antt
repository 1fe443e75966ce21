-- The one reply that the peers of a gate give.
use Rattle.std.specs.Prelude.{ℕ, List, codes}

-- a whole reply of status 0, without messages, whose object is a module with one definition
abbrev pub gate_reply : List ℕ
gate_reply = codes "DONE00000001STAT00000000SERR00000000SOUT00000000DOTO0000000dSCO1\ndef a 1\n"
