-- What an error of an accept says of the listener, by Linux's number.
use Rattle.std.specs.Prelude.{ℕ, ◌==◌, ◌∷◌, [], List, if◌then◌else◌}
use Rattle.std.specs.List.{list_any}
use Rattle.edge_sockets.specs.declared.accepting.Trouble.{Trouble}
use Rattle.edge_sockets.specs.declared.accepting.Trouble.TheVariants.{Passed, Want, Lasting}

-- the connection had failed by then: ENONET, EPROTO, ENOPROTOOPT, EOPNOTSUPP, ENETDOWN, ENETUNREACH, EHOSTDOWN, EHOSTUNREACH
abbrev pub passing : List ℕ
passing = 64 ∷ 71 ∷ 92 ∷ 95 ∷ 100 ∷ 101 ∷ 112 ∷ 113 ∷ []

-- the system wants something: ENOMEM, ENFILE, EMFILE, ENOBUFS
abbrev pub wanting : List ℕ
wanting = 12 ∷ 23 ∷ 24 ∷ 105 ∷ []

abbrev pub trouble_by : ℕ → Trouble
trouble_by code = if list_any (λ one. one == code) passing then Passed else if list_any (λ one. one == code) wanting then Want else Lasting
