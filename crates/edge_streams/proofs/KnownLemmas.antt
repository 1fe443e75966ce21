-- Bytes that a stream is known to have, over several calls.
use Rattle.std.proofs.Common.{ℕ, List, None, Some, ◌++◌, ◌∙◌, sym, ap, Option}
use Rattle.std.specs.Io.KnownBytes.{Keeps, Appends, Consumes}
use Rattle.std.proofs.KnownBytes.{Keeps-refl, Keeps-trans}

-- bytes that stayed and then grew
pub kept-Appends : (a b c : Option (List ℕ)) (bs : List ℕ) → Keeps a b → Appends b c bs → Appends a c bs
kept-Appends None b c bs kept more = tt
kept-Appends (Some x) None c bs kept more = absurd kept
kept-Appends (Some x) (Some y) None bs kept more = absurd more
kept-Appends (Some x) (Some y) (Some z) bs kept more = more ∙ ap (λ l. l ++ bs) kept

-- bytes that stayed and were then read
pub kept-Consumes : (a b c : Option (List ℕ)) (bs : List ℕ) → Keeps a b → Consumes b c bs → Consumes a c bs
kept-Consumes None b c bs kept less = tt
kept-Consumes (Some x) None c bs kept less = absurd kept
kept-Consumes (Some x) (Some y) None bs kept less = absurd less
kept-Consumes (Some x) (Some y) (Some z) bs kept less = sym kept ∙ less

pub ruleset kept_bytes = (Keeps-refl, Keeps-trans, kept-Appends, kept-Consumes)
