-- A caller that holds one grant, and gives it back.
use Rattle.std.proofs.Common.{◌≡◌, ℕ, true, List, [], ◌∷◌, Option, ap, ◌∙◌}
use Rattle.slot_table.specs.History.{Holding, holding, has, without}
use Rattle.slot_table.proofs.Rounds.{without-first, has-first}

pub has-single : (n caller job : ℕ) (host : Option ℕ) (out : List Holding) → n ≡ caller → out ≡ holding caller job host ∷ []
    → has (holding n job host) out ≡ true
has-single n caller job host out number one = ap (λ m. has (holding m job host) out) number ∙ ap (has (holding caller job host)) one
    ∙ has-first (holding caller job host) []

pub without-single : (n caller job : ℕ) (host : Option ℕ) (out : List Holding) → n ≡ caller → out ≡ holding caller job host ∷ []
    → without (holding n job host) out ≡ []
without-single n caller job host out number one = ap (λ m. without (holding m job host) out) number
    ∙ ap (without (holding caller job host)) one ∙ without-first (holding caller job host) []
