-- Parts of a host behind its name.
use Rattle.std.proofs.Common.{◌≡◌, ℕ, ◌+◌, ◌<◌, true, List, ◌∷◌, ◌++◌, length, get_or, drop, Option, Some, None, refl, ap, sym, subst}
use Rattle.std.proofs.Common.{inl, inr, ⊎_elim}
use Rattle.std.proofs.lemmas.List.{drop_more}
use Rattle.host_list.specs.declared.parts.Parts.{Parts}
use Rattle.host_list.specs.Names.{IsPort, IsLimit}
use Rattle.host_list.specs.HostWords.{is_separator, EndsPart, SpellsParts}
use Rattle.host_list.specs.Steps.{AddsPart}

separator_first : (xs : List ℕ) (c : ℕ) (cs : List ℕ) → xs ≡ c ∷ cs → EndsPart xs → is_separator c ≡ true
separator_first xs c cs e h = subst EndsPart e h

pub separator_at : (xs : List ℕ) (i : ℕ) → i < length xs → EndsPart (drop i xs) → is_separator (get_or xs i 0) ≡ true
separator_at xs i lt h = separator_first (drop i xs) (get_or xs i 0) (drop (i + 1) xs) (drop_more xs i 0 lt) h

pub adds_port : (port : ℕ) (limit : Option ℕ) (parts number : List ℕ) → SpellsParts None limit parts → IsPort number port
    → SpellsParts (Some port) limit (parts ++ (58 ∷ number))
adds_port port None parts number none is_port = (number, is_port, ap (λ t. t ++ (58 ∷ number)) none)
adds_port port (Some limit) parts number one is_port = (parts, 58 ∷ number, refl, inr (one, (number, is_port, refl)))

pub adds_limit : (port : Option ℕ) (limit : ℕ) (parts number : List ℕ) → SpellsParts port None parts → IsLimit number limit
    → SpellsParts port (Some limit) (parts ++ (47 ∷ number))
adds_limit None limit parts number none is_limit = (number, is_limit, ap (λ t. t ++ (47 ∷ number)) none)
adds_limit (Some port) limit parts number one is_limit = (parts, 47 ∷ number, refl, inl (one, (number, is_limit, refl)))

-- a part more
pub adds : (old new : Parts) (separator : ℕ) (number parts : List ℕ) → AddsPart old separator number new
    → SpellsParts old.port old.limit parts → SpellsParts new.port new.limit (parts ++ (separator ∷ number))
adds old new separator number parts more right =
    ⊎_elim
    (λ a.
    let before = subst (λ p. SpellsParts p old.limit parts) a.1 right in
    let after = adds_port a.2 old.limit parts number before a.3 in
    let sep = sym a.0 in
    let same = subst (λ c. SpellsParts (Some a.2) old.limit (parts ++ (c ∷ number))) sep after in
    subst (λ (p : Parts). SpellsParts p.port p.limit (parts ++ (separator ∷ number))) (sym a.4) same)
    (λ a.
    let before = subst (λ l. SpellsParts old.port l parts) a.1 right in
    let after = adds_limit old.port a.2 parts number before a.3 in
    let sep = sym a.0 in
    let same = subst (λ c. SpellsParts old.port (Some a.2) (parts ++ (c ∷ number))) sep after in
    subst (λ (p : Parts). SpellsParts p.port p.limit (parts ++ (separator ∷ number))) (sym a.4) same)
    more
