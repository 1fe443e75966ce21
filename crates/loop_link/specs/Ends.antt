-- When a link that gives a text has ended, when it hasn't begun, and what its service saw.
use Rattle.std.specs.Prelude.{◌≡◌, ℕ, Bool, true, false, List, [], length}

-- if it has ended, the whole text was given
abbrev pub EndsWhole : Bool → ℕ → List ℕ → Type 0
EndsWhole ended at text = ended ≡ true → at ≡ length text

-- before the service ran there is no reply, and nothing was given
abbrev pub BeginsEmpty : Bool → Bool → ℕ → List ℕ → Type 0
BeginsEmpty served ended at reply = served ≡ false → (ended ≡ false) × (at ≡ 0) × (reply ≡ [])

-- if a link closes at its first receive and the service ran, the service saw all that was sent
abbrev pub SeesAll : Bool → Bool → ℕ → List ℕ → Type 0
SeesAll closes served seen sent = closes ≡ true → served ≡ true → seen ≡ length sent
