-- What the users of a gate know, the rule that ties it to how many have asked, and what each kind of step shows.
use Rattle.std.specs.Prelude.{◌≡◌, ℕ, ◌+◌, ◌-◌, ◌≤◌, min, Bool, true, false, List, count_by}
use mathlib.Core.Option.{some}
use lib.ListN.{get_elem?}
use Rattle.edge_gates.specs.declared.asked.Asked.{Asked}
use Rattle.edge_gates.specs.declared.asked.Asked.TheVariants.{Nobody, One, Several}
use Rattle.edge_gates.specs.declared.asked.Place.{Place}
use Rattle.edge_gates.specs.declared.asked.Place.TheVariants.{NotYet, First, Later}
use Rattle.edge_gates.specs.declared.asked.GateView.{GateView}

-- at least this many users have asked
abbrev pub number_of : Asked → ℕ
number_of Nobody = 0
number_of One = 1
number_of Several = 2

abbrev pub is_first_place : Place → Bool
is_first_place First = true
is_first_place NotYet = false
is_first_place Later = false

abbrev pub is_later_place : Place → Bool
is_later_place Later = true
is_later_place NotYet = false
is_later_place First = false

abbrev pub is_first : GateView → Bool
is_first v = is_first_place v.place

abbrev pub is_later : GateView → Bool
is_later v = is_later_place v.place

-- how often a user that is held and gives up looks: once, and then after each of 1,000,000 turns
abbrev pub held_looks : ℕ
held_looks = 1000001

-- a user that hasn't asked or looked
abbrev pub newcomer : GateView
newcomer = record { place = NotYet; seen = Nobody; looks = 0 }

-- Exactly one user is the first if somebody has asked, and none if nobody has. Some user came later if several have asked, and
-- otherwise none did. No user has seen that more had asked than have
pub record KeptAt (asked : Asked) (views : List GateView) : Type 0 where
  pub first : count_by is_first views ≡ min (number_of asked) 1
  pub later : min (count_by is_later views) 1 ≡ number_of asked - 1
  pub seen : (user : ℕ) (v : GateView) → get_elem? views user ≡ some v → number_of v.seen ≤ number_of asked

-- the user sees how many have asked, and nothing changes
abbrev pub LooksAt : GateView → Asked → Asked → GateView → Type 0
LooksAt v before after w = w ≡ record { place = v.place; seen = after; looks = v.looks + 1 }

-- the user is the first to ask if nobody had; otherwise it sees how many had
abbrev pub first_asked : GateView → Asked → GateView
first_asked v Nobody = record { place = First; seen = One; looks = v.looks }
first_asked v One = record { place = v.place; seen = One; looks = v.looks }
first_asked v Several = record { place = v.place; seen = Several; looks = v.looks }

abbrev pub AsksFirstAt : GateView → Asked → Asked → GateView → Type 0
AsksFirstAt v before after w = w ≡ first_asked v before

-- the user asks later than another
abbrev pub AsksLaterAt : GateView → Asked → Asked → GateView → Type 0
AsksLaterAt v before after w = w ≡ record { place = Later; seen = Several; looks = v.looks }
