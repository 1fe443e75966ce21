-- What holds of a farm of which no exchange broke.
use Rattle.std.specs.Prelude.{◌≡◌, ℕ, ◌<◌, true, false, List}
use Rattle.slot_table.specs.declared.limits.Limits.{Limits}
use Rattle.slot_table.specs.declared.calls.CallEntry.{CallEntry}
use Rattle.farm_machine.specs.Acts.{slots_of}
use Rattle.farm_machine.specs.Farm.{wanted}
use Rattle.farm_machine.specs.Weave.{Reports, Agrees}
use Rattle.course_laws.specs.Returns.{finds_down, asks_once}

-- If there is a host, and no job gives one a back-off or finds the hosts down after it took one, no job finds the hosts down at all: in any
-- history that agrees with the reports.
abbrev pub UpLaw : Type 0
UpLaw = (h : ℕ) (l : Limits h) (r : Reports) (calls : List CallEntry)
    → 0 < l.count → Agrees l r (wanted l) calls → ((j : ℕ) → j < l.jobs → asks_once (slots_of (r.acts j)) ≡ true)
    → (j : ℕ) → j < l.jobs → finds_down (slots_of (r.acts j)) ≡ false
