use Rattle.std.proofs.Common.{◌≡◌, ◌⊎◌, inl, inr, ℕ}
use Rattle.farm_machine.specs.declared.reports.Event.{Event}
use Rattle.farm_machine.specs.declared.reports.Event.TheVariants.{Took, Gave, GaveBad, Down, TookLocal, GaveLocal}
use Rattle.farm_machine.specs.Acts.{SlotEvent, Takes, Gives, GivesBad, FindsDown, TakesLocal, GivesLocal}
use Rattle.farm_machine.specs.Checking.{event_of}
use Rattle.farm_machine.proofs.following.is_slot_event.Goals as goal

written : (event : Event) → ((x : ℕ) × (event ≡ Took x))
    ⊎ (((x : ℕ) × (event ≡ Gave x))
    ⊎ (((x : ℕ) × (y : ℕ) × (event ≡ GaveBad x y)) ⊎ ((event ≡ Down) ⊎ ((event ≡ TookLocal) ⊎ (event ≡ GaveLocal)))))
    → (x : SlotEvent) × (event ≡ event_of x)
written event (inl h) = (Takes h.0, h.1)
written event (inr (inl h)) = (Gives h.0, h.1)
written event (inr (inr (inl h))) = (GivesBad h.0 h.1, h.2)
written event (inr (inr (inr (inl h)))) = (FindsDown, h)
written event (inr (inr (inr (inr (inl h))))) = (TakesLocal, h)
written event (inr (inr (inr (inr (inr h))))) = (GivesLocal, h)

pub returns-in-Took : goal.returns-in-Took
returns-in-Took c = record { event = λ t. written c.args.event c.in-Took.is; other = λ f. cc }
