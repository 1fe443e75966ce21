-- The example's reports, the steps that are woven of its calls and them, and what its two workers did.
use Rattle.std.specs.Prelude.{ℕ, ◌==◌, if◌then◌else◌, List, [], ◌∷◌, Some, None}
use Rattle.edge_traits.specs.Deeds.{ran, exchanged, put}
use Rattle.slot_table.specs.declared.calls.SlotCall.TheVariants.{Draw, Take, Give}
use Rattle.slot_table.specs.declared.calls.SlotReply.TheVariants.{Drawn, Got, Full, Given}
use Rattle.slot_table.specs.History.{entry}
use Rattle.farm_machine.specs.Machine.{FarmStep, Calls, Does, Returns}
use Rattle.farm_machine.specs.Weave.{Reports}
use Rattle.farm_machine.specs.Own.{DoneJob}
use Rattle.farm_laws.specs.Example.{all_hosts, preprocessed, not_preprocessed, answered, delivered, worker_of, acts_of, end_of}

abbrev pub reports : Reports
reports = record { worker = worker_of; acts = acts_of; ends = end_of }

-- each job's deeds come after its draw and after its slot events, and its return after the last of them
abbrev pub steps : List FarmStep
steps =
    Calls (entry 0 Draw (Drawn (Some 0))) ∷ Does 0 (ran preprocessed)
    ∷ Calls (entry 1 Draw (Drawn (Some 1))) ∷ Does 1 (ran preprocessed)
    ∷ Calls (entry 0 (Take 0 all_hosts 100) (Got 0)) ∷ Does 0 (exchanged answered)
    ∷ Calls (entry 1 (Take 1 all_hosts 100) Full)
    ∷ Calls (entry 0 (Give 0 0) Given) ∷ Does 0 (put delivered) ∷ Returns 0 (end_of 0)
    ∷ Calls (entry 1 (Take 1 all_hosts 101) (Got 0)) ∷ Does 1 (exchanged answered)
    ∷ Calls (entry 0 Draw (Drawn (Some 2))) ∷ Does 2 (ran not_preprocessed) ∷ Returns 2 (end_of 2)
    ∷ Calls (entry 1 (Give 0 1) Given) ∷ Does 1 (put delivered) ∷ Returns 1 (end_of 1)
    ∷ Calls (entry 0 Draw (Drawn None))
    ∷ Calls (entry 1 Draw (Drawn None)) ∷ []

-- what each worker did
abbrev pub done_job : ℕ → DoneJob
done_job number = record { number = number; acts = acts_of number; end = end_of number }

abbrev pub done_by : ℕ → List DoneJob
done_by worker = if worker == 0 then done_job 0 ∷ done_job 2 ∷ [] else done_job 1 ∷ []
