use Rattle.std.proofs.Common.{rules, ap, sym, ◌∙◌}
use Rattle.std.specs.Option.{option_copied}
use Rattle.compile_database.specs.Databases.{no_folder, no_entry, other_folder}
use Rattle.compile_database.proofs.EntryLemmas.{no_folder_chosen}
use Rattle.compile_database.proofs.database.folder_of.Goals as goal

pub returns-in-Some-clause-fault : goal.returns-in-Some-clause-fault
returns-in-Some-clause-fault c = no_folder c.in-Some.ensures

pub returns-in_default-chosen_folder-clause-fault : goal.returns-in_default-chosen_folder-clause-fault
returns-in_default-chosen_folder-clause-fault c =
    no_entry (no_folder_chosen _ _ c.in_default.ensures (sym c.chosen_folder.ensures ∙ ap option_copied c.in_default-chosen_folder.is))

pub returns-in-Some-first_out-clause-fault : goal.returns-in-Some-first_out-clause-fault
returns-in-Some-first_out-clause-fault c =
    other_folder c.in-Some-chosen_folder.folder.now c.in_default.ensures (search rules)
    (sym c.chosen_folder.ensures ∙ ap option_copied c.in-Some-chosen_folder.is) c.in-Some-first_out.ensures
