use Rattle.std.proofs.Common.{rules, ap, sym, ◌∙◌}
use Rattle.std.specs.List.{slice_get}
use Rattle.farm_types.specs.Limits.{jobs_max}
use Rattle.compile_database.specs.Databases.{none_taken, too_many}
use Rattle.compile_database.proofs.EntryLemmas.{nil_from_test, not_nil_from_test}
use Rattle.compile_database.proofs.database.places_of.Goals as goal

pub returns-then-is_empty-clause-fault : goal.returns-then-is_empty-clause-fault
returns-then-is_empty-clause-fault c =
    none_taken c.in_ok-folder.folder.now c.in_ok-folder.ensures.folder
    (sym c.in_ok-places.ensures ∙ nil_from_test c.in_ok-places.places (sym c.if-is_empty.ensures))

pub returns-in-Some-clause-fault : goal.returns-in-Some-clause-fault
returns-in-Some-clause-fault c =
    too_many c.in_ok-folder.folder.now c.in_ok-folder.ensures.folder
    (ap (λ places. slice_get places jobs_max) (sym c.in_ok-places.ensures) ∙ sym c.in-Some.ensures)

pub returns-clause-places : goal.returns-clause-places
returns-clause-places c = record {
  folder = c.in_ok-folder.folder.now;
  of_folder = c.in_ok-folder.ensures.folder;
  are = c.in_ok-places.ensures;
  some = not_nil_from_test c.in_ok-places.places c.if-is_empty.ensures;
  few = search rules;
}
