use Rattle.std.proofs.Common.{map, subst}
use Rattle.std.proofs.lemmas.Result.{err_from_is_err_and, IfOk-weaker, IfErr-weaker}
use Rattle.serde_json.specs.View.{view}
use Rattle.compile_database.specs.Selections.{choice_of}
use Rattle.compile_database.specs.Databases.{AreEntries, HasBadEntry}
use Rattle.compile_database.proofs.EntryLemmas.{entries_are_jobs, error_map}
use Rattle.compile_database.proofs.DatabaseLemmas.{jobs_of_entries, bad_of_entries, fault_of_list}
use Rattle.compile_database.proofs.database.list_of_entries.Goals as goal

pub returns-in_err-jobs-clause-fault : goal.returns-in_err-jobs-clause-fault
returns-in_err-jobs-clause-fault c =
    let fault = err_from_is_err_and c.from_residual-in_err-jobs.result c.from_residual-in_err-jobs.ensures.1 in
    rw (fault.1, fault.2) (error_map (λ fault bad. bad_of_entries (choice_of c.args.selection.now) (map view c.args.entries.now)
    c.in_ok-places.places fault c.in_ok-places.ensures.places
    (subst (λ places. HasBadEntry (map view c.args.entries.now) places fault) c.as_slice.ensures bad)) _ c.in_err-jobs.ensures.fault)

pub list_of-requires : goal.list_of-requires
list_of-requires c = entries_are_jobs (map view c.args.entries.now) c.as_slice.result.now c.in_ok-jobs.jobs c.in_ok-jobs.ensures.jobs

pub returns-clause-list : goal.returns-clause-list
returns-clause-list c = IfOk-weaker c.list_of.result _ _ (λ list written. record {
  jobs = c.in_ok-jobs.jobs;
  words = jobs_of_entries (choice_of c.args.selection.now) (map view c.args.entries.now) c.in_ok-places.places c.in_ok-jobs.jobs
      c.in_ok-places.ensures.places
      (subst (λ places. AreEntries (map view c.args.entries.now) places c.in_ok-jobs.jobs) c.as_slice.ensures c.in_ok-jobs.ensures.jobs);
  written = written;
}) c.list_of.ensures.list

pub returns-clause-fault : goal.returns-clause-fault
returns-clause-fault c = IfErr-weaker c.list_of.result _ _ (error_map
    (fault_of_list (choice_of c.args.selection.now) (map view c.args.entries.now) c.in_ok-jobs.jobs
    (jobs_of_entries (choice_of c.args.selection.now) (map view c.args.entries.now) c.in_ok-places.places c.in_ok-jobs.jobs
    c.in_ok-places.ensures.places
    (subst (λ places. AreEntries (map view c.args.entries.now) places c.in_ok-jobs.jobs) c.as_slice.ensures c.in_ok-jobs.ensures.jobs))))
    c.list_of.ensures.fault
