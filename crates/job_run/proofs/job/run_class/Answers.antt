use Rattle.std.proofs.Common.{refl, sym, ap, inl, inr, arith}
use Rattle.std.proofs.lemmas.List.{append-nil}
use Rattle.edge_traits.proofs.DeedLemmas.{DidIn-nothing}
use Rattle.farm_machine.specs.Course.{Start}
use Rattle.job_run.proofs.Composing.{none-rose, later-none}
use Rattle.job_run.proofs.Leaves.{no-act, same_peers, same_programs}
use Rattle.job_run.proofs.Names.{is_sent, class_input, class_remote, class_stays}
use Rattle.job_run.proofs.job.run_class.Goals as goal

pub invariant_of-task-clause-remote : goal.invariant_of-task-clause-remote
invariant_of-task-clause-remote g c = class_remote c.args.command.now.words.now _ _ _ _ _ (c.in-Remote.ensures.class (λ h. cc))

pub invariant_of-task-clause-named : goal.invariant_of-task-clause-named
invariant_of-task-clause-named g c = (class_input c.args.command.now.words.now _ _ _ _ _ (c.in-Remote.ensures.class (λ h. cc))).1

pub invariant_of-task-clause-source : goal.invariant_of-task-clause-source
invariant_of-task-clause-source g c =
    let input = class_input c.args.command.now.words.now _ _ _ _ _ (c.in-Remote.ensures.class (λ h. cc)) in
    record { place = input.0; ending = input.2 }

pub returns-in-Memory-clause-ended : goal.returns-in-Memory-clause-ended
returns-in-Memory-clause-ended g c = record {
  to = Start;
  went = no-act (DidIn-nothing _) (later-none _) (same_peers _) (same_programs _) (sym (append-nil _), refl) refl;
  ends = inl refl;
  cause = tt;
  station = none-rose _;
  keeper = record { faults = λ none. omega arith; overruns = refl };
  fetch = tt;
}

pub returns-in-Empty-clause-ended : goal.returns-in-Empty-clause-ended
returns-in-Empty-clause-ended g c = c.run_in_place.ensures.ended
    (elim c.in-Empty.is [
      | inl is ↦ class_stays c.args.command.now.words.now c.scan.result c.args.command.now.config.now (c.scan.ensures.class (λ h. cc))
          (ap is_sent is)
      | inr is ↦ class_stays c.args.command.now.words.now c.scan.result c.args.command.now.config.now (c.scan.ensures.class (λ h. cc))
          (ap is_sent is.2)
    ])
