use Rattle.std.proofs.Common.{◌∙◌, List, ℕ, refl, sym, [], inr, subst}
use Rattle.std.proofs.lemmas.Bool.{false≢true}
use Rattle.std.proofs.lemmas.List.{append-nil}
use Rattle.edge_traits.proofs.DeedLemmas.{DidIn-nothing}
use Rattle.farm_types.specs.Fits.{RequestFits}
use Rattle.farm_machine.specs.Course.{Send}
use Rattle.job_run.specs.Seen.{job_in}
use Rattle.job_run.proofs.Asking.{sent-step}
use Rattle.job_run.proofs.Composing.{none-rose, keeps-none, later-none}
use Rattle.job_run.proofs.Leaves.{no-act, same_peers, same_programs}
use Rattle.job_run.proofs.sending.ask_if_fits.Goals as goal

pub returns-then-not-fits-clause-asked : goal.returns-then-not-fits-clause-asked
returns-then-not-fits-clause-asked g c = λ note. (
  Send c.args.request.now.source note [],
  inr (
    (λ fits. false≢true (sym c.if-not-fits.true
        ∙ c.fits.ensures.1 (subst (λ (words : List (List ℕ)). RequestFits words c.args.request.now.source) (sym c.requires.words) fits))),
    refl,
  ),
  record {
    went = no-act (DidIn-nothing _) (later-none _) (same_peers _) (same_programs _) (sym (append-nil _), refl) refl;
    station = none-rose _;
    keeper = keeps-none _ _;
  },
)

pub returns-clause-asked : goal.returns-clause-asked
returns-clause-asked g c =
    λ note. sent-step (job_in c.args.task.now) _ _ _ _ _ c.args.request.now.source note c.ask_hosts.result (c.ask_hosts.ensures.asked note)
