-- The origin of the link of one exchange.
use Rattle.std.specs.Prelude.{◌≡◌, ℕ, ◌≤◌, Bool, true, List}
use Rattle.std.proofs.Common.{◌∙◌, sym, subst}
use Rattle.farm_types.specs.declared.placed.Word.{Word}
use Rattle.farm_types.specs.declared.ran.Ran.{Ran}
use Rattle.edge_traits.specs.Stations.{StationView}
use Rattle.loop_link.specs.declared.link.LoopLink.{LoopLink}
use Rattle.loop_link.specs.Links.{LinkHolds, LoopFollows}

-- after the one dial, a link that closes at its first receive, dialed when the station's counts had not fallen
pub record ComesOnce {S : Type 0} (shows : S → StationView) (ran : S → List Word → List ℕ → Ran → Type 0) (before : StationView)
    (dialed : Bool) (link : LoopLink S) : Type 0 where
  pub holds : LinkHolds shows ran link
  pub closes : link.closes ≡ true
  pub once : dialed ≡ true
  pub faults : before.faults ≤ (shows link.dialed.value).faults
  pub overruns : before.overruns ≤ (shows link.dialed.value).overruns

pub comes_stays : {S : Type 0} (shows : S → StationView) (ran : S → List Word → List ℕ → Ran → Type 0) (before : StationView)
    (dialed : Bool) (a b : LoopLink S) → ComesOnce shows ran before dialed a → LoopFollows shows ran a b
    → ComesOnce shows ran before dialed b
comes_stays shows ran before dialed a b came f = record {
  holds = f.holds came.holds;
  closes = f.closes ∙ came.closes;
  once = came.once;
  faults = subst (λ s. before.faults ≤ (shows s).faults) (sym f.dialed) came.faults;
  overruns = subst (λ s. before.overruns ≤ (shows s).overruns) (sym f.dialed) came.overruns;
}
