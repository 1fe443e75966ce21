-- The causes of a service, from those of its parts.
use Rattle.std.proofs.Common.{ℕ, List, refl, subst}
use Rattle.std.specs.Prelude.{Err}
use Rattle.farm_types.specs.declared.placed.Word.{Word}
use Rattle.farm_types.specs.declared.request.Request.{Request}
use Rattle.farm_types.specs.declared.ran.Ran.{Ran}
use Rattle.edge_traits.specs.Causes.{Still}
use Rattle.edge_traits.specs.Links.{LinkView}
use Rattle.edge_traits.specs.Stations.{StationView, StationStill}
use Rattle.daemon_service.specs.declared.compilers.Compiler.{Compiler}
use Rattle.daemon_service.specs.declared.served.Served.{Served}
use Rattle.daemon_service.specs.declared.served.Served.TheVariants.{Answered, Refused, Cut, LinkFault, Stopped, StationFault, Memory}
use Rattle.daemon_service.specs.Services.{LinkCause, StationCause}
use Rattle.daemon_service.specs.Parts.{RequestIs, Made, Replied}

-- what a count did after it had stood still
pub link_then : (served : Served) (old mid new : ℕ) → Still old mid → LinkCause served mid new → LinkCause served old new
link_then served old mid new still cause = subst (λ n. LinkCause served n new) still cause

still_station : (station : StationView) → StationStill station station
still_station station = record { faults = refl; overruns = refl }

-- where no whole request was read, the station is as before
pub unread_station : (served : Served) (old new : LinkView) (given : List ℕ) (station : StationView)
    → RequestIs (Err served) old new given → StationCause served station station
unread_station (Answered status) old new given station is = still_station station
unread_station (Refused at fault) old new given station is = still_station station
unread_station (Cut have) old new given station is = still_station station
unread_station LinkFault old new given station is = still_station station
unread_station Stopped old new given station is = still_station station
unread_station StationFault old new given station is = absurd is
unread_station Memory old new given station is = still_station station

-- where no outcome was made, the link is as before
pub unmade_link : (served : Served) (table : List Compiler) (ran : List Word → List ℕ → Ran → Type 0) (before after : StationView)
    (q : Request) (count : ℕ) → Made table ran before after q (Err served) → LinkCause served count count
unmade_link (Answered status) table ran before after q count made = refl
unmade_link (Refused at fault) table ran before after q count made = refl
unmade_link (Cut have) table ran before after q count made = refl
unmade_link LinkFault table ran before after q count made = absurd made.is
unmade_link Stopped table ran before after q count made = refl
unmade_link StationFault table ran before after q count made = refl
unmade_link Memory table ran before after q count made = refl

-- while a reply is sent, the station is as before
pub replied_station : (served : Served) (text : List ℕ) (status : ℕ) (old new : LinkView) (before after : StationView)
    → Replied text status old new served → StationStill before after → StationCause served before after
replied_station (Answered said) text status old new before after done none = none
replied_station (Refused at fault) text status old new before after done none = none
replied_station (Cut have) text status old new before after done none = none
replied_station LinkFault text status old new before after done none = none
replied_station Stopped text status old new before after done none = none
replied_station StationFault text status old new before after done none = absurd done
replied_station Memory text status old new before after done none = none
