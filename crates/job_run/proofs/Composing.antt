-- One part of a job after another.
use Rattle.std.proofs.Common.{◌≡◌, ◌≢◌, ◌⊎◌, ℕ, ◌≤◌, List, ◌++◌, refl, sym, ap, ◌∙◌, subst, append_assoc, arith, inl, inr}
use Rattle.farm_types.specs.Limits.{preprocessed_max}
use Rattle.slot_table.specs.declared.limits.Limits.{Limits}
use Rattle.slot_table.specs.declared.calls.CallEntry.{CallEntry}
use Rattle.edge_traits.specs.declared.cause.Cause.TheVariants.{Dial, Send as CutSend, Recv, Truncated, BadReply, Stopped}
use Rattle.edge_traits.specs.Kits.{KitView}
use Rattle.edge_traits.specs.Causes.{Rose, RoseOnce, OneRose}
use Rattle.edge_traits.specs.Dialers.{DialerView}
use Rattle.remote_transfer.specs.Landings.{KeeperStays}
use Rattle.edge_traits.specs.Stations.{StationView, StationStill}
use Rattle.edge_traits.specs.declared.faults.FetchFault.{FetchFault}
use Rattle.edge_traits.specs.declared.faults.FetchFault.TheVariants as fetch
use Rattle.edge_traits.specs.Keepers.{KeeperView, FetchCause}
use Rattle.edge_traits.specs.Deeds.{Deed, exchanges_in, moments_in, DidIn, MayAll}
use Rattle.edge_traits.proofs.DeedLemmas.{DidIn-join}
use Rattle.farm_machine.specs.declared.reports.Event.{Event}
use Rattle.farm_machine.specs.declared.reports.Places.{Places}
use Rattle.farm_machine.specs.declared.reports.Why5.{Why5}
use Rattle.farm_machine.specs.declared.reports.Why5.TheVariants.{Station, Put, Broke, NoHost, Memory, Fetch}
use Rattle.farm_machine.specs.declared.reports.End.{End}
use Rattle.farm_machine.specs.declared.reports.End.TheVariants.{Done, Failed}
use Rattle.farm_machine.specs.Acts.{SlotEvent, Act, slots_of, deeds_of}
use Rattle.farm_machine.specs.Causes.{HasEndCause, StationStands, KitLater}
use Rattle.farm_machine.specs.Course.{At}
use Rattle.farm_machine.specs.Farm.{wanted}
use Rattle.farm_machine.specs.Jobs.{Job, source_name}
use Rattle.farm_machine.specs.Moments.{AreMoments}
use Rattle.farm_machine.specs.Numbered.{numbered, advanced, untimed}
use Rattle.farm_machine.specs.Own.{Serves}
use Rattle.job_run.specs.Failures.{fetch_failure}
use Rattle.job_run.specs.Strict.{StrictReach}
use Rattle.job_run.specs.Stands.{KeepsStill, KeeperStands, FetchEnds}
use Rattle.job_run.specs.Went.{Seen, HasTaken, Went, WentOn, HasEnded}
use Rattle.job_run.proofs.Lists.{slots-append, deeds-append, untimed-append, slots-untimed, advanced-append, numbered-append, ran-append}
use Rattle.job_run.proofs.Lists.{ran-along, may-append, may-along, moments-append, reach-append, serves-append, exchanges-append}
use Rattle.job_run.proofs.Lists.{moments_in-append, leaves-append, exchangeless-both}
use Rattle.job_run.proofs.Taken.{taken-reach}

pub later-then : {a b c : KitView} → KitLater a b → KitLater b c → KitLater a c
later-then first second = record {
  station = let x = first.station in let y = second.station in omega (arith, x, y);
  station_overruns = let x = first.station_overruns in let y = second.station_overruns in omega (arith, x, y);
  keeper = let x = first.keeper in let y = second.keeper in omega (arith, x, y);
  keeper_overruns = let x = first.keeper_overruns in let y = second.keeper_overruns in omega (arith, x, y);
  dialer = let x = first.dialer in let y = second.dialer in omega (arith, x, y);
}

-- counts of devices of which some weren't asked
pub later-none : (k : KitView) → KitLater k k
later-none k =
    record {
      station = omega arith;
      station_overruns = omega arith;
      keeper = omega arith;
      keeper_overruns = omega arith;
      dialer = omega
          arith;
    }

pub later-ran : (a b : KitView) → a.station.faults ≤ b.station.faults → a.station.overruns ≤ b.station.overruns → b.keeper ≡ a.keeper
    → b.dialer ≡ a.dialer → KitLater a b
later-ran a b faults overruns keeper dialer = record {
  station = faults;
  station_overruns = overruns;
  keeper = let e = ap (λ (k : KeeperView). k.faults) keeper in omega (arith, e);
  keeper_overruns = let e = ap (λ (k : KeeperView). k.overruns) keeper in omega (arith, e);
  dialer = let e = ap (λ (d : DialerView). d.faults) dialer in omega (arith, e);
}

pub later-kept : (a b : KitView) → b.station ≡ a.station → a.keeper.faults ≤ b.keeper.faults → a.keeper.overruns ≤ b.keeper.overruns
    → a.dialer.faults ≤ b.dialer.faults → KitLater a b
later-kept a b station faults overruns dialer = record {
  station = let e = ap (λ (s : StationView). s.faults) station in omega (arith, e);
  station_overruns = let e = ap (λ (s : StationView). s.overruns) station in omega (arith, e);
  keeper = faults;
  keeper_overruns = overruns;
  dialer = dialer;
}

pub later-exchanged : (a b : KitView) → b.station ≡ a.station → KeeperStays a.keeper b.keeper → a.dialer.faults ≤ b.dialer.faults
    → KitLater a b
later-exchanged a b station stays dialer = later-kept a b station stays.faults (let e = stays.overruns in omega (arith, e)) dialer

rose-later : (a b c : ℕ) → Rose a b → b ≤ c → Rose a c
rose-later a b c rose later = omega (arith, rose, later)

pub rose-before : (a b c : ℕ) → a ≤ b → Rose b c → Rose a c
rose-before a b c later rose = omega (arith, rose, later)

-- a cause in a part is one in the whole
pub cause-before : (a b c : KitView) (end : End) → KitLater a b → HasEndCause end b c → HasEndCause end a c
cause-before a b c (Done status note err out by) later cause = tt
cause-before a b c (Failed Station) later cause =
    elim cause [
      | inl r ↦ inl (rose-before a.station.faults b.station.faults c.station.faults later.station r)
      | inr r ↦ inr
          (rose-before a.station.overruns b.station.overruns c.station.overruns later.station_overruns r)
    ]
cause-before a b c (Failed Put) later cause = rose-before a.keeper.faults b.keeper.faults c.keeper.faults later.keeper cause
cause-before a b c (Failed Fetch) later cause =
    elim cause [
      | inl r ↦ inl (rose-before a.keeper.faults b.keeper.faults c.keeper.faults later.keeper r)
      | inr r ↦ inr
          (rose-before a.keeper.overruns b.keeper.overruns c.keeper.overruns later.keeper_overruns r)
    ]
cause-before a b c (Failed (Broke host Dial)) later cause = rose-before a.dialer.faults b.dialer.faults c.dialer.faults later.dialer cause
cause-before a b c (Failed (Broke host CutSend)) later cause = tt
cause-before a b c (Failed (Broke host Recv)) later cause = tt
cause-before a b c (Failed (Broke host (Truncated have))) later cause = tt
cause-before a b c (Failed (Broke host (BadReply at fault))) later cause = tt
cause-before a b c (Failed (Broke host Stopped)) later cause = tt
cause-before a b c (Failed NoHost) later cause = tt
cause-before a b c (Failed Memory) later cause = tt

pub cause-later : (a b c : KitView) (end : End) → HasEndCause end a b → KitLater b c → HasEndCause end a c
cause-later a b c (Done status note err out by) cause later = tt
cause-later a b c (Failed Station) cause later =
    elim cause [
      | inl r ↦ inl (rose-later a.station.faults b.station.faults c.station.faults r later.station)
      | inr r ↦ inr
          (rose-later a.station.overruns b.station.overruns c.station.overruns r later.station_overruns)
    ]
cause-later a b c (Failed Put) cause later = rose-later a.keeper.faults b.keeper.faults c.keeper.faults cause later.keeper
cause-later a b c (Failed Fetch) cause later =
    elim cause [
      | inl r ↦ inl (rose-later a.keeper.faults b.keeper.faults c.keeper.faults r later.keeper)
      | inr r ↦ inr
          (rose-later a.keeper.overruns b.keeper.overruns c.keeper.overruns r later.keeper_overruns)
    ]
cause-later a b c (Failed (Broke host Dial)) cause later = rose-later a.dialer.faults b.dialer.faults c.dialer.faults cause later.dialer
cause-later a b c (Failed (Broke host CutSend)) cause later = tt
cause-later a b c (Failed (Broke host Recv)) cause later = tt
cause-later a b c (Failed (Broke host (Truncated have))) cause later = tt
cause-later a b c (Failed (Broke host (BadReply at fault))) cause later = tt
cause-later a b c (Failed (Broke host Stopped)) cause later = tt
cause-later a b c (Failed NoHost) cause later = tt
cause-later a b c (Failed Memory) cause later = tt

-- a station that was not asked
pub none-rose : (s : StationView) → StationStill s s
none-rose s = record { faults = refl; overruns = refl }

none-rose-then : (a b c : StationView) → StationStill a b → StationStill b c → StationStill a c
none-rose-then a b c first second = record { faults = second.faults ∙ first.faults; overruns = second.overruns ∙ first.overruns }

pub went-on : {h : ℕ} {j : Job} {l : Limits h} {caller number : ℕ} {a b : Seen} {at to : At} → (went : Went j l caller number a b at to)
    → StationStill a.kit.station b.kit.station → KeepsStill went.acts a.kit.keeper b.kit.keeper → WentOn j l caller number a b at to
went-on went none keeper = record { went = went; station = none; keeper = keeper }

-- where no count of the station rose, it stands at any end that isn't by a run
pub stands-by : (why : Why5) (old new : StationView) → why ≢ Station → StationStill old new → StationStands (Failed why) old new
stands-by Station old new other none = absurd (other refl)
stands-by Put old new other none = none
stands-by Fetch old new other none = none
stands-by (Broke host cause) old new other none = none
stands-by NoHost old new other none = none
stands-by Memory old new other none = none

-- by a run only one count rose, and none before it
one-before : (a a' a'' b b' b'' : ℕ) → a' ≡ a → b' ≡ b → OneRose a' a'' b' b'' → OneRose a a'' b b''
one-before a a' a'' b b' b'' first second last =
    subst (λ n. OneRose n a'' b b'') first (subst (λ m. OneRose a' a'' m b'') second last)

stands-before : (a b c : StationView) (end : End) → StationStill a b → StationStands end b c → StationStands end a c
stands-before a b c (Done status note err out by) first last = none-rose-then a b c first last
stands-before a b c (Failed Station) first last =
    one-before a.faults b.faults c.faults a.overruns b.overruns c.overruns first.faults first.overruns last
stands-before a b c (Failed Put) first last = none-rose-then a b c first last
stands-before a b c (Failed Fetch) first last = none-rose-then a b c first last
stands-before a b c (Failed (Broke host cause)) first last = none-rose-then a b c first last
stands-before a b c (Failed NoHost) first last = none-rose-then a b c first last
stands-before a b c (Failed Memory) first last = none-rose-then a b c first last

-- a keeper that was not asked
pub keeps-none : (acts : List Act) (k : KeeperView) → KeepsStill acts k k
keeps-none acts k = record { faults = λ none. refl; overruns = refl }

-- where the keeper stands still, it does so at any end
pub keeps-by : (end : End) (acts : List Act) (old new : KeeperView) → KeepsStill acts old new → KeeperStands end acts old new
keeps-by (Done status note err out by) acts old new still = still
keeps-by (Failed Station) acts old new still = still
keeps-by (Failed Put) acts old new still = still.overruns
keeps-by (Failed Fetch) acts old new still = inl still.overruns
keeps-by (Failed (Broke host cause)) acts old new still = still
keeps-by (Failed NoHost) acts old new still = still
keeps-by (Failed Memory) acts old new still =
    record { faults = λ none. let e = still.faults none in omega (arith, e); overruns = still.overruns }

still-then : (xs ys : List Act) (a b c : KeeperView) → KeepsStill xs a b → KeepsStill ys b c → KeepsStill (xs ++ ys) a c
still-then xs ys a b c first second = record {
  faults = λ none.
      let both = exchangeless-both xs ys none in
      second.faults both.1 ∙ first.faults both.0;
  overruns = second.overruns ∙ first.overruns;
}

keeps-before : (xs ys : List Act) (a b c : KeeperView) (end : End) → KeepsStill xs a b → KeeperStands end ys b c
    → KeeperStands end (xs ++ ys) a c
keeps-before xs ys a b c (Done status note err out by) first last = still-then xs ys a b c first last
keeps-before xs ys a b c (Failed Station) first last = still-then xs ys a b c first last
keeps-before xs ys a b c (Failed Put) first last = last ∙ first.overruns
keeps-before xs ys a b c (Failed Fetch) first last =
    subst (λ n. (c.overruns ≡ n) ⊎ RoseOnce n c.overruns) first.overruns last
keeps-before xs ys a b c (Failed (Broke host cause)) first last = still-then xs ys a b c first last
keeps-before xs ys a b c (Failed NoHost) first last = still-then xs ys a b c first last
keeps-before xs ys a b c (Failed Memory) first last = record {
  faults = λ none.
      let both = exchangeless-both xs ys none in
      let still = first.faults both.0 in
      let removal = last.faults both.1 in
      omega (arith, still, removal);
  overruns = last.overruns ∙ first.overruns;
}

-- an end that isn't by a fetch
pub unfetched : (name : List ℕ) (why : Why5) (acts : List Act) (old new : KeeperView) → why ≢ Fetch
    → FetchEnds name (Failed why) acts old new
unfetched name Station acts old new other = tt
unfetched name Put acts old new other = tt
unfetched name Fetch acts old new other = absurd (other refl)
unfetched name (Broke host cause) acts old new other = tt
unfetched name NoHost acts old new other = tt
unfetched name Memory acts old new other = tt

-- the cause of a fetch is one also from a moment before, since when the counts stood still
fetch-cause-before : (name : List ℕ) (bound : ℕ) (fault : FetchFault) (a b c : KeeperView) → fetch_failure fault ≡ Fetch
    → b.faults ≡ a.faults → b.overruns ≡ a.overruns → FetchCause name bound b c fault → FetchCause name bound a c fault
fetch-cause-before name bound fetch.Failed a b c is still kept cause =
    record { rose = subst (λ n. Rose n c.faults) still cause.rose; calm = cause.calm ∙ kept }
fetch-cause-before name bound fetch.Absent a b c is still kept cause =
    record { rose = subst (λ n. RoseOnce n c.overruns) kept cause.rose; calm = cause.calm ∙ still; absent = cause.absent }
fetch-cause-before name bound (fetch.TooMuch bytes) a b c is still kept cause =
    record {
      rose = subst (λ n. RoseOnce n c.overruns) kept cause.rose;
      calm = cause.calm
          ∙ still;
      above = cause.above;
      long = cause.long;
    }
fetch-cause-before name bound fetch.Memory a b c is still kept cause = absurd (cc)

fetch-before : (name : List ℕ) (xs ys : List Act) (a b c : KeeperView) (end : End) → KeepsStill xs a b
    → FetchEnds name end ys b c → FetchEnds name end (xs ++ ys) a c
fetch-before name xs ys a b c (Done status note err out by) first last = tt
fetch-before name xs ys a b c (Failed Station) first last = tt
fetch-before name xs ys a b c (Failed Put) first last = tt
fetch-before name xs ys a b c (Failed Fetch) first last = λ none.
    let both = exchangeless-both xs ys none in
    let found = last both.1 in
    (found.0, found.1, fetch-cause-before name preprocessed_max found.0 a b c found.1 (first.faults both.0) first.overruns found.2)
fetch-before name xs ys a b c (Failed (Broke host cause)) first last = tt
fetch-before name xs ys a b c (Failed NoHost) first last = tt
fetch-before name xs ys a b c (Failed Memory) first last = tt

-- One part after another: by the limits and the caller that the first has, which stayed the same.
went-then : {h : ℕ} {j : Job} {l l' : Limits h} {caller caller' number : ℕ} {a b c : Seen} {at mid to : At}
    → l' ≡ l → caller' ≡ caller → Went j l caller number a b at mid → Went j l' caller' number b c mid to → Went j l caller number a c at to
went-then {h = h} {j = j} {l = l} {l' = l'} {caller = caller} {caller' = caller'} {number = number} {a = a} {b = b} {c = c} {at = at}
    {mid = mid} {to = to} same_limits same_caller first second = record {
      acts = first.acts ++ second.acts;
      calls = first.calls ++ second.calls;
      did = subst (λ (ds : List Deed). DidIn a.kit c.kit ds) (sym (deeds-append first.acts second.acts)) (DidIn-join first.did second.did);
      named = second.named ∙ ap (λ (es : List Event). es ++ numbered b.places second.acts) first.named
          ∙ append_assoc a.events (numbered a.places first.acts) (numbered b.places second.acts)
          ∙ ap (λ (p : Places). a.events ++ (numbered a.places first.acts ++ numbered p second.acts)) first.grown
          ∙ ap (λ (es : List Event). a.events ++ es) (sym (numbered-append a.places first.acts second.acts));
      grown = second.grown ∙ ap (λ (p : Places). advanced p second.acts) first.grown
          ∙ sym (advanced-append a.places first.acts second.acts);
      reach = subst (λ (xs : List Act). StrictReach j at xs to) (sym (untimed-append first.acts second.acts))
          (reach-append j (untimed first.acts) (untimed second.acts) at mid to first.reach second.reach);
      mine = second.mine ∙ ap (λ (es : List CallEntry). es ++ second.calls) first.mine ∙ append_assoc a.mine first.calls second.calls;
      serves = λ past taken.
          subst (λ (xs : List SlotEvent). Serves (wanted l) caller number past xs (first.calls ++ second.calls))
          (sym (slots-append first.acts second.acts))
          (serves-append (wanted l) caller number past (slots_of first.acts) (slots_of second.acts) first.calls second.calls
          (first.serves past taken)
          (subst (λ (k : Limits h). Serves (wanted k) caller number (past ++ slots_of first.acts) (slots_of second.acts) second.calls)
          same_limits
          (subst (λ (w : ℕ). Serves (wanted l') w number (past ++ slots_of first.acts) (slots_of second.acts) second.calls) same_caller
          (second.serves (past ++ slots_of first.acts)
          (subst (λ (xs : List SlotEvent). HasTaken (past ++ xs) mid) (slots-untimed first.acts)
          (taken-reach j (untimed first.acts) past at mid first.reach taken))))));
      moments = subst (λ (ms : List ℕ). AreMoments j.config.period (first.calls ++ second.calls) ms)
          (sym (ap moments_in (deeds-append first.acts second.acts) ∙ moments_in-append (deeds_of first.acts) (deeds_of second.acts)))
          (moments-append j.config.period first.calls second.calls (moments_in (deeds_of first.acts)) (moments_in (deeds_of second.acts))
          first.moments second.moments);
      leaves = leaves-append j.config.period first.acts second.acts first.leaves second.leaves;
      later = later-then first.later second.later;
      may = λ known. subst (λ (xs : List _). MayAll c.peers xs)
          (sym (ap exchanges_in (deeds-append first.acts second.acts) ∙ exchanges-append (deeds_of first.acts) (deeds_of second.acts)))
          (may-append c.peers (exchanges_in (deeds_of first.acts)) (exchanges_in (deeds_of second.acts))
          (may-along b.peers c.peers second.same_peers.kept (exchanges_in (deeds_of first.acts))
          (first.may (second.did.exchanges.known known))) (second.may known));
      ran = ran-append c.programs first.acts second.acts
          (ran-along b.programs c.programs second.same_programs.kept first.acts first.ran) second.ran;
      same_peers = record {
        kept = λ x y h. second.same_peers.kept x y (first.same_peers.kept x y h);
        back = λ x y h. first.same_peers.back x
            y (second.same_peers.back x y h);
      };
      same_programs = record {
        kept = λ x y z h. second.same_programs.kept x y z (first.same_programs.kept x y z h);
        back = λ x y z h.
            first.same_programs.back x y z (second.same_programs.back x y z h);
      };
    }

pub on-then : {h : ℕ} {j : Job} {l l' : Limits h} {caller caller' number : ℕ} {a b c : Seen} {at mid to : At}
    → l' ≡ l → caller' ≡ caller → WentOn j l caller number a b at mid → WentOn j l' caller' number b c mid to
    → WentOn j l caller number a c at to
unfolding went-then
on-then {j = j} {l = l} {l' = l'} {caller = caller} {caller' = caller'} {number = number} {a = a} {b = b} {c = c} {at = at} {mid = mid}
    {to = to} same_limits same_caller first second = record {
      went = went-then same_limits same_caller first.went second.went;
      station = none-rose-then a.kit.station b.kit.station c.kit.station first.station second.station;
      keeper = still-then first.went.acts second.went.acts a.kit.keeper b.kit.keeper c.kit.keeper first.keeper second.keeper;
    }

pub on-ended : {h : ℕ} {j : Job} {l l' : Limits h} {caller caller' number : ℕ} {a b c : Seen} {at mid : At} {end : End}
    → l' ≡ l → caller' ≡ caller → WentOn j l caller number a b at mid → HasEnded j l' caller' number b c mid end
    → HasEnded j l caller number a c at end
unfolding went-then
on-ended {j = j} {l = l} {l' = l'} {caller = caller} {caller' = caller'} {number = number} {a = a} {b = b} {c = c} {at = at} {mid = mid}
    {end = end} same_limits same_caller first last = record {
      to = last.to;
      went = went-then same_limits same_caller first.went last.went;
      ends = last.ends;
      cause = cause-before a.kit b.kit c.kit end first.went.later last.cause;
      station = stands-before a.kit.station b.kit.station c.kit.station end first.station last.station;
      keeper = keeps-before first.went.acts last.went.acts a.kit.keeper b.kit.keeper c.kit.keeper end first.keeper last.keeper;
      fetch = fetch-before (source_name j) first.went.acts last.went.acts a.kit.keeper b.kit.keeper c.kit.keeper end
          first.keeper last.fetch;
    }
