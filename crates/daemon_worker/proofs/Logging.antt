-- One connection after another, and one door after another.
use Rattle.std.proofs.Common.{◌≡◌, ℕ, suc, ◌+◌, ◌<◌, ◌≤◌, Bool, true, false, List, [], ◌∷◌, ◌++◌, ◌⊎◌, length, inl, inr, refl, sym, ◌∙◌}
use Rattle.std.proofs.Common.{ap, subst, append_assoc, length-append, arith}
use Rattle.std.specs.Prelude.{if◌then◌else◌}
use Rattle.std.specs.List.{flat_map}
use Rattle.std.proofs.lemmas.List.{append-nil}
use Rattle.farm_types.specs.declared.placed.Word.{Word}
use Rattle.farm_types.specs.declared.ran.Ran.{Ran}
use Rattle.edge_traits.specs.Told.{SameRelation3}
use Rattle.edge_traits.specs.Causes.{Rose, RoseBy}
use Rattle.edge_traits.specs.Doors.{DoorView}
use Rattle.edge_traits.specs.Stations.{StationView}
use Rattle.edge_traits.proofs.ToldLemmas.{Grew-join, Grew-refl}
use Rattle.edge_traits.proofs.CountLemmas.{RoseBy-then, RoseBy-later}
use Rattle.access_list.specs.declared.rule.Rule.{Rule}
use Rattle.daemon_service.specs.declared.compilers.Compiler.{Compiler}
use Rattle.daemon_service.specs.declared.served.Served.TheVariants.{Answered, Refused, Cut, LinkFault, Stopped, StationFault, Memory}
use Rattle.daemon_service.proofs.Runs.{may_on}
use Rattle.daemon_worker.specs.declared.log.Met.{Met}
use Rattle.daemon_worker.specs.declared.log.Met.TheVariants as met
use Rattle.daemon_worker.specs.declared.log.Entry.{Entry}
use Rattle.daemon_worker.specs.Connections.{Connection, IsMet, IsConnection, stops}
use Rattle.daemon_worker.specs.Meetings.{MetCause, Meets}
use Rattle.daemon_worker.specs.Logs.{AreConnections, numbered, AreGoing, is_station_fault, is_door_fault, count, RoseTogether, Did, Ends}
use Rattle.daemon_worker.specs.Logs.{DoorServed, LogGrew, SoFar}

-- ---- one more at the end of a list

flat_more : {T : Type 0} (f : Connection → List T) (cs : List Connection) (c : Connection)
    → flat_map f (cs ++ c ∷ []) ≡ flat_map f cs ++ f c
flat_more f [] c = append-nil (f c)
flat_more f (x ∷ cs) c = ap (λ l. f x ++ l) (flat_more f cs c) ∙ sym (append_assoc (f x) (flat_map f cs) (f c))

count_more : (test : Met → Bool) (cs : List Connection) (c : Connection)
    → count test (cs ++ c ∷ []) ≡ count test cs + (if test c.what then 1 else 0)
count_more test [] c = omega arith
count_more test (x ∷ cs) c = omega (arith, count_more test cs c)

numbered_more : (door number : ℕ) (cs : List Connection) (c : Connection)
    → numbered door number (cs ++ c ∷ []) ≡ numbered door number cs ++ record {
      door = door;
      number = number + length cs;
      what = c.what;
    } ∷ []
numbered_more door number [] c =
    let same : number ≡ number + 0 = omega arith in
    ap (λ n. record { door = door; number = n; what = c.what } ∷ []) same
numbered_more door number (x ∷ cs) c =
    let same : suc number + length cs ≡ number + length (x ∷ cs) = omega arith in
    ap (λ l. record { door = door; number = number; what = x.what } ∷ l)
    (numbered_more door (suc number) cs c
    ∙ ap (λ n. numbered door (suc number) cs ++ record { door = door; number = n; what = c.what } ∷ []) same)

going_more : (cs : List Connection) (c : Connection) → AreGoing cs → stops c.what ≡ false → AreGoing (cs ++ c ∷ [])
going_more [] c going on = (on, tt)
going_more (x ∷ cs) c going on = (going.0, going_more cs c going.1 on)

-- ---- what may be run is the same

connection_on : {r q : List Word → List ℕ → Ran → Type 0} (table : List Compiler) (rules : List Rule) → SameRelation3 r q
    → (c : Connection) (what : Met) → IsMet table rules r c what → IsMet table rules q c what
connection_on table rules same c (met.Served served) is = record {
  addr = is.addr;
  rule = is.rule;
  visit = is.visit;
  peers = is.peers;
  visits = is.visits;
  admitted = is.admitted;
  is = is.is;
  ends = is.ends;
  faults = is.faults;
  may = may_on same c.runs is.may;
}
connection_on table rules same c (met.Denied addr rule) is = is
connection_on table rules same c met.DoorFault is = is
connection_on table rules same c met.DoorMemory is = is

each_more : {r q : List Word → List ℕ → Ran → Type 0} (table : List Compiler) (rules : List Rule) → SameRelation3 r q
    → (cs : List Connection) (c : Connection) → AreConnections table rules r cs → IsConnection table rules q c
    → AreConnections table rules q (cs ++ c ∷ [])
each_more table rules same [] c each is = (is, tt)
each_more table rules same (x ∷ cs) c each is = (connection_on table rules same x x.what each.0, each_more table rules same cs c each.1 is)

-- ---- counts

no_rise : (n a b c : ℕ) → RoseBy n a b → b ≤ c → RoseBy (n + 0) a c
no_rise n a b c rose later = subst (λ k. RoseBy k a c) (let same : n ≡ n + 0 = omega arith in same) (RoseBy-later n a b c rose later)

door_step : (n : ℕ) (what : Met) (old mid new : DoorView) (before after : StationView) → RoseBy n old.faults mid.faults
    → mid.faults ≤ new.faults → MetCause what mid new before after
    → RoseBy (n + (if is_door_fault what then 1 else 0)) old.faults new.faults
door_step n (met.Served served) old mid new before after rose later cause = no_rise n old.faults mid.faults new.faults rose later
door_step n (met.Denied addr rule) old mid new before after rose later cause = no_rise n old.faults mid.faults new.faults rose later
door_step n met.DoorFault old mid new before after rose later cause = RoseBy-then n 1 old.faults mid.faults new.faults rose cause.0
door_step n met.DoorMemory old mid new before after rose later cause = no_rise n old.faults mid.faults new.faults rose later

module _ (n : ℕ) (before middle after : StationView) (rose : RoseTogether n before middle) (faults : middle.faults ≤ after.faults)
    (overruns : middle.overruns ≤ after.overruns) where
  none_rose : RoseTogether (n + 0) before after
  none_rose = record {
    faults = rose.faults;
    overruns = rose.overruns;
    sum = omega (arith, rose.sum);
    faults_rose = RoseBy-later rose.faults before.faults middle.faults after.faults rose.faults_rose faults;
    overruns_rose = RoseBy-later rose.overruns before.overruns middle.overruns after.overruns rose.overruns_rose overruns;
  }

  fault_step : Rose middle.faults after.faults ⊎ Rose middle.overruns after.overruns → RoseTogether (n + 1) before after
  fault_step (inl cause) = record {
    faults = rose.faults + 1;
    overruns = rose.overruns;
    sum = omega (arith, rose.sum);
    faults_rose = RoseBy-then rose.faults 1 before.faults middle.faults after.faults rose.faults_rose cause;
    overruns_rose = RoseBy-later rose.overruns before.overruns middle.overruns after.overruns rose.overruns_rose overruns;
  }
  fault_step (inr cause) = record {
    faults = rose.faults;
    overruns = rose.overruns + 1;
    sum = omega (arith, rose.sum);
    faults_rose = RoseBy-later rose.faults before.faults middle.faults after.faults rose.faults_rose faults;
    overruns_rose = RoseBy-then rose.overruns 1 before.overruns middle.overruns after.overruns rose.overruns_rose cause;
  }

  station_step : (what : Met) (old new : DoorView) → MetCause what old new middle after
      → RoseTogether (n + (if is_station_fault what then 1 else 0)) before after
  station_step (met.Served StationFault) old new cause = fault_step cause.1
  station_step (met.Served (Answered status)) old new cause = none_rose
  station_step (met.Served (Refused at fault)) old new cause = none_rose
  station_step (met.Served (Cut have)) old new cause = none_rose
  station_step (met.Served LinkFault) old new cause = none_rose
  station_step (met.Served Stopped) old new cause = none_rose
  station_step (met.Served Memory) old new cause = none_rose
  station_step (met.Denied addr rule) old new cause = none_rose
  station_step met.DoorFault old new cause = none_rose
  station_step met.DoorMemory old new cause = none_rose

-- ---- one connection after others

module _ (table : List Compiler) (rules : List Rule) (r q : List Word → List ℕ → Ran → Type 0) (same : SameRelation3 r q)
    (old mid new : DoorView) (before middle after : StationView) (what : Met)
    (m : Meets table rules q mid new middle after what) (door_later : mid.faults ≤ new.faults)
    (faults : middle.faults ≤ after.faults) (overruns : middle.overruns ≤ after.overruns) where
  did_more : (cs : List Connection) → Did table rules r old mid before middle cs → Did table rules q old new before after (cs ++ m.c ∷ [])
  did_more cs did =
      let cause : MetCause m.c.what mid new middle after = subst (λ w. MetCause w mid new middle after) (sym m.is_what) m.cause in
      record {
        each = each_more table rules same cs m.c did.each m.is;
        peers = Grew-join did.peers m.peers (sym (flat_more (λ c. c.peers) cs m.c));
        visits = Grew-join did.visits m.visits (sym (flat_more (λ c. c.visits) cs m.c));
        runs = Grew-join did.runs m.runs (sym (flat_more (λ c. c.runs) cs m.c));
        door_rise = subst (λ n. RoseBy n old.faults new.faults) (sym (count_more is_door_fault cs m.c))
            (door_step (count is_door_fault cs) m.c.what old mid new middle after did.door_rise door_later cause);
        station_rise = subst (λ n. RoseTogether n before after) (sym (count_more is_station_fault cs m.c))
            (station_step (count is_station_fault cs) before middle after did.station_rise faults overruns m.c.what mid new cause);
      }

  module _ (door number : ℕ) (log_before log_mid log_after : List Entry)
      (added : log_after ≡ log_mid ++ record { door = door; number = number + 1; what = what } ∷ [])
      (so_far : SoFar table rules door number r old mid before middle log_before log_mid) where
    log_more : log_after ≡ log_before ++ numbered door 1 (so_far.cs ++ m.c ∷ [])
    log_more =
        let place : number + 1 ≡ 1 + length so_far.cs = omega (arith, so_far.many) in
        let entry = ap (λ n. record { door = door; number = n; what = what } ∷ []) place
        ∙ ap (λ w. record { door = door; number = 1 + length so_far.cs; what = w } ∷ []) (sym m.is_what) in
        added ∙ ap (λ l. l ++ record { door = door; number = number + 1; what = what } ∷ []) so_far.grew
        ∙ append_assoc log_before (numbered door 1 so_far.cs) (record { door = door; number = number + 1; what = what } ∷ [])
        ∙ ap (λ l. log_before ++ l) (ap (λ e. numbered door 1 so_far.cs ++ e) entry ∙ sym (numbered_more door 1 so_far.cs m.c))

    pub so_far_more : stops what ≡ false → SoFar table rules door (number + 1) q old new before after log_before log_after
    so_far_more on = record {
      cs = so_far.cs ++ m.c ∷ [];
      did = did_more so_far.cs so_far.did;
      grew = log_more;
      going = going_more so_far.cs m.c so_far.going (ap stops m.is_what ∙ on);
      many = omega (arith, so_far.many, length-append so_far.cs (m.c ∷ []));
    }

    pub stopped : (serve : ℕ) → number < serve → stops what ≡ true
        → LogGrew table rules serve door q old new before after log_before log_after
    stopped serve less on = record {
      entries = numbered door 1 (so_far.cs ++ m.c ∷ []);
      served = record {
        cs = so_far.cs ++ m.c ∷ [];
        did = did_more so_far.cs so_far.did;
        entries_are = refl;
        ends = inr (record {
          before = so_far.cs;
          last = m.c;
          parts = refl;
          going = so_far.going;
          stopped = ap stops m.is_what ∙ on;
          within = omega (arith, less, so_far.many, length-append so_far.cs (m.c ∷ []));
        });
      };
      grew = log_more;
    }

pub nothing_yet : (table : List Compiler) (rules : List Rule) (ran : List Word → List ℕ → Ran → Type 0) (door : ℕ) (old : DoorView)
    (before : StationView) (log : List Entry) → SoFar table rules door 0 ran old old before before log log
nothing_yet table rules ran door old before log = record {
  cs = [];
  did = record {
    each = tt;
    peers = Grew-refl old.peers;
    visits = Grew-refl old.visits;
    runs = Grew-refl before.runs;
    door_rise = omega arith;
    station_rise = record { faults = 0; overruns = 0; sum = refl; faults_rose = omega arith; overruns_rose = omega arith };
  };
  grew = sym (append-nil log);
  going = tt;
  many = refl;
}

pub all_served : (table : List Compiler) (rules : List Rule) (ran : List Word → List ℕ → Ran → Type 0) (door number serve : ℕ)
    (old new : DoorView) (before after : StationView) (log_before log_after : List Entry)
    → SoFar table rules door number ran old new before after log_before log_after → number ≤ serve → serve ≤ number
    → LogGrew table rules serve door ran old new before after log_before log_after
all_served table rules ran door number serve old new before after log_before log_after so_far low high = record {
  entries = numbered door 1 so_far.cs;
  served = record {
    cs = so_far.cs;
    did = so_far.did;
    entries_are = refl;
    ends = inl (so_far.going, omega (arith, low, high, so_far.many));
  };
  grew = so_far.grew;
}

-- ---- how many entries a door has

numbered_length : (door number : ℕ) (cs : List Connection) → length (numbered door number cs) ≡ length cs
numbered_length door number [] = refl
numbered_length door number (c ∷ cs) = ap suc (numbered_length door (suc number) cs)

ends_few : (serve : ℕ) (cs : List Connection) → Ends serve cs → length cs ≤ serve
ends_few serve cs (inl all) = omega (arith, all.1)
ends_few serve cs (inr stop) = stop.within

pub few_entries : (table : List Compiler) (rules : List Rule) (ran : List Word → List ℕ → Ran → Type 0) (serve door : ℕ)
    (old new : DoorView) (before after : StationView) (entries : List Entry)
    → DoorServed table rules serve door ran old new before after entries → length entries ≤ serve
few_entries table rules ran serve door old new before after entries served =
    omega (arith, ap length served.entries_are, numbered_length door 1 served.cs, ends_few serve served.cs served.ends)
