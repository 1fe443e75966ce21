-- Looks at the clock before a take, and the calls of a take.
use Rattle.std.proofs.Common.{◌≡◌, ℕ, zero, suc, ◌+◌, ◌<◌, Bool, true, false, ◌&&◌, not, cond, nat_lt, List, [], ◌∷◌, ◌++◌, Some, refl}
use Rattle.std.proofs.Common.{sym, ap, ◌∙◌, subst, arith}
use Rattle.std.proofs.lemmas.Bool.{lt-ltb}
use Rattle.std.specs.List.{range_with_len, list_all}
use Rattle.slot_table.specs.declared.limits.Limits.{Limits}
use Rattle.slot_table.specs.declared.mask.Mask.{Mask}
use Rattle.slot_table.specs.declared.calls.SlotCall.TheVariants.{Take}
use Rattle.slot_table.specs.declared.calls.SlotReply.{SlotReply}
use Rattle.slot_table.specs.Mask.{in_mask}
use Rattle.edge_traits.specs.declared.entries.Put.{Put}
use Rattle.edge_traits.specs.Kits.{KitView}
use Rattle.edge_traits.specs.Keepers.{KeeperView}
use Rattle.edge_traits.specs.Dialers.{DialerView}
use Rattle.edge_traits.specs.Stations.{StationView, StationStill}
use Rattle.edge_traits.specs.Told.{Grew, Became, SameRelation, SameRelation3}
use Rattle.edge_traits.specs.Deeds.{timed, runs_in, fetches_in, exchanges_in, puts_in, moments_in, files_put, DidIn, MayAll}
use Rattle.edge_traits.proofs.ToldLemmas.{Grew-refl, Grew-by}
use Rattle.farm_machine.specs.declared.reports.Event.{Event}
use Rattle.farm_machine.specs.declared.reports.Places.{Places}
use Rattle.farm_machine.specs.Acts.{SlotEvent, Act, Did, Met, slots_of, deeds_of, took}
use Rattle.farm_machine.specs.Causes.{KitLater}
use Rattle.farm_machine.specs.Course.{At, Send, Next, Tried, is_tried}
use Rattle.farm_machine.specs.Farm.{is_as_wanted, wanted}
use Rattle.farm_machine.specs.Honest.{Programs, AllRan}
use Rattle.farm_machine.specs.Jobs.{Job}
use Rattle.farm_machine.specs.Machine.{Wants}
use Rattle.farm_machine.specs.Moments.{AreMoments}
use Rattle.farm_machine.specs.Numbered.{numbered, advanced, untimed}
use Rattle.farm_machine.specs.Own.{ServedBy, Serves}
use Rattle.farm_machine.specs.Weave.{IsWaitedFor}
use Rattle.farm_machine.specs.Machine.{HostSlot, Adds, job_call}
use Rattle.job_run.specs.Gives.{LeavesAlone}
use Rattle.job_run.specs.Strict.{StrictReach}
use Rattle.job_run.specs.Stages.{HasUntried}
use Rattle.job_run.specs.Waits.{asked}
use Rattle.job_run.specs.Went.{Seen, HasTaken, WentOn}
use Rattle.job_run.proofs.Strictness.{strict-send}
use Rattle.job_run.proofs.Leaves.{Noted}

-- looks at the clock
abbrev pub looks : List ℕ → List Act
looks [] = []
looks (m ∷ ms) = Did (timed m) ∷ looks ms

numbered-looks : (at : Places) (ms : List ℕ) (ys : List Act) → numbered at (looks ms ++ ys) ≡ numbered at ys
numbered-looks at [] ys = refl
numbered-looks at (m ∷ ms) ys = numbered-looks at ms ys

advanced-looks : (at : Places) (ms : List ℕ) (ys : List Act) → advanced at (looks ms ++ ys) ≡ advanced at ys
advanced-looks at [] ys = refl
advanced-looks at (m ∷ ms) ys = advanced-looks at ms ys

untimed-looks : (ms : List ℕ) (ys : List Act) → untimed (looks ms ++ ys) ≡ untimed ys
untimed-looks [] ys = refl
untimed-looks (m ∷ ms) ys = untimed-looks ms ys

slots-looks : (ms : List ℕ) (ys : List Act) → slots_of (looks ms ++ ys) ≡ slots_of ys
slots-looks [] ys = refl
slots-looks (m ∷ ms) ys = slots-looks ms ys

ran-looks : (programs : Programs) (ms : List ℕ) (x : SlotEvent) → AllRan programs (looks ms ++ Met x ∷ [])
ran-looks programs [] x = tt
ran-looks programs (m ∷ ms) x = ran-looks programs ms x

leaves-looks : (period : ℕ) (ms : List ℕ) (x : SlotEvent) → LeavesAlone period (looks ms ++ Met x ∷ [])
leaves-looks period [] x = tt
leaves-looks period (m ∷ ms) x = leaves-looks period ms x

runs-looks : (ms : List ℕ) (x : SlotEvent) → [] ≡ runs_in (deeds_of (looks ms ++ Met x ∷ []))
runs-looks [] x = refl
runs-looks (m ∷ ms) x = runs-looks ms x

fetches-looks : (ms : List ℕ) (x : SlotEvent) → [] ≡ fetches_in (deeds_of (looks ms ++ Met x ∷ []))
fetches-looks [] x = refl
fetches-looks (m ∷ ms) x = fetches-looks ms x

exchanges-looks : (ms : List ℕ) (x : SlotEvent) → [] ≡ exchanges_in (deeds_of (looks ms ++ Met x ∷ []))
exchanges-looks [] x = refl
exchanges-looks (m ∷ ms) x = exchanges-looks ms x

puts-looks : (ms : List ℕ) (x : SlotEvent) → [] ≡ puts_in (deeds_of (looks ms ++ Met x ∷ []))
puts-looks [] x = refl
puts-looks (m ∷ ms) x = puts-looks ms x

moments-looks : (ms : List ℕ) (x : SlotEvent) → ms ≡ moments_in (deeds_of (looks ms ++ Met x ∷ []))
moments-looks [] x = refl
moments-looks (m ∷ ms) x = ap (λ (ns : List ℕ). m ∷ ns) (moments-looks ms x)

did-looks : (a b : KitView) (ms : List ℕ) (x : SlotEvent) → b.dialer ≡ a.dialer → b.station ≡ a.station → b.keeper ≡ a.keeper
    → Grew a.clock.moments b.clock.moments ms → DidIn a b (deeds_of (looks ms ++ Met x ∷ []))
did-looks a b ms x dialer station keeper moments = record {
  runs = Grew-by (subst (λ (s : StationView). Grew a.station.runs s.runs []) (sym station) (Grew-refl a.station.runs)) (runs-looks ms x);
  fetches = Grew-by (subst (λ (k : KeeperView). Grew a.keeper.fetches k.fetches []) (sym keeper) (Grew-refl a.keeper.fetches))
      (fetches-looks ms x);
  exchanges = Grew-by (subst (λ (d : DialerView). Grew a.dialer.exchanges d.exchanges []) (sym dialer) (Grew-refl a.dialer.exchanges))
      (exchanges-looks ms x);
  puts = Grew-by (subst (λ (k : KeeperView). Grew a.keeper.puts k.puts []) (sym keeper) (Grew-refl a.keeper.puts)) (puts-looks ms x);
  moments = Grew-by moments (moments-looks ms x);
  files = subst (λ (ps : List Put). Became a.keeper.files b.keeper.files (files_put a.keeper.files.value ps)) (puts-looks ms x)
      (subst (λ (k : KeeperView). Became a.keeper.files k.files a.keeper.files.value) (sym keeper)
      (record { known = λ q. q; became = λ q. refl }));
}

later-looks : (a b : KitView) → b.dialer ≡ a.dialer → b.station ≡ a.station → b.keeper ≡ a.keeper → KitLater a b
later-looks a b dialer station keeper = record {
  station = let e = ap (λ (s : StationView). s.faults) station in omega (arith, e);
  station_overruns = let e = ap (λ (s : StationView). s.overruns) station in omega (arith, e);
  keeper = let e = ap (λ (k : KeeperView). k.faults) keeper in omega (arith, e);
  keeper_overruns = let e = ap (λ (k : KeeperView). k.overruns) keeper in omega (arith, e);
  dialer = let e = ap (λ (d : DialerView). d.faults) dialer in omega (arith, e);
}

none-looked : (a b : KitView) → b.station ≡ a.station → StationStill a.station b.station
none-looked a b station =
    record { faults = ap (λ (s : StationView). s.faults) station; overruns = ap (λ (s : StationView). s.overruns) station }

-- each of a range passes
all-so : (p : ℕ → Bool) (a n : ℕ) → ((i : ℕ) → i < a + n → p i ≡ true) → list_all p (range_with_len a n) ≡ true
all-so p a zero each = refl
all-so p a (suc n) each =
    ap (λ (b : Bool). b && list_all p (range_with_len (a + 1) n)) (each a (omega arith))
    ∙ all-so p (a + 1) n (λ i below. each i (omega (arith, below)))

wanted-one : (was tried is below : Bool) → was ≡ tried → below ≡ true → is ≡ (below && not tried) → cond was (not is) is ≡ true
wanted-one true true true true e f m = cc
wanted-one true true true false e f m = cc
wanted-one true true false below e f m = refl
wanted-one false true is below e f m = cc
wanted-one true false is below e f m = cc
wanted-one false false true below e f m = refl
wanted-one false false false true e f m = cc
wanted-one false false false false e f m = cc

-- a mask of the entries that were not tried is the one that is wanted
pub mask-wanted : {h : ℕ} (l : Limits h) (mask : Mask) (source note : List ℕ) (tried : List Tried) (past : List SlotEvent)
    → HasUntried l mask tried → HasTaken past (Send source note tried) → wanted l past mask ≡ true
mask-wanted l mask source note tried past untried taken =
    all-so (is_as_wanted past mask) 0 l.count
    (λ i below. wanted-one (took i past) (is_tried i tried) (in_mask mask i) (nat_lt i l.count) (taken i)
    (lt-ltb i l.count (omega (arith, below))) (untried i))

-- the calls of a take
serves-asked : (wants : Wants) (caller number : ℕ) (past : List SlotEvent) (mask : Mask) (refused : List ℕ) (now : ℕ) (reply : SlotReply)
    (x : SlotEvent)
    → wants past mask ≡ true → IsWaitedFor HostSlot x → job_call (Take number mask now) reply ≡ Adds number (Some mask) x
    → Serves wants caller number past (x ∷ []) (asked caller number mask refused now reply)
serves-asked wants caller number past mask [] now reply x is waited call = (
  refl,
  subst (λ a. ServedBy wants number past x a (Serves wants caller number (past ++ x ∷ []) [] [])
      (Serves wants caller number past (x ∷ []) [])) (sym call) (refl, is, refl, tt),
)
serves-asked wants caller number past mask (m ∷ refused) now reply x is waited call =
    (refl, (refl, is, waited, serves-asked wants caller number past mask refused now reply x is waited call))

moments-asked : (period caller number : ℕ) (mask : Mask) (refused : List ℕ) (now : ℕ) (reply : SlotReply)
    → AreMoments period (asked caller number mask refused now reply) (refused ++ now ∷ [])
moments-asked period caller number mask [] now reply = (now ∷ [], [], refl, refl, refl)
moments-asked period caller number mask (m ∷ refused) now reply =
    (m ∷ [], refused ++ now ∷ [], refl, moments-asked period caller number mask refused now reply, refl)

-- a take that was answered
pub went-asked : {h : ℕ} {l : Limits h} {j : Job} {caller number : ℕ} {mask : Mask} (refused : List ℕ) (now : ℕ) (reply : SlotReply)
    (x : SlotEvent) {a b : Seen} {source note : List ℕ} {tried : List Tried} {to : At}
    → IsWaitedFor HostSlot x → job_call (Take number mask now) reply ≡ Adds number (Some mask) x
    → b.kit.dialer ≡ a.kit.dialer → b.kit.station ≡ a.kit.station → b.kit.keeper ≡ a.kit.keeper
    → Grew a.kit.clock.moments b.kit.clock.moments (refused ++ now ∷ [])
    → SameRelation a.peers b.peers → SameRelation3 a.programs b.programs
    → Noted a.events a.places (Met x ∷ []) b.events b.places
    → b.mine ≡ a.mine ++ asked caller number mask refused now reply
    → HasUntried l mask tried → Next j (Send source note tried) (Met x) to
    → WentOn j l caller number a b (Send source note tried) to
went-asked {l = l} {j = j} {caller = caller} {number = number} {mask = mask} refused now reply x {a = a} {b = b} {source = source}
    {note = note} {tried = tried} {to = to} waited call dialer station keeper moments same_peers same_programs noted mine untried next =
    record {
      went = record {
        acts = looks (refused ++ now ∷ []) ++ Met x ∷ [];
        calls = asked caller number mask refused now reply;
        did = did-looks a.kit b.kit (refused ++ now ∷ []) x dialer station keeper moments;
        named = noted.0 ∙ ap (λ (es : List Event). a.events ++ es) (sym (numbered-looks a.places (refused ++ now ∷ []) (Met x ∷ [])));
        grown = noted.1 ∙ sym (advanced-looks a.places (refused ++ now ∷ []) (Met x ∷ []));
        reach = subst (λ (xs : List Act). StrictReach j (Send source note tried) xs to)
            (sym (untimed-looks (refused ++ now ∷ []) (Met x ∷ []))) (to, next, strict-send x source note tried to, refl);
        mine = mine;
        serves = λ past taken. subst (λ (xs : List SlotEvent). Serves (wanted l) caller number past xs
            (asked caller number mask refused now reply)) (sym (slots-looks (refused ++ now ∷ []) (Met x ∷ [])))
            (serves-asked (wanted l) caller number past mask refused now reply x (mask-wanted l mask source note tried past untried taken)
            waited call);
        moments = subst (λ (ms : List ℕ). AreMoments j.config.period (asked caller number mask refused now reply) ms)
            (moments-looks (refused ++ now ∷ []) x) (moments-asked j.config.period caller number mask refused now reply);
        leaves = leaves-looks j.config.period (refused ++ now ∷ []) x;
        later = later-looks a.kit b.kit dialer station keeper;
        may = λ known. subst (λ xs. MayAll b.peers xs) (exchanges-looks (refused ++ now ∷ []) x) tt;
        ran = ran-looks b.programs (refused ++ now ∷ []) x;
        same_peers = same_peers;
        same_programs = same_programs;
      };
      station = none-looked a.kit b.kit station;
      keeper = record { faults = λ none. ap (λ (k : KeeperView). k.faults) keeper; overruns = ap (λ (k : KeeperView). k.overruns) keeper };
    }
