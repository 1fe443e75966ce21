-- Parts of a job that have no parts: one slot, one deed, and what they were written down as.
use Rattle.std.proofs.Common.{◌≡◌, ◌⊎◌, ℕ, zero, suc, ◌<◌, ◌^◌, true, List, [], ◌∷◌, ◌++◌, refl, sym, ap, ◌∙◌, subst, append_assoc}
use Rattle.std.proofs.lemmas.List.{append-nil}
use Rattle.std.specs.Prelude.{IsTrue}
use Rattle.slot_table.specs.declared.limits.Limits.{Limits}
use Rattle.slot_table.specs.declared.calls.CallEntry.{CallEntry}
use Rattle.slot_table.specs.declared.calls.SlotCall.TheVariants.{Give, GiveBad, GiveLocal}
use Rattle.slot_table.specs.declared.calls.SlotReply.TheVariants.{Given}
use Rattle.slot_table.specs.Backoff.{bad_until}
use Rattle.slot_table.specs.History.{entry}
use Rattle.edge_traits.specs.declared.entries.Run.{Run}
use Rattle.edge_traits.specs.declared.entries.Exchange.{Exchange}
use Rattle.edge_traits.specs.Kits.{KitView}
use Rattle.edge_traits.specs.Keepers.{KeeperView}
use Rattle.edge_traits.specs.Dialers.{DialerView}
use Rattle.edge_traits.specs.Stations.{StationView, StationStill}
use Rattle.edge_traits.specs.Told.{Grew, Became, SameRelation, SameRelation3}
use Rattle.edge_traits.specs.Deeds.{Deed, ran, fetched, exchanged, put, timed, exchanges_in, moments_in, DidIn, MayAll}
use Rattle.edge_traits.proofs.ToldLemmas.{Grew-refl}
use Rattle.remote_transfer.specs.Landings.{KeeperStays}
use Rattle.farm_machine.specs.declared.reports.Event.{Event}
use Rattle.farm_machine.specs.declared.reports.Places.{Places}
use Rattle.farm_machine.specs.Acts.{SlotEvent, Gives, GivesBad, TakesLocal, GivesLocal, Act, Did, Met, slots_of, deeds_of}
use Rattle.edge_traits.specs.Causes.{Still}
use Rattle.farm_machine.specs.Causes.{KitLater}
use Rattle.farm_machine.specs.Course.{At, Next}
use Rattle.farm_machine.specs.Farm.{wanted}
use Rattle.farm_machine.specs.Honest.{Peers, Programs, AllRan}
use Rattle.farm_machine.specs.Jobs.{Job}
use Rattle.farm_machine.specs.Machine.{Wants}
use Rattle.farm_machine.specs.Moments.{AreMoments}
use Rattle.farm_machine.specs.Numbered.{numbered, advanced, untimed}
use Rattle.farm_machine.specs.Own.{Serves}
use Rattle.job_run.specs.Gives.{IsUnhurt, LeavesAlone}
use Rattle.job_run.specs.Strict.{IsStrict, StrictReach}
use Rattle.job_run.specs.Waits.{borrowed}
use Rattle.job_run.specs.Went.{Seen, HasTaken, Went, WentOn}
use Rattle.job_run.proofs.Lists.{some-entry, numbered-append, advanced-append, moments-append, serves-append}

-- these acts were written down
abbrev pub Noted : List Event → Places → List Act → List Event → Places → Type 0
Noted es at acts es' at' = (es' ≡ es ++ numbered at acts) × (at' ≡ advanced at acts)

pub noted-then : (xs ys : List Act) (es : List Event) {es1 es2 : List Event} (at : Places) {at1 at2 : Places} → Noted es at xs es1 at1
    → Noted es1 at1 ys es2 at2 → Noted es at (xs ++ ys) es2 at2
noted-then xs ys es {es1 = es1} {es2 = es2} at {at1 = at1} {at2 = at2} first second = (
  second.0 ∙ ap (λ (zs : List Event). zs ++ numbered at1 ys) first.0 ∙ append_assoc es (numbered at xs) (numbered at1 ys)
      ∙ ap (λ (p : Places). es ++ (numbered at xs ++ numbered p ys)) first.1
      ∙ ap (λ (zs : List Event). es ++ zs) (sym (numbered-append at xs ys)),
  second.1 ∙ ap (λ (p : Places). advanced p ys) first.1 ∙ sym (advanced-append at xs ys),
)

-- devices that were not asked
pub no_runs : (s : StationView) → Grew s.runs s.runs []
no_runs s = Grew-refl s.runs

-- the puts, fetches and files of a keeper that was not asked
still-files : (k : KeeperView) → Became k.files k.files k.files.value
still-files k = record { known = λ q. q; became = λ q. refl }

-- nothing was done but that the clock paused
pub did-nothing : (a b : KitView) → Grew a.station.runs b.station.runs [] → Grew a.dialer.exchanges b.dialer.exchanges []
    → b.keeper ≡ a.keeper → Grew a.clock.moments b.clock.moments [] → DidIn a b []
did-nothing a b runs exchanges keeper moments = record {
  runs = runs;
  fetches = subst (λ (k : KeeperView). Grew a.keeper.fetches k.fetches []) (sym keeper) (Grew-refl a.keeper.fetches);
  exchanges = exchanges;
  puts = subst (λ (k : KeeperView). Grew a.keeper.puts k.puts []) (sym keeper) (Grew-refl a.keeper.puts);
  moments = moments;
  files = subst (λ (k : KeeperView). Became a.keeper.files k.files a.keeper.files.value) (sym keeper) (still-files a.keeper);
}

-- one run
pub did-run : (a b : KitView) (x : Run) → Grew a.station.runs b.station.runs (x ∷ []) → b.dialer ≡ a.dialer → b.keeper ≡ a.keeper
    → Grew a.clock.moments b.clock.moments [] → DidIn a b (ran x ∷ [])
did-run a b x runs dialer keeper moments = record {
  runs = runs;
  fetches = subst (λ (k : KeeperView). Grew a.keeper.fetches k.fetches []) (sym keeper) (Grew-refl a.keeper.fetches);
  exchanges = subst (λ (d : DialerView). Grew a.dialer.exchanges d.exchanges []) (sym dialer) (Grew-refl a.dialer.exchanges);
  puts = subst (λ (k : KeeperView). Grew a.keeper.puts k.puts []) (sym keeper) (Grew-refl a.keeper.puts);
  moments = moments;
  files = subst (λ (k : KeeperView). Became a.keeper.files k.files a.keeper.files.value) (sym keeper) (still-files a.keeper);
}

-- no exchange, over a keeper whose files and entries stay
pub did-no-exchange : (a b : KitView) → Grew a.dialer.exchanges b.dialer.exchanges [] → b.station ≡ a.station
    → KeeperStays a.keeper b.keeper → Grew a.clock.moments b.clock.moments [] → DidIn a b []
did-no-exchange a b exchanges station stays moments = record {
  runs = subst (λ (s : StationView). Grew a.station.runs s.runs []) (sym station) (Grew-refl a.station.runs);
  fetches = stays.fetches;
  exchanges = exchanges;
  puts = stays.puts;
  moments = moments;
  files = stays.files;
}

-- one exchange, and looks at the clock behind it
pub did-exchange : (a b : KitView) (x : Exchange) → Grew a.dialer.exchanges b.dialer.exchanges (x ∷ []) → b.station ≡ a.station
    → KeeperStays a.keeper b.keeper → Grew a.clock.moments b.clock.moments [] → DidIn a b (exchanged x ∷ [])
did-exchange a b x exchanges station stays moments = record {
  runs = subst (λ (s : StationView). Grew a.station.runs s.runs []) (sym station) (Grew-refl a.station.runs);
  fetches = stays.fetches;
  exchanges = exchanges;
  puts = stays.puts;
  moments = moments;
  files = stays.files;
}

pub did-exchange-look : (a b : KitView) (x : Exchange) (moment : ℕ) → Grew a.dialer.exchanges b.dialer.exchanges (x ∷ [])
    → b.station ≡ a.station → KeeperStays a.keeper b.keeper → Grew a.clock.moments b.clock.moments (moment ∷ [])
    → DidIn a b (exchanged x ∷ timed moment ∷ [])
did-exchange-look a b x moment exchanges station stays moments = record {
  runs = subst (λ (s : StationView). Grew a.station.runs s.runs []) (sym station) (Grew-refl a.station.runs);
  fetches = stays.fetches;
  exchanges = exchanges;
  puts = stays.puts;
  moments = moments;
  files = stays.files;
}

-- the calls of a wait for a local slot
pub serves-borrowed : (wants : Wants) (caller job : ℕ) (past : List SlotEvent) (refused : ℕ)
    → Serves wants caller job past (TakesLocal ∷ []) (borrowed caller job refused)
serves-borrowed wants caller job past zero = (refl, (refl, tt, refl, tt))
serves-borrowed wants caller job past (suc refused) = (refl, (refl, tt, refl, serves-borrowed wants caller job past refused))

pub moments-borrowed : (period caller job refused : ℕ) → AreMoments period (borrowed caller job refused) []
moments-borrowed period caller job zero = ([], [], refl, refl, refl)
moments-borrowed period caller job (suc refused) = ([], [], refl, moments-borrowed period caller job refused, refl)

-- What is known of a part's acts by themselves: a walk from one place to another, with these calls.
pub record IsPart {h : ℕ} (j : Job) (l : Limits h) (caller number : ℕ) (programs : Programs) (at to : At) (acts : List Act)
    (calls : List CallEntry) : Type 0 where
  pub reach : StrictReach j at (untimed acts) to
  pub serves : (past : List SlotEvent) → HasTaken past at → Serves (wanted l) caller number past (slots_of acts) calls
  pub moments : AreMoments j.config.period calls (moments_in (deeds_of acts))
  pub leaves : LeavesAlone j.config.period acts
  pub ran : AllRan programs acts

-- with what devices, slots and journal show of these acts
part-went : {h : ℕ} {l : Limits h} {j : Job} {caller number : ℕ} {a b : Seen} {at to : At} (acts : List Act) (calls : List CallEntry)
    → IsPart j l caller number b.programs at to acts calls → DidIn a.kit b.kit (deeds_of acts) → KitLater a.kit b.kit
    → (IsTrue b.kit.dialer.exchanges.known → MayAll b.peers (exchanges_in (deeds_of acts))) → SameRelation a.peers b.peers
    → SameRelation3 a.programs b.programs → Noted a.events a.places acts b.events b.places → b.mine ≡ a.mine ++ calls
    → Went j l caller number a b at to
part-went acts calls part did later may same_peers same_programs noted mine = record {
  acts = acts;
  calls = calls;
  did = did;
  named = noted.0;
  grown = noted.1;
  reach = part.reach;
  mine = mine;
  serves = part.serves;
  moments = part.moments;
  leaves = part.leaves;
  later = later;
  may = may;
  ran = part.ran;
  same_peers = same_peers;
  same_programs = same_programs;
}

-- a local slot was taken and given back, behind so many refused takes, with no look at the clock
local-serves : {h : ℕ} (l : Limits h) (caller number refused : ℕ) (past : List SlotEvent)
    → Serves (wanted l) caller number past (TakesLocal ∷ GivesLocal ∷ [])
    (borrowed caller number refused ++ entry caller (GiveLocal number) Given ∷ [])
local-serves l caller number refused past =
    serves-append (wanted l) caller number past (TakesLocal ∷ []) (GivesLocal ∷ []) (borrowed caller number refused)
    (entry caller (GiveLocal number) Given ∷ []) (serves-borrowed (wanted l) caller number past refused) (refl, (refl, tt, refl, tt))

local-moments : (period caller number refused : ℕ)
    → AreMoments period (borrowed caller number refused ++ entry caller (GiveLocal number) Given ∷ []) []
local-moments period caller number refused =
    moments-append period (borrowed caller number refused) (entry caller (GiveLocal number) Given ∷ []) [] []
    (moments-borrowed period caller number refused) ([], [], refl, refl, refl)

-- a local slot was taken, one run was made in it, and it was given back
pub local-ran : {h : ℕ} {l : Limits h} {j : Job} {caller number : ℕ} (refused : ℕ) {a b : Seen} {at : At} (c d : At) {to : At} (x : Run)
    → DidIn a.kit b.kit (ran x ∷ []) → KitLater a.kit b.kit → b.programs x.words x.input x.ran → SameRelation a.peers b.peers
    → SameRelation3 a.programs b.programs
    → Noted a.events a.places (Met TakesLocal ∷ Did (ran x) ∷ Met GivesLocal ∷ []) b.events b.places
    → b.mine ≡ a.mine ++ (borrowed caller number refused ++ entry caller (GiveLocal number) Given ∷ [])
    → Next j at (Met TakesLocal) c → Next j c (Did (ran x)) d → IsStrict (Did (ran x)) c d → Next j d (Met GivesLocal) to
    → Went j l caller number a b at to
local-ran {l = l} {j = j} {caller = caller} {number = number} refused c d {to = to} x did later may same_peers same_programs noted mine
    first second strict third =
    part-went (Met TakesLocal ∷ Did (ran x) ∷ Met GivesLocal ∷ [])
    (borrowed caller number refused ++ entry caller (GiveLocal number) Given ∷ [])
    (record {
      reach = (c, first, tt, (d, second, strict, (to, third, tt, refl)));
      serves = λ past taken. local-serves l caller number refused past;
      moments = local-moments j.config.period caller number refused;
      leaves = tt;
      ran = (may, tt);
    })
    did later (λ known. tt) same_peers same_programs noted mine

-- a local slot was taken, no run could be made, and it was given back
pub local-not-run : {h : ℕ} {l : Limits h} {j : Job} {caller number : ℕ} (refused : ℕ) {a b : Seen} {at : At} (c : At) {to : At}
    → DidIn a.kit b.kit [] → KitLater a.kit b.kit → SameRelation a.peers b.peers → SameRelation3 a.programs b.programs
    → Noted a.events a.places (Met TakesLocal ∷ Met GivesLocal ∷ []) b.events b.places
    → b.mine ≡ a.mine ++ (borrowed caller number refused ++ entry caller (GiveLocal number) Given ∷ [])
    → Next j at (Met TakesLocal) c → Next j c (Met GivesLocal) to
    → Went j l caller number a b at to
local-not-run {l = l} {j = j} {caller = caller} {number = number} refused c {to = to} did later same_peers same_programs noted mine first
    second =
    part-went (Met TakesLocal ∷ Met GivesLocal ∷ []) (borrowed caller number refused ++ entry caller (GiveLocal number) Given ∷ [])
    (record {
      reach = (c, first, tt, (to, second, tt, refl));
      serves = λ past taken. local-serves l caller number refused past;
      moments = local-moments j.config.period caller number refused;
      leaves = tt;
      ran = tt;
    })
    did later (λ known. tt) same_peers same_programs noted mine

-- one run was made in a slot of a host, which was given back
pub lent-ran : {h : ℕ} {l : Limits h} {j : Job} {caller number : ℕ} (host : ℕ) {a b : Seen} {at : At} (c : At) {to : At} (x : Run)
    → DidIn a.kit b.kit (ran x ∷ []) → KitLater a.kit b.kit → b.programs x.words x.input x.ran → SameRelation a.peers b.peers
    → SameRelation3 a.programs b.programs
    → Noted a.events a.places (Did (ran x) ∷ Met (Gives host) ∷ []) b.events b.places
    → b.mine ≡ a.mine ++ entry caller (Give host number) Given ∷ []
    → Next j at (Did (ran x)) c → IsStrict (Did (ran x)) at c → Next j c (Met (Gives host)) to → IsStrict (Met (Gives host)) c to
    → Went j l caller number a b at to
lent-ran {caller = caller} {number = number} host c {to = to} x did later may same_peers same_programs noted mine first within second
    strict =
    part-went (Did (ran x) ∷ Met (Gives host) ∷ []) (entry caller (Give host number) Given ∷ [])
    (record {
      reach = (c, first, within, (to, second, strict, refl));
      serves = λ past taken. (refl, (refl, tt, refl, tt));
      moments = ([], [], refl, refl, refl);
      leaves = tt;
      ran = (may, tt);
    })
    did later (λ known. tt) same_peers same_programs noted mine

-- a slot of a host was given back
pub given-back : {h : ℕ} {l : Limits h} {j : Job} {caller number : ℕ} (host : ℕ) {a b : Seen} {at to : At}
    → DidIn a.kit b.kit [] → KitLater a.kit b.kit → SameRelation a.peers b.peers → SameRelation3 a.programs b.programs
    → Noted a.events a.places (Met (Gives host) ∷ []) b.events b.places
    → b.mine ≡ a.mine ++ entry caller (Give host number) Given ∷ []
    → Next j at (Met (Gives host)) to → IsStrict (Met (Gives host)) at to
    → Went j l caller number a b at to
given-back {caller = caller} {number = number} host {to = to} did later same_peers same_programs noted mine first strict =
    part-went (Met (Gives host) ∷ []) (entry caller (Give host number) Given ∷ [])
    (record {
      reach = (to, first, strict, refl);
      serves = λ past taken. (refl, (refl, tt, refl, tt));
      moments = ([], [], refl, refl, refl);
      leaves = tt;
      ran = tt;
    })
    did later (λ known. tt) same_peers same_programs noted mine

-- one exchange was made in a slot of a host, which was given back
pub exchanged-given : {h : ℕ} {l : Limits h} {j : Job} {caller number : ℕ} (host : ℕ) {a b : Seen} {at : At} (c : At) {to : At}
    (x : Exchange)
    → DidIn a.kit b.kit (exchanged x ∷ []) → KitLater a.kit b.kit
    → (IsTrue b.kit.dialer.exchanges.known → x.dialed ≡ true → b.peers x.sent x.given) → SameRelation a.peers b.peers
    → SameRelation3 a.programs b.programs
    → Noted a.events a.places (Did (exchanged x) ∷ Met (Gives host) ∷ []) b.events b.places
    → b.mine ≡ a.mine ++ entry caller (Give host number) Given ∷ []
    → Next j at (Did (exchanged x)) c → Next j c (Met (Gives host)) to → IsStrict (Met (Gives host)) c to
    → (j.config.period ≡ 0) ⊎ IsUnhurt x → StationStill a.kit.station b.kit.station → Still a.kit.keeper.overruns b.kit.keeper.overruns
    → WentOn j l caller number a b at to
unfolding part-went
exchanged-given {caller = caller} {number = number} host c {to = to} x did later may same_peers same_programs noted mine first second
    strict fair still overruns = record {
      went = part-went (Did (exchanged x) ∷ Met (Gives host) ∷ []) (entry caller (Give host number) Given ∷ [])
          (record {
            reach = (c, first, tt, (to, second, strict, refl));
            serves = λ past taken. (refl, (refl, tt, refl, tt));
            moments = ([], [], refl, refl, refl);
            leaves = (fair, tt);
            ran = tt;
          })
          did later (λ known. (may known, tt)) same_peers same_programs noted mine;
      station = still;
      keeper = record { faults = λ none. absurd (some-entry x [] none); overruns = overruns };
    }

-- one exchange was made in a slot of a host, which was given back, and the host is left alone from a moment that the clock gave
pub exchanged-alone : {h : ℕ} {l : Limits h} {j : Job} {caller number : ℕ} (host moment : ℕ) {a b : Seen} {at : At} (c : At) {to : At}
    (x : Exchange)
    → moment < 2 ^ 64
    → DidIn a.kit b.kit (exchanged x ∷ timed moment ∷ []) → KitLater a.kit b.kit
    → (IsTrue b.kit.dialer.exchanges.known → x.dialed ≡ true → b.peers x.sent x.given) → SameRelation a.peers b.peers
    → SameRelation3 a.programs b.programs
    → Noted a.events a.places (Did (exchanged x) ∷ Did (timed moment) ∷ Met (GivesBad host (bad_until moment j.config.period)) ∷
    []) b.events b.places
    → b.mine ≡ a.mine ++ entry caller (GiveBad host number (bad_until moment j.config.period)) Given ∷ []
    → Next j at (Did (exchanged x)) c → Next j c (Met (GivesBad host (bad_until moment j.config.period))) to
    → StationStill a.kit.station b.kit.station → Still a.kit.keeper.overruns b.kit.keeper.overruns → WentOn j l caller number a b at to
unfolding part-went
exchanged-alone {j = j} {caller = caller} {number = number} host moment c {to = to} x within did later may same_peers same_programs noted
    mine first second still overruns = record {
      went = part-went (Did (exchanged x) ∷ Did (timed moment) ∷ Met (GivesBad host (bad_until moment j.config.period)) ∷ [])
          (entry caller (GiveBad host number (bad_until moment j.config.period)) Given ∷ [])
          (record {
            reach = (c, first, tt, (to, second, tt, refl));
            serves = λ past taken. (refl, (refl, tt, refl, tt));
            moments = (moment ∷ [], [], (moment, within, refl, refl), refl, refl);
            leaves = (tt, tt);
            ran = tt;
          })
          did later (λ known. (may known, tt)) same_peers same_programs noted mine;
      station = still;
      keeper = record { faults = λ none. absurd (some-entry x [] none); overruns = overruns };
    }

-- a deed that takes no slot: a run that the programs may make, a fetch or a put
abbrev pub MayDo : Programs → Deed → Type 0
MayDo programs (ran x) = programs x.words x.input x.ran
MayDo programs (fetched x) = Unit {0}
MayDo programs (put x) = Unit {0}
MayDo programs deed = ⊥

-- such a deed alone is a part with no calls, and peers gave nothing for it
deed-part : {h : ℕ} (l : Limits h) (j : Job) (caller number : ℕ) (peers : Peers) (programs : Programs) (at to : At) (deed : Deed)
    → MayDo programs deed → Next j at (Did deed) to → IsStrict (Did deed) at to
    → IsPart j l caller number programs at to (Did deed ∷ []) [] × MayAll peers (exchanges_in (deed ∷ []))
deed-part l j caller number peers programs at to (ran x) may next strict =
    (record { reach = (to, next, strict, refl); serves = λ past taken. tt; moments = refl; leaves = tt; ran = (may, tt) }, tt)
deed-part l j caller number peers programs at to (fetched x) may next strict =
    (record { reach = (to, next, strict, refl); serves = λ past taken. tt; moments = refl; leaves = tt; ran = tt }, tt)
deed-part l j caller number peers programs at to (put x) may next strict =
    (record { reach = (to, next, strict, refl); serves = λ past taken. tt; moments = refl; leaves = tt; ran = tt }, tt)
deed-part l j caller number peers programs at to (exchanged x) may next strict = absurd may
deed-part l j caller number peers programs at to (timed moment) may next strict = absurd may

pub only-deed : {h : ℕ} {l : Limits h} {j : Job} {caller number : ℕ} {a b : Seen} {at to : At} (deed : Deed)
    → DidIn a.kit b.kit (deed ∷ []) → KitLater a.kit b.kit → MayDo b.programs deed → SameRelation a.peers b.peers
    → SameRelation3 a.programs b.programs
    → Noted a.events a.places (Did deed ∷ []) b.events b.places → b.mine ≡ a.mine → Next j at (Did deed) to → IsStrict (Did deed) at to
    → Went j l caller number a b at to
only-deed {l = l} {j = j} {caller = caller} {number = number} {a = a} {b = b} {at = at} {to = to} deed did later may same_peers
    same_programs noted mine next strict =
    let part = deed-part l j caller number b.peers b.programs at to deed may next strict in
    part-went (Did deed ∷ []) [] part.0 did later (λ known. part.1) same_peers same_programs noted (mine ∙ sym (append-nil a.mine))

-- nothing that is an act
pub no-act : {h : ℕ} {l : Limits h} {j : Job} {caller number : ℕ} {a b : Seen} {at : At}
    → DidIn a.kit b.kit [] → KitLater a.kit b.kit → SameRelation a.peers b.peers → SameRelation3 a.programs b.programs
    → Noted a.events a.places [] b.events b.places → b.mine ≡ a.mine
    → Went j l caller number a b at at
no-act {a = a} did later same_peers same_programs noted mine =
    part-went [] [] (record { reach = refl; serves = λ past taken. tt; moments = refl; leaves = tt; ran = tt }) did later (λ known. tt)
    same_peers same_programs noted (mine ∙ sym (append-nil a.mine))

pub same_peers : (p : Peers) → SameRelation p p
same_peers p = record { kept = λ x y h. h; back = λ x y h. h }

pub same_programs : (p : Programs) → SameRelation3 p p
same_programs p = record { kept = λ x y z h. h; back = λ x y z h. h }
