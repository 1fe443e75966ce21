-- What calls are in the words of the code, read back.
use Rattle.std.proofs.Common.{◌≡◌, inl, inr, ℕ, Bool, true, false, ◌||◌, List, [], ◌∷◌, ◌++◌, Option, Some, None, refl, sym, ap, ◌∙◌}
use Rattle.std.proofs.Common.{subst, eq-eqb}
use Rattle.std.proofs.lemmas.Bool.{false≢true}
use Rattle.std.specs.Prelude.{◌↔◌, IsTrue}
use Rattle.std.specs.Option.{option_map}
use Rattle.slot_table.specs.declared.mask.Mask.{Mask}
use Rattle.farm_machine.specs.declared.kinds.Kind.TheVariants as kind
use Rattle.farm_machine.specs.declared.reports.Event.{Event}
use Rattle.farm_machine.specs.declared.reports.Event.TheVariants.{Took}
use Rattle.farm_machine.specs.Acts.{SlotEvent, Takes, Gives, GivesBad, FindsDown, TakesLocal, GivesLocal, took, next_met}
use Rattle.farm_machine.specs.Checking.{event_of, kind_of, is_awaited}
use Rattle.farm_machine.specs.Machine.{SlotKind, HostSlot, LocalSlot, JobCall, Draws, Adds, Waits, Mismatched, Wants, MaskIs}
use Rattle.farm_machine.specs.Reading.{slots_in}
use Rattle.farm_machine.specs.Weave.{Reports, Progress, progress_after, IsWaitedFor, Follows}
use Rattle.farm_machine.proofs.Steps.{set-here, took-more, unseen}

-- a slot event as it is written is read as itself
pub slots-event : (x : SlotEvent) (events : List Event) → slots_in (event_of x ∷ events) ≡ x ∷ slots_in events
slots-event (Takes host) events = refl
slots-event (Gives host) events = refl
slots-event (GivesBad host until) events = refl
slots-event FindsDown events = refl
slots-event TakesLocal events = refl
slots-event GivesLocal events = refl

pub same-event : (x y : SlotEvent) → event_of x ≡ event_of y → x ≡ y
same-event x y e =
    let both : x ∷ [] ≡ y ∷ [] = sym (slots-event x []) ∙ ap (λ (event : Event). slots_in (event ∷ [])) e ∙ slots-event y [] in cc

pub same-next : (x : SlotEvent) (next : Option SlotEvent) → option_map event_of next ≡ Some (event_of x) → next ≡ Some x
same-next x None e = cc
same-next x (Some y) e = let both : event_of y ≡ event_of x = cc in ap Some (same-event y x both)

-- which call is of this kind
pub call-draws : (a : JobCall) (job : Option ℕ) → kind.Draws job ≡ kind_of a → a ≡ Draws job
call-draws (Draws other) job e = cc
call-draws (Adds other mask x) job e = cc
call-draws (Waits other mask HostSlot) job e = cc
call-draws (Waits other mask LocalSlot) job e = cc
call-draws Mismatched job e = cc

pub call-adds : (a : JobCall) (job : ℕ) (mask : Option Mask) (event : Event) → kind.Adds job mask event ≡ kind_of a
    → (x : SlotEvent) × (event ≡ event_of x) × (a ≡ Adds job mask x)
call-adds (Draws other) job mask event e = cc
call-adds (Adds other mask' x) job mask event e = (x, cc, cc)
call-adds (Waits other mask' HostSlot) job mask event e = cc
call-adds (Waits other mask' LocalSlot) job mask event e = cc
call-adds Mismatched job mask event e = cc

-- the kind of the slot that is waited for
abbrev pub slot_kind : Bool → SlotKind
slot_kind true = LocalSlot
slot_kind false = HostSlot

pub call-waits : (a : JobCall) (job : ℕ) (mask : Option Mask) (local : Bool) → kind.Waits job mask local ≡ kind_of a
    → a ≡ Waits job mask (slot_kind local)
call-waits (Draws other) job mask local e = cc
call-waits (Adds other mask' x) job mask local e = cc
call-waits (Waits other mask' HostSlot) job mask true e = cc
call-waits (Waits other mask' HostSlot) job mask false e = cc
call-waits (Waits other mask' LocalSlot) job mask true e = cc
call-waits (Waits other mask' LocalSlot) job mask false e = cc
call-waits Mismatched job mask local e = cc

pub call-mismatched : (a : JobCall) → kind.Mismatched ≡ kind_of a → a ≡ Mismatched
call-mismatched (Draws other) e = cc
call-mismatched (Adds other mask x) e = cc
call-mismatched (Waits other mask HostSlot) e = cc
call-mismatched (Waits other mask LocalSlot) e = cc
call-mismatched Mismatched e = refl

-- what a refused take waits for
pub awaits : (next : Option SlotEvent) (local : Bool) → is_awaited (option_map event_of next) local ≡ true
    → (x : SlotEvent) × (next ≡ Some x) × IsWaitedFor (slot_kind local) x
awaits None local is = cc
awaits (Some (Takes host)) false is = (Takes host, refl, inr (host, refl))
awaits (Some (Takes host)) true is = cc
awaits (Some (Gives host)) local is = cc
awaits (Some (GivesBad host until)) local is = cc
awaits (Some FindsDown) false is = (FindsDown, refl, inl refl)
awaits (Some FindsDown) true is = cc
awaits (Some TakesLocal) true is = (TakesLocal, refl, refl)
awaits (Some TakesLocal) false is = cc
awaits (Some GivesLocal) local is = cc

pub is-awaited : (next : Option SlotEvent) (local : Bool) (x : SlotEvent) → next ≡ Some x → IsWaitedFor (slot_kind local) x
    → is_awaited (option_map event_of next) local ≡ true
is-awaited next true x is waited = ap (λ (o : Option SlotEvent). is_awaited (option_map event_of o) true) (is ∙ ap Some waited)
is-awaited next false x is (inl down) = ap (λ (o : Option SlotEvent). is_awaited (option_map event_of o) false) (is ∙ ap Some down)
is-awaited next false x is (inr (host, takes)) =
    ap (λ (o : Option SlotEvent). is_awaited (option_map event_of o) false) (is ∙ ap Some takes)

-- a slot event is the take of this host where it is written as one
taking : (x : SlotEvent) (event : Event) (host : ℕ) (same : Bool) → event ≡ event_of x → IsTrue same ↔ (event ≡ Took host)
    → took host (x ∷ []) ≡ same
taking x event host true is means =
    let e : x ≡ Takes host = same-event x (Takes host) (sym is ∙ means.0 refl) in
    ap (λ (y : SlotEvent). took host (y ∷ [])) e ∙ ap (λ (b : Bool). b || false) (eq-eqb host host refl)
taking x event host false is means = unseen host x (λ e. false≢true (means.1 (is ∙ ap event_of e)))

-- an event of a job more, where it is this job
pub past-same : (p : Progress) (v : ℕ) (a : JobCall) (job taker host : ℕ) (mask : Option Mask) (event : Event) (same : Bool)
    → kind.Adds taker mask event ≡ kind_of a → job ≡ taker → IsTrue same ↔ (event ≡ Took host)
    → took host ((progress_after p v a).past job) ≡ (took host (p.past job) || same)
past-same p v a job taker host mask event same kind_is same_job means =
    let call = call-adds a taker mask event kind_is in
    ap (λ (b : JobCall). took host ((progress_after p v b).past job)) call.2
    ∙ ap (took host) (set-here p.past taker job (p.past taker ++ call.0 ∷ []) same_job)
    ∙ took-more host (p.past taker) call.0
    ∙ ap (λ (k : ℕ). took host (p.past k) || took host (call.0 ∷ [])) (sym same_job)
    ∙ ap (λ (b : Bool). took host (p.past job) || b) (taking call.0 event host same call.1 means)

-- a call of which this holds follows exactly where its event is next
pub follows-adds : (r : Reports) (wants : Wants) (p : Progress) (v : ℕ) (a : JobCall) (job : ℕ) (mask : Option Mask) (event : Event)
    (same : Bool)
    → kind.Adds job mask event ≡ kind_of a → (p.current v ≡ Some job) × MaskIs mask (wants (p.past job)) → IsTrue same
    ↔ (option_map event_of (next_met (p.rest job)) ≡ Some event)
    → IsTrue same ↔ Follows r wants p v a
follows-adds r wants p v a job mask event same kind_is may means =
    let call = call-adds a job mask event kind_is in
    subst (λ (b : JobCall). IsTrue same ↔ Follows r wants p v b) (sym call.2) (
      (λ t. (may.0, may.1, same-next call.0 (next_met (p.rest job)) (means.0 t ∙ ap Some call.1))),
      (λ f. means.1 (ap (option_map event_of) f.2 ∙ ap Some (sym call.1))),
    )

pub follows-waits : (r : Reports) (wants : Wants) (p : Progress) (v : ℕ) (a : JobCall) (job : ℕ) (mask : Option Mask) (local same : Bool)
    → kind.Waits job mask local ≡ kind_of a → (p.current v ≡ Some job) × MaskIs mask (wants (p.past job))
    → same ≡ is_awaited (option_map event_of (next_met (p.rest job))) local
    → IsTrue same ↔ Follows r wants p v a
follows-waits r wants p v a job mask local same kind_is may is =
    subst (λ (b : JobCall). IsTrue same ↔ Follows r wants p v b) (sym (call-waits a job mask local kind_is)) (
      (λ t. (may.0, may.1, awaits (next_met (p.rest job)) local (sym is ∙ t))),
      (λ f. is ∙ is-awaited (next_met (p.rest job)) local f.2.0 f.2.1 f.2.2),
    )

-- and where it may not be made, it doesn't follow
pub strays-adds : (r : Reports) (wants : Wants) (p : Progress) (v : ℕ) (a : JobCall) (job : ℕ) (mask : Option Mask) (event : Event)
    (may : Bool)
    → kind.Adds job mask event ≡ kind_of a → IsTrue may ↔ ((p.current v ≡ Some job) × MaskIs mask (wants (p.past job))) → may ≡ false
    → IsTrue may ↔ Follows r wants p v a
strays-adds r wants p v a job mask event may kind_is means not_so =
    let call = call-adds a job mask event kind_is in
    subst (λ (b : JobCall). IsTrue may ↔ Follows r wants p v b) (sym call.2)
    ((λ t. absurd (false≢true (sym not_so ∙ t))), (λ f. means.1 (f.0, f.1)))

pub strays-waits : (r : Reports) (wants : Wants) (p : Progress) (v : ℕ) (a : JobCall) (job : ℕ) (mask : Option Mask) (local may : Bool)
    → kind.Waits job mask local ≡ kind_of a → IsTrue may ↔ ((p.current v ≡ Some job) × MaskIs mask (wants (p.past job))) → may ≡ false
    → IsTrue may ↔ Follows r wants p v a
strays-waits r wants p v a job mask local may kind_is means not_so =
    subst (λ (b : JobCall). IsTrue may ↔ Follows r wants p v b) (sym (call-waits a job mask local kind_is))
    ((λ t. absurd (false≢true (sym not_so ∙ t))), (λ f. means.1 (f.0, f.1)))

pub same-as : (next other : Option Event) (event : Event) (same : Bool) → next ≡ other → IsTrue same ↔ (next ≡ Some event)
    → IsTrue same ↔ (other ≡ Some event)
same-as next other event same is means = subst (λ (o : Option Event). IsTrue same ↔ (o ≡ Some event)) is means
