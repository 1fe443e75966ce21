-- Waits for slots, and what they leave outstanding.
use Rattle.std.proofs.Common.{◌≡◌, ℕ, ◌+◌, ◌*◌, ◌≤◌, Bool, true, false, cond, List, [], ◌∷◌, ◌++◌, map, replicate}
use Rattle.std.proofs.Common.{refl, sym, ap, ◌∙◌, append_assoc, arith, true≢false}
use Rattle.std.proofs.lemmas.List.{replicate_more, map-append}
use Rattle.slot_table.specs.declared.mask.Mask.{Mask}
use Rattle.slot_table.specs.declared.calls.CallEntry.{CallEntry}
use Rattle.slot_table.specs.declared.calls.SlotCall.TheVariants.{Take, TakeLocal}
use Rattle.slot_table.specs.declared.calls.SlotReply.{SlotReply}
use Rattle.slot_table.specs.declared.calls.SlotReply.TheVariants.{Local}
use Rattle.slot_table.specs.Grants.{cost}
use Rattle.slot_table.specs.History.{entry, Holding, without, outstanding, outstanding_then}
use Rattle.slot_table.proofs.Histories.{outstanding_from-append}
use Rattle.slot_table.proofs.Holdings.{holding_eq-refl}
use Rattle.edge_traits.specs.Told.{Told, Grew}
use Rattle.edge_traits.proofs.ToldLemmas.{Grew-join}
use Rattle.job_run.specs.Events.{events_max}
use Rattle.job_run.specs.Seen.{IsHolding, StaysFree}
use Rattle.job_run.specs.Waits.{refused_local, borrowed, refused_take, asked}
use Rattle.job_run.specs.Went.{HasSpare, Spent}

-- what one more call leaves outstanding
pub outstanding-more : (es es' : List CallEntry) (e : CallEntry) → es' ≡ es ++ e ∷ []
    → outstanding es' ≡ outstanding_then (outstanding es) e
outstanding-more es es' e is = ap outstanding is ∙ outstanding_from-append [] es (e ∷ [])

given-all : (x : Holding) → without x (x ∷ []) ≡ []
given-all x = ap (λ (b : Bool). cond b [] (x ∷ [])) (holding_eq-refl x)

-- the calls of a wait for a local slot, one more each time
pub got-local : {w w' : ℕ} (job : ℕ) (old : List CallEntry) {mid new : List CallEntry} (n : ℕ) → w' ≡ w
    → mid ≡ old ++ replicate n (refused_local w job) → new ≡ mid ++ entry w' (TakeLocal job) (Local true) ∷ []
    → (m : ℕ) × (new ≡ old ++ borrowed w job m)
got-local {w = w} {w' = w'} job old {mid = mid} {new = new} n same is more = (
  n,
  more ∙ ap (λ (u : ℕ). mid ++ entry u (TakeLocal job) (Local true) ∷ []) same
      ∙ ap (λ (es : List CallEntry). es ++ entry w (TakeLocal job) (Local true) ∷ []) is
      ∙ append_assoc old (replicate n (refused_local w job)) (entry w (TakeLocal job) (Local true) ∷ []),
)

pub refused-more : {w w' : ℕ} (job : ℕ) (old : List CallEntry) {mid new : List CallEntry} (n : ℕ) → w' ≡ w
    → mid ≡ old ++ replicate n (refused_local w job) → new ≡ mid ++ refused_local w' job ∷ []
    → (m : ℕ) × (new ≡ old ++ replicate m (refused_local w job))
refused-more {w = w} {w' = w'} job old {mid = mid} {new = new} n same is more = (
  n + 1,
  more ∙ ap (λ (u : ℕ). mid ++ refused_local u job ∷ []) same ∙ ap (λ (es : List CallEntry). es ++ refused_local w job ∷ []) is
      ∙ append_assoc old (replicate n (refused_local w job)) (refused_local w job ∷ [])
      ∙ ap (λ (es : List CallEntry). old ++ es) (replicate_more n (refused_local w job)),
)

-- the calls of a wait for a host, with the moments that the clock gave
abbrev pub Waited : ℕ → ℕ → Mask → List CallEntry → List CallEntry → Told (List ℕ) → Told (List ℕ) → Type 0
Waited w job mask old now before moments =
    (refused : List ℕ) × (now ≡ old ++ map (refused_take w job mask) refused) × Grew before moments refused

pub waited-more : {w w' : ℕ} (job : ℕ) (mask : Mask) (old : List CallEntry) {mid new : List CallEntry} {a b c d : Told (List ℕ)} (now : ℕ)
    → w' ≡ w → Waited w job mask old mid a b → Grew b c (now ∷ []) → Grew c d [] → new ≡ mid ++ refused_take w' job mask now ∷ []
    → Waited w job mask old new a d
waited-more {w = w} {w' = w'} job mask old {mid = mid} {new = new} {a = a} {b = b} {c = c} {d = d} now same (refused, is, grew) looked
    paused more = (
      refused ++ now ∷ [],
      more ∙ ap (λ (u : ℕ). mid ++ refused_take u job mask now ∷ []) same
          ∙ ap (λ (es : List CallEntry). es ++ refused_take w job mask now ∷ []) is
          ∙ append_assoc old (map (refused_take w job mask) refused) (refused_take w job mask now ∷ [])
          ∙ ap (λ (es : List CallEntry). old ++ es) (sym (map-append (refused_take w job mask) refused (now ∷ []))),
      Grew-join grew (Grew-join looked paused refl) refl,
    )

pub got-host : {w w' : ℕ} (job : ℕ) (mask : Mask) (old : List CallEntry) {mid new : List CallEntry} {a b c : Told (List ℕ)} (now : ℕ)
    (reply : SlotReply)
    → w' ≡ w → Waited w job mask old mid a b → Grew b c (now ∷ []) → new ≡ mid ++ entry w' (Take job mask now) reply ∷ []
    → (refused : List ℕ) × (at : ℕ) × (new ≡ old ++ asked w job mask refused at reply) × Grew a c (refused ++ at ∷ [])
got-host {w = w} {w' = w'} job mask old {mid = mid} {new = new} {a = a} {b = b} {c = c} now reply same (refused, is, grew) looked more = (
  refused,
  now,
  more ∙ ap (λ (u : ℕ). mid ++ entry u (Take job mask now) reply ∷ []) same
      ∙ ap (λ (es : List CallEntry). es ++ entry w (Take job mask now) reply ∷ []) is
      ∙ append_assoc old (map (refused_take w job mask) refused) (entry w (Take job mask now) reply ∷ []),
  Grew-join grew looked refl,
)

-- what a call costs a caller that is not alone
pub no-cost : (alone : Bool) (spare spare' : ℕ) → (alone ≡ true → ⊥) → spare' + cost alone ≡ spare → spare' ≡ spare
no-cost true spare spare' never is = absurd (never refl)
no-cost false spare spare' never is = omega (arith, is)

pub spent-none : (alone : Bool) (left spare : ℕ) → Spent alone left spare left spare
spent-none alone left spare = record { alone_spent = λ e. omega arith; shared = λ e. refl; fell = omega arith }

-- a call and an event
spent-one : {alone : Bool} {left left' spare spare' : ℕ} → left' + 1 ≡ left → spare' + cost alone ≡ spare
    → Spent alone left spare left' spare'
spent-one {alone = true} {left = left} {left' = left'} {spare = spare} {spare' = spare'} one paid =
    record { alone_spent = λ e. omega (arith, one, paid); shared = λ e. absurd (true≢false e); fell = omega (arith, one) }
spent-one {alone = false} {left = left} {left' = left'} {spare = spare} {spare' = spare'} one paid =
    record { alone_spent = λ e. absurd (true≢false (sym e)); shared = λ e. omega (arith, paid); fell = omega (arith, one) }

-- the one slot that was held is given back by this call, which is noted
pub gave-noted : {G : Type 0} {is_ready : G → Type 0} {alone : Bool} {spare_of : G → ℕ} {mine_of : G → List CallEntry} {held : Holding}
    {old new : G} {left left' : ℕ} (call : CallEntry)
    → IsHolding is_ready alone spare_of mine_of (held ∷ []) old left 1 → is_ready new → spare_of new + cost alone ≡ spare_of old
    → mine_of new ≡ mine_of old ++ call ∷ [] → outstanding_then (held ∷ []) call ≡ without held (held ∷ []) → left' + 1 ≡ left
    → StaysFree is_ready alone spare_of mine_of old new left left' 1
gave-noted {held = held} call lent ready paid called gives noted = record {
  ready = ready;
  none = outstanding-more _ _ call called ∙ ap (λ (xs : List Holding). outstanding_then xs call) lent.out ∙ gives ∙ given-all held;
  spent = spent-one noted paid;
  room = omega (arith, noted);
}

pub spent-then : {alone : Bool} {left left1 left2 spare spare1 spare2 : ℕ} → Spent alone left spare left1 spare1
    → Spent alone left1 spare1 left2 spare2 → Spent alone left spare left2 spare2
spent-then {alone = alone} {left = left} {left1 = left1} {left2 = left2} {spare = spare} {spare1 = spare1} {spare2 = spare2} first second =
    record {
      alone_spent = λ e. let a : spare + left1 ≤ spare1 + left = first.alone_spent e
          in let b : spare1 + left2 ≤ spare2 + left1 = second.alone_spent e in omega (arith, a, b);
      shared = λ e. second.shared e ∙ first.shared e;
      fell = let a : left1 ≤ left = first.fell in let b : left2 ≤ left1 = second.fell in omega (arith, a, b);
    }

-- what is left is still enough
pub spare-then : (alone : Bool) (left left' spare spare' : ℕ) → Spent alone left spare left' spare' → HasSpare alone left spare
    → HasSpare alone left' spare'
spare-then alone left left' spare spare' spent has e =
    let a : spare + left' ≤ spare' + left = spent.alone_spent e in let b : left ≤ spare = has e in omega (arith, a, b)

-- at the end
pub spare-last : (alone : Bool) (left spare spare' : ℕ) → Spent alone events_max spare left spare'
    → spare ≤ spare' + events_max * cost alone
spare-last true left spare spare' spent = let a : spare + left ≤ spare' + events_max = spent.alone_spent refl in omega (arith, a)
spare-last false left spare spare' spent = let a : spare' ≡ spare = spent.shared refl in omega (arith, a)
