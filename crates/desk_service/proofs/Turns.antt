-- One turn more.
use Rattle.std.proofs.Common.{◌≡◌, ℕ, Bool, true, false, List, [], ◌∷◌, ◌++◌, Option, Some, None, refl, sym, ap, ◌∙◌, subst, append_assoc}
use Rattle.std.specs.Prelude.{if◌then◌else◌}
use Rattle.std.specs.List.{cons_option}
use Rattle.std.proofs.lemmas.List.{append-nil}
use Rattle.edge_traits.specs.Told.{Grew, Told}
use Rattle.edge_traits.proofs.ToldLemmas.{Grew-join, Grew-refl}
use Rattle.slot_desk.specs.declared.event.Event.{Event}
use Rattle.slot_desk.specs.Desk.{Rules, State, is_known}
use Rattle.slot_desk.specs.Runs.{after}
use Rattle.desk_service.specs.declared.callers.Came.{Came}
use Rattle.desk_service.specs.Connections.{Entry, Said, Closed, reply_entries}
use Rattle.desk_service.specs.Service.{Turn, Heard, Looked, event_of, stepped, state_then, turn_entries, events_in, entries_in, due_then}
use Rattle.desk_service.specs.Service.{MayCome, IsFair, Served, Turned, HeardLine, line_event}

-- the state after turns, one by one
abbrev pub state_after : {h : ℕ} → Rules h → List ℕ → State h → List Turn → State h
state_after r token v [] = v
state_after r token v (t ∷ ts) = state_after r token (state_then r token v t) ts

abbrev pub due_after : {h : ℕ} → Rules h → List ℕ → Bool → State h → List Turn → Bool
due_after r token due v [] = due
due_after r token due v (t ∷ ts) = due_after r token (due_then r token v t) (state_then r token v t) ts

-- the turns so far
pub record Serving {h : ℕ} (r : Rules h) (token : List ℕ) (v v' : State h) (log log' : Told (List Entry)) (wanted : Bool) : Type 0 where
  pub turns : List Turn
  pub state : v' ≡ state_after r token v turns
  pub recorded : Grew log log' (entries_in r token v turns)
  pub fair : IsFair r token false v turns
  pub due : wanted ≡ due_after r token false v turns

state-more : {h : ℕ} (r : Rules h) (token : List ℕ) (v : State h) (ts : List Turn) (t : Turn)
    → state_after r token v (ts ++ t ∷ []) ≡ state_then r token (state_after r token v ts) t
state-more r token v [] t = refl
state-more r token v (u ∷ ts) t = state-more r token (state_then r token v u) ts t

entries-more : {h : ℕ} (r : Rules h) (token : List ℕ) (v : State h) (ts : List Turn) (t : Turn)
    → entries_in r token v (ts ++ t ∷ []) ≡ entries_in r token v ts ++ turn_entries r token (state_after r token v ts) t
entries-more r token v [] t = append-nil (turn_entries r token v t)
entries-more r token v (u ∷ ts) t =
    ap (λ (l : List Entry). turn_entries r token v u ++ l) (entries-more r token (state_then r token v u) ts t)
    ∙ sym (append_assoc (turn_entries r token v u) (entries_in r token (state_then r token v u) ts)
    (turn_entries r token (state_after r token (state_then r token v u) ts) t))

due-more : {h : ℕ} (r : Rules h) (token : List ℕ) (due : Bool) (v : State h) (ts : List Turn) (t : Turn)
    → due_after r token due v (ts ++ t ∷ []) ≡ due_then r token (state_after r token v ts) t
due-more r token due v [] t = refl
due-more r token due v (u ∷ ts) t = due-more r token (due_then r token v u) (state_then r token v u) ts t

fair-more : {h : ℕ} (r : Rules h) (token : List ℕ) (due : Bool) (v : State h) (ts : List Turn) (t : Turn) → IsFair r token due v ts
    → MayCome (due_after r token due v ts) t → IsFair r token due v (ts ++ t ∷ [])
fair-more r token due v [] t fair may = (may, tt)
fair-more r token due v (u ∷ ts) t fair may =
    (fair.0, fair-more r token (due_then r token v u) (state_then r token v u) ts t fair.1 may)

pub serving-begun : {h : ℕ} (r : Rules h) (token : List ℕ) (v : State h) (log : Told (List Entry)) → Serving r token v v log log false
serving-begun r token v log = record { turns = []; state = refl; recorded = Grew-refl log; fair = tt; due = refl }

pub serving-more : {h : ℕ} (r : Rules h) (token : List ℕ) (v v' v'' : State h) (log log' log'' : Told (List Entry)) (due : Bool) (t : Turn)
    → Serving r token v v' log log' due → Turned r token v' v'' log' log'' t → MayCome due t
    → Serving r token v v'' log log'' (due_then r token v' t)
serving-more {h} r token v v' v'' log log' log'' due t k one may = record {
  turns = k.turns ++ t ∷ [];
  state = one.state ∙ ap (λ (w : State h). state_then r token w t) k.state ∙ sym (state-more r token v k.turns t);
  recorded = Grew-join k.recorded one.recorded (ap (λ (w : State h). entries_in r token v k.turns ++ turn_entries r token w t) k.state
      ∙ sym (entries-more r token v k.turns t));
  fair = fair-more r token false v k.turns t k.fair (subst (λ (d : Bool). MayCome d t) k.due may);
  due = ap (λ (w : State h). due_then r token w t) k.state ∙ sym (due-more r token false v k.turns t);
}

after-stepped : {h : ℕ} (r : Rules h) (v : State h) (o : Option Event) (es : List Event)
    → after r v (cons_option o es) ≡ after r (stepped r v o).0 es
after-stepped r v None es = refl
after-stepped r v (Some e) es = refl

-- the events are those of a run of the desk
after-events : {h : ℕ} (r : Rules h) (token : List ℕ) (v : State h) (ts : List Turn)
    → state_after r token v ts ≡ after r v (events_in r token v ts)
after-events r token v [] = refl
after-events r token v (t ∷ ts) =
    after-events r token (state_then r token v t) ts
    ∙ sym (after-stepped r v (event_of token v t) (events_in r token (state_then r token v t) ts))

pub served : {h : ℕ} (r : Rules h) (token : List ℕ) (v v' : State h) (log log' : Told (List Entry)) (due : Bool)
    → Serving r token v v' log log' due → Served r token v v' log log'
served r token v v' log log' due k =
    record { turns = k.turns; state = k.state ∙ after-events r token v k.turns; recorded = k.recorded; fair = k.fair }

-- the turn in which a caller says a line
pub heard-line : {h : ℕ} (r : Rules h) (token : List ℕ) (v v' : State h) (log mid log' : Told (List Entry)) (caller : ℕ)
    (line text : List ℕ) (now : ℕ) → text ≡ line → Grew log mid (Said caller line now ∷ [])
    → HeardLine r token v v' mid log' caller text now
    → (v' ≡ (stepped r v (line_event token v caller line now)).0) × Grew log log' (Said caller line now ∷ [] ++ (reply_entries
    (stepped r v (line_event token v caller line now)).1
    ++ (if is_known (stepped r v (line_event token v caller line now)).0 caller then [] else Closed caller ∷ [])))
heard-line r token v v' log mid log' caller line text now same came heard =
    let one = subst (λ (l : List ℕ). HeardLine r token v v' mid log' caller l now) same heard in
    (one.state, Grew-join came one.recorded refl)

-- the turns so far, by other names
pub serving-as : {h : ℕ} (r : Rules h) (token : List ℕ) (v a b : State h) (log x y : Told (List Entry)) (d e : Bool)
    → Serving r token v a log x d → b ≡ a → y ≡ x → e ≡ d → Serving r token v b log y e
serving-as {h} r token v a b log x y d e k state same due =
    subst (λ (s : State h). Serving r token v s log y e) (sym state)
    (subst (λ (l : Told (List Entry)). Serving r token v a log l e) (sym same)
    (subst (λ (f : Bool). Serving r token v a log x f) (sym due) k))

pub heard-next : {h : ℕ} (r s : Rules h) (token : List ℕ) (v a b : State h) (log x y : Told (List Entry)) (due : Bool)
    → Serving r token v a log x due → s ≡ r → due ≡ false → (came : Came) → Turned s token a b x y (Heard came)
    → Serving r token v b log y true
heard-next {h} r s token v a b log x y due k same none came one =
    serving-more r token v a b log x y due (Heard came) k (subst (λ (q : Rules h). Turned q token a b x y (Heard came)) same one)
    (subst (λ (d : Bool). MayCome d (Heard came)) (sym none) tt)

may-look : (due : Bool) (now : ℕ) → MayCome due (Looked now)
may-look true now = tt
may-look false now = tt

pub looked-next : {h : ℕ} (r s : Rules h) (token : List ℕ) (v a b : State h) (log x y : Told (List Entry)) (due more : Bool) (now : ℕ)
    → Serving r token v a log x due → s ≡ r → Turned s token a b x y (Looked now) → more ≡ due_then s token a (Looked now)
    → Serving r token v b log y more
looked-next {h} r s token v a b log x y due more now k same one is =
    subst (λ (d : Bool). Serving r token v b log y d) (sym (is ∙ ap (λ (q : Rules h). due_then q token a (Looked now)) same))
    (serving-more r token v a b log x y due (Looked now) k
    (subst (λ (q : Rules h). Turned q token a b x y (Looked now)) same one) (may-look due now))
