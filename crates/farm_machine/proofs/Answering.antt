-- What the check of a run answers: which answers there are, and that each list has one.
use Rattle.std.proofs.Common.{◌≡◌, ◌⊎◌, inl, inr, ℕ, zero, suc, ◌+◌, ◌<◌, ◌≤◌, List, [], ◌∷◌, ◌++◌, length, get_or, take, drop, Option}
use Rattle.std.proofs.Common.{Some, None, refl, sym, ap, ◌∙◌, subst, arith}
use Rattle.std.specs.Prelude.{◌↔◌}
use Rattle.std.proofs.lemmas.List.{take-append-drop, take_all, take_more}
use Rattle.std.proofs.lemmas.List.FromFn.{length-range_with_len}
use Rattle.std.specs.List.{range_with_len}
use Rattle.slot_table.specs.declared.limits.Limits.{Limits}
use Rattle.slot_table.specs.declared.calls.CallEntry.{CallEntry}
use Rattle.slot_table.specs.History.{IsLegal, state_after}
use Rattle.slot_table.proofs.Draws.{draws-in-order}
use Rattle.farm_machine.specs.CheckRuns.{AreSound, BreaksAt, FallsShort}
use Rattle.farm_machine.specs.Farm.{wanted}
use Rattle.farm_machine.specs.Machine.{Wants}
use Rattle.farm_machine.specs.Weave.{Reports, Agrees, AllDrawn}
use Rattle.farm_machine.proofs.Prefixes.{sound-front}

abbrev pub IsAnswer : {h : ℕ} → Limits h → Reports → Wants → List CallEntry → Option ℕ → Type 0
IsAnswer l r wants calls None = Agrees l r wants calls
IsAnswer l r wants calls (Some place) = BreaksAt l r wants calls place ⊎ ((place ≡ length calls) × FallsShort l r wants calls)

-- a shorter front of a list is one of a longer
front-of : (m n : ℕ) (es : List CallEntry) → m ≤ n → take n es ≡ take m es ++ drop m (take n es)
front-of zero n es fits = refl
front-of (suc m) zero es fits = absurd (omega arith)
front-of (suc m) (suc n) [] fits = refl
front-of (suc m) (suc n) (e ∷ es) fits = ap (λ (xs : List CallEntry). e ∷ xs) (front-of m n es (omega arith))

sound-shorter : {h : ℕ} (l : Limits h) (r : Reports) (wants : Wants) (m n : ℕ) (es : List CallEntry) → m ≤ n
    → AreSound l r wants (take n es) → AreSound l r wants (take m es)
sound-shorter l r wants m n es fits sound =
    sound-front l r wants (take m es) (drop m (take n es))
    (subst (λ (xs : List CallEntry). AreSound l r wants xs) (front-of m n es fits) sound)

sound-any : {h : ℕ} (l : Limits h) (r : Reports) (wants : Wants) (n : ℕ) (es : List CallEntry) → AreSound l r wants es
    → AreSound l r wants (take n es)
sound-any l r wants n es sound =
    sound-front l r wants (take n es) (drop n es)
    (subst (λ (xs : List CallEntry). AreSound l r wants xs) (sym (take-append-drop n es)) sound)

sound-all : {h : ℕ} (l : Limits h) (r : Reports) (wants : Wants) (es : List CallEntry) → Agrees l r wants es → AreSound l r wants es
sound-all l r wants es agrees = record { legal = agrees.legal; follow = agrees.follow }

-- calls break at one place alone
not-before : {h : ℕ} (l : Limits h) (r : Reports) (wants : Wants) (es : List CallEntry) (m n : ℕ) → BreaksAt l r wants es m
    → BreaksAt l r wants es n → ¬ (m < n)
not-before l r wants es m n first second below = first.broken (sound-shorter l r wants (m + 1) n es (omega arith) second.before)

one-place : {h : ℕ} (l : Limits h) (r : Reports) (wants : Wants) (es : List CallEntry) (m n : ℕ) → BreaksAt l r wants es m
    → BreaksAt l r wants es n → m ≡ n
one-place l r wants es m n first second =
    let not_less = not-before l r wants es m n first second in
    let not_more = not-before l r wants es n m second first in
    omega (arith, not_less, not_more)

pub agrees-only : {h : ℕ} (l : Limits h) (r : Reports) (wants : Wants) (es : List CallEntry) (result : Option ℕ)
    → IsAnswer l r wants es result → (result ≡ None) ↔ Agrees l r wants es
agrees-only l r wants es None answer = ((λ e. answer), (λ agrees. refl))
agrees-only l r wants es (Some place) (inl breaks) =
    ((λ e. cc), (λ agrees. absurd (breaks.broken (sound-any l r wants (place + 1) es (sound-all l r wants es agrees)))))
agrees-only l r wants es (Some place) (inr (last, falls)) = ((λ e. cc), (λ agrees. absurd (falls.short (agrees.drawn, agrees.used))))

pub breaks-only : {h : ℕ} (l : Limits h) (r : Reports) (wants : Wants) (es : List CallEntry) (result : Option ℕ)
    → IsAnswer l r wants es result → (place : ℕ) → place < length es → (result ≡ Some place) ↔ BreaksAt l r wants es place
breaks-only l r wants es None answer place below =
    ((λ e. cc), (λ breaks. absurd (breaks.broken (sound-any l r wants (place + 1) es (sound-all l r wants es answer)))))
breaks-only l r wants es (Some other) (inl breaks) place below = (
  λ e. let same : other ≡ place = cc in
      subst (λ (k : ℕ). BreaksAt l r wants es k) same breaks,
  λ other_breaks. ap Some (one-place l r wants es other place breaks other_breaks),
)
breaks-only l r wants es (Some other) (inr (last, falls)) place below = (
  λ e. let same : other ≡ place = cc in
      absurd (omega (arith, same, last, below)),
  λ breaks. absurd (breaks.broken (sound-any l r wants (place + 1) es falls.sound)),
)

pub falls-only : {h : ℕ} (l : Limits h) (r : Reports) (wants : Wants) (es : List CallEntry) (result : Option ℕ)
    → IsAnswer l r wants es result → (result ≡ Some (length es)) ↔ FallsShort l r wants es
falls-only l r wants es None answer = ((λ e. cc), (λ falls. absurd (falls.short (answer.drawn, answer.used))))
falls-only l r wants es (Some other) (inl breaks) = (
  λ e. let same : other ≡ length es = cc in let below = breaks.below in
      absurd (omega (arith, same, below)),
  λ falls. absurd (breaks.broken (sound-any l r wants (other + 1) es falls.sound)),
)
falls-only l r wants es (Some other) (inr (last, falls)) = ((λ e. falls), (λ again. ap Some last))

-- every job was drawn where the next number is the number of jobs
pub drawn-all : {h : ℕ} (l : Limits h) (es : List CallEntry) → IsLegal l es → (state_after l es).next ≡ l.jobs → AllDrawn l es
drawn-all {h} l es legal last = draws-in-order h l es legal ∙ ap (range_with_len 0) last

pub next-last : {h : ℕ} (l : Limits h) (es : List CallEntry) → IsLegal l es → AllDrawn l es → (state_after l es).next ≡ l.jobs
next-last {h} l es legal drawn =
    sym (length-range_with_len 0 (state_after l es).next) ∙ ap length (sym (draws-in-order h l es legal) ∙ drawn)
    ∙ length-range_with_len 0 l.jobs

-- all calls of a list that was gone through are sound
pub sound-end : {h : ℕ} (l : Limits h) (r : Reports) (wants : Wants) (place : ℕ) (es : List CallEntry) → length es ≤ place
    → AreSound l r wants (take place es) → AreSound l r wants es
sound-end l r wants place es past sound = subst (λ (xs : List CallEntry). AreSound l r wants xs) (take_all place es past) sound

-- where the calls before a place and the one there aren't sound, those before the next place aren't
pub broken-with : {h : ℕ} (l l' : Limits h) (r : Reports) (place : ℕ) (es : List CallEntry) (e : CallEntry)
    → l' ≡ l → place < length es → ¬ (AreSound l' r (wanted l') (take place es ++ get_or es place e ∷ []))
    → ¬ (AreSound l r (wanted l) (take (place + 1) es))
broken-with {h} l l' r place es e same below broken sound =
    broken (subst (λ (k : Limits h). AreSound k r (wanted k) (take place es ++ get_or es place e ∷ [])) (sym same)
    (subst (λ (xs : List CallEntry). AreSound l r (wanted l) xs) (take_more es place e below) sound))
