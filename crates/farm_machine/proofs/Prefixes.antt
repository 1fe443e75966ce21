-- One call more at the end of a list.
use Rattle.std.proofs.Common.{◌≡◌, ℕ, ◌+◌, ◌<◌, List, [], ◌∷◌, ◌++◌, length, get_or, take, refl, ap, ◌∙◌}
use Rattle.std.proofs.lemmas.List.{take_more}
use Rattle.slot_table.specs.declared.limits.Limits.{Limits}
use Rattle.slot_table.specs.declared.calls.CallEntry.{CallEntry}
use Rattle.slot_table.specs.Step.{opening}
use Rattle.slot_table.specs.History.{state_after, outstanding, IsNext}
use Rattle.slot_table.proofs.Histories.{legal-more, legal-front, legal-rest}
use Rattle.farm_machine.specs.CheckRuns.{AreSound}
use Rattle.farm_machine.specs.Machine.{Wants, job_call_of}
use Rattle.farm_machine.specs.Weave.{Reports, Progress, no_progress, next_progress, last_progress, Follows, AllFollow}

pub progress-more : (p : Progress) (es : List CallEntry) (e : CallEntry)
    → last_progress p (es ++ e ∷ []) ≡ next_progress (last_progress p es) e
progress-more p [] e = refl
progress-more p (x ∷ es) e = progress-more (next_progress p x) es e

pub follow-more : (r : Reports) (wants : Wants) (p : Progress) (es : List CallEntry) (e : CallEntry)
    → AllFollow r wants p es → Follows r wants (last_progress p es) e.caller (job_call_of e) → AllFollow r wants p (es ++ e ∷ [])
follow-more r wants p [] e all follows = (follows, tt)
follow-more r wants p (x ∷ es) e all follows = (all.0, follow-more r wants (next_progress p x) es e all.1 follows)

pub follow-front : (r : Reports) (wants : Wants) (p : Progress) (es fs : List CallEntry) → AllFollow r wants p (es ++ fs)
    → AllFollow r wants p es
follow-front r wants p [] fs all = tt
follow-front r wants p (x ∷ es) fs all = (all.0, follow-front r wants (next_progress p x) es fs all.1)

pub follow-last : (r : Reports) (wants : Wants) (p : Progress) (es : List CallEntry) (e : CallEntry)
    → AllFollow r wants p (es ++ e ∷ []) → Follows r wants (last_progress p es) e.caller (job_call_of e)
follow-last r wants p [] e all = all.0
follow-last r wants p (x ∷ es) e all = follow-last r wants (next_progress p x) es e all.1

-- what a call adds to sound calls before it
pub sound-more : {h : ℕ} (l : Limits h) (r : Reports) (wants : Wants) (es : List CallEntry) (e : CallEntry)
    → AreSound l r wants es → IsNext l (state_after l es) (outstanding es) e
    → Follows r wants (last_progress (no_progress r) es) e.caller (job_call_of e) → AreSound l r wants (es ++ e ∷ [])
sound-more {h} l r wants es e sound next follows = record {
  legal = legal-more l (opening h) [] es e sound.legal next;
  follow = follow-more r wants (no_progress r) es e sound.follow follows;
}

pub sound-front : {h : ℕ} (l : Limits h) (r : Reports) (wants : Wants) (es fs : List CallEntry) → AreSound l r wants (es ++ fs)
    → AreSound l r wants es
sound-front {h} l r wants es fs sound = record {
  legal = legal-front l (opening h) [] es fs sound.legal;
  follow = follow-front r wants (no_progress r) es fs sound.follow;
}

pub sound-next : {h : ℕ} (l : Limits h) (r : Reports) (wants : Wants) (es : List CallEntry) (e : CallEntry)
    → AreSound l r wants (es ++ e ∷ []) → IsNext l (state_after l es) (outstanding es) e
sound-next {h} l r wants es e sound = (legal-rest l (opening h) [] es (e ∷ []) sound.legal).0

pub sound-follows : {h : ℕ} (l : Limits h) (r : Reports) (wants : Wants) (es : List CallEntry) (e : CallEntry)
    → AreSound l r wants (es ++ e ∷ []) → Follows r wants (last_progress (no_progress r) es) e.caller (job_call_of e)
sound-follows l r wants es e sound = follow-last r wants (no_progress r) es e sound.follow

-- the calls up to a place and the one there
pub progress-at : (p : Progress) (es : List CallEntry) (i : ℕ) (e : CallEntry) → i < length es
    → last_progress p (take (i + 1) es) ≡ next_progress (last_progress p (take i es)) (get_or es i e)
progress-at p es i e below = ap (last_progress p) (take_more es i e below) ∙ progress-more p (take i es) (get_or es i e)
