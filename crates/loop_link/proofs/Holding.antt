-- What a link holds, after each of its calls.
use Rattle.std.proofs.Common.{◌≡◌, ℕ, ◌≤◌, Bool, true, false, List, ◌++◌, length, take, inl, inr, refl, sym, ◌∙◌, ap, subst, arith}
use Rattle.std.proofs.Math.Seq.{take-length}
use Rattle.std.proofs.lemmas.List.{take-append-le}
use Rattle.farm_types.specs.declared.placed.Word.{Word}
use Rattle.farm_types.specs.declared.ran.Ran.{Ran}
use Rattle.edge_traits.specs.Stations.{StationView}
use Rattle.edge_traits.proofs.CountLemmas.{RoseBy-later, later-RoseBy}
use Rattle.daemon_service.specs.declared.compilers.Compiler.{Compiler}
use Rattle.loop_link.specs.Ends.{EndsWhole, BeginsEmpty}
use Rattle.loop_link.specs.Replies.{StationRose, IsSilent, Serves}
use Rattle.loop_link.specs.Links.{LoopState}

-- counts that rose, between two earlier and later moments
rose_around : (a b c d : StationView) → a.faults ≤ b.faults → a.overruns ≤ b.overruns → c.faults ≤ d.faults
    → c.overruns ≤ d.overruns → StationRose b c → StationRose a d
rose_around a b c d f o f' o' (inl rose) =
    inl (RoseBy-later 1 a.faults c.faults d.faults (later-RoseBy 1 a.faults b.faults c.faults f rose) f')
rose_around a b c d f o f' o' (inr rose) =
    inr (RoseBy-later 1 a.overruns c.overruns d.overruns (later-RoseBy 1 a.overruns b.overruns c.overruns o rose) o')

silent_around : (sent : List ℕ) (a b c d : StationView) → a.faults ≤ b.faults → a.overruns ≤ b.overruns → c.faults ≤ d.faults
    → c.overruns ≤ d.overruns → IsSilent sent b c → IsSilent sent a d
silent_around sent a b c d f o f' o' (inl none) = inl none
silent_around sent a b c d f o f' o' (inr rose) = inr (rose_around a b c d f o f' o' rose)

module _ (table : List Compiler) (ran : List Word → List ℕ → Ran → Type 0) where
  pub serves_around : (sent reply : List ℕ) (a b c d : StationView) → a.faults ≤ b.faults → a.overruns ≤ b.overruns
      → c.faults ≤ d.faults → c.overruns ≤ d.overruns → Serves table ran sent b c reply → Serves table ran sent a d reply
  serves_around sent reply a b c d f o f' o' (inl is) = inl is
  serves_around sent reply a b c d f o f' o' (inr none) = inr (none.0, silent_around sent a b c d f o f' o' none.1)

  -- more was sent behind what the service saw
  pub serves_longer : (sent more reply : List ℕ) (seen : ℕ) (a b : StationView) → seen ≤ length sent
      → Serves table ran (take seen sent) a b reply → Serves table ran (take seen (sent ++ more)) a b reply
  serves_longer sent more reply seen a b within serves =
      subst (λ s. Serves table ran s a b reply) (sym (take-append-le seen sent more within)) serves

  -- a link that has ended
  pub ended_served : (link : LoopState) (served : Bool) (a b : StationView)
      → (served ≡ true → Serves table ran (take link.seen link.sent) a b link.reply)
      → BeginsEmpty served link.ended link.at link.reply → EndsWhole link.ended link.at link.reply → link.ended ≡ true
      → Serves table ran (take link.seen link.sent) a b (take link.at link.reply)
  ended_served link true a b serves empty whole end =
      subst (λ text. Serves table ran (take link.seen link.sent) a b text)
      (sym (ap (λ k. take k link.reply) (whole end) ∙ take-length link.reply)) (serves refl)
  ended_served link false a b serves empty whole end = absurd (cc ((empty refl).0, end))

  -- after the service ran
  pub holds_served : (sent reply : List ℕ) (seen : ℕ) (dialed before after : StationView) → seen ≡ length sent
      → dialed.faults ≤ before.faults → dialed.overruns ≤ before.overruns → before.faults ≤ after.faults
      → before.overruns ≤ after.overruns → Serves table ran sent before after reply → Serves table ran (take seen sent) dialed after reply
  holds_served sent reply seen dialed before after all f o f' o' serves =
      subst (λ text. Serves table ran text dialed after reply) (sym (ap (λ k. take k sent) all ∙ take-length sent))
      (serves_around sent reply dialed before after after f o (omega arith) (omega arith) serves)
