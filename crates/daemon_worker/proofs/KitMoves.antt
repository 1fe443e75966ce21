-- Kits that are moved into workers one after the other.
use Rattle.std.proofs.Common.{◌≡◌, List, [], ◌∷◌, ◌++◌, map, reverse, sym, ◌∙◌, ap, append_assoc}
use Rattle.std.proofs.lemmas.List.{map-append, reverse-append, reverse-reverse}
use Rattle.daemon_worker.specs.declared.log.DoorKit.{DoorKit}
use Rattle.daemon_worker.specs.declared.worker.Worker.{Worker}
use Rattle.daemon_worker.specs.Workers.{kit_of}

module _ {A S : Type 0} where
  pub one_moved : (doors left all : List (DoorKit A S)) (before after : List (Worker A S)) (worker : Worker A S)
      → doors ≡ left ++ kit_of worker ∷ [] → after ≡ before ++ worker ∷ []
      → doors ++ reverse (map kit_of before) ≡ all → left ++ reverse (map kit_of after) ≡ all
  one_moved doors left all before after worker popped pushed so_far =
      let kits : map kit_of after ≡ map kit_of before ++ kit_of worker ∷ [] =
      ap (map kit_of) pushed ∙ map-append kit_of before (worker ∷ []) in
      ap (λ l. left ++ reverse l) kits
      ∙ ap (λ l. left ++ l) (reverse-append (map kit_of before) (kit_of worker ∷ []))
      ∙ sym (append_assoc left (kit_of worker ∷ []) (reverse (map kit_of before)))
      ∙ ap (λ l. l ++ reverse (map kit_of before)) (sym popped)
      ∙ so_far

  pub all_moved : (left all : List (DoorKit A S)) (workers : List (Worker A S)) → left ++ reverse (map kit_of workers) ≡ reverse all
      → map kit_of workers ++ reverse left ≡ all
  all_moved left all workers are =
      ap (λ l. l ++ reverse left) (sym (reverse-reverse (map kit_of workers)))
      ∙ sym (reverse-append left (reverse (map kit_of workers)))
      ∙ ap reverse are
      ∙ reverse-reverse all
