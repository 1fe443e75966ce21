-- Doors whose stations share a book, and the same doors without it.
use Rattle.std.proofs.Common.{◌≡◌, ℕ, suc, ◌+◌, List, [], ◌∷◌, ◌++◌, length, map, reverse, take, drop, refl, sym, ◌∙◌, ap, subst}
use Rattle.std.proofs.Common.{length-append, length-drop, arith}
use Rattle.std.specs.Prelude.{Result, Ok, Err, All, IfOk, IfErr}
use Rattle.std.proofs.lemmas.List.{length-map, take-append-drop, reverse-append}
use Rattle.std.proofs.lemmas.List.Elements.{All-nil, All-cons, All-head, All-tail, All-append}
use Rattle.farm_types.specs.declared.placed.Word.{Word}
use Rattle.farm_types.specs.declared.ran.Ran.{Ran}
use Rattle.edge_traits.specs.Doors.{DoorView}
use Rattle.edge_traits.specs.Stations.{StationView}
use Rattle.access_list.specs.declared.rule.Rule.{Rule}
use Rattle.daemon_service.specs.declared.compilers.Compiler.{Compiler}
use Rattle.daemon_worker.specs.declared.log.DoorKit.{DoorKit}
use Rattle.daemon_worker.specs.declared.log.Entry.{Entry}
use Rattle.daemon_worker.specs.Logs.{DoorsServed}
use Rattle.object_cache.specs.Stations.{cached_shows}
use Rattle.shared_cache.specs.declared.station.Counts.{Counts as DoorCounts}
use Rattle.shared_cache.specs.Shared.{Shared}
use Rattle.daemon_program.specs.Sharing.{bare_kit, counts_line, counts_text}
use Rattle.daemon_program.proofs.Beside.{first_of, others_of, whole}

module _ {A S : Type 0} (table : List Compiler) (rules : List Rule) (serve : ℕ) (door : A → DoorView) (station : S → StationView)
    (ran : S → List Word → List ℕ → Ran → Type 0) where
  -- a station beside a book makes what the station makes
  abbrev of_shared : Shared S → StationView
  of_shared c = cached_shows (station c.station)

  abbrev ran_shared : Shared S → List Word → List ℕ → Ran → Type 0
  ran_shared c = ran c.station

  bare_doors : (number : ℕ) (olds news : List (DoorKit A (Shared S))) (log : List Entry)
      → DoorsServed table rules serve door of_shared ran_shared number olds news log
      → DoorsServed table rules serve door (λ s. cached_shows (station s)) ran number (map bare_kit olds) (map bare_kit news) log
  bare_doors number [] [] log done = done
  bare_doors number [] (new ∷ news) log done = absurd done
  bare_doors number (old ∷ olds) [] log done = absurd done
  bare_doors number (old ∷ olds) (new ∷ news) log done = (done.0, done.1, done.2, done.3, bare_doors (suc number) olds news done.1 done.4)

  same_many : (number : ℕ) (olds news : List (DoorKit A (Shared S))) (log : List Entry)
      → DoorsServed table rules serve door of_shared ran_shared number olds news log → length olds ≡ length news
  same_many number [] [] log done = refl
  same_many number [] (new ∷ news) log done = absurd done
  same_many number (old ∷ olds) [] log done = absurd done
  same_many number (old ∷ olds) (new ∷ news) log done = ap suc (same_many (suc number) olds news done.1 done.4)

  module _ (count : ℕ) (ins outs : List (DoorKit A (Shared S))) (many : length ins ≡ count) where
    -- as many kits come out as went in
    pub count_ok : (log : List Entry) → DoorsServed table rules serve door of_shared ran_shared 1 (take count ins) (take count outs) log
        → drop count outs ≡ drop count ins → length outs ≡ count
    count_ok log done others =
        let taken : length ins ≡ length (take count outs) = ap length (sym (whole count ins many))
        ∙ same_many 1 (take count ins) (take count outs) log done in
        let none : length (drop count outs) ≡ 0 = ap length others ∙ omega (arith, length-drop count ins, many) in
        omega (arith, many, taken, none, ap length (take-append-drop count outs), length-append (take count outs) (drop count outs))

    pub count_out : {E : Type 0} (result : Result (List Entry) E)
        → IfOk result (λ log. DoorsServed table rules serve door of_shared ran_shared 1 (take count ins) (take count outs) log)
        → IfOk result (λ _. drop count outs ≡ drop count ins) → IfErr result (λ _. outs ≡ ins) → length outs ≡ count
    count_out (Ok log) done others same = count_ok log done others
    count_out (Err wanted) done others same = ap length same ∙ many

    module _ (left olds news : List (DoorKit A S)) (before : map bare_kit ins ++ reverse left ≡ olds)
        (after : news ≡ map bare_kit outs ++ reverse left) where
      -- what was served beside books is what was served at the doors
      pub served_bare : (log : List Entry)
          → DoorsServed table rules serve door of_shared ran_shared 1 (take count ins) (take count outs) log
          → drop count outs ≡ drop count ins
          → DoorsServed table rules serve door (λ s. cached_shows (station s)) ran 1 (take count olds) (take count news) log
      served_bare log done others =
          let same = count_ok log done others in
          let first : take count olds ≡ map bare_kit (take count ins) =
          first_of count (map bare_kit ins) (reverse left) olds (length-map ins bare_kit ∙ many) (sym before)
          ∙ ap (map bare_kit) (sym (whole count ins many)) in
          let last : take count news ≡ map bare_kit (take count outs) =
          first_of count (map bare_kit outs) (reverse left) news (length-map outs bare_kit ∙ same) after
          ∙ ap (map bare_kit) (sym (whole count outs same)) in
          subst (λ l. DoorsServed table rules serve door (λ s. cached_shows (station s)) ran 1 l (take count news) log) (sym first)
          (subst (λ l. DoorsServed table rules serve door (λ s. cached_shows (station s)) ran 1 (map bare_kit (take count ins)) l log)
          (sym last)
          (bare_doors 1 (take count ins) (take count outs) log done))

      pub others_bare : length outs ≡ count → drop count news ≡ drop count olds
      others_bare same =
          others_of count (map bare_kit outs) (reverse left) news (length-map outs bare_kit ∙ same) after
          ∙ sym (others_of count (map bare_kit ins) (reverse left) olds (length-map ins bare_kit ∙ many) (sym before))

      pub same_bare : outs ≡ ins → news ≡ olds
      same_bare same = after ∙ ap (λ l. map bare_kit l ++ reverse left) same ∙ before

-- ---- all of some elements

pub all_reversed : {X : Type 0} (P : X → Type 0) (xs : List X) → All P xs → All P (reverse xs)
all_reversed P [] all = All-nil P
all_reversed P (x ∷ xs) all =
    subst (All P) (sym (reverse-append (x ∷ []) xs))
    (All-append P (reverse xs) (x ∷ []) (all_reversed P xs (All-tail P x xs all)) (All-cons P x [] (All-head P x xs all) (All-nil P)))

pub all_popped : {X : Type 0} (P : X → Type 0) (xs : List X) (x : X) → All P (xs ++ x ∷ []) → All P xs × P x
all_popped P [] x all = (All-nil P, All-head P x [] all)
all_popped P (y ∷ xs) x all =
    let rest = all_popped P xs x (All-tail P y (xs ++ x ∷ []) all) in
    (All-cons P y xs (All-head P y (xs ++ x ∷ []) all) rest.0, rest.1)

-- the line of the first of some doors, and the lines of the others
pub first_counts : (door : ℕ) (counts : DoorCounts) (all more : List DoorCounts) → all ≡ counts ∷ more
    → counts_text door all ≡ counts_line door counts ++ counts_text (door + 1) more
first_counts door counts all more are =
    let next : suc door ≡ door + 1 = omega arith in
    ap (counts_text door) are ∙ ap (λ n. counts_line door counts ++ counts_text n more) next
