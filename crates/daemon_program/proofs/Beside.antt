-- Doors whose stations stand beside books, and the same doors without them.
use Rattle.std.proofs.Common.{◌≡◌, ℕ, suc, ◌+◌, List, [], ◌∷◌, ◌++◌, length, map, reverse, take, drop, refl, sym, ◌∙◌, ap, subst}
use Rattle.std.proofs.Common.{append_assoc, length-append, length-drop, arith}
use Rattle.std.specs.Prelude.{All, Result, Ok, Err, IfOk, IfErr}
use Rattle.std.proofs.lemmas.List.Elements.{All-append, All-cons, All-nil}
use Rattle.std.proofs.Math.Seq.{take-append_seam, take-length, drop-append-add}
use Rattle.std.proofs.lemmas.List.{length-map, map-append, reverse-append, reverse-reverse, take-append-drop}
use Rattle.farm_types.specs.declared.placed.Word.{Word}
use Rattle.farm_types.specs.declared.ran.Ran.{Ran}
use Rattle.edge_traits.specs.Doors.{DoorView}
use Rattle.edge_traits.specs.Stations.{StationView}
use Rattle.access_list.specs.declared.rule.Rule.{Rule}
use Rattle.daemon_service.specs.declared.compilers.Compiler.{Compiler}
use Rattle.daemon_worker.specs.declared.log.DoorKit.{DoorKit}
use Rattle.daemon_worker.specs.declared.log.Entry.{Entry}
use Rattle.daemon_worker.specs.Logs.{DoorsServed}
use Rattle.object_cache.specs.Stations.{Cached, cached_shows}
use Rattle.daemon_program.specs.Books.{plain_kit}

-- one more is moved from the end of a list, and seen as `f` sees it
pub one_moved : {J K : Type 0} (f : J → K) (doors left all : List K) (before after : List J) (kit : J) → doors ≡ left ++ f kit ∷ []
    → after ≡ before ++ kit ∷ []
    → doors ++ reverse (map f before) ≡ all → left ++ reverse (map f after) ≡ all
one_moved f doors left all before after kit popped pushed so_far =
    let kits : map f after ≡ map f before ++ f kit ∷ [] = ap (map f) pushed ∙ map-append f before (kit ∷ []) in
    ap (λ l. left ++ reverse l) kits
    ∙ ap (λ l. left ++ l) (reverse-append (map f before) (f kit ∷ []))
    ∙ sym (append_assoc left (f kit ∷ []) (reverse (map f before)))
    ∙ ap (λ l. l ++ reverse (map f before)) (sym popped)
    ∙ so_far

-- the other way
pub one_back : {J K : Type 0} (f : J → K) (doors more all : List K) (before after : List J) (kit : J) → more ≡ doors ++ f kit ∷ []
    → before ≡ after ++ kit ∷ []
    → doors ++ reverse (map f before) ≡ all → more ++ reverse (map f after) ≡ all
one_back f doors more all before after kit pushed popped so_far =
    let kits : map f before ≡ map f after ++ f kit ∷ [] = ap (map f) popped ∙ map-append f after (kit ∷ []) in
    ap (λ l. l ++ reverse (map f after)) pushed
    ∙ append_assoc doors (f kit ∷ []) (reverse (map f after))
    ∙ ap (λ l. doors ++ l) (sym (reverse-append (map f after) (f kit ∷ [])))
    ∙ ap (λ l. doors ++ reverse l) (sym kits)
    ∙ so_far

-- what holds of all but the last holds of all, if it holds of the last
pub one_more_within : {K : Type 0} (P : K → Type 0) (front all : List K) (last : K) → all ≡ front ++ last ∷ [] → All P front → P last
    → All P all
one_more_within P front all last are most one =
    subst (All P) (sym are) (All-append P front (last ∷ []) most (All-cons P last [] one (All-nil P)))

pub all_moved : {K : Type 0} (left all moved : List K) → left ++ reverse moved ≡ reverse all → moved ++ reverse left ≡ all
all_moved left all moved are =
    ap (λ l. l ++ reverse left) (sym (reverse-reverse moved))
    ∙ sym (reverse-append left (reverse moved))
    ∙ ap reverse are
    ∙ reverse-reverse all

-- all are back, and the list is turned
pub all_back : {K : Type 0} (now start moved : List K) → now ≡ start ++ reverse moved → reverse now ≡ moved ++ reverse start
all_back now start moved are =
    ap reverse are ∙ reverse-append start (reverse moved) ∙ ap (λ l. l ++ reverse start) (reverse-reverse moved)

-- the first doors, and the others behind them
pub first_of : {K : Type 0} (count : ℕ) (first others all : List K) → length first ≡ count → all ≡ first ++ others → take count all ≡ first
first_of count first others all many are = ap (λ l. take count l) are ∙ ap (λ n. take n (first ++ others)) (sym many)
    ∙ take-append_seam first others

pub others_of : {K : Type 0} (count : ℕ) (first others all : List K) → length first ≡ count → all ≡ first ++ others → drop count all ≡ others
others_of count first others all many are =
    let place : count ≡ length first + 0 = omega (arith, many) in
    ap (λ l. drop count l) are ∙ ap (λ n. drop n (first ++ others)) place ∙ drop-append-add first others 0

pub whole : {K : Type 0} (count : ℕ) (all : List K) → length all ≡ count → take count all ≡ all
whole count all many = ap (λ n. take n all) (sym many) ∙ take-length all

module _ {A S : Type 0} (table : List Compiler) (rules : List Rule) (serve : ℕ) (door : A → DoorView) (station : S → StationView)
    (ran : S → List Word → List ℕ → Ran → Type 0) where
  -- a station beside a book makes what the station makes
  abbrev of_cached : Cached S → StationView
  of_cached c = cached_shows (station c.station)

  abbrev ran_cached : Cached S → List Word → List ℕ → Ran → Type 0
  ran_cached c = ran c.station

  plain_doors : (number : ℕ) (olds news : List (DoorKit A (Cached S))) (log : List Entry)
      → DoorsServed table rules serve door of_cached ran_cached number olds news log
      → DoorsServed table rules serve door (λ s. cached_shows (station s)) ran number (map plain_kit olds) (map plain_kit news) log
  plain_doors number [] [] log done = done
  plain_doors number [] (new ∷ news) log done = absurd done
  plain_doors number (old ∷ olds) [] log done = absurd done
  plain_doors number (old ∷ olds) (new ∷ news) log done = (done.0, done.1, done.2, done.3, plain_doors (suc number) olds news done.1 done.4)

  same_many : (number : ℕ) (olds news : List (DoorKit A (Cached S))) (log : List Entry)
      → DoorsServed table rules serve door of_cached ran_cached number olds news log → length olds ≡ length news
  same_many number [] [] log done = refl
  same_many number [] (new ∷ news) log done = absurd done
  same_many number (old ∷ olds) [] log done = absurd done
  same_many number (old ∷ olds) (new ∷ news) log done = ap suc (same_many (suc number) olds news done.1 done.4)

  module _ (count : ℕ) (ins outs : List (DoorKit A (Cached S))) (many : length ins ≡ count) where
    -- as many kits come out as went in
    pub count_ok : (log : List Entry) → DoorsServed table rules serve door of_cached ran_cached 1 (take count ins) (take count outs) log
        → drop count outs ≡ drop count ins → length outs ≡ count
    count_ok log done others =
        let taken : length ins ≡ length (take count outs) = ap length (sym (whole count ins many))
        ∙ same_many 1 (take count ins) (take count outs) log done in
        let none : length (drop count outs) ≡ 0 = ap length others ∙ omega (arith, length-drop count ins, many) in
        omega (arith, many, taken, none, ap length (take-append-drop count outs), length-append (take count outs) (drop count outs))

    pub count_out : {E : Type 0} (result : Result (List Entry) E)
        → IfOk result (λ log. DoorsServed table rules serve door of_cached ran_cached 1 (take count ins) (take count outs) log)
        → IfOk result (λ _. drop count outs ≡ drop count ins) → IfErr result (λ _. outs ≡ ins) → length outs ≡ count
    count_out (Ok log) done others same = count_ok log done others
    count_out (Err wanted) done others same = ap length same ∙ many

    module _ (left olds news : List (DoorKit A S)) (before : map plain_kit ins ++ reverse left ≡ olds)
        (after : news ≡ map plain_kit outs ++ reverse left) where
      -- what was served beside books is what was served at the doors
      pub served_plain : (log : List Entry)
          → DoorsServed table rules serve door of_cached ran_cached 1 (take count ins) (take count outs) log
          → drop count outs ≡ drop count ins
          → DoorsServed table rules serve door (λ s. cached_shows (station s)) ran 1 (take count olds) (take count news) log
      served_plain log done others =
          let same = count_ok log done others in
          let first : take count olds ≡ map plain_kit (take count ins) =
          first_of count (map plain_kit ins) (reverse left) olds (length-map ins plain_kit ∙ many) (sym before)
          ∙ ap (map plain_kit) (sym (whole count ins many)) in
          let last : take count news ≡ map plain_kit (take count outs) =
          first_of count (map plain_kit outs) (reverse left) news (length-map outs plain_kit ∙ same) after
          ∙ ap (map plain_kit) (sym (whole count outs same)) in
          subst (λ l. DoorsServed table rules serve door (λ s. cached_shows (station s)) ran 1 l (take count news) log) (sym first)
          (subst (λ l. DoorsServed table rules serve door (λ s. cached_shows (station s)) ran 1 (map plain_kit (take count ins)) l log)
          (sym last)
          (plain_doors 1 (take count ins) (take count outs) log done))

      pub others_plain : length outs ≡ count → drop count news ≡ drop count olds
      others_plain same =
          others_of count (map plain_kit outs) (reverse left) news (length-map outs plain_kit ∙ same) after
          ∙ sym (others_of count (map plain_kit ins) (reverse left) olds (length-map ins plain_kit ∙ many) (sym before))

      pub same_plain : outs ≡ ins → news ≡ olds
      same_plain same = after ∙ ap (λ l. map plain_kit l ++ reverse left) same ∙ before
