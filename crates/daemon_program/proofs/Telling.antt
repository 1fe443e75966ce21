-- How printing ends.
use Rattle.std.proofs.Common.{◌≡◌, ◌≢◌, ℕ, suc, ◌+◌, ◌<◌, ◌≤◌, List, [], ◌∷◌, ◌++◌, length, take, drop, get_or, ◌-◌, inl, inr, refl, sym}
use Rattle.std.proofs.Common.{◌∙◌, ap, subst, append_assoc, length-drop, arith}
use Rattle.std.specs.Prelude.{Result, Ok, Err, OnOk, OnErr, IsErrOf}
use Rattle.std.proofs.Math.Seq.{take-length}
use Rattle.std.proofs.lemmas.List.{take-append-drop, append-nil}
use Rattle.farm_types.specs.Exits.{stopped_status, memory_status}
use Rattle.edge_traits.specs.Told.{Grew}
use Rattle.edge_traits.specs.Causes.{Rose}
use Rattle.edge_traits.specs.Sinks.{SinkView}
use Rattle.edge_traits.proofs.ToldLemmas.{Grew-join}
use Rattle.stream_print.specs.declared.one.PrintStop.{PrintStop}
use Rattle.stream_print.specs.declared.one.PrintStop.TheVariants.{Stopped, Memory}
use Rattle.stream_print.specs.Prints.{GoesOn, DidStop}
use Rattle.daemon_service.specs.declared.served.Served.TheVariants as served
use Rattle.daemon_worker.specs.declared.log.Met.TheVariants as met
use Rattle.daemon_worker.specs.declared.log.Entry.{Entry}
use Rattle.object_cache.specs.declared.book.Stats.{Stats}
use Rattle.daemon_program.specs.Texts.{book_line, books_text, no_memory_text}
use Rattle.daemon_program.specs.Endings.{IsPart, PrintEnded, Noticed, told_whole, told_stopped, told_wanted, WantsAfter, Ends, wanted}

rest_left : (n : ℕ) (text : List ℕ) → n < length text → drop n text ≢ []
rest_left n text less none = omega (arith, less, length-drop n text, ap length none)

pub part_of : (text : List ℕ) (n : ℕ) (old new : SinkView) → n < length text → Grew old.written new.written (take n text)
    → IsPart text old new
part_of text n old new less grew = record {
  front = take n text;
  rest = drop n text;
  parts = sym (take-append-drop n text);
  left = rest_left n text less;
  grew = grew;
}

-- how the print of some bytes ended, said of the text that they are
pub print_ended : (text bytes : List ℕ) (old new : SinkView) (result : Result Unit PrintStop) → bytes ≡ text
    → OnOk result (Grew old.written new.written bytes)
    → OnErr result ((n : ℕ) × (n < length bytes) × Grew old.written new.written (take n bytes))
    → (IsErrOf result Stopped → DidStop old new) → OnOk result (GoesOn old new) → (IsErrOf result Memory → GoesOn old new)
    → PrintEnded text result old new
print_ended text bytes old new (Ok done) is all part stopped on memory = (subst (λ t. Grew old.written new.written t) is all, on)
print_ended text bytes old new (Err Stopped) is all part stopped on memory =
    (subst (λ t. IsPart t old new) is (part_of bytes part.0 old new part.1 part.2), stopped refl)
print_ended text bytes old new (Err Memory) is all part stopped on memory =
    (subst (λ t. IsPart t old new) is (part_of bytes part.0 old new part.1 part.2), memory refl)

-- ---- one sink after another moment

pub goes_then : {old mid new : SinkView} → GoesOn old mid → GoesOn mid new → GoesOn old new
goes_then on more = record { faults = more.faults ∙ on.faults; stopped = more.stopped ∙ on.stopped }

pub stop_then : (old mid new : SinkView) → GoesOn old mid → DidStop mid new → DidStop old new
stop_then old mid new on (inl rose) = inl (subst (λ n. Rose n new.faults) on.faults rose)
stop_then old mid new on (inr stop) = inr stop

-- ---- the notice

pub notice_stopped : (old new : SinkView) → IsPart no_memory_text old new → DidStop old new → WantsAfter [] old new stopped_status
notice_stopped old new part stop =
    record { told = part.front; grew = part.grew; noticed = told_stopped part.rest part.parts part.left stop refl }

pub notice_wanted : (old new : SinkView) → IsPart no_memory_text old new → GoesOn old new → WantsAfter [] old new memory_status
notice_wanted old new part on = record { told = part.front; grew = part.grew; noticed = told_wanted part.rest part.parts part.left on refl }

notice_then : (old mid new : SinkView) (answer : ℕ) (told : List ℕ) → GoesOn old mid → Noticed mid new answer told
    → Noticed old new answer told
notice_then old mid new answer told on (told_whole is more status) = told_whole is (goes_then on more) status
notice_then old mid new answer told on (told_stopped rest parts left stop status) = told_stopped rest parts left
    (stop_then old mid new on stop) status
notice_then old mid new answer told on (told_wanted rest parts left more status) = told_wanted rest parts left (goes_then on more) status

-- a part of a text, and then the notice
pub part_wanted : (text : List ℕ) (status : ℕ) (old mid new : SinkView) (answer : ℕ) → IsPart text old mid → GoesOn old mid
    → WantsAfter [] mid new answer → Ends text status old new answer
part_wanted text status old mid new answer part on wants = wanted part.front part.rest part.parts part.left (record {
  told = wants.told;
  grew = Grew-join part.grew wants.grew refl;
  noticed = notice_then old mid new answer wants.told on wants.noticed;
})

-- nothing of a text, and then the notice
pub none_wanted : (text : List ℕ) (status : ℕ) (old new : SinkView) (answer : ℕ) → text ≢ [] → WantsAfter [] old new answer
    → Ends text status old new answer
none_wanted text status old new answer some wants = wanted [] text refl some wants

-- ---- line after line

-- What was written of a text so far, and what is left of it.
pub record SoFar (all left : List ℕ) (old now : SinkView) : Type 0 where
  pub done : List ℕ
  pub parts : all ≡ done ++ left
  pub grew : Grew old.written now.written done
  pub on : GoesOn old now

more_left : (xs ys : List ℕ) → xs ≢ [] → xs ++ ys ≢ []
more_left [] ys some none = some refl
more_left (x ∷ xs) ys some none = cc none

module _ (all left line more : List ℕ) (old mid : SinkView) (so_far : SoFar all left old mid) (is : left ≡ line ++ more) where
  text_is : all ≡ (so_far.done ++ line) ++ more
  text_is = so_far.parts ∙ ap (λ l. so_far.done ++ l) is ∙ sym (append_assoc so_far.done line more)

  pub next_line : (new : SinkView) → Grew mid.written new.written line → GoesOn mid new → SoFar all more old new
  next_line new grew on = record {
    done = so_far.done ++ line;
    parts = text_is;
    grew = Grew-join so_far.grew grew refl;
    on = goes_then so_far.on on;
  }

  failed_line : (new : SinkView) → IsPart line mid new → IsPart all old new
  failed_line new part = record {
    front = so_far.done ++ part.front;
    rest = part.rest ++ more;
    parts = text_is ∙ ap (λ l. (so_far.done ++ l) ++ more) part.parts
        ∙ ap (λ l. l ++ more) (sym (append_assoc so_far.done part.front part.rest))
        ∙ append_assoc (so_far.done ++ part.front) part.rest more;
    left = more_left part.rest more part.left;
    grew = Grew-join so_far.grew part.grew refl;
  }

  -- the printing ended in this line
  pub ended_line : (stop : PrintStop) (new : SinkView) → PrintEnded line (Err stop) mid new → PrintEnded all (Err stop) old new
  ended_line Stopped new ended = (failed_line new ended.0, stop_then old mid new so_far.on ended.1)
  ended_line Memory new ended = (failed_line new ended.0, goes_then so_far.on ended.1)

-- nothing is left
pub all_lines : (all left : List ℕ) (old now : SinkView) → SoFar all left old now → left ≡ [] → Grew old.written now.written all
all_lines all left old now so_far none =
    subst (λ t. Grew old.written now.written t) (sym (so_far.parts ∙ ap (λ l. so_far.done ++ l) none ∙ append-nil so_far.done)) so_far.grew

pub none_yet : (all : List ℕ) (old : SinkView) → Grew old.written old.written [] → SoFar all all old old
none_yet all old still = record { done = []; parts = refl; grew = still; on = record { faults = refl; stopped = refl } }

-- no element is left
pub no_more : {T : Type 0} (rest : List T) → length rest < 1 → rest ≡ []
no_more [] few = refl
no_more (x ∷ rest) few = absurd (omega (arith, few))

-- the first of some elements, and the others
pub one_part : {T : Type 0} (other : T) (rest : List T) → 1 ≤ length rest
    → rest ≡ get_or rest 0 other ∷ take (length rest - 1) (drop 1 rest)
one_part other [] some = absurd (omega (arith, some))
one_part other (x ∷ more) some =
    let left : length more ≡ length (x ∷ more) - 1 = omega arith in
    ap (λ l. x ∷ l) (sym (take-length more) ∙ ap (λ n. take n more) left)

-- ---- two texts

-- a part of the first of two texts
part_first : (text more : List ℕ) (old new : SinkView) → IsPart text old new → IsPart (text ++ more) old new
part_first text more old new part = record {
  front = part.front;
  rest = part.rest ++ more;
  parts = ap (λ l. l ++ more) part.parts ∙ append_assoc part.front part.rest more;
  left = more_left part.rest more part.left;
  grew = part.grew;
}

-- the first, and a part of the second
part_second : (text more : List ℕ) (old mid new : SinkView) → Grew old.written mid.written text → IsPart more mid new
    → IsPart (text ++ more) old new
part_second text more old mid new grew part = record {
  front = text ++ part.front;
  rest = part.rest;
  parts = ap (λ l. text ++ l) part.parts ∙ sym (append_assoc text part.front part.rest);
  left = part.left;
  grew = Grew-join grew part.grew refl;
}

-- the printing ended in the first
pub first_ended : (text more : List ℕ) (stop : PrintStop) (old new : SinkView) → PrintEnded text (Err stop) old new
    → PrintEnded (text ++ more) (Err stop) old new
first_ended text more Stopped old new ended = (part_first text more old new ended.0, ended.1)
first_ended text more Memory old new ended = (part_first text more old new ended.0, ended.1)

-- the first, and then how the printing of the second ended
pub second_ended : (text more : List ℕ) (old mid new : SinkView) (result : Result Unit PrintStop)
    → PrintEnded text (Ok tt) old mid → PrintEnded more result mid new → PrintEnded (text ++ more) result old new
second_ended text more old mid new (Ok done) first ended = (Grew-join first.0 ended.0 refl, goes_then first.1 ended.1)
second_ended text more old mid new (Err Stopped) first ended =
    (part_second text more old mid new first.0 ended.0, stop_then old mid new first.1 ended.1)
second_ended text more old mid new (Err Memory) first ended =
    (part_second text more old mid new first.0 ended.0, goes_then first.1 ended.1)

-- the entry that stands for one behind a list's end
abbrev pub blank : Entry
blank = record { door = 0; number = 0; what = met.Served (served.Answered 0) }

abbrev pub no_stats : Stats
no_stats = record { hits = 0; misses = 0; unkept = 0; bytes = 0 }

-- the line of the first of some books, and the lines of the others
pub first_book : (door : ℕ) (stats : Stats) (books more : List Stats) → books ≡ stats ∷ more
    → books_text door books ≡ book_line door stats ++ books_text (door + 1) more
first_book door stats books more are =
    let next : suc door ≡ door + 1 = omega arith in
    ap (books_text door) are ∙ ap (λ n. book_line door stats ++ books_text n more) next
