-- The example's reports are courses of its jobs.
use Rattle.std.proofs.Common.{◌≡◌, inl, ℕ, zero, suc, ◌<◌, ◌≤◌, true, false, List, [], ◌∷◌, length, map, refl, sym, subst, arith}
use Rattle.std.specs.Prelude.{codes}
use Rattle.std.proofs.lemmas.List.{append-nil}
use Rattle.std.proofs.lemmas.List.Elements.{All-from_recursion}
use Rattle.farm_types.specs.Limits.{word_max}
use Rattle.option_table.specs.Gcc.{gcc_rows}
use Rattle.farm_types.specs.declared.placed.Word.TheVariants.{Text}
use Rattle.farm_types.specs.Fits.{RequestFits}
use Rattle.arg_scan.specs.Roles.{role_of}
use Rattle.arg_strip.specs.Words.{stripped}
use Rattle.wire_tokens.specs.Reply.{BeginsReply, reply_text}
use Rattle.wire_tokens.proofs.ReplyLaws.{written_again}
use Rattle.edge_traits.specs.Deeds.{ran}
use Rattle.farm_machine.specs.declared.reports.By.TheVariants.{Cpp, Remote}
use Rattle.farm_machine.specs.declared.reports.End.TheVariants.{Done}
use Rattle.farm_machine.specs.Acts.{Did}
use Rattle.farm_machine.specs.Machine.{FarmRun}
use Rattle.slot_table.specs.Limits.{is_local}
use Rattle.farm_machine.specs.Jobs.{Job, CanRequest, may_be_sent, is_source_ready, is_local_host, preprocessing_command, output_name}
use Rattle.farm_machine.specs.Course.{Send, Lent, Sent, Finish, Over, IsBegunWith, IsWholeWith, Course}
use Rattle.farm_machine.specs.Farm.{farm_of, IsOf}
use Rattle.farm_laws.specs.Example.{limits, jobs, not_preprocessed, answered, outcome, compiled, acts_of, end_of, calls}
use Rattle.farm_laws.specs.ExampleRun.{reports, steps}
use Rattle.farm_laws.proofs.ExampleCalls.{agrees}
use Rattle.farm_laws.proofs.Farms.{weave-law}

pub is-of : IsOf limits jobs
is-of = record { count = λ j inside. refl; local = λ j host inside. local j host }
  where
    local : (j host : ℕ) → host < 1 → is_local_host (jobs j) host ≡ is_local limits host
    local j zero below = refl
    local j (suc host) below = absurd (omega arith)

-- what the words of a job say
record Says (j : Job) (first words : List (List ℕ)) (name : List ℕ) : Type 0 where
  may : may_be_sent j ≡ true
  ready : is_source_ready j ≡ false
  preprocessing : map Text first ≡ preprocessing_command j
  sent : stripped j.words ≡ words
  output : name ≡ output_name j

first-says : Says (jobs 0) (codes "cc" ∷ codes "-E" ∷ codes "a.c" ∷ [])
    (codes "cc" ∷ codes "-c" ∷ codes "a.c" ∷ codes "-o" ∷ codes "a.o" ∷ []) (codes "a.o")
unfolding role_of gcc_rows
first-says = record { may = refl; ready = refl; preprocessing = refl; sent = refl; output = refl }

last-says : Says (jobs 2) (codes "cc" ∷ codes "-E" ∷ codes "b.c" ∷ [])
    (codes "cc" ∷ codes "-c" ∷ codes "b.c" ∷ codes "-o" ∷ codes "b.o" ∷ []) (codes "b.o")
unfolding role_of gcc_rows
last-says = record { may = refl; ready = refl; preprocessing = refl; sent = refl; output = refl }

fits : RequestFits (codes "cc" ∷ codes "-c" ∷ codes "a.c" ∷ codes "-o" ∷ codes "a.o" ∷ []) (codes "int a;")
fits = record {
  some = omega arith;
  count = omega arith;
  words_fit = record {
    each = All-from_recursion (λ (word : List ℕ). length word ≤ word_max)
        (codes "cc" ∷ codes "-c" ∷ codes "a.c" ∷ codes "-o" ∷ codes "a.o" ∷ [])
        (omega arith, (omega arith, (omega arith, (omega arith, (omega arith, tt)))));
    together = omega arith;
  };
  source_fits = omega arith;
}

can-request : CanRequest (jobs 0) (codes "int a;")
can-request = subst (λ (words : List (List ℕ)). RequestFits words (codes "int a;")) (sym first-says.sent) fits

begun : IsBegunWith (jobs 0) answered (codes "int a;") 0
begun = record { host = refl; port = refl; unsent = []; prefix = sym (append-nil answered.sent) }

spelled : BeginsReply answered.given (length answered.given) outcome
spelled =
    let P : List ℕ → Type 0 = λ text. BeginsReply text (length (reply_text outcome)) outcome in
    subst P (append-nil (reply_text outcome))
    (written_again outcome [] record {
      err_fits = omega arith;
      out_fits = omega arith;
      object_fits = omega arith;
      failure = λ failed. absurd (failed refl);
    } (omega arith))

whole : IsWholeWith (jobs 0) answered (codes "int a;") 0 outcome
whole = record { begun = begun; dialed = refl; sent = refl; used = length answered.given; spelled = spelled }

compiled-course : Course (jobs 0) compiled (Done 0 [] [] [] (Remote 0))
compiled-course = (
  Send (codes "int a;") [] [],
  (first-says.may, first-says.ready, (first-says.preprocessing, refl), refl),
  (
    Lent 0 (codes "int a;") [] [],
    (can-request, omega arith, refl, refl),
    (
      Sent 0 (codes "int a;") [] [] answered,
      (refl, begun, refl),
      (
        Finish (Remote 0) [] outcome,
        (refl, inl (outcome, whole, refl)),
        (Over (Done 0 [] [] [] (Remote 0)), (refl, first-says.output, refl, refl), refl),
      ),
    ),
  ),
)

failed-course : Course (jobs 2) (Did (ran not_preprocessed) ∷ []) (Done 256 [] (codes "b.c: none") [] Cpp)
failed-course = (
  Over (Done 256 [] (codes "b.c: none") [] Cpp),
  (last-says.may, last-says.ready, (last-says.preprocessing, refl), refl),
  refl,
)

pub courses : (j : ℕ) → j < 3 → Course (jobs j) (acts_of j) (end_of j)
courses zero below = compiled-course
courses (suc zero) below = compiled-course
courses (suc (suc zero)) below = failed-course
courses (suc (suc (suc j))) below = absurd (omega arith)

pub runs : FarmRun (farm_of limits jobs) limits steps
runs = weave-law 1 limits jobs reports calls is-of courses agrees
