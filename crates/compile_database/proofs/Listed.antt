-- How a text was listed, and an input read.
use Rattle.std.proofs.Common.{◌≡◌, ℕ, List, Some, None, refl, subst, inl, inr}
use Rattle.edge_traits.specs.Sources.{SourceView}
use Rattle.stream_print.specs.Prints.{SinksView}
use Rattle.compile_database.specs.declared.fault.DatabaseFault.{DatabaseFault}
use Rattle.compile_database.specs.declared.help.Ask.{Ask}
use Rattle.compile_database.specs.Choices.{Choice}
use Rattle.compile_database.specs.Databases.{FaultStands}
use Rattle.compile_database.specs.Programs.{Listed, faulty_text, unlisted, Does, told, bad_words, unheard}
use Rattle.compile_database.specs.Helps.{asked, text_of}
use Rattle.compile_database.specs.Words.{BadWordsAt}
use Rattle.compile_database.specs.Refusals.{FaultRefused, ToldOrWanted, WordsRefused}
use Rattle.compile_database.proofs.Telling.{told_by}

-- a fault stands, and was told, or memory was wanting
pub refused_text : {choice : Choice} {text : List ℕ} {old new : SinksView} {answer : ℕ} (fault : DatabaseFault)
    → FaultStands choice text fault → FaultRefused fault old new answer → Listed choice text old new answer
refused_text fault stands (inl refusal) = faulty_text fault stands refusal
refused_text fault stands (inr wanted) = unlisted wanted

pub listed_by : {choice : Choice} {text text' : List ℕ} {old new : SinksView} {answer : ℕ} → text ≡ text'
    → Listed choice text old new answer → Listed choice text' old new answer
listed_by {choice = choice} {old = old} {new = new} {answer = answer} same h = subst (λ t. Listed choice t old new answer) same h

-- a text of the program itself was asked for
pub heard : {words : List (List ℕ)} {view : SourceView} {text : List ℕ} {old new : SinksView} {answer : ℕ} (ask : Ask)
    → asked words ≡ Some ask → text ≡ text_of ask → ToldOrWanted text old new answer → Does words view view old new answer
heard ask is same (inl printed) = told ask is refl (told_by same printed)
heard ask is same (inr wanted) = unheard refl wanted

-- words were refused
pub misheard : {words : List (List ℕ)} {view : SourceView} {old new : SinksView} {answer : ℕ} (place : ℕ) → asked words ≡ None
    → BadWordsAt words place → WordsRefused place old new answer → Does words view view old new answer
misheard place none is (inl printed) = bad_words place none is refl printed
misheard place none is (inr wanted) = unheard refl wanted
