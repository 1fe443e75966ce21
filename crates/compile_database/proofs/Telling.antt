-- What was printed, by an equal text.
use Rattle.std.proofs.Common.{◌≡◌, ℕ, List, subst}
use Rattle.stream_print.specs.Prints.{SinksView}
use Rattle.compile_database.specs.Programs.{Told, Refused}

pub told_by : {text text' : List ℕ} {old new : SinksView} {answer : ℕ} → text ≡ text' → Told text old new answer → Told text' old new answer
told_by {old = old} {new = new} {answer = answer} same told = subst (λ t. Told t old new answer) same told

pub refused_by : {text text' : List ℕ} {status : ℕ} {old new : SinksView} {answer : ℕ} → text ≡ text'
    → Refused text status old new answer → Refused text' status old new answer
refused_by {status = status} {old = old} {new = new} {answer = answer} same told = subst (λ t. Refused t status old new answer) same told
