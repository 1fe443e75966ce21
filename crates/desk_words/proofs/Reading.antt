-- Lines are read as what they were written for, and no other line is read.
use Rattle.std.proofs.Common.{◌≡◌, ℕ, Bool, true, false, cond, List, ◌++◌, Option, Some, None, take, drop, length, refl, sym, ap, ◌∙◌}
use Rattle.std.proofs.Common.{arith, length-append}
use Rattle.std.specs.Prelude.{codes, bytes_eq}
use Rattle.std.proofs.lemmas.List.{take-append-drop}
use Rattle.std.proofs.lemmas.Slice.Eq.{bytes_eq-Decides}
use Rattle.desk_words.specs.declared.told.Told.TheVariants.{Done, Broke}
use Rattle.desk_words.specs.declared.asking.Asked.{Asked}
use Rattle.desk_words.specs.declared.asking.Asked.TheVariants.{Hosts, Local, Within}
use Rattle.desk_words.specs.Lines.{Host, Here, Alone, asked_text, greeting_line, told_line, answer_line}
use Rattle.desk_words.specs.Laws.{GreetingsAreRead, OnlyGreetingsAreRead, TalesAreRead, OnlyTalesAreRead, AnswersAreRead}
use Rattle.desk_words.specs.Laws.{OnlyAnswersAreRead}

same : (xs ys : List ℕ) → bytes_eq xs ys ≡ true → xs ≡ ys
same xs ys is = (bytes_eq-Decides xs ys).0 is

like : (xs : List ℕ) → bytes_eq xs xs ≡ true
like xs = (bytes_eq-Decides xs xs).1 refl

-- texts of other lengths after the same front
unlike : (front xs ys : List ℕ) → (length xs ≡ length ys → ⊥) → bytes_eq (front ++ xs) (front ++ ys) ≡ false
unlike front xs ys other = go (bytes_eq (front ++ xs) (front ++ ys)) refl
  where
    go : (b : Bool) → bytes_eq (front ++ xs) (front ++ ys) ≡ b → b ≡ false
    go true e =
        let long : length (front ++ xs) ≡ length (front ++ ys) = ap length (same (front ++ xs) (front ++ ys) e) in
        let one = length-append front xs in
        let two = length-append front ys in absurd (other (omega (arith, long, one, two)))
    go false e = refl

abbrev by-tests : Bool → Bool → Bool → Option Asked
by-tests a b d = cond a (Some Hosts) (cond b (Some Local) (cond d (Some Within) None))

pub greetings : GreetingsAreRead
greetings token Hosts =
    ap (λ (b : Bool). by-tests b (bytes_eq (greeting_line token Hosts) (greeting_line token Local))
    (bytes_eq (greeting_line token Hosts) (greeting_line token Within))) (like (greeting_line token Hosts))
greetings token Local =
    ap (λ (b : Bool). by-tests b (bytes_eq (greeting_line token Local) (greeting_line token Local))
    (bytes_eq (greeting_line token Local) (greeting_line token Within)))
    (unlike (codes "farm-share 1 " ++ token) (asked_text Local) (asked_text Hosts) (λ e. cc))
    ∙ ap (λ (b : Bool). by-tests false b (bytes_eq (greeting_line token Local) (greeting_line token Within)))
    (like (greeting_line token Local))
greetings token Within =
    ap (λ (b : Bool). by-tests b (bytes_eq (greeting_line token Within) (greeting_line token Local))
    (bytes_eq (greeting_line token Within) (greeting_line token Within)))
    (unlike (codes "farm-share 1 " ++ token) (asked_text Within) (asked_text Hosts) (λ e. cc))
    ∙ ap (λ (b : Bool). by-tests false b (bytes_eq (greeting_line token Within) (greeting_line token Within)))
    (unlike (codes "farm-share 1 " ++ token) (asked_text Within) (asked_text Local) (λ e. cc))
    ∙ ap (λ (b : Bool). by-tests false false b) (like (greeting_line token Within))

pub only-greetings : OnlyGreetingsAreRead
only-greetings token line asked is =
    go (bytes_eq line (greeting_line token Hosts)) refl (bytes_eq line (greeting_line token Local)) refl
    (bytes_eq line (greeting_line token Within)) refl is
  where
    go : (a : Bool) → bytes_eq line (greeting_line token Hosts) ≡ a → (b : Bool) → bytes_eq line (greeting_line token Local) ≡ b
        → (d : Bool) → bytes_eq line (greeting_line token Within) ≡ d → by-tests a b d ≡ Some asked → line ≡ greeting_line token asked
    go true e b f d g is =
        let it : Hosts ≡ asked = cc in same line (greeting_line token Hosts) e ∙ ap (greeting_line token) it
    go false e true f d g is =
        let it : Local ≡ asked = cc in same line (greeting_line token Local) f ∙ ap (greeting_line token) it
    go false e false f true g is =
        let it : Within ≡ asked = cc in same line (greeting_line token Within) g ∙ ap (greeting_line token) it
    go false e false f false g is = cc

pub tales : TalesAreRead
tales Done = refl
tales Broke = refl

pub only-tales : OnlyTalesAreRead
only-tales line told is = go (bytes_eq line (told_line Done)) refl (bytes_eq line (told_line Broke)) refl is
  where
    go : (a : Bool) → bytes_eq line (told_line Done) ≡ a → (b : Bool) → bytes_eq line (told_line Broke) ≡ b
        → cond a (Some Done) (cond b (Some Broke) None) ≡ Some told → line ≡ told_line told
    go true e b f is = let it : Done ≡ told = cc in same line (told_line Done) e ∙ ap told_line it
    go false e true f is = let it : Broke ≡ told = cc in same line (told_line Broke) f ∙ ap told_line it
    go false e false f is = cc

pub answers : AnswersAreRead
answers (Host list) = refl
answers Here = refl
answers Alone = refl

pub only-answers : OnlyAnswersAreRead
only-answers line answer is =
    go (bytes_eq line (answer_line Here)) refl (bytes_eq line (answer_line Alone)) refl (bytes_eq (take 5 line) (codes "host ")) refl is
  where
    go : (a : Bool) → bytes_eq line (answer_line Here) ≡ a → (b : Bool) → bytes_eq line (answer_line Alone) ≡ b
        → (d : Bool) → bytes_eq (take 5 line) (codes "host ") ≡ d
        → cond a (Some Here) (cond b (Some Alone) (cond d (Some (Host (drop 5 line))) None)) ≡ Some answer → line ≡ answer_line answer
    go true e b f d g is = let it : Here ≡ answer = cc in same line (answer_line Here) e ∙ ap answer_line it
    go false e true f d g is = let it : Alone ≡ answer = cc in same line (answer_line Alone) f ∙ ap answer_line it
    go false e false f true g is = let it : Host (drop 5 line) ≡ answer = cc in
        sym (take-append-drop 5 line) ∙ ap (λ (front : List ℕ). front ++ drop 5 line) (same (take 5 line) (codes "host ") g)
        ∙ ap answer_line it
    go false e false f false g is = cc
