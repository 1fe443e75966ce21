-- A token that comes byte by byte, and the bytes that follow it.
use Rattle.std.proofs.Common.{◌≡◌, ℕ, ◌+◌, ◌<◌, List, [], ◌∷◌, ◌++◌, length, take, drop, Some, None, Ok, Err, refl, sym, ap, subst, ◌∙◌}
use Rattle.std.proofs.Common.{append_assoc, arith}
use Rattle.std.specs.Prelude.{Option, Result}
use Rattle.std.proofs.lemmas.List.{append-nil, take_all, take-append-drop, length-append}
use Rattle.std.proofs.Math.Seq.{take-add}
use Rattle.wire_tokens.specs.declared.token.Scan.{Scan}
use Rattle.wire_tokens.specs.declared.token.Scan.TheVariants.{Number, WrongName, BadDigit, Short}
use Rattle.wire_tokens.specs.declared.token.TokenFault.{TokenFault}
use Rattle.wire_tokens.specs.Token.{IsToken}
use Rattle.wire_tokens.specs.Scan.{scan_of}
use Rattle.wire_tokens.specs.Format.{Field, Due, Format, body_len, IsField, Stands, Progress}
use Rattle.wire_tokens.specs.Step.{step_of, refuses, wants}
use Rattle.wire_tokens.specs.Partial.{number_in, number_so_far, place_in_token, fault_in, IsShortToken, IsDueToken}
use Rattle.wire_tokens.proofs.Tokens.{common_prefix_len-nil, token-scan, number-longer, short-len}
use Rattle.wire_tokens.proofs.Steps.{step-wrong_name, step-bad_digit, step-partial}
use Rattle.wire_tokens.proofs.Readings.{FourLetters, fields_len}
use Rattle.wire_tokens.proofs.Progress.{front-more, progress-stands}

scan_of-nil : (name : List ℕ) → scan_of name [] ≡ Short
scan_of-nil name = rw (common_prefix_len-nil name) refl

-- where nothing has come
pub none-short : {F : Type 0} (due : Due F) (bytes : List ℕ) → bytes ≡ [] → IsShortToken due bytes
none-short due bytes none = record {
  partial = rw none (omega arith);
  short = ap (scan_of due.name) none ∙ scan_of-nil due.name;
}

-- ---- what an answer says of the bytes

number_in-number : (scan : Scan) (n : ℕ) → number_in scan ≡ Ok (Some n) → scan ≡ Number n
number_in-number (Number m) n e = cc
number_in-number (WrongName at) n e = absurd cc
number_in-number (BadDigit at) n e = absurd cc
number_in-number Short n e = absurd cc

number_in-none : (scan : Scan) → number_in scan ≡ Ok None → scan ≡ Short
number_in-none (Number m) e = absurd cc
number_in-none (WrongName at) e = absurd cc
number_in-none (BadDigit at) e = absurd cc
number_in-none Short e = refl

-- the answer to a name is the answer to the name that is due
pub so_far-is : (name due bytes : List ℕ) (answer is : Result (Option ℕ) TokenFault) → name ≡ due → answer ≡ number_so_far name bytes
    → answer ≡ is → number_so_far due bytes ≡ is
so_far-is name due bytes answer is same so_far known = ap (λ (n : List ℕ). number_so_far n bytes) (sym same) ∙ sym so_far ∙ known

pub so_far-short : {F : Type 0} (due : Due F) (bytes : List ℕ) → number_so_far due.name bytes ≡ Ok None → IsShortToken due bytes
so_far-short due bytes e =
    let short = number_in-none (scan_of due.name bytes) e in
    record { partial = short-len due.name bytes short; short = short }

pub so_far-number : (name due bytes : List ℕ) (answer : Result (Option ℕ) TokenFault) (found : Option ℕ) (n : ℕ) → name ≡ due
    → answer ≡ number_so_far name bytes → answer ≡ Ok found → found ≡ Some n → scan_of due bytes ≡ Number n
so_far-number name due bytes answer found n same so_far known is =
    let whole : number_so_far due bytes ≡ Ok (Some n) =
    subst (λ (x : Option ℕ). number_so_far due bytes ≡ Ok x) is (so_far-is name due bytes answer (Ok found) same so_far known) in
    number_in-number (scan_of due bytes) n whole

-- a step refuses by this answer
abbrev IsRefusal : {F : Type 0} → Format F → Due F → List ℕ → Result (Option ℕ) TokenFault → Type 0
IsRefusal format due bytes (Ok number) = Unit {0}
IsRefusal format due bytes (Err fault) = step_of format due bytes ≡ refuses (place_in_token fault) (fault_in format fault)

fault-refuses : {F : Type 0} (format : Format F) (due : Due F) (bytes : List ℕ) (fault : TokenFault) (scan : Scan)
    → scan_of due.name bytes ≡ scan → number_in scan ≡ Err fault
    → step_of format due bytes ≡ refuses (place_in_token fault) (fault_in format fault)
fault-refuses format due bytes fault (Number n) s e = absurd cc
fault-refuses format due bytes fault (WrongName at) s e =
    subst (λ (f : Result (Option ℕ) TokenFault). IsRefusal format due bytes f) e (step-wrong_name format due bytes at s)
fault-refuses format due bytes fault (BadDigit at) s e =
    subst (λ (f : Result (Option ℕ) TokenFault). IsRefusal format due bytes f) e (step-bad_digit format due bytes at s)
fault-refuses format due bytes fault Short s e = absurd cc

pub so_far-refuses : {F : Type 0} (format : Format F) (due : Due F) (bytes : List ℕ) (fault : TokenFault)
    → number_so_far due.name bytes ≡ Err fault → step_of format due bytes ≡ refuses (place_in_token fault) (fault_in format fault)
so_far-refuses format due bytes fault e = fault-refuses format due bytes fault (scan_of due.name bytes) refl e

-- the token is whole with its last byte
pub token-due : {F : Type 0} (due : Due F) (before bytes : List ℕ) (byte n : ℕ) → length due.name ≡ 4 → IsShortToken due before
    → bytes ≡ before ++ byte ∷ [] → scan_of due.name bytes ≡ Number n → due.refused n ≡ None → IsDueToken due bytes n
token-due due before bytes byte n four short is scan right =
    let few = short.partial in
    let least = (token-scan due.name n bytes four scan).1 in
    let len : length bytes ≡ length before + 1 = ap length is ∙ length-append before (byte ∷ []) in
    record { whole = omega arith; number = scan; right = right }

-- ---- what the bytes are to a text

-- some bytes more
pub progress-longer : {F : Type 0} (format : Format F) (text : List ℕ) (fields : List Field) (rest bytes : List ℕ)
    → Progress format text fields rest → Progress format (text ++ bytes) fields (rest ++ bytes)
progress-longer format text fields rest bytes p = record {
  front = p.front;
  is_front = p.is_front;
  parts = ap (λ (x : List ℕ). x ++ bytes) p.parts ∙ append_assoc p.front rest bytes;
}

-- a fault in the token that is due, with some bytes more
pub longer-stands : {F : Type 0} (format : Format F) → FourLetters format → (text : List ℕ) (fields : List Field) (due : Due F)
    (rest bytes : List ℕ) (place : ℕ) (fault : F) → Progress format text fields rest → format.due fields ≡ Some due
    → step_of format due (rest ++ bytes) ≡ refuses place fault
    → Stands format (text ++ bytes) (fields_len fields + place) fault
longer-stands format four text fields due rest bytes place fault p d s =
    progress-stands format four (text ++ bytes) fields (rest ++ bytes) due place fault (progress-longer format text fields rest bytes p) d s

-- a token and not all of its body
pub body-wanted : {F : Type 0} (format : Format F) (due : Due F) (token body : List ℕ) (n : ℕ) → length due.name ≡ 4
    → IsDueToken due token n → length body < body_len due n → step_of format due (token ++ body) ≡ wants
body-wanted format due token body n four t less =
    let whole = t.whole in
    step-partial format due (token ++ body) n (number-longer due.name token body n four t.number) t.right
    (omega (arith, length-append token body))

-- a token and all of its body
pub field-whole : {F : Type 0} (due : Due F) (token body : List ℕ) (n : ℕ) → length due.name ≡ 4 → IsDueToken due token n
    → length body ≡ body_len due n → IsField due (record { number = n; body = body }) (token ++ body)
field-whole due token body n four t sized =
    let is = token-scan due.name n token four t.number in
    record {
      token = token;
      is_token = subst (IsToken due.name n) (take_all 12 token (omega (arith, t.whole))) is.0;
      right = t.right;
      sized = sized;
      parts = refl;
    }

-- one field more, and nothing of the next
pub progress-field : {F : Type 0} (format : Format F) (text : List ℕ) (fields : List Field) (due : Due F) (field : Field) (bytes : List ℕ)
    → Progress format text fields bytes → format.due fields ≡ Some due → IsField due field bytes
    → Progress format text (fields ++ field ∷ []) []
progress-field format text fields due field bytes p d f = record {
  front = p.front ++ bytes;
  is_front = front-more format [] fields p.front due field bytes p.is_front d f;
  parts = p.parts ∙ sym (append-nil (p.front ++ bytes));
}

-- ---- one piece after another

pub join : (text piece : List ℕ) (i k : ℕ) → (text ++ take i piece) ++ take k (drop i piece) ≡ text ++ take (i + k) piece
join text piece i k = append_assoc text (take i piece) (take k (drop i piece)) ∙ ap (λ (x : List ℕ). text ++ x) (sym (take-add i k piece))

pub join_all : (text piece : List ℕ) (i : ℕ) → (text ++ take i piece) ++ drop i piece ≡ text ++ piece
join_all text piece i = append_assoc text (take i piece) (drop i piece) ∙ ap (λ (x : List ℕ). text ++ x) (take-append-drop i piece)
