-- Each text is read in one way.
use Rattle.std.proofs.Common.{◌≡◌, ℕ, ◌+◌, ◌≤◌, Bool, true, false, ltb, List, ◌++◌, length, take, drop, Option, Some, None, refl, sym, ap}
use Rattle.std.proofs.Common.{subst, ◌∙◌, append_assoc, arith}
use Rattle.std.proofs.lemmas.Bool.{ltb-false, le-ltb}
use Rattle.std.proofs.lemmas.List.{length-append, length-take, length-drop, take_at, drop_at, take-append-drop}
use Rattle.std.proofs.Math.Seq.{take-add}
use Rattle.wire_tokens.specs.Token.{IsToken}
use Rattle.wire_tokens.specs.Scan.{scan_of}
use Rattle.wire_tokens.specs.declared.token.Scan.{Scan}
use Rattle.wire_tokens.specs.declared.token.Scan.TheVariants.{Number, WrongName, BadDigit, Short}
use Rattle.wire_tokens.specs.Format.{Field, Due, Format, body_len, IsField, IsFault, at_name, at_digit, at_number}
use Rattle.wire_tokens.specs.Step.{takes, refuses, numbered, scanned, step_of, field_at}
use Rattle.wire_tokens.proofs.Tokens.{scan-token, token-scan, scan-wrong_name, wrong_name-scan, scan-bad_digit, bad_digit-scan}

token_len : (name : List ℕ) (n : ℕ) (token : List ℕ) → length name ≡ 4 → IsToken name n token → length token ≡ 12
token_len name n token four t = ap length t.spelled ∙ length-append name t.digits ∙ omega (arith, t.eight)

-- a fault is what the step says
pub step-fault : {F : Type 0} (format : Format F) (due : Due F) (text : List ℕ) (at : ℕ) (fault : F) → length due.name ≡ 4
    → IsFault format due text at fault → step_of format due text ≡ refuses at fault
unfolding step_of
step-fault format due text at fault four (at_name r) = rw (scan-wrong_name due.name text at four r) refl
step-fault format due text at fault four (at_digit r) = rw (scan-bad_digit due.name text at four r) refl
step-fault format due text at fault four (at_number {n} t r) =
    let e : scan_of due.name text ≡ Number n = ap (scan_of due.name) (sym (take-append-drop 12 text))
    ∙ scan-token due.name n (take 12 text) (drop 12 text) four t in
    rw (e, r) refl

-- a field at the front is what the step takes
pub step-field : {F : Type 0} (format : Format F) (due : Due F) (field : Field) (first rest : List ℕ) → length due.name ≡ 4
    → IsField due field first → step_of format due (first ++ rest) ≡ takes field.number
unfolding step_of
step-field format due field first rest four f =
    let parts : first ++ rest ≡ f.token ++ (field.body ++ rest) = ap (λ (x : List ℕ). x ++ rest) f.parts
    ∙ append_assoc f.token field.body rest in
    let e : scan_of due.name (first ++ rest) ≡ Number field.number = ap (scan_of due.name) parts
    ∙ scan-token due.name field.number f.token (field.body ++ rest) four f.is_token in
    let len : length (first ++ rest) ≡ 12 + (length field.body + length rest) =
    ap length parts ∙ length-append f.token (field.body ++ rest)
    ∙ omega (arith, token_len due.name field.number f.token four f.is_token, length-append field.body rest) in
    let long : ltb (length (first ++ rest)) (12 + body_len due field.number) ≡ false = le-ltb _ _ (omega (arith, f.sized)) in
    rw (e, f.right, long) refl

-- ---- and back

fault-numbered : {F : Type 0} (format : Format F) (due : Due F) (text : List ℕ) (n at : ℕ) (fault : F) (o : Option F) (long : Bool)
    → IsToken due.name n (take 12 text) → due.refused n ≡ o → numbered o long n ≡ refuses at fault → IsFault format due text at fault
fault-numbered {F} format due text n at fault (Some other) long t r e =
    let there : IsFault format due text 11 other = at_number t r in
    let same : (11 ≡ at) × (other ≡ fault) = (cc, cc) in
    subst (λ (p : ℕ × F). IsFault format due text p.0 p.1) (ap (λ (k : ℕ). (k, other)) same.0 ∙ ap (λ (f : F). (at, f)) same.1) there
fault-numbered format due text n at fault None true t r e = absurd cc
fault-numbered format due text n at fault None false t r e = absurd cc

fault-scanned : {F : Type 0} (format : Format F) (due : Due F) (text : List ℕ) (at : ℕ) (fault : F) (s : Scan) → length due.name ≡ 4
    → scan_of due.name text ≡ s → scanned format due text s ≡ refuses at fault → IsFault format due text at fault
fault-scanned {F} format due text at fault (WrongName k) four is e =
    let there : IsFault format due text k format.wrong_name = at_name (wrong_name-scan due.name text k four is) in
    let same : (k ≡ at) × (format.wrong_name ≡ fault) = (cc, cc) in
    subst (λ (p : ℕ × F). IsFault format due text p.0 p.1) (ap (λ (k : ℕ). (k, format.wrong_name)) same.0
    ∙ ap (λ (f : F). (at, f)) same.1) there
fault-scanned {F} format due text at fault (BadDigit k) four is e =
    let there : IsFault format due text k format.bad_digit = at_digit (bad_digit-scan due.name text k four is) in
    let same : (k ≡ at) × (format.bad_digit ≡ fault) = (cc, cc) in
    subst (λ (p : ℕ × F). IsFault format due text p.0 p.1) (ap (λ (k : ℕ). (k, format.bad_digit)) same.0
    ∙ ap (λ (f : F). (at, f)) same.1) there
fault-scanned format due text at fault Short four is e = absurd cc
fault-scanned format due text at fault (Number n) four is e =
    fault-numbered format due text n at fault (due.refused n) (ltb (length text) (12 + body_len due n))
    (token-scan due.name n text four is).0 refl e

pub fault-step : {F : Type 0} (format : Format F) (due : Due F) (text : List ℕ) (at : ℕ) (fault : F) → length due.name ≡ 4
    → step_of format due text ≡ refuses at fault → IsFault format due text at fault
unfolding step_of
fault-step format due text at fault four e = fault-scanned format due text at fault (scan_of due.name text) four refl e

field-numbered : {F : Type 0} (due : Due F) (text : List ℕ) (n m : ℕ) (o : Option F) (long : Bool)
    → IsToken due.name n (take 12 text) → 12 ≤ length text → due.refused n ≡ o → ltb (length text) (12 + body_len due n) ≡ long
    → numbered o long n ≡ takes m
    → IsField due (field_at due m text) (take (12 + body_len due m) text) × (12 + body_len due m ≤ length text)
field-numbered due text n m (Some other) long t k r l e = absurd cc
field-numbered due text n m None true t k r l e = absurd cc
field-numbered {F} due text n m None false t k r l e =
    let fits : 12 + body_len due n ≤ length text = ltb-false _ _ l in
    let there : IsField due (field_at due n text) (take (12 + body_len due n) text) × (12 + body_len due n ≤ length text) = (
      record {
        token = take 12 text;
        is_token = t;
        right = r;
        sized = omega (arith, length-take (body_len due n) (drop 12 text), length-drop 12 text);
        parts = take-add 12 (body_len due n) text;
      },
      fits,
    ) in
    let same : n ≡ m = cc in
    subst (λ (k : ℕ). IsField due (field_at due k text) (take (12 + body_len due k) text) × (12 + body_len due k ≤ length text)) same there

field-scanned : {F : Type 0} (format : Format F) (due : Due F) (text : List ℕ) (m : ℕ) (s : Scan) → length due.name ≡ 4
    → scan_of due.name text ≡ s → scanned format due text s ≡ takes m
    → IsField due (field_at due m text) (take (12 + body_len due m) text) × (12 + body_len due m ≤ length text)
field-scanned format due text m (WrongName k) four is e = absurd cc
field-scanned format due text m (BadDigit k) four is e = absurd cc
field-scanned format due text m Short four is e = absurd cc
field-scanned format due text m (Number n) four is e =
    let t = token-scan due.name n text four is in
    field-numbered due text n m (due.refused n) (ltb (length text) (12 + body_len due n)) t.0 t.1 refl refl e

pub field-step : {F : Type 0} (format : Format F) (due : Due F) (text : List ℕ) (m : ℕ) → length due.name ≡ 4
    → step_of format due text ≡ takes m
    → IsField due (field_at due m text) (take (12 + body_len due m) text) × (12 + body_len due m ≤ length text)
unfolding step_of
field-step format due text m four e = field-scanned format due text m (scan_of due.name text) four refl e

-- a field at the front is the one of its number there
pub field-is : {F : Type 0} (due : Due F) (field : Field) (first rest text : List ℕ) → length due.name ≡ 4 → IsField due field first
    → text ≡ first ++ rest
    → (field ≡ field_at due field.number text) × (rest ≡ drop (12 + body_len due field.number) text)
    × (length first ≡ 12 + body_len due field.number)
field-is due field first rest text four f e =
    let tl : length f.token ≡ 12 = token_len due.name field.number f.token four f.is_token in
    let parts : text ≡ f.token ++ (field.body ++ rest) = e ∙ ap (λ (x : List ℕ). x ++ rest) f.parts
    ∙ append_assoc f.token field.body rest in
    let after : drop 12 text ≡ field.body ++ rest = ap (drop 12) parts ∙ drop_at f.token (field.body ++ rest) 12 tl in
    let body : take (body_len due field.number) (drop 12 text) ≡ field.body = ap (take (body_len due field.number)) after
    ∙ take_at field.body rest (body_len due field.number) f.sized in
    let len : length first ≡ 12 + body_len due field.number = ap length f.parts ∙ length-append f.token field.body
    ∙ omega (arith, f.sized) in
    let last : rest ≡ drop (12 + body_len due field.number) text =
    sym (ap (drop (12 + body_len due field.number)) e ∙ drop_at first rest (12 + body_len due field.number) len) in
    (ap (λ (b : List ℕ). let g : Field = record { number = field.number; body = b } in g) (sym body), last, len)
