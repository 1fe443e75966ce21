-- What a field is, and what its rule says.
use Rattle.std.proofs.Common.{◌≡◌, ℕ, Bool, true, false, cond, List, [], ◌++◌, length, Some, None, refl, sym, ap, subst, ◌∙◌}
use Rattle.std.proofs.lemmas.List.{append-nil, nil_from_length}
use Rattle.wire_tokens.specs.Token.{IsToken}
use Rattle.wire_tokens.specs.Format.{Field, Due, IsField}

pub due_is : {F : Type 0} (a b : Due F) → Some a ≡ Some b → a ≡ b
due_is a b e = cc

pub four_of_due : {F : Type 0} (a b : Due F) → length a.name ≡ 4 → Some a ≡ Some b → length b.name ≡ 4
four_of_due {F} a b h e = subst (λ (d : Due F). length d.name ≡ 4) (due_is a b e) h

pub allowed : {F : Type 0} (b : Bool) (f : F) → cond b None (Some f) ≡ None → b ≡ true
allowed true f e = refl
allowed false f e = absurd cc

pub allowed_twice : {F : Type 0} (a b : Bool) (f g : F) → cond a (cond b None (Some f)) (Some g) ≡ None → (a ≡ true) × (b ≡ true)
allowed_twice true true f g e = (refl, refl)
allowed_twice true false f g e = absurd cc
allowed_twice false b f g e = absurd cc

-- a token with nothing after it
pub plain : {F : Type 0} (due : Due F) (field : Field) (first : List ℕ) → due.has_body ≡ false → IsField due field first
    → IsToken due.name field.number first × (field.body ≡ [])
plain due field first bare f =
    let none : length field.body ≡ 0 = f.sized ∙ ap (λ (b : Bool). cond b field.number 0) bare in
    let nil : field.body ≡ [] = nil_from_length field.body none in
    let is : first ≡ f.token = f.parts ∙ ap (λ (x : List ℕ). f.token ++ x) nil ∙ append-nil f.token in
    (subst (IsToken due.name field.number) (sym is) f.is_token, nil)

pub plain_field : {F : Type 0} (due : Due F) (n : ℕ) (token : List ℕ) → due.has_body ≡ false → due.refused n ≡ None
    → IsToken due.name n token → IsField due (record { number = n; body = [] }) token
plain_field due n token bare ok t =
    record { token = token; is_token = t; right = ok; sized = sym (ap (λ (b : Bool). cond b n 0) bare); parts = sym (append-nil token) }

-- a token with bytes after it
pub bodied : {F : Type 0} (due : Due F) (field : Field) (first : List ℕ) → due.has_body ≡ true → IsField due field first
    → field.number ≡ length field.body
bodied due field first has f = sym (f.sized ∙ ap (λ (b : Bool). cond b field.number 0) has)

pub bodied_field : {F : Type 0} (due : Due F) (bytes token : List ℕ) → due.has_body ≡ true → due.refused (length bytes) ≡ None
    → IsToken due.name (length bytes) token → IsField due (record { number = length bytes; body = bytes }) (token ++ bytes)
bodied_field due bytes token has ok t =
    record { token = token; is_token = t; right = ok; sized = sym (ap (λ (b : Bool). cond b (length bytes) 0) has); parts = refl }

pub due_again : {F : Type 0} (a b : Due F) (field : Field) (text : List ℕ) → Some a ≡ Some b → IsField b field text → IsField a field text
due_again {F} a b field text e f = subst (λ (d : Due F). IsField d field text) (sym (due_is a b e)) f

pub token_of : {F : Type 0} (due : Due F) (name : List ℕ) (field : Field) (text : List ℕ) → due.name ≡ name → due.has_body ≡ true
    → (f : IsField due field text) → IsToken name (length field.body) f.token
token_of due name field text named has f =
    subst (λ (p : List ℕ × ℕ). IsToken p.0 p.1 f.token) (ap (λ (x : List ℕ). (x, field.number)) named
    ∙ ap (λ (k : ℕ). (name, k)) (bodied due field text has f)) f.is_token

pub same_field : (f : Field) (n : ℕ) (body : List ℕ) → f.number ≡ n → f.body ≡ body → f ≡ record { number = n; body = body }
same_field f n body p q = ap (λ (k : ℕ). let g : Field = record { number = k; body = f.body } in g) p
    ∙ ap (λ (b : List ℕ). let g : Field = record { number = n; body = b } in g) q
