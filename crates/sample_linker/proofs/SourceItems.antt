-- Items of a source are right items of an object.
use Rattle.std.proofs.Common.{◌≡◌, ℕ, suc, ◌+◌, ◌-◌, ◌<◌, ◌^◌, Bool, true, false, cond, eqb, ltb, List, [], ◌∷◌, ◌++◌, length, take, refl}
use Rattle.std.proofs.Common.{ap, sym, ◌∙◌, subst, append_assoc, arith}
use Rattle.std.specs.Prelude.{not, MatchBool}
use Rattle.std.specs.List.{list_all, prefix_len, take_while}
use Rattle.std.specs.Str.{bytes_eq}
use Rattle.std.specs.Str.Parse.{digits_value}
use Rattle.std.proofs.lemmas.Bool.{and_from, ltb-true, ltb-false, le-leb, le-ltb}
use Rattle.std.proofs.lemmas.Bool.Decides.{nat_tests}
use Rattle.std.proofs.lemmas.List.{append-nil}
use Rattle.std.specs.Char.{is_ascii_digit}
use Rattle.farm_types.specs.Bytes.{is_blank_or_line_feed}
use Rattle.sample_lang.specs.declared.token.Token.{Token}
use Rattle.sample_lang.specs.declared.token.Token.TheVariants.{IntWord, ExternWord, Identifier, Integer, Plus, Minus, Times, Equals}
use Rattle.sample_lang.specs.declared.token.Token.TheVariants.{Semicolon, Open, Close, StrayByte, LongName, LargeNumber}
use Rattle.sample_lang.specs.declared.program.Part.{Part}
use Rattle.sample_lang.specs.declared.program.Part.TheVariants.{Add, Sub, Mul}
use Rattle.sample_lang.specs.declared.program.Item.{Item}
use Rattle.sample_lang.specs.Bytes.{begins_name, is_name_byte, name_max, int_word, extern_word}
use Rattle.sample_lang.specs.Tokens.{Placed, kinds, behind, word_token, number_token, symbol_token, IsRun, BeginsWith, TokensOf}
use Rattle.sample_lang.specs.Grammar.{Expr, Alone, Sum, Difference, Term, Single, Product, Factor, Literal, Reference, Group, ItemForm}
use Rattle.sample_lang.specs.Grammar.{Needs, Defines, expr_tokens, term_tokens, factor_tokens, item_tokens, forms_tokens, expr_code}
use Rattle.sample_lang.specs.Grammar.{term_code, factor_code, item_of, items_of}
use Rattle.sample_lang.specs.Sources.{SourceOf}
use Rattle.sample_linker.specs.declared.kind.Kind.TheVariants.{Object}
use Rattle.sample_compiler.specs.Objects.{items_text}
use Rattle.sample_linker.specs.Lines.{begins_by, is_name, leaves_one}
use Rattle.sample_linker.specs.Right.{AreRightParts, IsRightItem, AreRightItems, Says}

-- ---- tokens

abbrev IsRightToken : Token → Type 0
IsRightToken (Identifier name) = is_name name ≡ true
IsRightToken (Integer n) = n < 2 ^ 64
IsRightToken _ = Unit {0}

abbrev AreRightTokens : List Token → Type 0
AreRightTokens [] = Unit {0}
AreRightTokens (t ∷ ts) = IsRightToken t × AreRightTokens ts

right_cond : (b : Bool) (x y : Token) → (b ≡ true → IsRightToken x) → (b ≡ false → IsRightToken y) → IsRightToken (cond b x y)
right_cond true x y h k = h refl
right_cond false x y h k = k refl

one_more : (n : ℕ) → 1 + n ≡ suc n
one_more n = omega arith

front_by : (p : ℕ → Bool) (x : ℕ) (xs : List ℕ) (b : Bool) → p x ≡ b → list_all p (take_while p xs) ≡ true
    → list_all p (take (cond b (1 + prefix_len p xs) 0) (x ∷ xs)) ≡ true
front_by p x xs true is more = ap (λ n. list_all p (take n (x ∷ xs))) (one_more (prefix_len p xs))
    ∙ and_from (p x) (list_all p (take_while p xs)) is more
front_by p x xs false is more = refl

front_all : (p : ℕ → Bool) (xs : List ℕ) → list_all p (take_while p xs) ≡ true
front_all p [] = refl
front_all p (x ∷ xs) = front_by p x xs (p x) refl (front_all p xs)

front_begins : (p q : ℕ → Bool) (x : ℕ) (xs : List ℕ) → p x ≡ true → q x ≡ true → begins_by q (take_while p (x ∷ xs)) ≡ true
front_begins p q x xs h k =
    ap (λ b. begins_by q (take (cond b (1 + prefix_len p xs) 0) (x ∷ xs))) h
    ∙ ap (λ n. begins_by q (take n (x ∷ xs))) (one_more (prefix_len p xs)) ∙ k

name_byte : (c : ℕ) → begins_name c ≡ true → is_name_byte c ≡ true
name_byte c h = grind (arith, nat_tests)

right_word : (w : List ℕ) → begins_by begins_name w ≡ true → list_all is_name_byte w ≡ true → IsRightToken (word_token w)
right_word w h k =
    right_cond (ltb name_max (length w)) LongName _ (λ _. tt) (λ short.
    right_cond (bytes_eq w int_word) IntWord _ (λ _. tt) (λ no_int.
    right_cond (bytes_eq w extern_word) ExternWord _ (λ _. tt) (λ no_extern.
    and_from _ _ (and_from _ _ (and_from _ _ (and_from _ _ h k) (le-leb (length w) name_max (ltb-false name_max (length w) short)))
    (ap not no_int))
    (ap not no_extern))))

right_number : (ds : List ℕ) → IsRightToken (number_token ds)
right_number ds = right_cond (ltb (digits_value 10 ds) (2 ^ 64)) (Integer (digits_value 10 ds)) LargeNumber
    (ltb-true (digits_value 10 ds) (2 ^ 64)) (λ _. tt)

right_symbol : (c : ℕ) → IsRightToken (symbol_token c)
right_symbol c =
    right_cond (eqb c 43) Plus _ (λ _. tt) (λ _. right_cond (eqb c 45) Minus _ (λ _. tt) (λ _. right_cond (eqb c 42) Times _ (λ _. tt) (λ _.
    right_cond (eqb c 61) Equals _ (λ _. tt)
    (λ _. right_cond (eqb c 59) Semicolon _ (λ _. tt) (λ _. right_cond (eqb c 40) Open _ (λ _. tt) (λ _.
    right_cond (eqb c 41) Close StrayByte (λ _. tt) (λ _. tt)))))))

begins_by_cases : (c : ℕ) (cs : List ℕ) (token : Token) (rest : List ℕ) (b d : Bool) → begins_name c ≡ b → is_ascii_digit c ≡ d
    → MatchBool b (IsRun is_name_byte word_token (c ∷ cs) token rest)
    (MatchBool d (IsRun is_ascii_digit number_token (c ∷ cs) token rest) ((token ≡ symbol_token c) × (rest ≡ cs)))
    → IsRightToken token
begins_by_cases c cs token rest true d is digit h =
    let word : List ℕ = take_while is_name_byte (c ∷ cs) in
    subst IsRightToken (sym h.0)
    (right_word word (front_begins is_name_byte begins_name c cs (name_byte c is) is) (front_all is_name_byte (c ∷ cs)))
begins_by_cases c cs token rest false true is digit h = subst IsRightToken (sym h.0) (right_number (take_while is_ascii_digit (c ∷ cs)))
begins_by_cases c cs token rest false false is digit h = subst IsRightToken (sym h.0) (right_symbol c)

right_begin : (text : List ℕ) (token : Token) (rest : List ℕ) → BeginsWith text token rest → IsRightToken token
right_begin [] token rest h = absurd h
right_begin (c ∷ cs) token rest h = begins_by_cases c cs token rest (begins_name c) (is_ascii_digit c) refl refl h

tokens_right : (line : ℕ) (text : List ℕ) (ps : List Placed) → TokensOf line text ps → AreRightTokens (kinds ps)
tokens_right line text [] h = tt
tokens_right line text (p ∷ ps) h = (right_begin (behind is_blank_or_line_feed text) p.token h.0 h.1.begins, tokens_right p.line h.0 ps h.2)

both : (ts us : List Token) → AreRightTokens (ts ++ us) → AreRightTokens ts × AreRightTokens us
both [] us h = (tt, h)
both (t ∷ ts) us h = let more = both ts us h.1 in ((h.0, more.0), more.1)

-- ---- forms

joined : (ps qs : List Part) → AreRightParts ps → AreRightParts qs → AreRightParts (ps ++ qs)
joined [] qs h k = k
joined (p ∷ ps) qs h k = (h.0, joined ps qs h.1 k)

mutual
  expr_right : (e : Expr) → AreRightTokens (expr_tokens e) → AreRightParts (expr_code e)
  expr_right (Alone t) h = term_right t h
  expr_right (Sum e t) h =
      let s = both (expr_tokens e) (Plus ∷ term_tokens t) h in
      joined (expr_code e) (term_code t ++ Add ∷ []) (expr_right e s.0) (joined (term_code t) (Add ∷ []) (term_right t s.1.1) (tt, tt))
  expr_right (Difference e t) h =
      let s = both (expr_tokens e) (Minus ∷ term_tokens t) h in
      joined (expr_code e) (term_code t ++ Sub ∷ []) (expr_right e s.0) (joined (term_code t) (Sub ∷ []) (term_right t s.1.1) (tt, tt))

  term_right : (t : Term) → AreRightTokens (term_tokens t) → AreRightParts (term_code t)
  term_right (Single f) h = factor_right f h
  term_right (Product t f) h =
      let s = both (term_tokens t) (Times ∷ factor_tokens f) h in
      joined (term_code t) (factor_code f ++ Mul ∷ []) (term_right t s.0)
      (joined (factor_code f) (Mul ∷ []) (factor_right f s.1.1) (tt, tt))

  factor_right : (f : Factor) → AreRightTokens (factor_tokens f) → AreRightParts (factor_code f)
  factor_right (Literal n) h = h
  factor_right (Reference name) h = h
  factor_right (Group e) h = expr_right e (both (expr_tokens e) (Close ∷ []) h.1).0

-- ---- codes leave one value

regroup : (a b c d : List Part) → (a ++ (b ++ c)) ++ d ≡ a ++ (b ++ (c ++ d))
regroup a b c d = simp append_assoc

two_found : (depth : ℕ) (rest : List Part)
    → cond (ltb (suc (suc depth)) 2) false (leaves_one (suc (suc depth) - 1) rest) ≡ leaves_one (suc depth) rest
two_found depth rest =
    let enough : ltb (suc (suc depth)) 2 ≡ false = le-ltb (suc (suc depth)) 2 (omega arith) in
    let less : suc (suc depth) - 1 ≡ suc depth = omega arith in
    ap (λ b. cond b false (leaves_one (suc (suc depth) - 1) rest)) enough ∙ ap (λ n. leaves_one n rest) less

mutual
  expr_leaves : (depth : ℕ) (e : Expr) (rest : List Part) → leaves_one depth (expr_code e ++ rest) ≡ leaves_one (suc depth) rest
  expr_leaves depth (Alone t) rest = term_leaves depth t rest
  expr_leaves depth (Sum e t) rest =
      ap (leaves_one depth) (regroup (expr_code e) (term_code t) (Add ∷ []) rest)
      ∙ expr_leaves depth e (term_code t ++ (Add ∷ rest)) ∙ term_leaves (suc depth) t (Add ∷ rest) ∙ two_found depth rest
  expr_leaves depth (Difference e t) rest =
      ap (leaves_one depth) (regroup (expr_code e) (term_code t) (Sub ∷ []) rest)
      ∙ expr_leaves depth e (term_code t ++ (Sub ∷ rest)) ∙ term_leaves (suc depth) t (Sub ∷ rest) ∙ two_found depth rest

  term_leaves : (depth : ℕ) (t : Term) (rest : List Part) → leaves_one depth (term_code t ++ rest) ≡ leaves_one (suc depth) rest
  term_leaves depth (Single f) rest = factor_leaves depth f rest
  term_leaves depth (Product t f) rest =
      ap (leaves_one depth) (regroup (term_code t) (factor_code f) (Mul ∷ []) rest)
      ∙ term_leaves depth t (factor_code f ++ (Mul ∷ rest)) ∙ factor_leaves (suc depth) f (Mul ∷ rest) ∙ two_found depth rest

  factor_leaves : (depth : ℕ) (f : Factor) (rest : List Part) → leaves_one depth (factor_code f ++ rest) ≡ leaves_one (suc depth) rest
  factor_leaves depth (Literal n) rest = refl
  factor_leaves depth (Reference name) rest = refl
  factor_leaves depth (Group e) rest = expr_leaves depth e rest

pub one_left : (e : Expr) → leaves_one 0 (expr_code e) ≡ true
one_left e = ap (leaves_one 0) (sym (append-nil (expr_code e))) ∙ expr_leaves 0 e []

-- ---- items

item_right : (form : ItemForm) → AreRightTokens (item_tokens form) → IsRightItem Object (item_of form)
item_right (Needs name) h = (refl, h.1.1.0)
item_right (Defines name e) h = (h.1.0, expr_right e (both (expr_tokens e) (Semicolon ∷ []) h.1.1.1).0, one_left e)

forms_right : (forms : List ItemForm) → AreRightTokens (forms_tokens forms) → AreRightItems Object (items_of forms)
forms_right [] h = tt
forms_right (form ∷ forms) h =
    let s = both (item_tokens form) (forms_tokens forms) h in
    (item_right form s.0, forms_right forms s.1)

-- the object of a source is right, and says its items
pub source_says : (text : List ℕ) (items : List Item) → SourceOf text items → Says Object (items_text items) items
source_says text items s = record {
  spelled = refl;
  right = subst (AreRightItems Object) (sym s.meant)
      (forms_right s.forms (subst AreRightTokens s.spelled.spelled (tokens_right 1 text s.tokens s.split)));
  declared = s.declared;
}
