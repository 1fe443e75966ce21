-- Every front of forms can be ended.
use Rattle.std.proofs.Common.{◌≡◌, ℕ, zero, suc, ◌≤◌, true, false, List, [], ◌∷◌, ◌++◌}
use Rattle.std.proofs.Common.{ap, sym, ◌∙◌, append_assoc, ◌⊎◌, inl, inr, arith}
use Rattle.std.proofs.lemmas.List.{append-nil}
use Rattle.sample_lang.specs.declared.token.Token.{Token}
use Rattle.sample_lang.specs.declared.token.Token.TheVariants.{IntWord, Identifier, Integer, Equals}
use Rattle.sample_lang.specs.declared.token.Token.TheVariants.{Semicolon, Close}
use Rattle.sample_lang.specs.declared.program.Item.{Item}
use Rattle.sample_lang.specs.declared.stage.Definition.{Definition}
use Rattle.sample_lang.specs.declared.stage.Stage.{Stage}
use Rattle.sample_lang.specs.declared.stage.Stage.TheVariants.{Between, BehindExtern, NeedName, NeedEnd, DefName, DefEquals, Operand}
use Rattle.sample_lang.specs.declared.stage.Stage.TheVariants.{Operator}
use Rattle.sample_lang.specs.Grammar.{Expr, Alone, Term, Single, Literal, Group, ItemForm, Needs, Defines, depth_max}
use Rattle.sample_lang.specs.Grammar.{expr_tokens, term_tokens, factor_tokens, item_tokens, forms_tokens, expr_depth, term_depth}
use Rattle.sample_lang.specs.Grammar.{IsShallow}
use Rattle.sample_lang.specs.Sources.{BeginForms}
use Rattle.sample_lang.proofs.Zipper.{Terms, Front, terms_tokens, factors_tokens}
use Rattle.sample_lang.proofs.Zipper.{front_tokens, terms_depth}
use Rattle.sample_lang.proofs.Zipper.{whole_expr, whole_term, whole_expr_tokens, whole_term_tokens, whole_expr_depth}
use Rattle.sample_lang.proofs.Zipper.{whole_term_depth, outer_tokens, Fits, ShowsOperand, ShowsOperator}
use Rattle.sample_lang.proofs.Zipper.{ShowsPart, Shows, forms_tokens-push, AreShallow-push}

-- ---- every front can be ended

-- the part is the front of an item
abbrev CanEnd : List Token → Type 0
CanEnd part = (rest : List Token) × (i : ItemForm) × (part ++ rest ≡ item_tokens i) × IsShallow i

-- an expr that has its last term
end_expr : (terms : Terms) (term : Term) (outer : List Front) (room : ℕ) → Fits room outer → terms_depth terms ≤ room
    → term_depth term ≤ room → (rest : List Token) × (e : Expr)
    × ((outer_tokens outer ++ (terms_tokens terms ++ term_tokens term)) ++ rest ≡ expr_tokens e ++ Semicolon ∷ []) × (expr_depth e ≤ depth_max)
end_expr terms term [] room fits low_terms low_term =
    let low = whole_expr_depth terms term room low_terms low_term in
    (Semicolon ∷ [], whole_expr terms term, ap (λ ts. ts ++ Semicolon ∷ []) (sym (whole_expr_tokens terms term)), omega arith)
end_expr terms term (front ∷ outer) room fits low_terms low_term =
    let e = whole_expr terms term in
    let low : expr_depth e ≤ room = whole_expr_depth terms term room low_terms low_term in
    let last = whole_term front.factors (Group e) in
    let low_last : term_depth last ≤ suc room = whole_term_depth front.factors (Group e) (suc room) fits.1 (omega arith) in
    let later = end_expr front.terms last outer (suc room) fits.2 fits.0 low_last in (
      Close ∷ later.0,
      later.1,
      ap (λ ts. (outer_tokens (front ∷ outer) ++ ts) ++ Close ∷ later.0) (sym (whole_expr_tokens terms term))
          ∙ (let joined : (outer_tokens (front ∷ outer) ++ expr_tokens e) ++ Close ∷ later.0
          ≡ (outer_tokens outer ++ (terms_tokens front.terms ++ (factors_tokens front.factors ++ factor_tokens (Group e))))
          ++ later.0 = simp append_assoc in joined)
          ∙ ap (λ ts. (outer_tokens outer ++ (terms_tokens front.terms ++ ts)) ++ later.0) (sym (whole_term_tokens front.factors (Group e)))
          ∙ later.2,
      later.3,
    )

end_operator : (part : List Token) (d : Definition) → ShowsOperator part d → CanEnd part
end_operator part d o =
    let found = end_expr o.terms o.term o.outer o.room o.fits o.terms_fit o.term_fits in (
      found.0,
      Defines o.name found.1,
      ap (λ p. p ++ found.0) o.tokens
          ∙ ap (λ ts. IntWord ∷ Identifier o.name ∷ Equals ∷ ts) found.2,
      found.3,
    )

end_operand : (part : List Token) (d : Definition) → ShowsOperand part d → CanEnd part
end_operand part d o =
    let last = whole_term o.front.factors (Literal 0) in
    let low : term_depth last ≤ o.room = whole_term_depth o.front.factors (Literal 0) o.room o.factors_fit (omega arith) in
    let found = end_expr o.front.terms last o.outer o.room o.fits o.terms_fit low in (
      Integer 0 ∷ found.0,
      Defines o.name found.1,
      ap (λ p. p ++ Integer 0 ∷ found.0) o.tokens
          ∙ ap (λ ts. IntWord ∷ Identifier o.name ∷ Equals ∷ ts)
          ((let joined : (outer_tokens o.outer ++ front_tokens o.front) ++ Integer 0 ∷ found.0
          ≡ (outer_tokens o.outer ++ (terms_tokens o.front.terms
          ++ (factors_tokens o.front.factors ++ factor_tokens (Literal 0)))) ++ found.0 = simp append_assoc in joined)
          ∙ ap (λ ts. (outer_tokens o.outer ++ (terms_tokens o.front.terms ++ ts)) ++ found.0)
          (sym (whole_term_tokens o.front.factors (Literal 0)))
          ∙ found.2),
      found.3,
    )

end_part : (part : List Token) (stage : Stage) → ShowsPart part stage → (part ≡ []) ⊎ CanEnd part
end_part part Between h = inl h
end_part part BehindExtern h =
    inr (IntWord ∷ Identifier [] ∷ Semicolon ∷ [], Needs [], ap (λ p. p ++ IntWord ∷ Identifier [] ∷ Semicolon ∷ []) h, tt)
end_part part NeedName h = inr (Identifier [] ∷ Semicolon ∷ [], Needs [], ap (λ p. p ++ Identifier [] ∷ Semicolon ∷ []) h, tt)
end_part part (NeedEnd name) h = inr (Semicolon ∷ [], Needs name, ap (λ p. p ++ Semicolon ∷ []) h, tt)
end_part part DefName h =
    inr (
      Identifier [] ∷ Equals ∷ Integer 0 ∷ Semicolon ∷ [],
      Defines [] (Alone (Single (Literal 0))),
      ap (λ p. p ++ Identifier [] ∷ Equals ∷ Integer 0 ∷ Semicolon ∷ []) h,
      omega arith,
    )
end_part part (DefEquals name) h =
    inr (
      Equals ∷ Integer 0 ∷ Semicolon ∷ [],
      Defines name (Alone (Single (Literal 0))),
      ap (λ p. p ++ Equals ∷ Integer 0 ∷ Semicolon ∷ []) h,
      omega arith,
    )
end_part part (Operand d) h = inr (end_operand part d h)
end_part part (Operator d) h = inr (end_operator part d h)

begin_by : (tokens : List Token) (items : List Item) (stage : Stage) (s : Shows tokens items stage) → (s.part ≡ []) ⊎ CanEnd s.part
    → BeginForms tokens
begin_by tokens items stage s (inl none) = (
  [],
  s.forms,
  record {
    spelled = append-nil tokens ∙ s.split ∙ ap (λ p. forms_tokens s.forms ++ p) none ∙ append-nil (forms_tokens s.forms);
    shallow = s.shallow;
  },
)
begin_by tokens items stage s (inr more) = (
  more.0,
  s.forms ++ more.1 ∷ [],
  record {
    spelled = ap (λ ts. ts ++ more.0) s.split ∙ append_assoc (forms_tokens s.forms) s.part more.0
        ∙ ap (λ p. forms_tokens s.forms ++ p) more.2 ∙ sym (forms_tokens-push s.forms more.1);
    shallow = AreShallow-push s.forms more.1 s.shallow more.3;
  },
)

-- what was read begins forms
pub shows_begin : (tokens : List Token) (items : List Item) (stage : Stage) → Shows tokens items stage → BeginForms tokens
shows_begin tokens items stage s = begin_by tokens items stage s (end_part s.part stage s.shows)
