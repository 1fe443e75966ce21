-- Which tokens are wrong, and that the reader takes the others.
use Rattle.std.proofs.Common.{◌≡◌, ℕ, Bool, true, false, cond, List, [], ◌∷◌, ◌++◌, Option, None, Some, Ok, Err, refl}
use Rattle.std.proofs.Common.{ap, sym, ◌∙◌, subst, append_assoc, ◌⊎◌, inl, inr}
use Rattle.std.specs.Prelude.{MatchBool, MatchOption, unwrap_or}
use Rattle.std.proofs.lemmas.Bool.{false≢true}
use Rattle.sample_lang.specs.declared.token.Token.{Token}
use Rattle.sample_lang.specs.declared.token.Token.TheVariants.{Identifier}
use Rattle.sample_lang.specs.declared.token.Token.TheVariants.{StrayByte, LongName, LargeNumber}
use Rattle.sample_lang.specs.declared.program.Part.TheVariants.{Name}
use Rattle.sample_lang.specs.declared.program.Item.{Item}
use Rattle.sample_lang.specs.declared.fault.Fault.{Fault}
use Rattle.sample_lang.specs.declared.fault.Fault.TheVariants.{BadByte, NameTooLong, NumberTooLarge, Syntax, UnknownName, NameAgain}
use Rattle.sample_lang.specs.declared.stage.Stage.{Stage}
use Rattle.sample_lang.specs.declared.stage.Stage.TheVariants.{Between, BehindExtern, NeedName, NeedEnd, DefName, DefEquals, Operand}
use Rattle.sample_lang.specs.declared.stage.Stage.TheVariants.{Operator}
use Rattle.sample_lang.specs.Grammar.{items_of}
use Rattle.sample_lang.specs.Names.{is_named}
use Rattle.sample_lang.specs.Sources.{own_fault, ends_in_int, EndedItems, IsFaultyName, CannotStand}
use Rattle.sample_lang.specs.Sources.{IsWrong, AreRight}
use Rattle.sample_lang.specs.Steps.{State, Turn, step, refusal, end_factor, with_part}
use Rattle.sample_lang.proofs.Running.{Came, bind, run, start, bind_ok, run-push, run-stop, run-front, loose_step}
use Rattle.sample_lang.proofs.Running.{loose_run}
use Rattle.sample_lang.proofs.Standing.{no_turn, ran_shows, ran_begins, begins_ran, names_item, ran_names, ended_items, NameTurn}
use Rattle.sample_lang.proofs.Standing.{WrongTurn, taken, wrong_turn}

-- ---- wrong tokens

own_none : (t : Token) (name : List ℕ) → t ≡ Identifier name → own_fault t ≡ None
own_none t name e = ap own_fault e

-- by what is wrong with the token itself
by_own : (t : Token) (o : Option Fault) → own_fault t ≡ o → (A : Type 0) (B : Fault → Type 0) → MatchOption o A B
    → MatchOption (own_fault t) A B
by_own t o e A B h = subst (λ x. MatchOption x A B) (sym e) h

wrong_syntax : (before : List Token) (s : State) (t : Token) (fault : Fault) → run false start before ≡ Ok s
    → step false s.0 s.1 t ≡ Err (refusal t) → fault ≡ refusal t → (o : Option Fault) → own_fault t ≡ o → IsWrong before t fault
wrong_syntax before s t fault ran stop is (Some own) e =
    let same : refusal t ≡ own = ap (λ (o : Option Fault). unwrap_or o Syntax) e in
    by_own t (Some own) e (CannotStand before t fault) (λ own. fault ≡ own) (is ∙ same)
wrong_syntax before s t fault ran stop is None e =
    let same : refusal t ≡ Syntax = ap (λ (o : Option Fault). unwrap_or o Syntax) e in
    by_own t None e (CannotStand before t fault) (λ own. fault ≡ own)
    (inl (
      (λ begins. let there = begins_ran (before ++ t ∷ []) begins in
          no_turn there.0 (refusal t) (sym there.1 ∙ run-stop false start s before [] t (refusal t) ran stop)),
      is ∙ same,
    ))

wrong_name : (before : List Token) (s : State) (name : List ℕ) (fault : Fault) → run false start before ≡ Ok s
    → NameTurn s.0 s.1 name fault → IsWrong before (Identifier name) fault
wrong_name before s name fault ran turn =
    let shown = ran_shows before s ran in
    let next = turn.0 in
    let begins = ran_begins (before ++ Identifier name ∷ []) next.0 (run-push false start s next.0 before (Identifier name) ran next.1) in
    let ended : EndedItems before shown.forms =
    record { part = shown.part; split = shown.split; shallow = shown.shallow; unended = shown.unended } in
    let so = ran_names before s ran in
    let known : is_named (items_of shown.forms) name ≡ is_named s.0 name = ap (λ is. is_named is name) (sym shown.meant) in
    inr (
      begins,
      (
        name,
        refl,
        (
          shown.forms,
          ended,
          either (ends_in_int before) (names_item s.1) (is_named (items_of shown.forms) name) (is_named s.0 name)
              (fault ≡ NameAgain name) (fault ≡ UnknownName name) so known turn.1,
        ),
      ),
    )
  where
    either : (a b c d : Bool) (P Q : Type 0) → a ≡ b → c ≡ d → ((b ≡ true) × (d ≡ true) × P) ⊎ ((b ≡ false) × (d ≡ false) × Q)
        → ((a ≡ true) × (c ≡ true) × P) ⊎ ((a ≡ false) × (c ≡ false) × Q)
    either a b c d P Q e f (inl h) = inl (e ∙ h.0, f ∙ h.1, h.2)
    either a b c d P Q e f (inr h) = inr (e ∙ h.0, f ∙ h.1, h.2)

-- a token that the reader doesn't take is wrong
pub stopped_wrong : (before : List Token) (s : State) (t : Token) (fault : Fault) → run false start before ≡ Ok s
    → step true s.0 s.1 t ≡ Err fault → IsWrong before t fault
stopped_wrong before s t fault ran stop = by (wrong_turn s.0 s.1 t fault stop)
  where
    by : WrongTurn s.0 s.1 t fault → IsWrong before t fault
    by (inl h) = wrong_syntax before s t fault ran h.0 h.1 (own_fault t) refl
    by (inr h) = subst (λ u. IsWrong before u fault) (sym h.1) (wrong_name before s h.0 fault ran h.2)

one_name : (one other : List ℕ) → Identifier one ≡ Identifier other → one ≡ other
one_name one other h = cc

both_names : (before : List Token) (t : Token) (f g : Fault) → IsFaultyName before t f → IsFaultyName before t g → f ≡ g
both_names before t f g h k =
    let same : h.0 ≡ k.0 = one_name h.0 k.0 (sym h.1 ∙ k.1) in
    join h.0 k.0 same h.2.2 k.2.2
  where
    join : (n m : List ℕ) → n ≡ m → {P Q R S : Type 0} → ((ends_in_int before ≡ true) × P × (f ≡ NameAgain n))
        ⊎ ((ends_in_int before ≡ false) × Q × (f ≡ UnknownName n)) → ((ends_in_int before ≡ true) × R × (g ≡ NameAgain m))
        ⊎ ((ends_in_int before ≡ false) × S × (g ≡ UnknownName m)) → f ≡ g
    join n m e (inl a) (inl b) = a.2 ∙ ap NameAgain e ∙ sym b.2
    join n m e (inl a) (inr b) = absurd (false≢true (sym b.0 ∙ a.0))
    join n m e (inr a) (inl b) = absurd (false≢true (sym a.0 ∙ b.0))
    join n m e (inr a) (inr b) = a.2 ∙ ap UnknownName e ∙ sym b.2

both_stand : (before : List Token) (t : Token) (f g : Fault) → CannotStand before t f → CannotStand before t g → f ≡ g
both_stand before t f g (inl h) (inl k) = h.1 ∙ sym k.1
both_stand before t f g (inl h) (inr k) = absurd (h.0 k.0)
both_stand before t f g (inr h) (inl k) = absurd (k.0 h.0)
both_stand before t f g (inr h) (inr k) = both_names before t f g h.1 k.1

one_wrong : (before : List Token) (t : Token) (f g : Fault) → IsWrong before t f → IsWrong before t g → f ≡ g
one_wrong before t f g h k = by (own_fault t) h k
  where
    by : (o : Option Fault) → MatchOption o (CannotStand before t f) (λ own. f ≡ own)
        → MatchOption o (CannotStand before t g) (λ own. g ≡ own) → f ≡ g
    by None a b = both_stand before t f g a b
    by (Some own) a b = a ∙ sym b

-- ---- a token that is taken is right

stray : (items : List Item) (stage : Stage) → step true items stage StrayByte ≡ Err BadByte
stray items Between = refl
stray items BehindExtern = refl
stray items NeedName = refl
stray items (NeedEnd name) = refl
stray items DefName = refl
stray items (DefEquals name) = refl
stray items (Operand d) = refl
stray items (Operator d) = refl

long : (items : List Item) (stage : Stage) → step true items stage LongName ≡ Err NameTooLong
long items Between = refl
long items BehindExtern = refl
long items NeedName = refl
long items (NeedEnd name) = refl
long items DefName = refl
long items (DefEquals name) = refl
long items (Operand d) = refl
long items (Operator d) = refl

large : (items : List Item) (stage : Stage) → step true items stage LargeNumber ≡ Err NumberTooLarge
large items Between = refl
large items BehindExtern = refl
large items NeedName = refl
large items (NeedEnd name) = refl
large items DefName = refl
large items (DefEquals name) = refl
large items (Operand d) = refl
large items (Operator d) = refl

taken_plain : (items : List Item) (stage : Stage) (t : Token) (n : State) → step true items stage t ≡ Ok n → own_fault t ≡ None
taken_plain items stage StrayByte n h = absurd (no_turn n BadByte (sym h ∙ stray items stage))
taken_plain items stage LongName n h = absurd (no_turn n NameTooLong (sym h ∙ long items stage))
taken_plain items stage LargeNumber n h = absurd (no_turn n NumberTooLarge (sym h ∙ large items stage))
taken_plain items stage _ n h = refl

-- of a name that is taken
abbrev GoodName : List Item → Stage → List ℕ → Type 0
GoodName items stage name = MatchBool (names_item stage) (is_named items name ≡ false) (is_named items name ≡ true)

good_item : (items : List Item) (name : List ℕ) (next : Stage) (n : State) (b : Bool)
    → Came (cond b (Err (NameAgain name)) (Ok (items, next))) n → b ≡ false
good_item items name next n true h = absurd (no_turn n (NameAgain name) (sym h))
good_item items name next n false h = refl

good_used : (name : List ℕ) (m n : State) (b : Bool) → Came (cond b (Ok m) (Err (UnknownName name))) n → b ≡ true
good_used name m n true h = refl
good_used name m n false h = absurd (no_turn n (UnknownName name) (sym h))

good_name : (items : List Item) (stage : Stage) (name : List ℕ) (n : State) → step true items stage (Identifier name) ≡ Ok n
    → GoodName items stage name
good_name items Between name n h = absurd (no_turn n Syntax (sym h))
good_name items BehindExtern name n h = absurd (no_turn n Syntax (sym h))
good_name items NeedName name n h = good_item items name (NeedEnd name) n (is_named items name) h
good_name items (NeedEnd other) name n h = absurd (no_turn n Syntax (sym h))
good_name items DefName name n h = good_item items name (DefEquals name) n (is_named items name) h
good_name items (DefEquals other) name n h = absurd (no_turn n Syntax (sym h))
good_name items (Operand d) name n h = good_used name (items, Operator (end_factor (with_part d (Name name)))) n (is_named items name) h
good_name items (Operator d) name n h = absurd (no_turn n Syntax (sym h))

no_wrong_name : (before : List Token) (s n : State) (t : Token) (fault : Fault) → run false start before ≡ Ok s
    → step true s.0 s.1 t ≡ Ok n → IsFaultyName before t fault → ⊥
no_wrong_name before s n t fault ran took h =
    let good = good_name s.0 s.1 h.0 n (sym (ap (step true s.0 s.1) h.1) ∙ took) in
    let items = ended_items before s h.2.0 h.2.1 ran in
    let known : is_named s.0 h.0 ≡ is_named (items_of h.2.0) h.0 = ap (λ is. is_named is h.0) items in
    clash (ends_in_int before) (names_item s.1) (is_named s.0 h.0) (is_named (items_of h.2.0) h.0) (ran_names before s ran) known good h.2.2
  where
    clash : (a b c d : Bool) {P Q : Type 0} → a ≡ b → c ≡ d → MatchBool b (c ≡ false) (c ≡ true) → ((a ≡ true) × (d ≡ true) × P)
        ⊎ ((a ≡ false) × (d ≡ false) × Q) → ⊥
    clash a true c d e f good (inl h) = false≢true (sym good ∙ f ∙ h.1)
    clash a true c d e f good (inr h) = false≢true (sym h.0 ∙ e)
    clash a false c d e f good (inl h) = false≢true (sym e ∙ h.0)
    clash a false c d e f good (inr h) = false≢true (sym h.1 ∙ sym f ∙ good)

-- a token that the reader takes isn't wrong
pub taken_right : (before : List Token) (s n : State) (t : Token) (fault : Fault) → run true start before ≡ Ok s
    → step true s.0 s.1 t ≡ Ok n → IsWrong before t fault → ⊥
taken_right before s n t fault ran took wrong =
    by (subst (λ o. MatchOption o (CannotStand before t fault) (λ own. fault ≡ own)) (taken_plain s.0 s.1 t n took) wrong)
  where
    loose : run false start before ≡ Ok s
    loose = loose_run start s before ran

    by : CannotStand before t fault → ⊥
    by (inl h) = h.0 (ran_begins (before ++ t ∷ []) n (run-push false start s n before t loose (loose_step s.0 s.1 t n took)))
    by (inr h) = no_wrong_name before s n t fault loose took h.1

-- ---- whole lists of tokens

abbrev Turned : State → Token → Turn → Type 0
Turned s t turn = step true s.0 s.1 t ≡ turn

-- a wrong token isn't taken
pub wrong_stopped : (before : List Token) (s : State) (t : Token) (fault : Fault) → run true start before ≡ Ok s
    → IsWrong before t fault → step true s.0 s.1 t ≡ Err fault
wrong_stopped before s t fault ran wrong = by (step true s.0 s.1 t) refl
  where
    by : (turn : Turn) → Turned s t turn → step true s.0 s.1 t ≡ Err fault
    by (Ok n) e = absurd (taken_right before s n t fault ran e wrong)
    by (Err other) e = e ∙ ap (λ f. Err f)
        (one_wrong before t other fault (stopped_wrong before s t other (loose_run start s before ran) e) wrong)

-- what was read has no wrong token
pub ran_right : (tokens : List Token) (s : State) → run true start tokens ≡ Ok s → AreRight tokens
ran_right tokens s ran before after t fault split wrong =
    let front = run-front true start s before (t ∷ after) (ap (run true start) (sym split) ∙ ran) in
    let next = bind_ok (step true front.0.0 front.0.1 t) (λ m. run true m after) s front.2 in
    taken_right before front.0 next.0 t fault front.1 next.1 wrong

right_on : (ts done : List Token) (s : State) → run true start done ≡ Ok s → AreRight (done ++ ts) → (n : State) × (run true s ts ≡ Ok n)
right_on [] done s ran right = (s, refl)
right_on (t ∷ ts) done s ran right = by (λ m ran right. right_on ts (done ++ t ∷ []) m ran right) (step true s.0 s.1 t) refl
  where
    by : ((m : State) → run true start (done ++ t ∷ []) ≡ Ok m → AreRight ((done ++ t ∷ []) ++ ts)
        → (n : State) × (run true m ts ≡ Ok n)) → (turn : Turn) → Turned s t turn → (n : State) × (run true s (t ∷ ts) ≡ Ok n)
    by more (Ok m) e =
        let later = more m (run-push true start s m done t ran e)
        (λ before after u fault split. right before after u fault (sym (append_assoc done (t ∷ []) ts) ∙ split)) in
        (later.0, ap (λ r. bind r (λ n. run true n ts)) e ∙ later.1)
    by more (Err fault) e = absurd (right done ts t fault refl (stopped_wrong done s t fault (loose_run start s done ran) e))

-- tokens without a wrong one are read
pub right_ran : (tokens : List Token) → AreRight tokens → (s : State) × (run true start tokens ≡ Ok s)
right_ran tokens right = right_on tokens [] start refl right
