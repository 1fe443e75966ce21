-- The words tell the state.
use Rattle.std.proofs.Common.{◌≡◌, ℕ, zero, suc, ◌<◌, Bool, true, false, ◌&&◌, cond, List, [], ◌∷◌, ◌++◌, length, get_or, refl, sym, ap}
use Rattle.std.proofs.Common.{◌∙◌, subst, arith}
use Rattle.std.proofs.lemmas.Bool.{eqb-true, ltb-true, lt-ltb, eq-eqb, and_parts}
use Rattle.std.proofs.lemmas.List.{append-nil}
use Rattle.slot_table.specs.declared.state.SlotState.{SlotState}
use Rattle.farm_cell.specs.declared.words.SlotWords.{SlotWords}
use Rattle.farm_cell.specs.Words.{all_bytes, is_state, words_of}

-- what stands at n places, from place i on
abbrev pub places : List ℕ → ℕ → ℕ → List ℕ
places l i zero = []
places l i (suc n) = get_or l i 0 ∷ places l (suc i) n

later : (x : ℕ) (xs : List ℕ) (i n : ℕ) → places (x ∷ xs) (suc i) n ≡ places xs i n
later x xs i zero = refl
later x xs i (suc n) = ap (λ l. get_or xs i 0 ∷ l) (later x xs (suc i) n)

-- a list is what stands at its places, whatever follows it
front : (l more : List ℕ) → places (l ++ more) 0 (length l) ≡ l
front [] more = refl
front (x ∷ xs) more = ap (λ l. x ∷ l) (later x (xs ++ more) 0 (length xs) ∙ front xs more)

behind : (l more : List ℕ) (n : ℕ) → places (l ++ more) (length l) n ≡ places more 0 n
behind [] more n = refl
behind (x ∷ xs) more n = later x (xs ++ more) (length xs) n ∙ behind xs more n

whole : (l : List ℕ) (n : ℕ) → length l ≡ n → places l 0 n ≡ l
whole l n long = ap (places l 0) (sym long) ∙ ap (λ k. places k 0 (length l)) (sym (append-nil l)) ∙ front l []

-- what the words of a state are
record Parts (s : SlotState 16) (bits : List ℕ) : Type 0 where
  pub all : bits ≡ s.next ∷ (s.local_held ∷ (s.held ++ s.until))
  pub held : length s.held ≡ 16
  pub until : length s.until ≡ 16
  pub bytes : all_bytes s.held ≡ true

parts : (x : SlotWords 16) (bits : List ℕ) → length bits ≡ 34 → bits ≡ words_of x → Parts x.state bits
parts x bits len e = go (is_state x.state) refl e
  where
    go : (b : Bool) → is_state x.state ≡ b
        → bits ≡ cond b (x.state.next ∷ (x.state.local_held ∷ (x.state.held ++ x.state.until))) [] → Parts x.state bits
    go false is e = absurd (let n = ap length e in omega arith)
    go true is e =
        let a = and_parts _ _ is in
        let b = and_parts _ _ a.1 in
        let c = and_parts _ _ b.1 in
        let d = and_parts _ _ c.1 in record { all = e; held = eqb-true _ _ c.0; until = eqb-true _ _ d.0; bytes = d.1 }

all-at : (l more : List ℕ) (k : ℕ) → k < length l → all_bytes l ≡ true → get_or (l ++ more) k 0 < 256
all-at [] more k below e = absurd (omega arith)
all-at (x ∷ xs) more zero below e = ltb-true x 256 (and_parts _ _ e).0
all-at (x ∷ xs) more (suc k) below e = all-at xs more k (omega arith) (and_parts _ _ e).1

-- the word of an entry's held slots is a byte
pub byte : (x : SlotWords 16) (bits : List ℕ) → length bits ≡ 34 → bits ≡ words_of x → (k : ℕ) → k < 16 → get_or bits (suc (suc k)) 0 < 256
byte x bits len e k below =
    let p = parts x bits len e in
    let long = p.held in subst (λ l. get_or l (suc (suc k)) 0 < 256) (sym p.all) (all-at x.state.held x.state.until k (omega arith) p.bytes)

pub back : (x : SlotWords 16) (bits : List ℕ) → length bits ≡ 34 → bits ≡ words_of x
    → ◌≡◌ {A = SlotWords 16} record
    { state = record { next = get_or bits 0 0; local_held = get_or bits 1 0; held = places bits 2 16; until = places bits 18 16 } } x
back x bits len e =
    let p = parts x bits len e in
    let s = x.state in
    let rest = s.held ++ s.until in
    let tail : (i k : ℕ) → places bits (suc (suc i)) k ≡ places rest i k =
    λ i k. ap (λ l. places l (suc (suc i)) k) p.all ∙ later s.next (s.local_held ∷ rest) (suc i) k ∙ later s.local_held rest i k in
    let n : get_or bits 0 0 ≡ s.next = ap (λ l. get_or l 0 0) p.all in
    let m : get_or bits 1 0 ≡ s.local_held = ap (λ l. get_or l 1 0) p.all in
    let h : places bits 2 16 ≡ s.held = tail 0 16 ∙ ap (places rest 0) (sym p.held) ∙ front s.held s.until in
    let u : places bits 18 16 ≡ s.until = tail 16 16 ∙ ap (λ i. places rest i 16) (sym p.held) ∙ behind s.held s.until 16
    ∙ whole s.until 16 p.until in
    λ i. record { state = record { next = n i; local_held = m i; held = h i; until = u i } }

bytes-true : (l : List ℕ) → ((k : ℕ) → get_or l k 0 < 256) → all_bytes l ≡ true
bytes-true [] f = refl
bytes-true (x ∷ xs) f = let a = lt-ltb x 256 (f 0) in let b = bytes-true xs (λ k. f (suc k)) in ap (λ c. c && all_bytes xs) a ∙ b

-- and a state of a program has words
pub forth : (x : SlotWords 16) → x.state.next < 4294967296 → x.state.local_held < 256 → length x.state.held ≡ 16
    → length x.state.until ≡ 16 → ((k : ℕ) → get_or x.state.held k 0 < 256)
    → x.state.next ∷ (x.state.local_held ∷ (places x.state.held 0 16 ++ places x.state.until 0 16)) ≡ words_of x
forth x a b c d f =
    let s = x.state in
    let is : is_state s ≡ true = all-true _ _ _ _ _ (lt-ltb _ _ a) (lt-ltb _ _ b) (eq-eqb _ _ c) (eq-eqb _ _ d) (bytes-true s.held f) in
    ap (λ h. s.next ∷ (s.local_held ∷ (h ++ places s.until 0 16))) (whole s.held 16 c)
    ∙ ap (λ u. s.next ∷ (s.local_held ∷ (s.held ++ u))) (whole s.until 16 d)
    ∙ sym (ap (λ t. cond t (s.next ∷ (s.local_held ∷ (s.held ++ s.until))) []) is)
  where
    all-true : (p q r s t : Bool) → p ≡ true → q ≡ true → r ≡ true → s ≡ true → t ≡ true → (p && (q && (r && (s && t)))) ≡ true
    all-true true true true true t i j k l m = m
    all-true false q r s t i j k l m = i
    all-true true false r s t i j k l m = j
    all-true true true false s t i j k l m = k
    all-true true true true false t i j k l m = l
