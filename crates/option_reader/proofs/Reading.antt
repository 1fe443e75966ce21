-- One reading of words as options.
use Rattle.std.proofs.Common.{◌≡◌, ℕ, ◌+◌, Bool, true, false, List, [], ◌∷◌, ◌++◌, length, Option, Some, None, Result, Ok, Err, refl, ap}
use Rattle.std.proofs.Common.{sym, ◌∙◌, subst, inl, inr, append_assoc}
use Rattle.std.specs.Prelude.{◌⊎◌, MatchBool}
use Rattle.std.proofs.lemmas.List.{append-nil}
use Rattle.option_reader.specs.Items.{Item, items_words, value_words}
use Rattle.option_reader.specs.Tables.{Table, has_value, follows, HasValue, MayStand, StandBehind, AreItems}
use Rattle.option_reader.specs.Readings.{AreOptions, ValueStop, StopAt, BadOptionAt, OptionsRead, CanTell}
use Rattle.option_reader.proofs.Steps.{value_append, words_more, stand_more, stop_here, stop_behind}

-- the words are used up, or don't go on as options
abbrev Ends : Table → List Item → List (List ℕ) → Type 0
Ends table items rest = (rest ≡ []) ⊎ ((behind : ℕ) × StopAt table items rest behind)

never : {A : Type 0} (b : Bool) (fails : b ≡ false) (holds : b ≡ true) → A
never b fails holds = absurd (let e : true ≡ false = sym holds ∙ fails in cc e)

module _ (table : Table) where
  stopped : (before : List Item) (name : List ℕ) (value : Option (List ℕ)) (more : List (List ℕ)) (behind : ℕ)
      → HasValue table before name value
      → ValueStop table before name (value_words value more) behind → ⊥
  stopped before name None more behind has stop = never (has_value (table.known name)) has stop.takes
  stopped before name (Some value) more behind has stop = stop.none has.1

  -- no option stands where the words end
  no_more : (before : List Item) (item : Item) (more : List (List ℕ)) → MayStand table before item
      → Ends table before (item.name ∷ value_words item.value more) → ⊥
  no_more before item more may (inl none) = cc none
  no_more before item more may (inr stop) =
      stopped before item.name item.value more stop.0 may.value
      (subst (λ b. MatchBool b (ValueStop table before item.name (value_words item.value more) stop.0) (stop.0 ≡ 0)) may.follows_on stop.1)

  one_value : (before : List Item) (name : List ℕ) (u v : Option (List ℕ)) (m n : List (List ℕ)) → HasValue table before name u
      → HasValue table before name v → value_words u m ≡ value_words v n → (u ≡ v) × (m ≡ n)
  one_value before name None None m n h k is = (refl, is)
  one_value before name None (Some v) m n h k is = never (has_value (table.known name)) h k.0
  one_value before name (Some u) None m n h k is = never (has_value (table.known name)) k h.0
  one_value before name (Some u) (Some v) m n h k is = (ap Some (cc is), cc is)

  one_item : (x y : Item) → x.name ≡ y.name → x.value ≡ y.value → x ≡ y
  one_item x y names values = λ i. record { name = names i; value = values i }

  -- up to where the words end, they are the same options
  same_items : (before a b : List Item) (r s : List (List ℕ)) → StandBehind table before a → StandBehind table before b
      → Ends table (before ++ a) r → Ends table (before ++ b) s
      → items_words a ++ r ≡ items_words b ++ s → (a ≡ b) × (r ≡ s)
  same_items before [] [] r s p q end other is = (refl, is)
  same_items before [] (y ∷ b) r s p q end other is =
      absurd (no_more before y (items_words b ++ s) q.0 (subst (λ w. Ends table before w) (is
      ∙ ap (λ w. y.name ∷ w) (value_append y.value (items_words b) s)) (subst (λ l. Ends table l r) (append-nil before) end)))
  same_items before (x ∷ a) [] r s p q end other is =
      absurd (no_more before x (items_words a ++ r) p.0 (subst (λ w. Ends table before w) (sym is
      ∙ ap (λ w. x.name ∷ w) (value_append x.value (items_words a) r)) (subst (λ l. Ends table l s) (append-nil before) other)))
  same_items before (x ∷ a) (y ∷ b) r s p q end other is =
      let all : x.name ∷ value_words x.value (items_words a ++ r) ≡ y.name ∷ value_words y.value (items_words b ++ s) =
      ap (λ w. x.name ∷ w) (sym (value_append x.value (items_words a) r)) ∙ is
      ∙ ap (λ w. y.name ∷ w) (value_append y.value (items_words b) s) in
      let names : x.name ≡ y.name = cc all in
      let tails : value_words x.value (items_words a ++ r) ≡ value_words y.value (items_words b ++ s) = cc all in
      let values = one_value before x.name x.value y.value (items_words a ++ r) (items_words b ++ s) p.0.value (subst
      (λ n. HasValue table before n y.value) (sym names) q.0.value) tails in
      let same : x ≡ y = one_item x y names values.0 in
      let rest = same_items (before ++ x ∷ []) a b r s p.1 (subst (λ z. StandBehind table (before ++ z ∷ []) b) (sym same) q.1)
      (subst (λ l. Ends table l r) (sym (append_assoc before (x ∷ []) a)) end)
      (subst (λ z. Ends table (before ++ z ∷ [] ++ b) s) (sym same) (subst (λ l. Ends table l s) (sym (append_assoc before
      (y ∷ []) b)) other)) values.1 in
      ((λ i. same i ∷ rest.0 i), rest.1)

  one_stop_by : (b : Bool) (before : List Item) (word : List ℕ) (more : List (List ℕ)) (m n : ℕ)
      → MatchBool b (ValueStop table before word more m) (m ≡ 0) → MatchBool b (ValueStop table before word more n) (n ≡ 0) → m ≡ n
  one_stop_by true before word more m n p q = p.at ∙ sym q.at
  one_stop_by false before word more m n p q = p ∙ sym q

  one_stop : (items : List Item) (rest : List (List ℕ)) (m n : ℕ) → StopAt table items rest m → StopAt table items rest n → m ≡ n
  one_stop items [] m n p q = absurd p
  one_stop items (word ∷ more) m n p q = one_stop_by (follows table items word) items word more m n p q

  pub one_items : (words : List (List ℕ)) (a b : List Item) → AreOptions table words a → AreOptions table words b → a ≡ b
  one_items words a b p q =
      (same_items [] a b [] [] p.right q.right (inl refl) (inl refl) (append-nil (items_words a) ∙ sym p.are ∙ q.are
      ∙ sym (append-nil (items_words b)))).0

  pub not_both : (words : List (List ℕ)) (a : List Item) (place : ℕ) → AreOptions table words a → BadOptionAt table words place → ⊥
  not_both words a place p q =
      let same = same_items [] a q.items [] q.rest p.right q.right (inl refl) (inr (q.behind, q.stop)) (append-nil (items_words a)
      ∙ sym p.are ∙ q.are) in
      subst (λ rest. StopAt table q.items rest q.behind) (sym same.1) q.stop

  pub one_place : (words : List (List ℕ)) (place there : ℕ) → BadOptionAt table words place → BadOptionAt table words there → place ≡ there
  one_place words place there p q =
      let same = same_items [] p.items q.items p.rest q.rest p.right q.right (inr (p.behind, p.stop)) (inr (q.behind, q.stop))
      (sym p.are ∙ q.are) in
      let stop = subst (λ rest. StopAt table q.items rest p.behind) same.1 (subst
      (λ items. StopAt table items p.rest p.behind) same.0 p.stop) in
      p.at ∙ ap (λ items. length (items_words items) + p.behind) same.0
      ∙ ap (λ n. length (items_words q.items) + n) (one_stop q.items q.rest p.behind q.behind stop q.stop) ∙ sym q.at

  pub once : (words : List (List ℕ)) (one other : Result (List Item) ℕ) → OptionsRead table words one → OptionsRead table words other
      → one ≡ other
  once words (Ok a) (Ok b) p q = ap Ok (one_items words a b p q)
  once words (Ok a) (Err place) p q = absurd (not_both words a place p q)
  once words (Err place) (Ok b) p q = absurd (not_both words b place q p)
  once words (Err place) (Err there) p q = ap Err (one_place words place there p q)

  -- ---- all words have a reading

  abbrev Read : List (List ℕ) → Type 0
  Read words = (read : Result (List Item) ℕ) × OptionsRead table words read

  module _ (tell : CanTell table) where
    bad : (items : List Item) → AreItems table items → (rest : List (List ℕ)) (behind : ℕ) → StopAt table items rest behind
        → Read (items_words items ++ rest)
    bad items right rest behind stop = (
      Err (length
          (items_words items) + behind),
      record { items = items; rest = rest; behind = behind; right = right; are = refl; stop = stop; at = refl },
    )

    one_more : (items : List Item) → AreItems table items → (item : Item) → MayStand table items item → (rest : List (List ℕ))
        → (AreItems table (items ++ item ∷ []) → Read (items_words (items ++ item ∷ []) ++ rest))
        → Read (items_words items ++ item.name ∷ value_words item.value rest)
    one_more items right item may rest onward = subst Read (words_more items item rest) (onward (stand_more table [] items item right may))

    plain : (items : List Item) → AreItems table items → (word : List ℕ) (rest : List (List ℕ)) → follows table items word ≡ true
        → has_value (table.known word) ≡ false
        → ((more : List Item) → AreItems table more → Read (items_words more ++ rest)) → Read (items_words items ++ word ∷ rest)
    plain items right word rest holds fails onward =
        one_more items right (record { name = word; value = None }) (record { follows_on = holds; value = fails }) rest (onward
        (items ++ record { name = word; value = None } ∷ []))

    valued : (items : List Item) → AreItems table items → (word value : List ℕ) (rest : List (List ℕ))
        → follows table items word ≡ true → has_value (table.known word) ≡ true
        → ((more : List Item) → AreItems table more → Read (items_words more ++ rest))
        → table.Fits (items_words items) word value ⊎ (table.Fits (items_words items) word value → ⊥)
        → Read (items_words items ++ word ∷ value ∷ rest)
    valued items right word value rest holds takes onward (inl fits) =
        one_more items right (record { name = word; value = Some value }) (record { follows_on = holds; value = (takes, fits) }) rest
        (onward (items ++ record { name = word; value = Some value } ∷ []))
    valued items right word value rest holds takes onward (inr none) =
        bad items right (word ∷ value ∷ rest) 1 (stop_behind table items word (value ∷ rest) holds
        (record { takes = takes; none = none; at = refl }))

    step : (items : List Item) → AreItems table items → (word : List ℕ) (rest : List (List ℕ)) (holds takes : Bool)
        → follows table items word ≡ holds → has_value (table.known word) ≡ takes
        → ((more : List Item) → AreItems table more → Read (items_words more ++ rest)) → (takes ≡ true
        → follows table items word ≡ true → Read (items_words items ++ word ∷ rest))
        → Read (items_words items ++ word ∷ rest)
    step items right word rest false takes fails is onward by_value = bad items right (word ∷ rest) 0
        (stop_here table items word rest fails)
    step items right word rest true false holds is onward by_value = plain items right word rest holds is onward
    step items right word rest true true holds is onward by_value = by_value refl holds

    reads : (items : List Item) → AreItems table items → (rest : List (List ℕ)) → Read (items_words items ++ rest)
    reads items right [] = (Ok items, record { right = right; are = append-nil (items_words items) })
    reads items right (word ∷ []) =
        step items right word [] (follows table items word) (has_value (table.known word)) refl refl (λ more stand. reads more stand [])
        (λ takes holds. bad items right (word ∷ []) 1 (stop_behind table items word [] holds
        (record { takes = takes; none = tt; at = refl })))
    reads items right (word ∷ value ∷ rest) =
        step items right word (value ∷ rest) (follows table items word) (has_value (table.known word)) refl refl
        (λ more stand. reads more stand (value ∷ rest))
        (λ takes holds. valued items right word value rest holds takes (λ more stand. reads more stand rest) (tell
        (items_words items) word value))

    pub some_reading : (words : List (List ℕ)) → Read words
    some_reading words = reads [] tt words
