-- One option more.
use Rattle.std.proofs.Common.{◌≡◌, ◌≤◌, ◌<◌, ℕ, suc, ◌+◌, ◌-◌, Bool, true, false, List, [], ◌∷◌, ◌++◌, length, map, take, drop, get_or}
use Rattle.std.proofs.Common.{Option, Some, None, refl, ap, sym, ◌∙◌, subst, arith, append_assoc, length-append, add-one, drop-cons}
use Rattle.std.specs.Prelude.{not, MatchBool}
use Rattle.std.proofs.lemmas.List.{append-nil, take-map, drop-map, take_at, drop_at, take_rest, length-map}
use Rattle.option_reader.specs.Items.{Item, items_words, value_words}
use Rattle.option_reader.specs.Tables.{Table, has_value, follows, MayStand, StandBehind, AreItems, Goes}
use Rattle.option_reader.specs.Readings.{AreOptions, ValueStop, StopAt, BadOptionAt}

pub value_append : (value : Option (List ℕ)) (words rest : List (List ℕ))
    → value_words value words ++ rest ≡ value_words value (words ++ rest)
value_append None words rest = refl
value_append (Some value) words rest = refl

-- the words of one option more
pub words_more : (items : List Item) (item : Item) (rest : List (List ℕ))
    → items_words (items ++ item ∷ []) ++ rest ≡ items_words items ++ item.name ∷ value_words item.value rest
words_more [] item rest = ap (λ words. item.name ∷ words) (value_append item.value [] rest)
words_more (x ∷ items) item rest =
    ap (λ words. x.name ∷ words)
    (value_append x.value (items_words (items ++ item ∷ [])) rest ∙ ap (value_words x.value) (words_more items item rest)
    ∙ sym (value_append x.value (items_words items) (item.name ∷ value_words item.value rest)))

-- and one more may stand behind them
pub stand_more : (table : Table) (before items : List Item) (item : Item) → StandBehind table before items
    → MayStand table (before ++ items) item → StandBehind table before (items ++ item ∷ [])
stand_more table before [] item stand may = (subst (λ l. MayStand table l item) (append-nil before) may, tt)
stand_more table before (x ∷ items) item stand may = (
  stand.0,
  stand_more table (before ++ x ∷ []) items item stand.1 (subst (λ l. MayStand table l item) (sym (append_assoc before
      (x ∷ []) items)) may),
)

long_more : (items : List Item) (item : Item)
    → length (items_words (items ++ item ∷ [])) ≡ length (items_words items) + length (items_words (item ∷ []))
long_more items item =
    let all : items_words (items ++ item ∷ []) ≡ items_words items ++ items_words (item ∷ []) = sym (append-nil (items_words
    (items ++ item ∷ []))) ∙ words_more items item [] in
    ap length all ∙ length-append (items_words items) (items_words (item ∷ []))

-- ---- how far the walk has come

-- the words up to this place are options
pub record Reached (table : Table) (words : List (List ℕ)) (at : ℕ) : Type 0 where
  pub items : List Item
  pub rest : List (List ℕ)
  pub right : AreItems table items
  pub are : words ≡ items_words items ++ rest
  pub here : at ≡ length (items_words items)

pub begun : (table : Table) (words : List (List ℕ)) → Reached table words 0
begun table words = record { items = []; rest = words; right = tt; are = refl; here = refl }

cut : {X : Type 0} (items : List X) (at : ℕ) (item : X) → at < length items → item ≡ get_or items at item
    → drop at items ≡ item ∷ drop (at + 1) items
cut items at item within is =
    drop-cons items at item within ∙ ap (λ i. i ∷ drop (suc at) items) (sym is) ∙ ap (λ n. item ∷ drop n items) (sym (add-one at))

module _ {X : Type 0} (f : X → List ℕ) (table : Table) (words : List X) (at : ℕ) (reached : Reached table (map f words) at) where
  -- the words in front are these options
  pub front_words : map f (take at words) ≡ items_words reached.items
  front_words =
      sym (take-map f at words) ∙ ap (take at) reached.are ∙ ap (λ n. take n (items_words reached.items ++ reached.rest)) reached.here
      ∙ take_at (items_words reached.items) reached.rest (length (items_words reached.items)) refl

  rest_words : map f (drop at words) ≡ reached.rest
  rest_words =
      sym (drop-map f at words) ∙ ap (drop at) reached.are ∙ ap (λ n. drop n (items_words reached.items ++ reached.rest)) reached.here
      ∙ drop_at (items_words reached.items) reached.rest (length (items_words reached.items)) refl

  module _ (word : X) (name : List ℕ) (within : at < length words) (is : word ≡ get_or words at word) (spelled : name ≡ f word) where
    -- the words behind this one
    abbrev After : List (List ℕ)
    After = map f (take (length words - (at + 1)) (drop (at + 1) words))

    next_words : name ∷ After ≡ reached.rest
    next_words =
        ap (λ w. w ∷ After) spelled ∙ ap (λ l. f word ∷ map f l) (take_rest words (at + 1))
        ∙ ap (map f) (sym (cut words at word within is)) ∙ rest_words

    pub goes_on : (n : ℕ) → Goes table reached.items (name ∷ After) n → Reached table (map f words) (at + n)
    goes_on n goes = record {
      items = reached.items ++ goes.item ∷ [];
      rest = goes.more;
      right = stand_more table [] reached.items goes.item reached.right goes.stands;
      are = reached.are ∙ ap (λ rest. items_words reached.items ++ rest) (sym next_words ∙ goes.are)
          ∙ sym (words_more reached.items goes.item goes.more);
      here = ap (λ n. at + n) goes.long ∙ ap (λ n. n + length (items_words (goes.item ∷ []))) reached.here
          ∙ sym (long_more reached.items goes.item);
    }

    pub stops : (behind : ℕ) → StopAt table reached.items (name ∷ After) behind → BadOptionAt table (map f words) (at + behind)
    stops behind stop = record {
      items = reached.items;
      rest = reached.rest;
      behind = behind;
      right = reached.right;
      are = reached.are;
      stop = subst (λ rest. StopAt table reached.items rest behind) next_words stop;
      at = ap (λ n. n + behind) reached.here;
    }

  pub all_read : length words ≤ at → (items : List Item) × AreOptions table (map f words) items
  all_read all =
      let long : length words ≡ length (items_words reached.items) + length reached.rest = sym (length-map words f)
      ∙ ap length reached.are ∙ length-append (items_words reached.items) reached.rest in
      let none : length reached.rest ≡ 0 = omega (arith, long, all, reached.here) in (
        reached.items,
        record {
          right = reached.right;
          are = reached.are
              ∙ ap (λ rest. items_words reached.items ++ rest) (nothing reached.rest none) ∙ append-nil (items_words reached.items);
        },
      )
    where
      nothing : (l : List (List ℕ)) → length l ≡ 0 → l ≡ []
      nothing [] none = refl
      nothing (x ∷ l) none = absurd (omega (arith, none))

-- ---- one step

module _ (table : Table) (before : List Item) (name : List ℕ) (more : List (List ℕ)) where
  pub stop_here : follows table before name ≡ false → StopAt table before (name ∷ more) 0
  stop_here fails = subst (λ b. MatchBool b (ValueStop table before name more 0) (◌≡◌ {A = ℕ} 0 0)) (sym fails) refl

  pub stop_behind : follows table before name ≡ true → ValueStop table before name more 1 → StopAt table before (name ∷ more) 1
  stop_behind holds stop = subst (λ b. MatchBool b (ValueStop table before name more 1) (◌≡◌ {A = ℕ} 1 0)) (sym holds) stop

  pub goes_plain : follows table before name ≡ true → has_value (table.known name) ≡ false → Goes table before (name ∷ more) 1
  goes_plain holds plain = record {
    item = record { name = name; value = None };
    more = more;
    stands = record { follows_on = holds; value = plain };
    are = refl;
    long = refl;
  }

  pub goes_valued : (value : List ℕ) → follows table before name ≡ true → has_value (table.known name) ≡ true
      → table.Fits (items_words before) name value → Goes table before (name ∷ value ∷ more) 2
  goes_valued value holds takes fits = record {
    item = record { name = name; value = Some value };
    more = more;
    stands = record { follows_on = holds; value = (takes, fits) };
    are = refl;
    long = refl;
  }

pub not_true : (b : Bool) → not b ≡ true → b ≡ false
not_true true is = absurd (cc is)
not_true false is = refl

pub not_false : (b : Bool) → not b ≡ false → b ≡ true
not_false true is = refl
not_false false is = absurd (cc is)
