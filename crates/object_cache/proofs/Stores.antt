-- Entries whose pieces stand in their order.
use Rattle.std.proofs.Common.{◌≡◌, ℕ, ◌+◌, ◌-◌, ◌<◌, ◌≤◌, List, [], ◌∷◌, ◌++◌, length, get_or, take, drop, refl, sym, ◌∙◌, ap, subst}
use Rattle.std.proofs.Common.{arith, append_assoc, suc}
use Rattle.std.specs.Prelude.{slice_range}
use Rattle.std.specs.List.{concat, remove}
use Rattle.std.proofs.lemmas.List.{length-append, length-drop, length-take-le, take-append-drop, drop_more, take_all, drop_all}
use Rattle.std.proofs.lemmas.List.{append-nil, take-append-le, drop-append-le, drop-drop, take_at, drop_at, get_or_at}
use Rattle.object_cache.specs.declared.kept.Kept.{Kept}
use Rattle.object_cache.specs.Pieces.{turned}
use Rattle.object_cache.specs.Shelves.{Stored, text_in, items_of, pieces_of, IsGood, AllGood}

pub pieces-append : (a b : List Kept) → pieces_of (a ++ b) ≡ pieces_of a + pieces_of b
pieces-append [] b = omega arith
pieces-append (k ∷ a) b = omega (arith, pieces-append a b)

pub items-append : (a b : List Kept) (ps : List (List ℕ)) → items_of (a ++ b) ps ≡ items_of a ps ++ items_of b (drop (pieces_of a) ps)
items-append [] b ps = refl
items-append (k ∷ a) b ps =
    ap (λ xs. record { kept = k; text = text_in k ps } ∷ xs)
    (items-append a b (drop k.pieces ps) ∙ ap (λ qs. items_of a (drop k.pieces ps) ++ items_of b qs) (drop-drop (pieces_of a) k.pieces ps))

text_front : (k : Kept) (ps qs : List (List ℕ)) → k.pieces ≤ length ps → text_in k (ps ++ qs) ≡ text_in k ps
text_front k ps qs within = ap (λ xs. take k.len (concat xs)) (take-append-le k.pieces ps qs within)

-- only the pieces in front count
pub items_front : (a : List Kept) (ps qs : List (List ℕ)) → pieces_of a ≤ length ps → items_of a (ps ++ qs) ≡ items_of a ps
items_front [] ps qs within = refl
items_front (k ∷ a) ps qs within =
    let first : k.pieces ≤ length ps = omega (arith, within) in
    let rest : pieces_of a ≤ length (drop k.pieces ps) = omega (arith, within, length-drop k.pieces ps) in
    ap (λ t. record { kept = k; text = t } ∷ items_of a (drop k.pieces (ps ++ qs))) (text_front k ps qs first)
    ∙ ap (λ xs. record { kept = k; text = text_in k ps } ∷ items_of a xs) (drop-append-le k.pieces ps qs first)
    ∙ ap (λ xs. record { kept = k; text = text_in k ps } ∷ xs) (items_front a (drop k.pieces ps) qs rest)

pub length-items : (a : List Kept) (ps : List (List ℕ)) → length (items_of a ps) ≡ length a
length-items [] ps = refl
length-items (k ∷ a) ps = ap suc (length-items a (drop k.pieces ps))

-- the item in the midst
pub items_mid : (a b : List Kept) (k : Kept) (ps qs rs : List (List ℕ)) → length ps ≡ pieces_of a → length qs ≡ k.pieces
    → items_of (a ++ k ∷ b) (ps ++ (qs ++ rs)) ≡ items_of a ps ++ (record { kept = k; text = text_in k qs } ∷ items_of b rs)
items_mid a b k ps qs rs front own =
    items-append a (k ∷ b) (ps ++ (qs ++ rs))
    ∙ ap (λ xs. xs ++ items_of (k ∷ b) (drop (pieces_of a) (ps ++ (qs ++ rs)))) (items_front a ps (qs ++ rs) (omega (arith, front)))
    ∙ ap (λ xs. items_of a ps ++ items_of (k ∷ b) xs) (drop_at ps (qs ++ rs) (pieces_of a) front)
    ∙ ap (λ t. items_of a ps ++ (record { kept = k; text = t } ∷ items_of b (drop k.pieces (qs ++ rs)))) (text_front k qs rs (omega
    (arith, own)))
    ∙ ap (λ xs. items_of a ps ++ (record { kept = k; text = text_in k qs } ∷ items_of b xs)) (drop_at qs rs k.pieces own)

pub items_join : (a b : List Kept) (ps qs : List (List ℕ)) → length ps ≡ pieces_of a
    → items_of (a ++ b) (ps ++ qs) ≡ items_of a ps ++ items_of b qs
items_join a b ps qs front =
    items-append a b (ps ++ qs)
    ∙ ap (λ xs. xs ++ items_of b (drop (pieces_of a) (ps ++ qs))) (items_front a ps qs (omega (arith, front)))
    ∙ ap (λ xs. items_of a ps ++ items_of b xs) (drop_at ps qs (pieces_of a) front)

-- ---- good items

pub good-append : (a b : List Stored) → AllGood a → AllGood b → AllGood (a ++ b)
good-append [] b first second = second
good-append (x ∷ a) b first second = (first.0, good-append a b first.1 second)

pub good_front : (a b : List Stored) → AllGood (a ++ b) → AllGood a
good_front [] b good = tt
good_front (x ∷ a) b good = (good.0, good_front a b good.1)

pub good_back : (a b : List Stored) → AllGood (a ++ b) → AllGood b
good_back [] b good = good
good_back (x ∷ a) b good = good_back a b good.1

-- ---- an item at a place

pub record Split (ks : List Kept) (ps : List (List ℕ)) (at first : ℕ) (k : Kept) : Type 0 where
  pub kept_is : ks ≡ take at ks ++ k ∷ drop (at + 1) ks
  pub pieces_is : ps ≡ take first ps ++ (slice_range ps first (first + k.pieces) ++ drop (first + k.pieces) ps)
  pub front_is : length (take first ps) ≡ pieces_of (take at ks)
  pub own_is : length (slice_range ps first (first + k.pieces)) ≡ k.pieces
  pub back_is : length (drop (first + k.pieces) ps) ≡ pieces_of (drop (at + 1) ks)

abbrev pub front_items : List Kept → List (List ℕ) → ℕ → ℕ → List Stored
front_items ks ps at first = items_of (take at ks) (take first ps)

abbrev pub back_items : List Kept → List (List ℕ) → ℕ → ℕ → Kept → List Stored
back_items ks ps at first k = items_of (drop (at + 1) ks) (drop (first + k.pieces) ps)

abbrev pub own_item : List (List ℕ) → ℕ → Kept → Stored
own_item ps first k = record { kept = k; text = text_in k (slice_range ps first (first + k.pieces)) }

module _ (ks : List Kept) (ps : List (List ℕ)) (at first : ℕ) (k : Kept)
    (all : pieces_of ks ≡ length ps) (lt : at < length ks) (first_is : first ≡ pieces_of (take at ks)) (k_is : k ≡ get_or ks at k) where
  pub split : Split ks ps at first k
  split =
      let kept_is : ks ≡ take at ks ++ k ∷ drop (at + 1) ks =
      sym (take-append-drop at ks) ∙ ap (λ xs. take at ks ++ xs) (drop_more ks at k lt)
      ∙ ap (λ x. take at ks ++ x ∷ drop (at + 1) ks) (sym k_is) in
      let counts = ap pieces_of kept_is ∙ pieces-append (take at ks) (k ∷ drop (at + 1) ks) in
      let end : first + k.pieces - first ≡ k.pieces = omega arith in
      let pieces_is : ps ≡ take first ps ++ (slice_range ps first (first + k.pieces) ++ drop (first + k.pieces) ps) =
      sym (take-append-drop first ps) ∙ ap (λ xs. take first ps ++ xs)
      (sym (take-append-drop (first + k.pieces - first) (drop first ps))
      ∙ ap (λ xs. slice_range ps first (first + k.pieces) ++ xs)
      (ap (λ n. drop n (drop first ps)) end ∙ drop-drop k.pieces first ps)) in
      record {
        kept_is = kept_is;
        pieces_is = pieces_is;
        front_is = length-take-le first ps (omega (arith, counts, all, first_is)) ∙ first_is;
        own_is = length-take-le (first + k.pieces - first) (drop first ps) (omega
            (arith, counts, all, first_is, length-drop first ps)) ∙ end;
        back_is = omega (arith, length-drop (first + k.pieces) ps, counts, all, first_is);
      }

  pub items_split : items_of ks ps ≡ front_items ks ps at first ++ (own_item ps first k ∷ back_items ks ps at first k)
  items_split =
      let s = split in
      ap (λ xs. items_of xs ps) s.kept_is ∙ ap (λ qs. items_of (take at ks ++ k ∷ drop (at + 1) ks) qs) s.pieces_is
      ∙ items_mid (take at ks) (drop (at + 1) ks) k (take first ps) (slice_range ps first (first + k.pieces)) (drop (first + k.pieces) ps)
      s.front_is s.own_is

  front_len : length (front_items ks ps at first) ≡ at
  front_len = length-items (take at ks) (take first ps) ∙ length-take-le at ks (omega (arith, lt))

  pub item_is : (item : Stored) → item ≡ get_or (items_of ks ps) at item → item ≡ own_item ps first k
  item_is item is =
      is ∙ ap (λ xs. get_or xs at item) items_split
      ∙ get_or_at (front_items ks ps at first) (own_item ps first k) (back_items ks ps at first k) item at front_len

  -- without it
  pub removed_is : remove (items_of ks ps) at ≡ front_items ks ps at first ++ back_items ks ps at first k
  removed_is =
      let front = front_items ks ps at first in
      let back = back_items ks ps at first k in
      let own = own_item ps first k in
      let behind : drop (suc at) (front ++ (own ∷ back)) ≡ back =
      ap (λ xs. drop (suc at) xs) (sym (append_assoc front (own ∷ []) back))
      ∙ drop_at (front ++ own ∷ []) back (suc at) (omega (arith, length-append front (own ∷ []), front_len)) in
      ap (λ xs. remove xs at) items_split
      ∙ ap (λ xs. xs ++ drop (suc at) (front ++ (own ∷ back))) (take_at front (own ∷ back) at front_len)
      ∙ ap (λ xs. front ++ xs) behind

  -- it is put in front
  pub items_lifted : items_of (k ∷ (take at ks ++ drop (at + 1) ks)) (slice_range ps first (first + k.pieces) ++ (take first ps ++ drop
      (first + k.pieces) ps))
      ≡ own_item ps first k ∷ remove (items_of ks ps) at
  items_lifted =
      let s = split in
      items_mid [] (take at ks ++ drop (at + 1) ks) k [] (slice_range ps first (first + k.pieces)) (take first ps ++ drop
      (first + k.pieces) ps) refl s.own_is
      ∙ ap (λ xs. own_item ps first k ∷ xs) (items_join (take at ks) (drop (at + 1) ks) (take first ps) (drop
      (first + k.pieces) ps) s.front_is ∙ sym removed_is)

  -- it is dropped
  pub items_dropped : items_of (take at ks ++ drop (at + 1) ks) (take first ps ++ drop (first + k.pieces) ps) ≡ remove (items_of ks ps) at
  items_dropped = items_join (take at ks) (drop (at + 1) ks) (take first ps) (drop (first + k.pieces) ps) split.front_is ∙ sym removed_is

  pub counted_lifted : pieces_of (k ∷ (take at ks ++ drop (at + 1) ks)) ≡ length ps
  counted_lifted =
      let counts = ap pieces_of split.kept_is ∙ pieces-append (take at ks) (k ∷ drop (at + 1) ks) in
      omega (arith, counts, all, pieces-append (take at ks) (drop (at + 1) ks))

  pub counted_dropped : pieces_of (take at ks ++ drop (at + 1) ks) + k.pieces ≡ length ps
  counted_dropped = omega (arith, counted_lifted)

  pub own_good : AllGood (items_of ks ps) → IsGood (own_item ps first k)
  own_good good = (good_back (front_items ks ps at first) (own_item ps first k ∷ back_items ks ps at first k)
      (subst AllGood items_split good)).0

  pub good_dropped : AllGood (items_of ks ps) → AllGood (remove (items_of ks ps) at)
  good_dropped good =
      let front = front_items ks ps at first in
      let back = back_items ks ps at first k in
      let parts = subst AllGood items_split good in
      subst AllGood (sym removed_is)
      (good-append front back (good_front front (own_item ps first k ∷ back) parts) (good_back front (own_item ps first k ∷ back) parts).1)

-- what the turns come to
pub lifted_pieces : {X : Type 0} (first end : ℕ) (ps : List X)
    → turned 0 first end ps ≡ slice_range ps first end ++ (take first ps ++ drop end ps)
lifted_pieces first end ps =
    let none : first - 0 ≡ first = omega arith in
    ap (λ n. (slice_range ps first end ++ take n ps) ++ drop end ps) none
    ∙ append_assoc (slice_range ps first end) (take first ps) (drop end ps)

pub dropped_pieces : {X : Type 0} (first end : ℕ) (ps : List X) → first ≤ end → end ≤ length ps
    → take (length ps - (end - first)) (turned first end (length ps) ps) ≡ take first ps ++ drop end ps
dropped_pieces first end ps le within =
    let back : slice_range ps end (length ps) ≡ drop end ps = take_all (length ps - end) (drop end ps) (omega
    (arith, length-drop end ps)) in
    let whole : turned first end (length ps) ps ≡ (take first ps ++ drop end ps) ++ slice_range ps first end =
    ap (λ xs. take first ps ++ ((slice_range ps end (length ps) ++ slice_range ps first end) ++ xs)) (drop_all (length ps) ps (omega arith))
    ∙ ap (λ xs. take first ps ++ xs) (append-nil (slice_range ps end (length ps) ++ slice_range ps first end))
    ∙ ap (λ xs. take first ps ++ (xs ++ slice_range ps first end)) back
    ∙ sym (append_assoc (take first ps) (drop end ps) (slice_range ps first end)) in
    let len : length (take first ps ++ drop end ps) ≡ length ps - (end - first) =
    omega (
      arith,
      length-append (take first ps) (drop end ps),
      length-take-le first ps (omega
          (arith, le, within)),
      length-drop end ps,
      le,
      within,
    ) in
    ap (take (length ps - (end - first))) whole
    ∙ take_at (take first ps ++ drop end ps) (slice_range ps first end) (length ps - (end - first)) len
