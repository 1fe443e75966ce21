-- What the calls of a shelf leave of its entries.
use Rattle.std.proofs.Common.{◌≡◌, ℕ, ◌+◌, ◌-◌, ◌<◌, ◌≤◌, List, [], ◌∷◌, ◌++◌, length, get_or, take, drop, refl, sym, ◌∙◌, ap, subst}
use Rattle.std.proofs.Common.{arith, zero, suc, add-one}
use Rattle.std.specs.Prelude.{slice_range, Bool, IsTrue, ◌↔◌}
use Rattle.edge_traits.specs.declared.faults.Bounds.{Bounds}
use Rattle.edge_traits.specs.Stations.{IsWithin}
use Rattle.std.specs.List.{remove, concat}
use Rattle.std.proofs.lemmas.List.{length-append, length-drop, length-take-le, take-take, take-append-drop, take_more, drop_more}
use Rattle.std.proofs.lemmas.List.{take_all, drop_all, append-nil, get_or_default, same_from_push}
use Rattle.object_cache.specs.declared.kept.Kept.{Kept}
use Rattle.object_cache.specs.Pieces.{turned}
use Rattle.object_cache.specs.Entries.{Entry}
use Rattle.object_cache.specs.Entries.{sizes, size_of}
use Rattle.object_cache.specs.Shelves.{Stored, text_in, items_of, pieces_of, entry_in, entries_of, IsGood, AllGood, IsShelf, IsKept}
use Rattle.object_cache.proofs.Ordering.{length-turned}
use Rattle.object_cache.proofs.Stores.{own_item, item_is, items_lifted, items_dropped, counted_lifted, counted_dropped, own_good}
use Rattle.object_cache.proofs.Stores.{good_dropped, lifted_pieces, dropped_pieces, items_mid, pieces-append, good_front, good_back}
use Rattle.object_cache.proofs.Stores.{length-items}
use Rattle.object_cache.proofs.Sizing.{sizes_last, sizes-remove}

one_range : (ks : List Kept) (at : ℕ) (k : Kept) → at < length ks → k ≡ get_or ks at k → slice_range ks at (at + 1) ≡ k ∷ []
one_range ks at k lt is =
    let one : at + 1 - at ≡ 1 = omega arith in
    ap (λ n. take n (drop at ks)) one ∙ ap (take 1) (drop_more ks at k lt) ∙ ap (λ x. x ∷ []) (sym is)

module _ (ks : List Kept) (ps : List (List ℕ)) (bytes at first : ℕ) (k : Kept)
    (shelf : IsShelf ks ps bytes) (lt : at < length ks) (first_is : first ≡ pieces_of (take at ks)) (k_is : k ≡ get_or ks at k) where
  pub in_pieces : first + k.pieces ≤ length ps
  in_pieces =
      let counts = counted_dropped ks ps at first k shelf.counted lt first_is k_is in
      let front = pieces-append (take at ks) (drop (at + 1) ks) in
      omega (arith, counts, front, first_is)

  pub own_at : own_item ps first k ≡ get_or (items_of ks ps) at (own_item ps first k)
  own_at =
      let d = own_item ps first k in
      sym (item_is ks ps at first k shelf.counted lt first_is k_is (get_or (items_of ks ps) at d)
      (get_or_default (items_of ks ps) at d (get_or (items_of ks ps) at d) (omega (arith, length-items ks ps, lt))))

  pub item_own : (item : Stored) → item ≡ get_or (items_of ks ps) at item → item ≡ own_item ps first k
  item_own item is = item_is ks ps at first k shelf.counted lt first_is k_is item is

  -- what is read is its text
  own_text : take k.len (concat (take k.pieces (drop first ps))) ≡ (own_item ps first k).text
  own_text = ap (λ xs. take k.len (concat xs)) (sym (take-take k.pieces (first + k.pieces - first) (drop first ps) (omega arith)))

  pub item_text : (item : Stored) → item ≡ get_or (items_of ks ps) at item → take k.len (concat (take k.pieces (drop first ps))) ≡ item.text
  item_text item is = own_text ∙ ap (λ x. x.text) (sym (item_own item is))

  pub item_again : (item : Stored) → item ≡ get_or (items_of ks ps) at item → record { kept = k; text = item.text } ≡ item
  item_again item is =
      let again : Stored → Stored = λ x. record { kept = k; text = x.text } in
      ap again (item_own item is) ∙ sym (item_own item is)

  pub size_is : k.size ≡ size_of (entry_in (own_item ps first k))
  size_is = (own_good ks ps at first k shelf.counted lt first_is k_is shelf.good).measured

  pub good_is : IsGood (own_item ps first k)
  good_is = own_good ks ps at first k shelf.counted lt first_is k_is shelf.good

  within_is : (bounds : Bounds) (item : Stored) → item ≡ own_item ps first k
      → (k.out ≤ bounds.out × (k.err ≤ bounds.err × k.object ≤ bounds.object) → IsWithin bounds (entry_in item).ran)
      × (IsWithin bounds (entry_in item).ran → k.out ≤ bounds.out × (k.err ≤ bounds.err × k.object ≤ bounds.object))
  within_is bounds item is =
      let good = subst IsGood (sym is) good_is in
      let kept_is = ap (λ x. x.kept) is in
      let out = good.out_is ∙ ap (λ x. x.out) kept_is in
      let err = good.err_is ∙ ap (λ x. x.err) kept_is in
      let object = good.object_is ∙ ap (λ x. x.object) kept_is in (
        (λ h. record { out = omega (arith, out, h.0); err = omega (arith, err, h.1.0); object = omega (arith, object, h.1.1) }),
        (λ h. (omega (arith, out, h.out), (omega (arith, err, h.err), omega (arith, object, h.object)))),
      )

  pub within_by : (bounds : Bounds) (item : Stored) (result : Bool) → item ≡ get_or (items_of ks ps) at item
      → (IsTrue result ↔ (k.out ≤ bounds.out × (k.err ≤ bounds.err × k.object ≤ bounds.object)))
      → (IsTrue result ↔ IsWithin bounds (entry_in item).ran)
  within_by bounds item result is test =
      let both = within_is bounds item (item_own item is) in
      ((λ t. both.0 (test.0 t)), (λ w. test.1 (both.1 w)))

  pub rest_size : sizes (entries_of (remove (items_of ks ps) at)) + k.size ≡ bytes
  rest_size =
      let left = sizes-remove (items_of ks ps) at (own_item ps first k) (omega (arith, length-items ks ps, lt)) own_at in
      omega (arith, left, size_is, shelf.measured)

  -- put in front
  kept_lifted : turned 0 at (at + 1) ks ≡ k ∷ (take at ks ++ drop (at + 1) ks)
  kept_lifted = lifted_pieces at (at + 1) ks ∙ ap (λ xs. xs ++ (take at ks ++ drop (at + 1) ks)) (one_range ks at k lt k_is)

  own_lifted : items_of (turned 0 at (at + 1) ks) (turned 0 first (first + k.pieces) ps) ≡ own_item ps first k ∷ remove (items_of ks ps) at
  own_lifted =
      ap (λ xs. items_of xs (turned 0 first (first + k.pieces) ps)) kept_lifted
      ∙ ap (λ qs. items_of (k ∷ (take at ks ++ drop (at + 1) ks)) qs) (lifted_pieces first (first + k.pieces) ps)
      ∙ items_lifted ks ps at first k shelf.counted lt first_is k_is

  pub lifted_items : (item : Stored) → item ≡ get_or (items_of ks ps) at item
      → items_of (turned 0 at (at + 1) ks) (turned 0 first (first + k.pieces) ps) ≡ item ∷ remove (items_of ks ps) at
  lifted_items item is =
      own_lifted ∙ ap (λ x. x ∷ remove (items_of ks ps) at) (sym (item_is ks ps at first k shelf.counted lt first_is k_is item is))

  pub lifted_shelf : IsShelf (turned 0 at (at + 1) ks) (turned 0 first (first + k.pieces) ps) bytes
  lifted_shelf = record {
    counted = ap pieces_of kept_lifted ∙ counted_lifted ks ps at first k shelf.counted lt first_is k_is
        ∙ sym (length-turned 0 first (first + k.pieces) ps (omega arith) (omega arith));
    good = subst AllGood (sym own_lifted) (good_is, good_dropped ks ps at first k shelf.counted lt first_is k_is shelf.good);
    measured = let all = ap (λ xs. sizes (entries_of xs)) own_lifted in omega (arith, all, rest_size, size_is);
    few = omega (arith, length-turned 0 first (first + k.pieces) ps (omega arith) (omega arith), shelf.few);
  }

  -- dropped
  kept_dropped : remove ks at ≡ take at ks ++ drop (at + 1) ks
  kept_dropped = ap (λ n. take at ks ++ drop n ks) (sym (add-one at))

  abbrev fewer : List (List ℕ)
  fewer = take first ps ++ drop (first + k.pieces) ps

  pub now_len : (now : List (List ℕ)) → now ≡ fewer → length now + k.pieces ≡ length ps
  now_len now now_is =
      let len = ap length now_is in
      let a = length-append (take first ps) (drop (first + k.pieces) ps) in
      let within : first ≤ length ps = omega (arith, in_pieces) in
      let b = length-take-le first ps within in
      let d = length-drop (first + k.pieces) ps in omega (arith, len, a, b, d, in_pieces)

  fewer_len : (now : List (List ℕ)) → now ≡ fewer → length now ≤ 4294967295
  fewer_len now now_is = omega (arith, now_len now now_is, shelf.few)

  pub pieces_dropped : (qs : List (List ℕ)) → qs ≡ turned first (first + k.pieces) (length ps) ps → take (length qs - k.pieces) qs ≡ fewer
  pieces_dropped qs is =
      let len : length qs - k.pieces ≡ length ps - (first + k.pieces - first) =
      omega (arith, ap length is, length-turned first (first + k.pieces) (length ps) ps (omega arith) in_pieces) in
      ap (λ n. take n qs) len ∙ ap (take (length ps - (first + k.pieces - first))) is
      ∙ dropped_pieces first (first + k.pieces) ps (omega arith) in_pieces

  pub dropped_items : (new : List Kept) (now : List (List ℕ)) → new ≡ remove ks at → now ≡ fewer
      → items_of new now ≡ remove (items_of ks ps) at
  dropped_items new now new_is now_is =
      ap (λ xs. items_of xs now) (new_is ∙ kept_dropped) ∙ ap (items_of (take at ks ++ drop (at + 1) ks)) now_is
      ∙ items_dropped ks ps at first k shelf.counted lt first_is k_is

  pub dropped_shelf : (new : List Kept) (now : List (List ℕ)) (left : ℕ) → new ≡ remove ks at → now ≡ fewer → left + k.size ≡ bytes
      → IsShelf new now left
  dropped_shelf new now left new_is now_is left_is =
      let items = dropped_items new now new_is now_is in record {
        counted =
            let counts = ap pieces_of (new_is ∙ kept_dropped) in
            let all = counted_dropped ks ps at first k shelf.counted lt first_is k_is in
            omega (arith, counts, all, now_len now now_is);
        good = subst AllGood (sym items) (good_dropped ks ps at first k shelf.counted lt first_is k_is shelf.good);
        measured = let all = ap (λ xs. sizes (entries_of xs)) items in omega (arith, all, rest_size, left_is);
        few = fewer_len now now_is;
      }

-- ---- the last is dropped

module _ (ks rest : List Kept) (ps now : List (List ℕ)) (bytes left : ℕ) (last : Kept)
    (shelf : IsShelf ks ps bytes) (ks_is : ks ≡ rest ++ last ∷ []) (now_is : now ≡ take (length ps - last.pieces) ps) where
  counts : pieces_of rest + last.pieces ≡ length ps
  counts = let all = ap pieces_of ks_is in omega (arith, all, pieces-append rest (last ∷ []), shelf.counted)

  pub last_within : last.pieces ≤ length ps
  last_within = omega (arith, counts)

  rest_len : length now ≡ pieces_of rest
  rest_len = let len = length-take-le (length ps - last.pieces) ps (omega arith) in omega (arith, ap length now_is, len, counts)

  abbrev tail : List (List ℕ)
  tail = drop (length ps - last.pieces) ps

  abbrev last_item : Stored
  last_item = record { kept = last; text = text_in last tail }

  items_last : items_of ks ps ≡ items_of rest now ++ last_item ∷ []
  items_last =
      let whole : ps ≡ now ++ (tail ++ []) =
      sym (take-append-drop (length ps - last.pieces) ps) ∙ ap (λ xs. xs ++ tail) (sym now_is)
      ∙ ap (λ xs. now ++ xs) (sym (append-nil tail)) in
      let own : length tail ≡ last.pieces = omega (arith, length-drop (length ps - last.pieces) ps, last_within) in
      ap (λ xs. items_of xs ps) ks_is ∙ ap (items_of (rest ++ last ∷ [])) whole ∙ items_mid rest [] last now tail [] rest_len own

  pub last_size : sizes (entries_of (items_of rest now)) + last.size ≡ bytes
  last_size =
      let all = sizes_last (items_of ks ps) (items_of rest now) last_item items_last in
      let good = good_back (items_of rest now) (last_item ∷ []) (subst AllGood items_last shelf.good) in
      omega (arith, all, good.0.measured, shelf.measured)

  pub rest_items : (before : List Stored) (item : Stored) → items_of ks ps ≡ before ++ item ∷ [] → items_of rest now ≡ before
  rest_items before item is = (same_from_push (items_of rest now) before last_item item (sym items_last ∙ is)).0

  pub rest_shelf : left + last.size ≡ bytes → IsShelf rest now left
  rest_shelf left_is = record {
    counted = sym rest_len;
    good = good_front (items_of rest now) (last_item ∷ []) (subst AllGood items_last shelf.good);
    measured = omega (arith, last_size, left_is);
    few = omega (arith, rest_len, counts, shelf.counted, shelf.few);
  }

-- ---- one is put in front

module _ (ks : List Kept) (ps own now : List (List ℕ)) (bytes : ℕ) (kept : Kept) (entry : Entry)
    (shelf : IsShelf ks ps bytes) (is : IsKept kept own entry) (now_is : now ≡ own ++ ps) where
  put_items : items_of (kept ∷ ks) now ≡ record { kept = kept; text = text_in kept own } ∷ items_of ks ps
  put_items = ap (items_of (kept ∷ ks)) now_is ∙ items_mid [] ks kept [] own ps refl is.all

  pub put_entries : entries_of (items_of (kept ∷ ks) now) ≡ entry ∷ entries_of (items_of ks ps)
  put_entries = ap entries_of put_items ∙ ap (λ e. e ∷ entries_of (items_of ks ps)) is.entry_is

  pub put_shelf : (sum : ℕ) → sum ≡ bytes + kept.size → length now ≤ 4294967295 → IsShelf (kept ∷ ks) now sum
  put_shelf sum sum_is few_now = record {
    few = few_now;
    counted = omega (arith, ap length now_is, length-append own ps, is.all, shelf.counted);
    good = subst AllGood (sym put_items) (is.good, shelf.good);
    measured = let all = ap (λ xs. sizes (entries_of xs)) put_items in omega (arith, all, is.good.measured, shelf.measured, sum_is);
  }

pub has_item : (items : List Stored) (at : ℕ) → at < length items → (item : Stored) × (item ≡ get_or items at item)
has_item [] at lt = absurd (omega (arith, lt))
has_item (x ∷ items) zero lt = (x, refl)
has_item (x ∷ items) (suc at) lt = has_item items at (omega (arith, lt))

pub has_last : (items : List Stored) → 0 < length items → (rest : List Stored) × (last : Stored) × (items ≡ rest ++ last ∷ [])
has_last [] some = absurd (omega (arith, some))
has_last (x ∷ []) some = ([], x, refl)
has_last (x ∷ (y ∷ items)) some = let more = has_last (y ∷ items) (omega arith) in (x ∷ more.0, more.1, ap (λ xs. x ∷ xs) more.2)

pub pieces_more : (ks : List Kept) (at : ℕ) (k : Kept) → at < length ks → k ≡ get_or ks at k
    → pieces_of (take (at + 1) ks) ≡ pieces_of (take at ks) + k.pieces
pieces_more ks at k lt is =
    let all = ap pieces_of (take_more ks at k lt ∙ ap (λ x. take at ks ++ x ∷ []) (sym is)) in
    omega (arith, all, pieces-append (take at ks) (k ∷ []))

pub some_items : (ks : List Kept) (ps : List (List ℕ)) → 0 < sizes (entries_of (items_of ks ps)) → 0 < length (items_of ks ps)
some_items [] ps some = some
some_items (k ∷ ks) ps some = omega arith

-- pieces behind the others, turned to the front
pub turned_front_is : (ps qs : List (List ℕ)) (count : ℕ) → take (length ps) qs ≡ ps → length qs ≡ length ps + count
    → turned 0 (length ps) (length ps + count) qs ≡ drop (length ps) qs ++ ps
turned_front_is ps qs count front len =
    let range : slice_range qs (length ps) (length ps + count) ≡ drop (length ps) qs =
    take_all (length ps + count - length ps) (drop (length ps) qs) (omega (arith, length-drop (length ps) qs, len)) in
    let none : drop (length ps + count) qs ≡ [] = drop_all (length ps + count) qs (omega (arith, len)) in
    lifted_pieces (length ps) (length ps + count) qs
    ∙ ap (λ xs. xs ++ (take (length ps) qs ++ drop (length ps + count) qs)) range
    ∙ ap (λ xs. drop (length ps) qs ++ (xs ++ drop (length ps + count) qs)) front
    ∙ ap (λ xs. drop (length ps) qs ++ (ps ++ xs)) none
    ∙ ap (λ xs. drop (length ps) qs ++ xs) (append-nil ps)
