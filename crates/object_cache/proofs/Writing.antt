-- A text that is written into pieces.
use Rattle.std.proofs.Common.{◌≡◌, ℕ, ◌+◌, ◌*◌, ◌<◌, ◌≤◌, List, [], ◌∷◌, ◌++◌, length, get_or, take, drop, sym, ◌∙◌, ap, subst, arith}
use Rattle.std.proofs.Common.{append_assoc}
use Rattle.std.specs.List.{concat}
use Rattle.std.proofs.lemmas.List.{length-append, length-take-le, length-map, take_all, drop_all, append-nil, take_at, take-append-le}
use Rattle.std.proofs.lemmas.List.{drop-append-le, take-take}
use Rattle.std.proofs.Math.Seq.{take-append-add}
use Rattle.object_cache.specs.Pieces.{in_order, text_behind, IsOrder, ArePieces}
use Rattle.object_cache.proofs.Reading.{concat_more}

module _ (used at : ℕ) (ps now : List (List ℕ)) (last : List ℕ)
    (used_le : used ≤ at) (at_le : at ≤ length ps) (now_is : now ≡ take at ps ++ last ∷ drop (at + 1) ps) where
  front_len : length (take at ps) ≡ at
  front_len = length-take-le at ps at_le

  front_is : take (at + 1) now ≡ take at ps ++ last ∷ []
  front_is =
      ap (take (at + 1)) (now_is ∙ sym (append_assoc (take at ps) (last ∷ []) (drop (at + 1) ps)))
      ∙ take_at (take at ps ++ last ∷ []) (drop (at + 1) ps) (at + 1) (omega (arith, length-append (take at ps) (last ∷ []), front_len))

  pub stored_text : concat (drop used (take (at + 1) now)) ≡ concat (drop used (take at ps)) ++ last
  stored_text =
      ap (λ xs. concat (drop used xs)) front_is
      ∙ ap concat (drop-append-le used (take at ps) (last ∷ []) (omega (arith, used_le, front_len)))
      ∙ concat_more (drop used (take at ps)) last

  pub stored_used : take used now ≡ take used ps
  stored_used =
      ap (take used) now_is ∙ take-append-le used (take at ps) (last ∷ drop (at + 1) ps) (omega (arith, used_le, front_len))
      ∙ take-take used at ps used_le

  pub now_len : at + 1 ≤ length now
  now_len = let all = ap length now_is in omega (arith, all, length-append (take at ps) (last ∷ drop (at + 1) ps), front_len)

  pub flushed_text : length last ≡ 320 → text_behind used (at + 1) 0 last now ≡ text_behind used at 320 last ps
  flushed_text full =
      append-nil (concat (drop used (take (at + 1) now))) ∙ stored_text
      ∙ ap (λ xs. concat (drop used (take at ps)) ++ xs) (sym (take_all 320 last (omega (arith, full))))

  -- the text where the last piece is put away before it is full
  pub ended_text : (len : ℕ) → len ≤ length last
      → take (length (text_behind used at len last ps)) (concat (drop used (take (at + 1) now))) ≡ text_behind used at len last ps
  ended_text len le =
      let x = concat (drop used (take at ps)) in
      let count : length (text_behind used at len last ps) ≡ length x + len =
      omega (arith, length-append x (take len last), length-take-le len last le) in
      ap (λ n. take n (concat (drop used (take (at + 1) now)))) count ∙ ap (take (length x + len)) stored_text ∙ take-append-add x last len

-- bytes in the last piece
pub written_text : (used at len count : ℕ) (last new front : List ℕ) (ps : List (List ℕ)) → take (len + count) new ≡ take len last ++ front
    → text_behind used at (len + count) new ps ≡ text_behind used at len last ps ++ front
written_text used at len count last new front ps is =
    ap (λ xs. concat (drop used (take at ps)) ++ xs) is ∙ sym (append_assoc (concat (drop used (take at ps))) (take len last) front)

module _ (block : List (List ℕ)) (order : List ℕ) (block_room order_room room used at len : ℕ) (last : List ℕ)
    (are : ArePieces block order block_room order_room room used at len last) where
  pieces_len : length (in_order block order) ≡ length order
  pieces_len = length-map order (λ p. get_or block p [])

  pub at_within : at ≤ length (in_order block order)
  at_within = omega (arith, pieces_len, are.at_le)

  pub flushed : (new : List (List ℕ)) (numbers : List ℕ) (new_block_room new_order_room : ℕ) → new_block_room ≡ block_room
      → new_order_room ≡ order_room → len ≡ 320 → length last ≡ 320 → at < room → IsOrder (length new) numbers
      → in_order new numbers ≡ take at (in_order block order) ++ last ∷ drop (at + 1) (in_order block order)
      → ArePieces new numbers new_block_room new_order_room room used (at + 1) 0 last
  flushed new numbers new_block_room new_order_room block_room_is order_room_is len_is full lt order_is is =
      let text = flushed_text used at (in_order block order) (in_order new numbers) last are.used_le at_within is full in
      let old : length (text_behind used at 320 last (in_order block order)) + 320 * used ≡ 320 * at + 320 =
      subst (λ n. length (text_behind used at n last (in_order block order)) + 320 * used ≡ 320 * at + n) len_is are.counted in
      record {
        order_is = order_is;
        used_le = omega (arith, are.used_le);
        at_le = omega (
          arith,
          now_len used at (in_order block order) (in_order new numbers) last are.used_le at_within is,
          length-map numbers (λ p. get_or new p []),
        );
        len_le = omega arith;
        counted = omega (arith, ap length text, old);
        in_block = omega (arith, are.in_block, block_room_is);
        in_numbers = omega (arith, are.in_numbers, order_room_is);
        few = are.few;
        few_before = omega (arith, lt, are.few);
      }

  pub written : (new front : List ℕ) (count : ℕ) → len + count ≤ 320 → take (len + count) new ≡ take len last ++ front
      → length front ≡ count
      → ArePieces block order block_room order_room room used at (len + count) new
  written new front count fits is front_len =
      let text = written_text used at len count last new front (in_order block order) is in
      let all = length-append (text_behind used at len last (in_order block order)) front in
      record {
        order_is = are.order_is;
        used_le = are.used_le;
        at_le = are.at_le;
        len_le = fits;
        counted = omega (arith, ap length text, all, are.counted, front_len);
        in_block = are.in_block;
        in_numbers = are.in_numbers;
        few = are.few;
        few_before = are.few_before;
      }

-- nothing is written behind those in use
pub idle : (block : List (List ℕ)) (order : List ℕ) (block_room order_room room now : ℕ) (last : List ℕ) → IsOrder (length block) order
    → now ≤ length order → room ≤ block_room → room ≤ order_room → room ≤ 4294967295 → now ≤ 4294967295
    → ArePieces block order block_room order_room room now now 0 last
idle block order block_room order_room room now last order_is within in_block in_numbers few few_now =
    let len = length-map order (λ p. get_or block p []) in
    let none : drop now (take now (in_order block order)) ≡ [] =
    drop_all now (take now (in_order block order)) (omega (
      arith,
      length-take-le now (in_order block order) (omega
          (arith, within, len)),
    )) in
    record {
      order_is = order_is;
      used_le = omega arith;
      at_le = within;
      len_le = omega arith;
      counted = let text = ap (λ xs. length (concat xs ++ [])) none in omega (arith, text);
      in_block = in_block;
      in_numbers = in_numbers;
      few = few;
      few_before = few_now;
    }
