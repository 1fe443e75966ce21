use Rattle.std.proofs.Common.{◌≡◌, ◌≤◌, ◌+◌, ◌*◌, ◌-◌, ◌++◌, length, take, drop, sym, ◌∙◌, ap, subst, arith, refl}
use Rattle.std.specs.Prelude.{nat_lt}
use Rattle.std.specs.List.{list_all, concat}
use Rattle.std.proofs.lemmas.Bool.{and_parts}
use Rattle.std.proofs.lemmas.List.{length-drop}
use Rattle.object_cache.specs.Keys.{text_len}
use Rattle.object_cache.specs.Entries.{Entry}
use Rattle.object_cache.specs.Packs.{packed}
use Rattle.object_cache.specs.declared.kept.Kept.{Kept}
use Rattle.object_cache.proofs.Packs.{packed_len}
use Rattle.object_cache.proofs.Matching.{kept_is}
use Rattle.object_cache.proofs.entry.keep_text.Goals as goal

pub write_entry-requires-clause-room : goal.write_entry-requires-clause-room
write_entry-requires-clause-room c =
    let entry : Entry = record { words = c.args.words.now; input = c.args.input.now; ran = c.args.ran.now } in
    subst (λ v. length v.text + length (packed entry) ≤ 320 * (v.room - length v.used)) (sym c.begin.ensures)
    (omega (arith, packed_len entry, c.requires.measured, c.requires.room))

pub end-count-requires : goal.end-count-requires
end-count-requires c =
    let entry : Entry = record { words = c.args.words.now; input = c.args.input.now; ran = c.args.ran.now } in
    subst (λ v. length v.text ≤ 320 * (v.room - length v.used)) (sym c.write_entry.ensures)
    (subst (λ v. length (v.text ++ packed entry) ≤ 320 * (v.room - length v.used)) (sym c.begin.ensures)
    (omega (arith, packed_len entry, c.requires.measured, c.requires.room)))

pub returns-clause-kept : goal.returns-clause-kept
returns-clause-kept c =
    let words = c.args.words.now in
    let input = c.args.input.now in
    let ran = c.args.ran.now in
    let entry : Entry = record { words = words; input = input; ran = ran } in
    let short = (and_parts (list_all (λ word. nat_lt (text_len word) 4294967296) words) (nat_lt
    (length input) 4294967296) c.requires.nameable).0 in
    let text : c.write_entry.new.pieces.text ≡ packed entry =
    ap (λ v. v.text) c.write_entry.ensures ∙ ap (λ v. v.text ++ packed entry) c.begin.ensures in
    let used : c.write_entry.new.pieces.used ≡ c.args.pieces.now.used = ap (λ v. v.used) c.write_entry.ensures
    ∙ ap (λ v. v.used) c.begin.ensures in
    let kept : Kept = record {
      digest = c.args.digest;
      size = c.args.size;
      status = ran.status;
      words = length words;
      out = c.len.result;
      err = c.len-2.result;
      object = c.len-3.result;
      len = c.text_len-len.result;
      pieces = c.end-count.result;
    } in
    let now = c.end-count.new.self.used in
    let all : length (drop (length c.args.pieces.now.used) now) ≡ c.end-count.result =
    omega (arith, length-drop (length c.args.pieces.now.used) now, c.end-count.ensures.count, ap length used) in
    let joined : take c.text_len-len.result (concat (drop (length c.args.pieces.now.used) now)) ≡ packed entry =
    ap (λ n. take n (concat (drop (length c.args.pieces.now.used) now))) c.text_len-len.ensures
    ∙ ap (λ ps. take (length c.write_entry.new.pieces.text) (concat (drop (length ps) now))) (sym used)
    ∙ c.end-count.ensures.text ∙ text in
    kept_is kept (drop (length c.args.pieces.now.used) now) words input ran short all joined c.requires.digest c.requires.measured refl refl
    c.len.ensures c.len-2.ensures c.len-3.ensures
