use Rattle.std.proofs.Common.{◌+◌, ◌*◌, ◌-◌, ◌≤◌, length, take, drop, ap, arith, subst, sym}
use Rattle.std.specs.List.{flat_map}
use Rattle.std.proofs.lemmas.List.{length-append}
use Rattle.object_cache.specs.Packs.{coded, head_of, bytes_of}
use Rattle.object_cache.proofs.Reading.{first_rest}
use Rattle.object_cache.proofs.coding.add_words.Goals as goal

pub add_head-requires-clause-room : goal.add_head-requires-clause-room
add_head-requires-clause-room c =
    let rest = c.adding.rest.now in
    let word = c.word-item.result in
    let after = take (length rest - 1) (drop 1 rest) in
    let old = c.adding.pieces in
    let split = ap (flat_map coded) (first_rest rest word c.in-len1-up.len_at_least c.word-item.is) in
    omega (
      arith,
      ap length c.adding.invariant.text,
      length-append old.text (flat_map coded rest),
      length-append c.args.pieces.now.text (flat_map coded c.args.words.now),
      ap length split,
      length-append (coded word) (flat_map coded after),
      length-append (head_of word) (bytes_of word),
      ap length c.adding.invariant.used,
      c.adding.invariant.room,
      c.requires.room,
    )

pub add-requires : goal.add-requires
add-requires c =
    let rest = c.adding.rest.now in
    let word = c.word-item.result in
    let after = take (length rest - 1) (drop 1 rest) in
    let old = c.adding.pieces in
    let split = ap (flat_map coded) (first_rest rest word c.in-len1-up.len_at_least c.word-item.is) in
    subst (λ v. length v.text + length c.bytes_of.result.now ≤ 320 * (v.room - length v.used)) (sym c.add_head.ensures)
    (omega (
      arith,
      ap length c.adding.invariant.text,
      length-append old.text (flat_map coded rest),
      length-append c.args.pieces.now.text (flat_map coded c.args.words.now),
      ap length split,
      length-append (coded word) (flat_map coded after),
      length-append (head_of word) (bytes_of word),
      length-append old.text (head_of word),
      ap length c.bytes_of.ensures,
      ap length c.adding.invariant.used,
      c.adding.invariant.room,
      c.requires.room,
    ))
