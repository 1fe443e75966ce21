use Rattle.std.proofs.Common.{◌≡◌, length, take, drop, sym, ◌∙◌, ap, subst}
use Rattle.std.specs.Prelude.{◌&&◌, true, false}
use Rattle.std.specs.Str.{bytes_eq}
use Rattle.std.proofs.lemmas.Bool.{not-true}
use Rattle.std.proofs.lemmas.List.{length-drop}
use Rattle.object_cache.proofs.Reading.{match_piece, drop_piece, by_not}
use Rattle.object_cache.proofs.cursor.Cursor.matches.Goals as goal

pub returns-then-ne-clause-same : goal.returns-then-ne-clause-same
returns-then-ne-clause-same c =
    let piece = c.next-piece.result.now in
    let next = c.next-piece.new.self in
    let rest = c.matching.rest.now in
    let behind = drop (length piece) rest in
    let front = c.split_at.result.0.now in
    let other : bytes_eq piece front ≡ false = not-true (bytes_eq piece front) (sym c.ne.ensures ∙ c.if-ne.true) in
    let differ : bytes_eq piece (take (length piece) rest) ≡ false =
    subst (λ bytes. bytes_eq piece bytes ≡ false) c.split_at.ensures.front other in
    sym
    (sym c.matching.invariant.same ∙ ap (λ left. bytes_eq (take (length rest) left) rest) c.next-piece.ensures.whole
    ∙ match_piece piece next rest c.next-piece.ensures.most
    ∙ ap (λ b. b && bytes_eq (take (length behind) next) behind) differ)

pub matching-preserved : goal.matching-preserved
matching-preserved c =
    let piece = c.next-piece.result.now in
    let next = c.next-piece.new.self in
    let rest = c.matching.rest.now in
    let behind = drop (length piece) rest in
    let front = c.split_at.result.0.now in
    let other : bytes_eq piece front ≡ true = by_not (bytes_eq piece front) (sym c.ne.ensures ∙ c.if-ne.false) in
    let same : bytes_eq piece (take (length piece) rest) ≡ true =
    subst (λ bytes. bytes_eq piece bytes ≡ true) c.split_at.ensures.front other in record {
      same =
          ap (λ after. bytes_eq (take (length after) next) after) c.split_at.ensures.back
          ∙ sym (ap (λ b. b && bytes_eq (take (length behind) next) behind) same)
          ∙ sym (match_piece piece next rest c.next-piece.ensures.most)
          ∙ ap (λ left. bytes_eq (take (length rest) left) rest) (sym c.next-piece.ensures.whole)
          ∙ c.matching.invariant.same;
      left =
          ap (λ after. drop (length after) next) c.split_at.ensures.back
          ∙ ap (λ n. drop n next) (length-drop (length piece) rest)
          ∙ sym (drop_piece piece next (length rest) c.next-piece.ensures.most)
          ∙ ap (drop (length rest)) (sym c.next-piece.ensures.whole)
          ∙ c.matching.invariant.left;
    }
