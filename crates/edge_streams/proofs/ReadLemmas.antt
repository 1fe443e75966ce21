-- A stream that is read to its end, piece by piece.
use Rattle.std.proofs.Common.{◌≡◌, ℕ, ◌+◌, ◌-◌, ◌^◌, ◌≤◌, List, [], ◌++◌, length, Option, sym, ap, ◌∙◌, arith}
use Rattle.std.specs.Prelude.{min, IfSome}
use Rattle.std.specs.Io.KnownBytes.{Consumes, IsAtEnd}
use Rattle.std.proofs.KnownBytes.{Consumes-nil, Consumes-trans, Consumes-whole}
use Rattle.std.proofs.lemmas.List.{append-nil, append_assoc, length-append}
use Rattle.edge_streams.specs.declared.reading.SoFar.{SoFar}
use Rattle.edge_streams.specs.Reading.{HasRead}

pub none_read : (now : Option (List ℕ)) (bound : ℕ) (so_far : SoFar) → so_far.total ≤ 2 ^ 64 - 1 → HasRead now now bound so_far so_far
none_read now bound so_far fits = record {
  read = [];
  consumed = Consumes-nil now;
  counted = omega (arith, fits);
  kept = λ within. sym (append-nil so_far.bytes);
}

counts_join : (was a b mid end : ℕ) → mid ≡ min (was + a) (2 ^ 64 - 1) → end ≡ min (mid + b) (2 ^ 64 - 1) → end ≡ min (was + (a + b)) (2 ^ 64 - 1)
counts_join was a b mid end first second = omega (arith, first, second)

pub read_on : (before between after : Option (List ℕ)) (bound : ℕ) (old mid new : SoFar)
    → HasRead before between bound old mid → HasRead between after bound mid new → HasRead before after bound old new
read_on before between after bound old mid new first second = record {
  read = first.read ++ second.read;
  consumed = Consumes-trans before between after first.read second.read first.consumed second.consumed;
  counted = counts_join old.total (length first.read) (length second.read) mid.total new.total first.counted second.counted
      ∙ ap (λ n. min (old.total + n) (2 ^ 64 - 1)) (sym (length-append first.read second.read));
  kept = λ within.
      second.kept within
      ∙ ap (λ b. b ++ second.read) (first.kept (let one = first.counted in let two = second.counted in omega arith))
      ∙ append_assoc old.bytes first.read second.read;
}

pub more_read : (before between after : Option (List ℕ)) (bound : ℕ) (old mid new : SoFar) (piece : List ℕ)
    → HasRead before between bound old mid → Consumes between after piece → new.total ≡ min (mid.total + length piece) (2 ^ 64 - 1)
    → (new.total ≤ bound → new.bytes ≡ mid.bytes ++ piece) → HasRead before after bound old new
more_read before between after bound old mid new piece so_far gave counted kept =
    read_on before between after bound old mid new so_far
    (record { read = piece; consumed = gave; counted = counted; kept = kept })

pub all_read : (first now : Option (List ℕ)) (bound : ℕ) (none got : SoFar) → HasRead first now bound none got → none.bytes ≡ [] → IsAtEnd now
    → got.total ≤ bound → IfSome first (λ known. got.bytes ≡ known)
all_read first now bound none got so_far empty end within =
    Consumes-whole first now so_far.read (λ known. got.bytes ≡ known) so_far.consumed end
    (so_far.kept within ∙ ap (λ b. b ++ so_far.read) empty)

pub all_counted : (first now : Option (List ℕ)) (bound : ℕ) (none got : SoFar) → HasRead first now bound none got → none.total ≡ 0 → IsAtEnd now
    → IfSome first (λ known. got.total ≡ min (length known) (2 ^ 64 - 1))
all_counted first now bound none got so_far zero end =
    Consumes-whole first now so_far.read (λ known. got.total ≡ min (length known) (2 ^ 64 - 1)) so_far.consumed end
    (let counted = so_far.counted in omega (arith, zero))

-- within a bound of 32 bits, as many bytes are kept as were counted
pub kept_count : (first now : Option (List ℕ)) (bound : ℕ) (none got : SoFar) → HasRead first now bound none got → none.total ≡ 0 → none.bytes ≡ []
    → got.total ≤ bound → bound ≤ 2 ^ 32 → length got.bytes ≡ got.total
kept_count first now bound none got so_far zero empty within small =
    let same : length got.bytes ≡ length so_far.read = ap length (so_far.kept within ∙ ap (λ b. b ++ so_far.read) empty) in
    let was = so_far.counted in
    omega arith

pub ruleset reading = (none_read, read_on, all_read, all_counted, kept_count)
