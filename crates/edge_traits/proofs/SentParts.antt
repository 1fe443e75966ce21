-- A part of a text that was sent.
use Rattle.std.proofs.Common.{◌≢◌, ℕ, ◌<◌, List, [], length, take, drop, sym, ap, length-drop, arith}
use Rattle.std.proofs.lemmas.List.{take-append-drop}
use Rattle.edge_traits.specs.Told.{Told, Grew}
use Rattle.edge_traits.proofs.ToldLemmas.{Grew-still}
use Rattle.edge_traits.specs.Sends.{SentPart}

rest_left : (n : ℕ) (bytes : List ℕ) → n < length bytes → drop n bytes ≢ []
rest_left n bytes less none = omega (arith, less, length-drop n bytes, ap length none)

-- a front was sent, shorter than the whole, and nothing more
pub sent_part : (n : ℕ) (bytes : List ℕ) {old mid new : Told (List ℕ)} → n < length bytes → Grew old mid (take n bytes)
    → Grew mid new [] → SentPart bytes old new
sent_part n bytes less front still = record {
  sent = take n bytes;
  unsent = drop n bytes;
  parts = sym (take-append-drop n bytes);
  proper = rest_left n bytes less;
  grew = Grew-still front still;
}
