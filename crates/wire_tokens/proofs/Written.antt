-- What is written is a spelling.
use Rattle.std.proofs.Common.{ℕ, ◌^◌, ◌<◌, ◌≤◌, List, [], ◌∷◌, length, All, refl, ◌∙◌, append_assoc, arith}
use Rattle.std.specs.Prelude.{codes}
use Rattle.std.specs.List.{flat_map}
use Rattle.std.proofs.lemmas.List.Elements.{All-head, All-tail}
use Rattle.std.proofs.lemmas.List.Concat.{flat_map-cons}
use Rattle.farm_types.specs.Limits.{word_max}
use Rattle.farm_types.specs.declared.ran.Outcome.{Outcome}
use Rattle.farm_types.specs.declared.request.Request.{Request}
use Rattle.farm_types.specs.Fits.{OutcomeFits, RequestFits}
use Rattle.wire_tokens.specs.Token.{IsToken, token, lower_digits}
use Rattle.wire_tokens.specs.Reply.{SpellsReply, reply_text}
use Rattle.wire_tokens.specs.Request.{SpellsRequest, SpellsWords, word_text, request_text}
use Rattle.wire_tokens.proofs.Digits.{length-lower_digits, each-lower_digits, number_of-lower_digits}

low_is : (name : List ℕ) (n : ℕ) → n < 4294967296 → IsToken name n (token name n)
low_is name n h = record {
  digits = lower_digits 8 n;
  spelled = refl;
  eight = length-lower_digits 8 n;
  each = each-lower_digits 8 n;
  value = number_of-lower_digits 8 n h;
}

pub reply_written : (o : Outcome) → OutcomeFits o.status o.err o.out o.object → o.status < 2 ^ 32 → SpellsReply (reply_text o) o
reply_written o fits status = record {
  fits = fits;
  done = token (codes "DONE") 1;
  stat = token (codes "STAT") o.status;
  serr = token (codes "SERR") (length o.err);
  sout = token (codes "SOUT") (length o.out);
  doto = token (codes "DOTO") (length o.object);
  is_done = low_is (codes "DONE") 1 (omega arith);
  is_stat = low_is (codes "STAT") o.status status;
  is_serr = low_is (codes "SERR") (length o.err) (omega (arith, fits.err_fits));
  is_sout = low_is (codes "SOUT") (length o.out) (omega (arith, fits.out_fits));
  is_doto = low_is (codes "DOTO") (length o.object) (omega (arith, fits.object_fits));
  parts = refl;
}

words_written : (words : List (List ℕ)) → All (λ word. length word ≤ word_max) words → SpellsWords words (flat_map word_text words)
words_written [] each = refl
words_written (word ∷ words) each =
    let small : length word ≤ word_max = All-head (λ (w : List ℕ). length w ≤ word_max) word words each in (
      token (codes "ARGV") (length word),
      flat_map word_text words,
      low_is (codes "ARGV") (length word) (omega arith),
      flat_map-cons word_text word words ∙ append_assoc (token (codes "ARGV") (length word)) word (flat_map word_text words),
      words_written words (All-tail (λ (w : List ℕ). length w ≤ word_max) word words each),
    )

pub request_written : (q : Request) → RequestFits q.words q.source → SpellsRequest (request_text q) q
request_written q fits = record {
  fits = fits;
  dist = token (codes "DIST") 1;
  argc = token (codes "ARGC") (length q.words);
  words = flat_map word_text q.words;
  doti = token (codes "DOTI") (length q.source);
  is_dist = low_is (codes "DIST") 1 (omega arith);
  is_argc = low_is (codes "ARGC") (length q.words) (omega (arith, fits.count));
  are_words = words_written q.words fits.words_fit.each;
  is_doti = low_is (codes "DOTI") (length q.source) (omega (arith, fits.source_fits));
  parts = refl;
}
