-- How long the texts that are written are, and which short texts are the longest.
use Rattle.std.proofs.Common.{◌≡◌, ℕ, zero, suc, ◌+◌, ◌-◌, ◌*◌, ◌^◌, ◌<◌, ◌≤◌, List, [], ◌∷◌, ◌++◌, length, take, drop, replicate, All}
use Rattle.std.proofs.Common.{refl, sym, ap, subst, ◌∙◌, arith}
use Rattle.std.specs.Prelude.{codes, sum_by}
use Rattle.std.specs.List.{flat_map}
use Rattle.std.proofs.lemmas.List.{length-append, length-drop, length-take, length-replicate, take-append-drop}
use Rattle.std.proofs.lemmas.List.Elements.{All-cons, All-nil}
use Rattle.std.proofs.lemmas.List.Concat.{flat_map-cons}
use Rattle.std.proofs.lemmas.List.Sums.{sum_by-cons}
use Rattle.farm_types.specs.Limits.{messages_max, object_max, word_max, words_bytes_max, words_max, source_max}
use Rattle.farm_types.specs.declared.ran.Outcome.{Outcome}
use Rattle.farm_types.specs.declared.request.Request.{Request}
use Rattle.farm_types.specs.Fits.{OutcomeFits, RequestFits}
use Rattle.wire_tokens.specs.Token.{token}
use Rattle.wire_tokens.specs.Reply.{SpellsReply, reply_text, IsShortReply}
use Rattle.wire_tokens.specs.Request.{SpellsRequest, word_text, request_text, IsShortRequest}
use Rattle.wire_tokens.proofs.Digits.{length-lower_digits}
use Rattle.wire_tokens.proofs.Written.{reply_written, request_written}
use Rattle.wire_tokens.proofs.ReplyLaws as replies
use Rattle.wire_tokens.proofs.RequestLaws as requests

token_len : (name : List ℕ) (n : ℕ) → length name ≡ 4 → length (token name n) ≡ 12
token_len name n four = simp (length-append, length-lower_digits) (omega (arith, four))

field_len : (name body rest : List ℕ) (n : ℕ) → length name ≡ 4 → length (token name n ++ (body ++ rest)) ≡ 12 + (length body + length rest)
field_len name body rest n four = length-append (token name n) (body ++ rest)
    ∙ omega (arith, token_len name n four, length-append body rest)

plain_len : (name rest : List ℕ) (n : ℕ) → length name ≡ 4 → length (token name n ++ rest) ≡ 12 + length rest
plain_len name rest n four = length-append (token name n) rest ∙ omega (arith, token_len name n four)

-- ---- replies

pub length-reply_text : (o : Outcome) → length (reply_text o) ≡ 60 + (length o.err + length o.out + length o.object)
length-reply_text o =
    let last : List ℕ = token (codes "DOTO") (length o.object) ++ o.object in
    let out : List ℕ = token (codes "SOUT") (length o.out) ++ (o.out ++ last) in
    let err : List ℕ = token (codes "SERR") (length o.err) ++ (o.err ++ out) in
    let stat : List ℕ = token (codes "STAT") o.status ++ err in
    let e1 : length last ≡ 12 + length o.object = plain_len (codes "DOTO") o.object (length o.object) refl in
    let e2 : length out ≡ 12 + (length o.out + length last) = field_len (codes "SOUT") o.out last (length o.out) refl in
    let e3 : length err ≡ 12 + (length o.err + length out) = field_len (codes "SERR") o.err out (length o.err) refl in
    let e4 : length stat ≡ 12 + length err = plain_len (codes "STAT") err o.status refl in
    plain_len (codes "DONE") stat 1 refl ∙ omega (arith, e1, e2, e3, e4)

-- the text without its last byte
cut_one : (text : List ℕ) → 1 ≤ length text → (drop (length text - 1) text ≡ [] → ⊥)
    × (length (take (length text - 1) text) + 1 ≡ length text)
cut_one text some = (
  λ e. absurd (omega (arith, ap length e, length-drop (length text - 1) text)),
  omega (arith, length-take (length text - 1) text),
)

longest_reply_of : (err out object : ℕ) → err ≤ messages_max → out ≤ messages_max → object ≤ object_max
    → (text : List ℕ) × IsShortReply text × (length text + 1 ≡ 60 + (err + out + object))
longest_reply_of err out object a b c =
    let o : Outcome = record { status = 0; err = replicate err 0; out = replicate out 0; object = replicate object 0 } in
    let le : length o.err ≡ err = length-replicate err 0 in
    let lo : length o.out ≡ out = length-replicate out 0 in
    let lb : length o.object ≡ object = length-replicate object 0 in
    let fits : OutcomeFits o.status o.err o.out o.object =
    record { err_fits = omega arith; out_fits = omega arith; object_fits = omega arith; failure = λ h. absurd (h refl) } in
    let all : List ℕ = reply_text o in
    let len = length-reply_text o in
    let cut = cut_one all (omega (arith, len)) in
    let spelled : SpellsReply all o = reply_written o fits (omega arith) in
    let parts : SpellsReply (take (length all - 1) all ++ drop (length all - 1) all) o =
    subst (λ (x : List ℕ). SpellsReply x o) (sym (take-append-drop (length all - 1) all)) spelled in (
      take (length all - 1) all,
      replies.cut_is_short (take (length all - 1) all) (drop (length all - 1) all) o parts cut.0,
      omega (arith, cut.1, len),
    )

-- Some short text of a reply has 35,651,643 bytes.
pub longest_short_reply : (text : List ℕ) × IsShortReply text × (length text ≡ 35651643)
longest_short_reply =
    let z = longest_reply_of messages_max messages_max object_max (omega arith) (omega arith) (omega arith) in
    (z.0, z.1, omega (arith, z.2))

-- ---- requests

length-words_text : (words : List (List ℕ)) → length (flat_map word_text words) ≡ 12 * length words + sum_by length words
length-words_text [] = refl
length-words_text (word ∷ words) =
    let cons : length (flat_map word_text (word ∷ words)) ≡ length (word_text word) + length (flat_map word_text words) =
    ap length (flat_map-cons word_text word words) ∙ length-append (word_text word) (flat_map word_text words) in
    cons ∙ omega (arith, plain_len (codes "ARGV") word (length word) refl, length-words_text words, sum_by-cons length word words)

pub length-request_text : (q : Request) → length (request_text q) ≡ 36 + (12 * length q.words + sum_by length q.words + length q.source)
length-request_text q =
    let last : List ℕ = token (codes "DOTI") (length q.source) ++ q.source in
    let words : List ℕ = flat_map word_text q.words ++ last in
    let argc : List ℕ = token (codes "ARGC") (length q.words) ++ words in
    let e1 : length last ≡ 12 + length q.source = plain_len (codes "DOTI") q.source (length q.source) refl in
    let e2 : length words ≡ length (flat_map word_text q.words) + length last = length-append (flat_map word_text q.words) last in
    let e3 : length argc ≡ 12 + length words = plain_len (codes "ARGC") words (length q.words) refl in
    plain_len (codes "DIST") argc 1 refl ∙ omega (arith, e1, e2, e3, length-words_text q.words)

equal_words : (n : ℕ) (word : List ℕ) → length word ≤ word_max
    → (words : List (List ℕ)) × (length words ≡ n) × All (λ w. length w ≤ word_max) words × (sum_by length words ≡ n * length word)
equal_words zero word small = ([], refl, All-nil (λ (w : List ℕ). length w ≤ word_max), omega arith)
equal_words (suc n) word small =
    let z = equal_words n word small in (
      word ∷ z.0,
      ap suc z.1,
      All-cons (λ (w : List ℕ). length w ≤ word_max) word z.0 small z.2,
      omega (arith, z.3, sum_by-cons length word z.0),
    )

longest_request_of : (count size source : ℕ) → 1 ≤ count → count ≤ words_max → size ≤ word_max → count * size ≤ words_bytes_max
    → source ≤ source_max
    → (text : List ℕ) × IsShortRequest text × (length text + 1 ≡ 36 + (12 * count + count * size + source))
longest_request_of count size source some few small together last =
    let word : List ℕ = replicate size 0 in
    let lw : length word ≡ size = length-replicate size 0 in
    let w = equal_words count word (omega arith) in
    let sum : sum_by length w.0 ≡ count * size = w.3 ∙ ap (λ (k : ℕ). count * k) lw in
    let q : Request = record { words = w.0; source = replicate source 0 } in
    let ls : length q.source ≡ source = length-replicate source 0 in
    let fits : RequestFits q.words q.source =
    record {
      some = omega (arith, w.1);
      count = omega (arith, w.1);
      words_fit = record { each = w.2; together = omega (arith, sum) };
      source_fits = omega arith;
    } in
    let all : List ℕ = request_text q in
    let len = length-request_text q in
    let cut = cut_one all (omega (arith, len)) in
    let spelled : SpellsRequest all q = request_written q fits in
    let parts : SpellsRequest (take (length all - 1) all ++ drop (length all - 1) all) q =
    subst (λ (x : List ℕ). SpellsRequest x q) (sym (take-append-drop (length all - 1) all)) spelled in (
      take (length all - 1) all,
      requests.cut_is_short (take (length all - 1) all) (drop (length all - 1) all) q parts cut.0,
      omega (arith, cut.1, len, w.1, sum),
    )

-- Some short text of a request has 34,615,331 bytes.
pub longest_short_request : (text : List ℕ) × IsShortRequest text × (length text ≡ 34615331)
longest_short_request =
    let z = longest_request_of words_max 1024 source_max (omega arith) (omega arith) (omega arith) (omega arith) (omega arith) in
    (z.0, z.1, omega (arith, z.2))
