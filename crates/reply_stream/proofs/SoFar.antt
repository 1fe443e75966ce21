-- The bytes that were counted as the object's are those that stand in the text.
use Rattle.std.proofs.Common.{◌≡◌, ℕ, ◌+◌, ◌<◌, ◌≤◌, List, [], ◌∷◌, ◌++◌, length, take, drop, refl, sym, ap, subst, ◌∙◌, append_assoc}
use Rattle.std.proofs.Common.{arith, inl, inr}
use Rattle.std.proofs.lemmas.List.{append-nil, length-append, nil_from_length, take_all}
use Rattle.std.proofs.Math.Seq.{drop-append-add, drop-append_seam, take-append_seam}
use Rattle.std.proofs.Math.ListN.{drop_of_length-le}
use Rattle.wire_tokens.specs.Token.{IsToken, number_of}
use Rattle.wire_tokens.specs.Format.{Field, IsFront, Progress, body_len}
use Rattle.wire_tokens.specs.Reply.{reply_format}
use Rattle.wire_tokens.proofs.Readings.{front_len, fields_len}
use Rattle.wire_tokens.proofs.Reply.{four_reply}
use Rattle.wire_tokens.specs.declared.token.Scan.TheVariants.{Number}
use Rattle.wire_tokens.specs.Scan.{scan_of}
use Rattle.wire_tokens.proofs.Tokens.{token-scan}
use Rattle.compile_reply.specs.Decoding.{due_of}
use Rattle.compile_reply.specs.declared.part.Part.{Part}
use Rattle.compile_reply.specs.declared.part.Part.TheVariants.{Done, Stat, Serr, Sout, Doto}
use Rattle.reply_stream.specs.Parts.{fields_before, bytes_before, number_field, text_field, IsKept}
use Rattle.reply_stream.specs.Objects.{number_at, object_so_far}
use Rattle.reply_stream.specs.declared.partial.Partial.{Partial}
use Rattle.reply_stream.specs.Taking.{bytes_of, IsPlaced, Holds}
use Rattle.reply_stream.proofs.Bytewise.{fields_len-before}

-- a token's number is read where it stands
number-behind : (before text : List ℕ) (k : ℕ) → number_at (before ++ text) (length before + k) ≡ number_at text k
number-behind before text k =
    let place : length before + k + 4 ≡ length before + (k + 4) = omega arith in
    ap (λ (n : ℕ). number_of (take 8 (drop n (before ++ text)))) place
    ∙ ap (λ (x : List ℕ). number_of (take 8 x)) (drop-append-add before text (k + 4))

number-here : (name : List ℕ) (n : ℕ) (token rest : List ℕ) → length name ≡ 4 → IsToken name n token → number_at (token ++ rest) 0 ≡ n
number-here name n token rest four is =
    let parts : token ++ rest ≡ name ++ (is.digits ++ rest) = ap (λ (x : List ℕ). x ++ rest) is.spelled
    ∙ append_assoc name is.digits rest in
    let place : 0 + 4 ≡ length name + 0 = omega (arith, four) in
    let behind : drop (0 + 4) (token ++ rest) ≡ is.digits ++ rest = ap (λ (x : List ℕ). drop (0 + 4) x) parts
    ∙ ap (λ (k : ℕ). drop k (name ++ (is.digits ++ rest))) place ∙ drop-append-add name (is.digits ++ rest) 0 in
    let digits : take 8 (is.digits ++ rest) ≡ is.digits = ap (λ (k : ℕ). take k (is.digits ++ rest)) (sym is.eight)
    ∙ take-append_seam is.digits rest in
    ap (λ (x : List ℕ). number_of (take 8 x)) behind ∙ ap number_of digits ∙ is.value

number-there : (seen before later : List Field) (field : Field) (front more : List ℕ)
    → IsFront reply_format seen (before ++ field ∷ later) front → number_at (front ++ more) (fields_len before) ≡ field.number
unfolding fields_len
number-there seen [] later field front more r =
    let f = r.4 in
    let parts : front ++ more ≡ f.token ++ (field.body ++ (r.2 ++ more)) =
    ap (λ (x : List ℕ). x ++ more) (r.5 ∙ ap (λ (x : List ℕ). x ++ r.2) f.parts) ∙ append_assoc (f.token ++ field.body) r.2 more
    ∙ append_assoc f.token field.body (r.2 ++ more) in
    ap (λ (x : List ℕ). number_at x 0) parts ∙ number-here r.0.name field.number f.token (field.body ++ (r.2 ++ more))
    (four_reply seen r.0 r.3) f.is_token
number-there seen (g ∷ before) later field front more r =
    let first : fields_len (g ∷ []) ≡ length r.1 =
    sym (front_len reply_format four_reply seen (g ∷ []) r.1 (r.0, r.1, [], r.3, r.4, sym (append-nil r.1), refl)) in
    let place : 12 + length g.body + fields_len before ≡ length r.1 + fields_len before = omega (arith, first) in
    let parts : front ++ more ≡ r.1 ++ (r.2 ++ more) = ap (λ (x : List ℕ). x ++ more) r.5 ∙ append_assoc r.1 r.2 more in
    ap (λ (x : List ℕ). number_at x (12 + length g.body + fields_len before)) parts
    ∙ ap (λ (k : ℕ). number_at (r.1 ++ (r.2 ++ more)) k) place
    ∙ number-behind r.1 (r.2 ++ more) (fields_len before) ∙ number-there (seen ++ g ∷ []) before later field r.2 more r.6

-- a token that came, before more bytes
number-token : (name : List ℕ) (n : ℕ) (front token more : List ℕ) → length name ≡ 4 → length token ≡ 12
    → scan_of name token ≡ Number n → number_at (front ++ (token ++ more)) (length front) ≡ n
number-token name n front token more four twelve scan =
    let is : IsToken name n token = subst (IsToken name n) (take_all 12 token (omega arith)) (token-scan name n token four scan).0 in
    let place : length front ≡ length front + 0 = omega arith in
    ap (λ (k : ℕ). number_at (front ++ (token ++ more)) k) place ∙ number-behind front (token ++ more) 0
    ∙ number-here name n token more four is

-- a text that doesn't go past the place has nothing there
nothing : (text object : List ℕ) (k : ℕ) → object ≡ [] → length text ≤ k → object ≡ drop k text
nothing text object k none short = none ∙ sym (drop_of_length-le text short)

-- the text, the fields before the next one, and the bytes of that one
pub record Came (part : Part) (status : ℕ) (err out bytes object text front : List ℕ) : Type 0 where
  pub is_front : IsFront reply_format [] (fields_before part status err out) front
  pub parts : text ≡ front ++ (bytes ++ object)
  pub len : length text ≡ bytes_before part err out + length bytes + length object

came : (part : Part) (status : ℕ) (err out bytes object text : List ℕ)
    → (g : Progress reply_format text (fields_before part status err out) (bytes ++ object))
    → Came part status err out bytes object text g.front
came part status err out bytes object text g =
    let long = front_len reply_format four_reply [] (fields_before part status err out) g.front g.is_front
    ∙ fields_len-before part status err out in
    record {
      is_front = g.is_front;
      parts = g.parts;
      len = omega (arith, ap length g.parts, length-append g.front (bytes ++ object), length-append bytes object, long);
    }

at_number : (text front more : List ℕ) (at : ℕ) (fields : List Field) (n : ℕ) → text ≡ front ++ more → fields_len fields ≡ at
    → number_at (front ++ more) (fields_len fields) ≡ n → number_at text at ≡ n
at_number text front more at fields n parts place is = ap (λ (x : List ℕ). number_at x at) parts
    ∙ ap (λ (k : ℕ). number_at (front ++ more) k) (sym place) ∙ is

-- the lengths of the messages, where their tokens stand
err-len-sout : (status : ℕ) (err out bytes object text front : List ℕ) → Came Sout status err out bytes object text front
    → number_at text 24 ≡ length err
err-len-sout status err out bytes object text front c =
    at_number text front (bytes ++ object) 24 (number_field 1 ∷ number_field status ∷ []) (length err) c.parts
    (fields_len-before Serr status err out)
    (number-there [] (number_field 1 ∷ number_field status ∷ []) [] (text_field err) front (bytes ++ object) c.is_front)

err-len-doto : (beside status : ℕ) (err out bytes object text front : List ℕ)
    → Came (Doto beside) status err out bytes object text front → number_at text 24 ≡ length err
err-len-doto beside status err out bytes object text front c =
    at_number text front (bytes ++ object) 24 (number_field 1 ∷ number_field status ∷ []) (length err) c.parts
    (fields_len-before Serr status err out)
    (number-there [] (number_field 1 ∷ number_field status ∷ []) (text_field out ∷ []) (text_field err) front (bytes ++ object) c.is_front)

out-len : (beside status : ℕ) (err out bytes object text front : List ℕ) → Came (Doto beside) status err out bytes object text front
    → number_at text (36 + length err) ≡ length out
out-len beside status err out bytes object text front c =
    at_number text front (bytes ++ object) (36 + length err) (number_field 1 ∷ number_field status ∷ text_field err ∷ [])
    (length out) c.parts (fields_len-before Sout status err out)
    (number-there [] (number_field 1 ∷ number_field status ∷ text_field err ∷ []) [] (text_field out) front (bytes ++ object) c.is_front)

-- what is known of the next field's bytes: its token is on its way, or it is there and its body is on its way
pub record Begun (part : Part) (bytes object : List ℕ) : Type 0 where
  pub few : length bytes < 12
  pub none : object ≡ []

pub record Within (part : Part) (bytes object : List ℕ) : Type 0 where
  pub token : List ℕ
  pub body : List ℕ
  pub number : ℕ
  pub are : bytes ≡ token ++ body
  pub twelve : length token ≡ 12
  pub scan : scan_of (due_of part).name token ≡ Number number
  pub missing : length body + length object < body_len (due_of part) number
  pub kept : IsKept part body (length object)

begun_so_far : (part : Part) (status : ℕ) (err out bytes object text front : List ℕ)
    → Came part status err out bytes object text front → Begun part bytes object → object ≡ object_so_far text
unfolding object_so_far
begun_so_far Done status err out bytes object text front c b = let len = c.len in let few = b.few in let zero = ap length b.none in
    nothing text object (60 + number_at text 24 + number_at text (36 + number_at text 24)) b.none (omega arith)
begun_so_far Stat status err out bytes object text front c b = let len = c.len in let few = b.few in let zero = ap length b.none in
    nothing text object (60 + number_at text 24 + number_at text (36 + number_at text 24)) b.none (omega arith)
begun_so_far Serr status err out bytes object text front c b = let len = c.len in let few = b.few in let zero = ap length b.none in
    nothing text object (60 + number_at text 24 + number_at text (36 + number_at text 24)) b.none (omega arith)
begun_so_far Sout status err out bytes object text front c b =
    let len = c.len in
    let few = b.few in
    let zero = ap length b.none in
    let first = err-len-sout status err out bytes object text front c in
    nothing text object (60 + number_at text 24 + number_at text (36 + number_at text 24)) b.none (omega arith)
begun_so_far (Doto beside) status err out bytes object text front c b =
    let len = c.len in
    let few = b.few in
    let zero = ap length b.none in
    let first = err-len-doto beside status err out bytes object text front c in
    let second : number_at text (36 + number_at text 24) ≡ length out = ap (λ (k : ℕ). number_at text (36 + k)) first
    ∙ out-len beside status err out bytes object text front c in
    nothing text object (60 + number_at text 24 + number_at text (36 + number_at text 24)) b.none (omega arith)

no_bytes : (object : List ℕ) → length object ≡ 0 → object ≡ []
no_bytes object none = nil_from_length object none

within_so_far : (part : Part) (status : ℕ) (err out bytes object text front : List ℕ)
    → Came part status err out bytes object text front → Within part bytes object → object ≡ object_so_far text
unfolding object_so_far
within_so_far Done status err out bytes object text front c w = let missing = w.missing in absurd (omega arith)
within_so_far Stat status err out bytes object text front c w = let missing = w.missing in absurd (omega arith)
within_so_far Serr status err out bytes object text front c w =
    let len = c.len in
    let missing = w.missing in
    let none : length object ≡ 0 = w.kept in
    let long = ap length w.are ∙ length-append w.token w.body in
    let twelve = w.twelve in
    let front_is : length front ≡ 24 = front_len reply_format four_reply [] (fields_before Serr status err out) front c.is_front
    ∙ fields_len-before Serr status err out in
    let parts : text ≡ front ++ (w.token ++ (w.body ++ object)) = c.parts ∙ ap (λ (x : List ℕ). front ++ (x ++ object)) w.are
    ∙ ap (λ (x : List ℕ). front ++ x) (append_assoc w.token w.body object) in
    let first : number_at text 24 ≡ w.number = ap (λ (x : List ℕ). number_at x 24) parts
    ∙ ap (λ (k : ℕ). number_at (front ++ (w.token ++ (w.body ++ object))) k) (sym front_is)
    ∙ number-token (due_of Serr).name w.number front w.token (w.body ++ object) refl w.twelve w.scan in
    nothing text object (60 + number_at text 24 + number_at text (36 + number_at text 24)) (no_bytes object none) (omega arith)
within_so_far Sout status err out bytes object text front c w =
    let len = c.len in
    let missing = w.missing in
    let none : length object ≡ 0 = w.kept in
    let long = ap length w.are ∙ length-append w.token w.body in
    let twelve = w.twelve in
    let first = err-len-sout status err out bytes object text front c in
    let front_is : length front ≡ 36 + length err =
    front_len reply_format four_reply [] (fields_before Sout status err out) front c.is_front ∙ fields_len-before Sout status err out in
    let parts : text ≡ front ++ (w.token ++ (w.body ++ object)) = c.parts ∙ ap (λ (x : List ℕ). front ++ (x ++ object)) w.are
    ∙ ap (λ (x : List ℕ). front ++ x) (append_assoc w.token w.body object) in
    let there : number_at text (36 + length err) ≡ w.number = ap (λ (x : List ℕ). number_at x (36 + length err)) parts
    ∙ ap (λ (k : ℕ). number_at (front ++ (w.token ++ (w.body ++ object))) k) (sym front_is)
    ∙ number-token (due_of Sout).name w.number front w.token (w.body ++ object) refl w.twelve w.scan in
    let second : number_at text (36 + number_at text 24) ≡ w.number = ap (λ (k : ℕ). number_at text (36 + k)) first ∙ there in
    nothing text object (60 + number_at text 24 + number_at text (36 + number_at text 24)) (no_bytes object none) (omega arith)
within_so_far (Doto beside) status err out bytes object text front c w =
    let bare : w.body ≡ [] = w.kept in
    let twelve = w.twelve in
    let first = err-len-doto beside status err out bytes object text front c in
    let second : number_at text (36 + number_at text 24) ≡ length out = ap (λ (k : ℕ). number_at text (36 + k)) first
    ∙ out-len beside status err out bytes object text front c in
    let front_is : length front ≡ 48 + length err + length out =
    front_len reply_format four_reply [] (fields_before (Doto beside) status err out) front c.is_front
    ∙ fields_len-before (Doto beside) status err out in
    let are : bytes ≡ w.token = w.are ∙ ap (λ (x : List ℕ). w.token ++ x) bare ∙ append-nil w.token in
    let parts : text ≡ (front ++ w.token) ++ object = c.parts ∙ ap (λ (x : List ℕ). front ++ (x ++ object)) are
    ∙ sym (append_assoc front w.token object) in
    let place : 60 + number_at text 24 + number_at text (36 + number_at text 24) ≡ length (front ++ w.token) =
    omega (arith, first, second, front_is, length-append front w.token) in
    sym (ap (λ (k : ℕ). drop k text) place ∙ ap (λ (x : List ℕ). drop (length (front ++ w.token)) x) parts
    ∙ drop-append_seam (front ++ w.token) object)

-- The bytes that were counted as the object's are those that stand in the text.
pub so_far : (p : Partial) → Holds p → (text object : List ℕ) → IsPlaced p text object → object ≡ object_so_far text
so_far p h text object g =
    let c = came p.part p.status p.err p.out (bytes_of p) object text g.progress in
    elim h.phase [
      | inl t ↦
          let few = t.token.partial in
          let bare = ap length t.no_body in
          begun_so_far p.part p.status p.err p.out (bytes_of p) object text g.progress.front c (record {
            few = omega (arith, length-append p.token p.body);
            none = nil_from_length object (g.given ∙ t.none_given);
          })
      | inr b ↦
          let missing = b.missing in
          let some = b.some_left in
          let given = g.given in
          within_so_far p.part p.status p.err p.out (bytes_of p) object text g.progress.front c (record {
            token = p.token;
            body = p.body;
            number = p.number;
            are = refl;
            twelve = b.token.whole;
            scan = b.token.number;
            missing = omega arith;
            kept = subst (IsKept p.part p.body) (sym g.given) b.kept;
          })
    ]
