-- How long a short text can be.
use Rattle.std.proofs.Common.{◌≡◌, ℕ, ◌+◌, ◌<◌, ◌≤◌, Bool, true, false, ltb, List, [], ◌∷◌, length, cond, Option, Some, None, subst, refl}
use Rattle.std.proofs.Common.{sym, ap, arith}
use Rattle.std.specs.Prelude.{nat_le}
use Rattle.std.proofs.lemmas.Bool.{leb-true, ltb-true}
use Rattle.std.proofs.lemmas.List.{length-append}
use Rattle.farm_types.specs.Limits.{messages_max, object_max}
use Rattle.wire_tokens.specs.declared.token.Scan.{Scan}
use Rattle.wire_tokens.specs.declared.token.Scan.TheVariants.{Number, WrongName, BadDigit, Short}
use Rattle.wire_tokens.specs.Scan.{scan_of}
use Rattle.wire_tokens.specs.Format.{Field, Due, Format, body_len, IsFront}
use Rattle.wire_tokens.specs.Step.{wants, numbered, scanned, step_of}
use Rattle.wire_tokens.specs.Reply.{reply_format, SpellsReply, IsShortReply}
use Rattle.wire_tokens.proofs.Tokens.{short-len}
use Rattle.wire_tokens.proofs.Readings.{short, Ends, front_of, front_len, fields_len}
use Rattle.wire_tokens.proofs.Texts.{short-reads}
use Rattle.wire_tokens.proofs.Fields.{due_is, due_again, plain, bodied, allowed, allowed_twice}
use Rattle.wire_tokens.proofs.Reply.{four_reply, reply_spelling}

wants_numbered : {F : Type 0} (due : Due F) (text : List ℕ) (n limit : ℕ) (o : Option F) (partial : Bool) → due.refused n ≡ o
    → ltb (length text) (12 + body_len due n) ≡ partial → ((m : ℕ) → due.refused m ≡ None → body_len due m ≤ limit)
    → numbered o partial n ≡ wants → length text < 12 + limit
wants_numbered due text n limit (Some f) p r l most e = absurd cc
wants_numbered due text n limit None true r l most e = let lt = ltb-true _ _ l in omega (arith, lt, most n r)
wants_numbered due text n limit None false r l most e = absurd cc

wants_scanned : {F : Type 0} (format : Format F) (due : Due F) (text : List ℕ) (limit : ℕ) (s : Scan) → scan_of due.name text ≡ s
    → ((m : ℕ) → due.refused m ≡ None → body_len due m ≤ limit) → scanned format due text s ≡ wants → length text < 12 + limit
wants_scanned format due text limit (WrongName k) is most e = absurd cc
wants_scanned format due text limit (BadDigit k) is most e = absurd cc
wants_scanned format due text limit Short is most e = omega (arith, short-len due.name text is)
wants_scanned format due text limit (Number n) is most e =
    wants_numbered due text n limit (due.refused n) (ltb (length text) (12 + body_len due n)) refl refl most e

-- what is too short for a field is shorter than the longest one
pub wants_len : {F : Type 0} (format : Format F) (due : Due F) (text : List ℕ) (limit : ℕ)
    → ((m : ℕ) → due.refused m ≡ None → body_len due m ≤ limit) → step_of format due text ≡ wants → length text < 12 + limit
unfolding step_of
wants_len format due text limit most e = wants_scanned format due text limit (scan_of due.name text) refl most e

pub last_len : {F : Type 0} (format : Format F) (due other : Due F) (rest : List ℕ) (limit : ℕ) → Some due ≡ Some other
    → step_of format other rest ≡ wants → ((m : ℕ) → due.refused m ≡ None → body_len due m ≤ limit) → length rest < 12 + limit
last_len {F} format due other rest limit e w most =
    wants_len format due rest limit most (subst (λ (d : Due F). step_of format d rest ≡ wants) (sym (due_is due other e)) w)

pub at_most : {F : Type 0} (m most : ℕ) (f : F) → cond (nat_le m most) None (Some f) ≡ None → m ≤ most
at_most m most f e = leb-true m most (allowed (nat_le m most) f e)

pub at_most_twice : {F : Type 0} (m most : ℕ) (b : Bool) (f g : F) → cond (nat_le m most) (cond b None (Some f)) (Some g) ≡ None → m ≤ most
at_most_twice m most b f g e = leb-true m most (allowed_twice (nat_le m most) b f g e).0

by_fields : (fields : List Field) (front rest : List ℕ) → IsFront reply_format [] fields front → Ends reply_format fields rest short
    → fields_len fields + length rest < 35651644
unfolding fields_len
by_fields [] front rest r e =
    let l = last_len reply_format _ e.0 rest 0 e.1 e.2 (λ m ok. omega arith) in
    omega (arith, l)
by_fields (a ∷ []) front rest r e =
    let pa = ap length (plain _ a r.1 refl (due_again _ r.0 a r.1 r.3 r.4)).1 in
    let l = last_len reply_format _ e.0 rest 0 e.1 e.2 (λ m ok. omega arith) in
    omega (arith, l, pa)
by_fields (a ∷ b ∷ []) front rest r e =
    let r2 = r.6 in
    let pa = ap length (plain _ a r.1 refl (due_again _ r.0 a r.1 r.3 r.4)).1 in
    let pb = ap length (plain _ b r2.1 refl (due_again _ r2.0 b r2.1 r2.3 r2.4)).1 in
    let l = last_len reply_format _ e.0 rest messages_max e.1 e.2 (λ m ok. at_most m messages_max _ ok) in
    omega (arith, l, pa, pb)
by_fields (a ∷ b ∷ c ∷ []) front rest r e =
    let r2 = r.6 in
    let r3 = r2.6 in
    let pa = ap length (plain _ a r.1 refl (due_again _ r.0 a r.1 r.3 r.4)).1 in
    let pb = ap length (plain _ b r2.1 refl (due_again _ r2.0 b r2.1 r2.3 r2.4)).1 in
    let fc = due_again _ r3.0 c r3.1 r3.3 r3.4 in
    let kc = bodied _ c r3.1 refl fc in
    let mc = at_most c.number messages_max _ fc.right in
    let l = last_len reply_format _ e.0 rest messages_max e.1 e.2 (λ m ok. at_most m messages_max _ ok) in
    omega (arith, l, pa, pb, kc, mc)
by_fields (a ∷ b ∷ c ∷ d ∷ []) front rest r e =
    let r2 = r.6 in
    let r3 = r2.6 in
    let r4 = r3.6 in
    let pa = ap length (plain _ a r.1 refl (due_again _ r.0 a r.1 r.3 r.4)).1 in
    let pb = ap length (plain _ b r2.1 refl (due_again _ r2.0 b r2.1 r2.3 r2.4)).1 in
    let fc = due_again _ r3.0 c r3.1 r3.3 r3.4 in
    let fd = due_again _ r4.0 d r4.1 r4.3 r4.4 in
    let kc = bodied _ c r3.1 refl fc in
    let kd = bodied _ d r4.1 refl fd in
    let mc = at_most c.number messages_max _ fc.right in
    let md = at_most d.number messages_max _ fd.right in
    let l = last_len reply_format _ e.0 rest object_max e.1 e.2 (λ m ok. at_most_twice m object_max _ _ _ ok) in
    omega (arith, l, pa, pb, kc, mc, kd, md)
by_fields (a ∷ b ∷ c ∷ d ∷ f ∷ more) front rest r e = let no = e.1 in absurd cc

-- A short text of a reply has at most 35,651,643 bytes.
pub short_reply_len : (text : List ℕ) → IsShortReply text → length text ≤ 35651643
short_reply_len text h =
    let r = short-reads reply_format SpellsReply reply_spelling text h in
    let z = front_of reply_format [] text r.0 short r.1 in
    let l = by_fields r.0 z.0 z.1 z.2 z.4 in
    omega (arith, l, ap length z.3, length-append z.0 z.1, front_len reply_format four_reply [] r.0 z.0 z.2)
