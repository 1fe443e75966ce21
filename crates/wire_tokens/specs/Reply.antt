-- Which texts spell an outcome, and what is wrong with a text.
use Rattle.std.specs.Prelude.{ℕ, ◌≡◌, List, [], ◌∷◌, ◌++◌, length, Option, Some, None, nat_le, ◌==◌, ◌||◌, true, false, if◌then◌else◌}
use Rattle.std.specs.Prelude.{codes}
use Rattle.farm_types.specs.Limits.{messages_max, object_max}
use Rattle.farm_types.specs.declared.ran.Outcome.{Outcome}
use Rattle.farm_types.specs.Fits.{OutcomeFits}
use Rattle.wire_tokens.specs.declared.faults.Which.TheVariants.{Serr, Sout, Doto}
use Rattle.wire_tokens.specs.declared.faults.ReplyFault.{ReplyFault}
use Rattle.wire_tokens.specs.declared.faults.ReplyFault.TheVariants.{WrongName, BadDigit, BadVersion, TooLarge, ObjectWithFailure}
use Rattle.wire_tokens.specs.Token.{IsToken, token}
use Rattle.wire_tokens.specs.Format.{Field, Due, Format, Stands}
use Rattle.wire_tokens.specs.Texts.{Begins, IsShort}

-- text spells the outcome
pub record SpellsReply (text : List ℕ) (o : Outcome) : Type 0 where
  pub fits : OutcomeFits o.status o.err o.out o.object
  pub done : List ℕ
  pub stat : List ℕ
  pub serr : List ℕ
  pub sout : List ℕ
  pub doto : List ℕ
  pub is_done : IsToken (codes "DONE") 1 done
  pub is_stat : IsToken (codes "STAT") o.status stat
  pub is_serr : IsToken (codes "SERR") (length o.err) serr
  pub is_sout : IsToken (codes "SOUT") (length o.out) sout
  pub is_doto : IsToken (codes "DOTO") (length o.object) doto
  pub parts : text ≡ done ++ (stat ++ (serr ++ (o.err ++ (sout ++ (o.out ++ (doto ++ o.object))))))

-- the spelling in lower-case digits
abbrev pub reply_text : Outcome → List ℕ
reply_text o =
    token (codes "DONE") 1 ++ (token (codes "STAT") o.status ++ (token (codes "SERR") (length o.err) ++ (o.err ++
    (token (codes "SOUT") (length o.out) ++ (o.out ++ (token (codes "DOTO") (length o.object) ++ o.object))))))

-- what is wrong with a number: of the version, of a length, and of the object's length beside a status
abbrev pub version_fault : ℕ → Option ReplyFault
version_fault n = if n == 1 then None else Some (BadVersion n)

abbrev pub err_fault : ℕ → Option ReplyFault
err_fault n = if nat_le n messages_max then None else Some (TooLarge Serr n)

abbrev pub out_fault : ℕ → Option ReplyFault
out_fault n = if nat_le n messages_max then None else Some (TooLarge Sout n)

abbrev pub object_fault : ℕ → ℕ → Option ReplyFault
object_fault status n =
    if nat_le n object_max then (if (status == 0) || (n == 0) then None else Some (ObjectWithFailure status n)) else Some (TooLarge Doto n)

-- what is due after some fields of a reply
abbrev pub reply_due : List Field → Option (Due ReplyFault)
reply_due [] = Some (record { name = codes "DONE"; has_body = false; refused = version_fault })
reply_due (done ∷ []) = Some (record { name = codes "STAT"; has_body = false; refused = λ _. None })
reply_due (done ∷ stat ∷ []) = Some (record { name = codes "SERR"; has_body = true; refused = err_fault })
reply_due (done ∷ stat ∷ serr ∷ []) = Some (record { name = codes "SOUT"; has_body = true; refused = out_fault })
reply_due (done ∷ stat ∷ serr ∷ sout ∷ []) = Some (record { name = codes "DOTO"; has_body = true; refused = object_fault stat.number })
reply_due (done ∷ stat ∷ serr ∷ sout ∷ doto ∷ more) = None

abbrev pub reply_format : Format ReplyFault
reply_format = record { due = reply_due; wrong_name = WrongName; bad_digit = BadDigit }

-- the first bytes of text, this many, spell the outcome
abbrev pub BeginsReply : List ℕ → ℕ → Outcome → Type 0
BeginsReply text used o = Begins SpellsReply text used o

-- text has this fault at this place
abbrev pub ReplyFaultStands : List ℕ → ℕ → ReplyFault → Type 0
ReplyFaultStands text at fault = Stands reply_format text at fault

-- text has no fault, and none of its prefixes spells an outcome
abbrev pub IsShortReply : List ℕ → Type 0
IsShortReply text = IsShort reply_format SpellsReply text
