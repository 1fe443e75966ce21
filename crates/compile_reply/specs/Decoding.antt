-- Decoding field by field.
use Rattle.std.specs.Prelude.{ℕ, ◌≡◌, ◌-◌, List, length, true, false, None, Result, Ok, Err, codes}
use Rattle.farm_types.specs.declared.ran.Outcome.{Outcome}
use Rattle.wire_tokens.specs.declared.faults.ReplyFault.{ReplyFault}
use Rattle.wire_tokens.specs.Format.{Field, Due}
use Rattle.wire_tokens.specs.Step.{Stop as Stopped, too_short, wrong, next_of, ◌>>=◌}
use Rattle.wire_tokens.specs.Reply.{version_fault, err_fault, out_fault, object_fault, reply_format, BeginsReply, IsShortReply}
use Rattle.wire_tokens.specs.Reply.{ReplyFaultStands}
use Rattle.compile_reply.specs.declared.part.Part.{Part}
use Rattle.compile_reply.specs.declared.part.Part.TheVariants.{Done, Stat, Serr, Sout, Doto}
use Rattle.compile_reply.specs.declared.decoding.Parts.{Parts}
use Rattle.compile_reply.specs.declared.decoding.Stop.{Stop}
use Rattle.compile_reply.specs.declared.decoding.Stop.TheVariants as stops
use Rattle.compile_reply.specs.declared.decoding.Reply.{Reply}
use Rattle.compile_reply.specs.declared.decoding.Reply.TheVariants as answers

-- the text begins with a whole reply
pub record HoldsReply (text : List ℕ) : Type 0 where
  pub used : ℕ
  pub outcome : Outcome
  pub begins : BeginsReply text used outcome

-- What each result says of a text. Memory may run out only for one that begins with a whole reply.
abbrev pub Says : List ℕ → Reply → Type 0
Says text (answers.Whole outcome used) = BeginsReply text used outcome
Says text answers.Short = IsShortReply text
Says text (answers.Bad at fault) = ReplyFaultStands text at fault
Says text answers.Memory = HoldsReply text

-- The result is this outcome with this many bytes, unless memory ran out.
abbrev pub IsWholeUnlessMemory : Outcome → ℕ → Reply → Type 0
IsWholeUnlessMemory outcome used (answers.Whole o n) = (o ≡ outcome) × (n ≡ used)
IsWholeUnlessMemory outcome used answers.Short = ⊥
IsWholeUnlessMemory outcome used (answers.Bad at fault) = ⊥
IsWholeUnlessMemory outcome used answers.Memory = Unit {0}

-- the token that is due at a part
abbrev pub due_of : Part → Due ReplyFault
due_of Done = record { name = codes "DONE"; has_body = false; refused = version_fault }
due_of Stat = record { name = codes "STAT"; has_body = false; refused = λ _. None }
due_of Serr = record { name = codes "SERR"; has_body = true; refused = err_fault }
due_of Sout = record { name = codes "SOUT"; has_body = true; refused = out_fault }
due_of (Doto status) = record { name = codes "DOTO"; has_body = true; refused = object_fault status }

-- What a function returned, seen by view, is what reading gives.
abbrev pub Fails : {Y : Type 0} → Stop → Result Y (Stopped ReplyFault) → Type 0
Fails stops.Short read = read ≡ Err too_short
Fails (stops.Bad at fault) read = read ≡ Err (wrong at fault)

abbrev pub stop_reply : Stop → Reply
stop_reply stops.Short = answers.Short
stop_reply (stops.Bad at fault) = answers.Bad at fault

abbrev pub Gives : {X Y : Type 0} → (X → Y) → Result X Stop → Result Y (Stopped ReplyFault) → Type 0
Gives view (Ok x) read = read ≡ Ok (view x)
Gives view (Err e) read = Fails e read

abbrev pub field_of : ℕ → List ℕ → Field
field_of n bytes = record { number = n; body = bytes }

-- the outcome of these parts, and how many bytes they are
abbrev pub outcome_in : Parts → Outcome × ℕ
outcome_in parts = (record { status = parts.status; err = parts.err.now; out = parts.out.now; object = parts.object.now }, parts.used)

-- the outcome at the front of a text, and how many bytes spell it
unfoldable pub reply_of : List ℕ → Result (Outcome × ℕ) (Stopped ReplyFault)
reply_of text = do
  done ← next_of reply_format text (due_of Done) text
  stat ← next_of reply_format text (due_of Stat) done.1
  serr ← next_of reply_format text (due_of Serr) stat.1
  sout ← next_of reply_format text (due_of Sout) serr.1
  doto ← next_of reply_format text (due_of (Doto stat.0.number)) sout.1
  Ok (record { status = stat.0.number; err = serr.0.body; out = sout.0.body; object = doto.0.body }, length text - length doto.1)
