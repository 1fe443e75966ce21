use Rattle.std.proofs.Common.{◌≡◌, ℕ, List, Result, Ok, Err, sym, subst}
use Rattle.farm_types.specs.declared.ran.Outcome.{Outcome}
use Rattle.wire_tokens.specs.declared.faults.ReplyFault.{ReplyFault}
use Rattle.wire_tokens.specs.Step.{Stop as Stopped, too_short, wrong}
use Rattle.wire_tokens.specs.Reply.{reply_format, SpellsReply, BeginsReply}
use Rattle.wire_tokens.proofs.Progress.{Answers}
use Rattle.wire_tokens.proofs.Texts.{reads-short}
use Rattle.wire_tokens.proofs.Reply.{reply_spelling}
use Rattle.compile_reply.specs.declared.decoding.Stop.{Stop}
use Rattle.compile_reply.specs.declared.decoding.Stop.TheVariants.{Short, Bad}
use Rattle.compile_reply.specs.declared.decoding.Reply.{Reply}
use Rattle.compile_reply.specs.declared.decoding.Reply.TheVariants as answers
use Rattle.compile_reply.specs.Decoding.{Fails, Says, IsWholeUnlessMemory, outcome_in, stop_reply, reply_of}
use Rattle.compile_reply.proofs.Decoded.{decoded, Good}
use Rattle.compile_reply.proofs.decoding.said.Goals as goal

answer : (text : List ℕ) (r : Result (Outcome × ℕ) (Stopped ReplyFault)) → reply_of text ≡ r → Answers reply_format (Good text) text r
answer text r e = subst (Answers reply_format (Good text) text) e (decoded text)

says_whole : (text : List ℕ) (o : Outcome) (used : ℕ) (reply : Reply) → BeginsReply text used o → IsWholeUnlessMemory o used reply
    → Says text reply
says_whole text o used (answers.Whole p n) begins is = subst (λ (y : Outcome × ℕ). BeginsReply text y.1 y.0) (cc) begins
says_whole text o used answers.Short begins is = absurd is
says_whole text o used (answers.Bad at fault) begins is = absurd is
says_whole text o used answers.Memory begins is = record { used = used; outcome = o; begins = begins }

says_stop : (text : List ℕ) (stop : Stop) → Fails stop (reply_of text) → Says text (stop_reply stop)
says_stop text Short fails = let z = answer text (Err too_short) fails in reads-short reply_format SpellsReply reply_spelling text z.0 z.1
says_stop text (Bad at fault) fails = answer text (Err (wrong at fault)) fails

pub returns-in-Ok : goal.returns-in-Ok
returns-in-Ok c =
    let y : Outcome × ℕ = outcome_in c.in-Ok.parts in
    says_whole c.args.text.now y.0 y.1 c.whole.result (answer c.args.text.now (Ok y) c.in-Ok.ensures) c.whole.ensures

pub returns-in-Err : goal.returns-in-Err
returns-in-Err c = subst (Says c.args.text.now) (sym c.stopped.ensures) (says_stop c.args.text.now c.in-Err.stop c.in-Err.ensures)
