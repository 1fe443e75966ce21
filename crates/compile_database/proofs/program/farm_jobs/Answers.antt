use Rattle.std.proofs.Common.{sym, ◌∙◌}
use Rattle.compile_database.specs.Selections.{choice_of}
use Rattle.compile_database.specs.Programs.{listed}
use Rattle.compile_database.proofs.Listed.{heard, misheard}
use Rattle.compile_database.proofs.program.farm_jobs.Goals as goal

pub returns-in-Some : goal.returns-in-Some
returns-in-Some g c = heard c.in-Some.ask (sym c.asked.ensures ∙ c.in-Some.is) c.text_of.ensures c.tell_text.ensures

pub returns-in-Ok : goal.returns-in-Ok
returns-in-Ok g c = listed (choice_of c.in-Ok.selection) (sym c.asked.ensures ∙ c.in_default.is) c.in-Ok.ensures.ok c.list_input.ensures

pub returns-in-Err : goal.returns-in-Err
returns-in-Err g c = misheard c.in-Err.place (sym c.asked.ensures ∙ c.in_default.is) c.in-Err.ensures.err c.refuse_words.ensures
