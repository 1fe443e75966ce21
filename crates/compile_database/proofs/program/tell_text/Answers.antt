use Rattle.std.proofs.Common.{inl}
use Rattle.compile_database.proofs.Telling.{told_by}
use Rattle.compile_database.proofs.program.tell_text.Goals as goal

pub returns-in-Ok : goal.returns-in-Ok
returns-in-Ok g c = inl (told_by c.in-Ok.ensures c.tell.ensures)
