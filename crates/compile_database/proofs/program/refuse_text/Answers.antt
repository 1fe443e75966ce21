use Rattle.std.proofs.Common.{◌∙◌, inl}
use Rattle.compile_database.proofs.Telling.{refused_by}
use Rattle.compile_database.proofs.program.refuse_text.Goals as goal

pub returns-in-Ok : goal.returns-in-Ok
returns-in-Ok g c = inl (refused_by (c.as_bytes.ensures.value ∙ c.in-Ok.ensures.ok) c.complain.ensures)
