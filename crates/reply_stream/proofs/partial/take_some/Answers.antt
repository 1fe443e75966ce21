use Rattle.std.proofs.Common.{get_or, refl}
use Rattle.reply_stream.proofs.Bytewise.{one_byte}
use Rattle.reply_stream.proofs.partial.take_some.Goals as goal

pub returns-else-p-gt0-clause-says : goal.returns-else-p-gt0-clause-says
returns-else-p-gt0-clause-says c =
    one_byte c.args.p.now c.token_byte.new.p c.args.piece.now (get_or c.args.piece.now 0 0) c.token_byte.result c.requires.some refl
    c.token_byte.ensures.says
