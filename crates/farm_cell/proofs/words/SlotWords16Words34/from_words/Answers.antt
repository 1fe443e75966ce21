use Rattle.std.proofs.Common.{rules, arith, get_or, ◌<◌}
use Rattle.farm_cell.proofs.Back.{back, byte}
use Rattle.farm_cell.proofs.words.SlotWords16Words34.from_words.Goals as goal

pub overflow_cast-result-6 : goal.overflow_cast-result-6
overflow_cast-result-6 c = let h : get_or c.args.bits.now 5 0 < 256 =
    byte c.requires.0 c.args.bits.now (search rules) c.requires.1 3 (omega arith) in search rules

pub overflow_cast-result-7 : goal.overflow_cast-result-7
overflow_cast-result-7 c = let h : get_or c.args.bits.now 6 0 < 256 =
    byte c.requires.0 c.args.bits.now (search rules) c.requires.1 4 (omega arith) in search rules

pub overflow_cast-result-8 : goal.overflow_cast-result-8
overflow_cast-result-8 c = let h : get_or c.args.bits.now 7 0 < 256 =
    byte c.requires.0 c.args.bits.now (search rules) c.requires.1 5 (omega arith) in search rules

pub overflow_cast-result-9 : goal.overflow_cast-result-9
overflow_cast-result-9 c = let h : get_or c.args.bits.now 8 0 < 256 =
    byte c.requires.0 c.args.bits.now (search rules) c.requires.1 6 (omega arith) in search rules

pub overflow_cast-result-10 : goal.overflow_cast-result-10
overflow_cast-result-10 c = let h : get_or c.args.bits.now 9 0 < 256 =
    byte c.requires.0 c.args.bits.now (search rules) c.requires.1 7 (omega arith) in search rules

pub overflow_cast-result-11 : goal.overflow_cast-result-11
overflow_cast-result-11 c = let h : get_or c.args.bits.now 10 0 < 256 =
    byte c.requires.0 c.args.bits.now (search rules) c.requires.1 8 (omega arith) in search rules

pub overflow_cast-result-12 : goal.overflow_cast-result-12
overflow_cast-result-12 c = let h : get_or c.args.bits.now 11 0 < 256 =
    byte c.requires.0 c.args.bits.now (search rules) c.requires.1 9 (omega arith) in search rules

pub overflow_cast-result-13 : goal.overflow_cast-result-13
overflow_cast-result-13 c = let h : get_or c.args.bits.now 12 0 < 256 =
    byte c.requires.0 c.args.bits.now (search rules) c.requires.1 10 (omega arith) in search rules

pub overflow_cast-result-14 : goal.overflow_cast-result-14
overflow_cast-result-14 c = let h : get_or c.args.bits.now 13 0 < 256 =
    byte c.requires.0 c.args.bits.now (search rules) c.requires.1 11 (omega arith) in search rules

pub overflow_cast-result-15 : goal.overflow_cast-result-15
overflow_cast-result-15 c = let h : get_or c.args.bits.now 14 0 < 256 =
    byte c.requires.0 c.args.bits.now (search rules) c.requires.1 12 (omega arith) in search rules

pub overflow_cast-result-16 : goal.overflow_cast-result-16
overflow_cast-result-16 c = let h : get_or c.args.bits.now 15 0 < 256 =
    byte c.requires.0 c.args.bits.now (search rules) c.requires.1 13 (omega arith) in search rules

pub overflow_cast-result-17 : goal.overflow_cast-result-17
overflow_cast-result-17 c = let h : get_or c.args.bits.now 16 0 < 256 =
    byte c.requires.0 c.args.bits.now (search rules) c.requires.1 14 (omega arith) in search rules

pub overflow_cast-result-18 : goal.overflow_cast-result-18
overflow_cast-result-18 c = let h : get_or c.args.bits.now 17 0 < 256 =
    byte c.requires.0 c.args.bits.now (search rules) c.requires.1 15 (omega arith) in search rules

pub returns : goal.returns
returns c = λ x e. back x c.args.bits.now (search rules) e
