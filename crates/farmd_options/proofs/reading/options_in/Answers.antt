use Rattle.std.proofs.Common.{string_bytes, Global, map, arith}
use Rattle.farmd_options.specs.declared.name.Kind.TheVariants.{Compiler, Rule, Tools}
use Rattle.farmd_options.proofs.Meaning.{few_counted}
use Rattle.farmd_options.proofs.reading.options_in.Goals as goal

pub overflow_cast-result : goal.overflow_cast-result
overflow_cast-result c = omega
    (arith, c.count_in.ensures.count, few_counted Compiler (map (string_bytes {Z = Global}) c.args.words.now) c.requires.0 c.requires.1)

pub overflow_cast-result-2 : goal.overflow_cast-result-2
overflow_cast-result-2 c =
    omega (arith, c.count_in-2.ensures.count, few_counted Rule (map (string_bytes {Z = Global}) c.args.words.now) c.requires.0 c.requires.1)

pub overflow_cast-result-3 : goal.overflow_cast-result-3
overflow_cast-result-3 c =
    omega (arith, c.count_in-3.ensures.count, few_counted Tools (map (string_bytes {Z = Global}) c.args.words.now) c.requires.0 c.requires.1)
