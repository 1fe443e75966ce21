use Rattle.std.proofs.Common.{sym, subst}
use Rattle.std.specs.Option.{option_copied}
use Rattle.farmd_options.specs.declared.name.OptionName.TheVariants.{Listen}
use Rattle.farmd_options.specs.Options.{GivenBy}
use Rattle.farmd_options.proofs.Meaning.{given_read}
use Rattle.farmd_options.proofs.reading.listen_in.Goals as goal

pub returns-in-Some : goal.returns-in-Some
returns-in-Some c = subst (λ value. GivenBy Listen (option_copied value) c.read_listen.result) (sym c.in-Some.is)
    (given_read Listen c.in-Some.word.now c.as_bytes.result.now c.read_listen.result c.as_bytes.ensures.value
    c.read_listen.ensures.found c.read_listen.ensures.none)
