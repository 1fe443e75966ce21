use Rattle.std.proofs.Common.{◌∙◌, ap}
use Rattle.std.specs.Prelude.{bytes_eq}
use Rattle.std.specs.List.{list_any}
use Rattle.allowed_options.specs.Served.{is_target_name}
use Rattle.allowed_options.proofs.back_end.is_target_name.Goals as goal

pub returns : goal.returns
unfolding is_target_name
returns c = c.is_one.ensures ∙ ap (λ l. list_any (λ one. bytes_eq one.now c.args.word.now) l) c.as_slice.ensures
