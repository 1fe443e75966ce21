use Rattle.std.proofs.Common.{◌∙◌, ap, nat_eq}
use Rattle.std.specs.List.{list_any, starts_with}
use Rattle.allowed_options.specs.Served.{has_path_front}
use Rattle.allowed_options.proofs.spellings.has_path_front.Goals as goal

pub returns : goal.returns
unfolding has_path_front
returns c = c.begins.ensures ∙ ap (λ l. list_any (λ front. starts_with nat_eq c.args.word.now front.now) l) c.as_slice.ensures
