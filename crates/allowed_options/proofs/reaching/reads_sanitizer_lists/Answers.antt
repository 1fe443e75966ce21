use Rattle.std.proofs.Common.{◌∙◌, ap, nat_eq}
use Rattle.std.specs.List.{list_any, starts_with}
use Rattle.allowed_options.specs.Served.{reads_sanitizer_lists}
use Rattle.allowed_options.proofs.reaching.reads_sanitizer_lists.Goals as goal

pub returns : goal.returns
unfolding reads_sanitizer_lists
returns c = c.begins.ensures ∙ ap (λ l. list_any (λ front. starts_with nat_eq c.args.word.now front.now) l) c.as_slice.ensures
