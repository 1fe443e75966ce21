use Rattle.std.proofs.Common.{◌∙◌, ap, drop, length, map, nat_eq, string_bytes, Global}
use Rattle.std.specs.Prelude.{◌&&◌}
use Rattle.std.specs.List.{list_any, starts_with}
use Rattle.allowed_options.specs.Folders.{is_in_tools, names_tools}
use Rattle.allowed_options.proofs.folders.names_tools.Goals as goal

pub returns : goal.returns
unfolding names_tools
returns c =
    let tools = map (string_bytes {Z = Global}) c.args.tools.now in
    let word = c.args.word.now in
    c.names_by.ensures
    ∙ ap (λ l. list_any (λ front. starts_with nat_eq word front.now && is_in_tools tools (drop (length front.now) word)) l) c.as_slice.ensures
