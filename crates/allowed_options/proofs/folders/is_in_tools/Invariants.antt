use Rattle.std.proofs.Common.{◌≡◌, drop, map, string_bytes, Global}
use Rattle.std.specs.List.{list_any}
use Rattle.allowed_options.specs.Folders.{is_below}
use Rattle.allowed_options.proofs.folders.is_in_tools.Given as goal

abbrev pub invariant-loop-tool : goal.invariant-loop-tool
invariant-loop-tool l =
    list_any (λ tool. is_below tool l.path) (map (string_bytes {Z = Global}) (drop l.tool-index l.tools))
    ≡ list_any (λ tool. is_below tool l.path) (map (string_bytes {Z = Global}) l.tools)
