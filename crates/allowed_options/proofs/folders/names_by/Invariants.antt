use Rattle.std.proofs.Common.{◌≡◌, ℕ, Bool, List, drop, length, map, nat_eq, string_bytes, Global}
use Rattle.std.specs.Prelude.{◌&&◌}
use Rattle.std.specs.List.{list_any, starts_with}
use Rattle.allowed_options.specs.Folders.{is_in_tools}
use Rattle.allowed_options.proofs.folders.names_by.Given as goal

abbrev names : List (List ℕ) → List ℕ → List ℕ → Bool
names tools word front = starts_with nat_eq word front && is_in_tools tools (drop (length front) word)

abbrev pub invariant-loop-front : goal.invariant-loop-front
invariant-loop-front l =
    list_any (λ front. names (map (string_bytes {Z = Global}) l.tools) l.word front.now) (drop l.front-index l.fronts)
    ≡ list_any (λ front. names (map (string_bytes {Z = Global}) l.tools) l.word front.now) l.fronts
