-- Which words of a request a station runs, by the words of `farmd`.
use Rattle.std.specs.Prelude.{◌≡◌, ◌≢◌, ℕ, true, false, List}
use Rattle.farmd_options.specs.Commands.{settings_of, trusts}
use Rattle.farmd_options.specs.Tables.{tools_of}
use Rattle.edge_programs.specs.Serving.{tools_in}
use Rattle.edge_programs.specs.declared.child.WordPolicy.{WordPolicy}
use Rattle.edge_programs.specs.declared.child.WordPolicy.TheVariants.{AllWords}

-- All words with `--trust-options`. Else those that are let through, which may name the folders of `--tools`.
pub record IsPolicyFor (words : List (List ℕ)) (policy : WordPolicy) : Type 0 where
  pub trusted : trusts words ≡ true → policy ≡ AllWords
  pub tested : trusts words ≡ false → policy ≢ AllWords
  pub tools : trusts words ≡ false → tools_in policy ≡ tools_of (settings_of words)
