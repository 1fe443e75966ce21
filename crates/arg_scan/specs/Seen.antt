-- What was seen of a command's words, and how one more word adds to it.
use Rattle.std.specs.Prelude.{ℕ, not, ◌||◌, ◌&&◌, List, ◌++◌, Option, None, Some, is_some, unwrap_or, if◌then◌else◌}
use Rattle.std.specs.List.{slice_get}
use Rattle.std.specs.Option.{option_map, option_or}
use Rattle.arg_scan.specs.declared.names.Ending.TheVariants.{C}
use Rattle.arg_scan.specs.declared.part.Part.{Part}
use Rattle.arg_scan.specs.declared.why.Why.{Why}
use Rattle.arg_scan.specs.declared.why.Why.TheVariants as why
use Rattle.arg_scan.specs.declared.verdict.Action.TheVariants.{Compile, Assemble}
use Rattle.arg_scan.specs.declared.verdict.OutputPlace.{OutputPlace}
use Rattle.arg_scan.specs.declared.verdict.Plan.{Plan}
use Rattle.arg_scan.specs.declared.verdict.Verdict.{Verdict}
use Rattle.arg_scan.specs.declared.verdict.Verdict.TheVariants as verdict
use Rattle.arg_scan.specs.declared.seen.Input.{Input}
use Rattle.arg_scan.specs.declared.seen.Seen.{Seen}
use Rattle.arg_scan.specs.Roles.{part_at}
use Rattle.arg_scan.specs.Forces.{first_below, any_below, when, source_of, is_source, names_output, is_output_option, action_of}
use Rattle.arg_scan.specs.Forces.{asks_compile, asks_assemble, compiles, assembles}
use Rattle.arg_scan.specs.Class.{output_place, by_end}

abbrev pub input_of : Part → ℕ → Option Input
input_of part at = option_map (λ ending. record { at = at; ending = ending }) (source_of part)

abbrev pub output_of : Part → ℕ → Option OutputPlace
output_of part at = if names_output part then Some (output_place part at) else None

-- what was seen, with the word of this part at this place
abbrev pub noted : Part → ℕ → List ℕ → Seen → Seen
noted part at word seen = record {
  compile = seen.compile || asks_compile (action_of part word);
  assemble = seen.assemble || asks_assemble (action_of part word);
  source = option_or seen.source (input_of part at);
  output = option_or seen.output (output_of part at);
}

-- what the first n words show
abbrev pub seen_below : List (List ℕ) → ℕ → Seen
seen_below words n = record {
  compile = any_below (compiles words) n;
  assemble = any_below (assembles words) n;
  source = option_map (λ at. record { at = at; ending = unwrap_or (source_of (part_at words at)) C }) (first_below (is_source words) n);
  output = option_map (λ at. output_place (part_at words at) at) (first_below (is_output_option words) n);
}

abbrev pub seen_reasons : Seen → List Why
seen_reasons seen =
    when (not (seen.compile || seen.assemble)) why.NoAction
    ++ when (seen.compile && seen.assemble) why.BothActions
    ++ when (not (is_some seen.source)) why.NoInput

abbrev pub seen_plan : Seen → Plan
seen_plan seen =
    let input = unwrap_or seen.source (record { at = 0; ending = C }) in
    record {
      action = if seen.assemble then Assemble else Compile;
      input = input.at;
      ending = input.ending;
      output = seen.output;
    }

-- the class of a command of this many words, after this was seen of them
abbrev pub final_verdict : Seen → ℕ → Verdict
final_verdict seen len = by_end (slice_get (seen_reasons seen) 0) len (verdict.Remote (seen_plan seen))
