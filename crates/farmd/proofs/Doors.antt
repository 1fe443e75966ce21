-- How many doors the words ask for.
use Rattle.std.proofs.Common.{◌≡◌, ℕ, ◌≤◌, List, ap, subst, sym, arith}
use Rattle.std.specs.Prelude.{Option, Some, None, IfSome, unwrap_or}
use Rattle.farm_types.specs.Limits.{workers_default, workers_max}
use Rattle.farmd_options.specs.declared.command.Command.{Command}
use Rattle.farmd_options.specs.declared.command.Command.TheVariants.{Help, Version, Serve}
use Rattle.farmd_options.specs.declared.command.DoorPlace.{DoorPlace}
use Rattle.farmd_options.specs.Options.{IsWithin}
use Rattle.farmd_options.specs.Commands.{IsCommand, place_of}
use Rattle.farmd_options.proofs.Meaning.{right_numbers}

few_or : (given : Option ℕ) → IsWithin 1 workers_max given → unwrap_or given workers_default ≤ workers_max
few_or None within = omega arith
few_or (Some n) within = within.1

few_of : (words : List (List ℕ)) (command : Command) → IsCommand words command → (place_of command).doors ≤ workers_max
few_of words Help is = omega arith
few_of words Version is = omega arith
few_of words (Serve options) is = few_or options.jobs (right_numbers words options is).jobs

pub few_doors : (words : List (List ℕ)) (place : Option DoorPlace)
    → IfSome place (λ place. (command : Command) × IsCommand words command × (place ≡ place_of command))
    → IfSome place (λ place. place.doors ≤ workers_max)
few_doors words None some = tt
few_doors words (Some place) some = subst (λ p. p.doors ≤ workers_max) (sym some.2) (few_of words some.0 some.1)
