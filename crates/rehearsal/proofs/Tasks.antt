-- What the words of the workload's commands ask the compiler for.
use Rattle.std.proofs.Common.{◌≡◌, ℕ, false, List, [], ◌∷◌, refl}
use Rattle.std.specs.Prelude.{codes, Some}
use Rattle.option_table.specs.Scc.{scc_rows}
use Rattle.arg_scan.specs.Names.{is_reserved}
use Rattle.arg_scan.specs.declared.verdict.Action.TheVariants.{Compile}
use Rattle.sample_compiler.specs.declared.meaning.Command.TheVariants.{Expand, Build}
use Rattle.sample_compiler.specs.declared.meaning.Sign.TheVariants as sign
use Rattle.sample_compiler.specs.declared.meaning.Meaning.TheVariants as meaning
use Rattle.sample_compiler.specs.declared.meaning.Reading.TheVariants.{Whole, Awaits}
use Rattle.sample_compiler.specs.declared.task.Product.{Product}
use Rattle.sample_compiler.specs.declared.task.Product.TheVariants as product
use Rattle.sample_compiler.specs.declared.task.Task.{Task}
use Rattle.sample_compiler.specs.Meanings.{reading_of}
use Rattle.sample_compiler.specs.Tasks.{task_of}
use Rattle.rehearsal.proofs.Plain.{plain}

compile_reading : reading_of (codes "-c") ≡ Whole (meaning.Command (Build Compile))
unfolding reading_of scc_rows
compile_reading = refl

expand_reading : reading_of (codes "-E") ≡ Whole (meaning.Command Expand)
unfolding reading_of scc_rows
expand_reading = refl

output_reading : reading_of (codes "-o") ≡ Awaits sign.Output
unfolding reading_of scc_rows
output_reading = refl

-- a name that begins with `j`, and the station's own input, are inputs
pub name_reading : (rest : List ℕ) → reading_of (106 ∷ rest) ≡ Whole (meaning.Input (106 ∷ rest))
unfolding reading_of scc_rows
name_reading rest = refl

pub own_reading : (rest : List ℕ) → reading_of (0 ∷ rest) ≡ Whole (meaning.Input (0 ∷ rest))
unfolding reading_of scc_rows
own_reading rest = refl

abbrev pub task_for : Product → List ℕ → Task
task_for product input = record { product = product; input = input; dirs = []; defines = [] }

pub compile_task : (s o : List ℕ) → reading_of s ≡ Whole (meaning.Input s) → is_reserved o ≡ false
    → task_of (plain s o) ≡ Some (task_for (product.Object o) s)
unfolding task_of
compile_task s o is plain_name = rw (compile_reading, is, output_reading, plain_name) refl

pub expand_task : (s : List ℕ) → reading_of s ≡ Whole (meaning.Input s)
    → task_of (codes "scc" ∷ codes "-E" ∷ s ∷ []) ≡ Some (task_for product.Text s)
unfolding task_of
expand_task s is = rw (expand_reading, is) refl
