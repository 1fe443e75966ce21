-- Words leave one run.
use Rattle.std.proofs.Common.{◌≡◌, ℕ, List, true, false, ap, sym, ◌∙◌, refl, subst, inl, inr}
use Rattle.std.specs.Prelude.{◌⊎◌, Option, Some, None, Result, Ok, Err, IfOk}
use Rattle.farm_types.specs.declared.ran.Ran.{Ran}
use Rattle.sample_lang.specs.declared.program.Item.{Item}
use Rattle.file_map.specs.FileMaps.{Files}
use Rattle.sample_lang.specs.Sources.{SourceOf, FaultStands}
use Rattle.sample_compiler.specs.declared.stops.ExpandFault.{ExpandFault}
use Rattle.sample_compiler.specs.declared.stops.ExpandStop.{ExpandStop}
use Rattle.sample_compiler.specs.declared.stops.ExpandStop.TheVariants.{Fault, Unknown}
use Rattle.sample_compiler.specs.Lookups.{Agrees, Stopped}
use Rattle.sample_compiler.specs.declared.task.Product.{Product}
use Rattle.sample_compiler.specs.declared.task.Product.TheVariants.{Text, Object}
use Rattle.sample_compiler.specs.declared.task.Task.{Task}
use Rattle.sample_compiler.specs.Samples.{CompilesTo, LeftBy, LeavesAsked, task_text, printed, made, failed, expand_message, bad_words}

-- each text is one source or has one fault
pub record OneReading : Type 0 where
  pub some : (text : List ℕ) → ((items : List Item) × SourceOf text items)
      ⊎ ((line : ℕ) × (message : List ℕ) × FaultStands text line message)
  pub source : (text : List ℕ) (one other : List Item) → SourceOf text one → SourceOf text other → one ≡ other
  pub apart : (text : List ℕ) (items : List Item) (line : ℕ) (message : List ℕ) → SourceOf text items → FaultStands text line message → ⊥
  pub fault : (text : List ℕ) (line there : ℕ) (message other : List ℕ) → FaultStands text line message
      → FaultStands text there other → (line ≡ there) × (message ≡ other)

some_compiled : (text : List ℕ) → ((items : List Item) × SourceOf text items)
    ⊎ ((line : ℕ) × (message : List ℕ) × FaultStands text line message) → (ran : Ran) × CompilesTo text ran
some_compiled text (inl (items, source)) = (made items, inl (items, source, refl))
some_compiled text (inr (line, message, fault)) = (failed line message, inr (line, message, fault, refl))

some_left : OneReading → (product : Product) (text : Result (List ℕ) (ℕ × ExpandFault)) → (ran : Ran) × LeftBy product text ran
some_left law product (Err fault) = (failed fault.0 (expand_message fault.1), refl)
some_left law Text (Ok text) = (printed text, refl)
some_left law (Object output) (Ok text) = some_compiled text (law.some text)

some_asked : OneReading → (files : Files) (asked : Option Task) → (ran : Ran) × LeavesAsked files asked ran
some_asked law files None = (bad_words, refl)
some_asked law files (Some task) = some_left law task.product (task_text files task)

same_failed : (line there : ℕ) (message other : List ℕ) → (line ≡ there) × (message ≡ other) → failed line message ≡ failed there other
same_failed line there message other same = ap (λ l. failed l message) same.0 ∙ ap (λ m. failed there m) same.1

one_compiled : OneReading → (text : List ℕ) (ran other : Ran) → CompilesTo text ran → CompilesTo text other → ran ≡ other
one_compiled law text ran other (inl (items, source, is)) (inl (others, again, also)) =
    is ∙ ap made (law.source text items others source again) ∙ sym also
one_compiled law text ran other (inl (items, source, is)) (inr (line, message, fault, also)) =
    absurd (law.apart text items line message source fault)
one_compiled law text ran other (inr (line, message, fault, is)) (inl (items, source, also)) =
    absurd (law.apart text items line message source fault)
one_compiled law text ran other (inr (line, message, fault, is)) (inr (there, words, again, also)) =
    is ∙ same_failed line there message words (law.fault text line there message words fault again) ∙ sym also

one_left : OneReading → (product : Product) (text : Result (List ℕ) (ℕ × ExpandFault)) (ran other : Ran) → LeftBy product text ran
    → LeftBy product text other → ran ≡ other
one_left law product (Err fault) ran other is also = is ∙ sym also
one_left law Text (Ok text) ran other is also = is ∙ sym also
one_left law (Object output) (Ok text) ran other is also = one_compiled law text ran other is also

one_asked : OneReading → (files : Files) (asked : Option Task) (ran other : Ran) → LeavesAsked files asked ran
    → LeavesAsked files asked other → ran ≡ other
one_asked law files None ran other is also = is ∙ sym also
one_asked law files (Some task) ran other is also = one_left law task.product (task_text files task) ran other is also

pub some_run : OneReading → (files : Files) (asked : Option Task) → (ran : Ran) × LeavesAsked files asked ran
some_run = some_asked

pub one_run : OneReading → (files : Files) (asked : Option Task) (ran other : Ran) → LeavesAsked files asked ran
    → LeavesAsked files asked other → ran ≡ other
one_run = one_asked

-- all files are known
pub whole_agrees : (files : Files) (absent : List (List ℕ)) → Agrees files absent true files
whole_agrees files absent = record { there = λ path content h. h; gone = λ path h listed. h }

-- a fault was told
pub left_fault : {E : Type 0} (files : Files) (task : Task) (line : ℕ) (fault : ExpandFault) (stop : ExpandStop) (result : Result Ran E)
    → Stopped true (task_text files task) stop → stop ≡ Fault line fault → IfOk result (λ ran. ran ≡ failed line (expand_message fault))
    → IfOk result (LeftBy task.product (task_text files task))
left_fault files task line fault stop result stopped is said =
    let came : task_text files task ≡ Err (line, fault) = subst (λ s. Stopped true (task_text files task) s) is stopped in
    subst (λ text. IfOk result (LeftBy task.product text)) (sym came) said

-- a whole map stops no lookup
pub none_unknown : {A : Type 0} (outcome : Result A (ℕ × ExpandFault)) (path : List ℕ) (stop : ExpandStop)
    → Stopped true outcome stop → stop ≡ Unknown path → ⊥
none_unknown outcome path stop stopped is =
    let no : true ≡ false = subst (λ s. Stopped true outcome s) is stopped in
    cc
