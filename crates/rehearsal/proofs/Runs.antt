-- What the runs of the workload's commands leave at a station over the workload's files.
use Rattle.std.proofs.Common.{◌≡◌, ℕ, ◌<◌, ◌≤◌, ◌^◌, Bool, false, cond, List, [], ◌∷◌, ◌++◌, Ok, refl, sym, ap, ◌∙◌, subst, arith}
use Rattle.std.specs.Prelude.{codes, Some, map, nat_eq, if◌then◌else◌}
use Rattle.std.specs.Fmt.{decimal}
use Rattle.std.specs.FinMap.{get, insert, get-insert}
use Rattle.std.specs.Cmp.Lexicographic.{nat_list_cmp_total, texts_ties}
use Rattle.farm_types.specs.Limits.{jobs_max}
use lib.Pointwise.{pointwise}
use Rattle.farm_types.specs.declared.ran.Ran.{Ran}
use Rattle.farm_types.specs.declared.placed.Word.{Word}
use Rattle.farm_types.specs.declared.placed.Word.TheVariants.{Text, Input, Output}
use Rattle.farm_types.specs.declared.placed.Ext.TheVariants.{I}
use Rattle.arg_strip.specs.Words.{stripped, placed_words, preprocessing_words}
use Rattle.file_map.specs.FileMaps.{Files}
use Rattle.sample_compiler.specs.declared.task.Product.{Product}
use Rattle.sample_compiler.specs.declared.task.Product.TheVariants as product
use Rattle.sample_compiler.specs.declared.task.Task.{Task}
use Rattle.sample_compiler.specs.Tasks.{task_of}
use Rattle.sample_compiler.specs.Samples.{CompilesTo, LeftBy, LeavesAsked, SampleOf, task_text, content_text, expanded_text, text_of}
use Rattle.sample_compiler.specs.Samples.{printed, is_ready}
use Rattle.sample_compiler.specs.Stations.{own_input, own_output, with_input, asked_by, as_left, without_object, StationRan}
use Rattle.workload.specs.Loads.{job_source, job_object, factor_of, generator_after, job_words, files_of}
use Rattle.rehearsal.specs.WorkloadRuns.{text_of_job, IsSent}
use Rattle.rehearsal.proofs.Plain.{plain, remote, raw_source, sent, placed, preprocessing}
use Rattle.rehearsal.proofs.Names.{are_plain, unreserved, unready}
use Rattle.rehearsal.proofs.Expands.{source_expands}
use Rattle.rehearsal.proofs.Tasks.{name_reading, own_reading, task_for, compile_task, expand_task}

-- each job has its own source among the files
abbrev pub OneFileLaw : Type 0
OneFileLaw = (n job : ℕ) → n ≤ jobs_max → 1 ≤ job → job ≤ n → get (files_of n) (job_source job) ≡ Some (text_of_job n job)

-- ---- the files at a station

at_put : (files : Files) (path bytes q : List ℕ)
    → get (insert files path bytes) q ≡ cond (pointwise nat_eq q path) (Some bytes) (get files q)
at_put files path bytes q = get-insert nat_list_cmp_total files path bytes q
    ∙ ap (λ (test : Bool). cond test (Some bytes) (get files q)) (sym (texts_ties q path))

own_there : (files : Files) (input : List ℕ) → get (with_input files input) own_input ≡ Some input
own_there files input = at_put files own_input input own_input

others_there : (files : Files) (input rest : List ℕ) → get (with_input files input) (106 ∷ rest) ≡ get files (106 ∷ rest)
others_there files input rest = at_put files own_input input (106 ∷ rest)

small_factor : (x : ℕ) → factor_of x < 2 ^ 64
small_factor x = omega arith

small_job : (n job : ℕ) → n ≤ jobs_max → job ≤ n → job < 2 ^ 64
small_job n job most within = omega (arith, most, within)

-- the text that is compiled or printed where the files have a job's source
text_is : (files : Files) (made : Product) (n job : ℕ) → job < 2 ^ 64 → get files (job_source job) ≡ Some (text_of_job n job)
    → is_ready made (job_source job) ≡ false
    → task_text files (task_for made (job_source job)) ≡ Ok (text_of_job n job)
text_is files made n job small there raw =
    let task = task_for made (job_source job) in
    let text = text_of_job n job in
    ap (content_text files task) there
    ∙ ap (λ (test : Bool). if test then Ok text else expanded_text files task text) raw
    ∙ ap text_of (source_expands files [] job (factor_of (generator_after n job)) small (small_factor (generator_after n job)))

-- ---- what the compiler leaves by the job's own words

own_words : OneFileLaw → (n job : ℕ) (ran : Ran) → n ≤ jobs_max → 1 ≤ job → job ≤ n → CompilesTo (text_of_job n job) ran
    → SampleOf (files_of n) (job_words job) ran
own_words one_file n job ran most some within compiles =
    let files = files_of n in
    let s = job_source job in
    let o = job_object job in
    let small = small_job n job most within in
    let there = one_file n job most some within in
    let task : task_of (plain s o) ≡ Some (task_for (product.Object o) s) =
    compile_task s o (name_reading (decimal job ++ codes ".c")) (unreserved job) in
    let text : task_text files (task_for (product.Object o) s) ≡ Ok (text_of_job n job) =
    text_is files (product.Object o) n job small there (unready job) in
    subst (λ asked. LeavesAsked files asked ran) (sym task) (subst (λ made. LeftBy (product.Object o) made ran) (sym text) compiles)

-- ---- the compile of the source at a station

abbrev placed_list : List Word
placed_list = Text (codes "scc") ∷ Text (codes "-c") ∷ Input I ∷ Text (codes "-o") ∷ Output ∷ []

abbrev own_task : Task
own_task = task_for (product.Object own_output) own_input

own_asked : asked_by placed_list ≡ Some own_task
own_asked = compile_task own_input own_output (own_reading (codes ".i")) refl

compiled_there : (files : Files) (text : List ℕ) (ran : Ran) → StationRan files placed_list text ran → CompilesTo text ran
compiled_there files text ran r =
    let leaves : LeftBy (product.Object own_output) (task_text (with_input files text) own_task) r.whole =
    subst (λ asked. LeavesAsked (with_input files text) asked r.whole) own_asked r.leaves in
    let made : task_text (with_input files text) own_task ≡ Ok text =
    ap (content_text (with_input files text) own_task) (own_there files text) in
    let whole : CompilesTo text r.whole = subst (λ m. LeftBy (product.Object own_output) m r.whole) made leaves in
    let same : ran ≡ r.whole = r.left ∙ ap (λ asked. as_left placed_list asked r.whole) own_asked in
    subst (CompilesTo text) (sym same) whole

placed_is : (job : ℕ) → job < 2 ^ 64 → placed_words (stripped (job_words job)) ≡ placed_list
placed_is job small =
    let is = are_plain job small in
    ap placed_words (sent (job_source job) (job_object job) is) ∙ placed (job_source job) (job_object job) is

pub compiled : OneFileLaw → (n job : ℕ) (ran : Ran) → n ≤ jobs_max → 1 ≤ job → job ≤ n
    → StationRan (files_of n) (placed_words (stripped (job_words job))) (text_of_job n job) ran → SampleOf (files_of n) (job_words job) ran
compiled one_file n job ran most some within r =
    let words = placed_is job (small_job n job most within) in
    own_words one_file n job ran most some within
    (compiled_there (files_of n) (text_of_job n job) ran (subst (λ list. StationRan (files_of n) list (text_of_job n job) ran) words r))

-- ---- the preprocessor's run at a station

expand_asked : (job : ℕ) → asked_by (map Text (codes "scc" ∷ codes "-E" ∷ job_source job ∷ []))
    ≡ Some (task_for product.Text (job_source job))
expand_asked job = expand_task (job_source job) (name_reading (decimal job ++ codes ".c"))

pub preprocessed : OneFileLaw → (n job : ℕ) (ran : Ran) → n ≤ jobs_max → 1 ≤ job → job ≤ n
    → StationRan (files_of n) (map Text (preprocessing_words (job_words job))) [] ran → ran ≡ printed (text_of_job n job)
preprocessed one_file n job ran most some within r =
    let small = small_job n job most within in
    let s = job_source job in
    let text = text_of_job n job in
    let files = with_input (files_of n) [] in
    let words = ap (map Text) (preprocessing s (job_object job) (are_plain job small)) in
    let run : StationRan (files_of n) (map Text (codes "scc" ∷ codes "-E" ∷ s ∷ [])) [] ran =
    subst (λ list. StationRan (files_of n) list [] ran) words r in
    let there : get files s ≡ Some text = others_there (files_of n) [] (decimal job ++ codes ".c") ∙ one_file n job most some within in
    let leaves : LeftBy product.Text (task_text files (task_for product.Text s)) run.whole =
    subst (λ asked. LeavesAsked files asked run.whole) (expand_asked job) run.leaves in
    let whole : run.whole ≡ printed text =
    subst (λ m. LeftBy product.Text m run.whole) (text_is files product.Text n job small there refl) leaves in
    run.left ∙ ap (λ (w : Ran). without_object w) whole

-- ---- the class of the command

pub sent_out : (job : ℕ) → job < 2 ^ 64 → IsSent job
sent_out job small =
    let is = are_plain job small in
    record { remote = remote (job_source job) (job_object job) is; raw = raw_source (job_source job) (job_object job) is }
