-- The jobs of a compile database, and why a text has none.
use Rattle.std.specs.Prelude.{◌≡◌, ℕ, List, [], ◌∷◌, ◌++◌, Some, None, Ok, Err}
use Rattle.std.specs.List.{slice_get}
use Rattle.std.specs.Str.{IsUtf8}
use Rattle.farm_types.specs.Limits.{jobs_max}
use Rattle.serde_json.specs.Data.{Data, array}
use Rattle.serde_json.specs.Find.{as_array}
use Rattle.serde_json.specs.Read.{read}
use Rattle.serde_json.specs.View.{items_of}
use Rattle.job_list.specs.Jobs.{AreJobs, JobsOf, JobFaultStands}
use Rattle.job_list.specs.Prints.{AreJobWords}
use Rattle.job_list.specs.Texts.{job_lines}
use Rattle.job_list.specs.declared.fault.JobFault.{JobFault}
use Rattle.compile_database.specs.declared.entry.NoWords.TheVariants as no_words
use Rattle.compile_database.specs.declared.fault.DatabaseFault.{DatabaseFault}
use Rattle.compile_database.specs.declared.fault.DatabaseFault.TheVariants.{NotJson, NotArray, NoFolder, OtherFolder, NoEntries, TooMany}
use Rattle.compile_database.specs.declared.fault.DatabaseFault.TheVariants.{NoForm, OpenQuote, NoWords, BadWord, JobList}
use Rattle.compile_database.specs.declared.fault.DatabaseError.{DatabaseError}
use Rattle.compile_database.specs.declared.fault.DatabaseError.TheVariants.{Fault, Memory}
use Rattle.compile_database.specs.Entries.{words_of}
use Rattle.compile_database.specs.Choices.{Choice, IsFirst, NoneIs, chosen_folder, is_out, is_placeless, taken}

-- ---- the entries

-- the text is a JSON array of these values
pub record ArrayOf (text : List ℕ) (entries : List Data) : Type 0 where
  pub utf8 : IsUtf8 text
  pub is : read text ≡ Some (array (items_of entries))

-- the entry at this place has these words, and they can be a job
pub record EntryAt (entries : List Data) (place : ℕ) (words : List (List ℕ)) : Type 0 where
  pub entry : Data
  pub there : slice_get entries place ≡ Some entry
  pub read_so : words_of entry ≡ Ok words
  pub job : AreJobWords words

-- the words of the entries at these places, one by one
abbrev pub AreEntries : List Data → List ℕ → List (List (List ℕ)) → Type 0
AreEntries entries [] [] = Unit {0}
AreEntries entries [] (j ∷ js) = ⊥
AreEntries entries (p ∷ ps) [] = ⊥
AreEntries entries (p ∷ ps) (j ∷ js) = EntryAt entries p j × AreEntries entries ps js

-- ---- the choice

-- each entry has a folder; this is the one whose entries are taken; and if none is named, it is that of all entries
pub record FolderIs (choice : Choice) (entries : List Data) (folder : List ℕ) : Type 0 where
  pub placed : NoneIs is_placeless entries
  pub chosen : chosen_folder choice.folder entries ≡ Some folder
  pub only : choice.folder ≡ None → NoneIs (is_out folder) entries

-- these are the places of the entries that are taken, 1 to 512
pub record ArePlaces (choice : Choice) (entries : List Data) (places : List ℕ) : Type 0 where
  pub folder : List ℕ
  pub of_folder : FolderIs choice entries folder
  pub are : places ≡ taken choice folder entries
  pub some : places ≡ [] → ⊥
  pub few : slice_get places jobs_max ≡ None

-- the entries that are taken, and their words in order
pub record JobsOfEntries (choice : Choice) (entries : List Data) (jobs : List (List (List ℕ))) : Type 0 where
  pub places : List ℕ
  pub taken : ArePlaces choice entries places
  pub each : AreEntries entries places jobs

-- ---- the job list

-- The list is a job list of exactly the words of the entries that are taken.
pub record ListOf (choice : Choice) (text list : List ℕ) : Type 0 where
  pub entries : List Data
  pub jobs : List (List (List ℕ))
  pub array : ArrayOf text entries
  pub words : JobsOfEntries choice entries jobs
  pub written : JobsOf list jobs

-- ---- the faults

-- what is wrong with the entry at a place
abbrev pub IsBadEntry : List Data → ℕ → DatabaseFault → Type 0
IsBadEntry entries place (NoForm at) =
    (at ≡ place) × ((entry : Data) → slice_get entries place ≡ Some entry → words_of entry ≡ Err no_words.NoForm)
IsBadEntry entries place (OpenQuote at) = (at ≡ place) × (entry : Data) × (slice_get entries place ≡ Some entry)
    × (words_of entry ≡ Err no_words.OpenQuote)
IsBadEntry entries place (NoWords at) = (at ≡ place) × (entry : Data) × (slice_get entries place ≡ Some entry) × (words_of entry ≡ Ok [])
IsBadEntry entries place (BadWord at) = (at ≡ place) × (entry : Data) × (words : List (List ℕ))
    × (slice_get entries place ≡ Some entry) × (words_of entry ≡ Ok words) × (AreJobWords words → ⊥)
IsBadEntry entries place _ = ⊥

-- the first of these places whose entry isn't right
pub record HasBadEntry (entries : List Data) (places : List ℕ) (fault : DatabaseFault) : Type 0 where
  pub before : List ℕ
  pub place : ℕ
  pub after : List ℕ
  pub jobs : List (List (List ℕ))
  pub split : places ≡ before ++ place ∷ after
  pub right : AreEntries entries before jobs
  pub wrong : IsBadEntry entries place fault

-- the jobs of the entries are the lines of a text that has this fault as a job list
pub record HasListFault (choice : Choice) (entries : List Data) (fault : DatabaseFault) : Type 0 where
  pub jobs : List (List (List ℕ))
  pub list : List ℕ
  pub line : ℕ
  pub words : JobsOfEntries choice entries jobs
  pub written : AreJobs (job_lines list) jobs
  pub stands : (what : JobFault) × JobFaultStands list line what × (fault ≡ JobList line what)

-- no folder is named, and none is there
abbrev pub IsEmpty : Choice → List Data → Type 0
IsEmpty choice entries = (choice.folder ≡ None) × (entries ≡ [])

-- the fault of the entries, by the one of these rules that they fall under
pub data EntriesFault (choice : Choice) (entries : List Data) : DatabaseFault → Type 0 where
  no_folder : {at : ℕ} → IsFirst is_placeless entries at → EntriesFault choice entries (NoFolder at)
  no_entry : IsEmpty choice entries → EntriesFault choice entries NoEntries
  other_folder : {at : ℕ} (folder : List ℕ) → NoneIs is_placeless entries → choice.folder ≡ None
      → chosen_folder choice.folder entries ≡ Some folder → IsFirst (is_out folder) entries at
      → EntriesFault choice entries (OtherFolder at)
  none_taken : (folder : List ℕ) → FolderIs choice entries folder → taken choice folder entries ≡ [] → EntriesFault choice entries NoEntries
  too_many : {at : ℕ} (folder : List ℕ) → FolderIs choice entries folder
      → slice_get (taken choice folder entries) jobs_max ≡ Some at → EntriesFault choice entries (TooMany at)
  bad_entry : {fault : DatabaseFault} (places : List ℕ) → ArePlaces choice entries places → HasBadEntry entries places fault
      → EntriesFault choice entries fault
  list_fault : {fault : DatabaseFault} → HasListFault choice entries fault → EntriesFault choice entries fault

-- why a text gives no job list
abbrev pub FaultStands : Choice → List ℕ → DatabaseFault → Type 0
FaultStands choice text NotJson = IsUtf8 text → read text ≡ None
FaultStands choice text NotArray = (value : Data) × (read text ≡ Some value) × (as_array value ≡ None)
FaultStands choice text fault = (entries : List Data) × ArrayOf text entries × EntriesFault choice entries fault

-- it is a fault for which this holds, or memory ran out
abbrev pub IsError : (DatabaseFault → Type 0) → DatabaseError → Type 0
IsError stands (Fault fault) = stands fault
IsError stands Memory = Unit {0}
