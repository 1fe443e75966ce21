-- The entries that are taken, and their job list.
use Rattle.std.proofs.Common.{ℕ, List, refl}
use Rattle.serde_json.specs.Data.{Data}
use Rattle.compile_database.specs.declared.fault.DatabaseFault.{DatabaseFault}
use Rattle.compile_database.specs.declared.fault.DatabaseFault.TheVariants.{NotJson, NotArray, NoFolder, OtherFolder, NoEntries, TooMany}
use Rattle.compile_database.specs.declared.fault.DatabaseFault.TheVariants.{NoForm, OpenQuote, NoWords, BadWord, JobList}
use Rattle.compile_database.specs.Choices.{Choice}
use Rattle.compile_database.specs.Databases.{ArePlaces, AreEntries, JobsOfEntries, HasBadEntry, EntriesFault, bad_entry, list_fault}
use Rattle.compile_database.specs.Listings.{IsListFault}

pub jobs_of_entries : (choice : Choice) (entries : List Data) (places : List ℕ) (jobs : List (List (List ℕ)))
    → ArePlaces choice entries places → AreEntries entries places jobs → JobsOfEntries choice entries jobs
jobs_of_entries choice entries places jobs h each = record { places = places; taken = h; each = each }

pub bad_of_entries : (choice : Choice) (entries : List Data) (places : List ℕ) (fault : DatabaseFault)
    → ArePlaces choice entries places → HasBadEntry entries places fault → EntriesFault choice entries fault
bad_of_entries choice entries places fault h bad = bad_entry places h bad

pub fault_of_list : (choice : Choice) (entries : List Data) (jobs : List (List (List ℕ))) → JobsOfEntries choice entries jobs
    → (fault : DatabaseFault) → IsListFault jobs fault → EntriesFault choice entries fault
fault_of_list choice entries jobs words (JobList line what) h =
    list_fault (record { jobs = jobs; list = h.0; line = line; words = words; written = h.1; stands = (what, h.2, refl) })
fault_of_list choice entries jobs words NotJson h = absurd h
fault_of_list choice entries jobs words NotArray h = absurd h
fault_of_list choice entries jobs words (NoFolder at) h = absurd h
fault_of_list choice entries jobs words (OtherFolder at) h = absurd h
fault_of_list choice entries jobs words NoEntries h = absurd h
fault_of_list choice entries jobs words (TooMany at) h = absurd h
fault_of_list choice entries jobs words (NoForm at) h = absurd h
fault_of_list choice entries jobs words (OpenQuote at) h = absurd h
fault_of_list choice entries jobs words (NoWords at) h = absurd h
fault_of_list choice entries jobs words (BadWord at) h = absurd h
