-- What is printed of a fault.
use Rattle.std.specs.Prelude.{ℕ, List, ◌++◌, codes}
use Rattle.std.specs.Fmt.{decimal}
use Rattle.job_list.specs.Faults.{job_fault_number}
use Rattle.compile_database.specs.declared.fault.DatabaseFault.{DatabaseFault}
use Rattle.compile_database.specs.declared.fault.DatabaseFault.TheVariants.{NotJson, NotArray, NoFolder, OtherFolder, NoEntries, TooMany}
use Rattle.compile_database.specs.declared.fault.DatabaseFault.TheVariants.{NoForm, OpenQuote, NoWords, BadWord, JobList}

abbrev pub fault_text : DatabaseFault → List ℕ
fault_text NotJson = codes "not JSON"
fault_text NotArray = codes "not an array"
fault_text (NoFolder entry) = codes "entry " ++ decimal entry ++ codes ": no directory"
fault_text (OtherFolder entry) = codes "entry " ++ decimal entry ++ codes ": another directory, and no --folder"
fault_text NoEntries = codes "no entries"
fault_text (TooMany entry) = codes "entry " ++ decimal entry ++ codes ": more than 512 entries"
fault_text (NoForm entry) = codes "entry " ++ decimal entry ++ codes ": no arguments and no command"
fault_text (OpenQuote entry) = codes "entry " ++ decimal entry ++ codes ": an open quote"
fault_text (NoWords entry) = codes "entry " ++ decimal entry ++ codes ": no words"
fault_text (BadWord entry) = codes "entry " ++ decimal entry ++ codes ": a word that no job list can hold"
fault_text (JobList line fault) = codes "job list: fault " ++ decimal (job_fault_number fault) ++ codes " at line " ++ decimal line
