-- What an entry of a compile database says.
use Rattle.std.specs.Prelude.{ℕ, Bool, true, false, List, [], ◌∷◌, codes, Option, Some, None, option_map, option_and_then, Result, Ok, Err}
use Rattle.serde_json.specs.Data.{Data, Items, no_items, item}
use Rattle.serde_json.specs.Find.{get, as_str, as_array}
use Rattle.arg_scan.specs.Class.{is_remote_verdict, verdict_of}
use Rattle.dependency_options.specs.Words.{with_dependencies}
use Rattle.compile_database.specs.declared.entry.NoWords.{NoWords}
use Rattle.compile_database.specs.declared.entry.NoWords.TheVariants.{NoForm, OpenQuote}
use Rattle.compile_database.specs.Shell.{shell_words}

-- the text of a member of an entry
abbrev pub text_of : List ℕ → Data → Option (List ℕ)
text_of name entry = option_and_then as_str (get name entry)

-- the folder in which the command of an entry runs
abbrev pub folder_of : Data → Option (List ℕ)
folder_of entry = text_of (codes "directory") entry

-- the texts of a list that has texts only
abbrev pub texts_of : List Data → Option (List (List ℕ))
texts_of [] = Some []
texts_of (d ∷ ds) = option_and_then (λ text. option_map (λ texts. text ∷ texts) (texts_of ds)) (as_str d)

-- the items of an array, as a list
abbrev pub listed : Items → List Data
listed no_items = []
listed (item d ds) = d ∷ listed ds

abbrev pub read_so : NoWords → Option (List (List ℕ)) → Result (List (List ℕ)) NoWords
read_so reason (Some words) = Ok words
read_so reason None = Err reason

-- the words of `arguments`, an array of texts
abbrev pub words_of_array : Option Items → Result (List (List ℕ)) NoWords
words_of_array (Some items) = read_so NoForm (texts_of (listed items))
words_of_array None = Err NoForm

-- the words of `command`, a text
abbrev pub words_of_text : Option (List ℕ) → Result (List (List ℕ)) NoWords
words_of_text (Some text) = read_so OpenQuote (shell_words text)
words_of_text None = Err NoForm

abbrev pub words_by : Option Data → Data → Result (List (List ℕ)) NoWords
words_by (Some arguments) entry = words_of_array (as_array arguments)
words_by None entry = words_of_text (text_of (codes "command") entry)

-- the words that an entry says: those of `arguments` if it is there, and else those of `command`
abbrev pub said_words : Data → Result (List (List ℕ)) NoWords
said_words entry = words_by (get (codes "arguments") entry) entry

abbrev pub completed_by : Bool → List (List ℕ) → List (List ℕ)
completed_by true words = with_dependencies words
completed_by false words = words

-- the words of a command as a job has them: with those of its dependency file, if it may be sent
abbrev pub completed : List (List ℕ) → List (List ℕ)
completed words = completed_by (is_remote_verdict (verdict_of words)) words

abbrev pub completed_so : Result (List (List ℕ)) NoWords → Result (List (List ℕ)) NoWords
completed_so (Ok words) = Ok (completed words)
completed_so (Err reason) = Err reason

-- the words of the job of an entry
abbrev pub words_of : Data → Result (List (List ℕ)) NoWords
words_of entry = completed_so (said_words entry)
