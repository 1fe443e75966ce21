-- Which words of a command are let through.
use Rattle.std.specs.Prelude.{ℕ, zero, suc, ◌==◌, nat_le, Bool, true, false, not, ◌&&◌, ◌||◌, nat_eq, List, [], ◌∷◌, length, take, drop, get_or}
use Rattle.std.specs.Prelude.{codes, Option, Some, None, is_some, bytes_eq, if◌then◌else◌}
use Rattle.std.specs.List.{list_any, list_all, starts_with, position_or_len}
use Rattle.std.specs.Option.{option_or, option_map}
use Rattle.farm_types.specs.declared.placed.Word.{Word}
use Rattle.farm_types.specs.declared.placed.Word.TheVariants.{Text, Output}
use Rattle.allowed_options.specs.declared.operand.Operand.{Operand}
use Rattle.allowed_options.specs.declared.operand.Operand.TheVariants.{Folder, Flag, Setting}
use Rattle.allowed_options.specs.Spellings.{option_words, levels, link_words, long_words, specs_words, name_fronts, path_fronts}
use Rattle.allowed_options.specs.Spellings.{piece_words, piece_fronts}
use Rattle.allowed_options.specs.Reaching.{loaded_fronts, module_fronts, profile_fronts, report_fronts, sanitizer_list_fronts}
use Rattle.allowed_options.specs.BackEnd.{optimizer_names, generator_names, sanitizer_names, target_names}
use Rattle.allowed_options.specs.Folders.{is_in_tools, names_tools}

-- the word begins with this
abbrev pub begins_with : List ℕ → List ℕ → Bool
begins_with front word = starts_with nat_eq word front

-- the word begins with one of these
abbrev pub begins : List (List ℕ) → List ℕ → Bool
begins fronts word = list_any (λ front. starts_with nat_eq word front) fronts

-- the word is one of these
abbrev pub is_one : List (List ℕ) → List ℕ → Bool
is_one words word = list_any (λ one. bytes_eq one word) words

unfoldable pub is_option_word : List ℕ → Bool
is_option_word word = is_one option_words word

unfoldable pub is_link_word : List ℕ → Bool
is_link_word word = is_one link_words word

unfoldable pub is_long_word : List ℕ → Bool
is_long_word word = is_one long_words word

unfoldable pub has_name_front : List ℕ → Bool
has_name_front word = begins name_fronts word

unfoldable pub loads_more : List ℕ → Bool
loads_more word = begins loaded_fronts word

unfoldable pub reads_modules : List ℕ → Bool
reads_modules word = begins module_fronts word

unfoldable pub uses_profiles : List ℕ → Bool
uses_profiles word = begins profile_fronts word

unfoldable pub writes_reports : List ℕ → Bool
writes_reports word = begins report_fronts word

unfoldable pub reads_sanitizer_lists : List ℕ → Bool
reads_sanitizer_lists word = begins sanitizer_list_fronts word

-- The word would have a compiler load or run a program, read or write a file beside its source and its object, take the next word, or compile
-- otherwise than once. None of these is let through.
abbrev pub reaches_out : List ℕ → Bool
reaches_out word = loads_more word || reads_modules word || uses_profiles word || writes_reports word || reads_sanitizer_lists word

unfoldable pub has_path_front : List ℕ → Bool
has_path_front word = begins path_fronts word

unfoldable pub is_level : List ℕ → Bool
is_level word = is_one levels word

unfoldable pub is_specs_word : List ℕ → Bool
is_specs_word word = is_one specs_words word

unfoldable pub is_optimizer_name : List ℕ → Bool
is_optimizer_name name = is_one optimizer_names name

unfoldable pub is_generator_name : List ℕ → Bool
is_generator_name name = is_one generator_names name

abbrev pub is_back_end_name : List ℕ → Bool
is_back_end_name name = is_optimizer_name name || is_generator_name name

unfoldable pub is_sanitizer_name : List ℕ → Bool
is_sanitizer_name name = is_one sanitizer_names name

unfoldable pub is_target_name : List ℕ → Bool
is_target_name name = is_one target_names name

-- the name of an option of LLVM that builds send
abbrev pub is_flag_name : List ℕ → Bool
is_flag_name name = is_back_end_name name || is_sanitizer_name name || is_target_name name

unfoldable pub is_piece_word : List ℕ → Bool
is_piece_word piece = is_one piece_words piece

unfoldable pub has_piece_front : List ℕ → Bool
has_piece_front piece = begins piece_fronts piece

-- a letter, a digit, or one of `#+,-.:=_`
abbrev pub is_plain_byte : ℕ → Bool
is_plain_byte b =
    (nat_le 97 b && nat_le b 122) || (nat_le 65 b && nat_le b 90) || (nat_le 48 b && nat_le b 57)
    || (b == 35) || (b == 43) || (b == 44) || (b == 45) || (b == 46) || (b == 58) || (b == 61) || (b == 95)

-- Only plain bytes: such a word names no file outside the current folder, no file of words, and no command.
abbrev pub is_plain : List ℕ → Bool
is_plain word = list_all is_plain_byte word

-- without `@` and `|`
abbrev pub is_path_byte : ℕ → Bool
is_path_byte b = not ((b == 64) || (b == 124))

abbrev pub is_path : List ℕ → Bool
is_path word = list_all is_path_byte word

-- what is before the first of these bytes, or all
unfoldable pub before : ℕ → List ℕ → List ℕ
before byte word = take (position_or_len (λ b. b == byte) word) word

-- A word for the assembler is known if the bytes up to the next comma are in the table of words, or if it begins with a known front and with none
-- that reaches out.
unfoldable pub is_known_piece : List ℕ → Bool
is_known_piece rest = is_piece_word (before 44 rest) || (has_piece_front rest && not (reaches_out rest))

-- the word for the assembler after each comma is known
abbrev pub are_pieces_known : List ℕ → Bool
are_pieces_known [] = true
are_pieces_known (b ∷ bs) = (not (b == 44) || is_known_piece bs) && are_pieces_known bs

-- a word for gcc's messages about its optimisations, to standard error: it has only plain bytes and no `=`, after which gcc takes the name of a file
abbrev pub is_report : List ℕ → Bool
is_report word = begins_with (codes "-fopt-info") word && is_plain word && not (list_any (λ b. b == 61) word)

-- a word by itself: an option without an operand, or with one that is in the same word
abbrev pub is_option_served : List (List ℕ) → List ℕ → Bool
is_option_served tools word =
    if begins_with (codes "-Wa,") word then is_plain word && are_pieces_known word else
    if begins_with (codes "-fopt-info") word then is_report word else
    if is_option_word word || is_level word || is_link_word word || is_long_word word || is_specs_word word then true else
    if names_tools tools word then true else
    if has_path_front word then is_path word else
    has_name_front word && is_plain word && not (reaches_out word)

-- the operand that an option takes from the next word
abbrev pub operand_of : List ℕ → Option Operand
operand_of word =
    if bytes_eq word (codes "-B") || bytes_eq word (codes "-resource-dir") then Some Folder else
    if bytes_eq word (codes "-mllvm") then Some Flag else
    if bytes_eq word (codes "--param") || bytes_eq word (codes "-target") || bytes_eq word (codes "-G") then Some Setting else None

-- an option of LLVM without its one or two dashes
abbrev pub undashed : List ℕ → List ℕ
undashed word = if begins_with (codes "--") word then drop 2 word else drop 1 word

-- only plain bytes: one dash or two, a name of the tables, and no value or one after a `=`
abbrev pub is_flag_served : List ℕ → Bool
is_flag_served word = begins_with (codes "-") word && is_plain word && is_flag_name (before 61 (undashed word))

abbrev pub is_operand_served : List (List ℕ) → Operand → List ℕ → Bool
is_operand_served tools Folder word = is_in_tools tools word
is_operand_served tools Flag word = is_flag_served word
is_operand_served tools Setting word = not (begins_with (codes "-") word) && is_plain word

-- A word of this use is let through. A word for a file of the station's own is, if it is no operand.
abbrev pub is_word_served : List (List ℕ) → Option Operand → Word → Bool
is_word_served tools None (Text bytes) = is_some (operand_of bytes) || is_option_served tools bytes
is_word_served tools None other = true
is_word_served tools (Some operand) (Text bytes) = is_operand_served tools operand bytes
is_word_served tools (Some operand) other = false

-- the operand that the next word is, after a word of this use
abbrev pub owed : Option Operand → Word → Option Operand
owed None (Text bytes) = operand_of bytes
owed None other = None
owed (Some operand) word = None

-- the operand that the word at a place is, or None
abbrev pub operand_at : List Word → ℕ → Option Operand
operand_at words zero = None
operand_at words (suc at) = owed (operand_at words at) (get_or words at Output)

abbrev pub is_served_at : List (List ℕ) → List Word → ℕ → Bool
is_served_at tools words at = is_word_served tools (operand_at words at) (get_or words at Output)

-- the least place below n with a word that isn't let through
abbrev pub unserved_below : List (List ℕ) → List Word → ℕ → Option ℕ
unserved_below tools words zero = None
unserved_below tools words (suc n) = option_or (unserved_below tools words n) (if is_served_at tools words n then None else Some n)

-- The place of the first word that isn't let through, with these folders of tools. The first of all words names the program, and is let through.
abbrev pub first_unserved : List Word → List (List ℕ) → Option ℕ
first_unserved [] tools = None
first_unserved (program ∷ words) tools = option_map suc (unserved_below tools words (length words))
