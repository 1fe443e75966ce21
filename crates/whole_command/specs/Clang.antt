-- What a command of clang wants for a compile on a host.
use Rattle.std.specs.Prelude.{ℕ, Bool, false, not, ◌&&◌, ◌||◌, bytes_eq, nat_eq, List, [], ◌∷◌, codes}
use Rattle.std.specs.List.{list_any, starts_with}

-- The name of clang begins at some place of the name.
abbrev pub is_clang : List ℕ → Bool
is_clang [] = false
is_clang (byte ∷ bytes) = starts_with nat_eq (byte ∷ bytes) (codes "clang") || is_clang bytes

abbrev pub is_no_debug : List ℕ → Bool
is_no_debug word = bytes_eq word (codes "-g0") || bytes_eq word (codes "-ggdb0")

abbrev pub is_debug : List ℕ → Bool
is_debug word = starts_with nat_eq word (codes "-g") && not (is_no_debug word)

abbrev pub is_folder : List ℕ → Bool
is_folder word = starts_with nat_eq word (codes "-fdebug-compilation-dir") || starts_with nat_eq word (codes "-ffile-compilation-dir")

abbrev pub is_macro_map : List ℕ → Bool
is_macro_map word = starts_with nat_eq word (codes "-fmacro-prefix-map=")

abbrev pub is_recording : List ℕ → Bool
is_recording word = bytes_eq word (codes "-grecord-gcc-switches") || bytes_eq word (codes "-grecord-command-line")

abbrev pub drops_debug : List (List ℕ) → Bool
drops_debug words = list_any is_no_debug words

-- a word asks for debug information, and no later one for none
abbrev pub asks_debug : List (List ℕ) → Bool
asks_debug [] = false
asks_debug (word ∷ words) = asks_debug words || (is_debug word && not (drops_debug words))

abbrev pub names_folder : List (List ℕ) → Bool
names_folder words = list_any is_folder words

abbrev pub maps_macros : List (List ℕ) → Bool
maps_macros words = list_any is_macro_map words

abbrev pub asks_record : List (List ℕ) → Bool
asks_record words = list_any is_recording words

-- clang's command with debug information that names no folder
abbrev pub needs_folder : List ℕ → List (List ℕ) → Bool
needs_folder driver words = is_clang driver && (asks_debug words && not (names_folder words))

-- clang's command with a word that it warns of in preprocessed text
abbrev pub needs_quiet : List ℕ → List (List ℕ) → Bool
needs_quiet driver words = is_clang driver && maps_macros words

-- clang's command whose object has its words
abbrev pub records_words : List ℕ → List (List ℕ) → Bool
records_words driver words = is_clang driver && asks_record words
