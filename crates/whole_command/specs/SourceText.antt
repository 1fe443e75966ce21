-- What only the source's own text gives a compiler, and its preprocessed text doesn't.
use Rattle.std.specs.Prelude.{ℕ, Bool, true, false, not, ◌&&◌, ◌||◌, bytes_eq, nat_eq, if◌then◌else◌, List, [], ◌∷◌, drop, codes}
use Rattle.std.specs.List.{list_any, position_or_len, starts_with}
use Rattle.std.specs.Option.{is_some}
use Rattle.memchr.specs.Find.{first_of, matches}
use Rattle.arg_scan.specs.declared.verdict.Action.{Action}
use Rattle.arg_scan.specs.declared.verdict.Action.TheVariants.{Compile, Assemble}
use Rattle.farm_types.specs.declared.placed.Ext.{Ext}
use Rattle.farm_types.specs.declared.placed.Ext.TheVariants.{I, Ii}
use Rattle.whole_command.specs.Clang.{is_clang}

abbrev pub is_map : List ℕ → Bool
is_map word = starts_with nat_eq word (codes "-fmacro-prefix-map=") || starts_with nat_eq word (codes "-ffile-prefix-map=")

abbrev pub maps_names : List (List ℕ) → Bool
maps_names words = list_any is_map words

-- The name is somewhere in the text.
abbrev pub is_place : List ℕ → List ℕ → Bool
is_place text name = is_some (first_of (matches text name 0))

-- what gives the name of a file in the compile
abbrev pub names_place : List ℕ → Bool
names_place text = is_place text (codes "__builtin_FILE") || is_place text (codes "source_location")

-- a blank, a tabulator, an opening bracket or a quote
abbrev pub is_gap : ℕ → Bool
is_gap byte = (nat_eq byte 32 || nat_eq byte 9) || (nat_eq byte 40 || nat_eq byte 34)

abbrev pub after_gap : List ℕ → List ℕ
after_gap text = drop (position_or_len (λ byte. not (is_gap byte)) text) text

-- `GCC target` or `GCC optimize`, after five bytes and a gap
abbrev pub changes_options : List ℕ → Bool
changes_options pragma =
    starts_with nat_eq (after_gap (drop 5 pragma)) (codes "GCC")
    && (starts_with nat_eq (after_gap (drop 3 (after_gap (drop 5 pragma)))) (codes "target")
    || starts_with nat_eq (after_gap (drop 3 (after_gap (drop 5 pragma)))) (codes "optimize"))

-- a pragma by which gcc changes its options, with `#` or `_Pragma`
abbrev pub begins_pragma : List ℕ → Bool
begins_pragma text = starts_with nat_eq text (codes "ragma") && changes_options text

abbrev pub has_option_pragma : List ℕ → Bool
has_option_pragma [] = false
has_option_pragma (byte ∷ bytes) = begins_pragma (byte ∷ bytes) || has_option_pragma bytes

-- the text of C has a pragma by which gcc changes its options
abbrev pub is_changing : Ext → List ℕ → Bool
is_changing I text = has_option_pragma text
is_changing Ii text = false

-- clang maps names that the compile gives; or gcc changes its options
abbrev pub needs_source : List ℕ → Ext → List (List ℕ) → List ℕ → Bool
needs_source driver ext words text = if is_clang driver then (maps_names words && names_place text) else is_changing ext text

-- The text begins with the line mark of a first line.
abbrev pub has_marks : List ℕ → Bool
has_marks text = starts_with nat_eq text (codes "# 0 \"") || starts_with nat_eq text (codes "# 1 \"")

abbrev pub is_verbose : List ℕ → Bool
is_verbose word = bytes_eq word (codes "-fverbose-asm")

abbrev pub asks_verbose : List (List ℕ) → Bool
asks_verbose words = list_any is_verbose words

-- assembly with the source's lines
abbrev pub quotes_source : Action → List (List ℕ) → Bool
quotes_source Compile words = false
quotes_source Assemble words = asks_verbose words
