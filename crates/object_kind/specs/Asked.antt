-- The kind of object that a command asks for.
use Rattle.std.specs.Prelude.{ℕ, Bool, true, false, not, ◌&&◌, ◌||◌, nat_eq, List, [], ◌∷◌, codes, bytes_eq, if◌then◌else◌}
use Rattle.std.specs.List.{list_any, starts_with}
use Rattle.farm_types.specs.declared.placed.Word.{Word}
use Rattle.farm_types.specs.declared.placed.Word.TheVariants.{Text}
use Rattle.object_kind.specs.Drivers.{is_driver}
use Rattle.object_kind.specs.Formats.{is_elf, is_mach, is_coff, is_wasm, is_bitcode, is_text}

-- the word asks for text
abbrev pub is_text_word : Word → Bool
is_text_word (Text bytes) = bytes_eq bytes (codes "-S")
is_text_word _ = false

-- the word asks for LLVM's bitcode
abbrev pub is_bitcode_word : Word → Bool
is_bitcode_word (Text bytes) = bytes_eq bytes (codes "-emit-llvm") || starts_with nat_eq bytes (codes "-flto")
is_bitcode_word _ = false

abbrev pub asks_text : List Word → Bool
asks_text words = list_any is_text_word words

abbrev pub asks_bitcode : List Word → Bool
asks_bitcode words = list_any is_bitcode_word words

-- an object of any of the formats
abbrev pub is_object : List Word → List ℕ → Bool
is_object words object =
    is_elf object || is_mach object || is_coff object || is_wasm object || (is_bitcode object && asks_bitcode words)

-- the first word names a driver
abbrev pub runs_driver : List Word → Bool
runs_driver (Text program ∷ words) = is_driver program
runs_driver _ = false

-- Of another program nothing is asked. A driver with `-S` is to give text, and else an object.
abbrev pub is_asked_kind : List Word → List ℕ → Bool
is_asked_kind words object =
    if not (runs_driver words) then true else (if asks_text words then is_text object else is_object words object)

abbrev pub is_nothing : List ℕ → Bool
is_nothing [] = true
is_nothing (byte ∷ bytes) = false

-- Of another program nothing is asked. What a driver gives isn't empty.
abbrev pub is_filled : List Word → List ℕ → Bool
is_filled words object = not (runs_driver words) || not (is_nothing object)
