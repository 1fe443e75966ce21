-- What objects begin with.
use Rattle.std.specs.Prelude.{ℕ, Bool, false, ◌&&◌, ◌||◌, not, nat_eq, List, [], ◌∷◌, drop}
use Rattle.std.specs.List.{list_any, starts_with}

-- these bytes are at this place
unfoldable pub has_at : List ℕ → ℕ → List ℕ → Bool
has_at object at bytes = starts_with nat_eq (drop at object) bytes

-- ELF: e_type is ET_REL, in the byte order that EI_DATA says
abbrev pub is_elf : List ℕ → Bool
is_elf object =
    has_at object 0 (127 ∷ 69 ∷ 76 ∷ 70 ∷ [])
    && ((has_at object 5 (1 ∷ []) && has_at object 16 (1 ∷ 0 ∷ [])) || (has_at object 5 (2 ∷ []) && has_at object 16 (0 ∷ 1 ∷ [])))

-- Mach-O of 32 or 64 bits: the file's type is MH_OBJECT, in the byte order that its first word says
abbrev pub is_mach : List ℕ → Bool
is_mach object =
    ((has_at object 0 (206 ∷ 250 ∷ 237 ∷ 254 ∷ []) || has_at object 0 (207 ∷ 250 ∷ 237 ∷ 254 ∷ []))
    && has_at object 12 (1 ∷ 0 ∷ 0 ∷ 0 ∷ []))
    || ((has_at object 0 (254 ∷ 237 ∷ 250 ∷ 206 ∷ []) || has_at object 0 (254 ∷ 237 ∷ 250 ∷ 207 ∷ []))
    && has_at object 12 (0 ∷ 0 ∷ 0 ∷ 1 ∷ []))

-- the machine of a COFF file: x86-64, i386, ARM, ARM of Thumb-2, AArch64
abbrev pub is_machine_at : List ℕ → ℕ → Bool
is_machine_at object at =
    has_at object at (100 ∷ 134 ∷ []) || has_at object at (76 ∷ 1 ∷ []) || has_at object at (192 ∷ 1 ∷ [])
    || has_at object at (196 ∷ 1 ∷ []) || has_at object at (100 ∷ 170 ∷ [])

-- COFF: an object has no optional header, which a program has; or it has the large header, which only objects have
abbrev pub is_coff : List ℕ → Bool
is_coff object =
    (is_machine_at object 0 && has_at object 16 (0 ∷ 0 ∷ [])) || (has_at object 0 (0 ∷ 0 ∷ 255 ∷ 255 ∷ []) && is_machine_at object 6)

-- WebAssembly
abbrev pub is_wasm : List ℕ → Bool
is_wasm object = has_at object 0 (0 ∷ 97 ∷ 115 ∷ 109 ∷ 1 ∷ 0 ∷ 0 ∷ 0 ∷ [])

-- LLVM's bitcode, by itself or in its wrapper
abbrev pub is_bitcode : List ℕ → Bool
is_bitcode object = has_at object 0 (66 ∷ 67 ∷ 192 ∷ 222 ∷ []) || has_at object 0 (222 ∷ 192 ∷ 23 ∷ 11 ∷ [])

-- text: at least a byte, and none is zero
abbrev pub is_text : List ℕ → Bool
is_text [] = false
is_text bytes = not (list_any (λ b. nat_eq b 0) bytes)
