-- What is read of a variable.
use Rattle.std.specs.Prelude.{◌≡◌, ◌≢◌, [], Option, None, IsSomeAnd, Result, Ok, Err, ◌∷◌, codes, String, string_bytes}
use Rattle.std.specs.declared.env.VarError.{VarError}
use Rattle.std.specs.declared.env.VarError.TheVariants.{NotPresent, NotUnicode, OutOfMemory}

-- The value of a variable: none if it isn't set, and the replacement character, U+FFFD, if it isn't UTF-8.
abbrev pub IsValueOf : {A : Type 0} → Result (String A) VarError → Option (String A) → Type 0
IsValueOf (Ok value) answer = IsSomeAnd answer (λ given. given ≡ value)
IsValueOf (Err NotPresent) answer = answer ≡ None
IsValueOf (Err NotUnicode) answer = IsSomeAnd answer (λ given. string_bytes given ≡ 0xEF ∷ 0xBF ∷ 0xBD ∷ [])
IsValueOf (Err OutOfMemory) answer = ⊥

-- The folder for files of a process's own: the variable's value, or `/tmp` if that is empty.
pub record IsFolderIn {A : Type 0} (value folder : String A) : Type 0 where
  pub empty : string_bytes value ≡ [] → string_bytes folder ≡ codes "/tmp"
  pub given : string_bytes value ≢ [] → folder ≡ value

-- That folder, or `/tmp` if the variable isn't set or isn't UTF-8.
abbrev pub IsFolderOf : {A : Type 0} → Result (String A) VarError → String A → Type 0
IsFolderOf (Ok value) folder = IsFolderIn value folder
IsFolderOf (Err NotPresent) folder = string_bytes folder ≡ codes "/tmp"
IsFolderOf (Err NotUnicode) folder = string_bytes folder ≡ codes "/tmp"
IsFolderOf (Err OutOfMemory) folder = ⊥
