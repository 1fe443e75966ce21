-- The path at which a program may be.
use Rattle.std.specs.Prelude.{ℕ, List, [], ◌∷◌, ◌++◌, codes}

-- The path of a name in a folder of `PATH`; an empty folder is that of the process.
abbrev pub path_in : List ℕ → List ℕ → List ℕ
path_in [] name = name
path_in (byte ∷ bytes) name = (byte ∷ bytes) ++ (codes "/" ++ name)
