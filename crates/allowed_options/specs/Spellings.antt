-- The spellings by which the words of a command are let through.
use Rattle.std.specs.Prelude.{ℕ, List, [], ◌∷◌, codes}

-- The words that are let through as they are.
abbrev pub option_words : List (List ℕ)
option_words = codes "-c" ∷ codes "-S" ∷ codes "-o" ∷ codes "-pipe" ∷ codes "-pthread" ∷ codes "-ansi" ∷ codes "-pedantic"
    ∷ codes "-pedantic-errors" ∷ codes "-w" ∷ codes "-v" ∷ codes "-p" ∷ codes "-pg" ∷ codes "-no-canonical-prefixes"
    ∷ codes "-integrated-as" ∷ codes "-no-integrated-as" ∷ codes "-emit-llvm" ∷ codes "-C" ∷ codes "-CC" ∷ codes "-P" ∷ codes "-H"
    ∷ codes "-Q" ∷ codes "-Qn" ∷ codes "-Qy" ∷ codes "-Qunused-arguments" ∷ codes "-trigraphs" ∷ codes "-traditional"
    ∷ codes "-traditional-cpp" ∷ codes "-remap" ∷ codes "-time" ∷ codes "-pass-exit-codes" ∷ codes "-EL" ∷ codes "-EB"
    ∷ codes "-fxray-instrument" ∷ []

-- The levels of optimisation.
abbrev pub levels : List (List ℕ)
levels = codes "-O" ∷ codes "-O0" ∷ codes "-O1" ∷ codes "-O2" ∷ codes "-O3" ∷ codes "-O4" ∷ codes "-O5" ∷ codes "-O6" ∷ codes "-O7"
    ∷ codes "-O8" ∷ codes "-O9" ∷ codes "-Os" ∷ codes "-Og" ∷ codes "-Oz" ∷ codes "-Ofast" ∷ []

-- The words for the linker that are let through, though nothing is linked.
abbrev pub link_words : List (List ℕ)
link_words = codes "-s" ∷ codes "-static" ∷ codes "-shared" ∷ codes "-rdynamic" ∷ codes "-pie" ∷ codes "-no-pie" ∷ codes "-nopie"
    ∷ codes "-static-pie" ∷ codes "-static-libgcc" ∷ codes "-static-libstdc++" ∷ codes "-nostdlib" ∷ codes "-nostdlib++"
    ∷ codes "-nodefaultlibs" ∷ codes "-nostartfiles" ∷ codes "-nolibc" ∷ codes "-symbolic"
    ∷ codes "-shared-libgcc" ∷ codes "-shared-libasan" ∷ codes "-shared-libsan" ∷ codes "-static-libasan" ∷ codes "-static-liblsan"
    ∷ codes "-static-libsan" ∷ codes "-static-libtsan" ∷ codes "-static-libubsan" ∷ []

-- The words with two dashes that are let through as they are.
abbrev pub long_words : List (List ℕ)
long_words = codes "--pedantic" ∷ codes "--pedantic-errors" ∷ codes "--ansi" ∷ codes "--pipe" ∷ codes "--verbose" ∷ codes "--static"
    ∷ codes "--shared" ∷ codes "--signed-char" ∷ codes "--unsigned-char" ∷ codes "--all-warnings" ∷ codes "--extra-warnings"
    ∷ codes "--no-warnings" ∷ codes "--driver-mode=gcc" ∷ codes "--driver-mode=g++" ∷ []

-- The files of specs that are let through: gcc looks for such a name in its own folders, and then in the folder of the run, which
-- has no such file.
abbrev pub specs_words : List (List ℕ)
specs_words = codes "--specs=nano.specs" ∷ codes "-specs=nano.specs" ∷ codes "--specs=nosys.specs" ∷ codes "-specs=nosys.specs"
    ∷ codes "--specs=rdimon.specs" ∷ codes "-specs=rdimon.specs" ∷ []

-- What a word begins with whose name and value are plain bytes.
abbrev pub name_fronts : List (List ℕ)
name_fronts = codes "-f" ∷ codes "-m" ∷ codes "-W" ∷ codes "-g" ∷ codes "-G" ∷ codes "-std=" ∷ codes "-stdlib=" ∷ codes "-rtlib="
    ∷ codes "-unwindlib=" ∷ codes "--param=" ∷ codes "--target=" ∷ codes "--std=" ∷ codes "--stdlib=" ∷ codes "--rtlib="
    ∷ codes "--unwindlib=" ∷ []

-- What a word begins with whose value is only written into the object or compared with names.
abbrev pub path_fronts : List (List ℕ)
path_fronts = codes "-fdebug-prefix-map=" ∷ codes "-ffile-prefix-map=" ∷ codes "-fmacro-prefix-map=" ∷ codes "-fcoverage-prefix-map="
    ∷ codes "-fdebug-compilation-dir=" ∷ codes "-ffile-compilation-dir=" ∷ codes "-fcoverage-compilation-dir=" ∷ codes "-frandom-seed="
    ∷ codes "-Rpass=" ∷ codes "-Rpass-missed=" ∷ codes "-Rpass-analysis=" ∷ []

-- What a word begins with whose value is a folder of a compiler's own parts.
abbrev pub folder_fronts : List (List ℕ)
folder_fronts = codes "-B" ∷ codes "--sysroot=" ∷ codes "--gcc-toolchain=" ∷ codes "--gcc-install-dir=" ∷ codes "-resource-dir=" ∷ []

-- The words for the assembler that are let through as they are, after `-Wa,` or a later comma.
abbrev pub piece_words : List (List ℕ)
piece_words = codes "-L" ∷ codes "-W" ∷ codes "-K" ∷ codes "-J" ∷ codes "-R" ∷ codes "-Z" ∷ codes "-n" ∷ codes "-q" ∷ codes "-EL"
    ∷ codes "-EB" ∷ []

-- What another word for the assembler begins with.
abbrev pub piece_fronts : List (List ℕ)
piece_fronts = codes "-m" ∷ codes "-g" ∷ codes "--32" ∷ codes "--64" ∷ codes "--x32" ∷ codes "--divide" ∷ codes "--execstack"
    ∷ codes "--noexecstack" ∷ codes "--warn" ∷ codes "--no-warn" ∷ codes "--fatal-warnings" ∷ codes "--gdwarf" ∷ codes "--gen-debug"
    ∷ codes "--gstabs" ∷ codes "--compress-debug-sections" ∷ codes "--nocompress-debug-sections" ∷ codes "--keep-locals"
    ∷ codes "--strip-local-absolute" ∷ codes "--size-check=" ∷ codes "--elf-stt-common=" ∷ codes "--generate-missing-build-notes="
    ∷ codes "--hash-size=" ∷ codes "--reduce-memory-overheads" ∷ codes "--no-pad-sections" ∷ codes "--defsym=" ∷ []
