-- The spellings of words that reach further than one compile.
use Rattle.std.specs.Prelude.{ℕ, List, [], ◌∷◌, codes}

-- what a word begins with that asks for a part of a compiler or another program that is loaded or run, or words for one
abbrev pub loaded_fronts : List (List ℕ)
loaded_fronts = codes "-fplugin" ∷ codes "-fpass-plugin" ∷ codes "-mllvm" ∷ codes "-mmlir" ∷ codes "-Wp," ∷ codes "-Wl,"
    ∷ codes "-Wa," ∷ codes "-fcas-" ∷ codes "-fdepscan" ∷ codes "-fsycl" ∷ codes "-foffload" ∷ codes "-fopenmp-targets"
    ∷ codes "-fembed-offload" ∷ codes "-gcc-toolchain" ∷ codes "-gnat" ∷ codes "-ftrapv-handler" ∷ []

-- what a word begins with that asks for modules, other sources, or the next word
abbrev pub module_fronts : List (List ℕ)
module_fronts = codes "-fmodule" ∷ codes "-fprebuilt-" ∷ codes "-fimplicit-module" ∷ codes "-module" ∷ codes "-main-file"
    ∷ codes "-fintrinsic-modules-path" ∷ codes "-fpre-include" ∷ codes "-fno-preprocessed" ∷ codes "-fdirectives-only"
    ∷ codes "-filelist" ∷ codes "-frewrite-map-file" ∷ codes "-fbuild-session" ∷ codes "-meabi" ∷ codes "-mthread-model"
    ∷ codes "-mlink-" ∷ codes "-fnew-alignment" ∷ codes "-fdebug-compilation-dir" ∷ []

-- what a word begins with that asks for profiles and what a program is measured by, or files that link-time optimisation reads
abbrev pub profile_fronts : List (List ℕ)
profile_fronts = codes "-fprofile" ∷ codes "-fauto-profile" ∷ codes "-fbranch-probabilities" ∷ codes "-fmemory-profile-use"
    ∷ codes "-fcs-profile" ∷ codes "-fcodegen-data" ∷ codes "-fbasic-block-sections=list" ∷ codes "-frandomize-layout-seed-file"
    ∷ codes "-fxray-" ∷ codes "-ftest-coverage" ∷ codes "-fthinlto-index" ∷ codes "-fthin-link-bitcode" ∷ codes "-fltrans"
    ∷ codes "-fwpa" ∷ codes "-fresolution" ∷ []

-- what a word begins with that asks for files beside the object, or a compile that isn't made once
abbrev pub report_fronts : List (List ℕ)
report_fronts = codes "-fdump-" ∷ codes "-gen-" ∷ codes "-gsplit-dwarf" ∷ codes "-foptimization-record"
    ∷ codes "-fsave-optimization-record" ∷ codes "-fproc-stat-report" ∷ codes "-fstack-usage" ∷ codes "-fcallgraph-info"
    ∷ codes "-ftime-trace" ∷ codes "-fdeps-" ∷ codes "-fdiagnostics-format=json-file" ∷ codes "-fdiagnostics-format=sarif-file"
    ∷ codes "-fdiagnostics-add-output" ∷ codes "-fdiagnostics-set-output" ∷ codes "-fcrash-diagnostics-dir" ∷ codes "-freport-bug"
    ∷ codes "-fself-test" ∷ codes "-fcompare-debug" ∷ codes "-fvtv-" ∷ []

-- what a word begins with that asks for lists of what a sanitizer leaves out
abbrev pub sanitizer_list_fronts : List (List ℕ)
sanitizer_list_fronts = codes "-fsanitize-ignorelist" ∷ codes "-fsanitize-blacklist" ∷ codes "-fsanitize-system-ignorelist"
    ∷ codes "-fsanitize-system-blacklist" ∷ codes "-fsanitize-coverage-allowlist" ∷ codes "-fsanitize-coverage-ignorelist"
    ∷ codes "-fsanitize-coverage-whitelist" ∷ codes "-fsanitize-coverage-blacklist"
    ∷ codes "-fexperimental-sanitize-metadata-ignorelist" ∷ []
