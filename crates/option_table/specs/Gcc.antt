-- The options of gcc's and clang's command lines.
use Rattle.std.specs.Prelude.{List, [], ◌∷◌, codes}
use Rattle.option_table.specs.declared.row.Form.TheVariants as form
use Rattle.option_table.specs.declared.row.Effect.TheVariants as effect
use Rattle.option_table.specs.declared.row.OptionRow.{OptionRow}
use Rattle.option_table.specs.Reasons as reason
use Rattle.option_table.specs.Rows.{row}

-- the rows. A word that begins with `-`, has more bytes and fits no row is kept, without an operand
unfoldable pub gcc_rows : List OptionRow
gcc_rows =
    row (codes "-c") form.None effect.Action ∷
    row (codes "-S") form.None effect.Action ∷
    row (codes "-o") form.Either effect.Output ∷
    row (codes "-E") form.None (effect.Local reason.preprocess) ∷
    row (codes "-M") form.None (effect.Local reason.depend) ∷
    row (codes "-MM") form.None (effect.Local reason.depend) ∷
    row (codes "-MD") form.None effect.Strip ∷
    row (codes "-MMD") form.None effect.Strip ∷
    row (codes "-MP") form.None effect.Strip ∷
    row (codes "-MG") form.None effect.Strip ∷
    row (codes "-MF") form.Either effect.Strip ∷
    row (codes "-MT") form.Either effect.Strip ∷
    row (codes "-MQ") form.Either effect.Strip ∷
    row (codes "-D") form.Either effect.Strip ∷
    row (codes "-U") form.Either effect.Strip ∷
    row (codes "-I") form.Either effect.Strip ∷
    row (codes "-A") form.Either effect.Strip ∷
    row (codes "-include") form.Either effect.Strip ∷
    row (codes "-imacros") form.Either effect.Strip ∷
    row (codes "-iprefix") form.Either effect.Strip ∷
    row (codes "-iwithprefix") form.Either effect.Strip ∷
    row (codes "-iwithprefixbefore") form.Either effect.Strip ∷
    row (codes "-isystem") form.Either effect.Strip ∷
    row (codes "-iquote") form.Either effect.Strip ∷
    row (codes "-idirafter") form.Either effect.Strip ∷
    row (codes "-isysroot") form.Either effect.Strip ∷
    row (codes "-undef") form.None effect.Strip ∷
    row (codes "-nostdinc") form.None effect.Strip ∷
    row (codes "-nostdinc++") form.None effect.Strip ∷
    row (codes "-Wp,") form.Joined effect.Strip ∷
    row (codes "-Xpreprocessor") form.Next effect.Strip ∷
    row (codes "-L") form.Either effect.Strip ∷
    row (codes "-l") form.Either effect.Strip ∷
    row (codes "-Wl,") form.Joined effect.Strip ∷
    row (codes "-Xlinker") form.Next effect.Strip ∷
    row (codes "-T") form.Either effect.Strip ∷
    row (codes "-u") form.Next effect.Strip ∷
    row (codes "-z") form.Next effect.Strip ∷
    row (codes "-B") form.Either effect.Keep ∷
    row (codes "--param") form.Next effect.Keep ∷
    row (codes "-target") form.Next effect.Keep ∷
    row (codes "-mllvm") form.Next effect.Keep ∷
    row (codes "-march=native") form.None (effect.Local reason.native) ∷
    row (codes "-mtune=native") form.None (effect.Local reason.native) ∷
    row (codes "-mcpu=native") form.None (effect.Local reason.native) ∷
    row (codes "-fprofile") form.Joined (effect.Local reason.profile) ∷
    row (codes "-ftest-coverage") form.None (effect.Local reason.profile) ∷
    row (codes "--coverage") form.None (effect.Local reason.profile) ∷
    row (codes "-frepo") form.None (effect.Local reason.repo) ∷
    row (codes "-specs=") form.Joined (effect.Local reason.specs) ∷
    row (codes "-x") form.Either (effect.Local reason.language) ∷
    row (codes "-save-temps") form.Joined (effect.Local reason.save_temps) ∷
    row (codes "-d") form.Joined (effect.Local reason.dump) ∷
    row (codes "-fdump-") form.Joined (effect.Local reason.dump) ∷
    row (codes "-Wa,") form.Joined effect.Listing ∷
    row (codes "-Xassembler") form.Next (effect.Local reason.asm_listing) ∷
    row (codes "-gsplit-dwarf") form.None (effect.Local reason.side_file) ∷
    row (codes "-fplugin") form.Joined (effect.Local reason.side_file) ∷
    row (codes "-fsyntax-only") form.None (effect.Local reason.side_file) ∷
    row (codes "-fmodules") form.Joined (effect.Local reason.side_file) ∷
    row (codes "-wrapper") form.Next (effect.Local reason.side_file) ∷
    row (codes "-aux-info") form.Next (effect.Local reason.side_file) ∷
    row (codes "-Xclang") form.Next (effect.Local reason.side_file) ∷
    row (codes "-arch") form.Next (effect.Local reason.side_file) ∷
    -- words with two dashes
    row (codes "--") form.Joined (effect.Local reason.side_file) ∷
    row (codes "--param=") form.Joined effect.Keep ∷
    row (codes "--sysroot=") form.Joined effect.Strip ∷
    row (codes "--target=") form.Joined effect.Keep ∷
    row (codes "--gcc-toolchain=") form.Joined effect.Keep ∷
    row (codes "--gcc-install-dir=") form.Joined effect.Keep ∷
    row (codes "--std=") form.Joined effect.Keep ∷
    row (codes "--stdlib=") form.Joined effect.Keep ∷
    row (codes "--rtlib=") form.Joined effect.Keep ∷
    row (codes "--unwindlib=") form.Joined effect.Keep ∷
    row (codes "--driver-mode=gcc") form.None effect.Keep ∷
    row (codes "--driver-mode=g++") form.None effect.Keep ∷
    row (codes "--ansi") form.None effect.Keep ∷
    row (codes "--pedantic") form.None effect.Keep ∷
    row (codes "--pedantic-errors") form.None effect.Keep ∷
    row (codes "--pipe") form.None effect.Keep ∷
    row (codes "--static") form.None effect.Keep ∷
    row (codes "--shared") form.None effect.Keep ∷
    row (codes "--signed-char") form.None effect.Keep ∷
    row (codes "--unsigned-char") form.None effect.Keep ∷
    row (codes "--all-warnings") form.None effect.Keep ∷
    row (codes "--extra-warnings") form.None effect.Keep ∷
    row (codes "--no-warnings") form.None effect.Keep ∷
    row (codes "--save-temps") form.Joined (effect.Local reason.save_temps) ∷
    row (codes "--specs") form.Joined (effect.Local reason.specs) ∷
    row (codes "--config") form.Joined (effect.Local reason.specs) ∷
    row (codes "-specs") form.Next (effect.Local reason.specs) ∷
    -- words that begin with these letters and aren't known
    row (codes "-a") form.Joined (effect.Local reason.side_file) ∷
    row (codes "-e") form.Joined (effect.Local reason.side_file) ∷
    row (codes "-i") form.Joined (effect.Local reason.side_file) ∷
    row (codes "-X") form.Joined (effect.Local reason.side_file) ∷
    row (codes "-ansi") form.None effect.Keep ∷
    row (codes "-integrated-as") form.None effect.Keep ∷
    row (codes "-integrated-cc1") form.None effect.Keep ∷
    -- nothing is compiled, or the compiler's own text is printed
    row (codes "-###") form.None (effect.Local reason.side_file) ∷
    row (codes "-help") form.None (effect.Local reason.side_file) ∷
    row (codes "-print-") form.Joined (effect.Local reason.side_file) ∷
    row (codes "-mcpu=help") form.None (effect.Local reason.side_file) ∷
    row (codes "-mtune=help") form.None (effect.Local reason.side_file) ∷
    row (codes "-fdriver-only") form.None (effect.Local reason.side_file) ∷
    row (codes "-v") form.None (effect.Local reason.side_file) ∷
    row (codes "-H") form.None (effect.Local reason.side_file) ∷
    row (codes "-Q") form.None (effect.Local reason.side_file) ∷
    row (codes "-time") form.Joined (effect.Local reason.side_file) ∷
    row (codes "-ftime-report") form.Joined (effect.Local reason.side_file) ∷
    row (codes "-fmem-report") form.None (effect.Local reason.side_file) ∷
    row (codes "-fstats") form.None (effect.Local reason.side_file) ∷
    row (codes "-fpre-ipa-mem-report") form.None (effect.Local reason.side_file) ∷
    row (codes "-fpost-ipa-mem-report") form.None (effect.Local reason.side_file) ∷
    row (codes "-fdbg-cnt") form.Joined (effect.Local reason.side_file) ∷
    row (codes "-mdump-") form.Joined (effect.Local reason.side_file) ∷
    -- a compile of preprocessed text doesn't give the same
    row (codes "-P") form.None (effect.Local reason.side_file) ∷
    row (codes "-C") form.None (effect.Local reason.side_file) ∷
    row (codes "-CC") form.None (effect.Local reason.side_file) ∷
    row (codes "-finput-charset=") form.Joined (effect.Local reason.side_file) ∷
    row (codes "-fno-preprocessed") form.None (effect.Local reason.side_file) ∷
    row (codes "-fdirectives-only") form.None (effect.Local reason.side_file) ∷
    row (codes "-frewrite-") form.Joined (effect.Local reason.side_file) ∷
    row (codes "-fdebug-cpp") form.None (effect.Local reason.side_file) ∷
    row (codes "-fkeep-system-includes") form.None (effect.Local reason.side_file) ∷
    row (codes "-fminimize-whitespace") form.None (effect.Local reason.side_file) ∷
    row (codes "-fdebug-macro") form.None (effect.Local reason.side_file) ∷
    row (codes "-gembed-source") form.None (effect.Local reason.side_file) ∷
    row (codes "-gmodules") form.None (effect.Local reason.side_file) ∷
    row (codes "-frecord-gcc-switches") form.None (effect.Local reason.side_file) ∷
    row (codes "-frecord-command-line") form.None (effect.Local reason.side_file) ∷
    row (codes "-fcanon-prefix-map") form.None (effect.Local reason.side_file) ∷
    row (codes "-fno-working-directory") form.None (effect.Local reason.side_file) ∷
    row (codes "-fsearch-include-path") form.Joined (effect.Local reason.side_file) ∷
    row (codes "-working-directory") form.Joined (effect.Local reason.side_file) ∷
    row (codes "-ObjC") form.Joined (effect.Local reason.language) ∷
    row (codes "-march=native+") form.Joined (effect.Local reason.native) ∷
    row (codes "-mcpu=native+") form.Joined (effect.Local reason.native) ∷
    -- files are written
    row (codes "-gsplit-dwarf=") form.Joined (effect.Local reason.side_file) ∷
    row (codes "-gen-") form.Joined (effect.Local reason.side_file) ∷
    row (codes "-MJ") form.Either (effect.Local reason.side_file) ∷
    row (codes "-fstack-usage") form.None (effect.Local reason.side_file) ∷
    row (codes "-fcallgraph-info") form.Joined (effect.Local reason.side_file) ∷
    row (codes "-fsave-optimization") form.Joined (effect.Local reason.side_file) ∷
    row (codes "-foptimization-record") form.Joined (effect.Local reason.side_file) ∷
    row (codes "-fopt-info") form.Joined (effect.Local reason.side_file) ∷
    row (codes "-ftime-trace") form.Joined (effect.Local reason.side_file) ∷
    row (codes "-fproc-stat-report") form.Joined (effect.Local reason.side_file) ∷
    row (codes "-fthin") form.Joined (effect.Local reason.side_file) ∷
    row (codes "-fdeps-") form.Joined (effect.Local reason.side_file) ∷
    row (codes "-fdepfile-entry=") form.Joined (effect.Local reason.side_file) ∷
    row (codes "-fdiagnostics-format=") form.Joined (effect.Local reason.side_file) ∷
    row (codes "-fdiagnostics-add-outpu") form.Joined (effect.Local reason.side_file) ∷
    row (codes "-fdiagnostics-set-outpu") form.Joined (effect.Local reason.side_file) ∷
    row (codes "-fcrash-diagnostics-dir") form.Joined (effect.Local reason.side_file) ∷
    row (codes "-serialize-diagnostics") form.Next (effect.Local reason.side_file) ∷
    row (codes "-save-stats") form.Joined (effect.Local reason.side_file) ∷
    row (codes "-fcompare-debug") form.Joined (effect.Local reason.dump) ∷
    row (codes "-fvtv-") form.Joined (effect.Local reason.dump) ∷
    row (codes "-coverage") form.None (effect.Local reason.profile) ∷
    row (codes "-fauto-profile") form.Joined (effect.Local reason.profile) ∷
    row (codes "-fbranch-probabilities") form.None (effect.Local reason.profile) ∷
    row (codes "-fmemory-profile") form.Joined (effect.Local reason.profile) ∷
    row (codes "-fcs-profile-") form.Joined (effect.Local reason.profile) ∷
    row (codes "-fcondition-coverage") form.None (effect.Local reason.profile) ∷
    row (codes "-fpath-coverage") form.Joined (effect.Local reason.profile) ∷
    -- files are read
    row (codes "-fpass-plugin") form.Joined (effect.Local reason.side_file) ∷
    row (codes "-fself-test") form.Joined (effect.Local reason.side_file) ∷
    row (codes "-fpch-") form.Joined (effect.Local reason.side_file) ∷
    row (codes "-fmodule-") form.Joined (effect.Local reason.side_file) ∷
    row (codes "-fcxx-modules") form.None (effect.Local reason.side_file) ∷
    row (codes "-fimplicit-module") form.Joined (effect.Local reason.side_file) ∷
    row (codes "-fprebuilt-") form.Joined (effect.Local reason.side_file) ∷
    row (codes "-fbuiltin-module-map") form.None (effect.Local reason.side_file) ∷
    row (codes "-fbuild-session-") form.Joined (effect.Local reason.side_file) ∷
    row (codes "-fapinotes") form.Joined (effect.Local reason.side_file) ∷
    row (codes "-fsanitize-ignorelist") form.Joined (effect.Local reason.side_file) ∷
    row (codes "-fsanitize-blacklist") form.Joined (effect.Local reason.side_file) ∷
    row (codes "-fsanitize-system-") form.Joined (effect.Local reason.side_file) ∷
    row (codes "-fsanitize-coverage-") form.Joined (effect.Local reason.side_file) ∷
    row (codes "-fexperimental-sanitize") form.Joined (effect.Local reason.side_file) ∷
    row (codes "-fcodegen-data-") form.Joined (effect.Local reason.side_file) ∷
    row (codes "-frandomize-layout-seed") form.Joined (effect.Local reason.side_file) ∷
    row (codes "-fxray-") form.Joined (effect.Local reason.side_file) ∷
    row (codes "-fbasic-block-sections=") form.Joined (effect.Local reason.side_file) ∷
    row (codes "-fembed-offload") form.Joined (effect.Local reason.side_file) ∷
    row (codes "-fembed-bitcode") form.Joined (effect.Local reason.side_file) ∷
    row (codes "-fopenmp-targets") form.Joined (effect.Local reason.side_file) ∷
    row (codes "-resource-dir") form.Joined (effect.Local reason.side_file) ∷
    row (codes "-cxx-isystem") form.Either (effect.Local reason.side_file) ∷
    row (codes "-stdlib++-isystem") form.Either (effect.Local reason.side_file) ∷
    row (codes "-relocatable-pch") form.None (effect.Local reason.side_file) ∷
    row (codes "-module-") form.Joined (effect.Local reason.side_file) ∷
    row (codes "-rewrite-") form.Joined (effect.Local reason.side_file) ∷
    row (codes "-objcmt-") form.Joined (effect.Local reason.side_file) ∷
    row (codes "-verify") form.Joined (effect.Local reason.side_file) ∷
    row (codes "-ccc-") form.Joined (effect.Local reason.side_file) ∷
    -- the next word is an operand
    row (codes "-include-pch") form.Next (effect.Local reason.side_file) ∷
    row (codes "-isystem-after") form.Next (effect.Local reason.side_file) ∷
    row (codes "-fdebug-compilation-dir") form.Next (effect.Local reason.side_file) ∷
    row (codes "-ftrapv-handler") form.Next (effect.Local reason.side_file) ∷
    row (codes "-mthread-model") form.Next (effect.Local reason.side_file) ∷
    row (codes "-meabi") form.Next (effect.Local reason.side_file) ∷
    row (codes "-mmlir") form.Next (effect.Local reason.side_file) ∷
    row (codes "-rpath") form.Next (effect.Local reason.side_file) ∷
    row (codes "-framework") form.Next (effect.Local reason.side_file) ∷
    row (codes "-filelist") form.Next (effect.Local reason.side_file) ∷
    row (codes "-gcc-toolchain") form.Next (effect.Local reason.side_file) ∷
    row (codes "-R") form.Next (effect.Local reason.side_file) ∷
    row (codes "-G") form.Next effect.Keep ∷
    -- used only in preprocessing
    row (codes "-MV") form.None effect.Strip ∷
    row (codes "-nostdlibinc") form.None effect.Strip ∷
    row (codes "-nobuiltininc") form.None effect.Strip ∷
    row (codes "-F") form.Joined effect.Strip ∷ []
