-- The names of LLVM's options.
use Rattle.std.specs.Prelude.{ℕ, List, [], ◌∷◌, codes}

-- The options of LLVM that builds send, without their dashes: those of its optimisations. None of them names a file or a program.
abbrev pub optimizer_names : List (List ℕ)
optimizer_names = codes "inline-threshold" ∷ codes "inlinehint-threshold" ∷ codes "inlinecold-threshold" ∷ codes "unroll-threshold"
    ∷ codes "unroll-count" ∷ codes "unroll-runtime" ∷ codes "vectorize-loops" ∷ codes "vectorize-slp" ∷ codes "slp-threshold"
    ∷ codes "force-vector-width" ∷ codes "force-vector-interleave" ∷ codes "extra-vectorizer-passes"
    ∷ codes "enable-interleaved-mem-accesses" ∷ codes "enable-gvn-hoist" ∷ codes "enable-load-pre" ∷ codes "enable-loopinterchange"
    ∷ codes "enable-loop-distribute" ∷ codes "enable-unroll-and-jam" ∷ codes "enable-dse-memoryssa"
    ∷ codes "memcmp-num-loads-per-block" ∷ codes "instcombine-lower-dbg-declare" ∷ codes "basic-aa-recphi"
    ∷ codes "rotation-max-header-size" ∷ codes "hot-cold-split" ∷ []

-- Those of how it makes code.
abbrev pub generator_names : List (List ℕ)
generator_names = codes "enable-misched" ∷ codes "enable-post-misched" ∷ codes "enable-machine-outliner"
    ∷ codes "enable-shrink-wrap" ∷ codes "disable-lsr" ∷ codes "disable-machine-licm" ∷ codes "disable-tail-duplicate"
    ∷ codes "disable-block-placement" ∷ codes "disable-early-ifcvt" ∷ codes "align-all-functions" ∷ codes "align-all-blocks"
    ∷ codes "align-all-nofallthru-blocks" ∷ codes "align-loops" ∷ codes "combiner-global-alias-analysis"
    ∷ codes "split-threshold-for-reg-with-hint" ∷ codes "generate-type-units" ∷ codes "stackmap-version"
    ∷ codes "treat-scalable-fixed-error-as-warning" ∷ codes "fast-isel" ∷ codes "global-isel" ∷ []

-- Those of sanitizers.
abbrev pub sanitizer_names : List (List ℕ)
sanitizer_names = codes "asan-globals" ∷ codes "asan-stack" ∷ codes "asan-mapping-offset" ∷ codes "asan-mapping-scale"
    ∷ codes "asan-instrumentation-with-call-threshold" ∷ codes "asan-use-after-scope" ∷ codes "asan-use-private-alias"
    ∷ codes "asan-kernel-mem-intrinsic-prefix" ∷ codes "asan-constructor-kind" ∷ codes "asan-detect-invalid-pointer-pair"
    ∷ codes "hwasan-instrument-stack" ∷ codes "hwasan-use-short-granules" ∷ codes "hwasan-inline-all-checks"
    ∷ codes "hwasan-mapping-offset" ∷ codes "hwasan-recover" ∷ codes "hwasan-kernel-mem-intrinsic-prefix"
    ∷ codes "hwasan-instrument-with-calls" ∷ codes "hwasan-use-after-scope" ∷ codes "tsan-distinguish-volatile"
    ∷ codes "tsan-instrument-func-entry-exit" ∷ codes "tsan-instrument-read-before-write" ∷ codes "tsan-compound-read-before-write"
    ∷ codes "tsan-instrument-memory-accesses" ∷ codes "msan-track-origins" ∷ codes "msan-kernel" ∷ codes "msan-check-constant-shadow"
    ∷ codes "msan-disable-checks" ∷ codes "sanitizer-coverage-prune-blocks" ∷ codes "sanitizer-coverage-level"
    ∷ codes "sanitizer-coverage-trace-pc-guard" ∷ []

-- Those of targets.
abbrev pub target_names : List (List ℕ)
target_names = codes "x86-asm-syntax" ∷ codes "x86-branches-within-32B-boundaries" ∷ codes "x86-align-branch-boundary"
    ∷ codes "x86-pad-max-prefix-size" ∷ codes "x86-use-vzeroupper" ∷ codes "x86-cmov-converter" ∷ codes "arm-global-merge"
    ∷ codes "arm-implicit-it" ∷ codes "arm-restrict-it" ∷ codes "arm-promote-constant" ∷ codes "aarch64-enable-ldst-opt"
    ∷ codes "aarch64-enable-global-merge" ∷ codes "aarch64-use-aa" ∷ codes "aarch64-neon-syntax" ∷ codes "enable-global-merge"
    ∷ codes "global-merge-max-offset" ∷ codes "riscv-v-vector-bits-min" ∷ codes "riscv-v-vector-bits-max" ∷ codes "mips-compact-branches"
    ∷ codes "hexagon-small-data-threshold" ∷ codes "amdgpu-early-inline-all" ∷ codes "amdgpu-function-calls"
    ∷ codes "enable-emscripten-sjlj" ∷ codes "enable-emscripten-cxx-exceptions" ∷ codes "wasm-enable-eh" ∷ codes "wasm-enable-sjlj"
    ∷ codes "wasm-use-legacy-eh" ∷ codes "polly" ∷ codes "polly-vectorizer" ∷ codes "polly-parallel" ∷ codes "polly-run-inliner"
    ∷ codes "polly-invariant-load-hoisting" ∷ []
