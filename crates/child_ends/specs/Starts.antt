-- What a shell is given to start this program again.
use Rattle.std.specs.Prelude.{ℕ, List, ◌++◌, codes}
use Rattle.std.specs.Fmt.{decimal}
use Rattle.child_ends.specs.declared.starting.Kind.{Kind}
use Rattle.child_ends.specs.declared.starting.Kind.TheVariants.{Command, Daemon}

-- the file that gets a line once the program is started, and one with its status
abbrev pub ending_text : ℕ → ℕ → List ℕ
ending_text process number = codes "/proc/" ++ decimal process ++ codes "/fd/" ++ decimal number

-- the program of a process, whatever became of its file
abbrev pub program_text : ℕ → List ℕ
program_text process = codes "/proc/" ++ decimal process ++ codes "/exe"

-- what the shell does: it notes that the program is started, starts it with SIGCHLD as it is by default, and notes its status. A daemon ends with this process.
abbrev pub starting_text : Kind → List ℕ
starting_text Command =
    codes "end=$1; shift\n"
    ++ codes "env --default-signal=CHLD true 2>/dev/null || exit\n"
    ++ codes "echo begun >>$end\n"
    ++ codes "env --default-signal=CHLD \"$@\"\n"
    ++ codes "echo $? >>$end\n"
starting_text Daemon =
    codes "end=$1; shift\n"
    ++ codes "env --default-signal=CHLD true 2>/dev/null || exit\n"
    ++ codes "echo begun >>$end\n"
    ++ codes "env --default-signal=CHLD,INT,QUIT \"$@\" &\n"
    ++ codes "while kill -0 $! && [ -e $end ]; do sleep 0.2; done 2>/dev/null\n"
    ++ codes "kill $! 2>/dev/null\n"
    ++ codes "wait $! 2>/dev/null\n"
    ++ codes "code=$?\n"
    ++ codes "[ -e $end ] && echo $code >>$end\n"
