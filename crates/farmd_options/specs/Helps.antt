-- What `farmd --help` and `farmd --version` print.
use Rattle.std.specs.Prelude.{ℕ, List, ◌++◌, codes}

-- the version
abbrev pub version : List ℕ
version =
    codes "farmd 0.1, distcc protocol 1\n"

-- the help
abbrev pub help : List ℕ
help =
    codes "Usage: farmd [OPTION]...\n"
    ++ codes "Compiles for other machines, by distcc's protocol.\n"
    ++ codes "\n"
    ++ codes "Options, in any order:\n"
    ++ codes "  --compiler NAME=PROGRAM  run PROGRAM for requests whose first word is NAME;\n"
    ++ codes "                           up to 64 times\n"
    ++ codes "  --port N                 listen on this port, in place of 3632\n"
    ++ codes "  --listen ADDRESS         listen on this IPv4 address, in place of 0.0.0.0\n"
    ++ codes "  --jobs N                 serve at most N connections at once, 1 to 16, in place\n"
    ++ codes "                           of 4\n"
    ++ codes "  --serve N                end after N connections at each of these doors, 1 to\n"
    ++ codes "                           100000, in place of 100000\n"
    ++ codes "  --allow ADDRESS[/BITS]   let in peers of this network\n"
    ++ codes "  --deny ADDRESS[/BITS]    leave peers of this network\n"
    ++ codes "  --cache N                answer repeated compiles from memory: at most N MiB at\n"
    ++ codes "                           each of these doors, 1 to 128\n"
    ++ codes "  --shared-cache N         the same from one memory for all doors, in place of\n"
    ++ codes "                           theirs: at most N MiB, 1 to 65536\n"
    ++ codes "  --tools FOLDER           let requests name FOLDER, or one below, as one of a\n"
    ++ codes "                           compiler's own parts: -B, --sysroot= and the like; up\n"
    ++ codes "                           to 16 times\n"
    ++ codes "  --job-lifetime SECONDS   end a compile after SECONDS, 0 to 1000000, in place of\n"
    ++ codes "                           600; 0 for none\n"
    ++ codes "  --trust-options          before all others: run requests with any options,\n"
    ++ codes "                           also those that read, write or run other things\n"
    ++ codes "\n"
    ++ codes "The first rule that matches decides. Without rules every peer is let in; with\n"
    ++ codes "rules, one that matches none is not.\n"
    ++ codes "\n"
    ++ codes "farmd prints what became of each connection when it ends.\n"
