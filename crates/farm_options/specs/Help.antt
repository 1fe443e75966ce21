-- What `--help` and `--version` print.
use Rattle.std.specs.Prelude.{ℕ, List, ◌++◌, codes, Option, Some, None}
use Rattle.farm_options.specs.declared.name.CommandName.{CommandName}
use Rattle.farm_options.specs.declared.name.CommandName.TheVariants as command

-- the version
abbrev pub version : List ℕ
version =
    codes "farm 0.1, distcc protocol 1\n"

-- the help of the program
abbrev pub program_help : List ℕ
program_help =
    codes "Usage: farm build --hosts 'build1/4 build2/4' --workers 8 <jobs\n"
    ++ codes "Compiles each line of the file jobs on build1 and build2, by distcc's protocol.\n"
    ++ codes "\n"
    ++ codes "Usage: farm COMMAND [WORD]...\n"
    ++ codes "  build     do the jobs on standard input, one compile command a line\n"
    ++ codes "  watch     the same, and say meanwhile how many jobs have ended\n"
    ++ codes "  graph     as build, for jobs that may need one another\n"
    ++ codes "  cc        do one compile command, on the hosts of DISTCC_HOSTS: as the compiler's\n"
    ++ codes "            launcher, make CC='farm cc gcc'\n"
    ++ codes "  share     run make or another command, whose farm cc share the hosts' slots\n"
    ++ codes "  hosts     print the host list\n"
    ++ codes "  scan      say whether a compile command may be sent\n"
    ++ codes "  rehearse  do made-up jobs in memory, without a host or a compiler\n"
    ++ codes "\n"
    ++ codes "farm COMMAND --help says more of a command; farm --version prints the version.\n"
    ++ codes "\n"
    ++ codes "Environment:\n"
    ++ codes "  DISTCC_HOSTS           the host list, if --hosts gives none\n"
    ++ codes "  DISTCC_FALLBACK        if it is 0, as --no-fallback\n"
    ++ codes "  DISTCC_BACKOFF_PERIOD  for how many seconds a host that failed is not used,\n"
    ++ codes "                         0 to 1000000; 60 by default\n"
    ++ codes "  TMPDIR                 the folder of farm's own files, in place of /tmp\n"
    ++ codes "\n"
    ++ codes "Exit status:\n"
    ++ codes "  0    everything was done\n"
    ++ codes "  100  standard output or standard error failed\n"
    ++ codes "  101  the words don't fit, or DISTCC_BACKOFF_PERIOD\n"
    ++ codes "  103  there was no link to the host\n"
    ++ codes "  104  a program ended in another way than by an exit code\n"
    ++ codes "  105  no memory\n"
    ++ codes "  106  the host list has a fault\n"
    ++ codes "  107  the input couldn't be read; a send, a receive, a program, a put or the\n"
    ++ codes "       reading of a source failed\n"
    ++ codes "  108  the host's reply was cut off\n"
    ++ codes "  109  the job list or a line of its needs, or a host's reply, has a fault\n"
    ++ codes "  116  no host was up, and the job may not be compiled here\n"
    ++ codes "  117  the job was skipped: another that it needs was not done with status 0\n"
    ++ codes "That of a build is that of its first job that wasn't done with status 0. Where\n"
    ++ codes "the compiler said no, it is its own.\n"
    ++ codes "\n"
    ++ codes "Faults by their numbers:\n"
    ++ codes "  host list   1 NAME@HOST, 2 a comma, 3 +zeroconf, 4 a bad port, 5 a bad limit,\n"
    ++ codes "              6 a bad name, 7 more than 16 entries, 8 an option that isn't known\n"
    ++ codes "  job list    1 an open quote, 2 a backslash at the end of a line, 3 no jobs,\n"
    ++ codes "              4 more than 512 jobs, 5 more than 16777216 bytes, 6 an output that\n"
    ++ codes "              an earlier job has, 7 no UTF-8 or a zero byte\n"
    ++ codes "  needs       1 a word that is no number of a job, 2 no job after the line\n"
    ++ codes "  reply       1 a wrong name of a token, 2 a bad digit, 3 another version, 5 a\n"
    ++ codes "              length above its limit, 6 an object beside a failure\n"

-- the help of each command
abbrev pub build_help : List ℕ
build_help =
    codes "Usage: farm build [OPTION]...\n"
    ++ codes "Does the jobs on standard input: one compile command a line, with a shell's\n"
    ++ codes "quotes and backslashes, 512 at most. A job that may be sent is preprocessed here\n"
    ++ codes "and compiled on a host that has a slot; every other one is done here. Then it\n"
    ++ codes "prints a line for each job, in their order.\n"
    ++ codes "\n"
    ++ codes "Options, in any order, each at most once:\n"
    ++ codes "  --hosts LIST   the host list, in place of DISTCC_HOSTS\n"
    ++ codes "  --workers N    do at most N jobs at once, 1 to 16; 4 by default\n"
    ++ codes "  --tries N      try at most N hosts for a job, 1 to 16; 1 by default\n"
    ++ codes "  --no-fallback  don't compile here what no host compiled\n"
    ++ codes "  --no-retry     don't compile here what failed on a host\n"
    ++ codes "\n"
    ++ codes "The host list: words apart by blanks, 16 hosts at most; # begins a comment.\n"
    ++ codes "  NAME[:PORT][/LIMIT]    a host, by default at port 3632 and with 4 jobs at once\n"
    ++ codes "  localhost[/LIMIT]      this machine, without the network: 2 jobs at once\n"
    ++ codes "  --localslots=N         N jobs at once here that no host does; 4\n"
    ++ codes "  --localslots_cpp=N     is read, and limits nothing\n"
    ++ codes "  --randomize            jobs begin at different hosts\n"
    ++ codes "farm hosts prints it as it is read. A compile database becomes a job list by\n"
    ++ codes "farm_jobs.\n"

abbrev pub watch_help : List ℕ
watch_help =
    codes "Usage: farm watch [OPTION]...\n"
    ++ codes "Does the jobs on standard input as farm build does. While they are done it prints\n"
    ++ codes "on standard error, about each second, how far it has come, and then what farm\n"
    ++ codes "build prints.\n"
    ++ codes "\n"
    ++ codes "  watch I ended E of N busy B     line I: E of N jobs have ended, B are under way\n"
    ++ codes "  watch last ended N of N busy 0  all jobs have ended\n"
    ++ codes "  watch last no memory            the same, without memory for the lines\n"
    ++ codes "\n"
    ++ codes "  --lines N      print at most N lines before the last, 1 to 100; by default 10\n"
    ++ codes "\n"
    ++ codes "The other options and the host list are those of farm build. One of the 16 workers\n"
    ++ codes "that there may be keeps the time, so at most 15 jobs are done at once.\n"

abbrev pub graph_help : List ℕ
graph_help =
    codes "Usage: farm graph [OPTION]...\n"
    ++ codes "Does the jobs on standard input as farm build does, but level by level: a job\n"
    ++ codes "is run only when all that it needs were done with status 0. It is skipped if\n"
    ++ codes "one of them wasn't. Then it prints a line for each job, in their order.\n"
    ++ codes "\n"
    ++ codes "  needs: N...    a line of the list; the next job needs these jobs, by their\n"
    ++ codes "                 numbers, which count from 1. Several such lines add up.\n"
    ++ codes "\n"
    ++ codes "The options and the host list are those of farm build.\n"

abbrev pub cc_help : List ℕ
cc_help =
    codes "Usage: farm cc WORD...\n"
    ++ codes "Does the compile command that the words are, on the hosts of DISTCC_HOSTS, and\n"
    ++ codes "ends with the compiler's exit code. A command that may not be sent is run here\n"
    ++ codes "as it stands.\n"
    ++ codes "\n"
    ++ codes "Each command asks the hosts in the order of the list, from the first on. With\n"
    ++ codes "--randomize in the list each process begins at another one, so that make -j\n"
    ++ codes "uses them all. Below farm share each is given a slot of a host.\n"

abbrev pub share_help : List ℕ
share_help =
    codes "Usage: farm share [--hosts LIST] COMMAND [WORD]...\n"
    ++ codes "Runs COMMAND, and gives slots of the hosts to all farm cc below it, so that each\n"
    ++ codes "host has as many jobs at once as its limit says. It ends as COMMAND does:\n"
    ++ codes "\n"
    ++ codes "  farm share make -j16 CC='farm cc gcc'\n"
    ++ codes "\n"
    ++ codes "Who asks first is served first. A host that failed is asked by nobody until its\n"
    ++ codes "back-off ends. Commands that may not be sent wait for a local slot. A farm share\n"
    ++ codes "below another one uses the slots of that one, unless it has its own --hosts.\n"
    ++ codes "\n"
    ++ codes "  --hosts LIST   the host list, in place of DISTCC_HOSTS\n"
    ++ codes "\n"
    ++ codes "The status is that of COMMAND, 128 + N if signal N ended it, and 107 if it can't\n"
    ++ codes "be started.\n"

abbrev pub hosts_help : List ℕ
hosts_help =
    codes "Usage: farm hosts [--hosts LIST]\n"
    ++ codes "Prints the host list as farm reads it, one host a line.\n"
    ++ codes "\n"
    ++ codes "  --hosts LIST   the host list, in place of DISTCC_HOSTS\n"

abbrev pub scan_help : List ℕ
scan_help =
    codes "Usage: farm scan WORD...\n"
    ++ codes "Prints the class of the compile command that the words are: remote, with its\n"
    ++ codes "action, source and output, if it may be sent; or local, with the number and\n"
    ++ codes "the place of the reason, if it has to be done here.\n"
    ++ codes "\n"
    ++ codes "The reasons:\n"
    ++ codes "   1 neither -c nor -S         2 both of them            3 -E\n"
    ++ codes "   4 -M or -MM                 5 no source               6 two sources\n"
    ++ codes "   7 this machine's processor  8 profiles or coverage    9 -frepo\n"
    ++ codes "  10 -specs=                  11 -x                     12 -save-temps\n"
    ++ codes "  13 -d.. or -fdump-..        14 a listing of assembly  15 @FILE\n"
    ++ codes "  16 conftest.*               17 - as a file            18 no operand\n"
    ++ codes "  19 two outputs              20 another word           21 a file of its own\n"
    ++ codes "  22 an output that ends in .farm~\n"

abbrev pub rehearse_help : List ℕ
rehearse_help =
    codes "Usage: farm rehearse N\n"
    ++ codes "Does N made-up jobs, 1 to 512, in memory, by the program's own daemon and sample\n"
    ++ codes "compiler, without a host, a network or a compiler. Prints how many of them were\n"
    ++ codes "done with status 0, and how many bytes their objects have together.\n"

abbrev pub help_of : Option CommandName → List ℕ
help_of None = program_help
help_of (Some command.Build) = build_help
help_of (Some command.Watch) = watch_help
help_of (Some command.Graph) = graph_help
help_of (Some command.Cc) = cc_help
help_of (Some command.Hosts) = hosts_help
help_of (Some command.Scan) = scan_help
help_of (Some command.Rehearse) = rehearse_help
