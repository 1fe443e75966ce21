-- The limits of the farm, in bytes if nothing else is said.
use Rattle.std.specs.Prelude.{ℕ}

-- the most words of a request
abbrev pub words_max : ℕ
words_max = 1024

-- the most bytes of one word of a request
abbrev pub word_max : ℕ
word_max = 65536

-- the most bytes of all words of a request together
abbrev pub words_bytes_max : ℕ
words_bytes_max = 1048576

-- the most bytes of a source
abbrev pub source_max : ℕ
source_max = 33554432

-- the most bytes of an object
abbrev pub object_max : ℕ
object_max = 33554432

-- the most bytes of messages on one stream of a reply
abbrev pub messages_max : ℕ
messages_max = 1048576

-- the most bytes that a preprocessor may write, and that a fetched source may have
abbrev pub preprocessed_max : ℕ
preprocessed_max = 41943040

-- the most bytes of standard output of a job that runs in place
abbrev pub in_place_out_max : ℕ
in_place_out_max = 8388608

-- the most bytes of standard error of any child
abbrev pub child_err_max : ℕ
child_err_max = 1048576

-- the most bytes of standard output of a compile
abbrev pub compile_out_max : ℕ
compile_out_max = 1048576

-- the most bytes of the text of a job list
abbrev pub job_list_max : ℕ
job_list_max = 16777216

-- the most jobs of one list
abbrev pub jobs_max : ℕ
jobs_max = 512

-- the most workers of `farm` and of `farmd`
abbrev pub workers_max : ℕ
workers_max = 16

-- the workers if no number is given
abbrev pub workers_default : ℕ
workers_default = 4

-- the most entries of a host list
abbrev pub hosts_max : ℕ
hosts_max = 16

-- the greatest limit of a host entry, and the greatest number of local slots
abbrev pub slots_max : ℕ
slots_max = 255

-- the longest back-off period, in seconds
abbrev pub period_max : ℕ
period_max = 1000000

-- the back-off period if none is given, in seconds
abbrev pub period_default : ℕ
period_default = 60

-- the most connections that one worker of `farmd` serves
abbrev pub connections_max : ℕ
connections_max = 100000

-- the most bytes of a host's name
abbrev pub host_name_max : ℕ
host_name_max = 255

-- the greatest port
abbrev pub port_max : ℕ
port_max = 65535

-- the port of a host and of `farmd` if none is given
abbrev pub port_default : ℕ
port_default = 3632

-- the most access rules of `farmd`
abbrev pub rules_max : ℕ
rules_max = 64

-- the most compilers in the table of `farmd`
abbrev pub compilers_max : ℕ
compilers_max = 64

-- the most MiB of the cache of one door
abbrev pub cache_max : ℕ
cache_max = 128

-- the most lines that show a build while it runs
abbrev pub lines_max : ℕ
lines_max = 100

-- the most bytes that one receive, or one read of what a program left, has room for
abbrev pub piece_max : ℕ
piece_max = 65536
