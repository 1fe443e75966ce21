-- The numbers of the reasons for which a command stays on this machine.
use Rattle.std.specs.Prelude.{ℕ}

-- neither -c nor -S is asked for
abbrev pub no_action : ℕ
no_action = 1

-- -c and -S are both asked for
abbrev pub both_actions : ℕ
both_actions = 2

-- the command only preprocesses
abbrev pub preprocess : ℕ
preprocess = 3

-- the command only lists dependencies
abbrev pub depend : ℕ
depend = 4

-- no source is named
abbrev pub no_input : ℕ
no_input = 5

-- a second source is named
abbrev pub many_inputs : ℕ
many_inputs = 6

-- the target is this machine's own processor
abbrev pub native : ℕ
native = 7

-- profiles or coverage write and read files beside the object
abbrev pub profile : ℕ
profile = 8

-- a file of templates is written beside the object
abbrev pub repo : ℕ
repo = 9

-- a file is read that changes what options mean
abbrev pub specs : ℕ
specs = 10

-- the language is set whatever the source's name says
abbrev pub language : ℕ
language = 11

-- files of the compiler's steps are written beside the object
abbrev pub save_temps : ℕ
save_temps = 12

-- files or text of the compiler's inner state are written
abbrev pub dump : ℕ
dump = 13

-- an option for the assembler asks for a listing or for dependencies, or can't be judged
abbrev pub asm_listing : ℕ
asm_listing = 14

-- a file with more words is named
abbrev pub response_file : ℕ
response_file = 15

-- a configure script's trial source
abbrev pub conftest : ℕ
conftest = 16

-- a standard stream is the source or the output
abbrev pub standard_stream : ℕ
standard_stream = 17

-- the operand of the last word's option is missing
abbrev pub missing_operand : ℕ
missing_operand = 18

-- a second output is named
abbrev pub many_outputs : ℕ
many_outputs = 19

-- a word is no option and no source
abbrev pub other_word : ℕ
other_word = 20

-- an option reads or writes a file of its own, or can't be judged
abbrev pub side_file : ℕ
side_file = 21

-- the output's name is one of those that are kept for files of the farm's own
abbrev pub reserved_name : ℕ
reserved_name = 22
