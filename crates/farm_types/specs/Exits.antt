-- The exit statuses of the programs, and the exit code of a wait status.
use Rattle.std.specs.Prelude.{ℕ, ◌/◌, ◌%◌, ◌==◌, if◌then◌else◌}

-- a sink failed or took 0 bytes
abbrev pub stopped_status : ℕ
stopped_status = 100

-- the words of a command, or what its environment says, don't fit
abbrev pub bad_words_status : ℕ
bad_words_status = 101

-- no link to a host could be made
abbrev pub no_link_status : ℕ
no_link_status = 103

-- a wait status that gives no exit code of its own
abbrev pub no_code_status : ℕ
no_code_status = 104

-- memory ran out
abbrev pub memory_status : ℕ
memory_status = 105

-- the host list has a fault
abbrev pub bad_hosts_status : ℕ
bad_hosts_status = 106

-- an input, a file, a program or a link failed
abbrev pub fault_status : ℕ
fault_status = 107

-- a reply ended too early
abbrev pub truncated_status : ℕ
truncated_status = 108

-- a text is out of form: a job list, a compile database or a reply
abbrev pub bad_text_status : ℕ
bad_text_status = 109

-- no host could be asked
abbrev pub no_host_status : ℕ
no_host_status = 116

-- a job was left out, since one that it needs went wrong
abbrev pub skipped_status : ℕ
skipped_status = 117

-- 0 for status 0; else the program's own code, if it ended by itself with a code other than 0; else 104
abbrev pub exit_code_of : ℕ → ℕ
exit_code_of status =
    if status == 0 then 0
    else if status % 128 == 0 then own_code (status / 256 % 256)
    else no_code_status
  where
    own_code : ℕ → ℕ
    own_code code = if code == 0 then no_code_status else code
