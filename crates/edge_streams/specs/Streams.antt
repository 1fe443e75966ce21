-- The standard streams.
use Rattle.std.specs.Prelude.{pos, ◌≤ℤ◌}
use Rattle.std.specs.declared.fs.File.{File}
use Rattle.std.specs.Fd.{file_raw_fd}
use Rattle.edge_streams.specs.declared.waiting_stream.WaitingStream.{WaitingStream}

-- A file has the number of a standard stream: that of the standard error is 2.
abbrev pub StandsInPlace : File → Type 0
StandsInPlace file = file_raw_fd file ≤ℤ pos 2

-- the stream of one that waits
abbrev pub beneath : {R S : Type 0} → WaitingStream R S → S
beneath waiting = waiting.stream
