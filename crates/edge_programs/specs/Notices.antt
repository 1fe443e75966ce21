-- What is said of a run that failed.
use Rattle.std.specs.Prelude.{ℕ, List, codes}
use Rattle.edge_traits.specs.declared.faults.Stream.{Stream}
use Rattle.edge_traits.specs.declared.faults.Stream.TheVariants.{Out, Err, Object}

abbrev pub stream_text : Stream → List ℕ
stream_text Out = codes "its standard output"
stream_text Err = codes "its standard error"
stream_text Object = codes "its object"
