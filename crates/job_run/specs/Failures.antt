-- What a fault of a device makes of a job.
use Rattle.edge_traits.specs.declared.faults.EdgeFault.{EdgeFault}
use Rattle.edge_traits.specs.declared.faults.EdgeFault.TheVariants as edge
use Rattle.edge_traits.specs.declared.faults.StationFault.{StationFault}
use Rattle.edge_traits.specs.declared.faults.StationFault.TheVariants as station
use Rattle.edge_traits.specs.declared.faults.FetchFault.{FetchFault}
use Rattle.edge_traits.specs.declared.faults.FetchFault.TheVariants as fetch
use Rattle.farm_machine.specs.declared.reports.Why5.{Why5}
use Rattle.farm_machine.specs.declared.reports.Why5.TheVariants.{Station, Put, Fetch, Memory}

-- a run that failed or gave too much, or that ran out of memory
abbrev pub station_failure : StationFault → Why5
station_failure station.Failed = Station
station_failure (station.TooMuch stream bytes) = Station
station_failure station.Memory = Memory

-- a fetch that failed, or of a file that isn't there or is too long, or that ran out of memory
abbrev pub fetch_failure : FetchFault → Why5
fetch_failure fetch.Failed = Fetch
fetch_failure fetch.Absent = Fetch
fetch_failure (fetch.TooMuch bytes) = Fetch
fetch_failure fetch.Memory = Memory

-- a put that failed, or that ran out of memory
abbrev pub put_failure : EdgeFault → Why5
put_failure edge.Failed = Put
put_failure edge.Memory = Memory
