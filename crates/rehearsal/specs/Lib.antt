pub mod WorkloadRuns
pub mod Puts
pub mod Devices
pub mod Counts
pub mod Rehearsals
pub mod Loops
