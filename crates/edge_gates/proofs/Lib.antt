mod Counts
mod GateSteps
mod MarkSteps
