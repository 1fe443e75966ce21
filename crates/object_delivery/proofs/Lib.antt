mod FileMapLemmas
mod StagedNames
mod Filling
mod Delivering
