pub mod Commands
pub mod RunFolders
pub mod Refusals
