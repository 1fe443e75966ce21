pub mod FileViews
pub mod Staging
pub mod ScriptedFiles
