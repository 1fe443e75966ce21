pub mod FileMaps
