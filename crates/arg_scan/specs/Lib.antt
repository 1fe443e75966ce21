pub mod Names
pub mod Roles
pub mod Forces
pub mod Class
pub mod Seen
