pub mod Causes
pub mod Firsts
pub mod LastName
pub mod Places
