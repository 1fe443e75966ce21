pub mod PrintLemmas
pub mod EndLemmas
mod ReadLemmas
