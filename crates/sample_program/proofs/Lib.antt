pub mod RunLemmas
pub mod FetchLemmas
pub mod LinkLemmas
pub mod FormLemmas
