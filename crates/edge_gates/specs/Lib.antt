pub mod GateReply
pub mod GateRule
pub mod GateUsers
pub mod MarkRule
pub mod MarkUsers
pub mod Gates
