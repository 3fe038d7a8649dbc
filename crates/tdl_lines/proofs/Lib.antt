pub mod DotLemmas
pub mod FirstFault
pub mod Examples
