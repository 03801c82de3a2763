pub mod Places
pub mod ConstraintsLeft
pub mod ModelOverBox
pub mod RestKept
pub mod RenamedLaw
pub mod RestLaw
pub mod UniqueRest
pub mod MadeRest
