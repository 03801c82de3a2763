pub mod Grammar
pub mod Rules
pub mod States
pub mod Laws
pub mod Examples
