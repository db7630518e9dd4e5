pub mod Laws
pub mod LeftOut
pub mod LeftOutCalls
