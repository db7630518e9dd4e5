-- Which events are handed out at which line, and before a fault.
pub mod EventLines
pub mod ClosingLines
pub mod EventsAtFault
pub mod WholeVerdict
pub mod FedLines
