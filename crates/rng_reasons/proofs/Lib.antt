mod Allowed
mod NamesInPatterns
mod LeftPatterns
mod TagReasons
mod StayingFaults
mod ToldReasons
mod FoundOptions
