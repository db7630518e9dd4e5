-- Worked cases, by type.
mod Tables
mod Decimals
mod Floats
mod Octets
mod Moments
mod MomentOrder
mod Durations
mod DurationOrder
mod Uris
