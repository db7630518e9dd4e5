-- Devices.
pub mod Device
