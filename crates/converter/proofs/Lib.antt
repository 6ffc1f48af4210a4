mod Bits
mod Events
mod Extremes
pub mod Made
pub mod StationFirst
pub mod SameDevice
pub mod Station
pub mod Wire
mod Listed
pub mod Corners
pub mod Sound
mod Neighbours
pub mod History
pub mod Reached
pub mod Entries
pub mod Corollaries
pub mod Writes
mod Snapshot
mod Shown
pub mod Agrees
mod AcceptedWrites
pub mod Warnings
pub mod Jumps
pub mod Probes
pub mod Pulling
pub mod Monotone
pub mod Panel
pub mod Example
pub mod Starred
