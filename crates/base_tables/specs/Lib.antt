pub mod Regions
pub mod Tables
pub mod Store
pub mod Ring
pub mod Slots
pub mod Grow
pub mod RegionWrites
pub mod RingRead
