-- The theorems over runs, apart from the definitions that they are stated on: so a wrong definition is refused here.
pub mod Bounds
pub mod RunBit
pub mod Streams
