pub mod Told
pub mod Grouping
pub mod Rising
pub mod InRange
pub mod SetParts
