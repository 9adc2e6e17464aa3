pub mod Values
pub mod Parts
pub mod PictureJson
pub mod EventsJson
pub mod Worked
