pub mod Agreement
pub mod ChurnLines
pub mod ChurnWork
pub mod Counting
mod Deliveries
mod DrawnLabels
pub mod DrawnLines
mod Echoed
pub mod Following
pub mod Heard
mod InTurn
mod Items
mod LineWork
pub mod Lines
mod MailHeld
pub mod Members
mod OutputAlone
mod Paying
pub mod Played
mod ReadBack
mod RehearsalEnds
pub mod SaidAll
mod Scripts
pub mod Sends
mod Spent
pub mod Starting
pub mod Summed
pub mod SummedTexts
mod Tells
mod Who
mod Works
