pub mod Asking
mod Calls
mod Choosing
mod Dues
mod Giving
mod Insertion
mod Later
pub mod Lists
mod Looking
mod Meeting
mod Moves
mod Pieces
mod Scans
pub mod SeatLists
mod Seated
pub mod SeatedScans
mod Seating
pub mod TakenLists
mod Taking
mod Waiting
