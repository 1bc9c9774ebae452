mod SeatLists
mod SetSeats
mod Tallying
mod Visiting
