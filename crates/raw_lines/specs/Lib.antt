pub mod Marks
pub mod Beginnings
pub mod Fields
pub mod Plain
pub mod Mends
pub mod Splices
pub mod Numbers
pub mod Makers
