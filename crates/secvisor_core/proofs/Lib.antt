pub mod Served
mod Slotted
mod Called
mod Given
pub mod Accepted
mod FreePages
mod LastWhole
mod Loaded
mod TextPages
mod Walk
mod Written
