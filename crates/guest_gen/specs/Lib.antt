pub mod Images
pub mod GuestCode
pub mod Generated
pub mod Booting
