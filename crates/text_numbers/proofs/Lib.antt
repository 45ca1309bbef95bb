pub mod HexadecimalRead
pub mod HexadecimalPrinted
pub mod AddressesBack
pub mod AddressBytes
pub mod DigestsPrinted
