pub mod FromFn
pub mod LittleEndian
pub mod TwosComplement
pub mod Written
