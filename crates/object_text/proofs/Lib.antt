pub mod Components
pub mod Cuts
pub mod Numerals
pub mod NumbersWritten
pub mod SetReading
pub mod StringReading
