mod ByteExamples
pub mod Faults
pub mod Known
pub mod Numbers
pub mod NumberReads
pub mod SharedKeys
pub mod RestsOfBytes
pub mod Taking
pub mod Causes
pub mod PartFaults
pub mod Whole
pub mod WholeFaults
pub mod WrittenNumbers
