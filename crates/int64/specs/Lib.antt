pub mod Num
pub mod SignAndSize
