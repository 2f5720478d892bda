pub mod Entry
pub mod SourceMap
