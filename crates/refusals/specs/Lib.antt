pub mod Answer
pub mod AnswerAt
pub mod Table
pub mod Each
pub mod Says
pub mod Words
pub mod Memory
