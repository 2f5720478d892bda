pub mod Place
pub mod Says
