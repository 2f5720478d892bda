-- What a layout is. The contracts of this crate, and of those above it, cite it.
pub mod Layout
