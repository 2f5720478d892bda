pub mod Petscreen
