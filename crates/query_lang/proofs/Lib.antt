mod Examples
mod Refusing
mod Unrefused
pub mod Finding
pub mod Text
