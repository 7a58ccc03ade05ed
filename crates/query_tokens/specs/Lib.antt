pub mod Places
pub mod PlaceView
pub mod Tokens
pub mod Spelled
