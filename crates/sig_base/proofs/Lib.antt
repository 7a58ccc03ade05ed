pub mod Checks
pub mod DigitLemmas
pub mod Firsts
pub mod Puts
pub mod Same
pub mod TextLemmas
