mod Digits
mod Walked
mod Nested
mod Judged
