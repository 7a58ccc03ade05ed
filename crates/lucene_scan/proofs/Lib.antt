mod Walked
mod Decimals
mod Judged
mod Nested
