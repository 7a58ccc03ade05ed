mod Decided
mod Founds
mod Going
mod Made
mod Meaning
mod Networks
mod Standing
mod Truths
