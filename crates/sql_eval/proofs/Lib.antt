mod Columns
mod Passed
mod Truths
mod Valued
