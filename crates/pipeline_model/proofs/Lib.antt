mod Unrefused
mod Examples
mod Numbered
