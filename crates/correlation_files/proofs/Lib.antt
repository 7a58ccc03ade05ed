mod Placed
mod Growing
mod Fitting
mod Documents
mod Gathering
mod Filed
mod Verdicts
mod Binds
