pub mod Complete
mod Read
pub mod Runs
mod Atoms
mod Selected
pub mod Sofar
mod Alive
mod Judged
mod Told
mod Examples
mod ExampleRefusals
mod ExampleEvents
mod ExampleEdges
