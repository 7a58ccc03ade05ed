pub mod Complete
mod Read
pub mod Runs
mod Sofar
mod Fewer
mod Rises
mod Alive
mod Judged
mod Told
mod Examples
mod ExampleTables
mod ExampleEdges
mod ExampleRegexps
