pub mod EachLemmas
pub mod Jsons
pub mod MomentLemmas
pub mod Nuls
pub mod Numerals
pub mod PlainTexts
pub mod QuadLemmas
pub mod RepeatLemmas
pub mod RowLemmas
pub mod SchemaLemmas
pub mod SchemaNames
pub mod SchemaShapes
pub mod Takings
mod Lexed
mod Quoted
mod Taken
