pub mod Scanned
mod Escapes
mod Laid
mod LeafRead
mod Numbers
mod Ranges
mod Selection
