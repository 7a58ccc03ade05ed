pub mod SuffixLemmas
mod WalkLemmas
