pub mod CommonLemmas
pub mod WordLemmas
