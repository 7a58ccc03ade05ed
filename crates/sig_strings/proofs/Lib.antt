mod EditsLemmas
mod FitsLemmas
mod HoleLemmas
mod ReadingLemmas
mod SpellsLemmas
mod TotalLemmas
