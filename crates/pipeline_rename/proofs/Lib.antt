mod NameLists
mod Legality
mod Once
mod Totals
mod Fronts
mod Knowing
mod WholeNames
