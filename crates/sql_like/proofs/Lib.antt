mod Means
mod Fronts
