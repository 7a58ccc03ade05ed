mod Folds
mod Columned
mod Patterned
mod Judged
mod Deep
mod Literals
