mod Turns
mod Shown
mod NotsIn
