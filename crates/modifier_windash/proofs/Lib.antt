mod Counting
mod Fitting
mod Standing
mod Writing
