mod Sizing
mod Acting
mod WholeSteps
mod AddedLaw
