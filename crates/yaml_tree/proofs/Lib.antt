pub mod FoundValues
pub mod NodeViews
