pub mod Followed
pub mod Judges
pub mod Laws
pub mod References
pub mod ReportLaws
pub mod Lines
