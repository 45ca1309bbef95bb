pub mod Starts
pub mod ResumeLaw
pub mod GuaranteedLaw
pub mod ProgramLaw
pub mod SnapResumed
