pub mod PolicyWords
pub mod PlanWalks
pub mod PlansRun
pub mod TextMeasured
pub mod ResumesRun
pub mod Guaranteed
pub mod ProgramHolds
pub mod SnapResumed
