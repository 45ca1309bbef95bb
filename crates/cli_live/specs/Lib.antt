pub mod Drives
pub mod Inputs
pub mod LiveAnswers
pub mod LiveReady
pub mod LiveRuns
pub mod Replays
pub mod Coming
pub mod LiveEnds
