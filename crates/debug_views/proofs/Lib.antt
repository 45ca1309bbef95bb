pub mod SeenBytes
pub mod PageRuns
pub mod WalkLines
