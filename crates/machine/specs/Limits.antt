-- How high the counts of a machine may come, as it is said of its parts. This project's own.
pub use Rattle.machine.specs.EventsLimits.{max_counts}
