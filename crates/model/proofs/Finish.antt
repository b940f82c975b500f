-- Part F, the finish: from every state that meets the invariant a schedule removes every command and leaves every thread idle, within a
-- bound. Assumes nothing.
pub mod Count
pub mod Foremost
pub mod Present
pub mod Measure
pub mod Onward
pub mod Chosen
pub mod Idle
pub mod Schedule
pub mod Bound
pub mod Left
pub mod Ends
pub use Schedule.{steps_tell}
pub use Bound.{unremoved}
pub use Left.{counts_same, left_unremoved}
pub use Ends.{Finished, Finishes, dispatch_finishes, schedule_finishes}
