pub mod Checks
pub mod Front
pub mod Keeps
pub mod PendingStep
pub mod SactStep
pub mod UngetStep
