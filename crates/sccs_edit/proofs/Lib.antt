pub mod PendingLaws
pub mod SactLaws
pub mod UngetLaws
