pub mod PastRuns
