pub mod PlanPlaces
pub mod Splices
