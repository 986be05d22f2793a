pub mod TwoMembers
