pub mod PartLemmas
pub mod BlockTests
pub mod Regrouped
pub mod SameMembers
pub mod BlockChanges
pub mod TopChanges
pub mod ChangedLists
pub mod ListedSums
pub mod BlockSizes
pub mod Partition
pub mod Read
pub mod Once
mod Examples
