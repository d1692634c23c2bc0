pub mod Dates
pub mod Lanes
pub mod Texts
pub mod Anniversaries
pub mod LastDays
pub mod Found
