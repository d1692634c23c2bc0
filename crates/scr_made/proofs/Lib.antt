mod Steps
mod NamesRead
pub mod Members
mod FormedRecords
mod ReadBack
mod Numbered
mod Runs
mod Sight
mod Built
mod Faultless
mod NoCycle
mod RowSteps
mod FundSteps
mod NumberSteps
mod FirstRecords
mod Payments
mod Components
mod Sections
mod Lengths
pub mod Sizes
