pub mod HolderNames
pub mod FundRows
pub mod SeenThrough
pub mod Walks
