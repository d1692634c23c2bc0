pub mod Places
pub mod Settled
mod Seated
pub mod SeatLists
mod SeatedTables
pub mod SeatMoves
pub mod SeatRolls
pub mod SeatTables
pub mod SeatReturns
mod SeatGrowth
mod SeatLoops
mod SeatComings
mod Examples
mod Benches
