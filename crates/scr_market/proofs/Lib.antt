pub mod EquityBounds
pub mod PropertyLemmas
pub mod SpreadLemmas
pub mod CurrencyLemmas
pub mod MarketLemmas
