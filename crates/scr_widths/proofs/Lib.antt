mod RowSums
pub mod Loads
pub mod SumWidths
pub mod Tables
pub mod Cleared
pub mod InterestWidths
pub mod CurrencyWidths
pub mod MarketWidths
pub mod DefaultWidths
pub mod LifeWidths
pub mod NonlifeWidths
pub mod LossWidths
pub mod AllWidths
pub mod NearChoices
