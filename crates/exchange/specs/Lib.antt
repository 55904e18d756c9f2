pub mod Exchange
pub mod ExchangeValues
pub mod ExchangeLaws
pub mod ExchangeEnds
pub mod ExchangeSwaps
pub mod ExchangeTrials
pub mod ExchangeRounds
