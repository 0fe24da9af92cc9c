pub mod Walk
pub mod Again
