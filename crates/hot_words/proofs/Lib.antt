pub mod WordNumbers
pub mod PlaceSteps
pub mod FileNames
pub mod WideRatios
