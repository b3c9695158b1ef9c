pub mod EnergyText
