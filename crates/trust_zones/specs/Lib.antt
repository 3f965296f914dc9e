pub mod ZoneKeys
pub mod ZoneChecks
pub mod ZoneFiles
pub mod Zones
pub mod ZoneRuns
