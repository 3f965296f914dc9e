pub mod ReachComplete
pub mod ReachPrinted
pub mod ZoneRefusals
