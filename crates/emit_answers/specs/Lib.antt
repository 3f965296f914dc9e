pub mod EmitComplete
pub mod EmitPrinted
