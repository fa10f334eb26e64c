pub mod Readings
pub mod Passing
pub mod FormulaSayings
pub mod ExpressionSayings
pub mod ConditionSayings
pub mod InstructionSayings
pub mod GroupSayings
pub mod NumberSayings
