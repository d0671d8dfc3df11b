-- what is claimed
pub mod Demands
pub mod Feeding
pub mod Tried
pub mod BesidePlain
pub mod BesideMachine
pub mod FirstNumber
-- the examples
pub mod Examples
pub mod CaseExample
pub mod DemandExample
pub mod FieldsExample
pub mod EarlyExample
pub mod TriedExample
