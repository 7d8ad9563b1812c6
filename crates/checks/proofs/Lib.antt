pub mod FaultLaws
pub mod CountLaws
