-- The examples that a wrong reading of a rule breaks.
pub mod Examples
pub mod Computing
pub mod Plant
pub mod OpenExamples
pub mod AcceptedExamples
pub mod RemovalExamples
pub mod ObjectExamples
pub mod Sessions
pub mod RoutingExamples
pub mod Small
pub mod ReceiveExamples
pub mod ProduceExamples
pub mod TimeExamples
pub mod HostExamples
pub mod SetupExamples
pub mod AnswerExamples
