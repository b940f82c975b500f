pub mod Readiness
pub mod LoaderSteps
pub mod WorkerSteps
