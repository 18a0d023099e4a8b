-- For crates above: those that are `pub`.
mod Examples
mod HeadSteps
mod HeaderSteps
mod IndexSteps
mod SupportSteps
mod Apart
mod Survival
pub mod Passing
pub mod FileSteps
mod IndexSurvival
mod HeaderSurvival
mod Numbers
pub mod Lists
