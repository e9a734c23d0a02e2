pub mod Common
mod Led
mod Stands
mod Does
mod Values
mod Flows
mod Runs
mod Ends
mod AsMeant
mod Growing
