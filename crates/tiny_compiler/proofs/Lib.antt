pub mod Common
mod OneProgram
mod Lists
mod Fitting
mod LaidOut
mod CodeImages
