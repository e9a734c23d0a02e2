mod Accepted
mod Listed
