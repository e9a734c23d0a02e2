mod Methods
mod Examples
mod Written
