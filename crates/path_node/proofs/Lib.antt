mod Cutting
mod Rates
mod Fronts
mod Throughs
