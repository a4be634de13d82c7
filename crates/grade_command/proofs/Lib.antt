mod Entries
mod Parting
mod Going
mod Comparisons
mod Lookups
mod Readings
