pub mod Splits
pub mod Listings
pub mod Segments
pub mod Padding
pub mod Limits
pub mod Makings
pub mod Programs
pub mod Lacking
