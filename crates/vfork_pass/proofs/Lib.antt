pub mod Walk
pub mod FirstLender
pub mod Lives
pub mod Returned
