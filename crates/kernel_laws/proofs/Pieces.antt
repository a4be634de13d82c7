-- That the pieces of swap which are found and given back are those that a change asks for.
pub mod GivenBack
pub mod Sizes
pub mod Found
pub mod Wanted
pub mod Starts
