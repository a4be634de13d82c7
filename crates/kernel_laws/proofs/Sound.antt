-- That a machine which has not stopped stays sound, with no flat state in sight.
pub mod Steps
pub mod Changes
pub mod Residing
pub mod NumbersApart
pub mod Allowed
pub mod Begins
