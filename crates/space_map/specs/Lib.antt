pub use Rattle.vax_pte.specs.declared.Place
pub mod Space
pub mod Tables
pub mod Fields
pub mod SpaceFields
