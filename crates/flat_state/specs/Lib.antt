pub use Rattle.aout_image.specs.Image as AoutImageImageSpecs
pub use Rattle.aout_image.specs.declared.Image as AoutImageImage
pub mod Space
pub mod Flat
pub mod Change
pub mod Journal
pub mod Lenders
pub mod Numbers
pub mod PageNames
pub mod Writes
