pub mod BitmapLaws
pub mod TableLaws
