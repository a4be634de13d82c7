pub use Rattle.table_view.specs.Shown as TableViewShown
pub use Rattle.table_view.specs.Views
pub mod Front
pub mod Joining
