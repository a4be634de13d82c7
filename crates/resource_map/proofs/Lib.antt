pub mod RoomLaws
pub mod BlockLaws
pub mod ExtentLaws
pub mod AllocLaws
pub mod FreeLaws
