-- What the flat machine's changes keep of numbers, lists and lenders.
pub mod Numbered
pub mod Lists
pub mod Numbers
pub mod Lenders
