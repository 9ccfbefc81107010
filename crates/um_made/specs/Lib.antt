pub mod Views
pub mod Makes
pub mod RowWords
pub mod ColumnWords
pub mod NumberSteps
pub mod SetWords
pub mod NamedWords
pub mod Parts
