pub mod MemberParts
pub mod Places
pub mod RowSums
pub mod SmallPoints
