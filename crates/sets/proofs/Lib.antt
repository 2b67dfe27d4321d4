pub mod Families
pub mod Laws
pub mod MemberLists
pub mod PairLaws
pub mod Sums
pub mod Turns
