pub mod Written
pub mod LineTexts
pub mod Members
pub mod Laws
