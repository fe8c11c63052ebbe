pub mod Alone
pub mod Choices
pub mod Demands
pub mod Nogoods
pub mod Numbers
pub mod Settling
