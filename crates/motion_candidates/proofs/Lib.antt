pub mod Products
pub mod Lists
pub mod FilterMap
pub mod Completed
pub mod First
pub mod Choice
pub mod Sought
