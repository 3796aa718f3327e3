-- Names, types and terms.
pub mod HolTypeEq
pub mod Orders
pub mod FreeVariables
pub mod Typing
pub mod Membership
pub mod Images
pub mod TypeTests
pub mod SameValue
pub mod TotalOrders
pub mod Filling
pub mod Instances
pub mod NamedTests
pub mod Measures
pub mod WithinLimits
