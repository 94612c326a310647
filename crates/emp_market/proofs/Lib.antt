pub mod AcceptLists
pub mod AcceptOwners
pub mod AcceptDefines
pub mod AcceptForms
pub mod AcceptConvex
pub mod AcceptSizes
pub mod AcceptMarkets
