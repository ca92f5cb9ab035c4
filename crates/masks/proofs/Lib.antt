pub mod ByCode
pub mod ByKind
pub mod ByRow
pub mod Filling
pub mod ParameterMask
