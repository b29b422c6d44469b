pub mod Kinds
pub mod Sets
pub mod Results
pub mod Answer
