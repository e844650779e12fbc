-- Laws: the Rust's `Solver` answers as the definition.
--   RustShapes  the Rust's `same_shape` is equality of shapes up to Set and Map access
--   RustPasses  the Rust's `resolve` and its loop go as the theory's
--   RustLaws    the Rust's `Solver` answers as the definition does, and never panics
pub mod RustShapes
pub mod RustPasses
pub mod RustLaws
