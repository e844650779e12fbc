-- The theory of the solver, handed on to the sheet.
pub use Rattle.unify.specs.Solver
