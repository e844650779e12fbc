-- What stands at the places that a function is told: the functions that other crates call ask for it.
use Rattle.std.specs.Prelude.{◌≡◌, List, ℕ, ◌+◌, ◌≤◌, length}
use Rattle.terms.specs.Parser.{got}
use Rattle.terms.specs.Term.{Term, Parts, node, bytes}
use Rattle.terms.specs.Words.Held.{Held}
use Rattle.terms.specs.Shape.{nominal, done}
use Rattle.terms.specs.Formed.{Formed, Fit}
use Rattle.terms.specs.declared.Parameters.{Parameters}
use Rattle.terms.specs.Questions.{Parameter}
use Rattle.terms.specs.Parameters.{listed}
use Rattle.terms.specs.Recovery.{recover_from}

-- a formed term
pub record FormedAt (ks vs : List ℕ) (p : ℕ) : Type 0 where
  pub term : Term
  pub held : Held ks vs p term
  pub formed : Formed term

-- a bare nominal that keeps to its layout
pub record BareAt (ks vs : List ℕ) (p : ℕ) : Type 0 where
  pub row : Parts
  pub held : Held ks vs p (node 20 row)
  pub fit : Fit (nominal done) row

-- so many parameters, in the bytes
pub record ParametersAt (l : Parameters) : Type 0 where
  pub list : List Parameter
  pub next : ℕ
  pub read : listed l ≡ got list next

-- two formed terms, and the first with its holes filled from the second has room in the output from a position on
pub record RecoversAt (ks vs : List ℕ) (a b : ℕ) (out : List ℕ) (at : ℕ) : Type 0 where
  pub left : FormedAt ks vs a
  pub right : FormedAt ks vs b
  pub room : at + length (bytes (recover_from left.term right.term)) ≤ length out
