-- What lent bindings say: definitions of this folder and of crate terms, of one value.
use Rattle.std.specs.Prelude.{List, ℕ, ◌-◌, ◌≤◌, ◌<◌, length}
use Rattle.std.proofs.Math.Option.{Option}
use Rattle.terms.specs.Term.{Term, Parts, Held}
use Rattle.terms.specs.Words.Held.{HeldParts}
use Rattle.terms.specs.declared.Part.{Part}
use Rattle.solver.specs.declared.Bindings.{Bindings}
use Rattle.solver.specs.declared.Run.{Run}
use Rattle.solver.specs.declared.Stand.{Stand}
use Rattle.solver.specs.Words.Bindings.{HeldBindings}
use Rattle.solver.specs.Words.ChainRecord.{chain_ends}
use Rattle.solver.specs.Words.ResolveWalk.{walked, flat_bytes, standing_at, resolved_bytes}
use Rattle.solver.specs.Words.ResolveFrames.{Settled}

-- the term t is at p, and the parts ps are that part of the tokens
abbrev pub HeldBy : Bindings → ℕ → Term → Type 0
HeldBy x p t = Held x.tokens.kinds.now x.tokens.vals.now p t

abbrev pub RowBy : Bindings → Part → Parts → Type 0
RowBy x a ps = HeldParts x.tokens.kinds.now x.tokens.vals.now a.from a.end ps

-- they are the bindings b
abbrev pub Binds : Bindings → (ℕ → Option Term) → Type 0
Binds x b = HeldBindings x.tokens.kinds.now x.tokens.vals.now x.bound.now b

-- in the place of the bindings they have the ends of the chains of b, after so many bindings
abbrev pub Ends : Bindings → (ℕ → Option Term) → Type 0
Ends x b = HeldBindings x.tokens.kinds.now x.tokens.vals.now x.bound.now (chain_ends x.most b)

-- the bytes of a run, and of the term at p, bound variables replaced
abbrev pub walked_bytes : Bindings → Run → List ℕ
walked_bytes x r = flat_bytes (walked x.tokens.kinds.now x.tokens.vals.now x.bound.now x.most r.at r.len)

abbrev pub resolved_bytes_at : Bindings → ℕ → List ℕ
resolved_bytes_at x p = resolved_bytes x.tokens.kinds.now x.tokens.vals.now x.bound.now x.most p

-- a walk has come to a token that is not entered; and the bytes of what stands there
pub record Passed (x : Bindings) (c : Stand) : Type 0 where
  pub within : c.at < length x.tokens.kinds.now
  pub depth : c.depth ≤ x.most

abbrev pub standing_bytes : Bindings → Stand → List ℕ
standing_bytes x c = flat_bytes (standing_at x.tokens.kinds.now x.tokens.vals.now x.bound.now (x.most - c.depth) c.at)

-- after `settle`, from the frames and the place of before
abbrev pub WalkSettled : Bindings → (st₀ : List ℕ) → Stand → (st : List ℕ) → Stand → Type 0
WalkSettled x st₀ from st to = Settled x.tokens.kinds.now x.tokens.vals.now x.bound.now x.most st₀ from st to
