-- What a term has with its bound variables replaced, found without replacing them: question v + 1 asks for the variable v, question 0 for
-- an Unknown or Error.
use Rattle.std.specs.Prelude.{Bool, true, false, ◌&&◌, ◌||◌, List, [], ◌∷◌, ◌⊎◌, ◌≡◌, ℕ, zero, suc, pred, ◌<◌, eqb, length, get_or}
use Rattle.std.proofs.Math.Option.{Option, none, some}
use Rattle.terms.specs.Words.Tokens.{Item, item, toks}
use Rattle.terms.specs.Term.{Term, var}
use Rattle.terms.specs.Questions.{meets}
use Rattle.solver.specs.declared.reach.Wanted.{Wanted}
use Rattle.solver.specs.declared.reach.Wanted.TheVariants.{Recovery, Variable}
use Rattle.solver.specs.Constrain.{resolve, follow, recovery, is, always}
use Rattle.solver.specs.Words.ResolveWalk.{run_len}

-- the number of a question
abbrev pub question_of : Wanted → ℕ
question_of Recovery = 0
question_of (Variable v) = suc v

-- ---- of tokens

-- whether a token of kind k and value x is what is asked for: kinds 4 and 5 are the heads of Unknown and Error
unfoldable pub counts : ℕ → ℕ → ℕ → Bool
counts zero k x = eqb k 4 || eqb k 5
counts (suc v) k x = eqb k 1 && eqb v x

unfoldable pub has : ℕ → List Item → Bool
has q [] = false
has q (item k x ∷ l) = counts q k x || has q l

-- the run that a word names
abbrev pub run_of : List ℕ → List ℕ → ℕ → List Item
run_of ks vs word = toks ks vs (pred word) (run_len ks vs word)

-- the variables of the table that are reached from the tokens of a run through bindings
pub data Reach (ks vs bs : List ℕ) (root : List Item) : ℕ → Type 0 where
  first : {v : ℕ} → v < length bs → has (suc v) root ≡ true → Reach ks vs bs root v
  next : {u v : ℕ} → Reach ks vs bs root u → v < length bs → has (suc v) (run_of ks vs (get_or bs u 0)) ≡ true → Reach ks vs bs root v

-- the answer, on any words
pub record Told (ks vs bs : List ℕ) (root : List Item) (q : ℕ) (hit : Bool) : Type 0 where
  pub no : hit ≡ false → (has q root ≡ false) × ((u : ℕ) → Reach ks vs bs root u → has q (run_of ks vs (get_or bs u 0)) ≡ false)
  pub yes : hit ≡ true → (has q root ≡ true) ⊎ ((u : ℕ) × Reach ks vs bs root u × (has q (run_of ks vs (get_or bs u 0)) ≡ true))

-- ---- of terms

unfoldable pub wanted : ℕ → Term → Bool
wanted zero = recovery
wanted (suc v) = is v

abbrev pub asked : ℕ → Term → Bool
asked q t = meets (wanted q) always t

-- n rounds come to the end of every chain of bindings; so it is in a session in order, with the revision for n
pub record Steady (n : ℕ) (b : ℕ → Option Term) : Type 0 where
  pub free : (v : ℕ) → b v ≡ none → resolve n b (var v) ≡ var v
  pub bound : (v : ℕ) (t : Term) → b v ≡ some t → resolve n b (var v) ≡ resolve n b t

-- and so they do at the top alone: what a term stands for is no bound variable, and has the same resolved term
pub record Topped (n : ℕ) (b : ℕ → Option Term) : Type 0 where
  pub tops : (t : Term) → resolve n b (follow n b t) ≡ resolve n b t
  pub topped : (t : Term) (v : ℕ) → follow n b t ≡ var v → b v ≡ none

-- the variable that is asked for is unbound
abbrev pub Free : ℕ → (ℕ → Option Term) → Type 0
Free zero b = Unit {0}
Free (suc v) b = b v ≡ none
