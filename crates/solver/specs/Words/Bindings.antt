-- Bindings that the areas and a table hold. A word of a binding is 0 for none, p + 1 for the term at p, and above every place a default: a word of its own
-- sort, for the builtin with a code.
use Rattle.std.specs.Prelude.{ℕ, ◌+◌, ◌<◌, ◌≡◌, List, length, get_or}
use Rattle.std.proofs.Math.Option.{Option, none, some}
use Rattle.terms.specs.Term.{Term, node, end, num, Held}

-- the words from this one on are defaults, in the order of the codes; those below it are places
abbrev pub defaults : ℕ
defaults = 2147483648

-- the builtin with a code
abbrev pub builtin : ℕ → Term
builtin c = node 4 (num c end)

-- a word that holds the term t
pub data HeldWord (ks vs : List ℕ) (t : Term) (word : ℕ) : Type 0 where
  placed : (p : ℕ) → word ≡ p + 1 → Held ks vs p t → HeldWord ks vs t word
  coded : (c : ℕ) → c < 32 → word ≡ defaults + c → t ≡ builtin c → HeldWord ks vs t word

-- a word of the table: 0 for no binding, else one that holds the term
abbrev pub HeldBinding : List ℕ → List ℕ → Option Term → ℕ → Type 0
HeldBinding ks vs none word = word ≡ 0
HeldBinding ks vs (some t) word = HeldWord ks vs t word

-- the areas and the table hold the bindings b: a variable past the end of the table is unbound; every place is below the defaults
pub record HeldBindings (ks vs bs : List ℕ) (b : ℕ → Option Term) : Type 0 where
  pub short : length ks < defaults
  pub words : (v : ℕ) → HeldBinding ks vs (b v) (get_or bs v 0)
