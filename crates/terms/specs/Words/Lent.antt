-- What a lent value says.
use Rattle.std.specs.Prelude.{◌≡◌, Bool, Option, List, ℕ, ◌-◌, ◌≤◌, ◌<◌, length}
use Rattle.terms.specs.declared.Part.{Part}
use Rattle.terms.specs.declared.Content.{Content}
use Rattle.terms.specs.declared.Records.{Records}
use Rattle.terms.specs.declared.Seen.{Seen}
use Rattle.std.proofs.Math.Option as math
use Rattle.terms.specs.Term.{Term}
use Rattle.terms.specs.Words.Arena.{Tree, Fetched}
use Rattle.terms.specs.Words.Tokens.{Area, Item, Agree, toks}
use Rattle.terms.specs.Words.TokenBytes.{spelt}
use Rattle.terms.specs.Words.VirtualTokens.{view}

-- the tokens that normalising sees
abbrev pub shown : Seen → Area
shown x = view x.tokens.kinds.now x.tokens.vals.now x.given

-- the tree that a content stands for, and what is found, by the records
abbrev pub StandsFor : Records → (ℕ → Bool) → Content → Term → Type 0
StandsFor r S x t = Tree (shown r.seen.now) r.heads.now r.kids.now S x.head x.kids t

abbrev pub Fetches : Records → (ℕ → Bool) → math.Option Term → Option Content → Type 0
Fetches r S o x = Fetched (shown r.seen.now) r.heads.now r.kids.now S o x

-- a part of so many tokens, and one that is not empty
abbrev pub PartOf : List ℕ → Part → Type 0
PartOf ks p = (p.from ≤ p.end) × (p.end ≤ length ks)

abbrev pub NotEmpty : List ℕ → Part → Type 0
NotEmpty ks p = (p.from < p.end) × (p.end ≤ length ks)

-- two parts have the same words
abbrev pub AgreeIn : List ℕ → (a b : Part) → Type 0
AgreeIn ws a b = (a.end - a.from ≡ b.end - b.from) × Agree ws a.from b.from (a.end - a.from)

-- the tokens of a part
abbrev pub toks_in : (ks vs : List ℕ) → Part → List Item
toks_in ks vs a = toks ks vs a.from (a.end - a.from)

-- and their bytes
abbrev pub spelt_in : (ks vs : List ℕ) → Part → List ℕ
spelt_in ks vs a = spelt ks vs a.from (a.end - a.from)
