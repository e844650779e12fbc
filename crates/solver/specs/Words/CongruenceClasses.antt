-- Classes of token places, as `same_terms` keeps them: half a word for each place, 0 where the place heads its class, and else y + 1 for a lower
-- place y of the same class; and a queue of the places that have been linked below another, in the order in which that happened: a word for each, with the
-- place in its low half, and in the high half the place that it is linked to. Here `par` are the halves of the links.
use Rattle.std.specs.Prelude.{Bool, true, List, ◌≡◌, ℕ, ◌+◌, ◌≤◌, ◌<◌, length, get_or}
use Rattle.std.proofs.Math.Option.{Option}
use Rattle.terms.specs.Term.{Term, Parts, var, node, end, num, sub, Held}
use Rattle.solver.specs.declared.Bindings.{Bindings}
use Rattle.solver.specs.Constrain.{replace, replace_row, resolve, follow}
use Rattle.solver.specs.Words.Bindings.{builtin}
use Rattle.solver.specs.Words.Halves.{low_half, high_half}
use Rattle.solver.specs.Words.Lent.{Ends}
use Rattle.solver.specs.Words.ReachContract.{Steady, Topped}
use Rattle.solver.specs.Words.SessionRepresentation.{begins}

-- ---- the words, whatever the tokens are

pub record Wired (ks par queue : List ℕ) (top : ℕ) : Type 0 where
  -- one half may be over
  pub size : length ks ≤ length par
  -- a link is half a word
  pub small : length ks ≤ 65536
  pub room : begins ks ≤ length queue
  -- a place is linked below a lower one: going up ends
  pub falls : (x : ℕ) → get_or par x 0 ≤ x
  -- only nodes are linked, and below nodes
  pub nodes : (x y : ℕ) → get_or par x 0 ≡ y + 1 → (2 ≤ get_or ks x 0) × (2 ≤ get_or ks y 0)
  -- the queue lists the places that are linked, each once
  pub listed : (i : ℕ) → i < top → (low_half (get_or queue i 0) < length par) × (get_or par (low_half (get_or queue i 0)) 0 ≡ high_half (get_or queue i 0) + 1)
  pub apart : (i j : ℕ) → i < j → j < top → low_half (get_or queue i 0) ≡ low_half (get_or queue j 0) → ⊥
  pub cover : (x : ℕ) → 0 < get_or par x 0 → (i : ℕ) × (i < top) × (low_half (get_or queue i 0) ≡ x)
  pub blank : (i : ℕ) → top ≤ i → get_or queue i 0 ≡ 0

-- what was linked still is, to the same place
abbrev pub Keeps : List ℕ → List ℕ → Type 0
Keeps par par' = (x y : ℕ) → get_or par x 0 ≡ y + 1 → get_or par' x 0 ≡ y + 1

-- after some joins
pub record Advanced (ks par queue : List ℕ) (top : ℕ) (par' queue' : List ℕ) (top' : ℕ) : Type 0 where
  pub wired : Wired ks par' queue' top'
  pub keeps : Keeps par par'
  pub more : top ≤ top'
  pub front : (i : ℕ) → i < top → get_or queue' i 0 ≡ get_or queue i 0

-- while words are cleared: the places whose words are not 0 are listed before k
pub record Clearing (par queue : List ℕ) (k : ℕ) : Type 0 where
  pub fits : k ≤ length queue
  pub inside : (i : ℕ) → i < k → get_or queue i 0 < length par
  pub hung : (z : ℕ) → 0 < get_or par z 0 → (i : ℕ) × (i < k) × (get_or queue i 0 ≡ z)
  pub gone : (i : ℕ) → k ≤ i → get_or queue i 0 ≡ 0

-- the same where the queue lists places in low halves
pub record Unlinking (par queue : List ℕ) (k : ℕ) : Type 0 where
  pub fits : k ≤ length queue
  pub inside : (i : ℕ) → i < k → low_half (get_or queue i 0) < length par
  pub hung : (z : ℕ) → 0 < get_or par z 0 → (i : ℕ) × (i < k) × (low_half (get_or queue i 0) ≡ z)
  pub gone : (i : ℕ) → k ≤ i → get_or queue i 0 ≡ 0

-- r is reached from a by going up
pub data Up (par : List ℕ) : ℕ → ℕ → Type 0 where
  here : {a : ℕ} → Up par a a
  climb : {a b r : ℕ} → get_or par a 0 ≡ b + 1 → Up par b r → Up par a r

-- ---- what the words say of the terms

-- what is lent has the ends of b, and the number of steps follows b to the end
pub record HeldSteady (x : Bindings) (b : ℕ → Option Term) : Type 0 where
  pub held : Ends x b
  pub steady : Steady x.most b
  pub topped : Topped x.most b

-- what a variable resolves to
abbrev pub stands_for : ℕ → (ℕ → Option Term) → ℕ → Term
stands_for n b v = resolve n b (var v)

-- σ replaces every variable by its term, and τ gives the top of a term: it comes to the same term, and is no variable that is replaced
pub record Standing (σ : ℕ → Term) (τ : Term → Term) : Type 0 where
  pub tops : (t : Term) → replace σ (τ t) ≡ replace σ t
  pub plain : (t : Term) (v : ℕ) → τ t ≡ var v → σ v ≡ var v

-- two terms, or rows, come to the same
abbrev pub Coincide : (ℕ → Term) → Term → Term → Type 0
Coincide σ t u = replace σ t ≡ replace σ u

abbrev pub CoincideRow : (ℕ → Term) → Parts → Parts → Type 0
CoincideRow σ ps qs = replace_row σ ps ≡ replace_row σ qs

-- two rows with numbers and terms at the same places, the numbers equal and the terms related by J
unfoldable pub Pairwise : (Term → Term → Type 0) → Parts → Parts → Type 0
Pairwise J end end = Unit {0}
Pairwise J end (num m qs) = ⊥
Pairwise J end (sub u qs) = ⊥
Pairwise J (num n ps) end = ⊥
Pairwise J (num n ps) (num m qs) = (n ≡ m) × Pairwise J ps qs
Pairwise J (num n ps) (sub u qs) = ⊥
Pairwise J (sub t ps) end = ⊥
Pairwise J (sub t ps) (num m qs) = ⊥
Pairwise J (sub t ps) (sub u qs) = J t u × Pairwise J ps qs

-- the tops of t and u are one variable, or one builtin, or nodes whose places are in one class
pub data Linked (ks vs : List ℕ) (τ : Term → Term) (par : List ℕ) (t u : Term) : Type 0 where
  same_var : (v : ℕ) → τ t ≡ var v → τ u ≡ var v → Linked ks vs τ par t u
  same_code : (c : ℕ) → τ t ≡ builtin c → τ u ≡ builtin c → Linked ks vs τ par t u
  same_class : (a b r : ℕ) → Held ks vs a (τ t) → Held ks vs b (τ u) → Up par a r → Up par b r → Linked ks vs τ par t u

-- a place is linked below another only where both hold nodes with the same tag
pub record Edge (ks vs : List ℕ) (x y : ℕ) : Type 0 where
  pub tag : ℕ
  pub left : Parts
  pub right : Parts
  pub at_left : Held ks vs x (node tag left)
  pub at_right : Held ks vs y (node tag right)

abbrev pub Fair : List ℕ → List ℕ → List ℕ → Type 0
Fair ks vs par = (x y : ℕ) → get_or par x 0 ≡ y + 1 → Edge ks vs x y

-- places of one class hold terms that come to the same
abbrev pub Honest : List ℕ → List ℕ → (ℕ → Term) → List ℕ → Type 0
Honest ks vs σ par = (x y : ℕ) (t u : Term) → get_or par x 0 ≡ y + 1 → Held ks vs x t → Held ks vs y u → Coincide σ t u

-- what a join tells, from par to par': with the answer true it has J; and if E holds, it answers true and stays honest
pub record Outcome (ks vs : List ℕ) (σ : ℕ → Term) (par par' : List ℕ) (equal : Bool) (J E : Type 0) : Type 0 where
  pub fair : Fair ks vs par'
  pub yes : equal ≡ true → J
  pub honest : Honest ks vs σ par → E → (equal ≡ true) × Honest ks vs σ par'

-- what a join tells by the lent bindings, which are b, from the links par to par': of two terms, and of two rows
abbrev pub TermsJoined : (x : Bindings) (b : ℕ → Option Term) (par par' : List ℕ) (equal : Bool) (t u : Term) → Type 0
TermsJoined x b par par' equal t u =
    let ks = x.tokens.kinds.now in
    let vs = x.tokens.vals.now in
    Fair ks vs par
    → Outcome ks vs (stands_for x.most b) par par' equal (Linked ks vs (follow x.most b) par' t u)
    (Coincide (stands_for x.most b) t u)

abbrev pub RowsJoined : (x : Bindings) (b : ℕ → Option Term) (par par' : List ℕ) (equal : Bool) (ps qs : Parts) → Type 0
RowsJoined x b par par' equal ps qs =
    let ks = x.tokens.kinds.now in
    let vs = x.tokens.vals.now in
    Fair ks vs par
    → Outcome ks vs (stands_for x.most b) par par' equal
    (Pairwise (Linked ks vs (follow x.most b) par') ps qs) (CoincideRow (stands_for x.most b) ps qs)

-- the parts of the nodes at x and y have been joined
pub record Matched (ks vs : List ℕ) (τ : Term → Term) (par : List ℕ) (x y : ℕ) : Type 0 where
  pub edge : Edge ks vs x y
  pub rows : Pairwise (Linked ks vs τ par) edge.left edge.right

-- the joins have been followed to the end: every place that is linked has its parts joined
pub record Closed (ks vs : List ℕ) (σ : ℕ → Term) (τ : Term → Term) (par par' : List ℕ) (equal : Bool) : Type 0 where
  pub yes : equal ≡ true → (x y : ℕ) → get_or par' x 0 ≡ y + 1 → Matched ks vs τ par' x y
  pub honest : Honest ks vs σ par → equal ≡ true
