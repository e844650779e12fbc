-- The terms of crate terms as trees of the theory: a head is a term with Unknown for its children, the children stand in the order in which
-- they are pushed. The view loses nothing, and keeps all that the solver asks.
use mathlib.Core.Path.{◌≡◌, refl, sym, ap, ap₂, ◌∙◌}
use mathlib.Core.Bool.{Bool, true, false, ◌||◌}
use mathlib.Core.List.{List, [], ◌∷◌, ◌++◌, map, append-nil}
use mathlib.Core.Logic.{◌⊎◌, inl, inr}
use Prim.Native.Nat.{ℕ, zero, suc, ◌-◌, ◌≤◌}
use native.Mathlib.Decide.{dec_le}
use native.Mathlib.Omega.{arith}
use lib.ListN.{length, get_or, take, drop, length-append, length-drop, take-append-drop, drop_of_length-le}
use lib.Seq.{take-append_seam, drop-append_seam, take_all}
use Rattle.terms.specs.Term.{Term, Parts, var, node, end, num, sub}
use Rattle.terms.specs.Tree.{error, nums, row, tag, class, children, subs, fill, with_kids}
use Rattle.terms.specs.Questions.{meets, meets_row}
use Rattle.terms.proofs.Laws.General.Bools.{never_true, or-true, or_right, or_assoc}
use Rattle.unify.specs.Term as tree
use Rattle.unify.specs.Term.{Sort, one, many, Tree, nil, ◌▸◌, In}
use Rattle.solver.specs.Shapes.{blank_row, turned, pushed}
use Rattle.solver.specs.Constrain.{always}

-- ---- lists turned

module _ {A : Type 0} where
  -- a list cut in two and put together the other way round, and that again where the first piece ends
  swapped : (a b : List A) → drop (length a) (a ++ b) ++ take (length a) (a ++ b) ≡ b ++ a
  swapped a b = ap₂ ◌++◌ (drop-append_seam a b) (take-append_seam a b)

  pub turned_length : (c n : ℕ) (l : List A) → length (turned c n l) ≡ length l
  unfolding turned
  turned_length zero n l = refl
  turned_length (suc zero) n l =
      let p = length-append (drop n l) (take n l) in
      let q = length-append (take n l) (drop n l) in
      let r = ap length (take-append-drop n l) in
      omega arith
  turned_length (suc (suc x)) n l = refl

  turn_at : (n m : ℕ) (l : List A) → m ≡ length (drop n l) → turned 1 m (turned 1 n l) ≡ l
  unfolding turned
  turn_at n m l e = rw e (swapped (drop n l) (take n l) ∙ take-append-drop n l)

  pub turn_back : (c n : ℕ) (l : List A) → turned c (length l - n) (turned c n l) ≡ l
  unfolding turned
  turn_back zero n l = refl
  turn_back (suc zero) n l = turn_at n (length l - n) l (sym (length-drop n l))
  turn_back (suc (suc x)) n l = refl

  pub back_turn : (c n : ℕ) (l : List A) → turned c n (turned c (length l - n) l) ≡ l
  unfolding turned
  back_turn zero n l = refl
  back_turn (suc zero) n l = go (dec_le n (length l))
    where
      far : (m : ℕ) → m ≡ 0 → length l ≤ n → turned 1 n (turned 1 m l) ≡ l
      far m e h = rw (e, append-nil l, drop_of_length-le l {i = n} h) (take_all n l h)

      go : Dec (n ≤ length l) → turned 1 n (turned 1 (length l - n) l) ≡ l
      go (yes h) = turn_at (length l - n) n l (let q = length-drop (length l - n) l in omega arith)
      go (no h) = far (length l - n) (omega arith) (omega arith)
  back_turn (suc (suc x)) n l = refl

module _ {A B : Type 0} (f : A → B) where
  map-append : (a b : List A) → map f (a ++ b) ≡ map f a ++ map f b
  map-append [] b = refl
  map-append (x ∷ a) b = ap (λ (l : List B). f x ∷ l) (map-append a b)

  map-take : (n : ℕ) (l : List A) → map f (take n l) ≡ take n (map f l)
  map-take zero l = refl
  map-take (suc n) [] = refl
  map-take (suc n) (x ∷ l) = ap (λ (r : List B). f x ∷ r) (map-take n l)

  map_drop : (n : ℕ) (l : List A) → map f (drop n l) ≡ drop n (map f l)
  map_drop zero l = refl
  map_drop (suc n) [] = refl
  map_drop (suc n) (x ∷ l) = map_drop n l

  pub map_turned : (c n : ℕ) (l : List A) → map f (turned c n l) ≡ turned c n (map f l)
  unfolding turned
  map_turned zero n l = refl
  map_turned (suc zero) n l = map-append (drop n l) (take n l) ∙ ap₂ ◌++◌ (map_drop n l) (map-take n l)
  map_turned (suc (suc x)) n l = refl

or_comm : (a b : Bool) → (a || b) ≡ (b || a)
or_comm true true = refl
or_comm true false = refl
or_comm false true = refl
or_comm false false = refl

-- a test on some element, and a property of each
module _ {A : Type 0} where
  unfoldable pub any : (A → Bool) → List A → Bool
  any f [] = false
  any f (x ∷ l) = f x || any f l

  any_append : (f : A → Bool) (a b : List A) → any f (a ++ b) ≡ (any f a || any f b)
  unfolding any
  any_append f [] b = refl
  any_append f (x ∷ a) b = ap (λ (r : Bool). f x || r) (any_append f a b) ∙ sym (or_assoc (f x) (any f a) (any f b))

  pub any_turned : (f : A → Bool) (c n : ℕ) (l : List A) → any f (turned c n l) ≡ any f l
  unfolding turned
  any_turned f zero n l = refl
  any_turned f (suc zero) n l =
      any_append f (drop n l) (take n l) ∙ or_comm (any f (drop n l)) (any f (take n l))
      ∙ sym (any_append f (take n l) (drop n l)) ∙ ap (any f) (take-append-drop n l)
  any_turned f (suc (suc x)) n l = refl

  unfoldable pub Every : (A → Type 0) → List A → Type 0
  Every P [] = Unit {0}
  Every P (x ∷ l) = P x × Every P l

  every_append : (P : A → Type 0) (a b : List A) → Every P a → Every P b → Every P (a ++ b)
  unfolding Every
  every_append P [] b p q = q
  every_append P (x ∷ a) b p q = (p.0, every_append P a b p.1 q)

  every_take : (P : A → Type 0) (n : ℕ) (l : List A) → Every P l → Every P (take n l)
  unfolding Every
  every_take P zero l p = tt
  every_take P (suc n) [] p = tt
  every_take P (suc n) (x ∷ l) p = (p.0, every_take P n l p.1)

  every_drop : (P : A → Type 0) (n : ℕ) (l : List A) → Every P l → Every P (drop n l)
  unfolding Every
  every_drop P zero l p = p
  every_drop P (suc n) [] p = tt
  every_drop P (suc n) (x ∷ l) p = every_drop P n l p.1

  pub every_turned : (P : A → Type 0) (c n : ℕ) (l : List A) → Every P l → Every P (turned c n l)
  unfolding turned
  every_turned P zero n l p = p
  every_turned P (suc zero) n l p = every_append P (drop n l) (take n l) (every_drop P n l p) (every_take P n l p)
  every_turned P (suc (suc x)) n l p = p

-- ---- the view and the way back

abbrev pub T : Type 0
T = Tree Term one

unfoldable pub forest : List T → Tree Term many
forest [] = nil
forest (t ∷ ts) = t ▸ forest ts

unfoldable mutual
  pub view : Term → T
  view (var v) = tree.var v
  view (node k ps) = tree.node (node k (blank_row ps)) (forest (turned (class k) (get_or (nums ps) 1 0) (views ps)))

  pub views : Parts → List T
  views end = []
  views (num n ps) = views ps
  views (sub t ps) = view t ∷ views ps

-- of a term alone, and of each of a list
unfoldable pub backs : {s : Sort} → Tree Term s → List Term
backs (tree.var v) = var v ∷ []
backs (tree.node h ts) = with_kids h (turned (class (tag h)) (length (backs ts) - get_or (nums (row h)) 1 0) (backs ts)) ∷ []
backs nil = []
backs (t ▸ ts) = get_or (backs t) 0 error ∷ backs ts

abbrev pub back : T → Term
back t = get_or (backs t) 0 error

pub nums_blank : (ps : Parts) → nums (blank_row ps) ≡ nums ps
unfolding nums blank_row
nums_blank end = refl
nums_blank (num n ps) = ap (λ (l : List ℕ). n ∷ l) (nums_blank ps)
nums_blank (sub t ps) = nums_blank ps

fill_blank : (ps : Parts) → fill (blank_row ps) (subs ps) ≡ ps
unfolding fill blank_row subs
fill_blank end = refl
fill_blank (num n ps) = ap (num n) (fill_blank ps)
fill_blank (sub t ps) = ap (sub t) (fill_blank ps)

backs_forest : (l : List T) → backs (forest l) ≡ map back l
unfolding backs forest
backs_forest [] = refl
backs_forest (t ∷ l) = ap (λ (r : List Term). back t ∷ r) (backs_forest l)

mutual
  unfolding view backs with_kids row tag subs

  pub back_view : (t : Term) → back (view t) ≡ t
  back_view (var v) = refl
  back_view (node k ps) =
      let n = get_or (nums ps) 1 0 in
      let e : backs (forest (turned (class k) n (views ps))) ≡ turned (class k) n (subs ps) =
      backs_forest (turned (class k) n (views ps)) ∙ map_turned back (class k) n (views ps) ∙ ap (turned (class k) n) (backs_views ps) in
      ap (λ (l : List Term). node k (fill (blank_row ps) (turned (class k) (length l - get_or (nums (blank_row ps)) 1 0) l))) e
      ∙ ap₂ (λ (l : List ℕ) (m : ℕ). node k (fill (blank_row ps) (turned (class k) (m - get_or l 1 0) (turned (class k) n (subs ps))))) (nums_blank ps) (turned_length (class k) n (subs ps))
      ∙ ap (λ (l : List Term). node k (fill (blank_row ps) l)) (turn_back (class k) n (subs ps))
      ∙ ap (node k) (fill_blank ps)

  backs_views : (ps : Parts) → map back (views ps) ≡ subs ps
  backs_views end = refl
  backs_views (num n ps) = backs_views ps
  backs_views (sub t ps) = ap₂ (λ (a : Term) (l : List Term). a ∷ l) (back_view t) (backs_views ps)

-- the view loses nothing
pub view_injective : (t u : Term) → view t ≡ view u → t ≡ u
view_injective t u e = sym (back_view t) ∙ ap back e ∙ back_view u

pub views_map : (ps : Parts) → views ps ≡ map view (subs ps)
unfolding views subs
views_map end = refl
views_map (num n ps) = views_map ps
views_map (sub t ps) = ap (λ (l : List T). view t ∷ l) (views_map ps)

-- a node: its head, and its children as they are pushed
pub view_node : (k : ℕ) (ps : Parts) → view (node k ps) ≡ tree.node (node k (blank_row ps)) (forest (map view (pushed (node k ps))))
unfolding view children row tag
view_node k ps =
    ap (λ (l : List T). tree.node (node k (blank_row ps)) (forest (turned (class k) (get_or (nums ps) 1 0) l))) (views_map ps)
    ∙ ap (λ (l : List T). tree.node (node k (blank_row ps)) (forest l)) (sym (map_turned view (class k) (get_or (nums ps) 1 0) (subs ps)))

-- ---- some term of a kind

module _ {H : Type 0} (p : ℕ → Bool) (q : H → Bool) where
  unfoldable pub some_of : {s : Sort} → Tree H s → Bool
  some_of (tree.var v) = p v
  some_of (tree.node h ts) = q h || some_of ts
  some_of nil = false
  some_of (t ▸ ts) = some_of t || some_of ts

some_forest : (p : ℕ → Bool) (q : Term → Bool) (l : List T) → some_of p q (forest l) ≡ any (λ (t : T). some_of p q t) l
unfolding some_of forest any
some_forest p q [] = refl
some_forest p q (t ∷ l) = ap (λ (b : Bool). some_of p q t || b) (some_forest p q l)

-- a test on terms that does not look at a node's children
module _ (c q : Term → Bool) (agree : (k : ℕ) (ps : Parts) → c (node k ps) ≡ q (node k (blank_row ps))) where
  mutual
    unfolding meets view some_of any

    pub meets_view : (t : Term) → meets c always t ≡ some_of (λ v. c (var v)) q (view t)
    meets_view (var v) = refl
    meets_view (node k ps) =
        let n = get_or (nums ps) 1 0 in
        ap₂ ◌||◌ (agree k ps) (meets_views ps ∙ sym (some_forest (λ v. c (var v)) q (turned (class k) n (views ps)) ∙ any_turned (λ (t : T). some_of (λ v. c (var v)) q t) (class k) n (views ps)))

    meets_views : (ps : Parts) → meets_row c always ps ≡ any (λ (t : T). some_of (λ v. c (var v)) q t) (views ps)
    meets_views end = refl
    meets_views (num n ps) = meets_views ps
    meets_views (sub t ps) = ap₂ ◌||◌ (meets_view t) (meets_views ps)

pub either : (a b : Bool) → (a || b) ≡ true → (a ≡ true) ⊎ (b ≡ true)
either true b e = inl refl
either false b e = inr e

module _ {H : Type 0} where
  -- with no head that counts: some variable of the tree counts
  pub some_in : (p : ℕ → Bool) {s : Sort} (t : Tree H s) (v : ℕ) → In v t → p v ≡ true → some_of p (λ (h : H). false) t ≡ true
  unfolding some_of
  some_in p (tree.var w) v i e = ap p (sym i) ∙ e
  some_in p (tree.node h ts) v i e = some_in p ts v i e
  some_in p nil v i e = absurd i
  some_in p (t ▸ ts) v (inl i) e = or-true (some_of p (λ (h : H). false) t) (some_of p (λ (h : H). false) ts) (some_in p t v i e)
  some_in p (t ▸ ts) v (inr i) e = or_right (some_of p (λ (h : H). false) t) (some_of p (λ (h : H). false) ts) (some_in p ts v i e)

  pub in_some : (p : ℕ → Bool) {s : Sort} (t : Tree H s) → some_of p (λ (h : H). false) t ≡ true → (v : ℕ) × In v t × (p v ≡ true)
  unfolding some_of
  in_some p (tree.var w) e = (w, refl, e)
  in_some p (tree.node h ts) e = in_some p ts e
  in_some p nil e = never_true e
  in_some p (t ▸ ts) e = go (in_some p t) (in_some p ts) (either (some_of p (λ (h : H). false) t) (some_of p (λ (h : H). false) ts) e)
    where
      go : (some_of p (λ (h : H). false) t ≡ true → (v : ℕ) × In v t × (p v ≡ true)) → (some_of p (λ (h : H). false) ts ≡ true → (v : ℕ) × In v ts × (p v ≡ true))
          → (some_of p (λ (h : H). false) t ≡ true) ⊎ (some_of p (λ (h : H). false) ts ≡ true) → (v : ℕ) × In v (t ▸ ts) × (p v ≡ true)
      go f g (inl a) = let r = f a in (r.0, inl r.1, r.2)
      go f g (inr a) = let r = g a in (r.0, inr r.1, r.2)
