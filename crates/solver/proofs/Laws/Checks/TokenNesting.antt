-- Token runs nest: a place that begins a part of a node belongs to that node only. And the places of a node's parts.
use mathlib.Core.Path.{◌≡◌, ap}
use mathlib.Core.List.{List}
use Prim.Native.Nat.{ℕ, zero, suc, ◌+◌, ◌≤◌, ◌<◌}
use native.Mathlib.Omega.{arith}
use native.Mathlib.Decide.{ℕ_discrete, dec_lt}
use lib.ListN.{length, get_or}
use Rattle.terms.specs.Term.{Term, Parts, var, node, end, num, sub, items, Held}
use Rattle.terms.specs.Words.Held.{HeldParts}
use Rattle.terms.proofs.Laws.Held.HeldLaws.{head_kind, head_value, items_some, held_first, held_node, held_num, held_sub, end_ends}
use Rattle.solver.specs.Words.PendingContract.{places}
use Rattle.solver.proofs.Laws.Checks.StrictSubterm.{HasPart, first, past_num, past_sub}

-- c begins a part of the node at a: whatever node begins between them ends by c
pub record ChildAt (ks vs : List ℕ) (a c : ℕ) : Type 0 where
  pub head : 2 ≤ get_or ks a 0
  pub after : a < c
  pub before : c < a + get_or vs a 0
  pub closed : (h : ℕ) → a < h → h < c → 2 ≤ get_or ks h 0 → h + get_or vs h 0 ≤ c

pub one_owner : (ks vs : List ℕ) (a b c : ℕ) → ChildAt ks vs a c → ChildAt ks vs b c → a ≡ b
one_owner ks vs a b c x y = go (dec_lt a b) (dec_lt b a)
  where
    go : Dec (a < b) → Dec (b < a) → a ≡ b
    go (yes p) q = absurd (omega (arith, x.closed b p y.after y.head, y.before))
    go (no p) (yes q) = absurd (omega (arith, y.closed a q x.after x.head, x.before))
    go (no p) (no q) = omega arith

module _ (ks vs : List ℕ) where
  next : (i h : ℕ) → i ≤ h → 2 ≤ get_or ks h 0 → get_or ks i 0 ≡ 0 → i + 1 ≤ h
  next i h a k z = step (ℕ_discrete h i)
    where
      step : Dec (h ≡ i) → i + 1 ≤ h
      step (yes e) = absurd (omega (arith, ap (λ (x : ℕ). get_or ks x 0) e))
      step (no e) = omega arith

  -- a node that begins inside a term, or inside a row, ends inside it
  abbrev InTerm : Term → Type 0
  InTerm t = (p : ℕ) → Held ks vs p t → (h : ℕ) → p ≤ h → h < p + length (items t) → 2 ≤ get_or ks h 0 → h + get_or vs h 0 ≤ p + length (items t)

  abbrev InRow : Parts → Type 0
  InRow ps = (i e : ℕ) → HeldParts ks vs i e ps → (h : ℕ) → i ≤ h → h < e → 2 ≤ get_or ks h 0 → h + get_or vs h 0 ≤ e

  nest_var : (v : ℕ) → InTerm (var v)
  unfolding items head_kind head_value
  nest_var v p g h a b k =
      let e : h ≡ p = omega arith in
      absurd (omega (arith, (held_first ks vs p (var v) g).0, ap (λ (x : ℕ). get_or ks x 0) e))

  nest_node : (j : ℕ) (ps : Parts) → InRow ps → InTerm (node j ps)
  unfolding items head_kind head_value
  nest_node j ps ih p g h a b k = go (ℕ_discrete h p)
    where
      go : Dec (h ≡ p) → h + get_or vs h 0 ≤ p + length (items (node j ps))
      go (yes e) = omega (arith, (held_first ks vs p (node j ps) g).1, ap (λ (x : ℕ). get_or vs x 0) e)
      go (no e) = ih (p + 1) (p + length (items (node j ps))) (held_node ks vs p j ps g) h (omega arith) b k

  nest_num : (n : ℕ) (ps : Parts) → InRow ps → InRow (num n ps)
  nest_num n ps ih i e g h a b k = let q = held_num ks vs i e n ps g in ih (i + 1) e q.2 h (next i h a k q.0) b k

  nest_sub : (t : Term) (ps : Parts) → InTerm t → InRow ps → InRow (sub t ps)
  nest_sub t ps it ih i e g h a b k = go (dec_lt h (i + length (items t)))
    where
      go : Dec (h < i + length (items t)) → h + get_or vs h 0 ≤ e
      go (yes l) = omega (arith, it i (held_sub ks vs i e t ps g).0 h a l k, (held_sub ks vs i e t ps g).1.ends)
      go (no l) = ih (i + length (items t)) e (held_sub ks vs i e t ps g).1 h (omega arith) b k

  mutual
    nest_term : (t : Term) → InTerm t
    nest_term (var v) = nest_var v
    nest_term (node j ps) = nest_node j ps (nest_row ps)

    nest_row : (ps : Parts) → InRow ps
    nest_row end = λ i e g h a b k. absurd (omega (arith, end_ends ks vs i e g))
    nest_row (num n ps) = nest_num n ps (nest_row ps)
    nest_row (sub t ps) = nest_sub t ps (nest_term t) (nest_row ps)

places_from : (i : ℕ) (ps : Parts) (j : ℕ) → j < length (places i ps) → i ≤ get_or (places i ps) j 0
unfolding places
places_from i end j h = absurd (omega arith)
places_from i (num n ps) j h = omega (arith, places_from (i + 1) ps j h)
places_from i (sub t ps) zero h = omega arith
places_from i (sub t ps) (suc j) h = omega (arith, places_from (i + length (items t)) ps j (omega arith))

pub places_rise : (i : ℕ) (ps : Parts) (j k : ℕ) → j < k → k < length (places i ps) → get_or (places i ps) j 0 < get_or (places i ps) k 0
unfolding places
places_rise i end j k h l = absurd (omega arith)
places_rise i (num n ps) j k h l = places_rise (i + 1) ps j k h l
places_rise i (sub t ps) j zero h l = absurd (omega arith)
places_rise i (sub t ps) zero (suc k) h l = omega (arith, places_from (i + length (items t)) ps k (omega arith), items_some t)
places_rise i (sub t ps) (suc j) (suc k) h l = places_rise (i + length (items t)) ps j k (omega arith) (omega arith)

-- c begins the part s of the node at a
pub record Kid (ks vs : List ℕ) (a c : ℕ) : Type 0 where
  pub tag : ℕ
  pub row : Parts
  pub part : Term
  pub owner : Held ks vs a (node tag row)
  pub has : HasPart part row
  pub held : Held ks vs c part
  pub child : ChildAt ks vs a c

module _ (ks vs : List ℕ) (a k : ℕ) (row : Parts) (g : Held ks vs a (node k row)) where
  node_kind : 2 ≤ get_or ks a 0
  unfolding head_kind
  node_kind = omega (arith, (held_first ks vs a (node k row) g).0)

  node_span : get_or vs a 0 ≡ length (items (node k row))
  unfolding head_value items
  node_span = (held_first ks vs a (node k row) g).1

  -- what begins between a and i ends by i
  Shut : ℕ → Type 0
  Shut i = (h : ℕ) → a < h → h < i → 2 ≤ get_or ks h 0 → h + get_or vs h 0 ≤ i

  shut_num : (i : ℕ) → Shut i → get_or ks i 0 ≡ 0 → Shut (i + 1)
  unfolding Shut
  shut_num i s z h x y w = go (ℕ_discrete h i)
    where
      go : Dec (h ≡ i) → h + get_or vs h 0 ≤ i + 1
      go (yes e) = absurd (omega (arith, ap (λ (v : ℕ). get_or ks v 0) e))
      go (no e) = omega (arith, s h x (omega arith) w)

  shut_sub : (i : ℕ) (t : Term) → Shut i → Held ks vs i t → Shut (i + length (items t))
  unfolding Shut
  shut_sub i t s q h x y w = go (dec_lt h i)
    where
      go : Dec (h < i) → h + get_or vs h 0 ≤ i + length (items t)
      go (yes e) = omega (arith, s h x e w)
      go (no e) = nest_term ks vs t i q h (omega arith) y w

  kid_at : (ps : Parts) (i : ℕ) → HeldParts ks vs i (a + get_or vs a 0) ps → a < i → Shut i → ((s : Term) → HasPart s ps → HasPart s row)
      → (j : ℕ) → j < length (places i ps) → Kid ks vs a (get_or (places i ps) j 0)
  unfolding places Shut
  kid_at end i q l s f j h = absurd (omega arith)
  kid_at (num n ps) i q l s f j h =
      let r = held_num ks vs i (a + get_or vs a 0) n ps q in
      kid_at ps (i + 1) r.2 (omega arith) (shut_num i s r.0) (λ t p. f t (past_num p)) j h
  kid_at (sub t ps) i q l s f zero h =
      let r = held_sub ks vs i (a + get_or vs a 0) t ps q in record {
        tag = k;
        row = row;
        part = t;
        owner = g;
        has = f t first;
        held = r.0;
        child = record { head = node_kind; after = l; before = omega (arith, r.1.ends, items_some t); closed = s };
      }
  kid_at (sub t ps) i q l s f (suc j) h =
      let r = held_sub ks vs i (a + get_or vs a 0) t ps q in
      kid_at ps (i + length (items t)) r.1 (omega arith) (shut_sub i t s r.0) (λ w p. f w (past_sub p)) j (omega arith)

  -- every place of the row of the node at a begins a part of it
  pub kids : (j : ℕ) → j < length (places (a + 1) row) → Kid ks vs a (get_or (places (a + 1) row) j 0)
  unfolding Shut
  kids j h = kid_at row (a + 1) (rw node_span (held_node ks vs a k row g)) (omega arith) (λ x y z. absurd (omega arith)) (λ s p. p) j h
