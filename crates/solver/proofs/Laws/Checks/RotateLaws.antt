-- Turned lists: the same numbers at other places; and terms held at the places of a list.
use mathlib.Core.List.{List, [], ◌∷◌, ◌++◌}
use mathlib.Core.Path.{◌≡◌, refl, ap, ◌∙◌}
use Prim.Native.Nat.{ℕ, zero, suc, ◌+◌, ◌-◌, ◌<◌}
use native.Mathlib.Decide.{dec_lt}
use native.Mathlib.Omega.{arith}
use lib.ListN.{length, get_or, take, drop, length-take, length-drop, length-append, get_or-append}
use lib.Seq.{get_or-take, get_or-drop, get_or-append-add}
use Rattle.terms.specs.Term.{Term, Parts, end, num, sub, items}
use Rattle.terms.specs.Words.Held.{Held, HeldParts}
use Rattle.terms.specs.Tree.{subs}
use Rattle.terms.proofs.Laws.Held.HeldLaws.{held_num, held_sub}
use Rattle.solver.specs.Shapes.{turned}
use Rattle.solver.specs.Words.PendingContract.{places}

-- m has the numbers of l, each from another place
pub record Drawn (l m : List ℕ) : Type 0 where
  pub size : length m ≡ length l
  pub from : ℕ → ℕ
  pub low : (j : ℕ) → j < length l → from j < length l
  pub is : (j : ℕ) → j < length l → get_or m j 0 ≡ get_or l (from j) 0
  pub apart : (i j : ℕ) → i < j → j < length l → from i ≡ from j → ⊥

-- where the j-th comes from, if the first n of c come last
abbrev origin : (n c j : ℕ) → Dec (j < c - n) → ℕ
origin n c j (yes h) = n + j
origin n c j (no h) = j - (c - n)

origin_low : (n c j : ℕ) (d : Dec (j < c - n)) → j < c → origin n c j d < c
origin_low n c j (yes h) l = omega arith
origin_low n c j (no h) l = omega arith

origin_apart : (n c i j : ℕ) (d : Dec (i < c - n)) (e : Dec (j < c - n)) → i < j → j < c → origin n c i d ≡ origin n c j e → ⊥
origin_apart n c i j (yes p) (yes q) h l e = omega arith
origin_apart n c i j (yes p) (no q) h l e = omega arith
origin_apart n c i j (no p) (yes q) h l e = omega arith
origin_apart n c i j (no p) (no q) h l e = omega arith

origin_is : (n : ℕ) (l : List ℕ) (j : ℕ) (d : Dec (j < length l - n)) → j < length l → get_or (drop n l ++ take n l) j 0 ≡ get_or l (origin n (length l) j d) 0
origin_is n l j (yes h) g = let w = length-drop n l in get_or-append (drop n l) (take n l) 0 j (omega arith) ∙ get_or-drop n l j 0
origin_is n l j (no h) g =
    let w = length-drop n l in
    let e : j ≡ length (drop n l) + (j - (length l - n)) = omega arith in
    ap (λ (x : ℕ). get_or (drop n l ++ take n l) x 0) e ∙ get_or-append-add (drop n l) (take n l) (j - (length l - n)) 0 ∙ get_or-take n l (j - (length l - n)) 0 (omega arith)

drawn_same : (l : List ℕ) → Drawn l l
drawn_same l = record { size = refl; from = λ j. j; low = λ j h. h; is = λ j h. refl; apart = λ i j h g e. omega arith }

pub turned_length : {A : Type 0} (c n : ℕ) (l : List A) → length (turned c n l) ≡ length l
unfolding turned
turned_length zero n l = refl
turned_length (suc zero) n l = omega (arith, length-append (drop n l) (take n l), length-drop n l, length-take n l)
turned_length (suc (suc c)) n l = refl

pub drawn_turned : (c n : ℕ) (l : List ℕ) → Drawn l (turned c n l)
unfolding turned
drawn_turned zero n l = drawn_same l
drawn_turned (suc zero) n l = record {
  size = omega (arith, length-append (drop n l) (take n l), length-drop n l, length-take n l);
  from = λ j. origin n (length l) j (dec_lt j (length l - n));
  low = λ j h. origin_low n (length l) j (dec_lt j (length l - n)) h;
  is = λ j h. origin_is n l j (dec_lt j (length l - n)) h;
  apart = λ i j h g. origin_apart n (length l) i j (dec_lt i (length l - n)) (dec_lt j (length l - n)) h g;
}
drawn_turned (suc (suc c)) n l = drawn_same l

-- ---- terms held at places

module _ (ks vs : List ℕ) where
  -- the areas hold the terms at the places, one after the other
  abbrev pub HeldAll : List ℕ → List Term → Type 0
  HeldAll [] [] = Unit {0}
  HeldAll [] (t ∷ ts) = ⊥
  HeldAll (p ∷ ps) [] = ⊥
  HeldAll (p ∷ ps) (t ∷ ts) = Held ks vs p t × HeldAll ps ts

  all_take : (n : ℕ) (ps : List ℕ) (ts : List Term) → HeldAll ps ts → HeldAll (take n ps) (take n ts)
  all_take zero ps ts h = tt
  all_take (suc n) [] [] h = tt
  all_take (suc n) [] (t ∷ ts) h = absurd h
  all_take (suc n) (p ∷ ps) [] h = absurd h
  all_take (suc n) (p ∷ ps) (t ∷ ts) h = (h.0, all_take n ps ts h.1)

  all_drop : (n : ℕ) (ps : List ℕ) (ts : List Term) → HeldAll ps ts → HeldAll (drop n ps) (drop n ts)
  all_drop zero ps ts h = h
  all_drop (suc n) [] [] h = tt
  all_drop (suc n) [] (t ∷ ts) h = absurd h
  all_drop (suc n) (p ∷ ps) [] h = absurd h
  all_drop (suc n) (p ∷ ps) (t ∷ ts) h = all_drop n ps ts h.1

  all_append : (ps qs : List ℕ) (ts us : List Term) → HeldAll ps ts → HeldAll qs us → HeldAll (ps ++ qs) (ts ++ us)
  all_append [] qs [] us h g = g
  all_append [] qs (t ∷ ts) us h g = absurd h
  all_append (p ∷ ps) qs [] us h g = absurd h
  all_append (p ∷ ps) qs (t ∷ ts) us h g = (h.0, all_append ps qs ts us h.1 g)

  pub all_turned : (c n : ℕ) (ps : List ℕ) (ts : List Term) → HeldAll ps ts → HeldAll (turned c n ps) (turned c n ts)
  unfolding turned
  all_turned zero n ps ts h = h
  all_turned (suc zero) n ps ts h = all_append (drop n ps) (take n ps) (drop n ts) (take n ts) (all_drop n ps ts h) (all_take n ps ts h)
  all_turned (suc (suc c)) n ps ts h = h

  pub all_row : (i e : ℕ) (ps : Parts) → HeldParts ks vs i e ps → HeldAll (places i ps) (subs ps)
  unfolding places subs
  all_row i e end h = tt
  all_row i e (num n ps) h = all_row (i + 1) e ps (held_num ks vs i e n ps h).2
  all_row i e (sub t ps) h = let q = held_sub ks vs i e t ps h in (q.0, all_row (i + length (items t)) e ps q.1)

pub places_length : (i : ℕ) (ps : Parts) → length (places i ps) ≡ length (subs ps)
unfolding places subs
places_length i end = refl
places_length i (num n ps) = places_length (i + 1) ps
places_length i (sub t ps) = omega (arith, places_length (i + length (items t)) ps)
