-- A formed term's bytes are read back as that term, whatever stands before and after them: nothing sound is refused.
use mathlib.Core.Path.{◌≡◌, refl, sym, ap, ◌∙◌}
use mathlib.Core.List.{List, [], ◌∷◌, ◌++◌, append_assoc}
use mathlib.Core.Bool.{true}
use Prim.Native.Nat.{ℕ, zero, suc, ◌+◌, ◌%◌, ◌≤◌, ◌<◌}
use native.Mathlib.Nat.{le_trans, le-max_left, le-max_right}
use native.Mathlib.Omega.{arith}
use borrow.Author.Tests.{lt-ltb, le-leb}
use lib.ListN.{length, drop, get_or, length-append, length-drop}
use lib.Seq.{drop-drop, drop-append_seam, get_or-drop}
use Rattle.terms.specs.Number.{shortest}
use Rattle.terms.proofs.Laws.Numbers.Shortest.{number_at, shortest_last}
use Rattle.terms.specs.Parser.{Parser, got, ◌>>=◌, return, byte, number}
use Rattle.terms.specs.Term.{Term, Parts, var, node, end, num, sub, bytes, part_bytes, depth, depths, AllVars, AllVarsParts, Subs}
use Rattle.terms.specs.Shape as shape
use Rattle.terms.specs.Shape.{Shape, kind_of, layout, nominal, ceiling, many_terms, many_members}
use Rattle.terms.specs.Formed.{Formed, Fit, TakesNumber, TakesTerm, after_number, after_term}
use Rattle.terms.specs.Reading.{◌then◌, code, count, rising, variable, many, pairs, row, kinded, term, bare}
use Rattle.terms.proofs.Laws.Format.RowPieceLaws.{after_end, onto_seq, pairs_seq}
use Rattle.terms.proofs.Laws.Format.ShapeLaws.{More, some_done, members_more}
use Rattle.terms.proofs.Laws.Format.KindTableLaws.{small, small_code, all_small, row_tag}

module _ (s : List ℕ) where
  -- wherever the bytes bs stand, p reads x and stops after them
  abbrev pub Reads : {A : Type 0} → Parser A → List ℕ → A → Type 0
  Reads p bs x = (at : ℕ) (rest : List ℕ) → drop at s ≡ bs ++ rest → p at ≡ got x (at + length bs)

  -- ---- parsers one after another

  next_bytes : (at : ℕ) (bs cs rest : List ℕ) → drop at s ≡ (bs ++ cs) ++ rest → drop (at + length bs) s ≡ cs ++ rest
  next_bytes at bs cs rest h = sym (drop-drop (length bs) at s) ∙ rw (h, append_assoc bs cs rest) (drop-append_seam bs (cs ++ rest))

  reads_map : {A B : Type 0} (p : Parser A) (bs : List ℕ) (x : A) (g : A → B) → Reads p bs x → Reads (p >>= λ a. return (g a)) bs (g x)
  reads_map p bs x g r at rest h = simp (r at rest h)

  reads_then : {A B : Type 0} (p : Parser A) (bs : List ℕ) (x : A) (f : A → Parser B) (cs : List ℕ) (y : B)
      → Reads p bs x → Reads (f x) cs y → Reads (p >>= f) (bs ++ cs) y
  reads_then p bs x f cs y r q at rest h =
      rw (r at (cs ++ rest) (h ∙ append_assoc bs cs rest))
      (q (at + length bs) rest (next_bytes at bs cs rest h) ∙ ap (λ (n : ℕ). got y n) (omega (arith, length-append bs cs)))

  reads_none : {A : Type 0} (x : A) → Reads (return x) [] x
  reads_none x at rest h = ap (λ (n : ℕ). got x n) (omega arith)

  -- ---- bytes and numbers

  -- the first of the bytes that stand at a position
  byte_at : (at b : ℕ) (rest : List ℕ) → drop at s ≡ b ∷ rest → (at < length s) × (get_or s at 0 ≡ b)
  byte_at at b rest h = (
    omega (arith, length-drop at s, ap length h),
    ap (λ (n : ℕ). get_or s n 0) (omega arith) ∙ sym (get_or-drop at s 0 0) ∙ ap (λ (l : List ℕ). get_or l 0 0) h,
  )

  reads_byte : (b : ℕ) → Reads (byte s) (b ∷ []) b
  reads_byte b at rest h = let e = byte_at at b rest h in simp (lt-ltb at (length s) e.0, e.1)

  reads_code : (limit c : ℕ) → c < limit → c < 128 → Reads (code s limit) (shortest c) c
  unfolding code
  reads_code limit c h k = rw (shortest_last c k) (λ at rest e. simp (reads_byte c at rest e, lt-ltb c limit h))

  reads_number : (most v : ℕ) → v ≤ most → Reads (number s most) (shortest v) v
  reads_number most v h at rest e = number_at most v at s rest e h

  reads_rising : (most least v : ℕ) → least ≤ v → v ≤ most → Reads (rising s most least) (shortest v) v
  unfolding rising
  reads_rising most least v h k at rest e = simp (number_at most v at s rest e k, le-leb least v h)

  reads_variable : (issued v : ℕ) → v < issued → v ≤ ceiling shape.ordinary → Reads (variable s issued) (shortest v) (var v)
  unfolding variable
  reads_variable issued v h k at rest e = simp (number_at (ceiling shape.ordinary) v at s rest e k, lt-ltb v issued h)

  -- ---- rows, each of whose terms p reads

  module _ (p : Parser Term) where
    -- a number and then a row
    reads_num : (v : Parser ℕ) (n : ℕ) (k : ℕ → Parser Parts) (ps : Parts) → Reads v (shortest n) n → Reads (k n) (part_bytes ps) ps
        → Reads (v >>= λ n. k n >>= λ ps. return (num n ps)) (part_bytes (num n ps)) (num n ps)
    unfolding bytes
    reads_num v n k ps r q =
        reads_then v (shortest n) n (λ n. k n >>= λ ps. return (num n ps)) (part_bytes ps) (num n ps) r
        (reads_map (k n) (part_bytes ps) ps (λ ps. num n ps) q)

    -- a term and then a row
    reads_sub : (t : Term) (k : Parser Parts) (ps : Parts) → Reads p (bytes t) t → Reads k (part_bytes ps) ps
        → Reads (p >>= λ t. k >>= λ ps. return (sub t ps)) (part_bytes (sub t ps)) (sub t ps)
    unfolding bytes
    reads_sub t k ps h q =
        reads_then p (bytes t) t (λ t. k >>= λ ps. return (sub t ps)) (part_bytes ps) (sub t ps) h
        (reads_map k (part_bytes ps) ps (λ ps. sub t ps) q)

    reads_end : Reads (return end) (part_bytes end) end
    unfolding bytes
    reads_end = reads_none end

    -- a parser that agrees with another everywhere
    reads_same : (k l : Parser Parts) (bs : List ℕ) (ps : Parts) → ((at : ℕ) → l at ≡ k at) → Reads k bs ps → Reads l bs ps
    reads_same k l bs ps e r at rest h = e at ∙ r at rest h

    -- nothing, and then a row
    reads_nothing : (k : Parser Parts) (ps : Parts) → Reads k (part_bytes ps) ps → Reads (return end then k) (part_bytes ps) ps
    reads_nothing k ps r = reads_same k (return end then k) (part_bytes ps) ps (λ at. sym (after_end (k at))) r

    module _ (k : Parser Parts) (r : Shape) (inner : (q : Parts) → Fit r q → Subs (λ t. Reads p (bytes t) t) q → Reads k (part_bytes q) q) where
      -- n terms, and then the row
      reads_many : (n : ℕ) (q : Parts) → Fit (many_terms n r) q → Subs (λ t. Reads p (bytes t) t) q → Reads (many s p n then k) (part_bytes q) q
      unfolding More many many_terms Fit Subs TakesNumber TakesTerm after_term
      reads_many zero q f u = reads_nothing k q (inner q f u)
      reads_many (suc n) end f u = absurd (some_done (shape.term (many_terms n r)) tt f)
      reads_many (suc n) (num m q) f u = absurd f.0
      reads_many (suc n) (sub t q) f u =
          reads_same (p >>= λ t. (many s p n then k) >>= λ ps. return (sub t ps)) (many s p (suc n) then k) (part_bytes (sub t q)) (sub t q)
          (λ at. onto_seq (p at) (many s p n) k)
          (reads_sub t (many s p n then k) q u.0 (reads_many n q f.2 u.1))

      -- n members with their terms, and then the row
      reads_pairs : (n least : ℕ) (q : Parts) → Fit (many_members n least r) q → Subs (λ t. Reads p (bytes t) t) q → Reads (pairs s p n least then k) (part_bytes q) q
      unfolding More pairs many_members Fit Subs TakesNumber TakesTerm after_number after_term
      reads_pairs zero least q f u = reads_nothing k q (inner q f u)
      reads_pairs (suc n) least end f u = absurd (some_done (shape.member n least r) tt f)
      reads_pairs (suc n) least (sub t q) f u = absurd f.0
      reads_pairs (suc n) least (num m end) f u = absurd (some_done (shape.term (many_members n (m + 1) r)) tt f.1)
      reads_pairs (suc n) least (num m (num l q)) f u = absurd f.1.0
      reads_pairs (suc n) least (num m (sub t q)) f u =
          reads_same (rising s (ceiling shape.definition) least >>= λ m. (p >>= λ t. (pairs s p n (m + 1) then k) >>= λ qs. return (sub t qs)) >>= λ ps. return (num m ps))
          (pairs s p (suc n) least then k) (part_bytes (num m (sub t q))) (num m (sub t q))
          (λ at. pairs_seq (rising s (ceiling shape.definition) least at) p (λ m. pairs s p n (m + 1)) k)
          (reads_num (rising s (ceiling shape.definition) least) m (λ m. p >>= λ t. (pairs s p n (m + 1) then k) >>= λ qs. return (sub t qs)) (sub t q)
          (reads_rising (ceiling shape.definition) least m f.0.0 f.0.1)
          (reads_sub t (pairs s p n (m + 1) then k) q u.0 (reads_pairs n (m + 1) q f.1.2 u.1)))

    -- a row that fits
    reads_row : (r : Shape) → small r ≡ true → (q : Parts) → Fit r q → Subs (λ t. Reads p (bytes t) t) q → Reads (row s p r) (part_bytes q) q
    unfolding row small Fit Subs More TakesNumber TakesTerm after_number after_term
    reads_row shape.done h end f u = reads_end
    reads_row shape.done h (num n q) f u = absurd f.0
    reads_row shape.done h (sub t q) f u = absurd f.0
    reads_row (shape.code limit r) h end f u = absurd (some_done (shape.code limit r) tt f)
    reads_row (shape.code limit r) h (num n q) f u =
        let g = small_code limit r h in
        reads_num (code s limit) n (λ n. row s p r) q (reads_code limit n f.0 (omega (arith, f.0, g.0))) (reads_row r g.1 q f.1 u)
    reads_row (shape.code limit r) h (sub t q) f u = absurd f.0
    reads_row (shape.number b r) h end f u = absurd (some_done (shape.number b r) tt f)
    reads_row (shape.number b r) h (num n q) f u = reads_num (number s (ceiling b)) n (λ n. row s p r) q (reads_number (ceiling b) n f.0) (reads_row r h q f.1 u)
    reads_row (shape.number b r) h (sub t q) f u = absurd f.0
    reads_row (shape.term r) h end f u = absurd (some_done (shape.term r) tt f)
    reads_row (shape.term r) h (num n q) f u = absurd f.0
    reads_row (shape.term r) h (sub t q) f u = reads_sub t (row s p r) q u.0 (reads_row r h q f.2 u.1)
    reads_row (shape.terms r) h end f u = absurd (some_done (shape.terms r) tt f)
    reads_row (shape.terms r) h (num n q) f u =
        reads_num (count s) n (λ n. many s p n then row s p r) q (reads_number (ceiling shape.ordinary) n f.0) (reads_many (row s p r) r (reads_row r h) n q f.1 u)
    reads_row (shape.terms r) h (sub t q) f u = absurd f.0
    reads_row (shape.members r) h end f u = absurd (some_done (shape.members r) tt f)
    reads_row (shape.members r) h (num n q) f u =
        reads_num (count s) n (λ n. pairs s p n 0 then row s p r) q (reads_number (ceiling shape.ordinary) n f.0) (reads_pairs (row s p r) r (reads_row r h) n 0 q f.1 u)
    reads_row (shape.members r) h (sub t q) f u = absurd f.0
    reads_row (shape.member n least r) h q f u = reads_pairs (row s p r) r (reads_row r h) (suc n) least q (members_more n least r q f) u

  -- ---- terms

  tagged : (k : ℕ) → k < 20 → k % 256 ≡ k
  tagged k h = omega arith

  kind_one : kind_of 1 ≡ shape.variable
  unfolding kind_of
  kind_one = refl

  mutual
    unfolding term kinded Formed Fit depth AllVars Subs bytes

    reads_term : (t : Term) (issued levels : ℕ) → Formed t → depth t ≤ levels → AllVars (λ v. v < issued) t → Reads (term s issued levels) (bytes t) t
    reads_term (var v) issued zero f d a = absurd (omega arith)
    reads_term (var v) issued (suc l) f d a =
        reads_then (byte s) (1 ∷ []) 1 (λ tag. kinded s (term s issued l) issued tag (kind_of tag)) (shortest v) (var v) (reads_byte 1)
        (rw kind_one (reads_variable issued v a f))
    reads_term (node k ps) issued zero f d a = absurd (omega arith)
    reads_term (node k ps) issued (suc l) f d a =
        rw (tagged k (row_tag k (layout k) f.0).0)
        (reads_then (byte s) (k ∷ []) k (λ tag. kinded s (term s issued l) issued tag (kind_of tag)) (part_bytes ps) (node k ps) (reads_byte k)
        (rw f.0 (reads_map (row s (term s issued l) (layout k)) (part_bytes ps) ps (λ ps. node k ps)
        (reads_row (term s issued l) (layout k) (all_small k) ps f.1 (reads_subs ps issued l (layout k) f.1 (omega arith) a)))))

    reads_subs : (ps : Parts) (issued levels : ℕ) (r : Shape) → Fit r ps → depths ps ≤ levels → AllVarsParts (λ v. v < issued) ps → Subs (λ t. Reads (term s issued levels) (bytes t) t) ps
    reads_subs end issued levels r f d a = tt
    reads_subs (num n ps) issued levels r f d a = reads_subs ps issued levels (after_number r n) f.1 d a
    reads_subs (sub t ps) issued levels r f d a = (
      reads_term t issued levels f.1 (le_trans (le-max_left (depth t) (depths ps)) d) a.0,
      reads_subs ps issued levels (after_term r) f.2 (le_trans (le-max_right (depth t) (depths ps)) d) a.1,
    )

  -- A formed term of at most so many levels, whose variables are issued, is read back from its bytes, wherever they stand.
  pub round_trip : (issued levels : ℕ) (t : Term) → Formed t → depth t ≤ levels → AllVars (λ v. v < issued) t → Reads (term s issued levels) (bytes t) t
  round_trip issued levels t f d a = reads_term t issued levels f d a

  -- The same for a bare nominal, which stands under the tag 20.
  pub bare_round_trip : (issued levels : ℕ) (ps : Parts) → Fit (nominal shape.done) ps → depths ps ≤ levels → AllVarsParts (λ v. v < issued) ps
      → Reads (bare s issued levels) (part_bytes ps) (node 20 ps)
  unfolding bare small
  bare_round_trip issued levels ps f d a =
      reads_map (row s (term s issued levels) (nominal shape.done)) (part_bytes ps) ps (λ ps. node 20 ps)
      (reads_row (term s issued levels) (nominal shape.done) refl ps f (reads_subs ps issued levels (nominal shape.done) f d a))
