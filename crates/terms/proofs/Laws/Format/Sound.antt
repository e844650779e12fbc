-- What the reader finds is a formed term within its levels, whose variables are issued, and whose bytes are exactly those that were
-- taken: nothing unsound is accepted.
use mathlib.Core.Path.{◌≡◌, refl, sym, ap, subst, ◌∙◌}
use mathlib.Core.Bool.{Bool, true, false}
use mathlib.Core.List.{List, [], ◌∷◌, ◌++◌, append_assoc}
use Prim.Native.Nat.{ℕ, zero, suc, ◌+◌, ◌%◌, ◌≤◌, ◌<◌}
use native.Mathlib.Nat.{max-le}
use native.Mathlib.Numerals.{add-one}
use native.Mathlib.Omega.{arith}
use borrow.Author.Tests.{leb-true, ltb-true, eqb-true}
use lib.Dec.{leb, ltb, eqb}
use lib.ListN.{length, drop, get_or}
use lib.Seq.{drop-cons}
use Rattle.terms.specs.Result.{pick}
use Rattle.terms.specs.Number.{shortest}
use Rattle.terms.proofs.Laws.Numbers.NumberBoundLaws.{bounds}
use Rattle.terms.proofs.Laws.Numbers.Shortest.{Octets, number_took, shortest_last}
use Rattle.terms.specs.Parser.{Result, Parser, got, refused, bind, return, refuse, byte, number}
use Rattle.terms.specs.Term.{Term, Parts, var, node, end, num, sub, bytes, part_bytes, depth, depths, AllVars, AllVarsParts}
use Rattle.terms.specs.Shape as shape
use Rattle.terms.specs.Shape.{Shape, Meaning, kind_of, layout, nominal, ceiling, many_terms, many_members}
use Rattle.terms.specs.Formed.{Formed, Fit, TakesNumber, TakesTerm, after_number, after_term}
use Rattle.terms.specs.Reading.{◌then◌, code, count, rising, variable, many, pairs, row, kinded, term, bare}
use Rattle.terms.specs.Words.ReadContract.{onto}
use Rattle.terms.proofs.Laws.Format.RowPieceLaws.{after_end, onto_seq, pairs_seq}
use Rattle.terms.proofs.Laws.Format.KindTableLaws.{small, small_code, all_small, row_tag}

-- ---- what a found result says of its parts

never : {A B : Type 0} (c : ℕ) (x : A) (n : ℕ) → ◌≡◌ {A = Result A} (refused c) (got x n) → B
never c x n e = let z : ◌≡◌ {A = ℕ} 0 1 = cc in absurd (omega arith)

parts_of : {A B : Type 0} (r : Result A) (f : A → Parser B) (y : B) (n : ℕ) → bind r f ≡ got y n → (x : A) × (m : ℕ) × (r ≡ got x m) × (f x m ≡ got y n)
parts_of (got x m) f y n e = (x, m, refl, e)
parts_of (refused c) f y n e = never c y n e

same_value : {A : Type 0} (x y : A) (m n : ℕ) → ◌≡◌ {A = Result A} (got x m) (got y n) → y ≡ x
same_value x y m n e = cc

same_next : {A : Type 0} (x y : A) (m n : ℕ) → ◌≡◌ {A = Result A} (got x m) (got y n) → m ≡ n
same_next x y m n e = cc

picked : {A : Type 0} (b : Bool) (x y : A) (c m n : ℕ) → pick b (return x) (refuse c) m ≡ got y n → (b ≡ true) × (y ≡ x) × (m ≡ n)
picked true x y c m n e = (refl, same_value x y m n e, same_next x y m n e)
picked false x y c m n e = never c y n e

module _ (s : List ℕ) where
  -- the bytes from `at` on are bs, and then those from n on
  abbrev pub Took : ℕ → ℕ → List ℕ → Type 0
  Took at n bs = drop at s ≡ bs ++ drop n s

  took_then : (at m n : ℕ) (bs cs : List ℕ) → Took at m bs → Took m n cs → Took at n (bs ++ cs)
  took_then at m n bs cs h k = h ∙ ap (λ (l : List ℕ). bs ++ l) k ∙ sym (append_assoc bs cs (drop n s))

  -- the same, where the end and the bytes are told another way
  moved : (at m n : ℕ) (bs cs : List ℕ) → m ≡ n → cs ≡ bs → Took at m bs → Took at n cs
  moved at m n bs cs h k x = rw (← h, k) x

  -- ---- codes and numbers

  took_byte : (at b n : ℕ) → byte s at ≡ got b n → Took at n (b ∷ [])
  took_byte at b n e = go (ltb at (length s)) refl e
    where
      go : (h : Bool) → ltb at (length s) ≡ h → pick h (got (get_or s at 0) (at + 1)) (refused 1) ≡ got b n → Took at n (b ∷ [])
      go true h e =
          moved at (at + 1) n (get_or s at 0 ∷ []) (b ∷ []) (same_next (get_or s at 0) b (at + 1) n e) (ap (λ (x : ℕ). x ∷ []) (same_value (get_or s at 0) b (at + 1) n e))
          (rw (add-one at) (drop-cons s at 0 (ltb-true at (length s) h)))
      go false h e = never 1 b n e

  code_found : (limit at c n : ℕ) → code s limit at ≡ got c n → (c < limit) × Took at n (c ∷ [])
  unfolding code
  code_found limit at c n e =
      let x = parts_of (byte s at) _ c n e in
      let b = picked (ltb x.0 limit) x.0 c 2 x.1 n x.3 in (
        rw b.1 (ltb-true x.0 limit b.0),
        moved at x.1 n (x.0 ∷ []) (c ∷ []) b.2 (ap (λ (y : ℕ). y ∷ []) b.1) (took_byte at x.0 x.1 x.2),
      )

  module _ (o : Octets s) where
    number_found : (most at v n : ℕ) → number s most at ≡ got v n → (v ≤ most) × Took at n (shortest v)
    number_found most at v n e = ((bounds most 0 1 at (drop at s) v n e).small, number_took most at v n s o e)

    rising_found : (most least at v n : ℕ) → rising s most least at ≡ got v n → (least ≤ v) × (v ≤ most) × Took at n (shortest v)
    unfolding rising
    rising_found most least at v n e =
        let x = parts_of (number s most at) _ v n e in
        let b = picked (leb least x.0) x.0 v 5 x.1 n x.3 in
        let f = number_found most at x.0 x.1 x.2 in (
          rw b.1 (leb-true least x.0 b.0),
          rw b.1 f.0,
          moved at x.1 n (shortest x.0) (shortest v) b.2 (ap shortest b.1) f.1,
        )

    -- ---- rows

    module _ (issued levels : ℕ) where
      -- a term that was found between two positions, and a row
      pub record FoundTerm (at : ℕ) (t : Term) (n : ℕ) : Type 0 where
        pub formed : Formed t
        pub low : depth t ≤ levels
        pub known : AllVars (λ v. v < issued) t
        pub taken : Took at n (bytes t)

      pub record FoundRow (r : Shape) (at : ℕ) (q : Parts) (n : ℕ) : Type 0 where
        pub fit : Fit r q
        pub low : depths q ≤ levels
        pub known : AllVarsParts (λ v. v < issued) q
        pub taken : Took at n (part_bytes q)

      found_end : (at n : ℕ) (q : Parts) → ◌≡◌ {A = Result Parts} (got end at) (got q n) → FoundRow shape.done at q n
      unfolding Fit depth AllVars bytes
      found_end at n q e =
          rw (same_value end q at n e)
          (record { fit = refl; low = omega arith; known = tt; taken = ap (λ (k : ℕ). drop k s) (same_next end q at n e) })

      -- a number, and then a row
      found_num : (r : Shape) (at v m : ℕ) (ps q : Parts) (k n : ℕ) → TakesNumber r v → Took at m (shortest v) → FoundRow (after_number r v) m ps k
          → ◌≡◌ {A = Result Parts} (got (num v ps) k) (got q n) → FoundRow r at q n
      unfolding Fit depth AllVars bytes
      found_num r at v m ps q k n h w f e =
          rw (same_value (num v ps) q k n e)
          (record { fit = (h, f.fit); low = f.low; known = f.known; taken = moved at k n (shortest v ++ part_bytes ps) (shortest v ++ part_bytes ps) (same_next (num v ps) q k n e) refl (took_then at m k (shortest v) (part_bytes ps) w f.taken) })

      -- a term, and then a row
      found_sub : (r : Shape) (at : ℕ) (t : Term) (m : ℕ) (ps q : Parts) (k n : ℕ) → TakesTerm r → FoundTerm at t m → FoundRow (after_term r) m ps k
          → ◌≡◌ {A = Result Parts} (got (sub t ps) k) (got q n) → FoundRow r at q n
      unfolding Fit depth AllVars bytes
      found_sub r at t m ps q k n h w f e =
          rw (same_value (sub t ps) q k n e)
          (record { fit = (h, w.formed, f.fit); low = max-le w.low f.low; known = (w.known, f.known); taken = moved at k n (bytes t ++ part_bytes ps) (bytes t ++ part_bytes ps) (same_next (sub t ps) q k n e) refl (took_then at m k (bytes t) (part_bytes ps) w.taken f.taken) })

      module _ (p : Parser Term) (inner : (at : ℕ) (t : Term) (n : ℕ) → p at ≡ got t n → FoundTerm at t n) where
        module _ (l : Parser Parts) (r : Shape) (rest : (at : ℕ) (q : Parts) (n : ℕ) → l at ≡ got q n → FoundRow r at q n) where
          many_found : (k at : ℕ) (q : Parts) (n : ℕ) → (many s p k then l) at ≡ got q n → FoundRow (many_terms k r) at q n
          unfolding many many_terms TakesTerm after_term
          many_found zero at q n e = rest at q n (after_end (l at) ∙ e)
          many_found (suc k) at q n e =
              let x = parts_of (p at) _ q n (sym (onto_seq (p at) (many s p k) l) ∙ e) in
              let y = parts_of ((many s p k then l) x.1) _ q n x.3 in
              found_sub (shape.term (many_terms k r)) at x.0 x.1 y.0 q y.1 n tt (inner at x.0 x.1 x.2) (many_found k x.1 y.0 y.1 y.2) y.3

          pairs_found : (k least at : ℕ) (q : Parts) (n : ℕ) → (pairs s p k least then l) at ≡ got q n → FoundRow (many_members k least r) at q n
          unfolding pairs many_members TakesNumber after_number TakesTerm after_term
          pairs_found zero least at q n e = rest at q n (after_end (l at) ∙ e)
          pairs_found (suc k) least at q n e =
              let v = rising s (ceiling shape.definition) least at in
              let x = parts_of v _ q n (sym (pairs_seq v p (λ m. pairs s p k (m + 1)) l) ∙ e) in
              let m = x.0 in
              let y = parts_of (onto (p x.1) (pairs s p k (m + 1) then l)) _ q n x.3 in
              let z = parts_of (p x.1) _ y.0 y.1 y.2 in
              let w = parts_of ((pairs s p k (m + 1) then l) z.1) _ y.0 y.1 z.3 in
              let b = rising_found (ceiling shape.definition) least at m x.1 x.2 in
              found_num (shape.member k least r) at m x.1 y.0 q y.1 n (b.0, b.1) b.2
              (found_sub (shape.term (many_members k (m + 1) r)) x.1 z.0 z.1 w.0 y.0 w.1 y.1 tt (inner x.1 z.0 z.1 z.2) (pairs_found k (m + 1) z.1 w.0 w.1 w.2) w.3)
              y.3

        row-found : (r : Shape) → small r ≡ true → (at : ℕ) (q : Parts) (n : ℕ) → row s p r at ≡ got q n → FoundRow r at q n
        unfolding row small TakesNumber after_number TakesTerm after_term many_members
        row-found shape.done h at q n e = found_end at n q e
        row-found (shape.code limit r) h at q n e =
            let g = small_code limit r h in
            let x = parts_of (code s limit at) _ q n e in
            let y = parts_of (row s p r x.1) _ q n x.3 in
            let k = code_found limit at x.0 x.1 x.2 in
            found_num (shape.code limit r) at x.0 x.1 y.0 q y.1 n k.0 (rw (shortest_last x.0 (omega (arith, k.0, g.0))) k.1) (row-found r g.1 x.1 y.0 y.1 y.2) y.3
        row-found (shape.number b r) h at q n e =
            let x = parts_of (number s (ceiling b) at) _ q n e in
            let y = parts_of (row s p r x.1) _ q n x.3 in
            let k = number_found (ceiling b) at x.0 x.1 x.2 in
            found_num (shape.number b r) at x.0 x.1 y.0 q y.1 n k.0 k.1 (row-found r h x.1 y.0 y.1 y.2) y.3
        row-found (shape.term r) h at q n e =
            let x = parts_of (p at) _ q n e in
            let y = parts_of (row s p r x.1) _ q n x.3 in
            found_sub (shape.term r) at x.0 x.1 y.0 q y.1 n tt (inner at x.0 x.1 x.2) (row-found r h x.1 y.0 y.1 y.2) y.3
        row-found (shape.terms r) h at q n e =
            let x = parts_of (count s at) _ q n e in
            let y = parts_of ((many s p x.0 then row s p r) x.1) _ q n x.3 in
            let k = number_found (ceiling shape.ordinary) at x.0 x.1 x.2 in
            found_num (shape.terms r) at x.0 x.1 y.0 q y.1 n k.0 k.1 (many_found (row s p r) r (row-found r h) x.0 x.1 y.0 y.1 y.2) y.3
        row-found (shape.members r) h at q n e =
            let x = parts_of (count s at) _ q n e in
            let y = parts_of ((pairs s p x.0 0 then row s p r) x.1) _ q n x.3 in
            let k = number_found (ceiling shape.ordinary) at x.0 x.1 x.2 in
            found_num (shape.members r) at x.0 x.1 y.0 q y.1 n k.0 k.1 (pairs_found (row s p r) r (row-found r h) x.0 0 x.1 y.0 y.1 y.2) y.3
        row-found (shape.member k least r) h at q n e = pairs_found (row s p r) r (row-found r h) (suc k) least at q n e

    -- ---- terms

    tagged : (k : ℕ) → k < 20 → k % 256 ≡ k
    tagged k h = omega arith

    kind_one : (k : ℕ) → kind_of k ≡ shape.variable → k ≡ 1
    unfolding kind_of
    kind_one k e = go (eqb k 1) (ltb k 20) refl e
      where
        go : (a b : Bool) → eqb k 1 ≡ a → pick a shape.variable (pick b (shape.row (layout k)) shape.unlisted) ≡ shape.variable → k ≡ 1
        go true b h e = eqb-true k 1 h
        go false true h e = let z : ◌≡◌ {A = ℕ} 0 1 = cc in absurd (omega arith)
        go false false h e = let z : ◌≡◌ {A = ℕ} 0 1 = cc in absurd (omega arith)

    pub found : (issued levels at : ℕ) (t : Term) (n : ℕ) → term s issued levels at ≡ got t n → FoundTerm issued levels at t n
    unfolding term kinded variable Formed depth AllVars bytes
    found issued zero at t n e = never 4 t n e
    found issued (suc l) at t n e =
        let x = parts_of (byte s at) _ t n e in
        go (found issued l) x.0 x.1 (took_byte at x.0 x.1 x.2) (kind_of x.0) refl x.3
      where
        go : ((m : ℕ) (u : Term) (k : ℕ) → term s issued l m ≡ got u k → FoundTerm issued l m u k) → (tag m : ℕ) → Took at m (tag ∷ []) → (k : Meaning) → kind_of tag ≡ k
            → kinded s (term s issued l) issued tag k m ≡ got t n → FoundTerm issued (suc l) at t n
        go inner tag m w shape.variable h e =
            let y = parts_of (number s (ceiling shape.ordinary) m) _ t n e in
            let b = picked (ltb y.0 issued) (var y.0) t 6 y.1 n y.3 in
            let f = number_found (ceiling shape.ordinary) m y.0 y.1 y.2 in
            rw b.1
            (record {
              formed = f.0;
              low = omega arith;
              known = ltb-true y.0 issued b.0;
              taken = moved at y.1 n (tag ∷ shortest y.0) (1 ∷ shortest y.0) b.2 (rw (kind_one tag h)) (took_then at m y.1 (tag ∷ []) (shortest y.0) w f.1);
            })
        go inner tag m w (shape.row r) h e =
            let y = parts_of (row s (term s issued l) r m) _ t n e in
            let k = row_tag tag r h in
            let f : small r ≡ true = rw k.1 at (all_small tag) in
            let g = row-found issued l (term s issued l) inner r f m y.0 y.1 y.2 in
            let same : t ≡ node tag y.0 = same_value (node tag y.0) t y.1 n y.3 in
            rw same
            (record {
              formed = (rw k.1 h, rw k.1 g.fit);
              low = omega (arith, g.low);
              known = g.known;
              taken = moved at y.1 n (tag ∷ part_bytes y.0) ((tag % 256) ∷ part_bytes y.0) (same_next (node tag y.0) t y.1 n y.3) (rw (tagged tag k.0)) (took_then at m y.1 (tag ∷ []) (part_bytes y.0) w g.taken);
            })
        go inner tag m w shape.unlisted h e = never 2 t n e

    -- ---- a bare nominal

    nominal_small : small (nominal shape.done) ≡ true
    unfolding small
    nominal_small = refl

    pub bare_found : (issued levels at : ℕ) (t : Term) (n : ℕ) → bare s issued levels at ≡ got t n → (ps : Parts) × (t ≡ node 20 ps) × FoundRow issued levels (nominal shape.done) at ps n
    unfolding bare
    bare_found issued levels at t n e =
        let x = parts_of (row s (term s issued levels) (nominal shape.done) at) _ t n e in
        let f = row-found issued levels (term s issued levels) (found issued levels) (nominal shape.done) nominal_small at x.0 x.1 x.2 in
        (x.0, same_value (node 20 x.0) t x.1 n x.3, subst (λ (k : ℕ). FoundRow issued levels (nominal shape.done) at x.0 k) (same_next (node 20 x.0) t x.1 n x.3) f)
