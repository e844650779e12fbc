-- The Rust's `same_shape`, tag by tag, is equality of shapes up to Set and Map access, on formed terms that are not equal.
use mathlib.Core.Path.{◌≡◌, refl, sym, ap, ap₂, ◌∙◌, subst}
use mathlib.Core.Bool.{Bool, true, false, not, ◌&&◌}
use mathlib.Core.List.{List, [], ◌∷◌, ◌++◌}
use Prim.Native.Nat.{ℕ, zero, suc, ◌<◌}
use native.Mathlib.Omega.{arith}
use borrow.Author.Tests.{eq-eqb, eqb-true}
use lib.Dec.{eqb}
use lib.ListN.{length, get_or}
use Rattle.terms.specs.Term.{Term, Parts, node, end, num, sub}
use Rattle.terms.specs.Tree.{unknown, put_terms, put_members, nums, row, tag, same, same_rows, same_numbers, Nominal, nominal_of}
use Rattle.terms.specs.Questions.{among}
use Rattle.terms.specs.Shape as shape
use Rattle.terms.specs.Shape.{Shape, layout, nominal, many_terms}
use Rattle.terms.specs.Formed.{TakesNumber, after_number, TakesTerm, after_term, Formed, Fit}
use Rattle.terms.specs.Words.SatisfyContract.{nominal_row}
use Rattle.terms.proofs.Laws.General.Bools.{never_true, and-false}
use Rattle.terms.proofs.Laws.Held.SameLaws.{both, rows_refl, rows_true}
use Rattle.terms.proofs.Laws.Format.KindTableLaws.{row_tag}
use Rattle.terms.proofs.Laws.Held.NominalLaws.{split, fit_done, nominal_is}
use Rattle.unify.specs.Term.{clash}
use Rattle.solver.specs.Shapes.{blank, blank_row, loose, unmarked, read_row, read, same_shape}
use Rattle.solver.specs.Constrain.{projects}
use Rattle.solver.specs.Rust.{same_nominal, alike, same_shape_rust}
use Rattle.solver.proofs.Laws.Theory.TheoryView.{nums_blank}

-- ---- a formed row by its numbers

number_or_term : (r : Shape) (n : ℕ) → TakesNumber r n → TakesTerm r → ⊥
unfolding TakesNumber TakesTerm
number_or_term shape.done n a b = b
number_or_term (shape.code limit r) n a b = b
number_or_term (shape.number f r) n a b = b
number_or_term (shape.term r) n a b = a
number_or_term (shape.terms r) n a b = b
number_or_term (shape.members r) n a b = b
number_or_term (shape.member k least r) n a b = b

done_number : (r : Shape) (n : ℕ) → r ≡ shape.done → TakesNumber r n → ⊥
unfolding TakesNumber
done_number r n e a = subst (λ (s : Shape). TakesNumber s n) e a

done_term : (r : Shape) → r ≡ shape.done → TakesTerm r → ⊥
unfolding TakesTerm
done_term r e a = subst (λ (s : Shape). TakesTerm s) e a

-- two rows of one shape with the same numbers have their terms at the same places
blank_same : (r : Shape) (ps qs : Parts) → Fit r ps → Fit r qs → nums ps ≡ nums qs → blank_row ps ≡ blank_row qs
unfolding Formed nums blank_row
blank_same r end end f g e = refl
blank_same r end (num m qs) f g e = absurd (done_number r m f g.0)
blank_same r end (sub u qs) f g e = absurd (done_term r f g.0)
blank_same r (num n ps) end f g e = absurd (done_number r n g f.0)
blank_same r (num n ps) (num m qs) f g e =
    let a : n ≡ m = cc in
    let b : nums ps ≡ nums qs = cc in
    ap₂ num a (blank_same (after_number r n) ps qs f.1 (subst (λ (x : ℕ). Fit (after_number r x) qs) (sym a) g.1) b)
blank_same r (num n ps) (sub u qs) f g e = absurd (number_or_term r n f.0 g.0)
blank_same r (sub t ps) end f g e = absurd (done_term r g f.0)
blank_same r (sub t ps) (num m qs) f g e = absurd (number_or_term r m g.0 f.0)
blank_same r (sub t ps) (sub u qs) f g e = ap (sub unknown) (blank_same (after_term r) ps qs f.2 g.2 e)

by_numbers : (r : Shape) (ps qs : Parts) → Fit r ps → Fit r qs → (b : Bool) → (b ≡ true → nums ps ≡ nums qs) → (nums ps ≡ nums qs → b ≡ true) → b ≡ same_rows (blank_row ps) (blank_row qs)
by_numbers r ps qs f g true to from = sym (ap (same_rows (blank_row ps)) (sym (blank_same r ps qs f g (to refl))) ∙ rows_refl (blank_row ps))
by_numbers r ps qs f g false to from = go (same_rows (blank_row ps) (blank_row qs)) refl
  where
    go : (c : Bool) → same_rows (blank_row ps) (blank_row qs) ≡ c → false ≡ c
    go true e = from (sym (nums_blank ps) ∙ ap nums (rows_true (blank_row ps) (blank_row qs) e) ∙ nums_blank qs)
    go false e = refl

-- terms alone
silent : Shape → Bool
silent shape.done = true
silent (shape.code limit r) = false
silent (shape.number f r) = false
silent (shape.term r) = silent r
silent (shape.terms r) = false
silent (shape.members r) = false
silent (shape.member k least r) = false

no_numbers : (r : Shape) (ps : Parts) → silent r ≡ true → Fit r ps → nums ps ≡ []
unfolding Formed nums silent TakesNumber TakesTerm after_term
no_numbers r end s f = refl
no_numbers shape.done (num n ps) s f = absurd f.0
no_numbers (shape.code limit r) (num n ps) s f = never_true s
no_numbers (shape.number g r) (num n ps) s f = never_true s
no_numbers (shape.term r) (num n ps) s f = absurd f.0
no_numbers (shape.terms r) (num n ps) s f = never_true s
no_numbers (shape.members r) (num n ps) s f = never_true s
no_numbers (shape.member k least r) (num n ps) s f = never_true s
no_numbers shape.done (sub t ps) s f = absurd f.0
no_numbers (shape.code limit r) (sub t ps) s f = never_true s
no_numbers (shape.number g r) (sub t ps) s f = never_true s
no_numbers (shape.term r) (sub t ps) s f = no_numbers r ps s f.2
no_numbers (shape.terms r) (sub t ps) s f = never_true s
no_numbers (shape.members r) (sub t ps) s f = never_true s
no_numbers (shape.member k least r) (sub t ps) s f = never_true s

silent_many : (n : ℕ) (r : Shape) → silent r ≡ true → silent (many_terms n r) ≡ true
unfolding silent many_terms
silent_many zero r s = s
silent_many (suc n) r s = silent_many n r s

-- one number, then terms
code_one : (limit : ℕ) (r : Shape) (ps : Parts) → silent r ≡ true → Fit (shape.code limit r) ps → (a : ℕ) × (qs : Parts) × (ps ≡ num a qs) × Fit r qs × (nums qs ≡ [])
unfolding Formed TakesTerm after_number
code_one limit r end s f = clash (cc)
code_one limit r (num a qs) s f = (a, qs, refl, f.1, no_numbers r qs s f.1)
code_one limit r (sub t ps) s f = absurd f.0

terms_one : (r : Shape) (ps : Parts) → silent r ≡ true → Fit (shape.terms r) ps → (a : ℕ) × (qs : Parts) × (ps ≡ num a qs) × (nums qs ≡ [])
unfolding Formed TakesTerm after_number
terms_one r end s f = clash (cc)
terms_one r (num a qs) s f = (a, qs, refl, no_numbers (many_terms a r) qs (silent_many a r s) f.1)
terms_one r (sub t ps) s f = absurd f.0

single : (ps : Parts) (a : ℕ) (qs : Parts) → ps ≡ num a qs → nums qs ≡ [] → nums ps ≡ get_or (nums ps) 0 0 ∷ []
unfolding nums
single ps a qs e f =
    let p : nums ps ≡ a ∷ [] = ap nums e ∙ ap (λ (l : List ℕ). a ∷ l) f in
    p ∙ ap (λ (x : ℕ). x ∷ []) (sym (ap (λ (l : List ℕ). get_or l 0 0) p))

-- the first number is all there is
first_decides : (r : Shape) (ps qs : Parts) → Fit r ps → Fit r qs → nums ps ≡ get_or (nums ps) 0 0 ∷ [] → nums qs ≡ get_or (nums qs) 0 0 ∷ []
    → eqb (get_or (nums ps) 0 0) (get_or (nums qs) 0 0) ≡ same_rows (blank_row ps) (blank_row qs)
first_decides r ps qs f g a b =
    by_numbers r ps qs f g (eqb (get_or (nums ps) 0 0) (get_or (nums qs) 0 0))
    (λ e. a ∙ ap (λ (x : ℕ). x ∷ []) (eqb-true (get_or (nums ps) 0 0) (get_or (nums qs) 0 0) e) ∙ sym b)
    (λ e. eq-eqb (get_or (nums ps) 0 0) (get_or (nums qs) 0 0) (ap (λ (l : List ℕ). get_or l 0 0) e))

code_decides : (limit : ℕ) (r : Shape) (ps qs : Parts) → silent r ≡ true → Fit (shape.code limit r) ps → Fit (shape.code limit r) qs
    → eqb (get_or (nums ps) 0 0) (get_or (nums qs) 0 0) ≡ same_rows (blank_row ps) (blank_row qs)
code_decides limit r ps qs s f g =
    let x = code_one limit r ps s f in
    let y = code_one limit r qs s g in
    first_decides (shape.code limit r) ps qs f g (single ps x.0 x.1 x.2 x.4) (single qs y.0 y.1 y.2 y.4)

terms_decides : (r : Shape) (ps qs : Parts) → silent r ≡ true → Fit (shape.terms r) ps → Fit (shape.terms r) qs
    → eqb (get_or (nums ps) 0 0) (get_or (nums qs) 0 0) ≡ same_rows (blank_row ps) (blank_row qs)
terms_decides r ps qs s f g =
    let x = terms_one r ps s f in
    let y = terms_one r qs s g in
    first_decides (shape.terms r) ps qs f g (single ps x.0 x.1 x.2 x.3) (single qs y.0 y.1 y.2 y.3)

-- terms alone: always
silent_decides : (r : Shape) (ps qs : Parts) → silent r ≡ true → Fit r ps → Fit r qs → true ≡ same_rows (blank_row ps) (blank_row qs)
silent_decides r ps qs s f g = by_numbers r ps qs f g true (λ e. no_numbers r ps s f ∙ sym (no_numbers r qs s g)) (λ e. refl)

-- an access that does not count, then terms: always
unmarked_decides : (limit : ℕ) (r : Shape) (ps qs : Parts) → silent r ≡ true → Fit (shape.code limit r) ps → Fit (shape.code limit r) qs → true ≡ same_rows (unmarked (blank_row ps)) (unmarked (blank_row qs))
unfolding blank_row unmarked
unmarked_decides limit r ps qs s f g =
    let x = code_one limit r ps s f in
    let y = code_one limit r qs s g in
    let e : unmarked (blank_row ps) ≡ unmarked (blank_row qs) =
    ap (λ (rs : Parts). unmarked (blank_row rs)) x.2 ∙ ap (num 0) (blank_same r x.1 y.1 x.3 y.3 (x.4 ∙ sym y.4)) ∙ sym (ap (λ (rs : Parts). unmarked (blank_row rs)) y.2) in
    sym (ap (same_rows (unmarked (blank_row ps))) (sym e) ∙ rows_refl (unmarked (blank_row ps)))

-- nominals
numbers_true : (l m : List ℕ) → same_numbers l m ≡ true → l ≡ m
unfolding same_numbers
numbers_true [] [] e = refl
numbers_true [] (x ∷ m) e = never_true e
numbers_true (x ∷ l) [] e = never_true e
numbers_true (x ∷ l) (y ∷ m) e = let a = both (eqb x y) (same_numbers l m) e in ap₂ (λ (z : ℕ) (r : List ℕ). z ∷ r) (eqb-true x y a.0) (numbers_true l m a.1)

numbers_refl : (l : List ℕ) → same_numbers l l ≡ true
unfolding same_numbers
numbers_refl [] = refl
numbers_refl (x ∷ l) = rw (eq-eqb x x refl) (numbers_refl l)

nums_terms : (ts : List Term) (ps : Parts) → nums (put_terms ts ps) ≡ nums ps
unfolding put_terms nums
nums_terms [] ps = refl
nums_terms (t ∷ ts) ps = nums_terms ts ps

nums_members : (ms : List ℕ) (ts : List Term) (ps : Parts) → length ts ≡ length ms → nums (put_members ms ts ps) ≡ ms ++ nums ps
unfolding put_members nums
nums_members [] ts ps h = refl
nums_members (m ∷ ms) [] ps h = absurd (omega arith)
nums_members (m ∷ ms) (t ∷ ts) ps h = ap (λ (l : List ℕ). m ∷ l) (nums_members ms ts ps (omega arith))

nums_nominal : (a : Nominal) → length a.values ≡ length a.members → nums (nominal_row a end) ≡ a.declaration ∷ length a.arguments ∷ length a.members ∷ (a.members ++ [])
unfolding nums
nums_nominal a h = rw (nums_terms, nums_members a.members a.values end h)

name_numbers : (ps : Parts) → Fit (nominal shape.done) ps
    → nums ps ≡ (nominal_of ps).declaration ∷ length (nominal_of ps).arguments ∷ length (nominal_of ps).members ∷ ((nominal_of ps).members ++ [])
unfolding nums
name_numbers ps f =
    let x = split shape.done ps f in
    let a = x.name in
    let e : ps ≡ nominal_row a end = x.is ∙ ap (nominal_row a) (fit_done x.rest x.fit) in
    let i : nominal_of ps ≡ a = ap nominal_of e ∙ nominal_is a end x.paired in
    ap nums e ∙ nums_nominal a x.paired
    ∙ sym (ap (λ (b : Nominal). b.declaration ∷ length b.arguments ∷ length b.members ∷ (b.members ++ [])) i)

append_same : (l m : List ℕ) → l ++ [] ≡ m ++ [] → l ≡ m
append_same [] [] e = refl
append_same [] (x ∷ m) e = clash (cc)
append_same (x ∷ l) [] e = clash (cc)
append_same (x ∷ l) (y ∷ m) e = let a : x ≡ y = cc in let b : l ++ [] ≡ m ++ [] = cc in ap₂ (λ (z : ℕ) (r : List ℕ). z ∷ r) a (append_same l m b)

nominal_decides : (ps qs : Parts) → Fit (nominal shape.done) ps → Fit (nominal shape.done) qs → same_nominal (nominal_of ps) (nominal_of qs) ≡ same_rows (blank_row ps) (blank_row qs)
unfolding same_nominal
nominal_decides ps qs f g = by_numbers (nominal shape.done) ps qs f g (same_nominal a b) to from
  where
    a : Nominal
    a = nominal_of ps

    b : Nominal
    b = nominal_of qs

    to : same_nominal (nominal_of ps) (nominal_of qs) ≡ true → nums ps ≡ nums qs
    to e =
        let x = both (eqb (nominal_of ps).declaration (nominal_of qs).declaration) (eqb (length (nominal_of ps).arguments) (length (nominal_of qs).arguments) && same_numbers (nominal_of ps).members (nominal_of qs).members) e in
        let y = both (eqb (length (nominal_of ps).arguments) (length (nominal_of qs).arguments)) (same_numbers (nominal_of ps).members (nominal_of qs).members) x.1 in
        let d = eqb-true (nominal_of ps).declaration (nominal_of qs).declaration x.0 in
        let l = eqb-true (length (nominal_of ps).arguments) (length (nominal_of qs).arguments) y.0 in
        let m = numbers_true (nominal_of ps).members (nominal_of qs).members y.1 in
        name_numbers ps f
        ∙ ap₂ (λ (i j : ℕ). i ∷ j ∷ length (nominal_of ps).members ∷ ((nominal_of ps).members ++ [])) d l
        ∙ ap (λ (r : List ℕ). (nominal_of qs).declaration ∷ length (nominal_of qs).arguments ∷ length r ∷ (r ++ [])) m
        ∙ sym (name_numbers qs g)

    from : nums ps ≡ nums qs → same_nominal (nominal_of ps) (nominal_of qs) ≡ true
    from e =
        let p = sym (name_numbers ps f) ∙ e ∙ name_numbers qs g in
        let d : (nominal_of ps).declaration ≡ (nominal_of qs).declaration = cc in
        let l : length (nominal_of ps).arguments ≡ length (nominal_of qs).arguments = cc in
        let m : (nominal_of ps).members ++ [] ≡ (nominal_of qs).members ++ [] = cc in
        let o = append_same (nominal_of ps).members (nominal_of qs).members m in
        let s : same_numbers (nominal_of ps).members (nominal_of qs).members ≡ true = ap (same_numbers (nominal_of ps).members) (sym o) ∙ numbers_refl (nominal_of ps).members in
        rw (eq-eqb (nominal_of ps).declaration (nominal_of qs).declaration d, eq-eqb (length (nominal_of ps).arguments) (length (nominal_of qs).arguments) l) s

-- numbers alone
leafy : Shape → Bool
leafy shape.done = true
leafy (shape.code limit r) = leafy r
leafy (shape.number f r) = leafy r
leafy (shape.term r) = false
leafy (shape.terms r) = false
leafy (shape.members r) = false
leafy (shape.member k least r) = false

no_terms_lem : (r : Shape) (ps : Parts) → leafy r ≡ true → Fit r ps → blank_row ps ≡ ps
unfolding Formed blank_row leafy TakesNumber TakesTerm after_number
no_terms_lem r end s f = refl
no_terms_lem shape.done (num n ps) s f = absurd f.0
no_terms_lem (shape.code limit r) (num n ps) s f = ap (num n) (no_terms_lem r ps s f.1)
no_terms_lem (shape.number g r) (num n ps) s f = ap (num n) (no_terms_lem r ps s f.1)
no_terms_lem (shape.term r) (num n ps) s f = never_true s
no_terms_lem (shape.terms r) (num n ps) s f = never_true s
no_terms_lem (shape.members r) (num n ps) s f = never_true s
no_terms_lem (shape.member k least r) (num n ps) s f = never_true s
no_terms_lem shape.done (sub t ps) s f = absurd f.0
no_terms_lem (shape.code limit r) (sub t ps) s f = absurd f.0
no_terms_lem (shape.number g r) (sub t ps) s f = absurd f.0
no_terms_lem (shape.term r) (sub t ps) s f = never_true s
no_terms_lem (shape.terms r) (sub t ps) s f = never_true s
no_terms_lem (shape.members r) (sub t ps) s f = never_true s
no_terms_lem (shape.member k least r) (sub t ps) s f = never_true s

leaf_decides : (r : Shape) (ps qs : Parts) → leafy r ≡ true → Fit r ps → Fit r qs → (ps ≡ qs → ⊥) → false ≡ same_rows (blank_row ps) (blank_row qs)
leaf_decides r ps qs s f g ne = go (same_rows (blank_row ps) (blank_row qs)) refl
  where
    go : (c : Bool) → same_rows (blank_row ps) (blank_row qs) ≡ c → false ≡ c
    go true e = absurd (ne (sym (no_terms_lem r ps s f) ∙ rows_true (blank_row ps) (blank_row qs) e ∙ no_terms_lem r qs s g))
    go false e = refl

-- ---- tag by tag

abbrev Decided : ℕ → Type 0
Decided k = (ps qs : Parts) → Fit (layout k) ps → Fit (layout k) qs → (ps ≡ qs → ⊥) → alike k ps qs ≡ (not (eqb k 18) && same_rows (read_row loose k (blank_row ps)) (read_row loose k (blank_row qs)))

decided : (k : ℕ) → k < 20 → Decided k
unfolding alike among loose silent leafy
decided zero l ps qs f g ne = code_decides 2 (shape.term shape.done) ps qs refl f g
decided (suc zero) l ps qs f g ne = leaf_decides (layout 1) ps qs refl f g ne
decided (suc (suc zero)) l ps qs f g ne = leaf_decides (layout 2) ps qs refl f g ne
decided (suc (suc (suc zero))) l ps qs f g ne = leaf_decides (layout 3) ps qs refl f g ne
decided (suc (suc (suc (suc zero)))) l ps qs f g ne = leaf_decides (layout 4) ps qs refl f g ne
decided (suc (suc (suc (suc (suc zero))))) l ps qs f g ne = terms_decides shape.done ps qs refl f g
decided (suc (suc (suc (suc (suc (suc zero)))))) l ps qs f g ne = terms_decides (shape.term shape.done) ps qs refl f g
decided (suc (suc (suc (suc (suc (suc (suc zero))))))) l ps qs f g ne = silent_decides (shape.term shape.done) ps qs refl f g
decided (suc (suc (suc (suc (suc (suc (suc (suc zero)))))))) l ps qs f g ne = code_decides 4 (shape.term shape.done) ps qs refl f g
decided (suc (suc (suc (suc (suc (suc (suc (suc (suc zero))))))))) l ps qs f g ne = silent_decides (shape.term shape.done) ps qs refl f g
decided (suc (suc (suc (suc (suc (suc (suc (suc (suc (suc zero)))))))))) l ps qs f g ne = unmarked_decides 2 (shape.term (shape.term shape.done)) ps qs refl f g
decided (suc (suc (suc (suc (suc (suc (suc (suc (suc (suc (suc zero))))))))))) l ps qs f g ne = unmarked_decides 2 (shape.term shape.done) ps qs refl f g
decided (suc (suc (suc (suc (suc (suc (suc (suc (suc (suc (suc (suc zero)))))))))))) l ps qs f g ne = nominal_decides ps qs f g
decided (suc (suc (suc (suc (suc (suc (suc (suc (suc (suc (suc (suc (suc zero))))))))))))) l ps qs f g ne = nominal_decides ps qs f g
decided (suc (suc (suc (suc (suc (suc (suc (suc (suc (suc (suc (suc (suc (suc zero)))))))))))))) l ps qs f g ne = nominal_decides ps qs f g
decided (suc (suc (suc (suc (suc (suc (suc (suc (suc (suc (suc (suc (suc (suc (suc zero))))))))))))))) l ps qs f g ne = nominal_decides ps qs f g
decided (suc (suc (suc (suc (suc (suc (suc (suc (suc (suc (suc (suc (suc (suc (suc (suc zero)))))))))))))))) l ps qs f g ne = leaf_decides (layout 16) ps qs refl f g ne
decided (suc (suc (suc (suc (suc (suc (suc (suc (suc (suc (suc (suc (suc (suc (suc (suc (suc zero))))))))))))))))) l ps qs f g ne = leaf_decides (layout 17) ps qs refl f g ne
decided (suc (suc (suc (suc (suc (suc (suc (suc (suc (suc (suc (suc (suc (suc (suc (suc (suc (suc zero)))))))))))))))))) l ps qs f g ne = refl
decided (suc (suc (suc (suc (suc (suc (suc (suc (suc (suc (suc (suc (suc (suc (suc (suc (suc (suc (suc zero))))))))))))))))))) l ps qs f g ne = leaf_decides (layout 19) ps qs refl f g ne
decided (suc (suc (suc (suc (suc (suc (suc (suc (suc (suc (suc (suc (suc (suc (suc (suc (suc (suc (suc (suc k)))))))))))))))))))) l ps qs f g ne = absurd (omega arith)

-- ON FORMED TERMS THAT ARE NOT EQUAL the Rust's `same_shape` is equality of shapes, but for projections. (It is asked only there.)
pub shape_right : (k j : ℕ) (ps qs : Parts) → Formed (node k ps) → Formed (node j qs) → (node k ps ≡ node j qs → ⊥)
    → same_shape_rust (node k ps) (node j qs) ≡ (not (projects (node k ps)) && same_shape loose (node k ps) (node j qs))
unfolding same_shape_rust same_shape same blank read projects tag row Formed
shape_right k j ps qs f g ne = go (eqb k j) refl
  where
    go : (b : Bool) → eqb k j ≡ b → (b && alike k ps qs) ≡ (not (eqb k 18) && (b && same_rows (read_row loose k (blank_row ps)) (read_row loose j (blank_row qs))))
    go false e = sym (and-false (not (eqb k 18)))
    go true e =
        let q = eqb-true k j e in
        decided k (row_tag k (layout k) f.0).0 ps qs f.1 (subst (λ (i : ℕ). Fit (layout i) qs) (sym q) g.1) (λ p. ne (ap₂ node q p))
        ∙ ap (λ (i : ℕ). not (eqb k 18) && same_rows (read_row loose k (blank_row ps)) (read_row loose i (blank_row qs))) q
