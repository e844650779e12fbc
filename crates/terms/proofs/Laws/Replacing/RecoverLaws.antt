-- `recover_from` on tokens.
use mathlib.Core.Path.{◌≡◌, refl, sym, ap, subst, ◌∙◌}
use mathlib.Core.Bool.{Bool, true, false, ◌&&◌, ◌||◌}
use mathlib.Core.List.{List, [], ◌∷◌, ◌++◌, append_assoc, append-nil}
use mathlib.Core.Logic.{◌⊎◌, inl, inr}
use Prim.Native.Nat.{ℕ, zero, suc, ◌+◌, ◌-◌, ◌%◌, ◌≤◌, ◌<◌}
use native.Mathlib.Decide.{ℕ_discrete}
use native.Mathlib.Omega.{arith}
use borrow.Author.Tests.{eq-eqb, ne_eqb, eqb-true, eqb-false, le-leb, lt-leb}
use lib.Dec.{eqb, leb}
use lib.ListN.{length, get_or, take, drop, length-append}
use lib.Seq.{sets, length-sets}
use Rattle.terms.specs.Result.{pick}
use Rattle.terms.specs.Number.{shortest}
use Rattle.terms.specs.Term.{Term, Parts, var, node, end, num, sub, items, part_items, bytes, part_bytes, Subs}
use Rattle.terms.specs.Words.Held.{HeldParts, span}
use Rattle.terms.specs.Words.TokenBytes.{plain, spelt}
use Rattle.terms.specs.Tree.{nums, same_numbers, nominal_of, row, tag}
use Rattle.terms.specs.Questions.{among, first}
use Rattle.terms.specs.Words.QuestionsContract.{word, tag_of}
use Rattle.terms.specs.Words.Tokens.{spell}
use Rattle.terms.specs.Comparison.{recovery}
use Rattle.terms.specs.Recovery.{recover_from, recover_row, reach, nominal_reach, parts}
use Rattle.terms.specs.declared.Part.{Part}
use Rattle.terms.specs.Words.PairsContract.{NumberFirst, TermFirst, Unlike, no_left, no_right, number_term, term_number}
use Rattle.terms.specs.Words.RecoverContract.{put_if, Put, upto, alike}
use Rattle.terms.proofs.Laws.General.Bools.{never_true, never_false, and-false}
use Rattle.terms.proofs.Laws.Format.WriteLaws.{sets_append, held_bytes, spell_step, spelt_add}
use Rattle.terms.specs.Shape as shape
use Rattle.terms.specs.Shape.{Shape, Meaning, kind_of, many_terms, many_members, nominal, layout}
use Rattle.terms.specs.Formed.{Formed, Fit, TakesNumber, TakesTerm, after_number, after_term}
use Rattle.terms.proofs.Laws.Held.HeldLaws.{head_kind, held_num, held_sub, items_some, held_first, held_node, row_num, row_sub, row_end, end_ends}
use Rattle.terms.proofs.Laws.Held.SameLaws.{span_held}
use Rattle.terms.proofs.Laws.Held.PairLaws.{FirstTerm, first_number, first_term, row_term, row_long}
use Rattle.terms.proofs.Laws.Format.ShapeLaws.{More, some_done}
use Rattle.terms.proofs.Laws.Asking.ConflictLaws.{passed}
use Rattle.terms.proofs.Laws.Asking.QuestionLaws.{tag_kind, word_in, number_inside}

-- ---- writing piece by piece

module _ (out : List ℕ) (at : ℕ) (bs : List ℕ) (n : ℕ) (e : n ≡ length bs) where
  pub put_fits : at + n ≤ length out → sets out at bs ≡ put_if out at bs
  put_fits h = rw (le-leb (at + length bs) (length out) (omega arith))

  pub put_long : length out < at + n → out ≡ put_if out at bs
  put_long h = rw (lt-leb (at + length bs) (length out) (omega arith))

-- one piece
pub put_one : {out₀ out : List ℕ} {at r : ℕ} (bs : List ℕ) → r ≡ at + length bs → out ≡ put_if out₀ at bs → Put out₀ out at r bs
put_one {out₀} {out} {at} {r} bs n w = record {
  next = n;
  wrote = λ h. w ∙ rw (le-leb (at + length bs) (length out₀) h);
  long = ap length w ∙ go (leb (at + length bs) (length out₀));
}
  where
    go : (b : Bool) → length (pick b (sets out₀ at bs) out₀) ≡ length out₀
    go true = length-sets out₀ at bs
    go false = refl

-- one piece and the next
pub put_then : {out₀ out₁ out₂ : List ℕ} {at r s : ℕ} {bs cs : List ℕ} → Put out₀ out₁ at r bs → Put out₁ out₂ r s cs → Put out₀ out₂ at s (bs ++ cs)
put_then {out₀} {out₁} {out₂} {at} {r} {s} {bs} {cs} x y = record {
  next = omega (arith, x.next, y.next, length-append bs cs);
  wrote = λ h.
      let l = length-append bs cs in
      y.wrote (omega (arith, x.next, x.long)) ∙ ap (λ (o : List ℕ). sets o r cs) (x.wrote (omega arith)) ∙ ap (λ (k : ℕ). sets (sets out₀ at bs) k cs) x.next ∙ sym (sets_append bs cs out₀ at);
  long = y.long ∙ x.long;
}

-- nothing
pub put_none : (out : List ℕ) (at : ℕ) → Put out out at at []
put_none out at = record { next = omega arith; wrote = λ h. refl; long = refl }

-- bytes told another way
pub put_same : {out₀ out : List ℕ} {at r : ℕ} {bs cs : List ℕ} → bs ≡ cs → Put out₀ out at r bs → Put out₀ out at r cs
put_same {out₀} {out} {at} {r} e x = subst (λ (l : List ℕ). Put out₀ out at r l) e x

-- ---- rows that stay as they are

pub stays_short : (ps : Parts) (c : ℕ) → recover_row ps c end ≡ ps
unfolding recover_from
stays_short end c = refl
stays_short (num n ps) zero = refl
stays_short (num n ps) (suc c) = refl
stays_short (sub t ps) zero = refl
stays_short (sub t ps) (suc c) = refl

pub stays_number : (n c : ℕ) (ps : Parts) (u : Term) (qs : Parts) → recover_row (num n ps) c (sub u qs) ≡ num n ps
unfolding recover_from
stays_number n zero ps u qs = refl
stays_number n (suc c) ps u qs = refl

pub stays_term : (t : Term) (c : ℕ) (ps : Parts) (m : ℕ) (qs : Parts) → recover_row (sub t ps) c (num m qs) ≡ sub t ps
unfolding recover_from
stays_term t zero ps m qs = refl
stays_term t (suc c) ps m qs = refl

-- no part is left to recover
pub stays_over : (ps : Parts) (c : ℕ) (qs : Parts) → upto c ps ≡ 0 → recover_row ps c qs ≡ ps
unfolding recover_from upto
stays_over end c qs h = refl
stays_over (num n ps) zero qs h = refl
stays_over (num n ps) (suc c) qs h = absurd (omega arith)
stays_over (sub t ps) zero qs h = refl
stays_over (sub t ps) (suc c) qs h = absurd (omega (arith, items_some t))

-- ---- after n terms

pub record Behind (ks vs : List ℕ) (p e left : ℕ) (s : Shape) (whole : ℕ) : Type 0 where
  pub rest : Parts
  pub held : HeldParts ks vs p e rest
  pub fit : Fit (many_terms left s) rest
  pub same : whole ≡ p + upto left rest

module _ (ks vs : List ℕ) (p e : ℕ) (s : Shape) (whole : ℕ) where
  pub behind_done : (left : ℕ) → left ≤ 0 → Behind ks vs p e left s whole → p ≡ whole
  unfolding upto
  behind_done zero z x = sym (x.same ∙ omega arith)
  behind_done (suc l) z x = absurd (omega arith)

  pub behind_over : (left : ℕ) → e ≤ p → Behind ks vs p e left s whole → p ≡ whole
  unfolding upto
  behind_over zero h x = sym (x.same ∙ omega arith)
  behind_over (suc l) h x = sym (x.same ∙ ap (λ (r : Parts). p + upto (suc l) r) (row_end ks vs p e x.rest x.held h) ∙ omega arith)

  behind_term : (l n : ℕ) (r : Parts) → HeldParts ks vs p e r → Fit (shape.term (many_terms l s)) r → whole ≡ p + upto (suc l) r
      → (1 ≤ span (get_or ks p 0) (get_or vs p 0) → span (get_or ks p 0) (get_or vs p 0) ≤ e - p → n ≡ span (get_or ks p 0) (get_or vs p 0)) → Behind ks vs (p + n) e l s whole
  unfolding Fit TakesTerm TakesNumber after_term More upto
  behind_term l n end h f m k = absurd (some_done (shape.term (many_terms l s)) tt f)
  behind_term l n (num a r) h f m k = absurd f.0
  behind_term l n (sub t r) h f m k =
      let q = held_sub ks vs p e t r h in
      let b = row_long ks vs p e t r h in
      let g : n ≡ length (items t) = k (omega (arith, span_held ks vs p t q.0, items_some t)) (omega (arith, span_held ks vs p t q.0)) ∙ span_held ks vs p t q.0 in
      record { rest = r; held = passed ks vs p e n t r h k; fit = f.2; same = omega (arith, m) }

  pub behind_more : (left n : ℕ) → 0 < left → Behind ks vs p e left s whole
      → (1 ≤ span (get_or ks p 0) (get_or vs p 0) → span (get_or ks p 0) (get_or vs p 0) ≤ e - p → n ≡ span (get_or ks p 0) (get_or vs p 0)) → Behind ks vs (p + n) e (left - 1) s whole
  unfolding many_terms
  behind_more zero n z x k = absurd (omega arith)
  behind_more (suc l) n z x k =
      let y = behind_term l n x.rest x.held x.fit x.same k in
      subst (λ (i : ℕ). Behind ks vs (p + n) e i s whole) (omega arith) y

-- ---- numbers at the same places

pub record Alike (ks vs : List ℕ) (i ae j be : ℕ) (whole : Bool) : Type 0 where
  pub left : Parts
  pub right : Parts
  pub held_left : HeldParts ks vs i ae left
  pub held_right : HeldParts ks vs j be right
  pub same : whole ≡ alike left right

module _ {ks vs : List ℕ} {a b : Part} {whole : Bool} (x : Alike ks vs a.from a.end b.from b.end whole) where
  told_alike : (l r : Parts) → x.left ≡ l → x.right ≡ r → whole ≡ alike l r
  told_alike l r e f = x.same ∙ ap (λ (y : Parts). alike y x.right) e ∙ ap (λ (y : Parts). alike l y) f

  -- both rows are over
  pub alike_over : a.end ≤ a.from → b.end ≤ b.from → true ≡ whole
  unfolding alike
  alike_over h k = sym (told_alike end end (row_end ks vs a.from a.end x.left x.held_left h) (row_end ks vs b.from b.end x.right x.held_right k))

  -- they do not go on alike
  pub alike_unlike : Unlike ks a b → false ≡ whole
  unfolding alike
  alike_unlike (no_left h k) = sym (go x.right x.held_right (x.same ∙ ap (λ (y : Parts). alike y x.right) (row_end ks vs a.from a.end x.left x.held_left h)))
    where
      go : (r : Parts) → HeldParts ks vs b.from b.end r → whole ≡ alike end r → whole ≡ false
      go end hr e = absurd (omega (arith, end_ends ks vs b.from b.end hr))
      go (num n r) hr e = e
      go (sub t r) hr e = e
  alike_unlike (no_right h k) = sym (go x.left x.held_left (x.same ∙ ap (λ (y : Parts). alike x.left y) (row_end ks vs b.from b.end x.right x.held_right k)))
    where
      go : (l : Parts) → HeldParts ks vs a.from a.end l → whole ≡ alike l end → whole ≡ false
      go end hl e = absurd (omega (arith, end_ends ks vs a.from a.end hl))
      go (num n l) hl e = e
      go (sub t l) hl e = e
  alike_unlike (number_term h k p q) =
      let l = row_num ks vs a.from a.end x.left x.held_left h p in
      let r = row_sub ks vs b.from b.end x.right x.held_right k q in
      sym (told_alike (num l.0 l.1) (sub r.0 r.1) l.2 r.2)
  alike_unlike (term_number h k p q) =
      let l = row_sub ks vs a.from a.end x.left x.held_left h p in
      let r = row_num ks vs b.from b.end x.right x.held_right k q in
      sym (told_alike (sub l.0 l.1) (num r.0 r.1) l.2 r.2)

  -- numbers that differ, and that do not
  module _ {i j c d : ℕ} (f : NumberFirst ks a i c) (g : NumberFirst ks b j d) where
    pub alike_differ : (get_or vs i 0 ≡ get_or vs j 0 → ⊥) → false ≡ whole
    unfolding alike
    alike_differ n =
        let l = first_number x.held_left (omega arith) f in
        let r = first_number x.held_right (omega arith) g in
        sym (told_alike (num l.value l.rest) (num r.value r.rest) l.is r.is
        ∙ ap (λ (y : Bool). y && alike l.rest r.rest) (ne_eqb l.value r.value (λ e. n (l.reads ∙ e ∙ sym r.reads))))

    pub alike_numbers : get_or vs i 0 ≡ get_or vs j 0 → Alike ks vs c a.end d b.end whole
    unfolding alike
    alike_numbers e =
        let l = first_number x.held_left (omega arith) f in
        let r = first_number x.held_right (omega arith) g in
        record {
          left = l.rest;
          right = r.rest;
          held_left = l.behind;
          held_right = r.behind;
          same = told_alike (num l.value l.rest) (num r.value r.rest) l.is r.is ∙ ap (λ (y : Bool). y && alike l.rest r.rest) (eq-eqb l.value r.value (sym l.reads ∙ e ∙ r.reads));
        }

  pub alike_terms : {t u : Part} {c d : ℕ} → TermFirst ks vs a t c → TermFirst ks vs b u d → Alike ks vs c a.end d b.end whole
  unfolding alike
  alike_terms f g =
      let l = row_term x.held_left f in
      let r = row_term x.held_right g in
      record {
        left = l.rest;
        right = r.rest;
        held_left = l.behind;
        held_right = r.behind;
        same = told_alike (sub l.term l.rest) (sub r.term r.rest) l.is r.is;
      }

-- ---- rows by parts

-- a row without its first n parts
unfoldable pub drop_parts : ℕ → Parts → Parts
drop_parts zero ps = ps
drop_parts (suc n) end = end
drop_parts (suc n) (num m ps) = drop_parts n ps
drop_parts (suc n) (sub t ps) = drop_parts n ps

pub upto_all : (ps : Parts) → upto (parts ps) ps ≡ length (part_items ps)
unfolding upto parts items
upto_all end = refl
upto_all (num n ps) = omega (arith, upto_all ps)
upto_all (sub t ps) = omega (arith, upto_all ps, length-append (items t) (part_items ps))

pub held_drop : (ks vs : List ℕ) (n i e : ℕ) (ps : Parts) → HeldParts ks vs i e ps → HeldParts ks vs (i + upto n ps) e (drop_parts n ps)
unfolding upto drop_parts
held_drop ks vs zero i e ps h = subst (λ (k : ℕ). HeldParts ks vs k e ps) (omega arith) h
held_drop ks vs (suc n) i e end h = subst (λ (k : ℕ). HeldParts ks vs k e end) (omega arith) h
held_drop ks vs (suc n) i e (num m ps) h =
    subst (λ (k : ℕ). HeldParts ks vs k e (drop_parts n ps)) (omega arith) (held_drop ks vs n (i + 1) e ps (held_num ks vs i e m ps h).2)
held_drop ks vs (suc n) i e (sub t ps) h =
    subst (λ (k : ℕ). HeldParts ks vs k e (drop_parts n ps)) (omega arith) (held_drop ks vs n (i + length (items t)) e ps (held_sub ks vs i e t ps h).1)

-- n terms are dropped: what is left fits what is left of the shape, and has all the numbers
pub fit_drop : (n : ℕ) (s : Shape) (ps : Parts) → Fit (many_terms n s) ps → Fit s (drop_parts n ps) × (nums ps ≡ nums (drop_parts n ps))
unfolding many_terms drop_parts Fit TakesTerm TakesNumber after_term nums More
fit_drop zero s ps f = (f, refl)
fit_drop (suc n) s end f = absurd (some_done (shape.term (many_terms n s)) tt f)
fit_drop (suc n) s (num m ps) f = absurd f.0
fit_drop (suc n) s (sub t ps) f = fit_drop n s ps f.2

-- ---- members

-- m members have m numbers
members_numbers : (m least : ℕ) (ps : Parts) → Fit (many_members m least shape.done) ps → length (nums ps) ≡ m
unfolding many_members Fit TakesTerm TakesNumber after_term after_number nums More
members_numbers zero least end f = refl
members_numbers zero least (num n ps) f = absurd f.0
members_numbers zero least (sub t ps) f = absurd f.0
members_numbers (suc m) least end f = absurd (some_done (shape.member m least shape.done) tt f)
members_numbers (suc m) least (sub t ps) f = absurd f.0
members_numbers (suc m) least (num n end) f = absurd (some_done (shape.term (many_members m (n + 1) shape.done)) tt f.1)
members_numbers (suc m) least (num n (num l ps)) f = absurd f.1.0
members_numbers (suc m) least (num n (sub t ps)) f = ap suc (members_numbers m (n + 1) ps f.1.2)

-- two rows of as many members are alike where their numbers are the same
alike_numbers_same : (m l k : ℕ) (ps qs : Parts) → Fit (many_members m l shape.done) ps → Fit (many_members m k shape.done) qs → alike ps qs ≡ same_numbers (nums ps) (nums qs)
unfolding many_members Fit TakesTerm TakesNumber after_term after_number nums More alike same_numbers
alike_numbers_same zero l k end end f g = refl
alike_numbers_same zero l k end (num n qs) f g = absurd g.0
alike_numbers_same zero l k end (sub t qs) f g = absurd g.0
alike_numbers_same zero l k (num n ps) qs f g = absurd f.0
alike_numbers_same zero l k (sub t ps) qs f g = absurd f.0
alike_numbers_same (suc m) l k end qs f g = absurd (some_done (shape.member m l shape.done) tt f)
alike_numbers_same (suc m) l k (sub t ps) qs f g = absurd f.0
alike_numbers_same (suc m) l k (num n end) qs f g = absurd (some_done (shape.term (many_members m (n + 1) shape.done)) tt f.1)
alike_numbers_same (suc m) l k (num n (num i ps)) qs f g = absurd f.1.0
alike_numbers_same (suc m) l k (num n (sub t ps)) end f g = absurd (some_done (shape.member m k shape.done) tt g)
alike_numbers_same (suc m) l k (num n (sub t ps)) (sub u qs) f g = absurd g.0
alike_numbers_same (suc m) l k (num n (sub t ps)) (num i end) f g = absurd (some_done (shape.term (many_members m (i + 1) shape.done)) tt g.1)
alike_numbers_same (suc m) l k (num n (sub t ps)) (num i (num j qs)) f g = absurd g.1.0
alike_numbers_same (suc m) l k (num n (sub t ps)) (num i (sub u qs)) f g = ap (λ (b : Bool). eqb n i && b) (alike_numbers_same m (n + 1) (i + 1) ps qs f.1.2 g.1.2)

-- lists of different lengths are not the same
lengths_apart : (xs ys : List ℕ) → (length xs ≡ length ys → ⊥) → same_numbers xs ys ≡ false
unfolding same_numbers
lengths_apart [] [] d = absurd (d refl)
lengths_apart [] (b ∷ ys) d = refl
lengths_apart (a ∷ xs) [] d = refl
lengths_apart (a ∷ xs) (b ∷ ys) d = ap (λ (x : Bool). eqb a b && x) (lengths_apart xs ys (λ e. d (ap suc e))) ∙ and-false (eqb a b)

-- a count of members with its members
members_row : (ps : Parts) → Fit (shape.members shape.done) ps → (m : ℕ) × (rest : Parts) × (ps ≡ num m rest) × Fit (many_members m 0 shape.done) rest
unfolding Fit TakesTerm after_number More
members_row end f = absurd (some_done (shape.members shape.done) tt f)
members_row (num m ps) f = (m, ps, refl, f.1)
members_row (sub t ps) f = absurd f.0

-- the numbers after the count
abbrev keys : Parts → List ℕ
keys ps = take (get_or (nums ps) 0 0) (drop 1 (nums ps))

keys_all : (m : ℕ) (ps : Parts) → length (nums ps) ≡ m → keys (num m ps) ≡ nums ps
unfolding nums
keys_all m ps e = rw (← e) (take_all (nums ps))
  where
    take_all : (l : List ℕ) → take (length l) l ≡ l
    take_all [] = refl
    take_all (a ∷ l) = ap (λ (x : List ℕ). a ∷ x) (take_all l)

pub alike_keys : (ps qs : Parts) → Fit (shape.members shape.done) ps → Fit (shape.members shape.done) qs → alike ps qs ≡ same_numbers (keys ps) (keys qs)
unfolding alike
alike_keys ps qs f g =
    let a = members_row ps f in
    let b = members_row qs g in
    let n = members_numbers a.0 0 a.1 a.3 in
    let m = members_numbers b.0 0 b.1 b.3 in
    ap (λ (x : Parts). alike x qs) a.2 ∙ ap (λ (x : Parts). alike (num a.0 a.1) x) b.2
    ∙ go a.0 b.0 a.1 b.1 a.3 b.3 n m (ℕ_discrete a.0 b.0)
    ∙ ap (λ (x : List ℕ). same_numbers x (nums b.1)) (sym (keys_all a.0 a.1 n)) ∙ ap (λ (x : List ℕ). same_numbers (keys (num a.0 a.1)) x) (sym (keys_all b.0 b.1 m))
    ∙ ap (λ (x : Parts). same_numbers (keys x) (keys (num b.0 b.1))) (sym a.2) ∙ ap (λ (x : Parts). same_numbers (keys ps) (keys x)) (sym b.2)
  where
    go : (i j : ℕ) (xs ys : Parts) → Fit (many_members i 0 shape.done) xs → Fit (many_members j 0 shape.done) ys → length (nums xs) ≡ i → length (nums ys) ≡ j → Dec (i ≡ j)
        → (eqb i j && alike xs ys) ≡ same_numbers (nums xs) (nums ys)
    go i j xs ys x y n m (yes e) = ap (λ (z : Bool). z && alike xs ys) (eq-eqb i j e) ∙ alike_numbers_same i 0 0 xs ys x (subst (λ (k : ℕ). Fit (many_members k 0 shape.done) ys) (sym e) y)
    go i j xs ys x y n m (no d) = ap (λ (z : Bool). z && alike xs ys) (ne_eqb i j d) ∙ sym (lengths_apart (nums xs) (nums ys) (λ e. d (sym n ∙ e ∙ m)))

-- ---- how far a nominal is recovered

-- the row of a nominal: its declaration, its count of arguments, and the rest
pub record NominalRow (ps : Parts) : Type 0 where
  pub declaration : ℕ
  pub count : ℕ
  pub rest : Parts
  pub is : ps ≡ num declaration (num count rest)
  pub fit : Fit (many_terms count (shape.members shape.done)) rest

pub nominal_row : (ps : Parts) → Fit (nominal shape.done) ps → NominalRow ps
unfolding Fit TakesTerm TakesNumber after_number More
nominal_row end f = absurd (some_done (nominal shape.done) tt f)
nominal_row (num d end) f = absurd (some_done (shape.terms (shape.members shape.done)) tt f.1)
nominal_row (num d (num n ps)) f = record { declaration = d; count = n; rest = ps; is = refl; fit = f.1.1 }
nominal_row (num d (sub t ps)) f = absurd f.1.0
nominal_row (sub t ps) f = absurd f.0

none_reached : (p c : ℕ) (ps : Parts) → c ≡ 0 → p + 1 ≡ p + 1 + upto c ps
unfolding upto
none_reached p c ps e = rw e (omega arith)

fails_first : (x y : Bool) (c : ℕ) → x ≡ false → pick (x && y) c 0 ≡ 0
fails_first x y c e = rw e

fails_second : (x y : Bool) (c : ℕ) → y ≡ false → pick (x && y) c 0 ≡ 0
fails_second x y c e = rw (e, and-false x)

-- its members
abbrev members_of : Parts → List ℕ
members_of ps = take (get_or (nums ps) 2 0) (drop 3 (nums ps))

module _ (ps qs : Parts) (a : NominalRow ps) (b : NominalRow qs) where
  members_keys : (xs : Parts) (x : NominalRow xs) → members_of xs ≡ keys (drop_parts x.count x.rest)
  unfolding nums
  members_keys xs x =
      ap members_of x.is ∙ ap (λ (l : List ℕ). take (get_or l 0 0) (drop 1 l)) (fit_drop x.count (shape.members shape.done) x.rest x.fit).1

  -- the numbers of what is left after the arguments tell whether the members are the same
  pub members_alike : alike (drop_parts a.count a.rest) (drop_parts b.count b.rest) ≡ same_numbers (members_of ps) (members_of qs)
  members_alike =
      alike_keys (drop_parts a.count a.rest) (drop_parts b.count b.rest) (fit_drop a.count (shape.members shape.done) a.rest a.fit).0 (fit_drop b.count (shape.members shape.done) b.rest b.fit).0
      ∙ ap (λ (l : List ℕ). same_numbers l (keys (drop_parts b.count b.rest))) (sym (members_keys ps a)) ∙ ap (λ (l : List ℕ). same_numbers (members_of ps) l) (sym (members_keys qs b))

  -- what is reached, by the three tests
  reached : nominal_reach ps qs
      ≡ pick (eqb a.declaration b.declaration && eqb a.count b.count) (pick (same_numbers (members_of ps) (members_of qs)) (parts ps) (2 + a.count)) 0
  unfolding nominal_reach nominal_of nums
  reached = go ps qs a.is b.is
    where
      go : (x y : Parts) → x ≡ num a.declaration (num a.count a.rest) → y ≡ num b.declaration (num b.count b.rest)
          → pick (eqb (get_or (nums x) 0 0) (get_or (nums y) 0 0) && eqb (get_or (nums x) 1 0) (get_or (nums y) 1 0)) (pick (same_numbers (members_of x) (members_of y)) (parts x) (2 + get_or (nums x) 1 0)) 0
          ≡ pick (eqb a.declaration b.declaration && eqb a.count b.count) (pick (same_numbers (members_of x) (members_of y)) (parts x) (2 + a.count)) 0
      go x y e f = rw (e, f)

  module _ (p : ℕ) where
    pub reach_declaration : (a.declaration ≡ b.declaration → ⊥) → p + 1 ≡ p + 1 + upto (nominal_reach ps qs) ps
    reach_declaration d = none_reached p (nominal_reach ps qs) ps (reached ∙ fails_first (eqb a.declaration b.declaration) (eqb a.count b.count) _ (ne_eqb a.declaration b.declaration d))

    pub reach_count : (a.count ≡ b.count → ⊥) → p + 1 ≡ p + 1 + upto (nominal_reach ps qs) ps
    reach_count d = none_reached p (nominal_reach ps qs) ps (reached ∙ fails_second (eqb a.declaration b.declaration) (eqb a.count b.count) _ (ne_eqb a.count b.count d))

    module _ (e : a.declaration ≡ b.declaration) (f : a.count ≡ b.count) where
      told : (m : Bool) → same_numbers (members_of ps) (members_of qs) ≡ m → nominal_reach ps qs ≡ pick m (parts ps) (2 + a.count)
      told m h = reached ∙ rw (eq-eqb a.declaration b.declaration e, eq-eqb a.count b.count f, h)

      pub reach_all : (pe : ℕ) → same_numbers (members_of ps) (members_of qs) ≡ true → p + 1 + length (part_items ps) ≡ pe → pe ≡ p + 1 + upto (nominal_reach ps qs) ps
      reach_all pe h g = sym (ap (λ (c : ℕ). p + 1 + upto c ps) (told true h) ∙ ap (λ (c : ℕ). p + 1 + c) (upto_all ps) ∙ g)

      pub reach_arguments : (i : ℕ) → same_numbers (members_of ps) (members_of qs) ≡ false → i ≡ p + 3 + upto a.count a.rest → i ≡ p + 1 + upto (nominal_reach ps qs) ps
      unfolding upto
      reach_arguments i h g =
          let u : upto (2 + a.count) ps ≡ 2 + upto a.count a.rest = ap (λ (x : Parts). upto (2 + a.count) x) a.is ∙ two a.declaration a.count a.rest ∙ omega arith in
          let r = ap (λ (c : ℕ). upto c ps) (told false h) in
          omega arith
        where
          two : (d n : ℕ) (x : Parts) → upto (2 + n) (num d (num n x)) ≡ 1 + (1 + upto n x)
          two d n x = let e : 2 + n ≡ suc (suc n) = omega arith in ap (λ (c : ℕ). upto c (num d (num n x))) e

-- ---- how far a term is recovered, by its tag

module _ (t u : Term) where
  pub reach_differ : (tag t ≡ tag u → ⊥) → reach t u ≡ 0
  unfolding reach
  reach_differ d = rw (ne_eqb (tag t) (tag u) d)

  module _ (e : tag t ≡ tag u) where
    pub reach_whole : among (tag t) (7 ∷ 9 ∷ 10 ∷ 11 ∷ []) ≡ true → reach t u ≡ parts (row t)
    unfolding reach
    reach_whole h = rw (eq-eqb (tag t) (tag u) e, h)

    module _ (a : among (tag t) (7 ∷ 9 ∷ 10 ∷ 11 ∷ []) ≡ false) where
      pub reach_first : among (tag t) (0 ∷ 5 ∷ 6 ∷ 8 ∷ []) ≡ true → reach t u ≡ pick (eqb (first t) (first u)) (parts (row t)) 0
      unfolding reach
      reach_first h = rw (eq-eqb (tag t) (tag u) e, a, h)

      module _ (b : among (tag t) (0 ∷ 5 ∷ 6 ∷ 8 ∷ []) ≡ false) where
        pub reach_nominals : among (tag t) (12 ∷ 13 ∷ 14 ∷ 15 ∷ []) ≡ true → reach t u ≡ nominal_reach (row t) (row u)
        unfolding reach
        reach_nominals h = rw (eq-eqb (tag t) (tag u) e, a, b, h)

        pub reach_none : among (tag t) (12 ∷ 13 ∷ 14 ∷ 15 ∷ []) ≡ false → reach t u ≡ 0
        unfolding reach
        reach_none h = rw (eq-eqb (tag t) (tag u) e, a, b, h)

-- as a place: nothing, and the whole row
pub place_none : (p c : ℕ) (ps : Parts) → c ≡ 0 → p + 1 ≡ p + 1 + upto c ps
place_none p c ps e = none_reached p c ps e

module _ (ks vs : List ℕ) (p pe : ℕ) where
  -- the row of a term that fills a part of the areas
  pub row_held : (t : Term) → HeldParts ks vs p pe (sub t end) → (tag t ≡ 1 → ⊥) → HeldParts ks vs (p + 1) pe (row t)
  unfolding tag row items
  row_held (var v) h d = absurd (d refl)
  row_held (node k ps) h d =
      let q = held_sub ks vs p pe (node k ps) end h in
      let r = held_node ks vs p k ps q.0 in
      let e : p + suc (length (part_items ps)) ≡ pe = omega (arith, h.ends, length-append (items (node k ps)) []) in
      subst (λ (x : ℕ). HeldParts ks vs (p + 1) x ps) e r

  pub place_whole : (t : Term) (c : ℕ) → HeldParts ks vs p pe (sub t end) → (tag t ≡ 1 → ⊥) → c ≡ parts (row t) → pe ≡ p + 1 + upto c (row t)
  place_whole t c h d e = sym (ap (λ (x : ℕ). p + 1 + upto x (row t)) e ∙ ap (λ (x : ℕ). p + 1 + x) (upto_all (row t)) ∙ (row_held t h d).ends)

-- the first number of a row that begins with one
pub first_word : (ks vs : List ℕ) (p pe n : ℕ) (ps : Parts) → HeldParts ks vs (p + 1) pe (num n ps) → (word vs (p + 1) pe ≡ n) × HeldParts ks vs (p + 2) pe ps
first_word ks vs p pe n ps h =
    let s = held_num ks vs (p + 1) pe n ps h in
    let two : p + 1 + 1 ≡ p + 2 = omega arith in
    (word_in vs (p + 1) pe (number_inside ks vs (p + 1) pe n ps h) ∙ s.1, subst (λ (i : ℕ). HeldParts ks vs i pe ps) two s.2)

-- the words of a nominal, and its row after the count of arguments
pub record NominalAt (ks vs : List ℕ) (p pe : ℕ) (ps : Parts) : Type 0 where
  pub row : NominalRow ps
  pub first : word vs (p + 1) pe ≡ row.declaration
  pub second : word vs (p + 2) pe ≡ row.count
  pub rest : HeldParts ks vs (p + 3) pe row.rest
  pub ends : p + 1 + length (part_items ps) ≡ pe

-- i is behind n terms from p on
abbrev pub BehindTerms : (ks vs : List ℕ) (p e n i : ℕ) → Type 0
BehindTerms ks vs p e n i = (s : Shape) (ps : Parts) → HeldParts ks vs p e ps → Fit (many_terms n s) ps → i ≡ p + upto n ps

pub nominal_at : {ks vs : List ℕ} {p pe k : ℕ} {ps : Parts} → HeldParts ks vs p pe (sub (node k ps) end) → (k ≡ 1 → ⊥) → Fit (nominal shape.done) ps → NominalAt ks vs p pe ps
unfolding tag row
nominal_at {ks} {vs} {p} {pe} {k} {ps} h d f =
    let r = nominal_row ps f in
    let q = row_held ks vs p pe (node k ps) h d in
    let a = first_word ks vs p pe r.declaration (num r.count r.rest) (subst (λ (x : Parts). HeldParts ks vs (p + 1) pe x) r.is q) in
    let b = first_word ks vs (p + 1) pe r.count r.rest (subst (λ (i : ℕ). HeldParts ks vs i pe (num r.count r.rest)) (omega arith) a.1) in
    record {
      row = r;
      first = a.0;
      second = ap (λ (i : ℕ). word vs i pe) (omega arith) ∙ b.0;
      rest = subst (λ (i : ℕ). HeldParts ks vs i pe r.rest) (omega arith) b.1;
      ends = q.ends;
    }

-- ---- what `nominal_reach` answers

module _ {ks vs : List ℕ} {p pe q qe : ℕ} {ps qs : Parts} (a : NominalAt ks vs p pe ps) (b : NominalAt ks vs q qe qs) where
  module _ {m n : ℕ} (em : m ≡ word vs (p + 1) pe) (en : n ≡ word vs (q + 1) qe) where
    pub declarations_differ : (m ≡ n → ⊥) → p + 1 ≡ p + 1 + upto (nominal_reach ps qs) ps
    declarations_differ d = reach_declaration ps qs a.row b.row p (λ z. d (em ∙ a.first ∙ z ∙ sym (en ∙ b.first)))

    module _ {r s : ℕ} (er : r ≡ word vs (p + 2) pe) (es : s ≡ word vs (q + 2) qe) where
      pub counts_differ : (r ≡ s → ⊥) → p + 1 ≡ p + 1 + upto (nominal_reach ps qs) ps
      counts_differ d = reach_count ps qs a.row b.row p (λ z. d (er ∙ a.second ∙ z ∙ sym (es ∙ b.second)))

      -- i and j are behind the arguments
      module _ (e : m ≡ n) (f : r ≡ s) {i j : ℕ} (bi : BehindTerms ks vs (p + 3) pe r i) (bj : BehindTerms ks vs (q + 3) qe r j)
          {x : Bool} (al : (y z : Parts) → HeldParts ks vs i pe y → HeldParts ks vs j qe z → x ≡ alike y z) where
        count_left : r ≡ a.row.count
        count_left = er ∙ a.second

        count_right : r ≡ b.row.count
        count_right = f ∙ es ∙ b.second

        left_is : i ≡ p + 3 + upto a.row.count a.row.rest
        left_is = rw count_left at bi (shape.members shape.done) a.row.rest a.rest a.row.fit

        right_is : j ≡ q + 3 + upto b.row.count b.row.rest
        right_is = rw count_right at bj (shape.members shape.done) b.row.rest b.rest b.row.fit

        same_members : x ≡ same_numbers (members_of ps) (members_of qs)
        same_members =
            al _ _ (rw left_is (held_drop ks vs a.row.count (p + 3) pe a.row.rest a.rest)) (rw right_is (held_drop ks vs b.row.count (q + 3) qe b.row.rest b.rest))
            ∙ members_alike ps qs a.row b.row

        same_declaration : a.row.declaration ≡ b.row.declaration
        same_declaration = sym (em ∙ a.first) ∙ e ∙ en ∙ b.first

        pub members_same : x ≡ true → pe ≡ p + 1 + upto (nominal_reach ps qs) ps
        members_same h = reach_all ps qs a.row b.row p same_declaration (sym count_left ∙ count_right) pe (sym same_members ∙ h) a.ends

        pub members_differ : x ≡ false → i ≡ p + 1 + upto (nominal_reach ps qs) ps
        members_differ h = reach_arguments ps qs a.row b.row p same_declaration (sym count_left ∙ count_right) i (sym same_members ∙ h) left_is

-- ---- what `reach_end` answers

variable_tag : (v : ℕ) → tag (var v) ≡ 1
unfolding tag
variable_tag v = refl

node_tag : (k : ℕ) (ps : Parts) → tag (node k ps) ≡ k
unfolding tag
node_tag k ps = refl

node_tags : (k j : ℕ) (ps qs : Parts) → tag (node k ps) ≡ tag (node j qs) → k ≡ j
unfolding tag
node_tags k j ps qs e = e

node_among : (k : ℕ) (ps : Parts) → among (tag (node k ps)) (12 ∷ 13 ∷ 14 ∷ 15 ∷ []) ≡ true → among k (12 ∷ 13 ∷ 14 ∷ 15 ∷ []) ≡ true
unfolding tag
node_among k ps h = h

node_fit : (k : ℕ) (ps : Parts) → Formed (node k ps) → Fit (layout k) ps
unfolding Formed
node_fit k ps f = f.1

-- the tag of a term that fills a part of the areas
tag_held : (ks vs : List ℕ) (p pe : ℕ) (t : Term) → HeldParts ks vs p pe (sub t end) → tag_of (get_or ks p 0) ≡ tag t
tag_held ks vs p pe t h = ap tag_of (held_first ks vs p t (held_sub ks vs p pe t end h).0).0 ∙ tag_kind t

-- a tag that was told of the word there
pub tag_told : {ks vs : List ℕ} {p pe : ℕ} {t : Term} → HeldParts ks vs p pe (sub t end) → {w k : ℕ} → w ≡ get_or ks p 0 → k ≡ tag_of w → k ≡ tag t
tag_told {ks} {vs} {p} {pe} {t} h e f = f ∙ ap tag_of e ∙ tag_held ks vs p pe t h

-- the tags of two terms that are told alike
pub same_tags : {ks vs : List ℕ} {p pe q qe : ℕ} {t u : Term} → HeldParts ks vs p pe (sub t end) → HeldParts ks vs q qe (sub u end) → {w v k l : ℕ}
    → w ≡ get_or ks p 0 → k ≡ tag_of w → v ≡ get_or ks q 0 → l ≡ tag_of v → k ≡ l → (k ≡ tag t) × (tag t ≡ tag u)
same_tags ht hu a b c d e = let x = tag_told ht a b in (x, sym x ∙ e ∙ tag_told hu c d)

-- a tag of a list that has no 1
pub not_variable : (t : Term) (a b c d : ℕ) → among 1 (a ∷ b ∷ c ∷ d ∷ []) ≡ false → among (tag t) (a ∷ b ∷ c ∷ d ∷ []) ≡ true → tag t ≡ 1 → ⊥
not_variable t a b c d n h e = never_true (sym n ∙ ap (λ (n : ℕ). among n (a ∷ b ∷ c ∷ d ∷ [])) (sym e) ∙ h)

-- the tags whose row begins with a number are those of nodes
module _ (t : Term) where
  pub whole_node : among (tag t) (7 ∷ 9 ∷ 10 ∷ 11 ∷ []) ≡ true → tag t ≡ 1 → ⊥
  unfolding among
  whole_node h = not_variable t 7 9 10 11 refl h

  first_node : among (tag t) (0 ∷ 5 ∷ 6 ∷ 8 ∷ []) ≡ true → tag t ≡ 1 → ⊥
  unfolding among
  first_node h = not_variable t 0 5 6 8 refl h

  nominal_node : among (tag t) (12 ∷ 13 ∷ 14 ∷ 15 ∷ []) ≡ true → tag t ≡ 1 → ⊥
  unfolding among
  nominal_node h = not_variable t 12 13 14 15 refl h

-- by one of four tags
four_cases : (n a b c d : ℕ) → among n (a ∷ b ∷ c ∷ d ∷ []) ≡ true → (n ≡ a) ⊎ ((n ≡ b) ⊎ ((n ≡ c) ⊎ (n ≡ d)))
unfolding among
four_cases n a b c d h = go (eqb n a) (eqb n b) (eqb n c) (eqb n d) refl refl refl refl h
  where
    go : (x y z w : Bool) → eqb n a ≡ x → eqb n b ≡ y → eqb n c ≡ z → eqb n d ≡ w → (x || (y || (z || (w || false)))) ≡ true → (n ≡ a) ⊎ ((n ≡ b) ⊎ ((n ≡ c) ⊎ (n ≡ d)))
    go true y z w e f g i h = inl (eqb-true n a e)
    go false true z w e f g i h = inr (inl (eqb-true n b f))
    go false false true w e f g i h = inr (inr (inl (eqb-true n c g)))
    go false false false true e f g i h = inr (inr (inr (eqb-true n d i)))
    go false false false false e f g i h = never_true h

-- a shape that begins with a number
unfoldable Numeric : Shape → Type 0
Numeric shape.done = ⊥
Numeric (shape.code limit r) = Unit {0}
Numeric (shape.number f r) = Unit {0}
Numeric (shape.term r) = ⊥
Numeric (shape.terms r) = Unit {0}
Numeric (shape.members r) = Unit {0}
Numeric (shape.member n least r) = Unit {0}

numeric_row : (r : Shape) (ps : Parts) → Numeric r → Fit r ps → (n : ℕ) × (rest : Parts) × (ps ≡ num n rest)
unfolding Numeric Fit TakesTerm More
numeric_row r end m f = absurd (subst (λ (x : Shape). Numeric x) f m)
numeric_row r (num n ps) m f = (n, ps, refl)
numeric_row shape.done (sub t ps) m f = absurd m
numeric_row (shape.code limit r) (sub t ps) m f = absurd f.0
numeric_row (shape.number b r) (sub t ps) m f = absurd f.0
numeric_row (shape.term r) (sub t ps) m f = absurd m
numeric_row (shape.terms r) (sub t ps) m f = absurd f.0
numeric_row (shape.members r) (sub t ps) m f = absurd f.0
numeric_row (shape.member k least r) (sub t ps) m f = absurd f.0

first_layout : (k : ℕ) → among k (0 ∷ 5 ∷ 6 ∷ 8 ∷ []) ≡ true → Numeric (layout k)
unfolding Numeric
first_layout k h = go (four_cases k 0 5 6 8 h)
  where
    go : (k ≡ 0) ⊎ ((k ≡ 5) ⊎ ((k ≡ 6) ⊎ (k ≡ 8))) → Numeric (layout k)
    go (inl e) = subst (λ (n : ℕ). Numeric (layout n)) (sym e) tt
    go (inr (inl e)) = subst (λ (n : ℕ). Numeric (layout n)) (sym e) tt
    go (inr (inr (inl e))) = subst (λ (n : ℕ). Numeric (layout n)) (sym e) tt
    go (inr (inr (inr e))) = subst (λ (n : ℕ). Numeric (layout n)) (sym e) tt

nominal_layout : (k : ℕ) → among k (12 ∷ 13 ∷ 14 ∷ 15 ∷ []) ≡ true → layout k ≡ nominal shape.done
nominal_layout k h = go (four_cases k 12 13 14 15 h)
  where
    go : (k ≡ 12) ⊎ ((k ≡ 13) ⊎ ((k ≡ 14) ⊎ (k ≡ 15))) → layout k ≡ nominal shape.done
    go (inl e) = ap layout e
    go (inr (inl e)) = ap layout e
    go (inr (inr (inl e))) = ap layout e
    go (inr (inr (inr e))) = ap layout e

-- the first number of a term whose row begins with one
first_told : (ks vs : List ℕ) (p pe : ℕ) (t : Term) → HeldParts ks vs p pe (sub t end) → Formed t → among (tag t) (0 ∷ 5 ∷ 6 ∷ 8 ∷ []) ≡ true → word vs (p + 1) pe ≡ first t
unfolding Formed tag row first nums
first_told ks vs p pe (var v) h f w = absurd (first_node (var v) w refl)
first_told ks vs p pe (node k ps) h f w =
    let r = numeric_row (layout k) ps (first_layout k w) f.1 in
    let q = row_held ks vs p pe (node k ps) h (first_node (node k ps) w) in
    (first_word ks vs p pe r.0 r.1 (subst (λ (x : Parts). HeldParts ks vs (p + 1) pe x) r.2 q)).0 ∙ ap (λ (x : Parts). get_or (nums x) 0 0) (sym r.2)

-- the whole row
pub place_all : {ks vs : List ℕ} {p pe : ℕ} {t : Term} (u : Term) → HeldParts ks vs p pe (sub t end) → tag t ≡ tag u → among (tag t) (7 ∷ 9 ∷ 10 ∷ 11 ∷ []) ≡ true
    → pe ≡ p + 1 + upto (reach t u) (row t)
place_all {ks} {vs} {p} {pe} {t} u ht e w = place_whole ks vs p pe t (reach t u) ht (whole_node t w) (reach_whole t u e w)

module _ {ks vs : List ℕ} {p pe q qe : ℕ} {t u : Term} (ht : HeldParts ks vs p pe (sub t end)) (hu : HeldParts ks vs q qe (sub u end)) (ft : Formed t) (fu : Formed u) (e : tag t ≡ tag u)
    (a : among (tag t) (7 ∷ 9 ∷ 10 ∷ 11 ∷ []) ≡ false) where
  pub place_first : among (tag t) (0 ∷ 5 ∷ 6 ∷ 8 ∷ []) ≡ true
      → pick (eqb (word vs (p + 1) pe) (word vs (q + 1) qe)) pe (p + 1) ≡ p + 1 + upto (reach t u) (row t)
  place_first w =
      ap (λ (x : ℕ). pick (eqb x (word vs (q + 1) qe)) pe (p + 1)) (first_told ks vs p pe t ht ft w)
      ∙ ap (λ (x : ℕ). pick (eqb (first t) x) pe (p + 1)) (first_told ks vs q qe u hu fu (ap (λ (n : ℕ). among n (0 ∷ 5 ∷ 6 ∷ 8 ∷ [])) (sym e) ∙ w))
      ∙ go (eqb (first t) (first u)) (reach_first t u e a w)
    where
      go : (b : Bool) → reach t u ≡ pick b (parts (row t)) 0 → pick b pe (p + 1) ≡ p + 1 + upto (reach t u) (row t)
      go true h = place_whole ks vs p pe t (reach t u) ht (first_node t w) h
      go false h = place_none p (reach t u) (row t) h

  pub place_nominal : {x : ℕ} → among (tag t) (0 ∷ 5 ∷ 6 ∷ 8 ∷ []) ≡ false → among (tag t) (12 ∷ 13 ∷ 14 ∷ 15 ∷ []) ≡ true
      → ((k j : ℕ) (ps qs : Parts) → (k ≡ 1 → ⊥) → (j ≡ 1 → ⊥) → HeldParts ks vs p pe (sub (node k ps) end) → HeldParts ks vs q qe (sub (node j qs) end) → Fit (nominal shape.done) ps → Fit (nominal shape.done) qs → x ≡ p + 1 + upto (nominal_reach ps qs) ps)
      → x ≡ p + 1 + upto (reach t u) (row t)
  unfolding row
  place_nominal {x} b w h = go t u ht hu ft fu e w ∙ ap (λ (c : ℕ). p + 1 + upto c (row t)) (sym (reach_nominals t u e a b w))
    where
      go : (t u : Term) → HeldParts ks vs p pe (sub t end) → HeldParts ks vs q qe (sub u end) → Formed t → Formed u → tag t ≡ tag u → among (tag t) (12 ∷ 13 ∷ 14 ∷ 15 ∷ []) ≡ true
          → x ≡ p + 1 + upto (nominal_reach (row t) (row u)) (row t)
      go (var v) u ht hu ft fu e w = absurd (nominal_node (var v) w (variable_tag v))
      go (node k ps) (var v) ht hu ft fu e w = absurd (nominal_node (node k ps) w (e ∙ variable_tag v))
      go (node k ps) (node j qs) ht hu ft fu e w =
          let l = node_fit k ps ft in
          let m = node_fit j qs fu in
          let v : among j (12 ∷ 13 ∷ 14 ∷ 15 ∷ []) ≡ true = ap (λ (n : ℕ). among n (12 ∷ 13 ∷ 14 ∷ 15 ∷ [])) (sym (node_tags k j ps qs e)) ∙ node_among k ps w in
          h k j ps qs (λ z. nominal_node (node k ps) w (node_tag k ps ∙ z)) (λ z. nominal_node (node k ps) w (e ∙ node_tag j qs ∙ z)) ht hu
          (subst (λ (r : Shape). Fit r ps) (nominal_layout k (node_among k ps w)) l) (subst (λ (r : Shape). Fit r qs) (nominal_layout j v) m)

-- ---- one term

-- the tokens of a term that fills a part of the areas write its bytes
pub whole_bytes : {ks vs : List ℕ} {p pe : ℕ} {t : Term} → HeldParts ks vs p pe (sub t end) → spelt ks vs p (pe - p) ≡ bytes t
unfolding items
whole_bytes {ks} {vs} {p} {pe} {t} h =
    let q = held_sub ks vs p pe t end h in
    let e : pe - p ≡ length (items t) = omega (arith, h.ends, length-append (items t) []) in
    ap (λ (n : ℕ). spelt ks vs p n) e ∙ held_bytes ks vs p t q.0

-- a row's tokens write its bytes
pub row_bytes : (ks vs : List ℕ) (i e : ℕ) (ps : Parts) → HeldParts ks vs i e ps → spelt ks vs i (e - i) ≡ part_bytes ps
unfolding items spell bytes plain
row_bytes ks vs i e end h = let z : e - i ≡ 0 = omega (arith, h.ends) in ap (λ (n : ℕ). spelt ks vs i n) z
row_bytes ks vs i e (num n ps) h =
    let q = held_num ks vs i e n ps h in
    let l = number_inside ks vs i e n ps h in
    spell_step plain ks vs i e l ∙ ap (λ (k : ℕ). plain k (get_or vs i 0) ++ spelt ks vs (i + 1) (e - (i + 1))) q.0 ∙ ap (λ (v : ℕ). shortest v ++ spelt ks vs (i + 1) (e - (i + 1))) q.1 ∙ ap (λ (l : List ℕ). shortest n ++ l) (row_bytes ks vs (i + 1) e ps q.2)
row_bytes ks vs i e (sub t ps) h =
    let q = held_sub ks vs i e t ps h in
    let a : e - i ≡ length (items t) + (e - (i + length (items t))) = omega (arith, row_long ks vs i e t ps h) in
    ap (λ (n : ℕ). spelt ks vs i n) a ∙ spelt_add ks vs i (length (items t)) (e - (i + length (items t)))
    ∙ ap (λ (l : List ℕ). l ++ spelt ks vs (i + length (items t)) (e - (i + length (items t)))) (held_bytes ks vs i t q.0)
    ∙ ap (λ (l : List ℕ). bytes t ++ l) (row_bytes ks vs (i + length (items t)) e ps q.1)

-- the cases of the definition
hole_right : (t u : Term) → recovery (tag u) ≡ true → recover_from t u ≡ t
unfolding recover_from
hole_right (var v) u h = refl
hole_right (node k ps) u h = rw h

variable_left : (t u : Term) → Formed t → tag t ≡ 1 → recover_from t u ≡ t
unfolding recover_from Formed tag kind_of
variable_left (var v) u f h = refl
variable_left (node k ps) u f h = absurd (no_node k h f.0)
  where
    never_row : ◌≡◌ {A = Meaning} shape.variable (shape.row (layout 1)) → ⊥
    never_row e = let z : ◌≡◌ {A = ℕ} 0 1 = cc in omega arith

    no_node : (k : ℕ) → k ≡ 1 → kind_of k ≡ shape.row (layout k) → ⊥
    no_node k e f = never_row (subst (λ (n : ℕ). kind_of n ≡ shape.row (layout n)) e f)

pub hole_left : (t u : Term) → recovery (tag u) ≡ false → (tag t ≡ 1 → ⊥) → recovery (tag t) ≡ true → recover_from t u ≡ u
unfolding recover_from tag
hole_left (var v) u n d h = absurd (d refl)
hole_left (node k ps) u n d h = rw (n, h)

-- the first stays as it is
pub stays_first : (t u : Term) → Formed t → (recovery (tag u) || eqb (tag t) 1) ≡ true → recover_from t u ≡ t
stays_first t u f h = go (recovery (tag u)) refl h
  where
    go : (x : Bool) → recovery (tag u) ≡ x → (x || eqb (tag t) 1) ≡ true → recover_from t u ≡ t
    go true e h = hole_right t u e
    go false e h = variable_left t u f (eqb-true (tag t) 1 h)

-- it does not
pub stays_not : (t u : Term) → (recovery (tag u) || eqb (tag t) 1) ≡ false → (recovery (tag u) ≡ false) × (tag t ≡ 1 → ⊥)
stays_not t u h = go (recovery (tag u)) refl h
  where
    go : (x : Bool) → recovery (tag u) ≡ x → (x || eqb (tag t) 1) ≡ false → (recovery (tag u) ≡ false) × (tag t ≡ 1 → ⊥)
    go true e h = never_false h
    go false e h = (e, eqb-false (tag t) 1 h)

-- the head and the row
pub entered_term : (t u : Term) → recovery (tag u) ≡ false → (tag t ≡ 1 → ⊥) → recovery (tag t) ≡ false
    → bytes (recover_from t u) ≡ ((tag t % 256) ∷ []) ++ part_bytes (recover_row (row t) (reach t u) (row u))
unfolding recover_from tag row bytes
entered_term (var v) u n d h = absurd (d refl)
entered_term (node k ps) u n d h = rw (n, h)

-- a part of one token
pub one_wide : (p : ℕ) → p + 1 - p ≡ 1
one_wide p = omega arith

-- the head's byte
pub head_byte : {ks vs : List ℕ} {p pe : ℕ} {t : Term} → HeldParts ks vs p pe (sub t end) → (tag t ≡ 1 → ⊥) → spelt ks vs p (p + 1 - p) ≡ (tag t % 256) ∷ []
unfolding spell plain tag head_kind
head_byte {ks} {vs} {p} {pe} {t = var v} h d = absurd (d refl)
head_byte {ks} {vs} {p} {pe} {t = node k ps} h d =
    let f = held_first ks vs p (node k ps) (held_sub ks vs p pe (node k ps) end h).0 in
    ap (λ (n : ℕ). spelt ks vs p n) (one_wide p) ∙ ap (λ (n : ℕ). plain n (get_or vs p 0) ++ []) f.0

-- the row of a variable is none
pub row_any : {ks vs : List ℕ} {p pe : ℕ} {t : Term} → HeldParts ks vs p pe (sub t end) → HeldParts ks vs (p + 1) pe (row t)
unfolding row items
row_any {ks} {vs} {p} {pe} {t = var v} h = (held_sub ks vs p pe (var v) end h).1
row_any {ks} {vs} {p} {pe} {t = node k ps} h =
    let q = held_sub ks vs p pe (node k ps) end h in
    let r = held_node ks vs p k ps q.0 in
    let e : p + suc (length (part_items ps)) ≡ pe = omega (arith, h.ends, length-append (items (node k ps)) []) in
    subst (λ (x : ℕ). HeldParts ks vs (p + 1) x ps) e r

fit_subs : (ps : Parts) (r : Shape) → Fit r ps → Subs Formed ps
unfolding Fit Subs
fit_subs end r f = tt
fit_subs (num n ps) r f = fit_subs ps (after_number r n) f.1
fit_subs (sub t ps) r f = (f.1, fit_subs ps (after_term r) f.2)

pub row_formed : (t : Term) → Formed t → Subs Formed (row t)
unfolding Formed row Subs
row_formed (var v) f = tt
row_formed (node k ps) f = fit_subs ps (layout k) f.1

-- ---- the loop over a row

pub record Recovering (ks vs : List ℕ) (i pe stop j qe : ℕ) (out₀ out : List ℕ) (at to : ℕ) (whole : List ℕ) : Type 0 where
  pub count : ℕ
  pub left : Parts
  pub right : Parts
  pub held_left : HeldParts ks vs i pe left
  pub held_right : HeldParts ks vs j qe right
  pub formed_left : Subs Formed left
  pub formed_right : Subs Formed right
  pub stops : stop ≡ i + upto count left
  pub done : List ℕ
  pub put : Put out₀ out at to done
  pub same : whole ≡ done ++ part_bytes (recover_row left count right)

module _ {ks vs : List ℕ} {i pe stop j qe : ℕ} {out₀ out : List ℕ} {at to : ℕ} {whole : List ℕ} (x : Recovering ks vs i pe stop j qe out₀ out at to whole) where
  -- what is left stays as it is
  pub recover_stays : recover_row x.left x.count x.right ≡ x.left → {out' : List ℕ} {r : ℕ}
      → r ≡ to + length (spelt ks vs i (pe - i)) → out' ≡ put_if out to (spelt ks vs i (pe - i)) → Put out₀ out' at r whole
  recover_stays e n w =
      let b = row_bytes ks vs i pe x.left x.held_left in
      put_same (ap (λ (l : List ℕ). x.done ++ l) (b ∙ ap part_bytes (sym e)) ∙ sym x.same)
      (put_then x.put (put_one (spelt ks vs i (pe - i)) n w))

  pub stays_no_right : qe ≤ j → recover_row x.left x.count x.right ≡ x.left
  stays_no_right h = ap (λ (q : Parts). recover_row x.left x.count q) (row_end ks vs j qe x.right x.held_right h) ∙ stays_short x.left x.count

  pub stays_no_left : stop ≤ i → recover_row x.left x.count x.right ≡ x.left
  stays_no_left h = stays_over x.left x.count x.right (omega (arith, x.stops))

some_count : {i stop : ℕ} (left : Parts) → i < stop → (c : ℕ) → stop ≡ i + upto c left → (d : ℕ) × (c ≡ suc d)
unfolding upto
some_count left h zero e = absurd (omega arith)
some_count left h (suc d) e = (d, refl)

module _ {ks vs : List ℕ} {pe : ℕ} {a b : Part} {out₀ out : List ℕ} {at to : ℕ} {whole : List ℕ} where
  -- rows that do not go on alike: the first stays as it is
  stays_unlike : (x : Recovering ks vs a.from pe a.end b.from b.end out₀ out at to whole) → a.end ≤ pe → Unlike ks a b → recover_row x.left x.count x.right ≡ x.left
  stays_unlike x hp (no_left h k) = stays_no_left x h
  stays_unlike x hp (no_right h k) = stays_no_right x k
  stays_unlike x hp (number_term h k p q) =
      let l = row_num ks vs a.from pe x.left x.held_left (omega arith) p in
      let r = row_sub ks vs b.from b.end x.right x.held_right k q in
      ap (λ (y : Parts). recover_row y x.count x.right) l.2 ∙ ap (λ (y : Parts). recover_row (num l.0 l.1) x.count y) r.2 ∙ stays_number l.0 x.count l.1 r.0 r.1 ∙ sym l.2
  stays_unlike x hp (term_number h k p q) =
      let l = row_sub ks vs a.from pe x.left x.held_left (omega arith) p in
      let r = row_num ks vs b.from b.end x.right x.held_right k q in
      ap (λ (y : Parts). recover_row y x.count x.right) l.2 ∙ ap (λ (y : Parts). recover_row (sub l.0 l.1) x.count y) r.2 ∙ stays_term l.0 x.count l.1 r.0 r.1 ∙ sym l.2

  -- and nothing is left to recover it from
  pub recover_unlike : {i : ℕ} → Recovering ks vs i pe a.end b.from b.end out₀ out at to whole → a.end ≤ pe → (b.from < b.end → a.from ≡ i) → Unlike ks a b
      → Recovering ks vs i pe a.end b.end b.end out₀ out at to whole
  unfolding items Subs spell
  recover_unlike {i} x hp f u = record {
    count = x.count;
    left = x.left;
    right = end;
    held_left = x.held_left;
    held_right = record { tokens = refl; ends = omega arith; within = x.held_right.within };
    formed_left = x.formed_left;
    formed_right = tt;
    stops = x.stops;
    done = x.done;
    put = x.put;
    same = x.same ∙ ap (λ (l : Parts). x.done ++ part_bytes l) (go u ∙ sym (stays_short x.left x.count));
  }
    where
      at_left : b.from < b.end → Unlike ks a b → recover_row x.left x.count x.right ≡ x.left
      at_left h u = let e = f h in stays_unlike (rw e x) hp u

      go : Unlike ks a b → recover_row x.left x.count x.right ≡ x.left
      go (no_left h k) = at_left k u
      go (no_right h k) = stays_no_right x k
      go (number_term h k p q) = at_left k u
      go (term_number h k p q) = at_left k u

  module _ (x : Recovering ks vs a.from pe a.end b.from b.end out₀ out at to whole) (hp : a.end ≤ pe) where
    -- numbers in both rows: the first one's is written
    pub recover_number : {i j c d : ℕ} → NumberFirst ks a i c → NumberFirst ks b j d → {out' : List ℕ} {r : ℕ}
        → r ≡ to + length (spelt ks vs i (i + 1 - i)) → out' ≡ put_if out to (spelt ks vs i (i + 1 - i)) → Recovering ks vs c pe a.end d b.end out₀ out' at r whole
    unfolding upto Subs recover_from bytes spell plain
    recover_number {i} {j} {c} {d} f g n w =
        let l = first_number x.held_left hp f in
        let r = first_number x.held_right (omega arith) g in
        let k = some_count x.left (f.1) x.count x.stops in
        let s : a.end ≡ a.from + upto (suc k.0) (num l.value l.rest) = x.stops ∙ ap (λ (m : ℕ). a.from + upto m x.left) k.1 ∙ ap (λ (y : Parts). a.from + upto (suc k.0) y) l.is in
        let z : get_or ks i 0 ≡ 0 = ap (λ (m : ℕ). get_or ks m 0) f.0 ∙ f.2 in
        let e : spelt ks vs i (i + 1 - i) ≡ shortest l.value = ap (λ (m : ℕ). spelt ks vs i m) (one_wide i) ∙ ap (λ (m : ℕ). plain m (get_or vs i 0) ++ []) z ∙ append-nil (shortest (get_or vs i 0)) ∙ ap shortest l.reads in
        record {
          count = k.0;
          left = l.rest;
          right = r.rest;
          held_left = l.behind;
          held_right = r.behind;
          formed_left = subst (λ (y : Parts). Subs Formed y) l.is x.formed_left;
          formed_right = subst (λ (y : Parts). Subs Formed y) r.is x.formed_right;
          stops = omega (arith, s, f.3);
          done = x.done ++ spelt ks vs i (i + 1 - i);
          put = put_then x.put (put_one (spelt ks vs i (i + 1 - i)) n w);
          same =
              x.same
              ∙ ap (λ (y : Parts). x.done ++ part_bytes (recover_row y x.count x.right)) l.is
              ∙ ap (λ (y : Parts). x.done ++ part_bytes (recover_row (num l.value l.rest) x.count y)) r.is
              ∙ ap (λ (m : ℕ). x.done ++ part_bytes (recover_row (num l.value l.rest) m (num r.value r.rest))) k.1
              ∙ ap (λ (y : List ℕ). x.done ++ (y ++ part_bytes (recover_row l.rest k.0 r.rest))) (sym e)
              ∙ sym (append_assoc x.done (spelt ks vs i (i + 1 - i)) (part_bytes (recover_row l.rest k.0 r.rest)));
        }

    -- terms in both rows: the first one recovered from the second, written
    pub recover_both : {t u : Part} {c d m : ℕ} (l : FirstTerm ks vs x.left t c pe) (r : FirstTerm ks vs x.right u d b.end) → x.count ≡ suc m → a.end ≡ c + upto m l.rest
        → Subs Formed (sub l.term l.rest) → Subs Formed (sub r.term r.rest) → {out' : List ℕ} {o : ℕ} → Put out out' to o (bytes (recover_from l.term r.term))
        → Recovering ks vs c pe a.end d b.end out₀ out' at o whole
    unfolding Subs recover_from bytes
    recover_both {m = m} l r k s p q w = record {
      count = m;
      left = l.rest;
      right = r.rest;
      held_left = l.behind;
      held_right = r.behind;
      formed_left = p.1;
      formed_right = q.1;
      stops = s;
      done = x.done ++ bytes (recover_from l.term r.term);
      put = put_then x.put w;
      same =
          x.same
          ∙ ap (λ (y : Parts). x.done ++ part_bytes (recover_row y x.count x.right)) l.is
          ∙ ap (λ (y : Parts). x.done ++ part_bytes (recover_row (sub l.term l.rest) x.count y)) r.is
          ∙ ap (λ (n : ℕ). x.done ++ part_bytes (recover_row (sub l.term l.rest) n (sub r.term r.rest))) k
          ∙ sym (append_assoc x.done (bytes (recover_from l.term r.term)) (part_bytes (recover_row l.rest m r.rest)));
    }

    pub recover_terms : {t u : Part} {c d : ℕ} → TermFirst ks vs a t c → TermFirst ks vs b u d → {out' : List ℕ} {r : ℕ}
        → ((v w : Term) → HeldParts ks vs t.from t.end (sub v end) → HeldParts ks vs u.from u.end (sub w end) → Formed v → Formed w
        → Put out out' to r (bytes (recover_from v w)))
        → Recovering ks vs c pe a.end d b.end out₀ out' at r whole
    unfolding upto Subs
    recover_terms {t} {u} {c} {d} f g w =
        let k = some_count x.left (omega (arith, f.0, f.1, f.2)) x.count x.stops in
        let s : (v : Term) (q : Parts) → x.left ≡ sub v q → a.end ≡ a.from + (length (items v) + upto k.0 q)
        = λ v q e. x.stops ∙ ap (λ (m : ℕ). a.from + upto m x.left) k.1 ∙ ap (λ (y : Parts). a.from + upto (suc k.0) y) e in
        let l = first_term x.held_left hp (λ v q e. omega (arith, s v q e)) f in
        let r = row_term x.held_right g in
        let p = subst (λ (y : Parts). Subs Formed y) l.is x.formed_left in
        let q = subst (λ (y : Parts). Subs Formed y) r.is x.formed_right in
        recover_both l r k.1 (omega (arith, s l.term l.rest l.is, l.wide, f.0, f.4)) p q (w l.term r.term l.held r.held p.0 q.0)

-- ---- recovering from itself changes nothing

mutual
  unfolding recover_from tag row

  pub recover_self : (t : Term) → recover_from t t ≡ t
  recover_self (var v) = refl
  recover_self (node k ps) = go (recovery k) (rows_self ps (reach (node k ps) (node k ps)))
    where
      go : (b : Bool) → recover_row ps (reach (node k ps) (node k ps)) ps ≡ ps → pick b (node k ps) (pick b (node k ps) (node k (recover_row ps (reach (node k ps) (node k ps)) ps))) ≡ node k ps
      go true e = refl
      go false e = ap (λ (l : Parts). node k l) e

  rows_self : (ps : Parts) (c : ℕ) → recover_row ps c ps ≡ ps
  rows_self end c = refl
  rows_self (num n ps) zero = refl
  rows_self (num n ps) (suc c) = ap (λ (l : Parts). num n l) (rows_self ps c)
  rows_self (sub t ps) zero = refl
  rows_self (sub t ps) (suc c) = rw (recover_self t, rows_self ps c)
