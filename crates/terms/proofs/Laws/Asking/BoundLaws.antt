-- `satisfies` and `satisfies_for` on the rows of nominals in the areas.
use mathlib.Core.Path.{◌≡◌, refl, sym, ap, subst, ◌∙◌}
use mathlib.Core.Bool.{Bool, true, false, not, ◌&&◌}
use mathlib.Core.List.{List, [], ◌∷◌}
use mathlib.Core.Option as math
use mathlib.Core.Option.{none, some}
use Prim.Native.Nat.{ℕ, suc, ◌+◌, ◌-◌, ◌≤◌, ◌<◌}
use native.Mathlib.Omega.{arith}
use borrow.Author.Tests.{eq-eqb, ne_eqb, eqb-true}
use lib.Dec.{eqb}
use lib.ListN.{length, get_or}
use Rattle.terms.specs.Result.{pick}
use Rattle.terms.specs.Term.{Term, Parts, sub, items, Subs}
use Rattle.terms.specs.Words.Held.{Held, HeldParts}
use Rattle.terms.specs.Shape as shape
use Rattle.terms.specs.Shape.{nominal}
use Rattle.terms.specs.Formed.{Formed, Fit}
use Rattle.terms.specs.Tree.{Nominal, nominal_of, look_up, put_terms, put_members, same, same_terms}
use Rattle.terms.specs.Comparison.{same_option, every, has, bounded, satisfies, reflexive, satisfies_for}
use Rattle.terms.specs.Words.SatisfyContract.{pairing, Laid, Listed, Lists, Agreed, agree, Headed, Pairs, Next-pair, Looked, Satisfied, covers}
use Rattle.terms.proofs.Laws.General.Bools.{never_true, or-true, and-false, not-true, not-false}
use Rattle.terms.proofs.Laws.Held.SameLaws.{both, same_refl, same_true}
use Rattle.terms.proofs.Laws.Held.NominalLaws.{Rising, nominal_is, split, Projected, reflexive_parts}
use Rattle.terms.proofs.Laws.Held.HeldLaws.{held_num, held_sub, items_some}
use Rattle.std.specs.Prelude.{Option, Some, None, MatchOption, is_some}

-- ---- pairs of a member and a term

module _ {A : Type 0} {ks vs : List ℕ} {p n e : ℕ} {rest : Parts} {f : List ℕ → List Term → A} {whole : A} where
  pub next_pair : Pairs ks vs p n e rest f whole → 0 < n → Next-pair ks vs p n e rest f whole
  unfolding put_members Subs
  next_pair x h = go x.members x.values x.held x.formed x.many x.paired x.same
    where
      go : (ms : List ℕ) (ts : List Term) → HeldParts ks vs p e (put_members ms ts rest) → Subs Formed (put_members ms ts rest)
          → length ms ≡ n → length ts ≡ n → whole ≡ f ms ts → Next-pair ks vs p n e rest f whole
      go [] ts hh hf hm hp s = absurd (omega arith)
      go (m ∷ ms) [] hh hf hm hp s = absurd (omega arith)
      go (m ∷ ms) (t ∷ ts) hh hf hm hp s =
          let a = held_num ks vs p e m (sub t (put_members ms ts rest)) hh in
          let b = held_sub ks vs (p + 1) e t (put_members ms ts rest) a.2 in
          record {
            member = m;
            value = t;
            members = ms;
            values = ts;
            word = a.1;
            here = b.0;
            behind = b.1;
            formed = hf.0;
            others = hf.1;
            many = omega arith;
            paired = omega arith;
            same = s;
          }

  -- none is left
  pub pairs_over : Pairs ks vs p n e rest f whole → n ≡ 0 → (whole ≡ f [] []) × HeldParts ks vs p e rest
  unfolding put_members
  pairs_over x h = go x.members x.values x.held x.many x.paired x.same
    where
      go : (ms : List ℕ) (ts : List Term) → HeldParts ks vs p e (put_members ms ts rest) → length ms ≡ n → length ts ≡ n → whole ≡ f ms ts
          → (whole ≡ f [] []) × HeldParts ks vs p e rest
      go [] [] hh hm hp s = (s, hh)
      go [] (t ∷ ts) hh hm hp s = absurd (omega arith)
      go (m ∷ ms) ts hh hm hp s = absurd (omega arith)

  module _ (x : Next-pair ks vs p n e rest f whole) where
    -- its term stands within the areas
    pub pair_inside : p + 1 < length ks
    pair_inside = omega (arith, x.here.within, items_some x.value)

    -- what is left after it tells the same
    pub pair_passed : {k : ℕ} → k ≡ p + 1 + length (items x.value) → whole ≡ f x.members x.values → Pairs ks vs k (n - 1) e rest f whole
    pair_passed h s = record {
      members = x.members;
      values = x.values;
      held = subst (λ (i : ℕ). HeldParts ks vs i e (put_members x.members x.values rest)) (sym h) x.behind;
      formed = x.others;
      many = omega (arith, x.many);
      paired = omega (arith, x.paired);
      same = s;
    }

-- ---- a member is looked up

module _ {ks vs : List ℕ} {p n e : ℕ} {rest : Parts} (m : ℕ) {whole : math.Option Term} where
  pub look_found : Next-pair ks vs p n e rest (look_up m) whole → get_or vs p 0 ≡ m → Looked ks vs whole (Some (p + 1))
  unfolding look_up
  look_found x h = (x.value, x.here, x.same ∙ rw (eq-eqb x.member m (sym x.word ∙ h)))

  pub look_next : (x : Next-pair ks vs p n e rest (look_up m) whole) {k : ℕ} → (get_or vs p 0 ≡ m → ⊥) → k ≡ p + 1 + length (items x.value)
      → Pairs ks vs k (n - 1) e rest (look_up m) whole
  unfolding look_up
  look_next x d h = pair_passed x h (x.same ∙ rw (ne_eqb x.member m (λ z. d (x.word ∙ z))))

  pub look_none : Pairs ks vs p n e rest (look_up m) whole → n ≡ 0 → Looked ks vs whole None
  unfolding look_up
  look_none x h = (pairs_over x h).0

-- the term that was found is compared
pub found_same : (ks vs : List ℕ) (whole : math.Option Term) (u : Term) (o : Option ℕ) (r : Bool) (Q : ℕ → Type 0) → ((i : ℕ) → Q i → (t : Term) → Held ks vs i t → r ≡ same t u)
    → Looked ks vs whole o → MatchOption o (r ≡ false) Q → r ≡ same_option whole u
found_same ks vs whole u (Some i) r Q f l m = f i m l.0 l.1 ∙ ap (λ (x : math.Option Term). same_option x u) (sym l.2)
found_same ks vs whole u None r Q f l m = m ∙ ap (λ (x : math.Option Term). same_option x u) (sym l)

-- the pairs of a list of members
pub listed_pairs : {A : Type 0} {ks vs : List ℕ} {x n e : ℕ} {gs : List ℕ} {hs : List Term} {rest : Parts} (f : List ℕ → List Term → A)
    → Listed ks vs x e gs hs rest → n ≡ get_or vs x 0 → Pairs ks vs (x + 1) n e rest f (f gs hs)
unfolding Subs
listed_pairs {ks} {vs} {x} {e} {gs} {hs} {rest} f l h =
    let a = held_num ks vs x e (length gs) (put_members gs hs rest) l.held in
    record {
      members = gs;
      values = hs;
      held = a.2;
      formed = l.formed;
      many = omega (arith, a.1);
      paired = omega (arith, a.1, l.paired);
      same = refl;
    }

-- ---- required members

module _ {ks vs : List ℕ} {p n e : ℕ} {rest : Parts} (f : ℕ → Term → Bool) {whole : Bool} where
  -- the test of the one that comes next
  pub every_next : (x : Next-pair ks vs p n e rest (every f) whole) {k : ℕ} → f x.member x.value ≡ true → k ≡ p + 1 + length (items x.value)
      → Pairs ks vs k (n - 1) e rest (every f) whole
  unfolding every
  every_next x t h = pair_passed x h (x.same ∙ rw t)

  pub every_fails : (x : Next-pair ks vs p n e rest (every f) whole) → f x.member x.value ≡ false → whole ≡ false
  unfolding every
  every_fails x t = x.same ∙ rw t

  pub every_over : Pairs ks vs p n e rest (every f) whole → n ≡ 0 → (whole ≡ true) × HeldParts ks vs p e rest
  unfolding every
  every_over x h = pairs_over x h

-- the one that comes next passes a test, as r says, or fails it
module _ {ks vs : List ℕ} {p n e : ℕ} {rest : Parts} (f : ℕ → Term → Bool) {whole : Bool} (x : Next-pair ks vs p n e rest (every f) whole)
    {r : Bool} (told : r ≡ f (get_or vs p 0) x.value) where
  told_of : r ≡ f x.member x.value
  told_of = told ∙ ap (λ (m : ℕ). f m x.value) x.word

  pub passes_next : {k : ℕ} → not r ≡ false → k ≡ p + 1 + length (items x.value) → Pairs ks vs k (n - 1) e rest (every f) whole
  passes_next t = every_next f x (sym told_of ∙ not-false r t)

  pub fails_next : not r ≡ true → whole ≡ false
  fails_next t = every_fails f x (sym told_of ∙ not-true r t)

-- ---- arguments

-- the terms that come next in both rows
pub record Next-terms (ks vs : List ℕ) (n i d : ℕ) (rest : Parts) (j e : ℕ) (more : Parts) (whole : Bool) : Type 0 where
  pub t : Term
  pub u : Term
  pub left : List Term
  pub right : List Term
  pub here_left : Held ks vs i t
  pub here_right : Held ks vs j u
  pub behind_left : HeldParts ks vs (i + length (items t)) d (put_terms left rest)
  pub behind_right : HeldParts ks vs (j + length (items u)) e (put_terms right more)
  pub many_left : length left + 1 ≡ n
  pub many_right : length right + 1 ≡ n
  pub same : whole ≡ (same t u && same_terms left right)

module _ {ks vs : List ℕ} {n i d : ℕ} {rest : Parts} {j e : ℕ} {more : Parts} {whole : Bool} where
  pub next_arguments : Lists ks vs n i d rest j e more whole → 0 < n → Next-terms ks vs n i d rest j e more whole
  unfolding put_terms same_terms
  next_arguments x h = go x.left x.right x.held_left x.held_right x.many_left x.many_right x.same
    where
      go : (ts us : List Term) → HeldParts ks vs i d (put_terms ts rest) → HeldParts ks vs j e (put_terms us more) → length ts ≡ n → length us ≡ n
          → whole ≡ same_terms ts us → Next-terms ks vs n i d rest j e more whole
      go [] us hl hr ml mr s = absurd (omega arith)
      go (t ∷ ts) [] hl hr ml mr s = absurd (omega arith)
      go (t ∷ ts) (u ∷ us) hl hr ml mr s =
          let a = held_sub ks vs i d t (put_terms ts rest) hl in
          let b = held_sub ks vs j e u (put_terms us more) hr in
          record {
            t = t;
            u = u;
            left = ts;
            right = us;
            here_left = a.0;
            here_right = b.0;
            behind_left = a.1;
            behind_right = b.1;
            many_left = omega arith;
            many_right = omega arith;
            same = s;
          }

  pub arguments_over : Lists ks vs n i d rest j e more whole → n ≡ 0 → Agreed ks vs d rest e more whole (Some (i, j))
  unfolding put_terms same_terms
  arguments_over x h = go x.left x.right x.held_left x.held_right x.many_left x.many_right x.same
    where
      go : (ts us : List Term) → HeldParts ks vs i d (put_terms ts rest) → HeldParts ks vs j e (put_terms us more) → length ts ≡ n → length us ≡ n
          → whole ≡ same_terms ts us → Agreed ks vs d rest e more whole (Some (i, j))
      go [] [] hl hr ml mr s = (s, hl, hr)
      go [] (u ∷ us) hl hr ml mr s = absurd (omega arith)
      go (t ∷ ts) us hl hr ml mr s = absurd (omega arith)

  module _ (x : Next-terms ks vs n i d rest j e more whole) where
    pub argument_left : i < length ks
    argument_left = omega (arith, x.here_left.within, items_some x.t)

    pub argument_right : j < length ks
    argument_right = omega (arith, x.here_right.within, items_some x.u)

    pub arguments_differ : {r : Bool} → r ≡ same x.t x.u → not r ≡ true → whole ≡ false
    arguments_differ {r} h t = x.same ∙ rw (sym h ∙ not-true r t)

    pub arguments_next : {r : Bool} {k l : ℕ} → r ≡ same x.t x.u → not r ≡ false → k ≡ i + length (items x.t) → l ≡ j + length (items x.u)
        → Lists ks vs (n - 1) k d rest l e more whole
    arguments_next {r} h t p q = record {
      left = x.left;
      right = x.right;
      held_left = subst (λ (a : ℕ). HeldParts ks vs a d (put_terms x.left rest)) (sym p) x.behind_left;
      held_right = subst (λ (a : ℕ). HeldParts ks vs a e (put_terms x.right more)) (sym q) x.behind_right;
      many_left = omega (arith, x.many_left);
      many_right = omega (arith, x.many_right);
      same = x.same ∙ rw (sym h ∙ not-false r t);
    }

-- lists of another length are not the same
lengths_apart : (ts us : List Term) → (length ts ≡ length us → ⊥) → same_terms ts us ≡ false
unfolding same_terms
lengths_apart [] [] d = absurd (d refl)
lengths_apart [] (u ∷ us) d = refl
lengths_apart (t ∷ ts) [] d = refl
lengths_apart (t ∷ ts) (u ∷ us) d = rw (lengths_apart ts us (λ e. d (ap suc e))) (and-false (same t u))

-- ---- declarations and arguments

behind_terms : (ts : List Term) (rest : Parts) → Subs Formed (put_terms ts rest) → Subs Formed rest
unfolding put_terms Subs
behind_terms [] rest h = h
behind_terms (t ∷ ts) rest h = behind_terms ts rest h.1

-- the words with which the row of a nominal begins
pub record Words (ks vs : List ℕ) (p e : ℕ) (a : Nominal) (rest : Parts) : Type 0 where
  pub inside : p + 1 < length ks
  pub first : get_or vs p 0 ≡ a.declaration
  pub second : get_or vs (p + 1) 0 ≡ length a.arguments
  pub behind : HeldParts ks vs (p + 2) e (put_terms a.arguments (pairing a.members a.values rest))

pub laid_words : {ks vs : List ℕ} {p e : ℕ} {a : Nominal} {rest : Parts} → Laid ks vs p e a rest → Words ks vs p e a rest
laid_words {ks} {vs} {p} {e} {a} {rest} x =
    let s = held_num ks vs p e a.declaration _ x.held in
    let t = held_num ks vs (p + 1) e (length a.arguments) _ s.2 in
    let two : p + 1 + 1 ≡ p + 2 = omega arith in
    record {
      inside = omega (arith, t.2.ends, t.2.within);
      first = s.1;
      second = t.1;
      behind = subst (λ (i : ℕ). HeldParts ks vs i e (put_terms a.arguments (pairing a.members a.values rest))) two t.2;
    }

module _ {ks vs : List ℕ} {p d : ℕ} {a : Nominal} {rest : Parts} {q e : ℕ} {b : Nominal} {more : Parts} (x : Laid ks vs p d a rest) (y : Laid ks vs q e b more) where
  pub declarations_differ : (get_or vs p 0 ≡ get_or vs q 0 → ⊥) → agree a b ≡ false
  unfolding agree
  declarations_differ h =
      let s = laid_words x in
      let t = laid_words y in
      rw (ne_eqb a.declaration b.declaration (λ z. h (s.first ∙ z ∙ sym t.first)))

  pub counts_differ : (get_or vs (p + 1) 0 ≡ get_or vs (q + 1) 0 → ⊥) → agree a b ≡ false
  unfolding agree
  counts_differ h =
      let s = laid_words x in
      let t = laid_words y in
      rw (lengths_apart a.arguments b.arguments (λ z. h (s.second ∙ z ∙ sym t.second))) (and-false (eqb a.declaration b.declaration))

  -- the counts are the same: the two lists
  pub headed_lists : {n : ℕ} → n ≡ get_or vs (p + 1) 0 → get_or vs (p + 1) 0 ≡ get_or vs (q + 1) 0
      → Lists ks vs n (p + 2) d (pairing a.members a.values rest) (q + 2) e (pairing b.members b.values more) (same_terms a.arguments b.arguments)
  headed_lists h k =
      let s = laid_words x in
      let t = laid_words y in
      record {
        left = a.arguments;
        right = b.arguments;
        held_left = s.behind;
        held_right = t.behind;
        many_left = omega (arith, s.second);
        many_right = omega (arith, t.second);
        same = refl;
      }

  pub headed : get_or vs p 0 ≡ get_or vs q 0 → (r : Option (ℕ × ℕ))
      → Agreed ks vs d (pairing a.members a.values rest) e (pairing b.members b.values more) (same_terms a.arguments b.arguments) r
      → Headed ks vs d a rest e b more r
  unfolding agree Subs
  headed h None g = rw g (and-false (eqb a.declaration b.declaration))
  headed h (Some (i, j)) g =
      let s = laid_words x in
      let t = laid_words y in (
        rw (eq-eqb a.declaration b.declaration (sym s.first ∙ h ∙ t.first)) g.0,
        record { held = g.1; formed = behind_terms a.arguments _ x.formed; paired = x.paired },
        record { held = g.2; formed = behind_terms b.arguments _ y.formed; paired = y.paired },
      )

-- ---- the bound

and-true : (a : Bool) → (a && true) ≡ a
and-true true = refl
and-true false = refl

and_assoc : (a b c : Bool) → (a && (b && c)) ≡ ((a && b) && c)
and_assoc true b c = refl
and_assoc false b c = refl

module _ (f : ℕ → Term → Bool) (a b : Nominal) where
  bounded_is : bounded f a b ≡ (agree a b && every f b.members b.values)
  unfolding bounded agree
  bounded_is = and_assoc (eqb a.declaration b.declaration) (same_terms a.arguments b.arguments) (every f b.members b.values)

  pub bounded_apart : agree a b ≡ false → bounded f a b ≡ false
  bounded_apart h = bounded_is ∙ rw h

  pub bounded_members : agree a b ≡ true → bounded f a b ≡ every f b.members b.values
  bounded_members h = bounded_is ∙ rw h

-- `satisfies`, where the declarations and the arguments agree
pub satisfied_row : (ks vs : List ℕ) (a b : Nominal) (e : ℕ) (more : Parts) → agree a b ≡ true → (r : Option ℕ) → Satisfied ks vs e more (every (has a) b.members b.values) r
    → Satisfied ks vs e more (satisfies a b) r
satisfied_row ks vs a b e more h (Some z) g = (bounded_members (has a) a b h ∙ g.0, g.1)
satisfied_row ks vs a b e more h None g = bounded_members (has a) a b h ∙ g

-- whether it is satisfied
pub whole_is : (ks vs : List ℕ) (e : ℕ) (more : Parts) (whole : Bool) (o : Option ℕ) → Satisfied ks vs e more whole o → is_some o ≡ whole
whole_is ks vs e more whole (Some z) h = sym h.0
whole_is ks vs e more whole None h = sym h

-- ---- `reflexive`, test by test

module _ (a : Nominal) (w : Term) (m : ℕ) {u : Term} (x : Projected u) where
  pub other_receiver : {r : Bool} → r ≡ same x.receiver w → not r ≡ true → false ≡ reflexive a w m u
  other_receiver {r} h t = sym (reflexive_parts a w m u x ∙ rw (sym h ∙ not-true r t))

  pub not_satisfied : satisfies a x.interface ≡ false → false ≡ reflexive a w m u
  not_satisfied h = sym (reflexive_parts a w m u x ∙ rw h (none (same x.receiver w) (eqb x.member m) (eqb (length x.arguments) 0)))
    where
      none : (p q r : Bool) → (p && (q && (r && false))) ≡ false
      none true true true = refl
      none true true false = refl
      none true false r = refl
      none false q r = refl

  pub other_member : (x.member ≡ m → ⊥) → false ≡ reflexive a w m u
  other_member h = sym (reflexive_parts a w m u x ∙ rw (ne_eqb x.member m h) (and-false (same x.receiver w)))

  pub by_arguments : {r : Bool} {n : ℕ} → r ≡ same x.receiver w → not r ≡ false → satisfies a x.interface ≡ true → x.member ≡ m → n ≡ length x.arguments → eqb n 0 ≡ reflexive a w m u
  by_arguments {r} {n} h t s e k = sym (reflexive_parts a w m u x ∙ rw (sym h ∙ not-false r t, eq-eqb x.member m e, s, ← k) (and-true (eqb n 0)))

-- ---- `satisfies` is an order, and `satisfies_for` admits what it admits

pub terms_refl : (ts : List Term) → same_terms ts ts ≡ true
unfolding same_terms
terms_refl [] = refl
terms_refl (t ∷ ts) = rw (same_refl t) (terms_refl ts)

pub terms_true : (ts us : List Term) → same_terms ts us ≡ true → ts ≡ us
unfolding same_terms
terms_true [] [] h = refl
terms_true [] (u ∷ us) h = never_true h
terms_true (t ∷ ts) [] h = never_true h
terms_true (t ∷ ts) (u ∷ us) h = let b = both (same t u) (same_terms ts us) h in rw (same_true t u b.0, terms_true ts us b.1)

every_ext : (f g : ℕ → Term → Bool) (least : ℕ) (ms : List ℕ) (ts : List Term) → Rising least ms → ((m : ℕ) (t : Term) → least ≤ m → f m t ≡ g m t) → every f ms ts ≡ every g ms ts
unfolding every Rising
every_ext f g least [] ts r h = refl
every_ext f g least (m ∷ ms) [] r h = refl
every_ext f g least (m ∷ ms) (t ∷ ts) r h = rw (h m t r.0, every_ext f g (m + 1) ms ts r.1 (λ k u l. h k u (omega (arith, r.0))))

every_more : (f g : ℕ → Term → Bool) → ((m : ℕ) (t : Term) → f m t ≡ true → g m t ≡ true) → (ms : List ℕ) (ts : List Term) → every f ms ts ≡ true → every g ms ts ≡ true
unfolding every
every_more f g h [] ts e = refl
every_more f g h (m ∷ ms) [] e = refl
every_more f g h (m ∷ ms) (t ∷ ts) e = let b = both (f m t) (every f ms ts) e in rw (h m t b.0) (every_more f g h ms ts b.1)

-- members that rise have each of themselves
every_own : (least : ℕ) (ms : List ℕ) (ts : List Term) → Rising least ms → every (λ m t. same_option (look_up m ms ts) t) ms ts ≡ true
unfolding every look_up Rising
every_own least [] ts r = refl
every_own least (m ∷ ms) [] r = refl
every_own least (m ∷ ms) (t ∷ ts) r =
    rw (eq-eqb m m refl, same_refl t)
    (every_ext (λ k u. same_option (look_up k (m ∷ ms) (t ∷ ts)) u) (λ k u. same_option (look_up k ms ts) u) (m + 1) ms ts r.1 (λ k u l. rw (ne_eqb m k (λ e. omega arith)))
    ∙ every_own (m + 1) ms ts r.1)

-- what is found passed the test
every_found : (f : ℕ → Term → Bool) (m : ℕ) (u : Term) (ms : List ℕ) (ts : List Term) → every f ms ts ≡ true → look_up m ms ts ≡ some u → f m u ≡ true
unfolding every look_up
every_found f m u [] ts e h = let z : ◌≡◌ {A = ℕ} 0 1 = cc in absurd (omega arith)
every_found f m u (k ∷ ms) [] e h = let z : ◌≡◌ {A = ℕ} 0 1 = cc in absurd (omega arith)
every_found f m u (k ∷ ms) (t ∷ ts) e h =
    let s = both (f k t) (every f ms ts) e in
    go (eqb k m) refl s.0 (λ p. every_found f m u ms ts s.1 p) h
  where
    go : (b : Bool) → eqb k m ≡ b → f k t ≡ true → (look_up m ms ts ≡ some u → f m u ≡ true) → pick b (some t) (look_up m ms ts) ≡ some u → f m u ≡ true
    go true q x later p =
        let s : t ≡ u = cc in
        ap (λ (v : Term). f m v) (sym s) ∙ ap (λ (j : ℕ). f j t) (sym (eqb-true k m q)) ∙ x
    go false q x later p = later p

module _ (a b : Nominal) where
  agree_both : agree a b ≡ true → (a.declaration ≡ b.declaration) × (a.arguments ≡ b.arguments)
  unfolding agree
  agree_both h =
      let s = both (eqb a.declaration b.declaration) (same_terms a.arguments b.arguments) h in
      (eqb-true a.declaration b.declaration s.0, terms_true a.arguments b.arguments s.1)

  both_agree : a.declaration ≡ b.declaration → a.arguments ≡ b.arguments → agree a b ≡ true
  unfolding agree
  both_agree h k = rw (eq-eqb a.declaration b.declaration h, k) (terms_refl b.arguments)

  bounded_both : (f : ℕ → Term → Bool) → bounded f a b ≡ true → (agree a b ≡ true) × (every f b.members b.values ≡ true)
  bounded_both f h = both (agree a b) (every f b.members b.values) (sym (bounded_is f a b) ∙ h)

  -- `satisfies_for` admits what `satisfies` admits
  pub satisfies_more : (w : Term) → satisfies a b ≡ true → satisfies_for a b w ≡ true
  satisfies_more w h =
      let s = bounded_both (has a) h in
      bounded_members (covers a w) a b s.0 ∙ every_more (has a) (covers a w) (λ m t e. or-true (has a m t) (reflexive a w m t) e) b.members b.values s.1

-- a nominal satisfies itself
pub satisfies_own : (a : Nominal) → Rising 0 a.members → satisfies a a ≡ true
unfolding has
satisfies_own a r = bounded_members (has a) a a (both_agree a a refl refl) ∙ every_own 0 a.members a.values r

pub satisfies_self : (ps : Parts) → Fit (nominal shape.done) ps → satisfies (nominal_of ps) (nominal_of ps) ≡ true
satisfies_self ps f =
    let s = split shape.done ps f in
    let e : nominal_of ps ≡ s.name = ap nominal_of s.is ∙ nominal_is s.name s.rest s.paired in
    ap (λ (a : Nominal). satisfies a a) e ∙ satisfies_own s.name s.rising

-- and what a nominal satisfies is satisfied by what satisfies it
pub satisfies_trans : (a b c : Nominal) → satisfies a b ≡ true → satisfies b c ≡ true → satisfies a c ≡ true
unfolding has
satisfies_trans a b c h k =
    let s = bounded_both a b (has a) h in
    let t = bounded_both b c (has b) k in
    let x = agree_both a b s.0 in
    let y = agree_both b c t.0 in
    bounded_members (has a) a c (both_agree a c (x.0 ∙ y.0) (x.1 ∙ y.1))
    ∙ every_more (has b) (has a) (λ m u e. found m u (look_up m b.members b.values) refl e s.1) c.members c.values t.1
  where
    found : (m : ℕ) (u : Term) (o : math.Option Term) → look_up m b.members b.values ≡ o → same_option o u ≡ true → every (has a) b.members b.values ≡ true → has a m u ≡ true
    found m u none q e w = never_true e
    found m u (some v) q e w = every_found (has a) m u b.members b.values w (q ∙ ap (λ (x : Term). some x) (same_true v u e))
