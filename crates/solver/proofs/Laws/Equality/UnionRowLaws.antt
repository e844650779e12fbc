-- The walk over two rows of parts that joins their terms.
use mathlib.Core.Bool.{Bool, true, false}
use mathlib.Core.List.{List}
use mathlib.Core.Path.{◌≡◌, refl, sym, ap, ◌∙◌}
use Prim.Native.Nat.{ℕ, ◌≤◌, ◌<◌}
use native.Mathlib.Omega.{arith}
use native.Mathlib.Decide.{ℕ_discrete}
use lib.ListN.{get_or}
use Rattle.terms.specs.Term.{Term, Parts, end, num, sub, Held}
use Rattle.terms.specs.declared.Part.{Part}
use Rattle.terms.specs.Words.Held.{HeldParts}
use Rattle.terms.specs.Words.PairsContract.{NumberFirst, TermFirst, Unlike, no_left, no_right, number_term, term_number}
use Rattle.terms.proofs.Laws.General.Bools.{never_true}
use Rattle.terms.proofs.Laws.Held.HeldLaws.{held_sub, row_end, row_num, row_sub}
use Rattle.terms.proofs.Laws.Held.PairLaws.{FirstNumber, FirstTerm, first_number, row_term}
use Rattle.solver.specs.Constrain.{replace, replace_row}
use Rattle.solver.specs.Words.CongruenceClasses.{Keeps, Coincide, CoincideRow, Pairwise, Linked, Fair, Honest, Outcome}
use Rattle.solver.proofs.Laws.Equality.LinkLaws.{linked_keeps}

module _ (ks vs : List ℕ) (σ : ℕ → Term) (τ : Term → Term) where
  -- the walk at i and j: what is left of both rows; if that joins, so do the rows, and if the rows are the same, so is that
  pub record RowWalk (ae be : ℕ) (ps qs : Parts) (par₀ : List ℕ) (i j : ℕ) (par : List ℕ) : Type 0 where
    pub psr : Parts
    pub qsr : Parts
    pub hp : HeldParts ks vs i ae psr
    pub hq : HeldParts ks vs j be qsr
    pub joins : (par' : List ℕ) → Keeps par par' → Pairwise (Linked ks vs τ par') psr qsr → Pairwise (Linked ks vs τ par') ps qs
    pub level : CoincideRow σ ps qs → CoincideRow σ psr qsr
    pub fair : Fair ks vs par
    pub honest : Honest ks vs σ par₀ → CoincideRow σ ps qs → Honest ks vs σ par

  pub walk_start : (a ae b be : ℕ) (ps qs : Parts) (par : List ℕ) → HeldParts ks vs a ae ps → HeldParts ks vs b be qs → Fair ks vs par → RowWalk ae be ps qs par a b par
  walk_start a ae b be ps qs par hp hq f = record {
    psr = ps;
    qsr = qs;
    hp = hp;
    hq = hq;
    joins = λ p g r. r;
    level = λ e. e;
    fair = f;
    honest = λ h e. h;
  }

  -- rows that begin differently
  num_apart : (x y : ℕ) (ps qs : Parts) → CoincideRow σ (num x ps) (num y qs) → (x ≡ y) × CoincideRow σ ps qs
  unfolding replace
  num_apart x y ps qs e = (cc, cc)

  sub_apart : (t u : Term) (ps qs : Parts) → CoincideRow σ (sub t ps) (sub u qs) → (Coincide σ t u) × CoincideRow σ ps qs
  unfolding replace
  sub_apart t u ps qs e = (cc, cc)

  num_sub : (x : ℕ) (u : Term) (ps qs : Parts) → CoincideRow σ (num x ps) (sub u qs) → ⊥
  unfolding replace
  num_sub x u ps qs e = let z : ◌≡◌ {A = ℕ} 0 1 = cc in omega arith

  num_end : (x : ℕ) (ps : Parts) → CoincideRow σ (num x ps) end → ⊥
  unfolding replace
  num_end x ps e = let z : ◌≡◌ {A = ℕ} 0 1 = cc in omega arith

  sub_end : (t : Term) (ps : Parts) → CoincideRow σ (sub t ps) end → ⊥
  unfolding replace
  sub_end t ps e = let z : ◌≡◌ {A = ℕ} 0 1 = cc in omega arith

  -- rows by what they begin with
  level_number : {p q r s : Parts} {x y : ℕ} → p ≡ num x r → q ≡ num y s → CoincideRow σ p q → (x ≡ y) × CoincideRow σ r s
  level_number {r = r} {s = s} {x = x} {y = y} e f g = num_apart x y r s (rw (e, f) at g)

  level_term : {p q r s : Parts} {t u : Term} → p ≡ sub t r → q ≡ sub u s → CoincideRow σ p q → (Coincide σ t u) × CoincideRow σ r s
  level_term {r = r} {s = s} {t = t} {u = u} e f g = sub_apart t u r s (rw (e, f) at g)

  pair_number : (J : Term → Term → Type 0) {p q r s : Parts} {x y : ℕ} → p ≡ num x r → q ≡ num y s → x ≡ y → Pairwise J r s → Pairwise J p q
  unfolding Pairwise
  pair_number J e f z g = rw (e, f) (z, g)

  pair_term : (J : Term → Term → Type 0) {p q r s : Parts} {t u : Term} → p ≡ sub t r → q ≡ sub u s → J t u → Pairwise J r s → Pairwise J p q
  unfolding Pairwise
  pair_term J e f z g = rw (e, f) (z, g)

  -- a row that is not over is not the end
  not_end : (i e : ℕ) (ps : Parts) → HeldParts ks vs i e ps → i < e → Dec (get_or ks i 0 ≡ 0) → CoincideRow σ ps end → ⊥
  not_end i e ps h m (yes k) l = let p = row_num ks vs i e ps h m k in num_end p.0 p.1 (rw p.2 at l)
  not_end i e ps h m (no k) l = let p = row_sub ks vs i e ps h m k in sub_end p.0 p.1 (rw p.2 at l)

  module _ {a b : Part} {ps qs : Parts} {par₀ par : List ℕ} (w : RowWalk a.end b.end ps qs par₀ a.from b.from par) where
    abbrev Tells : List ℕ → Bool → Type 0
    Tells par' same = Outcome ks vs σ par₀ par' same (Pairwise (Linked ks vs τ par') ps qs) (CoincideRow σ ps qs)

    differ : (CoincideRow σ w.psr w.qsr → ⊥) → Tells par false
    differ f = record { fair = w.fair; yes = never_true; honest = λ h e. absurd (f (w.level e)) }

    -- the rows go on with different things
    pub walk_unlike : Unlike ks a b → Tells par false
    walk_unlike (no_left h k) =
        differ (λ e. not_end b.from b.end w.qsr w.hq k (ℕ_discrete (get_or ks b.from 0) 0) (sym e ∙ ap (replace_row σ) (row_end ks vs a.from a.end w.psr w.hp h)))
    walk_unlike (no_right h k) =
        differ (λ e. not_end a.from a.end w.psr w.hp h (ℕ_discrete (get_or ks a.from 0) 0) (e ∙ ap (replace_row σ) (row_end ks vs b.from b.end w.qsr w.hq k)))
    walk_unlike (number_term h k m n) =
        let p = row_num ks vs a.from a.end w.psr w.hp h m in
        let q = row_sub ks vs b.from b.end w.qsr w.hq k n in
        differ (λ e. num_sub p.0 q.0 p.1 q.1 (rw (p.2, q.2) at e))
    walk_unlike (term_number h k m n) =
        let p = row_sub ks vs a.from a.end w.psr w.hp h m in
        let q = row_num ks vs b.from b.end w.qsr w.hq k n in
        differ (λ e. num_sub q.0 p.0 q.1 p.1 (sym (rw (p.2, q.2) at e)))

    -- both with a number
    module _ {i j c d : ℕ} (f : NumberFirst ks a i c) (g : NumberFirst ks b j d) where
      left_number : FirstNumber ks vs w.psr i c a.end
      left_number = first_number w.hp (omega arith) f

      right_number : FirstNumber ks vs w.qsr j d b.end
      right_number = first_number w.hq (omega arith) g

      pub walk_value : (get_or vs i 0 ≡ get_or vs j 0 → ⊥) → Tells par false
      walk_value h =
          let p = left_number in
          let q = right_number in
          differ (λ e. h (p.reads ∙ (level_number p.is q.is e).0 ∙ sym q.reads))

      pub walk_number : get_or vs i 0 ≡ get_or vs j 0 → RowWalk a.end b.end ps qs par₀ c d par
      walk_number h =
          let p = left_number in
          let q = right_number in
          let z : p.value ≡ q.value = sym p.reads ∙ h ∙ q.reads in
          record {
            psr = p.rest;
            qsr = q.rest;
            hp = p.behind;
            hq = q.behind;
            joins = λ par' g r. w.joins par' g (pair_number (Linked ks vs τ par') p.is q.is z r);
            level = λ e. (level_number p.is q.is (w.level e)).1;
            fair = w.fair;
            honest = w.honest;
          }

    -- both with a term: the two have been joined, from par to par'
    module _ {x y : Part} {c d : ℕ} (f : TermFirst ks vs a x c) (g : TermFirst ks vs b y d) {par' : List ℕ} (keeps : Keeps par par') {same : Bool}
        (told : (t u : Term) → Held ks vs x.from t → Held ks vs y.from u → Outcome ks vs σ par par' same (Linked ks vs τ par' t u) (Coincide σ t u)) where
      left_term : FirstTerm ks vs w.psr x c a.end
      left_term = row_term w.hp f

      right_term : FirstTerm ks vs w.qsr y d b.end
      right_term = row_term w.hq g

      joined : Outcome ks vs σ par par' same (Linked ks vs τ par' left_term.term right_term.term) (Coincide σ left_term.term right_term.term)
      joined =
          let p = left_term in
          let q = right_term in
          told p.term q.term (held_sub ks vs x.from x.end p.term end p.held).0 (held_sub ks vs y.from y.end q.term end q.held).0

      parts_level : CoincideRow σ ps qs → (Coincide σ left_term.term right_term.term) × CoincideRow σ left_term.rest right_term.rest
      parts_level e = level_term left_term.is right_term.is (w.level e)

      pub walk_apart : same ≡ false → Tells par' false
      walk_apart f = record {
        fair = joined.fair;
        yes = never_true;
        honest = λ h e. never_true (sym f ∙ (joined.honest (w.honest h e) (parts_level e).0).0);
      }

      pub walk_join : same ≡ true → RowWalk a.end b.end ps qs par₀ c d par'
      walk_join f =
          let p = left_term in
          let q = right_term in
          record {
            psr = p.rest;
            qsr = q.rest;
            hp = p.behind;
            hq = q.behind;
            joins = λ par'' g x. w.joins par'' (λ y z e. g y z (keeps y z e)) (pair_term (Linked ks vs τ par'') p.is q.is (linked_keeps par' par'' g ks vs τ p.term q.term (joined.yes f)) x);
            level = λ e. (parts_level e).1;
            fair = joined.fair;
            honest = λ h e. (joined.honest (w.honest h e) (parts_level e).0).1;
          }

    -- both are over
    pub walk_yes : a.end ≤ a.from → b.end ≤ b.from → Tells par true
    unfolding Pairwise
    walk_yes hi hj = record {
      fair = w.fair;
      yes = λ _. w.joins par (λ y z e. e) (rw (row_end ks vs a.from a.end w.psr w.hp hi, row_end ks vs b.from b.end w.qsr w.hq hj) tt);
      honest = λ h e. (refl, w.honest h e);
    }
