-- Theorems on the Unification Algorithm of `Robinson1965`: it ends, the Unification Theorem, and the solver answers as it does.
use mathlib.Core.Path.{◌≡◌, refl, ap, ap₂, sym, ◌∙◌, subst}
use mathlib.Core.Logic.{◌⊎◌, inl, inr, ◌↔◌, ◌≢◌, ite}
use mathlib.Core.HLevel.{Discrete}
use mathlib.Core.Bool.{Bool, true, false}
use mathlib.Core.Option.{Option, none, some}
use mathlib.Core.List.{List, [], ◌∷◌, ◌++◌, append-nil, append_assoc}
use Prim.Native.Nat.{ℕ, zero, suc, ◌+◌, ◌≤◌, ◌<◌}
use native.Mathlib.Decide.{ℕ_discrete, dec_le, le_ind}
use native.Mathlib.Omega.{arith}
use Rattle.unify.specs.Term.{Sort, Tree, var, node, nil, ◌▸◌, Term, Forest, width, width_sub, sub, sub-sub, sub_ext, sub_fix, In, in?, in_sub, same?, clash, occurs_clash, sim_of_eq}
use Rattle.unify.specs.Solver.{Sig, T, Pair, State}
use Rattle.unify.specs.Orders.{Order, Run, fresh}
use Rattle.unify.proofs.Demand.{Premises, end}
use Rattle.unify.specs.Table.{Table, answer}
use Rattle.unify.proofs.Refine.{over, table_end, table_means}
use Rattle.unify.specs.Session.{Command, session_begin, sheet, AllAllowed}
use Rattle.unify.proofs.Whole.{sheet_means}
use Rattle.unify.proofs.Robinson.{Unifies, NoNumbers, Robinson, Normal, NormalPairs, robinson_loose}
use Rattle.unify.specs.Robinson1965.{Subst, Symbol, variable, function, symbol, spelled, Outcome, going, unifier, without, Has, has?, Substitution, value, inst, Unifier, ordered, above, occurring, variables, or_else, lefts, rights}
use Rattle.unify.specs.Robinson1965.{images, others, compose, disagreement, replace, step3, step2, again, rounds, unification, MostGeneralUnifier}

one-le : {A B : Type 0} (a : Dec A) (b : Dec B) → (A → B) → ite a 1 0 ≤ ite b 1 0
one-le (yes a) (yes b) f = omega arith
one-le (yes a) (no b) f = absurd (b (f a))
one-le (no a) (yes b) f = omega arith
one-le (no a) (no b) f = omega arith

one-lt : {A B : Type 0} (a : Dec A) (b : Dec B) → ¬ A → B → ite a 1 0 < ite b 1 0
one-lt (yes a) b f g = absurd (f a)
one-lt (no a) (yes b) f g = omega arith
one-lt (no a) (no b) f g = absurd (b g)

module _ {H : Type 0} where
  -- counting variables
  above_in : (v : ℕ) {s : Sort} (t : Tree H s) → In v t → v < above t
  unfolding above
  above_in v (var w) i = omega arith
  above_in v (node h ts) i = above_in v ts i
  above_in v nil i = absurd i
  above_in v (t ▸ ts) (inl i) = let r = above_in v t i in omega arith
  above_in v (t ▸ ts) (inr i) = let r = above_in v ts i in omega arith

  occurring_le : (N : ℕ) {s : Sort} (t u : Tree H s) → ((v : ℕ) → In v t → In v u) → occurring N t ≤ occurring N u
  unfolding occurring
  occurring_le zero t u f = omega arith
  occurring_le (suc N) t u f = let a = one-le (in? N t) (in? N u) (f N) in let b = occurring_le N t u f in omega arith

  occurring_lt : (N : ℕ) {s : Sort} (t u : Tree H s) → ((v : ℕ) → In v t → In v u) → (w : ℕ) → w < N → In w u → ¬ In w t → occurring N t < occurring N u
  unfolding occurring
  occurring_lt zero t u f w l i j = absurd (omega arith)
  occurring_lt (suc N) t u f w l i j = go (λ m. occurring_lt N t u f w m i j) (ℕ_discrete w N)
    where
      go : (w < N → occurring N t < occurring N u) → Dec (w ≡ N) → occurring (suc N) t < occurring (suc N) u
      go more (yes e) =
          let a = one-lt (in? N t) (in? N u) (λ k. j (rw e k)) (rw e at i) in
          let b = occurring_le N t u f in
          omega arith
      go more (no e) = let a = one-le (in? N t) (in? N u) (f N) in let b = more (omega arith) in omega arith

  -- substitutions
  value_here : (c : ℕ × Term H) (σ : Subst H) → value (c ∷ σ) c.0 ≡ c.1
  unfolding value
  value_here c σ = go (ℕ_discrete c.0 c.0)
    where
      go : (d : Dec (c.0 ≡ c.0)) → ite d c.1 (value σ c.0) ≡ c.1
      go (yes p) = refl
      go (no p) = absurd (p refl)

  value_next : (c : ℕ × Term H) (σ : Subst H) (v : ℕ) → v ≢ c.0 → value (c ∷ σ) v ≡ value σ v
  unfolding value
  value_next c σ v e = go (ℕ_discrete v c.0)
    where
      go : (d : Dec (v ≡ c.0)) → ite d c.1 (value σ v) ≡ value σ v
      go (yes p) = absurd (e p)
      go (no p) = refl

  value_none : (σ : Subst H) (v : ℕ) → ¬ Has v σ → value σ v ≡ var v
  unfolding value
  value_none [] v e = refl
  value_none (c ∷ σ) v e = value_next c σ v (λ p. e (inl p)) ∙ value_none σ v (λ p. e (inr p))

  has_append : (v : ℕ) (a b : Subst H) → Has v (a ++ b) → Has v a ⊎ Has v b
  has_append v [] b h = inr h
  has_append v (c ∷ a) b (inl e) = inl (inl e)
  has_append v (c ∷ a) b (inr h) = elim (has_append v a b h) [ inl p ↦ inl (inr p) | inr p ↦ inr p ]

  value_append : (a b : Subst H) (v : ℕ) → ¬ Has v b → value (a ++ b) v ≡ value a v
  unfolding value
  value_append [] b v e = value_none b v e
  value_append (c ∷ a) b v e = ap (ite (ℕ_discrete v c.0) c.1) (value_append a b v e)

  value_after : (a b : Subst H) (v : ℕ) → ¬ Has v a → value (a ++ b) v ≡ value b v
  value_after [] b v e = refl
  value_after (c ∷ a) b v e = value_next c (a ++ b) v (λ p. e (inl p)) ∙ value_after a b v (λ p. e (inr p))

  module _ (head? : Discrete H) where
    has_images : (v : ℕ) (θ l : Subst H) → Has v (images head? θ l) → Has v θ
    unfolding images
    has_images v [] l h = h
    has_images v (c ∷ θ) l h = go (has_images v θ l) (same? head? (inst c.1 l) (var c.0)) h
      where
        go : (Has v (images head? θ l) → Has v θ) → (d : Dec (inst c.1 l ≡ var c.0)) → Has v (ite d (images head? θ l) ((c.0, inst c.1 l) ∷ images head? θ l)) → Has v (c ∷ θ)
        go more (yes e) h = inr (more h)
        go more (no e) (inl p) = inl p
        go more (no e) (inr h) = inr (more h)

    has_others : (v : ℕ) (θ l : Subst H) → Has v (others head? θ l) → (¬ Has v θ) × Has v l
    unfolding others
    has_others v θ [] h = absurd h
    has_others v θ (c ∷ l) h = go (has_others v θ l) (has? c.0 θ) h
      where
        go : (Has v (others head? θ l) → (¬ Has v θ) × Has v l) → (d : Dec (Has c.0 θ)) → Has v (ite d (others head? θ l) (c ∷ others head? θ l)) → (¬ Has v θ) × Has v (c ∷ l)
        go more (yes e) h = let r = more h in (r.0, inr r.1)
        go more (no e) (inl p) = ((λ k. e (rw p at k)), inl p)
        go more (no e) (inr h) = let r = more h in (r.0, inr r.1)

    -- a composition is a substitution, and applies one after the other
    proper_images : (θ l : Subst H) → Substitution θ → Substitution (images head? θ l)
    unfolding images
    proper_images [] l p = tt
    proper_images (c ∷ θ) l p = go (proper_images θ l p.2) (same? head? (inst c.1 l) (var c.0))
      where
        go : Substitution (images head? θ l) → (d : Dec (inst c.1 l ≡ var c.0)) → Substitution (ite d (images head? θ l) ((c.0, inst c.1 l) ∷ images head? θ l))
        go more (yes e) = more
        go more (no e) = (e, (λ h. p.1 (has_images c.0 θ l h)), more)

    proper_others : (θ l : Subst H) → Substitution l → Substitution (others head? θ l)
    unfolding others
    proper_others θ [] p = tt
    proper_others θ (c ∷ l) p = go (proper_others θ l p.2) (has? c.0 θ)
      where
        go : Substitution (others head? θ l) → (d : Dec (Has c.0 θ)) → Substitution (ite d (others head? θ l) (c ∷ others head? θ l))
        go more (yes e) = more
        go more (no e) = (p.0, (λ h. p.1 (has_others c.0 θ l h).1), more)

    proper_append : (a b : Subst H) → Substitution a → Substitution b → ((v : ℕ) → Has v a → ¬ Has v b) → Substitution (a ++ b)
    proper_append [] b p q e = q
    proper_append (c ∷ a) b p q e = (
      p.0,
      λ h. elim (has_append c.0 a b h) [ inl k ↦ p.1 k | inr k ↦ e c.0 (inl refl) k ],
      proper_append a b p.2 q (λ v h. e v (inr h)),
    )

    pub proper_compose : (θ l : Subst H) → Substitution θ → Substitution l → Substitution (compose head? θ l)
    proper_compose θ l p q = proper_append (images head? θ l) (others head? θ l) (proper_images θ l p) (proper_others θ l q)
        (λ v h k. (has_others v θ l k).0 (has_images v θ l h))

    value_images : (θ l : Subst H) (v : ℕ) → Substitution θ → Has v θ → value (images head? θ l) v ≡ inst (value θ v) l
    unfolding images
    value_images [] l v p h = absurd h
    value_images (c ∷ θ) l v p h = go (value_images θ l v p.2) (same? head? (inst c.1 l) (var c.0)) (ℕ_discrete v c.0) h
      where
        go : (Has v θ → value (images head? θ l) v ≡ inst (value θ v) l) → (d : Dec (inst c.1 l ≡ var c.0)) → Dec (v ≡ c.0) → Has v (c ∷ θ)
            → value (ite d (images head? θ l) ((c.0, inst c.1 l) ∷ images head? θ l)) v ≡ inst (value (c ∷ θ) v) l
        go more (yes e) (yes i) h = rw (i, value_here c θ, e) (value_none (images head? θ l) c.0 (λ k. p.1 (has_images c.0 θ l k)))
        go more (no e) (yes i) h = rw (i, value_here c θ) (value_here (c.0, inst c.1 l) (images head? θ l))
        go more d (no i) (inl k) = absurd (i k)
        go more (yes e) (no i) (inr k) = rw (value_next c θ v i) (more k)
        go more (no e) (no i) (inr k) = rw (value_next c θ v i) (value_next (c.0, inst c.1 l) (images head? θ l) v i ∙ more k)

    value_others : (θ l : Subst H) (v : ℕ) → ¬ Has v θ → value (others head? θ l) v ≡ value l v
    unfolding others
    value_others θ [] v e = refl
    value_others θ (c ∷ l) v e = go (value_others θ l v e) (has? c.0 θ) (ℕ_discrete v c.0)
      where
        go : value (others head? θ l) v ≡ value l v → (d : Dec (Has c.0 θ)) → Dec (v ≡ c.0) → value (ite d (others head? θ l) (c ∷ others head? θ l)) v ≡ value (c ∷ l) v
        go more (yes h) (yes i) = absurd (e (rw i h))
        go more (yes h) (no i) = more ∙ sym (value_next c l v i)
        go more (no h) (yes i) = rw (i, value_here c l, value_here c (others head? θ l))
        go more (no h) (no i) = value_next c (others head? θ l) v i ∙ more ∙ sym (value_next c l v i)

    pub value_compose : (θ l : Subst H) → Substitution θ → (v : ℕ) → value (compose head? θ l) v ≡ inst (value θ v) l
    unfolding sub
    value_compose θ l p v = go (has? v θ)
      where
        go : Dec (Has v θ) → value (compose head? θ l) v ≡ inst (value θ v) l
        go (yes h) = value_append (images head? θ l) (others head? θ l) v (λ k. (has_others v θ l k).0 h) ∙ value_images θ l v p h
        go (no h) = rw (value_none θ v h) (value_after (images head? θ l) (others head? θ l) v (λ k. h (has_images v θ l k)) ∙ value_others θ l v h)

    inst_compose : (θ l : Subst H) → Substitution θ → {s : Sort} (t : Tree H s) → inst t (compose head? θ l) ≡ inst (inst t θ) l
    inst_compose θ l p t = sub_ext t (λ v i. value_compose θ l p v) ∙ sym (sub-sub (value l) (value θ) t)

    -- where two trees do not disagree they are equal: lists, if they are equally long
    abbrev Level : {s : Sort} → Tree H s → Tree H s → Type 0
    Level (var v) u = Unit {0}
    Level (node h ts) u = Unit {0}
    Level nil us = 0 ≡ width us
    Level (t ▸ ts) us = suc (width ts) ≡ width us

    level : (ts us : Forest H) → width ts ≡ width us → Level ts us
    unfolding width
    level nil us e = e
    level (t ▸ ts) us e = e

    level_terms : (t u : Term H) → Level t u
    level_terms (var v) u = tt
    level_terms (node h ts) u = tt

    or-none : (a b : Option (Term H × Term H)) → or_else a b ≡ none → (a ≡ none) × (b ≡ none)
    unfolding or_else
    or-none none b e = (refl, e)
    or-none (some a) b e = clash (cc)

    agrees : {s : Sort} (t u : Tree H s) → Level t u → disagreement head? t u ≡ none → t ≡ u
    unfolding disagreement width
    agrees (var v) (var w) l e = go (ℕ_discrete v w) e
      where
        go : (c : Dec (v ≡ w)) → ite {C = Option (Term H × Term H)} c none (some (var v, var w)) ≡ none → ◌≡◌ {A = Term H} (var v) (var w)
        go (yes p) e = ap var p
        go (no p) e = clash (cc)
    agrees (var v) (node k us) l e = clash (cc)
    agrees (node h ts) (var w) l e = clash (cc)
    agrees (node h ts) (node k us) l e = go (agrees ts us) (head? h k) (ℕ_discrete (width ts) (width us)) e
      where
        go : (Level ts us → disagreement head? ts us ≡ none → ts ≡ us) → (a : Dec (h ≡ k)) (b : Dec (width ts ≡ width us))
            → ite {C = Option (Term H × Term H)} a (ite b (disagreement head? ts us) (some (node h ts, node k us))) (some (node h ts, node k us)) ≡ none → node h ts ≡ node k us
        go more (yes p) (yes q) e = ap₂ node p (more (level ts us q) e)
        go more (yes p) (no q) e = clash (cc)
        go more (no p) b e = clash (cc)
    agrees nil nil l e = refl
    agrees nil (u ▸ us) l e = absurd (omega arith)
    agrees (t ▸ ts) nil l e = absurd (omega arith)
    agrees (t ▸ ts) (u ▸ us) l e =
        let o = or-none (disagreement head? t u) (disagreement head? ts us) e in
        ap₂ ◌▸◌ (agrees t u (level_terms t u) o.0) (agrees ts us (level ts us (omega arith)) o.1)

    -- what is known of a disagreement set
    pub record Disagrees {s : Sort} (t u : Tree H s) (d : Term H × Term H) : Type 0 where
      -- before it the strings are the same
      pub before : List (Symbol H)
      pub left : (b : List (Symbol H)) × (spelled t ≡ before ++ (spelled d.0 ++ b))
      pub right : (c : List (Symbol H)) × (spelled u ≡ before ++ (spelled d.1 ++ c))
      -- there they differ
      pub apart : symbol d.0 ≢ symbol d.1
      -- who unifies the trees unifies its members, whose variables are theirs
      pub equal : (θ : ℕ → Term H) → sub θ t ≡ sub θ u → sub θ d.0 ≡ sub θ d.1
      pub in_left : (v : ℕ) → In v d.0 → In v t
      pub in_right : (v : ℕ) → In v d.1 → In v u

    here : (t u : Term H) → symbol t ≢ symbol u → (d : Term H × Term H) → ◌≡◌ {A = Option (Term H × Term H)} (some (t, u)) (some d) → Disagrees t u d
    here t u a d e =
        let p : (t, u) ≡ d = cc in
        subst (λ (x : Term H × Term H). Disagrees t u x) p (record {
          before = [];
          left = ([], sym (append-nil (spelled t)));
          right = ([], sym (append-nil (spelled u)));
          apart = a;
          equal = λ θ q. q;
          in_left = λ v i. i;
          in_right = λ v i. i;
        })

    or_some : (a b : Option (Term H × Term H)) (d : Term H × Term H) → or_else a b ≡ some d → (a ≡ some d) ⊎ ((a ≡ none) × (b ≡ some d))
    unfolding or_else
    or_some none b d e = inr (refl, e)
    or_some (some a) b d e = inl e

    disagrees : {s : Sort} (t u : Tree H s) (d : Term H × Term H) → disagreement head? t u ≡ some d → Disagrees t u d
    unfolding disagreement sub symbol spelled
    disagrees (var v) (var w) d e = go (ℕ_discrete v w) e
      where
        go : (c : Dec (v ≡ w)) → ite c none (some (var v, var w)) ≡ some d → Disagrees (var v) (var w) d
        go (yes p) e = clash (cc)
        go (no p) e = here (var v) (var w) (λ q. p (cc)) d e
    disagrees (var v) (node k us) d e = here (var v) (node k us) (λ q. clash (cc)) d e
    disagrees (node h ts) (var w) d e = here (node h ts) (var w) (λ q. clash (cc)) d e
    disagrees (node h ts) (node k us) d e = go (disagrees ts us d) (head? h k) (ℕ_discrete (width ts) (width us)) e
      where
        go : (disagreement head? ts us ≡ some d → Disagrees ts us d) → (a : Dec (h ≡ k)) (b : Dec (width ts ≡ width us))
            → ite a (ite b (disagreement head? ts us) (some (node h ts, node k us))) (some (node h ts, node k us)) ≡ some d → Disagrees (node h ts) (node k us) d
        go more (yes p) (yes q) e = let r = more e in record {
          before = function h (width ts) ∷ r.before;
          left = (r.left.0, ap (λ (x : List (Symbol H)). function h (width ts) ∷ x) r.left.1);
          right = (r.right.0, ap₂ (λ (a : Symbol H) (x : List (Symbol H)). a ∷ x) (ap₂ function (sym p) (sym q)) r.right.1);
          apart = r.apart;
          equal = λ θ x. r.equal θ (cc);
          in_left = r.in_left;
          in_right = r.in_right;
        }
        go more (yes p) (no q) e = here (node h ts) (node k us) (λ x. q (cc)) d e
        go more (no p) b e = here (node h ts) (node k us) (λ x. p (cc)) d e
    disagrees nil nil d e = clash (cc)
    disagrees nil (u ▸ us) d e = clash (cc)
    disagrees (t ▸ ts) nil d e = clash (cc)
    disagrees (t ▸ ts) (u ▸ us) d e = go (disagrees t u d) (disagrees ts us d) (or_some (disagreement head? t u) (disagreement head? ts us) d e)
      where
        later : (a m b c : List (Symbol H)) → a ++ (m ++ b) ++ c ≡ a ++ (m ++ (b ++ c))
        later a m b c = simp append_assoc

        go : (disagreement head? t u ≡ some d → Disagrees t u d) → (disagreement head? ts us ≡ some d → Disagrees ts us d)
            → (disagreement head? t u ≡ some d) ⊎ ((disagreement head? t u ≡ none) × (disagreement head? ts us ≡ some d)) → Disagrees (t ▸ ts) (u ▸ us) d
        go f g (inl e) = let r = f e in record {
          before = r.before;
          left = (r.left.0 ++ spelled ts, ap (λ (x : List (Symbol H)). x ++ spelled ts) r.left.1 ∙ later r.before (spelled d.0) r.left.0 (spelled ts));
          right = (r.right.0 ++ spelled us, ap (λ (x : List (Symbol H)). x ++ spelled us) r.right.1 ∙ later r.before (spelled d.1) r.right.0 (spelled us));
          apart = r.apart;
          equal = λ θ x. r.equal θ (cc);
          in_left = λ v i. inl (r.in_left v i);
          in_right = λ v i. inl (r.in_right v i);
        }
        go f g (inr e) =
            let r = g e.1 in
            let p : t ≡ u = agrees t u (level_terms t u) e.0 in
            record {
              before = spelled t ++ r.before;
              left = (r.left.0, ap (λ (x : List (Symbol H)). spelled t ++ x) r.left.1 ∙ sym (append_assoc (spelled t) r.before (spelled d.0 ++ r.left.0)));
              right = (r.right.0, ap₂ (λ (a x : List (Symbol H)). a ++ x) (ap spelled (sym p)) r.right.1 ∙ sym (append_assoc (spelled t) r.before (spelled d.1 ++ r.right.0)));
              apart = r.apart;
              equal = λ θ x. r.equal θ (cc);
              in_left = λ v i. inr (r.in_left v i);
              in_right = λ v i. inr (r.in_right v i);
            }

    -- THE DISAGREEMENT SET IS THE PAPER'S: it stands at the first position at which the strings have different symbols, and without it
    -- the two terms are the same.
    pub first_position : (t u : Term H) (d : Term H × Term H) → disagreement head? t u ≡ some d → Disagrees t u d
    first_position = disagrees

    pub no_position : (t u : Term H) → disagreement head? t u ≡ none → t ≡ u
    no_position t u = agrees t u (level_terms t u)

    -- two terms with different symbols have no unifier, and neither have a variable and another term that holds it
    apart_clash : (θ : ℕ → Term H) (h k : H) (ts us : Forest H) → symbol (node h ts) ≢ symbol (node k us) → ¬ (sub θ (node h ts) ≡ sub θ (node k us))
    unfolding sub symbol
    apart_clash θ h k ts us a e =
        let p : h ≡ k = cc in
        let q : sub θ ts ≡ sub θ us = cc in
        a (ap₂ function p (sym (width_sub θ ts) ∙ ap width q ∙ width_sub θ us))

    occurs : (θ : ℕ → Term H) (v : ℕ) (t : Term H) → symbol (var v) ≢ symbol t → In v t → ¬ (θ v ≡ sub θ t)
    unfolding symbol
    occurs θ v (var w) a i e = a (ap variable i)
    occurs θ v (node h ts) a i e = occurs_clash {n = λ h. h} θ v h ts i (sim_of_eq e)

    module _ (t u : Term H) where
      abbrev both : Forest H
      both = t ▸ u ▸ nil

      -- every unifier θ of {t, u} is σθ
      abbrev General : Subst H → Type 0
      General σ = (θ : ℕ → Term H) → Unifier θ t u → (v : ℕ) → θ v ≡ sub θ (value σ v)

      -- what holds of σk
      record Kept (k : ℕ) (σ : Subst H) : Type 0 where
        proper : Substitution σ
        steps : k + occurring (above both) (inst both σ) ≤ variables t u
        within : (v : ℕ) → In v (inst both σ) → In v both
        general : General σ

      abbrev Right : ℕ → Outcome H → Type 0
      Right k (going σ) = Kept k σ
      Right k (unifier σ) = Substitution σ × Unifier (value σ) t u × General σ
      Right k without = (θ : ℕ → Term H) → ¬ Unifier θ t u

      general_inst : (σ : Subst H) → General σ → (θ : ℕ → Term H) → Unifier θ t u → sub θ (inst t σ) ≡ sub θ (inst u σ)
      general_inst σ g θ e =
          let p : (x : Term H) → sub θ x ≡ sub θ (inst x σ) = λ x. sub_ext x (λ v i. g θ e v) ∙ sym (sub-sub θ (value σ) x) in
          sym (p t) ∙ e ∙ p u

      module _ (k : ℕ) (σ : Subst H) (x : Kept k σ) where
        -- σk{U/V}
        bind_right : (v : ℕ) (r : Term H) → ((θ : ℕ → Term H) → Unifier θ t u → θ v ≡ sub θ r) → In v (inst both σ) → ((w : ℕ) → In w r → In w (inst both σ)) → ¬ In v r
            → Kept (suc k) (compose head? σ ((v, r) ∷ []))
        unfolding sub
        bind_right v r e i j o = record {
          proper = proper_compose σ c x.proper ((λ p. o (rw p refl)), (λ h. h), tt);
          steps = let a = occurring_lt (above both) (inst both (compose head? σ c)) (inst both σ) fewer v (above_in v both (x.within v i)) i gone in let b = x.steps in omega arith;
          within = λ w m. x.within w (fewer w m);
          general = λ θ q w.
              x.general θ q w ∙ sub_ext (value σ w) (λ y m. through θ q y (value_case y))
              ∙ sym (sub-sub θ (value c) (value σ w)) ∙ ap (sub θ) (sym (value_compose σ c x.proper w));
        }
          where
            c : Subst H
            c = (v, r) ∷ []

            from : (w : ℕ) → In w (inst both (compose head? σ c)) → (y : ℕ) × In y (inst both σ) × In w (value c y)
            from w m = in_sub w (value c) (inst both σ) (subst (λ (f : Forest H). In w f) (inst_compose σ c x.proper both) m)

            value_case : (y : ℕ) → ((y ≡ v) × (value c y ≡ r)) ⊎ ((y ≢ v) × (value c y ≡ var y))
            value_case y = go (ℕ_discrete y v)
              where
                go : Dec (y ≡ v) → ((y ≡ v) × (value c y ≡ r)) ⊎ ((y ≢ v) × (value c y ≡ var y))
                go (yes p) = inl (p, ap (value c) p ∙ value_here (v, r) [])
                go (no p) = inr (p, value_none c y (λ h. elim h [ inl q ↦ p q | inr q ↦ q ]))

            fewer : (w : ℕ) → In w (inst both (compose head? σ c)) → In w (inst both σ)
            fewer w m = let y = from w m in go y.0 y.1 y.2 (value_case y.0)
              where
                go : (y : ℕ) → In y (inst both σ) → In w (value c y) → ((y ≡ v) × (value c y ≡ r)) ⊎ ((y ≢ v) × (value c y ≡ var y)) → In w (inst both σ)
                go y a b (inl p) = j w (rw p.1 at b)
                go y a b (inr p) = let q : w ≡ y = rw p.1 at b in subst (λ (x : ℕ). In x (inst both σ)) (sym q) a

            gone : ¬ In v (inst both (compose head? σ c))
            gone m = let y = from v m in go y.0 y.2 (value_case y.0)
              where
                go : (y : ℕ) → In v (value c y) → ((y ≡ v) × (value c y ≡ r)) ⊎ ((y ≢ v) × (value c y ≡ var y)) → ⊥
                go y b (inl p) = o (rw p.1 at b)
                go y b (inr p) = let q : v ≡ y = rw p.1 at b in p.0 (sym q)

            through : (θ : ℕ → Term H) → Unifier θ t u → (y : ℕ) → ((y ≡ v) × (value c y ≡ r)) ⊎ ((y ≢ v) × (value c y ≡ var y)) → θ y ≡ sub θ (value c y)
            through θ q y (inl p) = ap θ p.0 ∙ e θ q ∙ ap (sub θ) (sym p.1)
            through θ q y (inr p) = ap (sub θ) (sym p.1)

        -- step 3, where the earliest is a variable
        replace_right : (v : ℕ) (r : Term H) → ((θ : ℕ → Term H) → Unifier θ t u → θ v ≡ sub θ r) → In v (inst both σ) → ((w : ℕ) → In w r → In w (inst both σ)) → symbol (var v) ≢ symbol r
            → Right (suc k) (replace head? σ (var v, r))
        unfolding replace
        replace_right v r e i j a = go (in? v r)
          where
            go : (d : Dec (In v r)) → Right (suc k) (ite d without (going (compose head? σ ((v, r) ∷ []))))
            go (yes o) = λ θ q. occurs θ v r a o (e θ q)
            go (no o) = bind_right v r e i j o

        step3_right : (d e : Term H) → Disagrees (inst t σ) (inst u σ) (d, e) → Right (suc k) (replace head? σ (ordered d e))
        unfolding ordered replace sub
        step3_right (var v) (var w) y = go (dec_le v w)
          where
            go : (c : Dec (v ≤ w)) → Right (suc k) (replace head? σ (ite {C = Term H × Term H} c (var v, var w) (var w, var v)))
            go (yes l) = replace_right v (var w) (λ θ q. y.equal θ (general_inst σ x.general θ q)) (inl (y.in_left v refl)) (λ z i. inr (inl (y.in_right z i))) y.apart
            go (no l) = replace_right w (var v) (λ θ q. sym (y.equal θ (general_inst σ x.general θ q))) (inr (inl (y.in_right w refl))) (λ z i. inl (y.in_left z i)) (λ p. y.apart (sym p))
        step3_right (var v) (node h ts) y =
            replace_right v (node h ts) (λ θ q. y.equal θ (general_inst σ x.general θ q)) (inl (y.in_left v refl)) (λ z i. inr (inl (y.in_right z i))) y.apart
        step3_right (node h ts) (var w) y =
            replace_right w (node h ts) (λ θ q. sym (y.equal θ (general_inst σ x.general θ q))) (inr (inl (y.in_right w refl))) (λ z i. inl (y.in_left z i)) (λ p. y.apart (sym p))
        step3_right (node h ts) (node k' us) y = λ θ q. apart_clash θ h k' ts us y.apart (y.equal θ (general_inst σ x.general θ q))

        step2_right : Right (suc k) (step2 head? t u σ)
        unfolding step2 step3
        step2_right = go (same? head? (inst t σ) (inst u σ))
          where
            set : (o : Option (Term H × Term H)) → disagreement head? (inst t σ) (inst u σ) ≡ o → ¬ (inst t σ ≡ inst u σ) → Right (suc k) (step3 head? σ o)
            set none e n = absurd (n (no_position (inst t σ) (inst u σ) e))
            set (some d) e n = step3_right d.0 d.1 (disagrees (inst t σ) (inst u σ) d e)

            go : (c : Dec (inst t σ ≡ inst u σ)) → Right (suc k) (ite c (unifier σ) (step3 head? σ (disagreement head? (inst t σ) (inst u σ))))
            go (yes e) = (x.proper, e, x.general)
            go (no n) = set (disagreement head? (inst t σ) (inst u σ)) refl n

      again_right : (k : ℕ) (o : Outcome H) → Right k o → Right (suc k) (again head? t u o)
      unfolding again
      again_right k (going σ) x = step2_right k σ x
      again_right k (unifier σ) x = x
      again_right k without x = x

      fixed : inst both [] ≡ both
      unfolding value
      fixed = sub_fix (value []) both (λ v i. refl)

      rounds_right : (k : ℕ) → Right k (rounds head? t u k)
      unfolding rounds value sub
      rounds_right zero = record { proper = tt; steps = let e = ap (occurring (above both)) fixed in omega arith; within = λ v. subst (λ (f : Forest H). In v f) fixed; general = λ θ q v. refl }
      rounds_right (suc k) = again_right k (rounds head? t u k) (rounds_right k)

      -- THE ALGORITHM ENDS: after one round more than there are variables it stands at no step 2.
      pub ends : (σ : Subst H) → ¬ (unification head? t u ≡ going σ)
      ends σ e =
          let r : Right (suc (variables t u)) (going σ) = subst (λ (o : Outcome H). Right (suc (variables t u)) o) e (rounds_right (suc (variables t u))) in
          let l = r.steps in
          omega arith

      stays : (o : Outcome H) → ((σ : Subst H) → ¬ (o ≡ going σ)) → again head? t u o ≡ o
      unfolding again
      stays (going σ) e = absurd (e σ refl)
      stays (unifier σ) e = refl
      stays without e = refl

      -- and further rounds change nothing
      pub ended : (k : ℕ) → variables t u < k → rounds head? t u k ≡ unification head? t u
      unfolding rounds
      ended k l = le_ind (λ m. rounds head? t u m ≡ unification head? t u) refl (λ m l h. ap (again head? t u) h ∙ stays (unification head? t u) ends) k l

      -- THE UNIFICATION THEOREM. Ended with σ, the algorithm has found a most general unifier, and every unifier θ, also one that changes
      -- infinitely many variables, is σθ; ended without, there is no unifier, not even such a one.
      pub with_unifier : (σ : Subst H) → unification head? t u ≡ unifier σ → MostGeneralUnifier head? σ t u × ((θ : ℕ → Term H) → Unifier θ t u → (v : ℕ) → θ v ≡ sub θ (value σ v))
      with_unifier σ e =
          let r : Right (suc (variables t u)) (unifier σ) = subst (λ (o : Outcome H). Right (suc (variables t u)) o) e (rounds_right (suc (variables t u))) in
          (record { proper = r.0; unifies = r.1; general = λ θ p q. (θ, p, λ v. r.2 (value θ) q v ∙ sym (value_compose σ θ r.0 v)) }, r.2)

      pub without_unifier : unification head? t u ≡ without → (θ : ℕ → Term H) → ¬ Unifier θ t u
      without_unifier e = subst (λ (o : Outcome H). Right (suc (variables t u)) o) e (rounds_right (suc (variables t u)))

      -- one of the two it is
      pub either : ((σ : Subst H) × (unification head? t u ≡ unifier σ)) ⊎ (unification head? t u ≡ without)
      either = go (unification head? t u) refl
        where
          go : (o : Outcome H) → unification head? t u ≡ o → ((σ : Subst H) × (unification head? t u ≡ unifier σ)) ⊎ (unification head? t u ≡ without)
          go (going σ) e = absurd (ends σ e)
          go (unifier σ) e = inl (σ, e)
          go without e = inr e

true_of : (b : Bool) → (b ≡ false → ⊥) → b ≡ true
true_of true e = refl
true_of false e = absurd (e refl)

-- The solver and the algorithm, on plain pairs.
module _ (S : Sig) where
  module _ (h : S.Head) (ps : List (Pair S)) where
    -- the algorithm on the pairs, as two expressions under one head
    abbrev pub decides : Outcome S.Head
    decides = unification S.head? (node h (lefts ps)) (node h (rights ps))

    -- `wrong` is that some pair was answered incompatible, `res` what the variables resolve to.
    pub record Answers (wrong : Bool) (res : ℕ → T S) : Type 0 where
      -- some pair was answered incompatible exactly if the algorithm ends without a unifier
      pub incompatible : (wrong ≡ true) ↔ (decides ≡ without)
      -- if none was, the algorithm ends with some σ, and σ and `res` are instances of each other: res = σλ and σ = res μ
      pub compatible : wrong ≡ false → (σ : Subst S.Head) × (decides ≡ unifier σ)
          × ((l : ℕ → T S) × ((v : ℕ) → res v ≡ sub l (value σ v))) × ((m : ℕ → T S) × ((v : ℕ) → value σ v ≡ sub m (res v)))

  abbrev pub Among : Pair S → List (Pair S) → Type 0
  Among p [] = ⊥
  Among p (q ∷ qs) = (p ≡ q) ⊎ Among p qs

  -- the same pairs, in whatever order and however often
  abbrev pub SamePairs : List (Pair S) → List (Pair S) → Type 0
  SamePairs qs ps = (p : Pair S) → Among p qs ↔ Among p ps

  unifies_one : (θ : ℕ → T S) (ps : List (Pair S)) (p : Pair S) → Unifies S θ ps → Among p ps → sub θ p.0 ≡ sub θ p.1
  unifies_one θ [] p e i = absurd i
  unifies_one θ (q ∷ ps) p e (inl i) = rw i e.0
  unifies_one θ (q ∷ ps) p e (inr i) = unifies_one θ ps p e.1 i

  to_lists : (θ : ℕ → T S) (qs : List (Pair S)) → ((p : Pair S) → Among p qs → sub θ p.0 ≡ sub θ p.1) → sub θ (lefts qs) ≡ sub θ (rights qs)
  unfolding lefts rights sub
  to_lists θ [] e = refl
  to_lists θ (p ∷ ps) e = ap₂ ◌▸◌ (e p (inl refl)) (to_lists θ ps (λ q i. e q (inr i)))

  from_lists : (θ : ℕ → T S) (qs : List (Pair S)) → sub θ (lefts qs) ≡ sub θ (rights qs) → Unifies S θ qs
  unfolding lefts rights sub
  from_lists θ [] e = tt
  from_lists θ (p ∷ ps) e = (cc, from_lists θ ps (cc))

  to_pairs : (θ : ℕ → T S) (ps : List (Pair S)) → ((p : Pair S) → Among p ps → sub θ p.0 ≡ sub θ p.1) → Unifies S θ ps
  to_pairs θ [] e = tt
  to_pairs θ (p ∷ ps) e = (e p (inl refl), to_pairs θ ps (λ q i. e q (inr i)))

  module _ (h : S.Head) (ps qs : List (Pair S)) (same : SamePairs qs ps) where
    to_node : (θ : ℕ → T S) → Unifies S θ ps → Unifier θ (node h (lefts qs)) (node h (rights qs))
    unfolding sub
    to_node θ e = ap (node h) (to_lists θ qs (λ p i. unifies_one θ ps p e ((same p).0 i)))

    from_node : (θ : ℕ → T S) → Unifier θ (node h (lefts qs)) (node h (rights qs)) → Unifies S θ ps
    unfolding sub
    from_node θ e = to_pairs θ ps (λ p i. unifies_one θ qs p (from_lists θ qs (cc)) ((same p).1 i))

    answers : (wrong : Bool) (res : ℕ → T S) → Robinson S wrong res ps → Answers h qs wrong res
    answers wrong res r = go (either S.head? l₀ r₀)
      where
        l₀ : T S
        l₀ = node h (lefts qs)

        r₀ : T S
        r₀ = node h (rights qs)

        go : ((σ : Subst S.Head) × (decides h qs ≡ unifier σ)) ⊎ (decides h qs ≡ without) → Answers h qs wrong res
        go (inl f) =
            let g = with_unifier S.head? l₀ r₀ f.0 f.1 in
            let u = from_node (value f.0) g.0.unifies in
            record {
              incompatible = (λ w. absurd (r.none_left w (value f.0) u), λ e. clash (cc (f.1, e)));
              compatible = λ w. (f.0, f.1, (res, g.1 res (to_node res (r.most_general w).unifies)), (r.most_general w).general (value f.0) u);
            }
        go (inr e) =
            let never : wrong ≡ false → ⊥ = λ w. without_unifier S.head? l₀ r₀ e res (to_node res (r.most_general w).unifies) in
            record {
              incompatible = (λ w. e, λ e. true_of wrong never);
              compatible = λ w. absurd (never w);
            }

  -- THE SOLVER ANSWERS AS THE ALGORITHM DOES: of the pairs that were posed, in whatever order they are taken, under whatever head; where no pair
  -- was cancelled, no pair has a recovery term or a projection (`Premises`), none an access mark (`NormalPairs`), and no variable is a number.
  module _ (n : S.Head → S.Head) (respects : (f : S.Fam) (h k : S.Head) → n h ≡ n k → S.admits f h ≡ S.admits f k) where
    abbrev pub AsRobinson : {X : Type 0} → Run S X → (ℕ → T S) → Type 0
    AsRobinson x res = NormalPairs S n x.posed → Premises S n respects x → NoNumbers S x
        → (h : S.Head) (qs : List (Pair S)) → SamePairs qs x.posed → Answers h qs x.wrong res

    -- over substitutions
    pub algorithm_orders : (os : List (Order S)) → AsRobinson (end S n respects os) (end S n respects os).state.res
    algorithm_orders os q p e h qs same =
        let x = end S n respects os in
        answers h x.posed qs same x.wrong x.state.res (robinson_loose S n respects os q p e)

    -- over a table
    pub algorithm_table : (os : List (Order S)) → AsRobinson (table_end S n respects os) (λ v. answer S (table_end S n respects os).state (var v))
    algorithm_table os =
        let a = table_means S n respects os in
        let b : AsRobinson (over S n respects (table_end S n respects os) a.0) a.0.res = subst (λ (x : Run S (State S)). AsRobinson x x.state.res) a.1 (algorithm_orders os) in
        subst (λ (ρ : ℕ → T S). AsRobinson (table_end S n respects os) ρ) a.2 b

    -- in a session of orders 0 to 8
    pub algorithm_sheet : (default : S.Fam → Option S.Fam → S.Head) (never : S.Head) (cs : List (Command S)) → AllAllowed S default never n (fresh S (session_begin S default never)) cs
        → AsRobinson (sheet S default never n cs) (λ v. answer S (sheet S default never n cs).state.table (var v))
    algorithm_sheet default never cs a =
        let e = sheet_means S default never n respects cs a in
        subst (λ (y : Run S (Table S)). AsRobinson y (λ v. answer S y.state (var v))) (sym e.1) (algorithm_table e.0)

  -- by the strict notion of equal shape nothing is asked of access
  all_normal : {k : Sort} (t : Tree S.Head k) → Normal S (λ h. h) t
  all_normal (var v) = tt
  all_normal (node h ts) = (refl, all_normal ts)
  all_normal nil = tt
  all_normal (t ▸ ts) = (all_normal t, all_normal ts)

  pub strict_normal : (ps : List (Pair S)) → NormalPairs S (λ h. h) ps
  strict_normal [] = tt
  strict_normal (p ∷ ps) = (all_normal p.0, all_normal p.1, strict_normal ps)
