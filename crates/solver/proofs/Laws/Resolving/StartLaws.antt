-- Where resolving a variable begins: at the term of its word, or at a builtin or a variable that stands for itself.
use mathlib.Core.Path.{◌≡◌, refl, sym, ap, subst, ◌∙◌}
use mathlib.Core.List.{List}
use mathlib.Core.Option.{Option, none, some}
use Rattle.std.proofs.Math.Option.{some-ne-none}
use Prim.Native.Nat.{ℕ, zero, suc, ◌+◌, ◌<◌}
use native.Mathlib.Omega.{arith}
use lib.ListN.{length, get_or}
use lib.Seq.{get_or-take}
use Rattle.terms.specs.Term.{Term, var, bytes, Held}
use Rattle.terms.proofs.Laws.Held.HeldLaws.{items_some}
use Rattle.solver.specs.declared.Builtin.{Builtin}
use Rattle.solver.specs.declared.Solver.{Solver}
use Rattle.solver.specs.declared.Start.{Start}
use Rattle.solver.specs.declared.Start.TheVariants.{Begins, Default, Free}
use Rattle.solver.specs.declared.Subject.{Subject}
use Rattle.solver.specs.declared.Subject.TheVariants.{Id}
use Rattle.solver.specs.Constrain as solving
use Rattle.solver.specs.Constrain.{resolve, resolved}
use Rattle.solver.specs.Session.{Session}
use Rattle.solver.specs.Words.Bindings.{builtin, HeldBinding, placed, coded}
use Rattle.solver.specs.Words.ResolveWalk.{default_of}
use Rattle.solver.specs.Words.SessionRepresentation.{Represents}
use Rattle.solver.specs.Words.OrderTerms.{Asked, Starts, resolved_to}
use Rattle.solver.proofs.Laws.Resolving.DefaultWordLaws.{default_low, word_default, word_below}
use Rattle.solver.proofs.Laws.Resolving.ResolvedLaws.{builtin_length, resolve_builtin}

-- ---- what a variable resolves to

resolved_none : (n : ℕ) (b : ℕ → Option Term) (v : ℕ) → n ≡ 0 → resolve n b (var v) ≡ var v
unfolding resolve
resolved_none zero b v e = refl
resolved_none (suc n) b v e = absurd (omega arith)

resolved_free : (n : ℕ) (b : ℕ → Option Term) (v : ℕ) → b v ≡ none → resolve n b (var v) ≡ var v
unfolding resolve solving.replace solving.followed
resolved_free zero b v e = refl
resolved_free (suc n) b v e = rw e refl

resolved_bound : (n m : ℕ) (b : ℕ → Option Term) (v : ℕ) (t : Term) → n ≡ m + 1 → b v ≡ some t → resolve n b (var v) ≡ resolve m b t
unfolding resolve solving.replace solving.followed
resolved_bound zero m b v t h e = absurd (omega arith)
resolved_bound (suc n) m b v t h e =
    let p : n ≡ m = omega arith in
    rw e (ap (λ (k : ℕ). resolve k b t) p)

-- ---- by the variable's word

module _ (x : Solver) (ks vs ts : List ℕ) (z : Session) (L : Represents x ks vs ts z) (v : ℕ) (below : v < x.variables) where
  word_of : HeldBinding ks vs (z.solver.bindings v) (get_or ts v 0)
  word_of = subst (λ (w : ℕ). HeldBinding ks vs (z.solver.bindings v) w) (get_or-take x.variables ts v 0 below) (L.bindings.words v)

  -- with m bindings left to follow
  bound_to : (m : ℕ) (t : Term) → x.revision ≡ m + 1 → z.solver.bindings v ≡ some t → resolved z.solver (var v) ≡ resolve m z.solver.bindings t
  bound_to m t f q = ap (λ (n : ℕ). resolve n z.solver.bindings (var v)) (sym L.revision) ∙ resolved_bound x.revision m z.solver.bindings v t f q

  -- the variable is not bound
  starts_free : get_or ts v 0 ≡ 0 → Starts x ks vs z (var v) (Free v)
  starts_free e = resolved_free z.solver.revision z.solver.bindings v (go (z.solver.bindings v) word_of)
    where
      go : (o : Option Term) → HeldBinding ks vs o (get_or ts v 0) → o ≡ none
      go none h = refl
      go (some t) (placed p i h) = absurd (omega arith)
      go (some t) (coded c l i f) = absurd (omega arith)

  -- it is bound to a builtin
  starts_default : (b : Builtin) (m : ℕ) → default_of (get_or ts v 0) ≡ some b.code → x.revision ≡ m + 1 → Starts x ks vs z (var v) (Default b)
  starts_default b m d f = go (z.solver.bindings v) refl word_of
    where
      go : (o : Option Term) → z.solver.bindings v ≡ o → HeldBinding ks vs o (get_or ts v 0) → Starts x ks vs z (var v) (Default b)
      go none q h = absurd (some-ne-none b.code (sym d ∙ default_low (get_or ts v 0) (omega arith)))
      go (some t) q h =
          let c = word_default h L.bindings.short b.code d in
          (c.0, bound_to m t f q ∙ ap (resolve m z.solver.bindings) c.1 ∙ resolve_builtin m z.solver.bindings b.code)

  -- it is bound to the term that its word names
  starts_bound : (p m : ℕ) → get_or ts v 0 ≡ p + 1 → default_of (get_or ts v 0) ≡ none → x.revision ≡ m + 1 → Starts x ks vs z (var v) (Begins p m)
  starts_bound p m e d f = go (z.solver.bindings v) refl word_of
    where
      go : (o : Option Term) → z.solver.bindings v ≡ o → HeldBinding ks vs o (get_or ts v 0) → Starts x ks vs z (var v) (Begins p m)
      go none q h = absurd (omega arith)
      go (some t) q h =
          let x = word_below h d in
          let a : x.0 ≡ p = omega (arith, x.1) in
          (t, subst (λ (i : ℕ). Held ks vs i t) a x.2, bound_to m t f q, omega arith, omega (arith, x.1, x.2.within, items_some t, L.bindings.short))

-- ---- by what is asked for

module _ (x : Solver) (ts : List ℕ) (what : Subject) (v : ℕ) (e : what ≡ Id v) (ks vs : List ℕ) (z : Session) (t : Term) (a : Asked x ks vs ts what z t) where
  known : Represents x ks vs ts z × (t ≡ var v) × (v < x.variables)
  known = subst (λ (w : Subject). Asked x ks vs ts w z t) e a

  -- nothing is bound
  pub start_none : x.revision ≡ 0 → Starts x ks vs z t (Free v)
  start_none f = ap (resolved z.solver) known.1 ∙ resolved_none z.solver.revision z.solver.bindings v (sym known.0.revision ∙ f)

  pub start_free : get_or ts v 0 ≡ 0 → Starts x ks vs z t (Free v)
  start_free w = ap (resolved z.solver) known.1 ∙ starts_free x ks vs ts z known.0 v known.2 w

  pub start_default : (b : Builtin) (m : ℕ) → default_of (get_or ts v 0) ≡ some b.code → x.revision ≡ m + 1 → Starts x ks vs z t (Default b)
  start_default b m d f =
      let s = starts_default x ks vs ts z known.0 v known.2 b m d f in
      (s.0, ap (resolved z.solver) known.1 ∙ s.1)

  pub start_bound : (p m : ℕ) → get_or ts v 0 ≡ p + 1 → default_of (get_or ts v 0) ≡ none → x.revision ≡ m + 1 → Starts x ks vs z t (Begins p m)
  start_bound p m w d f =
      let s = starts_bound x ks vs ts z known.0 v known.2 p m w d f in
      (s.0, s.1, ap (resolved z.solver) known.1 ∙ s.2, s.3, s.4)

-- ---- what a default writes

module _ (x : Solver) (ks vs : List ℕ) (z : Session) (t : Term) {begun : Start} (s : Starts x ks vs z t begun) where
  pub default_bytes : {b : Builtin} → begun ≡ Default b → bytes (builtin b.code) ≡ resolved_to z t
  default_bytes {b} e = let d = subst (λ (i : Start). Starts x ks vs z t i) e s in ap bytes (sym d.1)

  pub default_long : {b : Builtin} → begun ≡ Default b → length (resolved_to z t) ≡ 2
  default_long {b} e = ap length (sym (default_bytes e)) ∙ builtin_length b.code (omega (arith, b.listed))
