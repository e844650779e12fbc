-- Bindings held: none at the start, and one more after a binding.
use mathlib.Core.Path.{◌≡◌, sym, ap, ◌∙◌, subst}
use mathlib.Core.List.{List}
use mathlib.Core.Option.{Option, some}
use Prim.Native.Nat.{ℕ, ◌<◌}
use native.Mathlib.Decide.{ℕ_discrete}
use lib.ListN.{length, get_or, set}
use lib.Seq.{get_or-set_same, get_or-set_other}
use Rattle.terms.specs.Term.{Term}
use Rattle.unify.specs.Solver.{put, put_same, put_other}
use Rattle.solver.specs.Words.Bindings.{HeldWord, HeldBinding, HeldBindings}

-- v bound to the term that a word holds
pub bind_held : (ks vs bs : List ℕ) (b : ℕ → Option Term) (v word : ℕ) (t : Term) → HeldBindings ks vs bs b → v < length bs → HeldWord ks vs t word
    → HeldBindings ks vs (set bs v word) (put b v (some t))
bind_held ks vs bs b v word t g l h = record { short = g.short; words = λ w. go w (ℕ_discrete w v) }
  where
    go : (w : ℕ) → Dec (w ≡ v) → HeldBinding ks vs (put b v (some t) w) (get_or (set bs v word) w 0)
    go w (yes e) =
        subst (λ (x : Option Term). HeldBinding ks vs x (get_or (set bs v word) w 0)) (sym (ap (put b v (some t)) e ∙ put_same b v (some t)))
        (subst (λ (i : ℕ). HeldWord ks vs t i) (sym (ap (λ (i : ℕ). get_or (set bs v word) i 0) e ∙ get_or-set_same bs v word 0 l)) h)
    go w (no e) =
        subst (λ (x : Option Term). HeldBinding ks vs x (get_or (set bs v word) w 0)) (sym (put_other b v (some t) w e))
        (subst (λ (x : ℕ). HeldBinding ks vs (b w) x) (sym (get_or-set_other bs v w word 0 e)) (g.words w))
