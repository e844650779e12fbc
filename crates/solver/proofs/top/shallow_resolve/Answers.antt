-- `shallow_resolve`. By the token and the word of the variable's end.
use mathlib.Core.Path.{sym, subst}
use Prim.Native.Nat.{ℕ, ◌+◌, ◌-◌}
use native.Mathlib.Omega.{arith}
use lib.ListN.{get_or, get_or-eq_default}
use Rattle.unify.specs.Term.{clash}
use Rattle.terms.specs.Term.{Held}
use Rattle.terms.proofs.Laws.Held.HeldLaws.{items_some}
use Rattle.solver.specs.Constrain.{follow}
use Rattle.solver.proofs.Laws.Resolving.TopLaws.{stands_alone, end_free, end_bound}
use Rattle.solver.proofs.Laws.Resolving.DefaultWordLaws.{default_low, word_default, word_below}
use Rattle.solver.proofs.top.shallow_resolve.Goals.{then-next-eq0-via-then-next-eq0, then-next-eq0-via-else-next-eq0+then-tokens-next}
use Rattle.solver.proofs.top.shallow_resolve.Goals as goal

pub returns-then-tokens-p-ne1-clause-term : goal.returns-then-tokens-p-ne1-clause-term
returns-then-tokens-p-ne1-clause-term c = λ t b n ht hb. rw (stands_alone _ _ c.args.p n b t ht c.if-tokens-p-ne1.true) ht

pub returns-then-ends-v-clause-term : goal.returns-then-ends-v-clause-term
returns-then-ends-v-clause-term c =
    λ t b n ht hb. rw (end_free b n c.args.p hb c.if-tokens-p-ne1.false t ht (get_or-eq_default c.args.ends.now 0 c.if-ends-v.true)) ht

pub returns-in-Some-clause-term : goal.returns-in-Some-clause-term
returns-in-Some-clause-term c =
    let e = sym c.in-Some.ensures in
    λ t b n ht hb.
    word_default
    (end_bound b n c.args.p hb c.if-tokens-p-ne1.false t ht (λ z. let d = default_low (get_or c.args.ends.now (get_or c.args.tokens.now.vals.now c.args.p 0) 0) (omega (arith, z)) in clash (cc (d, e))))
    hb.short c.in-Some.b.code e

pub returns-then-next-eq0-clause-term : goal.returns-then-next-eq0-clause-term
returns-then-next-eq0-clause-term c =
    λ t b n ht hb.
    rw (end_free b n c.args.p hb c.if-tokens-p-ne1.false t ht (elim c.then-next-eq0.branch [
      | then-next-eq0-via-then-next-eq0 w ↦ w.if-next-eq0.true
      | then-next-eq0-via-else-next-eq0+then-tokens-next w ↦
          let g = word_below (end_bound b n c.args.p hb c.if-tokens-p-ne1.false t ht w.if-next-eq0.false) (sym c.in_default.ensures) in
          absurd (omega (arith, g.1, g.2.within, items_some (follow n b t), w.if-tokens-next.true))
    ])) ht

pub returns-clause-term : goal.returns-clause-term
returns-clause-term c =
    λ t b n ht hb.
    let g = word_below (end_bound b n c.args.p hb c.if-tokens-p-ne1.false t ht c.if-next-eq0.false) (sym c.in_default.ensures) in
    subst (λ (p : ℕ). Held c.args.tokens.now.kinds.now c.args.tokens.now.vals.now p (follow n b t)) (omega (arith, g.1)) g.2
