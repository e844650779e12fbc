use mathlib.Core.Path.{refl, sym, ◌∙◌}
use Prim.Native.Nat.{ℕ, ◌+◌, ◌-◌, ◌<◌}
use native.Mathlib.Decide.{dec_lt}
use borrow.Author.Tests.{lt-ltb, le-ltb}
use lib.Dec.{ltb}
use Rattle.std.specs.Bool.{then_some}
use Rattle.std.specs.Prelude.{IfSome, drop}
use native.Mathlib.Omega.{arith}
use Rattle.terms.proofs.Laws.Normalising.FixedLaws.{nodes_few, nodes_tell, lent_span}
use Rattle.terms.proofs.Laws.Normalising.NormalLaws.{kinds_tell}
use Rattle.terms.proofs.walking.fixed_nodes.Goals as goal

some_if : (n : ℕ) (P : ℕ → Type 0) → Dec (0 < n) → (0 < n → P n) → IfSome (then_some (ltb 0 n) n) P
some_if n P (yes h) f = rw (lt-ltb 0 n h) (f h)
some_if n P (no h) f = rw (le-ltb 0 n (omega arith)) tt

pub returns : goal.returns
returns c =
    let a = c.args in
    let x = c.token.ensures in
    let n = c.node_count-n.result in
    let m = nodes_few (a.x.head + c.step-span.result - a.x.head) (drop a.x.head a.tokens.now.kinds.now) in
    rw c.then_some.ensures (record {
      few = some_if n _ (dec_lt 0 n) (λ some. (some, omega (arith, c.if-most-n.false), omega (arith, m, c.node_count-n.ensures, c.if-span-gt-TRIED.false)));
      fixed = some_if n _ (dec_lt 0 n) (λ some. record {
        source = c.if-x-ne0.false;
        lent = lent_span a.tokens.now.kinds.now a.tokens.now.vals.now _ _ _ refl x.kind x.value c.step-span.ensures.span
            (omega (arith, c.if-tokens-end.false));
        is = λ t h. (
          sym (kinds_tell _ _ _ _ _ refl x.kind x.value c.step-span.ensures.span _ refl _ c.any_projection.ensures (omega (arith, c.if-tokens-end.false)) t h) ∙ c.if-any_projection.false,
          nodes_tell _ _ _ _ _ refl x.kind x.value c.step-span.ensures.span _ refl _ c.node_count-n.ensures (omega (arith, c.if-tokens-end.false)) t h,
        );
      });
    })
