-- `locate`. By its tests.
use mathlib.Core.Path.{◌≡◌, ap}
use Prim.Native.Nat.{ℕ, ◌+◌, ◌-◌, ◌/◌, ◌%◌}
use Rattle.terms.specs.Words.VirtualTokens.{width}
use native.Mathlib.Omega.{arith}
use Rattle.terms.proofs.Laws.Normalising.VirtualTokenLaws.{located_lent, located_error, located_none, located_past, located_head, located_copied}
use Rattle.terms.proofs.virtual_tokens.locate.Goals as goal
use Rattle.terms.proofs.virtual_tokens.locate.Goals.{After-width-size}

rest : (c : After-width-size) → (c.args.q - (c.args.len + 1)) % c.width-size.result ≡ (c.args.q - (c.args.len + 1)) % width c.in-Some.g
rest c = ap (λ (n : ℕ). (c.args.q - (c.args.len + 1)) % n) c.width-size.ensures.width

turn : (c : After-width-size) → (c.args.q - (c.args.len + 1)) / c.width-size.result ≡ (c.args.q - (c.args.len + 1)) / width c.in-Some.g
turn c = ap (λ (n : ℕ). (c.args.q - (c.args.len + 1)) / n) c.width-size.ensures.width

pub returns-then-q-len : goal.returns-then-q-len
returns-then-q-len c = located_lent _ _ _ c.if-q-len.true

pub returns-then-q-len-2 : goal.returns-then-q-len-2
returns-then-q-len-2 c = located_error _ _ _ c.if-q-len-2.true

pub returns-in_default : goal.returns-in_default
returns-in_default c = rw c.in_default.is (located_none _ _ (omega (arith, c.if-q-len.false, c.if-q-len-2.false)))

pub returns-then-len-t : goal.returns-then-len-t
returns-then-len-t c =
    rw c.in-Some.is (located_past _ _ _ (omega (arith, c.if-q-len.false, c.if-q-len-2.false)) _ _ (rest (goal.at.returns-then-len-t c).After-width-size) (turn (goal.at.returns-then-len-t c).After-width-size) c.if-len-t.true)

pub returns-then-r-eq0 : goal.returns-then-r-eq0
returns-then-r-eq0 c =
    rw c.in-Some.is (located_head _ _ _ (omega (arith, c.if-q-len.false, c.if-q-len-2.false)) _ _ (rest (goal.at.returns-then-r-eq0 c).After-width-size) (turn (goal.at.returns-then-r-eq0 c).After-width-size) c.if-len-t.false c.if-r-eq0.true _ c.width-size.ensures.width)

pub returns : goal.returns
returns c =
    rw c.in-Some.is (located_copied _ _ _ (omega (arith, c.if-q-len.false, c.if-q-len-2.false)) _ _ (rest (goal.at.returns c).After-width-size) (turn (goal.at.returns c).After-width-size) c.if-len-t.false c.if-r-eq0.false _
    c.copied.ensures _ c.map_or.ensures)
