-- `clear_run`: the part that is filled, or none.
use native.Mathlib.Omega.{arith}
use mathlib.Core.Path.{ap, ◌∙◌}
use mathlib.Core.List.{List}
use Prim.Native.Nat.{ℕ, ◌-◌}
use borrow.Rule.Slice.PartMut.{put_mid, mid_len}
use lib.ListN.{replicate}
use Rattle.terms.proofs.Laws.Format.StoreLaws.{cleared_part, cleared_none}
use Rattle.terms.proofs.store.clear_run.Goals as goal

pub returns-then-from-stop : goal.returns-then-from-stop
returns-then-from-stop c =
    let l = c.args.words.now in
    let a = c.args.from in
    let e = c.min-stop.result in
    let f = c.fill.ensures.after (λ y h. h) ∙ ap (λ (n : ℕ). replicate n 0) (mid_len a e l (omega (arith, c.min-stop.ensures))) in
    ap (λ (z : List ℕ). put_mid a (e - a) l z) f ∙ cleared_part l a c.args.end e c.min-stop.ensures c.if-from-stop.true

pub returns-else-from-stop : goal.returns-else-from-stop
returns-else-from-stop c = cleared_none _ _ _ _ c.min-stop.ensures c.if-from-stop.false
