-- `all_are`. The loop's invariant: `same` says whether the values before `i` are all `x`.
use Rattle.std.specs.Prelude.{◌≡◌, take}
use Rattle.std.specs.List.{list_all}
use Rattle.frames.proofs.values.all_are.Given as goal

abbrev pub invariant-loop-i : goal.invariant-loop-i
invariant-loop-i g l = l.same ≡ list_all (λ y. g.T.PartialEq.eq y l.x) (take l.i l.values)
