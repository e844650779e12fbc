-- `union_classes`. The higher root is linked below the lower one, unless they are one.
use native.Mathlib.Omega.{arith}
use mathlib.Core.Path.{refl}
use Rattle.solver.proofs.Laws.Equality.EqualLaws.{united_one, Links, links}
use Rattle.solver.proofs.equality.union_classes.Goals.{Then-x-y, Then-y-x}
use Rattle.solver.proofs.equality.union_classes.Goals as goal

upper : (c : Then-x-y) → Links c.requires.wired c.requires.places.2 c.requires.places.3 c.find-x.ensures.2 c.find-y.ensures.2 c.find-x.result c.find-y.result
upper c =
    let f = c.find-x.ensures in
    let g = c.find-y.ensures in
    links c.requires.wired c.requires.places.2 c.requires.places.3 f.2 g.2 f.0 f.1 g.0 g.1 _ _
    (λ h. (refl, refl)) (λ h. absurd (omega (arith, h, c.if-x-y.true))) c.if-x-y.true

lower : (c : Then-y-x) → Links c.requires.wired c.requires.places.2 c.requires.places.3 c.find-x.ensures.2 c.find-y.ensures.2 c.find-y.result c.find-x.result
lower c =
    let f = c.find-x.ensures in
    let g = c.find-y.ensures in
    links c.requires.wired c.requires.places.2 c.requires.places.3 f.2 g.2 f.0 f.1 g.0 g.1 _ _
    (λ h. absurd (omega (arith, h, c.if-y-x.true))) (λ h. (refl, refl)) c.if-y-x.true

pub link-requires-clause-room : goal.link-requires-clause-room
link-requires-clause-room c =
    let k = upper (goal.at.link-requires-clause-room c).Then-x-y in
    (omega (arith, k.inside, c.requires.wired.size), k.room)

pub link-requires-clause-root : goal.link-requires-clause-root
link-requires-clause-root c =
    let k = upper (goal.at.link-requires-clause-root c).Then-x-y in
    (k.free, c.if-x-y.true, omega (arith, k.inside, c.requires.wired.small))

pub link-requires-then-y-x-clause-room : goal.link-requires-then-y-x-clause-room
link-requires-then-y-x-clause-room c =
    let k = lower (goal.at.link-requires-then-y-x-clause-room c).Then-y-x in
    (omega (arith, k.inside, c.requires.wired.size), k.room)

pub link-requires-then-y-x-clause-root : goal.link-requires-then-y-x-clause-root
link-requires-then-y-x-clause-root c =
    let k = lower (goal.at.link-requires-then-y-x-clause-root c).Then-y-x in
    (k.free, c.if-y-x.true, omega (arith, k.inside, c.requires.wired.small))

pub returns-then-x-y : goal.returns-then-x-y
returns-then-x-y c =
    let k = upper (goal.at.returns-then-x-y c).Then-x-y in
    let h = c.link.ensures in
    rw (h.0, h.1, h.2) (record { advanced = k.advanced; terms = k.terms })

pub returns-then-y-x : goal.returns-then-y-x
returns-then-y-x c =
    let k = lower (goal.at.returns-then-y-x c).Then-y-x in
    let h = c.link-then-y-x.ensures in
    rw (h.0, h.1, h.2) (record { advanced = k.advanced; terms = k.terms })

pub returns-else-y-x-clause-terms : goal.returns-else-y-x-clause-terms
returns-else-y-x-clause-terms c =
    let f = c.find-x.ensures in
    let g = c.find-y.ensures in
    united_one c.requires.wired c.requires.places.2 c.requires.places.3 f.2 g.2 (omega (arith, c.if-x-y.false, c.if-y-x.false))
