use mathlib.Core.Path.{◌≡◌, refl, ◌∙◌}
use native.Mathlib.Omega.{arith}
use Rattle.std.proofs.Common.{rules}
use Rattle.solver.specs.Terms.Tokens.{area}
use Rattle.solver.proofs.Terms.Shortest.{octets}
use Rattle.sheet.specs.Words.FieldLayout.{no_fields}
use Rattle.sheet.proofs.Laws.Reading.FieldLoopLaws.{through_start, plain_here, through_more, through_stop, through_all, through_undo}
use Rattle.sheet.proofs.layout.read_layout.Goals as goal

pub loop-i-init : goal.loop-i-init
loop-i-init g c =
    let a = c.args in
    let o : c.default-o.result ≡ no_fields = search rules in
    record { through = through_start _ _ _ _ a.place.now (area a.kinds.now a.vals.now) c.requires.layout c.requires.free c.requires.ample o; same = λ h. refl }

pub returns-in-Err-clause-done : goal.returns-in-Err-clause-done
returns-in-Err-clause-done g c =
    let l = c.loop-i in
    let oct = octets c.args.s.now (λ i. omega (arith, c.type_inv.s i)) in
    let e = area c.read.new.kinds c.read.new.vals in
    let y = rw c.in-Err.is at c.read.ensures.done in
    (through_stop oct c.read.new.rules _ c.args.sorts.now l.invariant.through c.loop-i-test.true _ e y, through_undo _ c.args.sorts.now l.invariant.through e _ _ c.requires.free y.1 refl c.clear_tokens.ensures)

pub returns-in-Err-clause-same : goal.returns-in-Err-clause-same
returns-in-Err-clause-same g c = λ h.
    c.read.ensures.same (plain_here (octets c.args.s.now (λ i. omega (arith, c.type_inv.s i))) c.read.new.rules _ c.args.sorts.now c.loop-i.invariant.through c.loop-i-test.true h) ∙ c.loop-i.invariant.same h

pub loop-i-preserved : goal.loop-i-preserved
loop-i-preserved g c =
    let l = c.loop-i in
    let m = c.read in
    let oct = octets c.args.s.now (λ i. omega (arith, c.type_inv.s i)) in
    rw c.put_spot-o.ensures record {
      through = through_more oct m.new.rules _ c.args.sorts.now l.invariant.through c.loop-i-test.true m.ensures.same _ _ (area m.new.kinds m.new.vals) (rw c.in-Ok.is at m.ensures.done);
      same = λ h. m.ensures.same (plain_here oct m.new.rules _ c.args.sorts.now l.invariant.through c.loop-i-test.true h) ∙ l.invariant.same h;
    }

pub returns-clause-done : goal.returns-clause-done
returns-clause-done g c = through_all _ c.args.sorts.now c.loop-i.invariant.through c.loop-i-test.false
