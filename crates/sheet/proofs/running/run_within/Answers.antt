-- `run_within`: the run in the front of the areas, and the rest of them cleared.
use Rattle.sheet.proofs.Laws.Run.EntryLaws.{area_cleared, ended_leaving}
use Rattle.sheet.proofs.running.run_within.Goals as goal

pub returns : goal.returns
returns c =
    let x = c.args in
    let p = c.requires in
    let r = c.run_in-r in
    let z = c.run_in-r.ensures.clear in
    ended_leaving _ _ _ _ _ _ _ _ _ _ _ x.a.now x.b.now x.c.now x.d.now r.ensures.run
    (area_cleared x.words x.a.now c.run_in-r.new.a c.fill.new.self p.areas.1 c.run_in-r.auto.a z.0 (c.fill.ensures.after (λ y h. h)))
    (area_cleared x.words x.b.now c.run_in-r.new.b c.fill-2.new.self p.areas.2 c.run_in-r.auto.b z.1 (c.fill-2.ensures.after (λ y h. h)))
    (area_cleared x.words x.c.now c.run_in-r.new.c c.fill-3.new.self p.areas.3 c.run_in-r.auto.c z.2 (c.fill-3.ensures.after (λ y h. h)))
    (area_cleared x.words x.d.now c.run_in-r.new.d c.fill-4.new.self p.areas.4 c.run_in-r.auto.d z.3 (c.fill-4.ensures.after (λ y h. h)))
