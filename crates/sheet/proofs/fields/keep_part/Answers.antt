-- `keep_part`: by the sort.
use Rattle.std.proofs.Common.{inl, inr}
use Rattle.solver.specs.Terms.Tokens.{area}
use Rattle.sheet.proofs.Laws.Reading.PartLaws.{either_part, list_part, room_after}
use Rattle.sheet.proofs.fields.keep_part.Goals as goal
use Rattle.sheet.proofs.fields.keep_part.Goals.{in-Term, in-Nominal}

pub returns : goal.returns
returns c =
    λ ws.
    let a = c.args in
    let r = c.part_at in
    either_part a.s.now ws a.issued a.place.now (area a.kinds.now a.vals.now) (area r.new.kinds r.new.vals) c.requires.free a.count
    _ (room_after a.s.now r.result r.new.place r.ensures.room) a.sort c.match-sort.wanted
    (elim c.match-sort.branch [ in-Term w ↦ inl (w.in-Term.is, w.wanted-is) | in-Nominal w ↦ inr (w.in-Nominal.is, w.wanted-is) ])
    r.ensures.answer r.ensures.areas

pub returns-in_default : goal.returns-in_default
returns-in_default c =
    λ ws.
    let a = c.args in
    let r = c.keep_list in
    list_part a.s.now ws a.issued a.place.now (area a.kinds.now a.vals.now) (area r.new.kinds r.new.vals) c.requires.free a.count
    _ (room_after a.s.now r.result r.new.place r.ensures.room) a.sort c.in_default.not-Term c.in_default.not-Nominal (rw c.listing_of-listing.ensures at r.ensures.list)
