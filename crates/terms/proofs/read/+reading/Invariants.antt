-- The levels left fall from a term to its parts; at one number of levels the order of the measures is that of the calls. In the loops: the terms read so far
-- are stored, and the rest is what the others give.
use Rattle.std.proofs.Common.{◌+◌, ◌*◌, ◌-◌}
use Rattle.terms.specs.Words.Tokens.{area}
use Rattle.terms.specs.Reading.{term, many, pairs}
use Rattle.terms.proofs.Laws.Format.ReadLaws.{SoFar}
use Rattle.terms.proofs.read.+reading.Given as goal

abbrev pub decreases-read_nominal : goal.decreases-read_nominal
decreases-read_nominal l = 8 * l.levels + 4

abbrev pub decreases-read_pairs : goal.decreases-read_pairs
decreases-read_pairs l = 8 * l.levels + 1

abbrev pub decreases-read_plain : goal.decreases-read_plain
decreases-read_plain l = 8 * l.levels + 5

abbrev pub decreases-read_projection : goal.decreases-read_projection
decreases-read_projection l = 8 * l.levels + 6

abbrev pub decreases-read_row : goal.decreases-read_row
decreases-read_row l = 8 * l.levels + 7

abbrev pub decreases-read_term : goal.decreases-read_term
decreases-read_term l = 8 * l.levels

abbrev pub decreases-read_terms : goal.decreases-read_terms
decreases-read_terms l = 8 * l.levels + 1

abbrev pub invariant-read_terms-loop : goal.invariant-read_terms-loop
invariant-read_terms-loop l =
    SoFar l.s (many l.s (term l.s l.issued l.levels) l.count l.initial.place.at) (many l.s (term l.s l.issued l.levels) (l.count - l.counter) l.place.at) l.initial.place
    (area l.initial.kinds l.initial.vals) (area l.kinds l.vals) l.place

abbrev pub invariant-read_pairs-loop : goal.invariant-read_pairs-loop
invariant-read_pairs-loop l =
    SoFar l.s (pairs l.s (term l.s l.issued l.levels) l.count 0 l.initial.place.at) (pairs l.s (term l.s l.issued l.levels) (l.count - l.counter) l.least l.place.at) l.initial.place
    (area l.initial.kinds l.initial.vals) (area l.kinds l.vals) l.place
