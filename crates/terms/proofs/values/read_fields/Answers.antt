-- A code and two numbers, each where it is wanted: where the ways join, what was read is stored.
use Rattle.terms.specs.Words.Tokens.{area}
use Rattle.terms.specs.Shape.{ceiling, definition, ordinary}
use Rattle.terms.specs.Parser.{got}
use Rattle.terms.specs.Term.{end}
use Rattle.terms.specs.Words.ReadContract.{seq}
use Rattle.terms.specs.Words.RowPieces.{numbered, fields}
use Rattle.terms.proofs.Laws.General.Options.{handed_on}
use Rattle.terms.proofs.Laws.Format.ReadLaws.{SoFar, so_far_end, fields_start, code_none, code_read, code_refused, numbered_none, numbered_read, numbered_refused}
use Rattle.terms.proofs.values.read_fields.Goals as goal
use Rattle.terms.proofs.values.read_fields.Goals.{Joined-f, Joined-f-2, in-Some+in_ok-read_code, in_default, then-f+in_ok-read_value, else-f}

-- after the code, and after the first number
coded : (c : Joined-f) → SoFar c.args.s.now (fields c.args.s.now c.args.f c.args.place.now.at)
    (seq (numbered c.args.s.now (ceiling definition) c.args.f.first c.match-f.place.at) (λ n. seq (numbered c.args.s.now (ceiling ordinary) c.args.f.second n) (got end)))
    c.args.place.now (area c.args.kinds.now c.args.vals.now) (area c.match-f.kinds c.match-f.vals) c.match-f.place
coded c =
    let x = fields_start c.args.f c.args.place.now c.requires.inside in
    elim c.match-f.branch [
      | in-Some+in_ok-read_code w ↦ rw (w.kinds-is, w.vals-is, w.place-is) (code_read _ _ x w.in-Some.is w.in_ok-read_code.ensures)
      | in_default w ↦ rw (w.kinds-is, w.vals-is, w.place-is) (code_none _ _ x w.in_default.is)
    ]

first : (c : Joined-f-2) → SoFar c.args.s.now (fields c.args.s.now c.args.f c.args.place.now.at)
    (seq (numbered c.args.s.now (ceiling ordinary) c.args.f.second c.if-f.place.at) (got end))
    c.args.place.now (area c.args.kinds.now c.args.vals.now) (area c.if-f.kinds c.if-f.vals) c.if-f.place
first c =
    let x = coded (goal.at.Joined-f-2 c).Joined-f in
    elim c.if-f.branch [
      | then-f+in_ok-read_value w ↦ rw (w.kinds-is, w.vals-is, w.place-is) (numbered_read _ _ _ x w.if-f.true w.in_ok-read_value.ensures)
      | else-f w ↦ rw (w.kinds-is, w.vals-is, w.place-is) (numbered_none _ _ _ x w.if-f.false)
    ]

pub returns-in_err-read_code : goal.returns-in_err-read_code
returns-in_err-read_code c = rw (handed_on _ _ c.from_residual.ensures.1) (code_refused _ _ (fields_start _ c.args.place.now c.requires.inside) c.in-Some.is _ c.in_err-read_code.ensures)

pub returns-in_err-read_value : goal.returns-in_err-read_value
returns-in_err-read_value c = rw (handed_on _ _ c.from_residual-in_err-read_value.ensures.1) (numbered_refused _ _ _ (coded (goal.at.returns-in_err-read_value c).Joined-f) c.if-f.true _ c.in_err-read_value.ensures)

pub returns-in_err-read_value-2 : goal.returns-in_err-read_value-2
returns-in_err-read_value-2 c = rw (handed_on _ _ c.from_residual-in_err-read_value-2.ensures.1) (numbered_refused (got end) _ _ (first (goal.at.returns-in_err-read_value-2 c).Joined-f-2) c.if-f-2.true _ c.in_err-read_value-2.ensures)

pub returns-in_ok-read_value-2 : goal.returns-in_ok-read_value-2
returns-in_ok-read_value-2 c = so_far_end (numbered_read (got end) _ _ (first (goal.at.returns-in_ok-read_value-2 c).Joined-f-2) c.if-f-2.true c.in_ok-read_value-2.ensures)

pub returns-else-f-2 : goal.returns-else-f-2
returns-else-f-2 c = so_far_end (numbered_none (got end) _ _ (first (goal.at.returns-else-f-2 c).Joined-f-2) c.if-f-2.false)
