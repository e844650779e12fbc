-- An owner and a position, each where the list has it, and then the term: where the ways join, what was read is stored.
use Rattle.std.proofs.Common.{sym, ◌∙◌}
use Rattle.terms.specs.Words.Tokens.{area}
use Rattle.terms.specs.Shape.{ceiling, ordinary}
use Rattle.terms.specs.Reading.{term}
use Rattle.terms.specs.Parser.{got}
use Rattle.terms.specs.Term.{end}
use Rattle.terms.specs.Words.ReadContract.{seq, onto}
use Rattle.terms.specs.Words.RowPieces.{numbered}
use Rattle.terms.specs.Words.ListsContract.{owned, placed, one_at}
use Rattle.terms.proofs.Laws.General.Options.{handed_on}
use Rattle.terms.proofs.Laws.Format.ReadLaws.{SoFar, numbered_none, numbered_read, numbered_refused}
use Rattle.terms.proofs.Laws.Format.ListLaws.{record_start, record_term}
use Rattle.terms.proofs.lists.read_record.Goals as goal
use Rattle.terms.proofs.lists.read_record.Goals.{Joined-has_owner, Joined-has_position, then-has_owner+in_ok-read_value, else-has_owner, then-has_position+in_ok-read_value-2, else-has_position}

-- after the owner, and after the position
owner : (c : Joined-has_owner) → SoFar c.args.s.now (one_at c.args.s.now c.args.w c.args.place.now.at)
    (seq (numbered c.args.s.now (ceiling ordinary) (placed c.args.w.listing) c.if-has_owner.place.at) (λ m. onto (term c.args.s.now c.args.w.issued c.args.w.levels m) (got end)))
    c.args.place.now (area c.args.kinds.now c.args.vals.now) (area c.if-has_owner.kinds c.if-has_owner.vals) c.if-has_owner.place
owner c =
    let x = record_start (term c.args.s.now c.args.w.issued c.args.w.levels) (owned c.args.w.listing) (placed c.args.w.listing) c.args.place.now c.requires.inside in
    elim c.if-has_owner.branch [
      | then-has_owner+in_ok-read_value w ↦ rw (w.kinds-is, w.vals-is, w.place-is) (numbered_read _ _ _ x (sym c.has_owner.ensures ∙ w.if-has_owner.true) w.in_ok-read_value.ensures)
      | else-has_owner w ↦ rw (w.kinds-is, w.vals-is, w.place-is) (numbered_none _ _ _ x (sym c.has_owner.ensures ∙ w.if-has_owner.false))
    ]

position : (c : Joined-has_position) → SoFar c.args.s.now (one_at c.args.s.now c.args.w c.args.place.now.at)
    (onto (term c.args.s.now c.args.w.issued c.args.w.levels c.if-has_position.place.at) (got end))
    c.args.place.now (area c.args.kinds.now c.args.vals.now) (area c.if-has_position.kinds c.if-has_position.vals) c.if-has_position.place
position c =
    let x = owner (goal.at.Joined-has_position c).Joined-has_owner in
    elim c.if-has_position.branch [
      | then-has_position+in_ok-read_value-2 w ↦ rw (w.kinds-is, w.vals-is, w.place-is) (numbered_read _ _ _ x (sym c.has_position.ensures ∙ w.if-has_position.true) w.in_ok-read_value-2.ensures)
      | else-has_position w ↦ rw (w.kinds-is, w.vals-is, w.place-is) (numbered_none _ _ _ x (sym c.has_position.ensures ∙ w.if-has_position.false))
    ]

pub returns-in_err-read_value : goal.returns-in_err-read_value
returns-in_err-read_value c =
    rw (handed_on _ _ c.from_residual.ensures.1)
    (numbered_refused _ _ _ (record_start _ (owned c.args.w.listing) _ c.args.place.now c.requires.inside) (sym c.has_owner.ensures ∙ c.if-has_owner.true) _ c.in_err-read_value.ensures)

pub returns-in_err-read_value-2 : goal.returns-in_err-read_value-2
returns-in_err-read_value-2 c =
    rw (handed_on _ _ c.from_residual-in_err-read_value-2.ensures.1)
    (numbered_refused _ _ _ (owner (goal.at.returns-in_err-read_value-2 c).Joined-has_owner) (sym c.has_position.ensures ∙ c.if-has_position.true) _ c.in_err-read_value-2.ensures)

pub returns : goal.returns
returns c = record_term (term _ c.args.w.issued c.args.w.levels) (position (goal.at.returns c).Joined-has_position) _ _ c.read_term.ensures
