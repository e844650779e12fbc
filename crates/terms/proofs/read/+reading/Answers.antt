-- What each reader leaves, from what its parts leave: at each step what was read is stored, and the rest is still to come.
use Rattle.std.proofs.Common.{◌+◌, ◌≤◌, ℕ, get_or, refl, sym, ◌∙◌, arith}
use Rattle.terms.specs.Words.Tokens.{area}
use Rattle.terms.specs.Shape as shape
use Rattle.terms.specs.Shape.{plain, nominal}
use Rattle.terms.specs.Reading.{term, many, row}
use Rattle.terms.specs.Words.ReadContract.{Next, Stopped}
use Rattle.terms.proofs.Laws.General.Options.{handed_on, sub_step}
use Rattle.terms.proofs.Laws.Format.ReadSequenceLaws.{node_done}
use Rattle.terms.proofs.Laws.Format.ReadLaws.{SoFar, so_far_start, so_far_done, number_read, number_refused, term_read, term_refused, nominal_read, nominal_refused, count_read, count_refused, many_read, many_refused, many_none, many_last, members_read, members_refused, terms_end, terms_read, terms_refused, pairs_end, pairs_read, pairs_refused, member_refused, plain_no, plain_fields, plain_stop, plain_counted, plain_uncounted, levels_none, term_end, term_variable, term_row, term_unlisted}
use Rattle.terms.proofs.read.+reading.Goals as goal
use Rattle.terms.proofs.read.+reading.Goals.{read_plain-Joined-f, read_plain-then-f+in_ok-n, read_plain-else-f, read_nominal-Joined-arguments-ne0, read_nominal-then-arguments-ne0+in_ok-read_terms, read_nominal-else-arguments-ne0}
use native.Mathlib.Nat.{sub-zero}

-- ---- the loops

pub read_terms-loop-init : goal.read_terms-loop-init
read_terms-loop-init t c = rw (sub-zero c.args.count) (so_far_start c.requires.inside)

pub read_terms-returns-in_err-read_term : goal.read_terms-returns-in_err-read_term
read_terms-returns-in_err-read_term t c = rw (handed_on _ _ c.from_residual.ensures.1) (terms_refused _ _ c.loop.invariant (omega arith) _ c.in_err-read_term.ensures)

pub read_terms-loop-preserved : goal.read_terms-loop-preserved
read_terms-loop-preserved t c = rw (sub_step c.args.count c.loop.counter) (terms_read _ _ c.loop.invariant (omega arith) c.in_ok-read_term.ensures)

pub read_terms-returns : goal.read_terms-returns
read_terms-returns t c = terms_end _ _ c.loop.invariant (omega arith)

pub read_pairs-loop-init : goal.read_pairs-loop-init
read_pairs-loop-init t c = rw (sub-zero c.args.count) (so_far_start c.requires.inside)

pub read_pairs-returns-in_err-member : goal.read_pairs-returns-in_err-member
read_pairs-returns-in_err-member t c = rw (handed_on _ _ c.from_residual.ensures.1) (member_refused _ _ _ c.loop.invariant (omega arith) _ c.in_err-member.ensures)

pub read_pairs-returns-in_err-read_term : goal.read_pairs-returns-in_err-read_term
read_pairs-returns-in_err-read_term t c = rw (handed_on _ _ c.from_residual-in_err-read_term.ensures.1) (pairs_refused _ _ _ c.loop.invariant (omega arith) c.in_ok-member.ensures _ c.in_err-read_term.ensures)

pub read_pairs-loop-preserved : goal.read_pairs-loop-preserved
read_pairs-loop-preserved t c = rw (sub_step c.args.count c.loop.counter) (pairs_read _ _ _ c.loop.invariant (omega arith) c.in_ok-member.ensures c.in_ok-read_term.ensures)

pub read_pairs-returns : goal.read_pairs-returns
read_pairs-returns t c = pairs_end _ _ _ c.loop.invariant (omega arith)

-- ---- a plain row

pub read_plain-returns-in_err-read_fields : goal.read_plain-returns-in_err-read_fields
read_plain-returns-in_err-read_fields t c = rw (handed_on _ _ c.from_residual.ensures.1) (plain_no _ _ _ c.args.place.now _ _ c.in_err-read_fields.ensures)

pub read_plain-returns-then-no_terms : goal.read_plain-returns-then-no_terms
read_plain-returns-then-no_terms t c = plain_fields _ _ _ c.in_ok-read_fields.ensures (sym c.no_terms.ensures ∙ c.if-no_terms.true)

pub read_plain-returns-in_err-n : goal.read_plain-returns-in_err-n
read_plain-returns-in_err-n t c = rw (handed_on _ _ c.from_residual-in_err-n.ensures.1) (plain_stop _ _ _ c.in_ok-read_fields.ensures c.if-f.true _ c.in_err-n.ensures)

-- where the terms begin, and how many are counted at most
plain_so_far : (t : ℕ) (c : read_plain-Joined-f t) →
    SoFar c.args.s.now (row c.args.s.now (term c.args.s.now c.args.issued c.args.levels) (plain c.args.f) c.args.place.now.at) (many c.args.s.now (term c.args.s.now c.args.issued c.args.levels) (c.if-f.n + c.args.f.terms) c.if-f.place.at)
    c.args.place.now (area c.args.kinds.now c.args.vals.now) (area c.if-f.kinds c.if-f.vals) c.if-f.place
    × (c.if-f.n ≤ 4294967295)
plain_so_far t c = elim c.if-f.branch [
  | read_plain-then-f+in_ok-n w ↦ rw (w.kinds-is, w.vals-is, w.place-is, w.n-is) (plain_counted _ _ _ c.in_ok-read_fields.ensures w.if-f.true w.in_ok-n.ensures, w.in_ok-n.ensures.1)
  | read_plain-else-f w ↦ rw (w.kinds-is, w.vals-is, w.place-is, w.n-is) (plain_uncounted _ _ _ c.in_ok-read_fields.ensures w.if-f.false, omega arith)
]

pub read_plain-returns : goal.read_plain-returns
read_plain-returns t c = so_far_done (plain_so_far t (goal.at.read_plain-returns t c).Joined-f).0 _ _ (rw c.from.ensures at c.read_terms.ensures)

-- ---- a nominal

pub read_nominal-returns-in_err-read_value : goal.read_nominal-returns-in_err-read_value
read_nominal-returns-in_err-read_value t c = rw (handed_on _ _ c.from_residual.ensures.1) (number_refused _ _ _ (so_far_start {p = c.args.place.now} c.requires.inside) _ c.in_err-read_value.ensures)

pub read_nominal-returns-in_err-arguments : goal.read_nominal-returns-in_err-arguments
read_nominal-returns-in_err-arguments t c =
    rw (handed_on _ _ c.from_residual-in_err-arguments.ensures.1) (count_refused _ _ (number_read _ _ _ (so_far_start c.requires.inside) c.in_ok-read_value.ensures) _ c.in_err-arguments.ensures)

pub read_nominal-returns-in_err-read_terms : goal.read_nominal-returns-in_err-read_terms
read_nominal-returns-in_err-read_terms t c =
    rw (handed_on _ _ c.from_residual-in_err-read_terms.ensures.1)
    (many_refused _ _ _ (count_read _ _ (number_read _ _ _ (so_far_start c.requires.inside) c.in_ok-read_value.ensures) c.in_ok-arguments.ensures) _ c.in_err-read_terms.ensures)

-- where the members begin
nominal_so_far : (t : ℕ) (c : read_nominal-Joined-arguments-ne0 t) →
    SoFar c.args.s.now (row c.args.s.now (term c.args.s.now c.args.issued c.args.levels) (nominal shape.done) c.args.place.now.at) (row c.args.s.now (term c.args.s.now c.args.issued c.args.levels) (shape.members shape.done) c.if-arguments-ne0.place.at)
    c.args.place.now (area c.args.kinds.now c.args.vals.now) (area c.if-arguments-ne0.kinds c.if-arguments-ne0.vals) c.if-arguments-ne0.place
nominal_so_far t c =
    let x = count_read _ _ (number_read _ _ _ (so_far_start c.requires.inside) c.in_ok-read_value.ensures) c.in_ok-arguments.ensures in
    elim c.if-arguments-ne0.branch [
      | read_nominal-then-arguments-ne0+in_ok-read_terms w ↦ rw (w.kinds-is, w.vals-is, w.place-is) (many_read _ _ _ x w.in_ok-read_terms.ensures)
      | read_nominal-else-arguments-ne0 w ↦ rw (w.kinds-is, w.vals-is, w.place-is) (many_none _ _ _ x (omega (arith, w.if-arguments-ne0.false)))
    ]

pub read_nominal-returns-in_err-members : goal.read_nominal-returns-in_err-members
read_nominal-returns-in_err-members t c =
    rw (handed_on _ _ c.from_residual-in_err-members.ensures.1) (members_refused _ (nominal_so_far t (goal.at.read_nominal-returns-in_err-members t c).Joined-arguments-ne0) _ c.in_err-members.ensures)

pub read_nominal-returns-then-members-eq0 : goal.read_nominal-returns-then-members-eq0
read_nominal-returns-then-members-eq0 t c =
    pairs_end _ _ _ (members_read _ (nominal_so_far t (goal.at.read_nominal-returns-then-members-eq0 t c).Joined-arguments-ne0) c.in_ok-members.ensures) (omega (arith, c.if-members-eq0.true))

pub read_nominal-returns : goal.read_nominal-returns
read_nominal-returns t c = so_far_done (members_read _ (nominal_so_far t (goal.at.read_nominal-returns t c).Joined-arguments-ne0) c.in_ok-members.ensures) _ _ c.read_pairs.ensures

-- ---- a projection

pub read_projection-returns-in_err-read_term : goal.read_projection-returns-in_err-read_term
read_projection-returns-in_err-read_term t c = rw (handed_on _ _ c.from_residual.ensures.1) (term_refused _ _ (so_far_start {p = c.args.place.now} c.requires.inside) _ c.in_err-read_term.ensures)

pub read_projection-returns-in_err-read_nominal : goal.read_projection-returns-in_err-read_nominal
read_projection-returns-in_err-read_nominal t c =
    rw (handed_on _ _ c.from_residual-in_err-read_nominal.ensures.1) (nominal_refused _ _ (term_read _ _ (so_far_start c.requires.inside) c.in_ok-read_term.ensures) _ c.in_err-read_nominal.ensures)

pub read_projection-returns-in_err-read_value : goal.read_projection-returns-in_err-read_value
read_projection-returns-in_err-read_value t c =
    let x = nominal_read _ _ (term_read _ _ (so_far_start c.requires.inside) c.in_ok-read_term.ensures) c.in_ok-read_nominal.ensures in
    rw (handed_on _ _ c.from_residual-in_err-read_value.ensures.1) (number_refused _ _ _ x _ c.in_err-read_value.ensures)

pub read_projection-returns-in_err-arguments : goal.read_projection-returns-in_err-arguments
read_projection-returns-in_err-arguments t c =
    let x = nominal_read _ _ (term_read _ _ (so_far_start c.requires.inside) c.in_ok-read_term.ensures) c.in_ok-read_nominal.ensures in
    rw (handed_on _ _ c.from_residual-in_err-arguments.ensures.1) (count_refused _ _ (number_read _ _ _ x c.in_ok-read_value.ensures) _ c.in_err-arguments.ensures)

pub read_projection-returns : goal.read_projection-returns
read_projection-returns t c =
    let x = nominal_read _ _ (term_read _ _ (so_far_start c.requires.inside) c.in_ok-read_term.ensures) c.in_ok-read_nominal.ensures in
    many_last _ _ (count_read _ _ (number_read _ _ _ x c.in_ok-read_value.ensures) c.in_ok-arguments.ensures) _ _ c.read_terms.ensures

-- ---- a term

pub read_term-returns-then-levels-eq0 : goal.read_term-returns-then-levels-eq0
read_term-returns-then-levels-eq0 t c = (levels_none _ _ _ _ c.if-levels-eq0.true, refl)

pub read_term-returns-in_err-tag : goal.read_term-returns-in_err-tag
read_term-returns-in_err-tag t c =
    let e = c.in_err-tag.ensures {u = tt} in
    rw (handed_on _ _ c.from_residual.ensures.1, e.1) (term_end _ _ _ _ c.if-levels-eq0.false e.0, refl)

pub read_term-returns-in-Variable : goal.read_term-returns-in-Variable
read_term-returns-in-Variable t c =
    let b = c.in_ok-tag.ensures {u = tt} in
    rw (term_variable _ _ _ _ c.if-levels-eq0.false b.0 (rw (c.in-Variable.is, b.1) at c.kind_of.ensures)) c.read_variable.ensures

pub read_term-returns-in-Unlisted : goal.read_term-returns-in-Unlisted
read_term-returns-in-Unlisted t c =
    let b = c.in_ok-tag.ensures {u = tt} in
    (term_unlisted _ _ _ _ c.if-levels-eq0.false b.0 (rw (c.in-Unlisted.is, b.1) at c.kind_of.ensures), refl)

pub read_term-returns-in_err-read_row-in-Node : goal.read_term-returns-in_err-read_row-in-Node
read_term-returns-in_err-read_row-in-Node t c =
    let b = c.in_ok-tag.ensures {u = tt} in
    rw (handed_on _ _ c.from_residual-in_err-read_row-in-Node.ensures.1, term_row _ _ _ _ c.if-levels-eq0.false b.0 _ (rw (c.in-Node.is, b.1) at c.kind_of.ensures))
    (node_done _ c.args.place.now _ _ _ _ _ (Stopped _) b.0 c.in_err-read_row-in-Node.ensures refl)

pub read_term-returns-in_ok-read_row-in-Node : goal.read_term-returns-in_ok-read_row-in-Node
read_term-returns-in_ok-read_row-in-Node t c =
    let b = c.in_ok-tag.ensures {u = tt} in
    rw (term_row _ _ _ _ c.if-levels-eq0.false b.0 _ (rw (c.in-Node.is, b.1) at c.kind_of.ensures))
    (node_done _ c.args.place.now _ _ (area c.close_node.new.kinds c.close_node.new.vals) (get_or c.args.s.now c.args.place.now.at 0) _ (Next c.read_row.new.place) b.0 c.in_ok-read_row-in-Node.ensures (rw (c.from.ensures, b.1) at c.close_node.ensures))
