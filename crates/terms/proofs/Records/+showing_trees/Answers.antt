-- `show_row`. Invariant: the parts that are left, and the bytes shown so far.
-- `show_tree`. As it stands in the source, or its first token and then its row.
use Rattle.terms.proofs.Laws.Normalising.AlikeLaws.{depth_some, depth_row}
use Rattle.terms.proofs.Laws.Normalising.ScanLaws.{over_here, over_on, over_width, over_child, over_number}
use Rattle.terms.proofs.Laws.Normalising.ShowLaws.{row_done, row_number, row_child, tree_flat, tree_bytes, shows_first, shows_then}
use Rattle.terms.specs.Term.{bytes, part_bytes}
use Rattle.terms.specs.Tree.{row}
use Rattle.terms.specs.Words.ShowingContract.{writes}
use Rattle.terms.specs.Words.TokenBytes.{plain}
use mathlib.Core.Path.{◌∙◌}
use native.Mathlib.Omega.{arith}
use Rattle.terms.proofs.Records.+showing_trees.Goals as goal

pub show_row-returns-in_err-i-clause-shows : goal.show_row-returns-in_err-i-clause-shows
show_row-returns-in_err-i-clause-shows t c =
    let i = c.loop-q.invariant in
    let s = c.in-Some.ensures.steps in
    let o = c.next.new.self in
    let m = over_here _ _ i.1 _ _ o s in
    rw c.from_residual.ensures (row_number _ _ _ _ _ _ _ _ _ _ _ _ i.0 (rw i.2 at m.1) m.2 m.3 _ c.if-y-eq0.true _ c.in_err-i.ensures.kept
    c.in_err-i.ensures.shows)

pub show_row-returns-in_err-i-2-clause-shows : goal.show_row-returns-in_err-i-2-clause-shows
show_row-returns-in_err-i-2-clause-shows t c =
    let i = c.loop-q.invariant in
    let s = c.in-Some.ensures.steps in
    let o = c.next.new.self in
    let m = over_here _ _ i.1 _ _ o s in
    let h = c.child_here-z.ensures in
    let e = c.in_err-i-2.ensures in
    rw c.from_residual-in_err-i-2.ensures (row_child _ _ _ _ _ _ _ _ _ _ _ _ i.0 (rw i.2 at m.1) m.2 m.3 _ c.if-y-eq0.false _ (rw (m.0) at h.head) h.kids _
    (over_width _ _ i.1 _ _ o s) (omega (arith, s.0.4)) _ e.kept e.shows)

pub show_row-loop-q-preserved-then-y-eq0 : goal.show_row-loop-q-preserved-then-y-eq0
show_row-loop-q-preserved-then-y-eq0 t c =
    let i = c.loop-q.invariant in
    let s = c.in-Some.ensures.steps in
    let o = c.next.new.self in
    let m = over_here _ _ i.1 _ _ o s in
    let e = c.in_ok-i.ensures in (
      rw (over_number _ _ i.1 _ _ o s c.if-y-eq0.true) at (row_number _ _ _ _ _ _ _ _ _ _ _ _ i.0 (rw i.2 at m.1) m.2 m.3 _ c.if-y-eq0.true _ e.kept e.shows),
      over_on _ _ i.1 _ _ o s,
      s.1 ∙ i.2,
    )

pub show_row-loop-q-preserved : goal.show_row-loop-q-preserved
show_row-loop-q-preserved t c =
    let i = c.loop-q.invariant in
    let s = c.in-Some.ensures.steps in
    let o = c.next.new.self in
    let m = over_here _ _ i.1 _ _ o s in
    let h = c.child_here-z.ensures in
    let e = c.in_ok-i-2.ensures in (
      rw (over_child _ _ i.1 _ _ o s) at (row_child _ _ _ _ _ _ _ _ _ _ _ _ i.0 (rw i.2 at m.1) m.2 m.3 _ c.if-y-eq0.false _ (rw (m.0) at h.head) h.kids _
          (over_width _ _ i.1 _ _ o s) (omega (arith, s.0.4)) _ e.kept e.shows),
      over_on _ _ i.1 _ _ o s,
      s.1 ∙ i.2,
    )

pub show_row-returns-clause-shows : goal.show_row-returns-clause-shows
show_row-returns-clause-shows t c =
    let i = c.loop-q.invariant in
    row_done _ _ _ _ _ _ _ _ _ _ _ _ i.0 (rw i.2 at c.in-None.ensures.steps.0.0)

pub show_tree-returns-then-x-eq0-clause-shows : goal.show_tree-returns-then-x-eq0-clause-shows
show_tree-returns-then-x-eq0-clause-shows t c =
    λ S t w d.
    rw (← tree_flat _ _ _ S w c.if-x-eq0.true c.step.result c.token-h.ensures.kind c.token-h.ensures.value c.step.ensures.span)
    c.show_run.ensures.shows

pub show_tree-returns-then-fuel-eq0-clause-shows : goal.show_tree-returns-then-fuel-eq0-clause-shows
show_tree-returns-then-fuel-eq0-clause-shows t c = λ S t w d. absurd (omega (arith, d (omega (arith, c.if-x-eq0.false)), depth_some t))

pub show_tree-returns-in_err-i-clause-shows : goal.show_tree-returns-in_err-i-clause-shows
show_tree-returns-in_err-i-clause-shows t c =
    λ S t w d.
    rw c.from_residual.ensures (shows_first (writes c.args.pass) c.args.out.now c.show_token.new.out c.args.at (plain c.token-h.result.kind c.token-h.result.value) (part_bytes (row t)) (bytes t)
    (tree_bytes _ _ _ S w c.token-h.ensures.kind c.token-h.ensures.value) c.in_err-i.ensures.shows)

pub show_tree-returns-clause-shows : goal.show_tree-returns-clause-shows
show_tree-returns-clause-shows t c =
    λ S t w d.
    let s = c.in_ok-i.ensures in
    let r = c.show_row.ensures in
    shows_then _ _ _ _ (plain c.token-h.result.kind c.token-h.result.value) (part_bytes (row t)) (bytes t)
    (tree_bytes _ _ _ S w c.token-h.ensures.kind c.token-h.ensures.value) _ s.kept.long s.shows _ c.show_row.result r.kept.long
    (r.shows S (row t) (c.cursor-c.ensures.is _ _ S t w) (omega (arith, d (omega (arith, c.if-x-eq0.false)), depth_row t, c.if-fuel-eq0.false)))
