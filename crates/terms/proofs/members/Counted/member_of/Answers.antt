-- `member_of`. By the place of the key.
use Rattle.terms.proofs.Laws.Normalising.ScanLaws.{children_row}
use Rattle.terms.proofs.Laws.Normalising.MemberLaws.{member_found, member_late, member_none}
use Rattle.terms.proofs.members.Counted.member_of.Goals as goal

pub returns-in_err-i : goal.returns-in_err-i
returns-in_err-i c = λ S t w. rw c.from_residual.ensures (member_none c.args.self.now.counts w c.args.b c.in_err-i.ensures)

pub returns-then-self-i : goal.returns-then-self-i
returns-then-self-i c = λ S t w. member_late c.args.self.now.counts w c.args.b c.in_ok-i.ensures c.if-self-i.true

pub returns : goal.returns
returns c = λ S t w. rw (member_found c.args.self.now.counts w c.args.b c.in_ok-i.ensures c.if-self-i.false, children_row t) (c.child_at.ensures S t w)
