-- `replace`. The own member, then what is looked up.
use Rattle.terms.proofs.Laws.General.Options.{nothing, something}
use mathlib.Core.Path.{sym, ◌∙◌}
use mathlib.Core.Option.{Option}
use native.Mathlib.Omega.{arith}
use Rattle.terms.specs.Term.{Term}
use Rattle.terms.specs.Tree.{row}
use Rattle.terms.specs.Words.Lent.{Fetches}
use Rattle.terms.specs.Lookup.{look_by}
use Rattle.terms.proofs.Laws.Normalising.AlikeLaws.{depth_row}
use Rattle.terms.proofs.Laws.Normalising.MemberLaws.{replace_own, replace_look, looked_rules, looked_through}
use Rattle.terms.proofs.members.Counted.replace.Goals as goal

pub returns-then-is_some : goal.returns-then-is_some
returns-then-is_some c =
    λ S t look w d k.
    let e = sym (c.requires.tagged.is c.args.self.now.records.now.heads.now c.args.self.now.records.now.kids.now S _ t w) in
    let r = rw (something _ (sym c.is_some.ensures ∙ c.if-is_some.true)).1 at (c.own_member-own.ensures S t w) in
    rw (something _ (sym c.is_some.ensures ∙ c.if-is_some.true)).1 (r.0, replace_own (look_by look) t e r.0 r.1, r.2)

pub returns-in-Rules : goal.returns-in-Rules
returns-in-Rules c =
    λ S t look w d k.
    let e = sym (c.requires.tagged.is c.args.self.now.records.now.heads.now c.args.self.now.records.now.kids.now S _ t w) in
    let o = rw (nothing _ (sym c.is_some.ensures ∙ c.if-is_some.false)) at (c.own_member-own.ensures S t w) in
    rw (replace_look (look_by look) t e o)
    (looked_rules _ _ (λ (q : Option Term). Fetches c.args.self.now.records.now S q c.find_rule.result)
    (row t) c.args.lookup.now _ look c.in-Rules.is k (λ rs h. c.find_rule.ensures S t rs w (omega (arith, depth_row t)) h))

pub returns-in-Given : goal.returns-in-Given
returns-in-Given c =
    λ S t look w d k.
    let e = sym (c.requires.tagged.is c.args.self.now.records.now.heads.now c.args.self.now.records.now.kids.now S _ t w) in
    let o = rw (nothing _ (sym c.is_some.ensures ∙ c.if-is_some.false)) at (c.own_member-own.ensures S t w) in
    rw (replace_look (look_by look) t e o)
    (looked_through _ _ (λ (q : Option Term). Fetches c.args.self.now.records.now S q c.by_interface.result)
    (row t) c.args.lookup.now _ look c.in-Given.is k (λ i owner h. c.by_interface.ensures S t i owner w e d (rw c.in-Given.is at c.requires.given) h))
