-- `output`. The member is known, or not.
use mathlib.Core.Path.{sym, ap, ◌∙◌}
use Prim.Native.Nat.{ℕ}
use Rattle.terms.specs.Term.{Parts, node}
use Rattle.terms.specs.Words.Lent.{StandsFor}
use Rattle.terms.specs.Normal.{member_from}
use Rattle.terms.proofs.Laws.Normalising.InterfaceLaws.{row_node, interface_tree, made_tree, output_known, output_made}
use Rattle.terms.proofs.Records.output.Goals as goal

pub returns-in-Some : goal.returns-in-Some
returns-in-Some c =
    λ S i owner g h k.
    let x = c.token-x in
    let y = c.with_counts-interface in
    let f : StandsFor y.result.records.now S y.result.content (node 20 i)
    = rw (y.ensures.0, y.ensures.1) (interface_tree _ _ _ c.args.self.now.seen.now.sight _ g i owner h _ _ S _ _ c.source.ensures.0
    c.source.ensures.1) in
    let r = rw (c.in-Some.is, y.ensures.0) at (c.member_of-known.ensures S (node 20 i) f) in
    let e = ap (λ (j : Parts). member_from 0 x.result.value j) (sym (row_node 20 i)) ∙ r.1 in
    rw (← x.ensures.value, output_known owner i _ r.0 e) r.2

pub returns : goal.returns
returns c =
    λ S i owner g h k.
    let x = c.token-x in
    let y = c.with_counts-interface in
    let f : StandsFor y.result.records.now S y.result.content (node 20 i)
    = rw (y.ensures.0, y.ensures.1) (interface_tree _ _ _ c.args.self.now.seen.now.sight _ g i owner h _ _ S _ _ c.source.ensures.0
    c.source.ensures.1) in
    let r = rw c.in_default.is at (c.member_of-known.ensures S (node 20 i) f) in
    let e = ap (λ (j : Parts). member_from 0 x.result.value j) (sym (row_node 20 i)) ∙ r in
    let z = ap (λ (n : ℕ). member_from 0 n i) (sym x.ensures.value) ∙ e in
    rw (output_made owner i _ z) (made_tree _ _ _ c.args.self.now.seen.now.sight _ g i owner h _ _ S _ _ _ _ (rw (← c.unwrap_or-t.ensures) at c.lent_place.ensures.at) k (rw (rw g at c.map_or-width.ensures).0 at c.source-2.ensures.0)
    c.source-2.ensures.1)
