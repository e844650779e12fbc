-- `standing_len`. By the token's kind, and by whether a default takes its place.
use mathlib.Core.Path.{sym, ap, ◌∙◌}
use native.Mathlib.Omega.{arith}
use lib.ListN.{length, get_or}
use Rattle.solver.proofs.Laws.Resolving.DefaultWordLaws.{code_some, code_none}
use Rattle.solver.proofs.Laws.Resolving.ResolvedLaws.{builtin_length, standing_token, standing_code}
use Rattle.solver.proofs.Laws.Resolving.FrameLaws.{default_other}
use Rattle.solver.proofs.resolving.standing_len.Goals as goal

pub returns-then-here-ne1 : goal.returns-then-here-ne1
returns-then-here-ne1 c =
    let t = c.args.bindings.now.tokens in
    let p = c.args.c.at in
    let d = default_other c.args.bindings.now.bound.now _ (get_or t.kinds.now p 0) (get_or t.vals.now p 0) c.if-here-ne1.true in
    c.token_len.ensures ∙ sym (ap length (standing_token (get_or t.kinds.now p 0) (get_or t.vals.now p 0) _ d))

pub returns-then-is_some : goal.returns-then-is_some
returns-then-is_some c =
    let t = c.args.bindings.now.tokens in
    let p = c.args.c.at in
    let d = code_some c.default_at.result (sym (c.if-is_some.ensures {u = tt})) in
    sym (ap length (standing_code (get_or t.kinds.now p 0) (get_or t.vals.now p 0) _ d.0 (sym c.default_at.ensures ∙ d.2)) ∙ builtin_length d.0 (omega (arith, d.1)))

pub returns : goal.returns
returns c =
    let t = c.args.bindings.now.tokens in
    let p = c.args.c.at in
    let d = code_none c.default_at.result (sym (c.if-is_some.ensures {u = tt})) in
    c.token_len-2.ensures ∙ sym (ap length (standing_token (get_or t.kinds.now p 0) (get_or t.vals.now p 0) _ (sym c.default_at.ensures ∙ d)))
