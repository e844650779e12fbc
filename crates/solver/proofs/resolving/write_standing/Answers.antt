-- `write_standing`. By the token's kind, and by whether a default takes its place.
use mathlib.Core.Path.{◌≡◌, sym, ap, ◌∙◌}
use native.Mathlib.Omega.{arith}
use lib.ListN.{length, get_or}
use lib.Seq.{sets}
use Rattle.terms.specs.Term.{bytes}
use Rattle.terms.specs.Words.TokenBytes.{plain}
use Rattle.solver.specs.Words.Bindings.{builtin}
use Rattle.solver.specs.Words.Lent.{standing_bytes}
use Rattle.solver.proofs.Laws.Resolving.FrameLaws.{default_other}
use Rattle.solver.proofs.Laws.Resolving.ResolvedLaws.{builtin_length, standing_token, standing_code}
use Rattle.solver.proofs.resolving.write_standing.Goals.{Then-here-ne1, In-Some, In_default}
use Rattle.solver.proofs.resolving.write_standing.Goals as goal

-- the bytes of a token of another kind, of a default, and of a variable itself
other : (c : Then-here-ne1) → standing_bytes c.args.bindings.now c.args.c ≡ plain (get_or c.args.bindings.now.tokens.kinds.now c.args.c.at 0) (get_or c.args.bindings.now.tokens.vals.now c.args.c.at 0)
other c =
    let t = c.args.bindings.now.tokens in
    let p = c.args.c.at in
    let d = default_other c.args.bindings.now.bound.now _ (get_or t.kinds.now p 0) (get_or t.vals.now p 0) c.if-here-ne1.true in
    standing_token (get_or t.kinds.now p 0) (get_or t.vals.now p 0) _ d

coded : (c : In-Some) → standing_bytes c.args.bindings.now c.args.c ≡ bytes (builtin c.in-Some.b.code)
coded c =
    let t = c.args.bindings.now.tokens in
    let p = c.args.c.at in
    standing_code (get_or t.kinds.now p 0) (get_or t.vals.now p 0) _ c.in-Some.b.code (sym (c.in-Some.ensures {u = tt}))

own : (c : In_default) → standing_bytes c.args.bindings.now c.args.c ≡ plain (get_or c.args.bindings.now.tokens.kinds.now c.args.c.at 0) (get_or c.args.bindings.now.tokens.vals.now c.args.c.at 0)
own c =
    let t = c.args.bindings.now.tokens in
    let p = c.args.c.at in
    standing_token (get_or t.kinds.now p 0) (get_or t.vals.now p 0) _ (sym (c.in_default.ensures {u = tt}))

pub write_builtin-requires : goal.write_builtin-requires
write_builtin-requires c =
    omega (arith, c.requires.room, ap length (coded (goal.at.write_builtin-requires c).In-Some), builtin_length c.in-Some.b.code (omega (arith, c.in-Some.b.listed)))

pub returns-in-Some-clause-next : goal.returns-in-Some-clause-next
returns-in-Some-clause-next c =
    omega (arith, c.write_builtin.ensures.next, ap length (coded (goal.at.returns-in-Some-clause-next c).In-Some), builtin_length c.in-Some.b.code (omega (arith, c.in-Some.b.listed)))

pub returns-in-Some-clause-wrote : goal.returns-in-Some-clause-wrote
returns-in-Some-clause-wrote c = c.write_builtin.ensures.wrote ∙ ap (sets c.args.out.now c.args.to) (sym (coded (goal.at.returns-in-Some-clause-wrote c).In-Some))

pub write_token-requires : goal.write_token-requires
write_token-requires c = omega (arith, c.requires.room, ap length (other (goal.at.write_token-requires c).Then-here-ne1))

pub returns-then-here-ne1-clause-next : goal.returns-then-here-ne1-clause-next
returns-then-here-ne1-clause-next c = omega (arith, c.write_token.ensures.next, ap length (other (goal.at.returns-then-here-ne1-clause-next c).Then-here-ne1))

pub returns-then-here-ne1-clause-wrote : goal.returns-then-here-ne1-clause-wrote
returns-then-here-ne1-clause-wrote c = c.write_token.ensures.wrote ∙ ap (sets c.args.out.now c.args.to) (sym (other (goal.at.returns-then-here-ne1-clause-wrote c).Then-here-ne1))

pub write_token-requires-2 : goal.write_token-requires-2
write_token-requires-2 c = omega (arith, c.requires.room, ap length (own (goal.at.write_token-requires-2 c).In_default))

pub returns-clause-next : goal.returns-clause-next
returns-clause-next c = omega (arith, c.write_token-2.ensures.next, ap length (own (goal.at.returns-clause-next c).In_default))

pub returns-clause-wrote : goal.returns-clause-wrote
returns-clause-wrote c = c.write_token-2.ensures.wrote ∙ ap (sets c.args.out.now c.args.to) (sym (own (goal.at.returns-clause-wrote c).In_default))
