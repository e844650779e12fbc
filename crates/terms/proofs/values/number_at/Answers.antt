-- By the cases of `rising`.
use Rattle.std.proofs.Common.{sym}
use Rattle.terms.proofs.Laws.General.Options.{handed_on}
use Rattle.terms.proofs.Laws.Numbers.NumberBoundLaws.{number_bounds}
use Rattle.terms.proofs.Laws.Format.FieldLaws.{rising_refused, rising_low, rising_got}
use Rattle.terms.proofs.values.number_at.Goals as goal

pub returns-in_err-v-clause-found : goal.returns-in_err-v-clause-found
returns-in_err-v-clause-found c = rw (handed_on _ _ c.from_residual.ensures.1) (rising_refused _ _ _ _ _ c.in_err-v.ensures)

pub returns-then-v-least-clause-found : goal.returns-then-v-least-clause-found
returns-then-v-least-clause-found c = rising_low _ _ _ _ _ _ c.in_ok-v.ensures c.if-v-least.true

pub returns-clause-found : goal.returns-clause-found
returns-clause-found c = rising_got _ _ _ _ _ _ c.in_ok-v.ensures c.if-v-least.false

pub returns-clause-within : goal.returns-clause-within
returns-clause-within c = let b = number_bounds c.args.most c.args.s.now c.args.at _ _ c.requires (sym c.in_ok-v.ensures) in (b.small, b.after, b.inside)
