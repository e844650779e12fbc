-- `default_of`. By the word.
use mathlib.Core.Path.{sym}
use Rattle.solver.proofs.Laws.Resolving.DefaultWordLaws.{default_low, default_high}
use Rattle.solver.proofs.resolving.default_of.Goals as goal

pub returns-then-word-lt-DEFAULTS : goal.returns-then-word-lt-DEFAULTS
returns-then-word-lt-DEFAULTS c = sym (default_low c.args.word c.if-word-lt-DEFAULTS.true)

pub returns : goal.returns
returns c = sym (default_high c.args.word c.if-word-lt-DEFAULTS.false)
