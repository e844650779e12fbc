-- The rows of orders 9 to 20, which answer and leave the session as it was.
use Rattle.std.specs.Prelude.{Bool, true, false, List, [], ◌∷◌, map, ℕ, suc}
use Rattle.std.proofs.Math.Option.{Option, none, some}
use Rattle.solver.specs.Terms.Result.{pick}
use Rattle.solver.specs.Terms.Term.{Term, bytes}
use Rattle.solver.specs.Terms.Tree.{Nominal, nominal_of}
use Rattle.solver.specs.Terms.Questions.{answered, is_resolved_in}
use Rattle.solver.specs.Terms.Comparison.{conflicts_with, can_weaken_to, satisfies, satisfies_for}
use Rattle.solver.specs.Terms.Recovery.{recover_from}
use Rattle.solver.specs.Terms.Substitution as substitution
use Rattle.solver.specs.Terms.Substitution.{Receiver, TypeSubstitution, apply}
use Rattle.solver.specs.Terms.Lookup.{Pattern}
use Rattle.solver.specs.Terms.Normal as normal
use Rattle.solver.specs.Terms.Normal.{Rule, Out, normalize}
use Rattle.sheet.specs.Fields.{Field, nth, row_of, entries_of, receivers_of, parameters_of, arguments_of, rules_of, term_at}
use Rattle.sheet.specs.Fields.{term, nominal, receiver, entries, receivers, parameters, arguments, rules}
use Rattle.sheet.specs.OrderTable.{Answer, refusal, outcome, Act, tells, answers, Row}

abbrev pub nominal_at : ℕ → List Field → Nominal
nominal_at i fs = nominal_of (row_of (nth i fs))

-- the entries and the receivers that stand at i and after it
abbrev pub substitution_at : ℕ → List Field → TypeSubstitution
substitution_at i fs = record { parameters = entries_of (nth i fs); receivers = receivers_of (nth (suc i) fs) }

-- a rule, its interface as a nominal
abbrev pub rule_of : Pattern → Rule
rule_of p = record { interface = nominal_of p.interface; receiver = p.receiver; member = p.member; arguments = p.arguments; value = p.value }

abbrev pub bit : Bool → ℕ
bit false = 0
bit true = 1

unfoldable pub bits : List Bool → List ℕ
bits [] = []
bits (b ∷ bs) = bit b ∷ bits bs

-- order 18: "0, or 1 and a term"
unfoldable pub perhaps : Option Term → List ℕ
perhaps none = 0 ∷ []
perhaps (some t) = 1 ∷ bytes t

-- orders 19 and 20: the term, or refusal 9
unfoldable pub settled : Out → Answer
settled o = pick (normal.refused o) (refusal 9) (outcome (bytes o.term))

-- ---- each order on its fields

abbrev pub compared : (Term → Term → Bool) → List Field → Answer
compared f fs = outcome (bit (f (term_at 0 fs) (term_at 1 fs)) ∷ [])

abbrev pub recovered : List Field → Answer
recovered fs = outcome (bytes (recover_from (term_at 0 fs) (term_at 1 fs)))

abbrev pub instantiated : List Field → Answer
instantiated fs = outcome (bytes (substitution.instantiate (substitution_at 0 fs) (term_at 2 fs)))

abbrev pub in_context_of : List Field → Answer
in_context_of fs = outcome (bytes (substitution.argument_context (substitution_at 0 fs) (parameters_of (nth 2 fs)) (term_at 3 fs)))

-- by the one receiver
unfoldable pub by_receiver : List Receiver → Term → Term
by_receiver [] t = t
by_receiver (r ∷ rs) t = substitution.with_self r.owner r.term t

abbrev pub with_self_of : List Field → Answer
with_self_of fs = outcome (bytes (by_receiver (receivers_of (nth 0 fs)) (term_at 1 fs)))

-- "the first seven questions, a byte each in the order above"
abbrev pub seven : Term → List ℕ
seven t = bits (answered 0 t ∷ answered 1 t ∷ answered 2 t ∷ answered 3 t ∷ answered 4 t ∷ answered 5 t ∷ answered 6 t ∷ [])

abbrev pub questioned : List Field → Answer
questioned fs = outcome (seven (term_at 0 fs))

abbrev pub resolved_in_of : List Field → Answer
resolved_in_of fs = outcome (bit (is_resolved_in (parameters_of (nth 0 fs)) (term_at 1 fs)) ∷ [])

abbrev pub satisfying : List Field → Answer
satisfying fs = outcome (bits (satisfies (nominal_at 0 fs) (nominal_at 1 fs) ∷ satisfies_for (nominal_at 0 fs) (nominal_at 1 fs) (term_at 2 fs) ∷ []))

abbrev pub applied : List Field → Answer
applied fs = outcome (perhaps (apply (parameters_of (nth 0 fs)) (term_at 1 fs) (substitution_at 2 fs) (arguments_of (nth 4 fs))))

abbrev pub associated : List Field → Answer
associated fs = settled (normal.with_associated_types (term_at 0 fs) (nominal_at 1 fs) (term_at 2 fs))

abbrev pub normalised : List Field → Answer
normalised fs = settled (normalize (map rule_of (rules_of (nth 0 fs))) (term_at 1 fs))

-- ---- the rows

-- "9 conflicts, 10 weakens: two terms, 0 or 1."
abbrev pub conflicts : Row
conflicts = record { number = 9; layout = term ∷ term ∷ []; act = answers (λ fs. compared conflicts_with fs) }

abbrev pub weakens : Row
weakens = record { number = 10; layout = term ∷ term ∷ []; act = answers (λ fs. compared can_weaken_to fs) }

-- "11 recover: left, right."
abbrev pub recover : Row
recover = record { number = 11; layout = term ∷ term ∷ []; act = answers (λ fs. recovered fs) }

-- "12 instantiate: substitution (count of owner, position, term; count of owner, term), term."
abbrev pub instantiate : Row
instantiate = record { number = 12; layout = entries ∷ receivers ∷ term ∷ []; act = answers (λ fs. instantiated fs) }

-- "13 argument context: substitution, parameters (count of owner, position), term."
abbrev pub argument_context : Row
argument_context = record { number = 13; layout = entries ∷ receivers ∷ parameters ∷ term ∷ []; act = answers (λ fs. in_context_of fs) }

-- "14 `with_self`: owner, replacement, term."
abbrev pub with_self : Row
with_self = record { number = 14; layout = receiver ∷ term ∷ []; act = answers (λ fs. with_self_of fs) }

-- "15: term"
abbrev pub questions : Row
questions = record { number = 15; layout = term ∷ []; act = answers (λ fs. questioned fs) }

-- "16 resolved in: parameters, term."
abbrev pub resolved_in : Row
resolved_in = record { number = 16; layout = parameters ∷ term ∷ []; act = answers (λ fs. resolved_in_of fs) }

-- "17: nominal, required nominal, receiver; two bytes"
abbrev pub satisfied : Row
satisfied = record { number = 17; layout = nominal ∷ nominal ∷ term ∷ []; act = answers (λ fs. satisfying fs) }

-- "18 family: parameters, value, substitution, count, arguments"
abbrev pub family : Row
family = record { number = 18; layout = parameters ∷ term ∷ entries ∷ receivers ∷ arguments ∷ []; act = answers (λ fs. applied fs) }

-- "19 `with_associated_types`: term, interface, owner term."
abbrev pub with_associated_types : Row
with_associated_types = record { number = 19; layout = term ∷ nominal ∷ term ∷ []; act = answers (λ fs. associated fs) }

-- "20 normalise: count, rules, term."
abbrev pub normalise : Row
normalise = record { number = 20; layout = rules ∷ term ∷ []; act = answers (λ fs. normalised fs) }

unfoldable pub operations : List Row
operations =
    conflicts ∷ weakens ∷ recover ∷ instantiate ∷ argument_context ∷ with_self ∷ questions ∷ resolved_in ∷ satisfied ∷ family ∷ with_associated_types ∷ normalise ∷ []

-- what such an order answers; an order of the session has its answer from there
abbrev pub answer_by : Act → List Field → Answer
answer_by (tells f) fs = outcome []
answer_by (answers f) fs = f fs

unfoldable pub operation : Row → List Field → Answer
operation r fs = answer_by r.act fs
