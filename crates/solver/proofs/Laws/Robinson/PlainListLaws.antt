-- Plain pairs by the terms as they were posed: after a list of orders whose pairs are all posed plain, whatever their answers and with whatever number requests
-- and defaults between, a plain term resolves to a plain one.
use mathlib.Core.Path.{◌≡◌, refl, sym, ap₂, ◌∙◌, subst}
use mathlib.Core.Bool.{Bool, true, false, ◌||◌}
use mathlib.Core.List.{List, [], ◌∷◌}
use mathlib.Core.Option.{none}
use Prim.Native.Nat.{ℕ}
use Rattle.terms.specs.Term.{Term, node, end, num}
use Rattle.terms.specs.Questions.{among}
use Rattle.unify.specs.Term as tree
use Rattle.unify.specs.Term.{Sort, Tree, nil, ◌▸◌}
use Rattle.unify.specs.Orders.{Run}
use Rattle.unify.proofs.RobinsonPair.{Simple}
use Rattle.unify.proofs.PlainLists.{SimplePairs, PlainRun, obey_plain, plain_begin, run_simple}
use Rattle.solver.specs.Families.{taken}
use Rattle.solver.specs.Shapes.{Notion, notion, read, read_all}
use Rattle.solver.specs.Constrain.{Pair, resolved, occurs, recovery, projects}
use Rattle.solver.specs.Session.{Limits, Session, find, fresh, never}
use Rattle.solver.specs.Orders.{Command, run}
use Rattle.solver.specs.Demand3.{History, beginning, after, history, outside}
use Rattle.solver.specs.RobinsonPair.{FirstOrderIn, Pure, AllPure}
use Rattle.solver.proofs.Laws.Theory.TheoryView.{T, view, view_injective, meets_view, some_of}
use Rattle.solver.proofs.Laws.Theory.Signature.{S}
use Rattle.solver.proofs.Laws.Theory.TheoryViewLaws.{viewed, view_read}
use Rattle.solver.proofs.Laws.Theory.ConstrainView.{view_pairs, fallback}
use Rattle.solver.proofs.Laws.Theory.TheorySimulation.{TheSession, view_run, view_command, strict, order_view}
use Rattle.solver.proofs.Laws.Theory.Demand3Laws.{odd, outside_odd}
use Rattle.solver.proofs.Laws.Definition.InvariantLaws.{history_run}
use Rattle.solver.proofs.Laws.Definition.NotionLaws.{notion_codes}
use Rattle.solver.proofs.Laws.Robinson.RobinsonPairLaws.{simple_view, seen}

-- ---- from trees to terms

neither : (a b : Bool) → a ≡ false → b ≡ false → (a || b) ≡ false
neither a b p q = cc

tree_plain : (m : Term → Term) {s : Sort} (t : Tree Term s) → Simple S m t → some_of (λ v. false) odd t ≡ false
unfolding some_of odd
tree_plain m (tree.var v) p = refl
tree_plain m (tree.node h ts) p =
    neither (recovery h || projects h) (some_of (λ v. false) odd ts) (neither (recovery h) (projects h) p.0 p.1) (tree_plain m ts p.3)
tree_plain m nil p = refl
tree_plain m (t ▸ ts) p = neither (some_of (λ v. false) odd t) (some_of (λ v. false) odd ts) (tree_plain m t p.0) (tree_plain m ts p.1)

tree_unmarked : (m : Term → Term) {s : Sort} (t : Tree Term s) → Simple S m t → tree.map m t ≡ t
unfolding tree.map
tree_unmarked m (tree.var v) p = refl
tree_unmarked m (tree.node h ts) p = ap₂ tree.node p.2 (tree_unmarked m ts p.3)
tree_unmarked m nil p = refl
tree_unmarked m (t ▸ ts) p = ap₂ ◌▸◌ (tree_unmarked m t p.0) (tree_unmarked m ts p.1)

view_pure : (n : Notion) (t : Term) → Simple S (read n) (view t) → Pure n t
unfolding outside
view_pure n t p = (
  meets_view outside odd outside_odd t ∙ tree_plain (read n) (view t) p,
  view_injective (read_all n t) t (view_read n t ∙ tree_unmarked (read n) (view t) p),
)

pairs_view : (n : Notion) (ps : List Pair) → AllPure n ps → SimplePairs S (read n) (view_pairs ps)
pairs_view n [] p = tt
pairs_view n (x ∷ ps) p = (simple_view n x.0 p.0.0 p.0.1, simple_view n x.1 p.1.0 p.1.1, pairs_view n ps p.2)

-- ---- after a list of orders, whose pairs may be posed strictly or not

module _ (lim : Limits) (n : Notion) (codes_count : n 4 ≡ false) where
  -- what defaults take is plain
  simple_builtin : (c : ℕ) → Simple S (read n) (tree.node (node 4 (num c end)) nil)
  unfolding recovery projects among read
  simple_builtin c = (refl, refl, rw codes_count refl, tt)

  abbrev Keeps : Run S TheSession → Type 0
  Keeps x = PlainRun S (read n) fallback never (λ r o. simple_builtin (taken r o)) (simple_builtin 10) x

  all_kept : (h : History) → Keeps (view_run h) → (cs : List Command) → Keeps (view_run (history lim h cs))
  unfolding history
  all_kept h y [] = y
  all_kept h y (c ∷ cs) = all_kept (after lim h c) (subst (λ (x : Run S TheSession). Keeps x) (order_view lim h c)
      (obey_plain S (read n) fallback never (λ r o. simple_builtin (taken r o)) (simple_builtin 10) (read (notion (strict c))) (view_run h) y (view_command lim h.session c))) cs

  abbrev h : List Command → History
  h cs = history lim beginning cs

  kept : (cs : List Command) → Keeps (view_run (h cs))
  unfolding viewed find
  kept cs = all_kept beginning (plain_begin S (read n) fallback never (λ r o. simple_builtin (taken r o)) (simple_builtin 10)) cs

  resolved_pure : (cs : List Command) → AllPure n (h cs).posed → (t : Term) → Pure n t → Pure n (resolved (h cs).session.solver t)
  resolved_pure cs p t q =
      view_pure n (resolved (h cs).session.solver t)
      (subst (λ (x : T). Simple S (read n) x) (sym (seen (h cs).session t))
      (run_simple S (read n) fallback never (λ r o. simple_builtin (taken r o)) (simple_builtin 10) (view_run (h cs)) (kept cs) (pairs_view n (h cs).posed p) (view t) (simple_view n t q.0 q.1)))

  -- A TERM POSED PLAIN RESOLVES TO A PLAIN ONE, after every list of orders whose posed pairs are so, whatever they were answered.
  posed_plain_of : (cs : List Command) → AllPure n (h cs).posed → (t : Term) → Pure n t
      → ((v : ℕ) → occurs v (resolved (run lim fresh cs).solver t) ≡ true → (run lim fresh cs).solver.requests v ≡ none) → FirstOrderIn n (run lim fresh cs) t
  posed_plain_of cs p t q = subst (λ (s : Session). ((v : ℕ) → occurs v (resolved s.solver t) ≡ true → s.solver.requests v ≡ none) → FirstOrderIn n s t)
      (history_run lim beginning cs)
      (λ a. let r = resolved_pure cs p t q in record { plain = r.0; unmarked = r.1; numberless = a })

  -- and where no number was requested, no variable has a request
  unrequested_of : (cs : List Command) → ((v : ℕ) → (h cs).requests v ≡ none) → (v : ℕ) → (run lim fresh cs).solver.requests v ≡ none
  unrequested_of cs a = subst (λ (s : Session). (v : ℕ) → s.solver.requests v ≡ none) (history_run lim beginning cs) ((kept cs).unasked a)

-- by the order that poses the term's pair
pub posed_plain : (lim : Limits) (b : Bool) (cs : List Command) → AllPure (notion b) (history lim beginning cs).posed → (t : Term) → Pure (notion b) t
    → ((v : ℕ) → occurs v (resolved (run lim fresh cs).solver t) ≡ true → (run lim fresh cs).solver.requests v ≡ none) → FirstOrderIn (notion b) (run lim fresh cs) t
posed_plain lim b cs = posed_plain_of lim (notion b) (notion_codes b) cs

pub unrequested : (lim : Limits) (cs : List Command) → ((v : ℕ) → (history lim beginning cs).requests v ≡ none) → (v : ℕ) → (run lim fresh cs).solver.requests v ≡ none
unrequested lim cs = unrequested_of lim (notion false) (notion_codes false) cs
