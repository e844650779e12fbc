-- The Unification Theorem on terms, and demand 2 on plain first-order pairs: the solver answers as Robinson's algorithm does, and what its
-- variables resolve to is a most general unifier.
use mathlib.Core.Path.{◌≡◌, refl, sym, ap, ap₂, ◌∙◌, subst}
use mathlib.Core.Bool.{Bool, true, false}
use mathlib.Core.List.{List, [], ◌∷◌}
use mathlib.Core.Logic.{◌⊎◌, inl, inr, ◌↔◌}
use Prim.Native.Nat.{ℕ}
use lib.ListN.{length}
use Rattle.terms.specs.Term.{Term, Parts, var, node, num, sub}
use Rattle.unify.specs.Term as tree
use Rattle.unify.specs.Term.{Sort, Tree, nil, ◌▸◌, sub_ext, sub-sub, sub_fix}
use Rattle.unify.specs.Solver.{State}
use Rattle.unify.specs.Orders as theirs
use Rattle.unify.specs.Orders.{Run, Order}
use Rattle.unify.proofs.Demand as demand
use Rattle.unify.specs.Table.{Table, answer}
use Rattle.unify.proofs.Refine.{over, table_end, table_means}
use Rattle.unify.specs.Session as session
use Rattle.unify.proofs.Whole.{sheet_means}
use Rattle.unify.specs.Mixes as mixes
use Rattle.unify.proofs.MixLaws as mix-laws
use Rattle.unify.proofs.Robinson.{Unifies as UnifiesTrees, NoNumbers, Robinson, Normal, NormalPairs, robinson_loose}
use Rattle.unify.specs.Robinson1965 as paper
use Rattle.unify.proofs.Unification1965 as theorem
use Rattle.solver.specs.Shapes.{Notion, notion, read}
use Rattle.solver.specs.Constrain.{Pair, replace, replace_row}
use Rattle.solver.specs.Session.{Limits, fresh, never}
use Rattle.solver.specs.Orders.{Command}
use Rattle.solver.specs.Demand3.{History, beginning, history}
use Rattle.solver.specs.Robinson.{Substitution, value, Outcome, going, unifier, without, unification, lefts, rights, tuple}
use Rattle.solver.specs.Robinson.{Unifies, Instance, MostGeneral, resolves, UnmarkedPairs, FirstOrder, Decides}
use Rattle.solver.proofs.Laws.Theory.TheoryView.{T, view, view_injective}
use Rattle.solver.proofs.Laws.Theory.Signature.{S, term?}
use Rattle.solver.proofs.Laws.Theory.TheoryViewLaws.{view_replace, view_resolve, view_read}
use Rattle.solver.proofs.Laws.Theory.ConstrainView.{view_table, view_pairs, fallback}
use Rattle.solver.proofs.Laws.Theory.TheorySimulation.{TheSession, view_run}
use Rattle.solver.proofs.Laws.Theory.MixView.{norm, Mix, view_all, mix_only}
use Rattle.solver.proofs.Laws.Theory.Demand3Laws.{respects, respects_by, plain_pairs_view, led, all_allowed}
use Rattle.solver.proofs.Laws.Definition.NotionLaws.{notion_codes}
use Rattle.solver.proofs.Laws.Robinson.RobinsonView.{laid, laid_injective, laid_replace, laid_all, value_laid, inst_laid, laid_outcome, unification_laid}

-- ---- the Unification Theorem

module _ (t u : Term) where
  -- THE ALGORITHM ENDS
  pub ends : (σ : Substitution) → ¬ (unification t u ≡ going σ)
  unfolding laid_outcome
  ends σ e = theorem.ends term? (laid t) (laid u) (laid_all σ) (unification_laid t u ∙ ap laid_outcome e)

  unifier_laid : (θ : ℕ → Term) → replace θ t ≡ replace θ u → paper.Unifier (λ v. laid (θ v)) (laid t) (laid u)
  unifier_laid θ q = sym (laid_replace θ t) ∙ ap laid q ∙ laid_replace θ u

  -- with σ: it unifies, and every unifier θ is σθ;
  pub with_unifier : (σ : Substitution) → unification t u ≡ unifier σ
      → (replace (value σ) t ≡ replace (value σ) u) × ((θ : ℕ → Term) → replace θ t ≡ replace θ u → (v : ℕ) → θ v ≡ replace θ (value σ v))
  unfolding laid_outcome
  with_unifier σ e =
      let g = theorem.with_unifier term? (laid t) (laid u) (laid_all σ) (unification_laid t u ∙ ap laid_outcome e) in (
        laid_injective (replace (value σ) t) (replace (value σ) u) (inst_laid t σ ∙ g.0.unifies ∙ sym (inst_laid u σ)),
        λ θ q v. laid_injective (θ v) (replace θ (value σ v))
            (g.1 (λ v. laid (θ v)) (unifier_laid θ q) v ∙ ap (λ (x : T). tree.sub (λ v. laid (θ v)) x) (sym (value_laid σ v)) ∙ sym (laid_replace θ (value σ v))),
      )

  -- or without: there is no unifier.
  pub without_unifier : unification t u ≡ without → (θ : ℕ → Term) → ¬ (replace θ t ≡ replace θ u)
  unfolding laid_outcome
  without_unifier e θ q = theorem.without_unifier term? (laid t) (laid u) (unification_laid t u ∙ ap laid_outcome e) (λ v. laid (θ v)) (unifier_laid θ q)

  pub either : ((σ : Substitution) × (unification t u ≡ unifier σ)) ⊎ (unification t u ≡ without)
  either = go (unification t u) refl
    where
      go : (o : Outcome) → unification t u ≡ o → ((σ : Substitution) × (unification t u ≡ unifier σ)) ⊎ (unification t u ≡ without)
      go (going σ) e = absurd (ends σ e)
      go (unifier σ) e = inl (σ, e)
      go without e = inr e

-- ---- pairs that were answered, and the algorithm

-- `wrong` is that some pair was answered incompatible, `res` what the variables resolve to
record Found (wrong : Bool) (res : ℕ → Term) (ps : List Pair) : Type 0 where
  pub none_left : wrong ≡ true → (θ : ℕ → Term) → ¬ Unifies θ ps
  pub unifies : wrong ≡ false → Unifies res ps
  pub general : wrong ≡ false → (θ : ℕ → Term) → Unifies θ ps → (v : ℕ) → θ v ≡ replace θ (res v)

unfoldable wrong? : (b : Bool) → (b ≡ true) ⊎ (b ≡ false)
wrong? true = inl refl
wrong? false = inr refl

-- two terms whose unifiers are those of the pairs
module _ (ps : List Pair) (t u : Term) (to : (θ : ℕ → Term) → Unifies θ ps → replace θ t ≡ replace θ u) (from : (θ : ℕ → Term) → replace θ t ≡ replace θ u → Unifies θ ps)
    (wrong : Bool) (res : ℕ → Term) (f : Found wrong res ps) where
  abbrev Ended : Type 0
  Ended = ((σ : Substitution) × (unification t u ≡ unifier σ)) ⊎ (unification t u ≡ without)

  compatible_if : (θ : ℕ → Term) → Unifies θ ps → wrong ≡ false
  compatible_if θ q = go (wrong? wrong)
    where
      go : (wrong ≡ true) ⊎ (wrong ≡ false) → wrong ≡ false
      go (inl w) = absurd (f.none_left w θ q)
      go (inr w) = w

  clashing_iff : (wrong ≡ true) ↔ ((θ : ℕ → Term) → ¬ Unifies θ ps)
  clashing_iff = (λ w. f.none_left w, λ g. go g (wrong? wrong))
    where
      go : ((θ : ℕ → Term) → ¬ Unifies θ ps) → (wrong ≡ true) ⊎ (wrong ≡ false) → wrong ≡ true
      go g (inl w) = w
      go g (inr w) = absurd (g res (f.unifies w))

  unifiable_iff : (wrong ≡ false) ↔ ((θ : ℕ → Term) × Unifies θ ps)
  unifiable_iff = (λ w. (res, f.unifies w), λ x. compatible_if x.0 x.1)

  found_unifier : (σ : Substitution) → unification t u ≡ unifier σ → Unifies (value σ) ps
  found_unifier σ e = from (value σ) (with_unifier t u σ e).0

  incompatible_iff : (wrong ≡ true) ↔ (unification t u ≡ without)
  incompatible_iff = (
    λ w. go w (either t u),
    λ e. clashing_iff.1 (λ θ q. without_unifier t u e θ (to θ q)),
  )
    where
      go : wrong ≡ true → Ended → unification t u ≡ without
      go w (inl x) = absurd (f.none_left w (value x.0) (found_unifier x.0 x.1))
      go w (inr e) = e

  compatible_iff : (wrong ≡ false) ↔ ((σ : Substitution) × (unification t u ≡ unifier σ))
  compatible_iff = (λ w. go w (either t u), λ x. compatible_if (value x.0) (found_unifier x.0 x.1))
    where
      go : wrong ≡ false → Ended → (σ : Substitution) × (unification t u ≡ unifier σ)
      go w (inl x) = x
      go w (inr e) = absurd (without_unifier t u e res (to res (f.unifies w)))

  resolved_if : (σ : Substitution) → unification t u ≡ unifier σ → MostGeneral (value σ) ps × MostGeneral res ps × Instance (value σ) res × Instance res (value σ)
  resolved_if σ e =
      let g = (with_unifier t u σ e).1 in
      let q = found_unifier σ e in
      let w = compatible_if (value σ) q in (
        record { unifies = q; general = λ θ x. (θ, g θ (to θ x)) },
        record { unifies = f.unifies w; general = λ θ x. (θ, f.general w θ x) },
        (value σ, f.general w (value σ) q),
        (res, g res (to res (f.unifies w))),
      )

-- the Tuples of pairs
to_rows : (θ : ℕ → Term) (ps : List Pair) → Unifies θ ps → replace_row θ (lefts ps) ≡ replace_row θ (rights ps)
unfolding lefts rights replace
to_rows θ [] q = refl
to_rows θ (p ∷ ps) q = ap₂ sub q.0 (to_rows θ ps q.1)

from_rows : (θ : ℕ → Term) (ps : List Pair) → replace_row θ (lefts ps) ≡ replace_row θ (rights ps) → Unifies θ ps
unfolding lefts rights replace
from_rows θ [] q = tt
from_rows θ (p ∷ ps) q =
    let a : replace θ p.0 ≡ replace θ p.1 = cc in
    let b : replace_row θ (lefts ps) ≡ replace_row θ (rights ps) = cc in
    (a, from_rows θ ps b)

to_tuples : (ps : List Pair) (θ : ℕ → Term) → Unifies θ ps → replace θ (tuple (length ps) (lefts ps)) ≡ replace θ (tuple (length ps) (rights ps))
unfolding replace
to_tuples ps θ q = ap (λ (r : Parts). node 5 (num (length ps) r)) (to_rows θ ps q)

from_tuples : (ps : List Pair) (θ : ℕ → Term) → replace θ (tuple (length ps) (lefts ps)) ≡ replace θ (tuple (length ps) (rights ps)) → Unifies θ ps
unfolding replace
from_tuples ps θ q = let a : replace_row θ (lefts ps) ≡ replace_row θ (rights ps) = cc in from_rows θ ps a

decides_of : (h : History) → Found h.incompatible (resolves h.session) h.posed → Decides h
decides_of h f =
    let ps = h.posed in
    let t = tuple (length ps) (lefts ps) in
    let u = tuple (length ps) (rights ps) in
    let w = h.incompatible in
    let r = resolves h.session in
    record {
      clashing = clashing_iff ps t u (to_tuples ps) (from_tuples ps) w r f;
      incompatible = incompatible_iff ps t u (to_tuples ps) (from_tuples ps) w r f;
      unifiable = unifiable_iff ps t u (to_tuples ps) (from_tuples ps) w r f;
      compatible = compatible_iff ps t u (to_tuples ps) (from_tuples ps) w r f;
      resolved_so = resolved_if ps t u (to_tuples ps) (from_tuples ps) w r f;
    }

-- ---- from the theory

-- a term that reading leaves as it is
pub normal_map : (m : Term → Term) {s : Sort} (t : Tree Term s) → tree.map m t ≡ t → Normal S m t
unfolding tree.map
normal_map m (tree.var v) e = tt
normal_map m (tree.node h ts) e = let a : m h ≡ h = cc in let b : tree.map m ts ≡ ts = cc in (a, normal_map m ts b)
normal_map m nil e = tt
normal_map m (t ▸ ts) e = let a : tree.map m t ≡ t = cc in let b : tree.map m ts ≡ ts = cc in (normal_map m t a, normal_map m ts b)

normal_pairs : (n : Notion) (ps : List Pair) → UnmarkedPairs n ps → NormalPairs S (read n) (view_pairs ps)
normal_pairs n [] e = tt
normal_pairs n (p ∷ ps) e = (
  normal_map (read n) (view p.0) (sym (view_read n p.0) ∙ ap view e.0),
  normal_map (read n) (view p.1) (sym (view_read n p.1) ∙ ap view e.1),
  normal_pairs n ps e.2,
)

abbrev viewing : (ℕ → Term) → ℕ → T
viewing θ v = view (θ v)

view_unifies : (θ : ℕ → Term) (ps : List Pair) → Unifies θ ps → UnifiesTrees S (viewing θ) (view_pairs ps)
view_unifies θ [] q = tt
view_unifies θ (p ∷ ps) q = (sym (view_replace θ p.0) ∙ ap view q.0 ∙ view_replace θ p.1, view_unifies θ ps q.1)

unifies_view : (θ : ℕ → Term) (ρ : ℕ → T) → ((v : ℕ) → viewing θ v ≡ ρ v) → (ps : List Pair) → UnifiesTrees S ρ (view_pairs ps) → Unifies θ ps
unifies_view θ ρ e [] q = tt
unifies_view θ ρ e (p ∷ ps) q =
    let at : (t : Term) → view (replace θ t) ≡ tree.sub ρ (view t) = λ t. view_replace θ t ∙ sub_ext (view t) (λ v i. e v) in
    (view_injective (replace θ p.0) (replace θ p.1) (at p.0 ∙ q.0 ∙ sym (at p.1)), unifies_view θ ρ e ps q.1)

found_view : (wrong : Bool) (res : ℕ → Term) (ρ : ℕ → T) (ps : List Pair) → ((v : ℕ) → viewing res v ≡ ρ v) → Robinson S wrong ρ (view_pairs ps) → Found wrong res ps
unfolding tree.sub
found_view wrong res ρ ps e r = record {
  none_left = λ w θ q. r.none_left w (viewing θ) (view_unifies θ ps q);
  unifies = λ w. unifies_view res ρ e ps (r.most_general w).unifies;
  general = λ w θ q v.
      let x = (r.most_general w).general (viewing θ) (view_unifies θ ps q) in
      let δ = x.0 in
      let idem : tree.sub ρ (ρ v) ≡ ρ v = sub_fix ρ (ρ v) (λ w i. r.idempotent v w i) in
      view_injective (θ v) (replace θ (res v)) (
      x.1 v ∙ ap (λ (t : T). tree.sub δ t) (sym idem) ∙ sub-sub δ ρ (ρ v)
      ∙ sym (sub_ext (ρ v) (λ y i. x.1 y))
      ∙ ap (λ (t : T). tree.sub (viewing θ) t) (sym (e v)) ∙ sym (view_replace θ (res v))
      );
}

module _ (n : Notion) (codes_count : n 4 ≡ false) where
  abbrev AsRobinson : {X : Type 0} → Run S X → (ℕ → T) → Type 0
  AsRobinson x ρ = NormalPairs S (read n) x.posed → demand.Premises S (read n) (respects n codes_count) x → NoNumbers S x → Robinson S x.wrong ρ x.posed

  over_orders : (os : List (Order S)) → AsRobinson (demand.end S (read n) (respects n codes_count) os) (demand.end S (read n) (respects n codes_count) os).state.res
  over_orders os = robinson_loose S (read n) (respects n codes_count) os

  over_table : (os : List (Order S)) → AsRobinson (table_end S (read n) (respects n codes_count) os) (λ v. answer S (table_end S (read n) (respects n codes_count) os).state (tree.var v))
  over_table os =
      let a = table_means S (read n) (respects n codes_count) os in
      let x = table_end S (read n) (respects n codes_count) os in
      let b : AsRobinson (over S (read n) (respects n codes_count) x a.0) a.0.res = subst (λ (y : Run S (State S)). AsRobinson y y.state.res) a.1 (over_orders os) in
      subst (λ (ρ : ℕ → T). AsRobinson x ρ) a.2 b

  over_sheet : (ds : List (session.Command S)) → session.AllAllowed S fallback never (read n) (theirs.fresh S (session.session_begin S fallback never)) ds
      → AsRobinson (session.sheet S fallback never (read n) ds) (λ v. answer S (session.sheet S fallback never (read n) ds).state.table (tree.var v))
  over_sheet ds a =
      let e = sheet_means S fallback never (read n) (respects n codes_count) ds a in
      subst (λ (y : Run S (Table S)). AsRobinson y (λ v. answer S y.state (tree.var v))) (sym e.1) (over_table e.0)

module _ (lim : Limits) (b : Bool) where
  found : (cs : List Command) → FirstOrder lim b cs
      → Found (history lim beginning cs).incompatible (resolves (history lim beginning cs).session) (history lim beginning cs).posed
  unfolding view
  found cs f =
      let h = history lim beginning cs in
      let p = f.premises in
      let start = mixes.mix_begin S fallback never Bool norm in
      let all = view_all lim fresh cs in
      let only = mix_only lim b beginning cs f.only in
      let e : session.sheet S fallback never (norm b) (mixes.commands S Bool all) ≡ view_run h
      = sym (mix-laws.pure S fallback never Bool norm respects_by b start all only) ∙ ap (λ (x : Mix). x.run) (led lim cs) in
      let r = subst (λ (x : Run S TheSession). AsRobinson (notion b) (notion_codes b) x (λ v. answer S x.state.table (tree.var v))) e
      (over_sheet (notion b) (notion_codes b) (mixes.commands S Bool all) (mix-laws.pure_allowed S fallback never Bool norm respects_by b start all only (all_allowed lim cs p))) in
      found_view h.incompatible (resolves h.session) (λ v. answer S (view_table h.session.solver) (tree.var v)) h.posed
      (λ v. view_resolve h.session.solver.revision h.session.solver.bindings (var v))
      (r (normal_pairs (notion b) h.posed f.unmarked) (p.none_cancelled, plain_pairs_view h.posed p.pairs) f.numberless)

  -- ROBINSON 1965 DECIDES: for every list of orders 0 to 8, 21 and 22 given in turn to a fresh session, whose pairs are plain first-order ones, all posed by order 4
  -- (up to Set and Map access) or all strictly
  pub robinson : (cs : List Command) → FirstOrder lim b cs → Decides (history lim beginning cs)
  robinson cs f = decides_of (history lim beginning cs) (found cs f)
