-- A compatible pair posed again, whose terms hold no Unknown and no Error: at once or after other orders, with whatever checks, it binds nothing and is not
-- incompatible, and with as many checks as it took the first time it is compatible. Carried over from the theory.
use mathlib.Core.Path.{◌≡◌, refl, sym, ap, ap₂, ◌∙◌, subst, fun_ext}
use mathlib.Core.Bool.{Bool, true, false, ◌&&◌}
use mathlib.Core.List.{List, [], ◌∷◌}
use mathlib.Core.Logic.{◌⊎◌, inl, inr}
use mathlib.Core.Option.{Option, none, some}
use Prim.Native.Nat.{ℕ, ◌+◌, ◌<◌}
use native.Mathlib.Omega.{arith}
use Rattle.terms.specs.Term.{Term, size}
use Rattle.unify.specs.Term.{clash}
use Rattle.unify.specs.Solver.{Out, cancelled, done, any_soft}
use Rattle.unify.specs.Table.{Table, answer, table_poses}
use Rattle.unify.proofs.Again as theory
use Rattle.unify.proofs.Again.{table_again}
use Rattle.solver.specs.Families.{Request}
use Rattle.solver.specs.Shapes.{Notion, notion, read}
use Rattle.solver.specs.Constrain.{Solver, resolved, recovers, constrain}
use Rattle.solver.specs.Session.{Limits, Session, issued, fresh, with_solver}
use Rattle.solver.specs.Orders.{Command, pair, verdict, refused, Step, known, crowded, unless, verdict_code, solver_of, posing, order, run}
use Rattle.solver.specs.Again.{Satisfied, SatisfiedOrder}
use Rattle.solver.proofs.Laws.Theory.TheoryView.{T, view, view_injective}
use Rattle.solver.proofs.Laws.Theory.Signature.{S}
use Rattle.solver.proofs.Laws.Theory.TheoryViewLaws.{viewed, view_resolve, recovers_view}
use Rattle.solver.proofs.Laws.Theory.ConstrainView.{view_table, view_out, settles_view}
use Rattle.solver.proofs.Laws.Theory.TheorySimulation.{known_yes}
use Rattle.solver.proofs.Laws.Theory.Demand3Laws.{respects}
use Rattle.solver.proofs.Laws.Definition.SolverInvariantLaws.{Ordered, issued_within}
use Rattle.solver.proofs.Laws.Definition.NotionLaws.{notion_codes}
use Rattle.solver.proofs.Laws.Definition.InOrderLaws.{order_ordered, run_ordered}
use Rattle.solver.proofs.Laws.Definition.InvariantLaws.{all_ordered}
use Rattle.solver.proofs.Laws.Definition.RecoveryLaws.{NoneBound, resolved_recovers, none_bound}
use Rattle.solver.proofs.Laws.Definition.LaterLaws.{Extends, Later, later_known, settles_extends, order_later, run_later}

-- ---- a table is viewed without loss

viewed_injective : (o p : Option Term) → viewed o ≡ viewed p → o ≡ p
unfolding viewed
viewed_injective none none e = refl
viewed_injective none (some u) e = clash (cc)
viewed_injective (some t) none e = clash (cc)
viewed_injective (some t) (some u) e = ap some (view_injective t u (let q : view t ≡ view u = cc in q))

table_injective : (y z : Solver) → view_table y ≡ view_table z → y ≡ z
table_injective y z e =
    let b : y.bindings ≡ z.bindings = fun_ext (λ v. viewed_injective (y.bindings v) (z.bindings v) (ap (λ (x : Table S). x.bound v) e)) in
    let f : y.requests ≡ z.requests = ap (λ (x : Table S). x.fam) e in
    let r : y.revision ≡ z.revision = ap (λ (x : Table S). x.rev) e in
    ap₂ (λ (c : ℕ → Option Term) (p : (ℕ → Option Request) × ℕ). record { bindings = c; requests = p.0; revision = p.1 }) b (ap₂ (λ (g : ℕ → Option Request) (k : ℕ). (g, k)) f r)

extends_view : (z y : Solver) → Extends z y → (v : ℕ) (w : T) → (view_table z).bound v ≡ some w → (view_table y).bound v ≡ some w
unfolding viewed
extends_view z y h v w = go (z.bindings v) refl
  where
    go : (o : Option Term) → z.bindings v ≡ o → viewed o ≡ some w → viewed (y.bindings v) ≡ some w
    go none q e = clash (cc)
    go (some t) q e = ap viewed (h v t q) ∙ e

unview : (k m : ℕ) (z : Solver) (o : Out Solver) → ((view_out o ≡ cancelled (view_table z)) × (m < k)) ⊎ (view_out o ≡ done (view_table z) true) → Satisfied k m z o
unfolding view_out
unview k m z (cancelled y) (inl e) = let e₀ = e.0 in let q : view_table y ≡ view_table z = cc in inr (ap cancelled (table_injective y z q), e.1)
unview k m z (cancelled y) (inr e) = clash (cc)
unview k m z (done y b) (inl e) = clash (cc e.0)
unview k m z (done y b) (inr e) = let q : view_table y ≡ view_table z = cc in let c : b ≡ true = cc in inl (ap₂ done (table_injective y z q) c)

-- ---- a pair that is satisfied binds nothing, and is not incompatible

pub satisfied_stays : (k m : ℕ) (z : Solver) (o : Out Solver) → Satisfied k m z o → solver_of o ≡ z
unfolding solver_of
satisfied_stays k m z o (inl e) = ap solver_of e
satisfied_stays k m z o (inr e) = ap solver_of e.0

pub satisfied_answers : (k m : ℕ) (z : Solver) (o : Out Solver) → Satisfied k m z o → (verdict_code o ≡ 1) ⊎ ((verdict_code o ≡ 2) × (m < k))
unfolding verdict_code
satisfied_answers k m z o (inl e) = inl (ap verdict_code e)
satisfied_answers k m z o (inr e) = inr (ap verdict_code e.0, e.1)

module _ (lim : Limits) (d : Bool) where
  pub not_incompatible : (k m : ℕ) (y : Session) (t u : Term) → SatisfiedOrder lim d k m y t u → ¬ ((order lim y (pair d m t u)).reply ≡ verdict 0)
  not_incompatible k m y t u x e = elim x.answered [ inl q ↦ clash (cc (e, q)) | inr (inl q) ↦ clash (cc (e, q.0)) | inr (inr q) ↦ clash (cc (e, q.0)) ]

  satisfied_order : (k m : ℕ) (y : Session) (t u : Term) → known y t ≡ true → known y u ≡ true → Satisfied k m y.solver (constrain (notion d) m y.solver t u) → SatisfiedOrder lim d k m y t u
  unfolding order
  satisfied_order k m y t u kt ku x = record { unchanged = rw (kt, ku) (stays (crowded lim y (size t + size u))); answered = rw (kt, ku) (answers (crowded lim y (size t + size u))) }
    where
      stays : (c : Bool) → (unless lim y true c (posing lim y (size t + size u) (constrain (notion d) m y.solver t u))).session.solver ≡ y.solver
      stays true = refl
      stays false = satisfied_stays k m y.solver (constrain (notion d) m y.solver t u) x

      answers : (c : Bool) → ((unless lim y true c (posing lim y (size t + size u) (constrain (notion d) m y.solver t u))).reply ≡ verdict 1)
          ⊎ ((((unless lim y true c (posing lim y (size t + size u) (constrain (notion d) m y.solver t u))).reply ≡ verdict 2) × (m < k))
          ⊎ (((unless lim y true c (posing lim y (size t + size u) (constrain (notion d) m y.solver t u))).reply ≡ refused 7) × (c ≡ true)))
      answers true = inr (inr (refl, refl))
      answers false = elim (satisfied_answers k m y.solver (constrain (notion d) m y.solver t u) x) [ inl q ↦ inl (ap verdict q) | inr q ↦ inr (inl (ap verdict q.0, q.1)) ]

  -- a pair that was answered compatible
  record Posed (s : Session) (k : ℕ) (t u : Term) (x : Step) : Type 0 where
    known_left : known s t ≡ true
    known_right : known s u ≡ true
    compatible : constrain (notion d) k s.solver t u ≡ done x.session.solver true

  posed : (s : Session) (k : ℕ) (t u : Term) → (order lim s (pair d k t u)).reply ≡ verdict 1 → Posed s k t u (order lim s (pair d k t u))
  unfolding order verdict_code solver_of
  posed s k t u e = go (known s t) (known s u) (crowded lim s (size t + size u)) refl refl e
    where
      ends : known s t ≡ true → known s u ≡ true → (o : Out Solver) → constrain (notion d) k s.solver t u ≡ o → verdict_code o ≡ 1 → Posed s k t u (posing lim s (size t + size u) o)
      ends a b (cancelled z) q f = absurd (omega arith)
      ends a b (done z false) q f = absurd (omega arith)
      ends a b (done z true) q f = record { known_left = a; known_right = b; compatible = q }

      go : (a b c : Bool) → known s t ≡ a → known s u ≡ b → (unless lim s (a && b) c (posing lim s (size t + size u) (constrain (notion d) k s.solver t u))).reply ≡ verdict 1
          → Posed s k t u (unless lim s (a && b) c (posing lim s (size t + size u) (constrain (notion d) k s.solver t u)))
      go true true true a b f = clash (cc)
      go true true false a b f = ends a b (constrain (notion d) k s.solver t u) refl (let q : verdict_code (constrain (notion d) k s.solver t u) ≡ 1 = cc in q)
      go true false c a b f = clash (cc)
      go false e c a b f = clash (cc)

module _ (n : Notion) (codes_count : n 4 ≡ false) where
  -- The pair was compatible with k checks in the session s and left the solver z; y is a session that has all bindings of z. Of the terms as they resolve in s.
  pub again_later : (s : Session) → Ordered (issued s) s.solver → (t u : Term) → known s t ≡ true → known s u ≡ true
      → recovers (resolved s.solver t) ≡ false → recovers (resolved s.solver u) ≡ false → (k : ℕ) (z : Solver) → constrain n k s.solver t u ≡ done z true
      → (y : Session) → Ordered (issued y) y.solver → known y t ≡ true → known y u ≡ true → Extends z y.solver
      → (m : ℕ) → Satisfied k m y.solver (constrain n m y.solver t u)
  unfolding view_out
  again_later s sane t u kt ku ht hu k z e y sane' kt' ku' has m =
      let first : table_poses S (read n) k (view_table s.solver) (view t) (view u) ≡ done (view_table z) true = settles_view n k s.solver true ((t, u) ∷ []) ∙ ap view_out e in
      unview k m y.solver (constrain n m y.solver t u)
      (subst (λ (o : Out (Table S)). theory.Satisfied S (read n) (respects n codes_count) k m (view_table y.solver) o) (settles_view n m y.solver true ((t, u) ∷ []))
      (table_again S (read n) (respects n codes_count) k (issued s) (view_table s.solver) sane.means sane.stands sane.counted sane.fine (view t) (view u)
      (known_yes s t kt) (known_yes s u ku) (hard t ht) (hard u hu) (view_table z) first
      (issued y) (view_table y.solver) sane'.means sane'.stands sane'.counted sane'.fine (known_yes y t kt') (known_yes y u ku') (extends_view z y.solver has) m))
    where
      hard : (w : Term) → recovers (resolved s.solver w) ≡ false → theory.Hard S (answer S (view_table s.solver) (view w))
      hard w p = ap (λ (x : T). any_soft S x) (sym (view_resolve s.solver.revision s.solver.bindings w)) ∙ sym (recovers_view (resolved s.solver w)) ∙ p

-- AT ONCE, in a session in order whose bindings hold no Unknown and no Error: the solver that a compatible pair left, given the pair again. The terms as they are
-- posed hold none.
pub again_of : (n : Notion) → n 4 ≡ false → (s : Session) → Ordered (issued s) s.solver → NoneBound s.solver → (t u : Term) → known s t ≡ true → known s u ≡ true
    → recovers t ≡ false → recovers u ≡ false → (k : ℕ) (z : Solver) → constrain n k s.solver t u ≡ done z true → (m : ℕ) → Satisfied k m z (constrain n m z t u)
unfolding solver_of
again_of n codes_count s sane h t u kt ku ht hu k z e =
    let a = (settles_extends n codes_count (issued s) k s.solver true ((t, u) ∷ []) sane (issued_within (issued s) t (known_yes s t kt), issued_within (issued s) u (known_yes s u ku), tt)).0 in
    let b : Ordered (issued s) z = subst (λ (o : Out Solver). Ordered (issued s) (solver_of o)) e a in
    again_later n codes_count s sane t u kt ku (resolved_recovers s.solver h t ht) (resolved_recovers s.solver h u hu) k z e (with_solver s z) b kt ku (λ v w q. q)

module _ (lim : Limits) (d : Bool) where
  -- in such a session s: the pair with k checks, and the orders ds
  pub again_in : (s : Session) → Ordered (issued s) s.solver → NoneBound s.solver → (t u : Term) → recovers t ≡ false → recovers u ≡ false
      → (k : ℕ) → (order lim s (pair d k t u)).reply ≡ verdict 1 → (ds : List Command) (m : ℕ) → SatisfiedOrder lim d k m (run lim (order lim s (pair d k t u)).session ds) t u
  again_in s sane h t u ht hu k e ds m =
      let x = posed lim d s k t u e in
      let x' = (order lim s (pair d k t u)).session in
      let y = run lim x' ds in
      let sane' = order_ordered lim s (pair d k t u) sane in
      let first : Later s x' = order_later lim s (pair d k t u) sane in
      let then : Later x' y = run_later lim x' ds sane' in
      let there : (w : Term) → known s w ≡ true → known y w ≡ true = λ w q. later_known x' y then w (later_known s x' first w q) in
      satisfied_order lim d k m y t u (there t x.known_left) (there u x.known_right)
      (again_later (notion d) (notion_codes d) s sane t u x.known_left x.known_right (resolved_recovers s.solver h t ht) (resolved_recovers s.solver h u hu)
      k x'.solver x.compatible y (run_ordered lim x' ds sane') (there t x.known_left) (there u x.known_right) then.bindings m)

  -- A COMPATIBLE PAIR POSED AGAIN BY THE SAME ORDER, 4 or 22. After every list cs of orders, whatever their answers, a pair whose two terms hold no Unknown and no
  -- Error is answered compatible with k checks. Given again after any orders ds (none, or any others), with m checks, it binds nothing and is not incompatible, and
  -- with k or more it is compatible if it is not refused.
  pub again_pair : (cs : List Command) (t u : Term) → recovers t ≡ false → recovers u ≡ false → (k : ℕ) → (order lim (run lim fresh cs) (pair d k t u)).reply ≡ verdict 1
      → (ds : List Command) (m : ℕ) → SatisfiedOrder lim d k m (run lim (order lim (run lim fresh cs) (pair d k t u)).session ds) t u
  again_pair cs = again_in (run lim fresh cs) (all_ordered lim cs) (none_bound lim cs)
