-- Demand 3 for every list of orders 0 to 8, 21 and 22, on terms, and what a list that mixes 4 and 22 keeps: carried over from the theory along the view.
use mathlib.Core.Path.{◌≡◌, refl, sym, ap, ◌∙◌, subst}
use mathlib.Core.Bool.{Bool, true, false, ◌&&◌, ◌||◌}
use mathlib.Core.List.{List, [], ◌∷◌}
use mathlib.Core.Logic.{◌↔◌}
use mathlib.Core.Option.{Option, none, some}
use Prim.Native.Nat.{ℕ, suc, ◌+◌, ◌<◌}
use native.Mathlib.Omega.{arith}
use borrow.Author.Tests.{eqb-true}
use lib.Dec.{eqb}
use Rattle.terms.specs.Result.{pick}
use Rattle.terms.specs.Term.{Term, Parts, var, node, end, num, size}
use Rattle.terms.specs.Questions.{among, meets}
use Rattle.terms.proofs.Laws.General.Bools.{never_true, never_false}
use Rattle.unify.specs.Term as tree
use Rattle.unify.specs.Term.{Sort, Tree, nil, ◌▸◌, In, Closed, Sim, sub_ext}
use Rattle.unify.specs.Solver.{Out, cancelled, done}
use Rattle.unify.specs.Meaning as meaning
use Rattle.unify.specs.Orders as theirs
use Rattle.unify.specs.Orders.{Run, Issued}
use Rattle.unify.specs.Table.{Table, answer, table_poses}
use Rattle.unify.proofs.Lazy.{resolve_right}
use Rattle.unify.proofs.InOrder.{InOrder, InOrderRun}
use Rattle.unify.specs.Session as session
use Rattle.unify.specs.Mixes as mixes
use Rattle.unify.proofs.MixLaws as mix-laws
use Rattle.solver.specs.Families.{Family, Request, belongs, belongs_row}
use Rattle.solver.specs.Shapes.{Notion, loose, notion, unmarked, read_row, read, blank_row}
use Rattle.solver.specs.Constrain.{Solver, Pair, constrain, replace, resolved, always, occurs, recovery, projects}
use Rattle.solver.specs.Session.{Limits, Session, issued, find, fresh, never}
use Rattle.solver.specs.Orders.{Command, pair, verdict, verdict_code, known, crowded, unless, posing, order}
use Rattle.solver.specs.Demand3.{History, beginning, accepted, says, history, is_variable, VariableFree, Assigns, RespectsFamilies, EqualUpToAccess, MakesEqual, Agrees, Demand3, outside, Plain, PlainPairs, Premises}
use Rattle.solver.specs.Demand3.{OnlyBy, AgreesExactly, EachBy, KeepsHalf, Unequal}
use Rattle.solver.proofs.Laws.Theory.TheoryView.{T, view, view_injective, back, back_view, meets_view, some_of, some_in, in_some}
use Rattle.solver.proofs.Laws.Theory.Signature.{S, view_back, formed_back, formed_view}
use Rattle.solver.proofs.Laws.Definition.FamilyLaws.{belongs_code}
use Rattle.solver.proofs.Laws.Theory.TheoryViewLaws.{viewed, view_replace, view_resolve, occurs_in, alike_sim, sim_alike}
use Rattle.solver.proofs.Laws.Theory.ConstrainView.{view_table, view_pairs, view_out, settles_view, leaf_view, fallback}
use Rattle.solver.proofs.Laws.Theory.TheorySimulation.{TheSession, view_run, known_yes}
use Rattle.solver.proofs.Laws.Theory.MixView.{norm, Mix, view_mix, By, view_all, mix_history, mix_allowed, mix_only}
use Rattle.solver.proofs.Laws.Definition.NotionLaws.{notion_codes}

-- ---- variable-free terms

free_some : (t : Term) → meets is_variable always t ≡ some_of (λ v. true) (λ (h : Term). false) (view t)
unfolding is_variable
free_some t = meets_view is_variable (λ h. false) (λ k ps. refl) t

free_closed : (t : Term) → VariableFree t → Closed (view t)
free_closed t e v i = never_true (sym e ∙ free_some t ∙ some_in (λ v. true) (view t) v i refl)

closed_free : (t : Term) → Closed (view t) → VariableFree t
closed_free t c = go (meets is_variable always t) refl
  where
    go : (b : Bool) → meets is_variable always t ≡ b → b ≡ false
    go true e = let r = in_some (λ v. true) (view t) (sym (free_some t) ∙ e) in absurd (c r.0 r.1)
    go false e = refl

-- ---- plain terms

unfoldable pub odd : Term → Bool
odd h = recovery h || projects h

pub or_both : (a b : Bool) → (a || b) ≡ false → (a ≡ false) × (b ≡ false)
or_both true b e = never_false e
or_both false b e = (refl, e)

plain_tree : {s : Sort} (t : Tree Term s) → meaning.Formed S t → some_of (λ v. false) odd t ≡ false → meaning.Plain S t
unfolding some_of odd
plain_tree (tree.var v) f e = tt
plain_tree (tree.node h ts) f e =
    let a = or_both (recovery h || projects h) (some_of (λ v. false) odd ts) e in
    let b = or_both (recovery h) (projects h) a.0 in
    (b.0, b.1, f.0, plain_tree ts f.1 a.1)
plain_tree nil f e = tt
plain_tree (t ▸ ts) f e =
    let a = or_both (some_of (λ v. false) odd t) (some_of (λ v. false) odd ts) e in
    (plain_tree t f.0 a.0, plain_tree ts f.1 a.1)

pub outside_odd : (k : ℕ) (ps : Parts) → outside (node k ps) ≡ odd (node k (blank_row ps))
unfolding outside odd recovery projects among
outside_odd k ps = go (eqb k 2) (eqb k 3) (eqb k 18)
  where
    go : (a b c : Bool) → (a || (b || (c || false))) ≡ ((a || (b || false)) || c)
    go true b c = refl
    go false true c = refl
    go false false true = refl
    go false false false = refl

plain_view : (t : Term) → Plain t → meaning.Plain S (view t)
unfolding outside
plain_view t p = plain_tree (view t) (formed_view t p.0) (sym (meets_view outside odd outside_odd t) ∙ p.1)

pub plain_pairs_view : (ps : List Pair) → PlainPairs ps → meaning.PlainPairs S (view_pairs ps)
plain_pairs_view [] p = tt
plain_pairs_view (x ∷ ps) p = (plain_view x.0 p.0, plain_view x.1 p.1, plain_pairs_view ps p.2)

-- ---- families

-- a family does not see access, where a builtin's code is not one
module _ (n : Notion) (codes_count : n 4 ≡ false) where
  read_belongs : (f : Family) (t : Term) → belongs f (read n t) ≡ belongs f t
  unfolding belongs read
  read_belongs f (var v) = refl
  read_belongs f (node k ps) = go (eqb k 4) refl
    where
      go : (b : Bool) → eqb k 4 ≡ b → (b && belongs_row f (read_row n k ps)) ≡ (b && belongs_row f ps)
      go true e =
          let p : n k ≡ false = ap n (eqb-true k 4 e) ∙ codes_count in
          ap (λ (b : Bool). belongs_row f (pick b (unmarked ps) ps)) p
      go false e = refl

  pub respects : (r : Request) (h k : Term) → read n h ≡ read n k → belongs r.family h ≡ belongs r.family k
  respects r h k e = sym (read_belongs r.family h) ∙ ap (belongs r.family) e ∙ read_belongs r.family k

abbrev pub viewing : (ℕ → Term) → ℕ → T
viewing θ v = view (θ v)

belongs_member : (r : Request) (t : Term) → belongs r.family t ≡ true → meaning.Member S r (view t)
belongs_member r t e =
    let x = belongs_code r.family t e in
    (node 4 (num x.0 end), ap view x.1 ∙ leaf_view x.0, ap (belongs r.family) (sym x.1) ∙ e)

-- a tree of a family is the view of a builtin
pub member_belongs : (r : Request) (t : T) → meaning.Member S r t → (u : Term) × (t ≡ view u) × (belongs r.family u ≡ true)
member_belongs r t m =
    let x = belongs_code r.family m.0 m.2 in
    (m.0, m.1 ∙ ap (λ (h : Term). tree.node h nil) x.1 ∙ sym (leaf_view x.0) ∙ ap view (sym x.1), m.2)

pub true_view : (θ : ℕ → Term) (f : ℕ → Option Request) → RespectsFamilies θ f → meaning.True S (viewing θ) f
true_view θ f p v r e = belongs_member r (θ v) (p v r e)

view_true : (θ : ℕ → Term) (f : ℕ → Option Request) → meaning.True S (viewing θ) f → RespectsFamilies θ f
view_true θ f p v r e =
    let x = member_belongs r (view (θ v)) (p v r e) in
    ap (belongs r.family) (view_injective (θ v) x.0 x.1) ∙ x.2

-- ---- assignments

assigns_view : (N : ℕ) (θ : ℕ → Term) → Assigns N θ → theirs.Assigns S N (viewing θ)
assigns_view N θ a v l = (free_closed (θ v) (a v l).1, formed_view (θ v) (a v l).0)

sim_eq : (n : Notion) (a b c d : T) → a ≡ b → c ≡ d → Sim (read n) a c → Sim (read n) b d
sim_eq n a b c d p q s = record { eq = ap (tree.map (read n)) (sym p) ∙ s.eq ∙ ap (tree.map (read n)) q }

module _ (n : Notion) (θ : ℕ → Term) where
  equal_all : (ps : List Pair) → MakesEqual n θ ps → meaning.All S (read n) (viewing θ) (view_pairs ps)
  equal_all [] e = tt
  equal_all (p ∷ ps) e = (
    sim_eq n (view (replace θ p.0)) (tree.sub (viewing θ) (view p.0)) (view (replace θ p.1)) (tree.sub (viewing θ) (view p.1))
        (view_replace θ p.0) (view_replace θ p.1) (alike_sim n (replace θ p.0) (replace θ p.1) e.0),
    equal_all ps e.1,
  )

  all_equal : (ps : List Pair) → meaning.All S (read n) (viewing θ) (view_pairs ps) → MakesEqual n θ ps
  all_equal [] e = tt
  all_equal (p ∷ ps) e = (
    sim_alike n (replace θ p.0) (replace θ p.1)
        (sim_eq n (tree.sub (viewing θ) (view p.0)) (view (replace θ p.0)) (tree.sub (viewing θ) (view p.1)) (view (replace θ p.1))
        (sym (view_replace θ p.0)) (sym (view_replace θ p.1)) e.0),
    all_equal ps e.1,
  )

  -- what the theory's table answers for a variable, under the assignment
  answer_under : (s : Session) (v : ℕ) → tree.sub (viewing θ) (answer S (view_table s.solver) (tree.var v)) ≡ view (replace θ (resolved s.solver (var v)))
  unfolding view
  answer_under s v =
      ap (λ (t : T). tree.sub (viewing θ) t) (sym (view_resolve s.solver.revision s.solver.bindings (var v)))
      ∙ sym (view_replace θ (resolved s.solver (var v)))

  abbrev pub Their : Session → Type 0
  Their s = (v : ℕ) → v < issued s → Sim (read n) (viewing θ v) (tree.sub (viewing θ) (answer S (view_table s.solver) (tree.var v)))

  pub agrees_view : (s : Session) → Agrees n θ s → Their s
  agrees_view s a v l =
      sim_eq n (view (θ v)) (view (θ v)) (view (replace θ (resolved s.solver (var v)))) (tree.sub (viewing θ) (answer S (view_table s.solver) (tree.var v)))
      refl (sym (answer_under s v)) (alike_sim n (θ v) (replace θ (resolved s.solver (var v))) (a v l))

  pub view_agrees : (s : Session) → Their s → Agrees n θ s
  view_agrees s a v l =
      sim_alike n (θ v) (replace θ (resolved s.solver (var v)))
      (sim_eq n (view (θ v)) (view (θ v)) (tree.sub (viewing θ) (answer S (view_table s.solver) (tree.var v))) (view (replace θ (resolved s.solver (var v))))
      refl (answer_under s v) (a v l))

-- ---- posed pairs have issued variables only

abbrev Within : ℕ → List (T × T) → Type 0
Within N [] = Unit {0}
Within N (p ∷ ps) = Issued N p.0 × Issued N p.1 × Within N ps

within_more : (N : ℕ) (ps : List (T × T)) → Within N ps → Within (suc N) ps
within_more N [] w = tt
within_more N (p ∷ ps) w = ((λ v i. let l = w.0 v i in omega arith), (λ v i. let l = w.1 v i in omega arith), within_more N ps w.2)

module _ (m : Term → Term) where
  obey_within : (x : Run S TheSession) → Within x.count x.posed → (c : session.Command S)
      → Within (session.obey S fallback never m x c).count (session.obey S fallback never m x c).posed
  unfolding session.obey session.serve_variable session.serve_number session.serve_hole session.serve_defer session.serve_pair theirs.settle session.lift
  obey_within x w (session.variable s i) = go (x.state.sites s i)
    where
      go : (o : Option ℕ) → Within (session.serve_variable S fallback never x s i o).count (session.serve_variable S fallback never x s i o).posed
      go none = within_more x.count x.posed w
      go (some v) = w
  obey_within x w (session.number s f) = go (x.state.sites s 1)
    where
      go : (o : Option ℕ) → Within (session.serve_number S fallback never x s f o).count (session.serve_number S fallback never x s f o).posed
      go none = within_more x.count x.posed w
      go (some v) = w
  obey_within x w (session.hole s) = go (x.state.holes s)
    where
      go : (o : Option ℕ) → Within (session.serve_hole S fallback never x s o).count (session.serve_hole S fallback never x s o).posed
      go none = within_more x.count x.posed w
      go (some v) = w
  obey_within x w (session.defer t) = go (theirs.issued? x.count t)
    where
      go : (d : Dec (Issued x.count t)) → Within (session.serve_defer S fallback never x t d).count (session.serve_defer S fallback never x t d).posed
      go (yes a) = w
      go (no a) = w
  obey_within x w (session.pair k l r) = go (theirs.issued? x.count l) (theirs.issued? x.count r)
    where
      ends : Issued x.count l → Issued x.count r → (o : Out TheSession) → Within (theirs.settle S x l r o).count (theirs.settle S x l r o).posed
      ends a b (cancelled z) = (a, b, w)
      ends a b (done z c) = (a, b, w)

      go : (a : Dec (Issued x.count l)) (b : Dec (Issued x.count r)) → Within (session.serve_pair S fallback never m x k l r a b).count (session.serve_pair S fallback never m x k l r a b).posed
      go (yes a) (yes b) = ends a b (session.lift S fallback never x.state (table_poses S m k x.state.table l r))
      go (yes a) (no b) = w
      go (no a) d = w
  obey_within x w (session.resolving t) = w
  obey_within x w session.numbers = w
  obey_within x w session.nevers = w
  obey_within x w session.revision = w
  obey_within x w session.refused = w

mix_within : (x : Mix) → Within x.run.count x.run.posed → (cs : List By)
    → Within (mixes.mix S fallback never Bool norm x cs).run.count (mixes.mix S fallback never Bool norm x cs).run.posed
unfolding mixes.mix
mix_within x w [] = w
mix_within x w (c ∷ cs) = mix_within (mixes.obey_by S fallback never Bool norm x c) (obey_within (norm c.0) x.run w c.1) cs

-- two assignments that are the same at the issued variables
all_same : (n : Notion) (N : ℕ) (θ σ : ℕ → T) → ((v : ℕ) → v < N → θ v ≡ σ v) → (ps : List (T × T)) → Within N ps → meaning.All S (read n) θ ps → meaning.All S (read n) σ ps
all_same n N θ σ e [] w a = tt
all_same n N θ σ e (p ∷ ps) w a = (
  sim_eq n (tree.sub θ p.0) (tree.sub σ p.0) (tree.sub θ p.1) (tree.sub σ p.1)
      (sub_ext p.0 (λ v i. e v (w.0 v i))) (sub_ext p.1 (λ v i. e v (w.1 v i))) a.0,
  all_same n N θ σ e ps w.2 a.1,
)

-- ---- from the theory

-- an assignment of trees is one of terms
pub back_assigns : (N : ℕ) (σ : ℕ → T) → theirs.Assigns S N σ → Assigns N (λ v. back (σ v))
back_assigns N σ a v l = (
  formed_back (σ v) (a v l).1 (a v l).0,
  closed_free (back (σ v)) (subst (λ (t : T). Closed t) (sym (view_back (σ v) (a v l).1)) (a v l).0),
)

pub back_respects : (σ : ℕ → T) (f : ℕ → Option Request) → meaning.True S σ f → RespectsFamilies (λ v. back (σ v)) f
back_respects σ f t v r p = let x = member_belongs r (σ v) (t v r p) in ap (belongs r.family) (ap back x.1 ∙ back_view x.0) ∙ x.2

module _ (n : Notion) (h : History) where
  abbrev N : ℕ
  N = issued h.session

  abbrev res : ℕ → T
  res v = answer S (view_table h.session.solver) (tree.var v)

  module _ (w : Within N (view_pairs h.posed)) where
    none_there : ((θ : ℕ → Term) → Assigns N θ → RespectsFamilies θ h.requests → ¬ MakesEqual n θ h.posed)
        → (σ : ℕ → T) → theirs.Assigns S N σ → meaning.True S σ h.requests → ¬ meaning.All S (read n) σ (view_pairs h.posed)
    none_there f σ a t e =
        let θ : ℕ → Term = λ v. back (σ v) in
        let same : (v : ℕ) → v < N → view (back (σ v)) ≡ σ v = λ v l. view_back (σ v) (a v l).1 in
        f θ (back_assigns N σ a) (back_respects σ h.requests t)
        (all_equal n θ h.posed (all_same n N σ (viewing θ) (λ v l. sym (same v l)) (view_pairs h.posed) w e))

    demand_view : theirs.Demand3 S (read n) (view_run h) res → Demand3 n h
    unfolding view
    demand_view d = record {
      first = (
        (λ e θ a t q. d.incompatible.0 e (viewing θ) (assigns_view N θ a) (true_view θ h.requests t) (equal_all n θ h.posed q)),
        (λ f. d.incompatible.1 (none_there f)),
      );
      second = λ e θ a. (
        (λ p. let q = (d.assignments e (viewing θ) (assigns_view N θ a)).0 (true_view θ h.requests p.0, equal_all n θ h.posed p.1) in (p.0, view_agrees n θ h.session q.1)),
        (λ p. let q = (d.assignments e (viewing θ) (assigns_view N θ a)).1 (true_view θ h.requests p.0, agrees_view n θ h.session p.1) in (p.0, all_equal n θ h.posed q.1)),
      );
      left = λ v u l o. themselves v u l o;
    }
      where
        at : (v : ℕ) → view (resolved h.session.solver (var v)) ≡ res v
        at v = view_resolve h.session.solver.revision h.session.solver.bindings (var v)

        themselves : (v u : ℕ) → v < N → occurs u (resolved h.session.solver (var v)) ≡ true → (u < N) × (resolved h.session.solver (var u) ≡ var u)
        themselves v u l o =
            let q = d.themselves v u l (subst (λ (t : T). In u t) (at v) (occurs_in u (resolved h.session.solver (var v)) o)) in
            (q.0, view_injective (resolved h.session.solver (var u)) (var u) (at u ∙ q.1))

-- ---- exact agreement

module _ (θ : ℕ → Term) where
  pub exactly_view : (s : Session) → AgreesExactly θ s → mixes.AgreesExactly S (issued s) (viewing θ) (view_table s.solver)
  exactly_view s a v l = ap view (a v l) ∙ sym (answer_under loose θ s v)

  pub view_exactly : (s : Session) → mixes.AgreesExactly S (issued s) (viewing θ) (view_table s.solver) → AgreesExactly θ s
  view_exactly s a v l = view_injective (θ v) (replace θ (resolved s.solver (var v))) (a v l ∙ answer_under loose θ s v)

  equal_view : (n : Notion) (t u : Term) → EqualUpToAccess n (replace θ t) (replace θ u) → Sim (read n) (tree.sub (viewing θ) (view t)) (tree.sub (viewing θ) (view u))
  equal_view n t u e = (equal_all n θ ((t, u) ∷ []) (e, tt)).0

  view_equal : (n : Notion) (t u : Term) → Sim (read n) (tree.sub (viewing θ) (view t)) (tree.sub (viewing θ) (view u)) → EqualUpToAccess n (replace θ t) (replace θ u)
  view_equal n t u e = (all_equal n θ ((t, u) ∷ []) (e, tt)).0

  pub view_each : (bs : List Bool) (ps : List Pair) → mixes.EachBy S Bool norm (viewing θ) bs (view_pairs ps) → EachBy θ bs ps
  view_each [] [] e = tt
  view_each [] (p ∷ ps) e = e
  view_each (b ∷ bs) [] e = e
  view_each (b ∷ bs) (p ∷ ps) e = (view_equal (notion b) p.0 p.1 e.0, view_each bs ps e.1)

-- two assignments that are the same at the variables of a term
same_sim : (n : Notion) (N : ℕ) (θ σ : ℕ → T) → ((v : ℕ) → v < N → θ v ≡ σ v) → (t u : T) → Issued N t → Issued N u
    → Sim (read n) (tree.sub θ t) (tree.sub θ u) → Sim (read n) (tree.sub σ t) (tree.sub σ u)
same_sim n N θ σ e t u it iu a = (all_same n N θ σ e ((t, u) ∷ []) (it, iu, tt) (a, tt)).0

-- what is left in what a variable resolves to is issued
pub left_issued : (N : ℕ) (z : Table S) → InOrder S N z → (v w : ℕ) → v < N → In w (answer S z (tree.var v)) → w < N
unfolding tree.sub
left_issued N z x v w l i = x.fine.within v w l (subst (λ (t : T). In w t) (resolve_right z.bound z.rev x.means.res x.stands.rep (tree.var v)) i)

-- an assignment of trees that agrees exactly with what the variables resolve to, as one of terms
pub back_exactly : (s : Session) → InOrder S (issued s) (view_table s.solver) → (σ : ℕ → T) → theirs.Assigns S (issued s) σ
    → mixes.AgreesExactly S (issued s) σ (view_table s.solver) → AgreesExactly (λ v. back (σ v)) s
back_exactly s x σ a g = view_exactly (λ v. back (σ v)) s (λ v l. same v l ∙ g v l ∙ sub_ext (answer S (view_table s.solver) (tree.var v)) (λ w i. sym (same w (left_issued (issued s) (view_table s.solver) x v w l i))))
  where
    same : (v : ℕ) → v < issued s → view (back (σ v)) ≡ σ v
    same v l = view_back (σ v) (a v l).1

-- ---- THE THEOREMS

pub respects_by : (b : Bool) (r : Request) (h k : Term) → norm b h ≡ norm b k → belongs r.family h ≡ belongs r.family k
respects_by b = respects (notion b) (notion_codes b)

module _ (lim : Limits) where
  -- what a list leads to, in the theory
  pub led : (cs : List Command) → mixes.mix S fallback never Bool norm (mixes.mix_begin S fallback never Bool norm) (view_all lim fresh cs) ≡ view_mix (history lim beginning cs)
  unfolding viewed find
  led cs = mix_history lim beginning cs

  pub all_allowed : (cs : List Command) → Premises lim cs → mixes.AllAllowedBy S fallback never Bool norm (mixes.mix_begin S fallback never Bool norm) (view_all lim fresh cs)
  unfolding viewed find
  all_allowed cs p = mix_allowed lim beginning cs p.allowed

  posed_within : (cs : List Command) → Within (issued (history lim beginning cs).session) (view_pairs (history lim beginning cs).posed)
  posed_within cs = subst (λ (x : Mix). Within x.run.count x.run.posed) (led cs) (mix_within (mixes.mix_begin S fallback never Bool norm) tt (view_all lim fresh cs))

  pub mix_premises : (cs : List Command) → Premises lim cs → mixes.MixPremises S fallback never Bool norm (view_mix (history lim beginning cs))
  mix_premises cs p = (p.none_cancelled, plain_pairs_view (history lim beginning cs).posed p.pairs)

  pub history_ordered : (cs : List Command) → InOrder S (issued (history lim beginning cs).session) (view_table (history lim beginning cs).session.solver)
  history_ordered cs = (subst (λ (x : Mix). InOrderRun S fallback never x.run) (led cs) (mix-laws.mix_in_order S fallback never Bool norm respects_by (view_all lim fresh cs))).table

  -- DEMAND 3: for every list of orders 0 to 8, 21 and 22, refused ones included, given in turn to a fresh session, that poses only pairs by order 4 (b is false: up
  -- to Set and Map access), or only strict ones (b is true: with access included, in agreeing too); and for all limits.
  pub demand_3 : (b : Bool) (cs : List Command) → OnlyBy b (history lim beginning cs).by → Premises lim cs → Demand3 (notion b) (history lim beginning cs)
  demand_3 b cs o p =
      let h = history lim beginning cs in
      let d = subst (λ (x : Mix). mixes.MixPremises S fallback never Bool norm x → theirs.Demand3 S (norm b) x.run (λ v. answer S x.run.state.table (tree.var v))) (led cs)
      (mix-laws.pure_demand_3 S fallback never Bool norm respects_by b (view_all lim fresh cs) (mix_only lim b beginning cs o) (all_allowed cs p)) in
      demand_view (notion b) h (posed_within cs) (d (mix_premises cs p))

  -- THE HALF THAT A MIX KEEPS: for every list that mixes them.
  pub mixed_half : (cs : List Command) → Premises lim cs → KeepsHalf (history lim beginning cs)
  mixed_half cs p e θ t a =
      let h = history lim beginning cs in
      let d = subst (λ (x : Mix). mixes.MixPremises S fallback never Bool norm x → mixes.Half S fallback never Bool norm x) (led cs)
      (mix-laws.mixed_half S fallback never Bool norm respects_by (view_all lim fresh cs) (all_allowed cs p)) in
      view_each θ h.by h.posed (d (mix_premises cs p) e (viewing θ) (true_view θ h.requests t) (exactly_view θ h.session a))

  -- EACH PAIR OF A MIX, posed after the list cs, whatever earlier pairs were answered: it is answered incompatible exactly if no assignment true to the
  -- families that agrees exactly with what the variables resolved to just before it makes it equal by its own order.
  pub mixed_pair : (cs : List Command) → Premises lim cs → (b : Bool) (k : ℕ) (t u : Term) → Plain t → Plain u
      → accepted (order lim (history lim beginning cs).session (pair b k t u)).reply ≡ true → says 2 (order lim (history lim beginning cs).session (pair b k t u)).reply ≡ false
      → (says 0 (order lim (history lim beginning cs).session (pair b k t u)).reply ≡ true) ↔ Unequal (history lim beginning cs) b t u
  unfolding order accepted says verdict_code view_out
  mixed_pair cs p b k t u pt pu = go (known s t) (known s u) (crowded lim s (size t + size u)) refl refl
    where
      h : History
      h = history lim beginning cs

      s : Session
      s = h.session

      o : Out Solver
      o = constrain (notion b) k s.solver t u

      Theirs : Out (Table S) → Type 0
      Theirs x = mixes.Exact S Bool norm (issued s) (view_table s.solver) h.requests b (view t) (view u) x

      exact_answer : known s t ≡ true → known s u ≡ true → Theirs (view_out o)
      exact_answer kt ku = subst Theirs (settles_view (notion b) k s.solver true ((t, u) ∷ []))
          (subst (λ (x : Mix). mixes.MixPremises S fallback never Bool norm x → Issued x.run.count (view t) → Issued x.run.count (view u)
          → mixes.Exact S Bool norm x.run.count x.run.state.table x.run.asked b (view t) (view u) (table_poses S (norm b) k x.run.state.table (view t) (view u))) (led cs)
          (λ q i j. mix-laws.mixed_pair S fallback never Bool norm respects_by (view_all lim fresh cs) (all_allowed cs p) q b k (view t) (view u) i j (plain_view t pt) (plain_view u pu))
          (mix_premises cs p) (known_yes s t kt) (known_yes s u ku))

      -- an assignment of trees is one of terms
      to_theirs : known s t ≡ true → known s u ≡ true → Unequal h b t u → mixes.Unequal S Bool norm (issued s) (view_table s.solver) h.requests b (view t) (view u)
      to_theirs kt ku f σ a r g e =
          let θ : ℕ → Term = λ v. back (σ v) in
          let same : (v : ℕ) → v < issued s → view (back (σ v)) ≡ σ v = λ v l. view_back (σ v) (a v l).1 in
          f θ (back_assigns (issued s) σ a) (back_respects σ h.requests r)
          (back_exactly s (history_ordered cs) σ a g)
          (view_equal θ (notion b) t u
          (same_sim (notion b) (issued s) σ (viewing θ) (λ v l. sym (same v l)) (view t) (view u) (known_yes s t kt) (known_yes s u ku) e))

      to_ours : mixes.Unequal S Bool norm (issued s) (view_table s.solver) h.requests b (view t) (view u) → Unequal h b t u
      to_ours f θ a r g e = f (viewing θ) (assigns_view (issued s) θ a) (true_view θ h.requests r) (exactly_view θ s g) (equal_view θ (notion b) t u e)

      ends : known s t ≡ true → known s u ≡ true → (x : Out Solver) → Theirs (view_out x) → says 2 (verdict (verdict_code x)) ≡ false → (says 0 (verdict (verdict_code x)) ≡ true) ↔ Unequal h b t u
      ends kt ku (cancelled z) e f = never_false f
      ends kt ku (done z true) e f = ((λ q. never_true q), λ q. never_false (e.1 (to_theirs kt ku q)))
      ends kt ku (done z false) e f = ((λ q. to_ours (e.0 refl)), λ q. refl)

      go : (a c d : Bool) → known s t ≡ a → known s u ≡ c
          → accepted (unless lim s (a && c) d (posing lim s (size t + size u) o)).reply ≡ true → says 2 (unless lim s (a && c) d (posing lim s (size t + size u) o)).reply ≡ false
          → (says 0 (unless lim s (a && c) d (posing lim s (size t + size u) o)).reply ≡ true) ↔ Unequal h b t u
      go true true true kt ku e f = never_true e
      go true true false kt ku e f = ends kt ku o (exact_answer kt ku) f
      go true false d kt ku e f = never_true e
      go false c d kt ku e f = never_true e
