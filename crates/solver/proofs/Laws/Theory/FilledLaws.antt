-- Numeric defaults after a list whose pairs were all compatible: what the theory says of them, carried over.
use mathlib.Core.Path.{◌≡◌, refl, sym, ap, ◌∙◌, subst}
use mathlib.Core.Bool.{Bool, true, false, ◌||◌}
use mathlib.Core.List.{List, [], ◌∷◌}
use mathlib.Core.Logic.{◌⊎◌, inl, inr, ◌≢◌}
use mathlib.Core.Option.{Option, some}
use Prim.Native.Nat.{ℕ}
use lib.Dec.{eqb, ltb}
use Rattle.terms.specs.Result.{pick}
use Rattle.terms.specs.Term.{var, node, end, num}
use Rattle.terms.proofs.Laws.General.Bools.{or_right, or-none}
use Rattle.unify.specs.Term as tree
use Rattle.unify.specs.Term.{nil, width, clash}
use Rattle.unify.specs.Meaning as meaning
use Rattle.unify.specs.Table.{Table, answer}
use Rattle.unify.specs.Mixes as mixes
use Rattle.unify.specs.Filled as theirs
use Rattle.unify.specs.Ranged.{Good}
use Rattle.unify.proofs.Sound.{put_cases}
use Rattle.unify.proofs.RangedLaws.{range_good, good_meet, taken_in}
use Rattle.unify.proofs.FilledLaws as theory
use Rattle.solver.specs.Families.{admits, numerics, family_of, Request, belongs, taken, default_of}
use Rattle.solver.specs.Shapes.{read}
use Rattle.solver.specs.Constrain.{resolved}
use Rattle.solver.specs.Session.{Limits, Session, at, find, issued, fresh, never, numeric_defaults_of}
use Rattle.solver.specs.Orders.{Command, numbers, order}
use Rattle.solver.specs.Demand3.{History, Role, requesting, posing, defaulting, neither, role, accepted, placed, requested_by, after, history, beginning, integer_or_f64, RequestMade, ProperRole, AllProper, Fallbacks, Filled, Premises}
use Rattle.solver.proofs.Laws.Theory.TheoryView.{view, view_injective, back}
use Rattle.solver.proofs.Laws.Theory.Signature.{S, builtin_plain}
use Rattle.solver.proofs.Laws.Theory.TheoryViewLaws.{view_resolve}
use Rattle.solver.proofs.Laws.Theory.ConstrainView.{view_table, view_pairs, fallback, numerics_view}
use Rattle.solver.proofs.Laws.Theory.MixView.{norm, Mix, view_all}
use Rattle.solver.proofs.Laws.Theory.Demand3Laws.{viewing, member_belongs, true_view, agrees_view, view_agrees, back_assigns, back_respects, back_exactly, exactly_view, view_each}
use Rattle.solver.proofs.Laws.Theory.Demand3Laws.{respects_by, led, all_allowed, mix_premises, history_ordered}
use Rattle.solver.proofs.Laws.Definition.FamilyLaws.{admitted_low, code_belongs}
use Rattle.solver.proofs.Laws.Definition.RequestLaws.{belongs_builtin, admits_family}
use Rattle.solver.proofs.Laws.Definition.InOrderLaws.{order_ordered}

-- ---- what the orders request

abbrev AllMade : (ℕ → Option Request) → Type 0
AllMade f = (v : ℕ) (r : Request) → f v ≡ some r → RequestMade r

role_made : (s : Session) (f : ℕ → Option Request) (c : Role) (b : Bool) → AllMade f → ProperRole c → AllMade (requested_by s f c b)
unfolding requested_by
role_made s f (requesting site r) false h p = h
role_made s f (requesting site r) true h p = λ v q e. go q (put_cases f (placed (find (at site 1) s.places) (issued s)) r v q e)
  where
    go : (q : Request) {v w : ℕ} → ((v ≡ w) × (r ≡ q)) ⊎ ((v ≢ w) × (f v ≡ some q)) → RequestMade q
    go q (inl x) = subst (λ (y : Request). RequestMade y) x.1 p
    go q {v = v} (inr x) = h v q x.1
role_made s f (posing a t u) b h p = h
role_made s f defaulting b h p = h
role_made s f neither b h p = h

history_made : (lim : Limits) (h : History) (cs : List Command) → AllMade h.requests → AllProper cs → AllMade (history lim h cs).requests
unfolding history
history_made lim h [] m p = m
history_made lim h (c ∷ cs) m p =
    history_made lim (after lim h c) cs (role_made h.session h.requests (role c) (accepted (order lim h.session c).reply) m p.0) p.1

-- ---- they are Good

fallback_admitted : (c : ℕ) → integer_or_f64 c ≡ true → admits (family_of c) c ≡ true
unfolding integer_or_f64
fallback_admitted c e = admits_family c c ∙ go (eqb c 9) refl e
  where
    go : (b : Bool) → eqb c 9 ≡ b → (ltb c 8 || b) ≡ true → pick b (eqb c 8 || eqb c 9) (ltb c 8) ≡ true
    go true p q = or_right (eqb c 8) (eqb c 9) p
    go false p q = sym (or-none (ltb c 8)) ∙ q

made_good : (r : Request) → RequestMade r → (r.ranged ≡ false → integer_or_f64 r.fallback ≡ true) → Good r
made_good r (inl e) h =
    let p : r.ranged ≡ false = ap (λ (x : Request). x.ranged) e in
    inr (p, ap (λ (x : Request). x.family) e, fallback_admitted r.fallback (h p))
made_good r (inr x) h = range_good r.fallback x.0 x.1 r x.2

-- what a default takes is admitted, and plain
good_default : (f g : Request) → Good f → Good g → meaning.Under S g f
    → (belongs g.family (default_of f (some g)) ≡ true) × meaning.Plain S (tree.node (default_of f (some g)) nil)
unfolding width
good_default f g x y u =
    let e = taken_in f g x y (λ c a. sym (belongs_builtin f.family c) ∙ u (node 4 (num c end)) (code_belongs g.family c a)) in
    let p = builtin_plain (taken f (some g)) (admitted_low (taken f (some g)) (numerics g.family) e) in
    (code_belongs g.family (taken f (some g)) e, (p.0, p.1, p.2, tt))

-- ---- THE THEOREM

module _ (lim : Limits) (cs : List Command) (made : AllProper cs) (p : Premises lim cs) where
  abbrev h : History
  h = history lim beginning cs

  abbrev s : Session
  s = h.session

  abbrev z : Session
  z = (order lim s numbers).session

  filled_theirs : Fallbacks h.requests → h.incompatible ≡ false
      → theirs.Filled S Bool norm (issued s) h.requests (view_pairs h.posed) h.by (view_table s.solver) (view_table (numeric_defaults_of (issued s) 0 s.solver))
  filled_theirs f e =
      subst (λ (y : Table S). theirs.Filled S Bool norm (issued s) h.requests (view_pairs h.posed) h.by (view_table s.solver) y) (numerics_view (issued s) 0 s.solver)
      (subst (λ (x : Mix). mixes.MixPremises S fallback never Bool norm x → theirs.AllGood S Good x.run.asked → x.run.wrong ≡ false → theirs.FilledBy S fallback never Bool norm x) (led lim cs)
      (theory.defaults_leave S fallback never Bool norm respects_by Good good_meet good_default (view_all lim fresh cs) (all_allowed lim cs p))
      (mix_premises lim cs p) (λ v r q. made_good r (history_made lim beginning cs (λ v r q. clash (cc)) made v r q) (f v r q)) e)

  -- DEFAULTS AFTER COMPATIBLE PAIRS: for every list under demand 3's premises, whose orders 1 have an integer or F64 as fallback.
  pub defaults_leave : Fallbacks h.requests → h.incompatible ≡ false → Filled h z
  unfolding order view
  defaults_leave f e =
      let x = filled_theirs f e in
      let y = x.left in
      let o = order_ordered lim s numbers (history_ordered lim cs) in
      record {
        left = (λ v. back (y.0 v), back_assigns (issued s) y.0 y.1, back_respects y.0 h.requests y.2, back_exactly z o y.0 y.1 y.3);
        satisfies = λ θ t a. view_each θ h.by h.posed (x.satisfies (viewing θ) (true_view θ h.requests t) (exactly_view θ z a));
        agrees = λ n θ a. view_agrees n θ s (x.agrees (read n) (viewing θ) (agrees_view n θ z a));
        typed = λ v r q. let m = member_belongs r (answer S (view_table z.solver) (tree.var v)) (x.typed v r q) in
            ap (belongs r.family) (view_injective (resolved z.solver (var v)) m.0 (view_resolve z.solver.revision z.solver.bindings (var v) ∙ m.1)) ∙ m.2;
      }
