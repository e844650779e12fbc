-- Terms after the tokens of a session: what the areas hold there, where resolving begins, and the counters with the terms of a pair kept.
use mathlib.Core.Path.{◌≡◌, sym, ap, subst, ◌∙◌}
use mathlib.Core.List.{List}
use Prim.Native.Nat.{ℕ, ◌+◌, ◌^◌, ◌≤◌, ◌<◌}
use native.Mathlib.Omega.{arith}
use lib.ListN.{length, take}
use lib.Seq.{sets}
use Rattle.terms.specs.Term.{Term, items, size, Held}
use Rattle.terms.proofs.Laws.Held.HeldLaws.{items_some}
use Rattle.solver.specs.declared.Solver.{Solver}
use Rattle.solver.specs.declared.Start.{Start}
use Rattle.solver.specs.declared.Start.TheVariants.{Begins}
use Rattle.solver.specs.declared.Subject.{Subject}
use Rattle.solver.specs.declared.Subject.TheVariants.{Follows, Id}
use Rattle.solver.specs.Constrain as solving
use Rattle.solver.specs.Constrain.{resolve, resolved}
use Rattle.solver.specs.Session.{Session, issued, keep}
use Rattle.solver.specs.Invariant.{InOrder}
use Rattle.solver.specs.Words.Bindings.{defaults, HeldBindings}
use Rattle.solver.specs.Words.ChainRecord.{chain_ends}
use Rattle.solver.specs.Words.SessionRepresentation.{end_words, Represents, binding_words}
use Rattle.solver.specs.Words.ConstrainContract.{Known, Scratch}
use Rattle.solver.specs.Words.OrderTerms.{Behind, Poses, PosesPair, Asked, Starts}
use Rattle.solver.specs.Words.TableLayout.{lasting_words}
use Rattle.solver.proofs.Laws.Table.RepresentationLaws.{Longer, longer_take, bindings_longer, begins_pair, lent_more}

-- the areas have room, and hold the bindings
pub record Fitted (x : Solver) (ks vs ts : List ℕ) (z : Session) : Type 0 where
  pub pairs : length vs ≡ length ks
  pub short : length ks < defaults
  pub room : lasting_words x.variables ≤ length ts
  pub bindings : HeldBindings ks vs (binding_words x.variables ts) z.solver.bindings

-- ---- the bindings hold over all of the tokens

module _ {x : Solver} {ks vs ts : List ℕ} {z : Session} (B : Behind x ks vs ts z) where
  pub behind_longer : Longer (take x.top ks) (take x.top vs) ks vs
  behind_longer = longer_take ks vs x.top B.inside

  -- and so are the ends of chains
  pub behind_ends : HeldBindings ks vs (end_words x.variables ts) (chain_ends z.solver.revision z.solver.bindings)
  behind_ends = bindings_longer behind_longer B.short (end_words x.variables ts) (chain_ends z.solver.revision z.solver.bindings) B.represents.ends

  pub behind_bindings : HeldBindings ks vs (binding_words x.variables ts) z.solver.bindings
  behind_bindings = bindings_longer behind_longer B.short (binding_words x.variables ts) z.solver.bindings B.represents.bindings

-- the term has a token
pub poses_inside : {x : Solver} {ks vs ts : List ℕ} {z : Session} {t : Term} → Poses x ks vs ts z t → x.top < length ks
poses_inside {t = t} P = omega (arith, P.held.within, items_some t)

-- what the areas hold, and how much room there is, in either case
module _ (x : Solver) (ks vs ts : List ℕ) (z : Session) (t : Term) where
  pub asked_areas : (what : Subject) → Asked x ks vs ts what z t → Fitted x ks vs ts z
  asked_areas Follows P =
      record { pairs = P.behind.pairs; short = P.behind.short; room = P.behind.represents.room; bindings = behind_bindings P.behind }
  asked_areas (Id v) a = record { pairs = a.0.vals; short = a.0.short; room = a.0.room; bindings = a.0.bindings }

-- ---- what is resolved from where it begins

module _ (x : Solver) {ks vs : List ℕ} (z : Session) (t : Term) {begun : Start} (s : Starts x ks vs z t begun) where
  pub begins_at : {p m : ℕ} → begun ≡ Begins p m → (u : Term) × Held ks vs p u × (resolved z.solver t ≡ resolve m z.solver.bindings u) × (m ≤ x.revision) × (p < 2 ^ 32)
  begins_at e = subst (λ (b : Start). Starts x ks vs z t b) e s

pub wrote_as : {w w' : List ℕ} (to : ℕ) (o : List ℕ) {out : List ℕ} {r : ℕ} → w ≡ w' → (r ≡ to + length w) × (out ≡ sets o to w) → (r ≡ to + length w') × (out ≡ sets o to w')
wrote_as to o {out} {r} e h = subst (λ (l : List ℕ). (r ≡ to + length l) × (out ≡ sets o to l)) e h

-- ---- orders 4 and 22: the counters with its nodes and tokens

module _ {x : Solver} {ks vs ts : List ℕ} {z : Session} {q : ℕ} {t u : Term} (P : PosesPair x ks vs ts z q t u) where
  front : length (take x.top ks) ≡ x.top
  front = sym P.behind.represents.top

  -- with the tokens of the order the session with its nodes kept is held
  pub pair_lent : {nodes : ℕ} → nodes ≡ z.kept + (size t + size u)
      → Represents (record { variables = x.variables; nodes = x.nodes; issued = x.issued; revision = x.revision; kept = nodes; top = length ks }) ks vs ts (keep z z.solver (size t + size u))
  pair_lent {nodes} e =
      let G = behind_longer P.behind in
      let b = begins_pair G t u (subst (λ (i : ℕ). Held ks vs i t) (sym front) P.left) (subst (λ (i : ℕ). Held ks vs (i + length (items t)) u) (sym front) P.right) (P.all ∙ ap (λ (i : ℕ). i + length (items t) + length (items u)) (sym front)) in
      let l = lent_more G P.behind.represents (size t + size u) P.behind.pairs P.behind.short b P.few in
      let k : x.kept + (size t + size u) ≡ nodes = omega (arith, P.behind.represents.kept, e) in
      subst (λ (i : ℕ). Represents (record { variables = x.variables; nodes = x.nodes; issued = x.issued; revision = x.revision; kept = i; top = length ks }) ks vs ts (keep z z.solver (size t + size u))) k l

  pub pair_ordered : InOrder (issued z) z.solver
  pair_ordered = P.behind.ordered

  pub pair_left : Known ks vs (keep z z.solver (size t + size u)) x.top t
  pair_left = record { held = P.left; within = P.within_left }

  pub pair_right : Known ks vs (keep z z.solver (size t + size u)) q u
  pair_right = record { held = subst (λ (i : ℕ). Held ks vs i u) (sym P.place) P.right; within = P.within_right }

  pub pair_scratch : (work : List ℕ) (nodes : ℕ) → Scratch x ks ts work
      → Scratch (record { variables = x.variables; nodes = x.nodes; issued = x.issued; revision = x.revision; kept = nodes; top = length ks }) ks ts work
  pair_scratch work nodes S = record { pairs = S.pairs; few = S.few; links = S.links; marks = S.marks; clear = S.clear }
