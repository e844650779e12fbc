-- A session in the four areas: what the solver is lent of them, and an order answered there.
use mathlib.Core.Path.{◌≡◌, sym, subst, ◌∙◌}
use mathlib.Core.Bool.{Bool, true, false, ◌&&◌}
use mathlib.Core.Option.{Option, none, some}
use mathlib.Core.List.{List}
use Prim.Native.Nat.{ℕ, ◌+◌, ◌-◌, ◌*◌, ◌≤◌}
use native.Mathlib.Omega.{arith}
use lib.ListN.{length, take, drop}
use lib.Seq.{length-take-le}
use Rattle.solver.specs.Terms.Term.{Term, var, node, size}
use Rattle.solver.specs.declared.Solver.{Solver}
use Rattle.solver.specs.Families.{Request}
use Rattle.solver.specs.Shapes.{notion}
use Rattle.solver.specs.Constrain.{resolved, constrain}
use Rattle.solver.specs.Session.{Limits, Session, VariablePlace, at, gap, find, deferring}
use Rattle.solver.specs.Orders as orders
use Rattle.solver.specs.Orders.{order, variable_step, number_at, hole_at, unless, known, crowded, full, posing, ◌gives◌}
use Rattle.solver.specs.Words.Worklist.{Zero}
use Rattle.solver.specs.Words.ConstrainContract.{pending_from}
use Rattle.solver.specs.Words.Halves.{half_words}
use Rattle.solver.specs.Words.SessionRepresentation.{Represents}
use Rattle.solver.specs.Words.MethodContract.{Beside}
use Rattle.sheet.specs.Sheet.{Step, solve}
use Rattle.sheet.specs.Words.SessionInAreas.{Areas, areas, RepresentsInAreas, Answers}
use Rattle.sheet.specs.Entry.{AreasReady}
use Rattle.solver.specs.Words.OrderTerms.{Frames}
use Rattle.solver.specs.Words.TableLayout.{lasting_words}
use Rattle.sheet.specs.Words.SessionOrdersContract.{lent, Does, DoesPair}
use Rattle.sheet.specs.Words.FramingContract.{Output, Wrote}
use Rattle.sheet.proofs.Laws.Answering.SessionOrderLaws.{lent_revision}

-- ---- room

-- What is asked of room, by the inequality of `Roomy` that stands for it. These are facts of numbers, so that no other inequality is read for it.

-- room to read an order
pub reads_fit : (top kept nodes words : ℕ) → 6 * nodes + 16 ≤ words → top ≤ 6 * kept → kept ≤ nodes → top + 6 * (nodes - kept) + 8 ≤ words
reads_fit top kept nodes words h a b = omega arith

-- the tokens of a pair of n nodes are few, and there is room for its links and its queue
pub places_few : (long n nodes words : ℕ) → 8 * nodes ≤ words → words ≤ 32768 → long ≤ 6 * n → n ≤ nodes → long ≤ 65536
places_few long n nodes words h a b c = omega arith

pub links_fit : (long n nodes words : ℕ) → half_words (8 * nodes) + nodes ≤ words → long ≤ 6 * n → n ≤ nodes → half_words long + nodes ≤ words
links_fit long n nodes words h a b = omega arith

-- two words of frames for each binding
frames_fit : (revision variables words : ℕ) → variables + variables ≤ words → revision ≤ variables → revision + revision ≤ words
frames_fit revision variables words h a = omega arith

module _ {x : Solver} {m : Areas} (R : AreasReady x m) where
  pub ready_frames : Frames x m.d
  ready_frames =
      record {
        room =
            subst (λ (n : ℕ). x.revision + x.revision ≤ n) (sym R.roomy.d_size)
            (frames_fit x.revision x.variables (length m.a) R.roomy.roomy.marks (lent_revision _ _ _ _ _ R.ordered R.in_areas.represents));
        clear = R.in_areas.work;
      }

-- ---- what is kept stays kept

variable_kept : (lim : Limits) (z : Session) (p : VariablePlace) (o : Option ℕ) (f : Bool) → z.kept ≤ (variable_step lim z p o f).session.kept
unfolding variable_step
variable_kept lim z p (some v) f = omega arith
variable_kept lim z p none true = omega arith
variable_kept lim z p none false = omega arith

number_kept : (lim : Limits) (z : Session) (p : VariablePlace) (r : Request) (o : Option ℕ) (f : Bool) → z.kept ≤ (number_at lim z p r o f).session.kept
unfolding number_at
number_kept lim z p r (some v) f = omega arith
number_kept lim z p r none true = omega arith
number_kept lim z p r none false = omega arith

hole_kept : (lim : Limits) (z : Session) (p : VariablePlace) (o : Option ℕ) (f : Bool) → z.kept ≤ (hole_at lim z p o f).session.kept
unfolding hole_at
hole_kept lim z p (some v) f = omega arith
hole_kept lim z p none true = omega arith
hole_kept lim z p none false = omega arith

unless_kept : (lim : Limits) (z : Session) (a b : Bool) (x : orders.Step) → z.kept ≤ x.session.kept → z.kept ≤ (unless lim z a b x).session.kept
unless_kept lim z true true x h = omega arith
unless_kept lim z true false x h = h
unless_kept lim z false b x h = omega arith

defer_kept : (z : Session) (t : Term) → z.kept ≤ (deferring z t).kept
unfolding deferring
defer_kept z (var v) = omega arith
defer_kept z (node k ps) = omega arith

pub solve_kept : (lim : Limits) (z : Session) (c : orders.Command) → z.kept ≤ (solve lim z c).session.kept
unfolding order
solve_kept lim z (orders.variable site slot) = variable_kept lim z (at site slot) (find (at site slot) z.places) (full lim z)
solve_kept lim z (orders.number site r) = number_kept lim z (at site 1) r (find (at site 1) z.places) (full lim z)
solve_kept lim z (orders.hole site) = hole_kept lim z (gap site) (find (gap site) z.places) (full lim z)
solve_kept lim z (orders.defer t) =
    unless_kept lim z (known z t) (crowded lim z (size t)) (deferring z (resolved z.solver t) gives orders.nothing) (defer_kept z (resolved z.solver t))
solve_kept lim z (orders.pair d k t u) =
    unless_kept lim z (known z t && known z u) (crowded lim z (size t + size u)) (posing lim z (size t + size u) (constrain (notion d) k z.solver t u)) (omega arith)
solve_kept lim z (orders.resolving t) =
    unless_kept lim z (known z t) (crowded lim z (size t)) (z gives orders.term (resolved z.solver t)) (omega arith)
solve_kept lim z orders.numbers = omega arith
solve_kept lim z orders.nevers = omega arith
solve_kept lim z orders.revision = omega arith
solve_kept lim z (orders.unread r) = omega arith

-- ---- a session laid out again

-- the tokens are those that there were, and so is what stands after the columns
module _ {x : Solver} {m : Areas} {z : Session} (Z : RepresentsInAreas x m z) where
  pub lays_again : (y : Solver) (t' d' : List ℕ) (s : Session) → z.kept ≤ s.kept → Represents y (take x.top m.a) (take x.top m.b) t' s
      → Beside x y m.table t' → Zero d' → RepresentsInAreas y (areas m.a m.b m.records t' d') s
  lays_again y t' d' s more L B clear =
      record {
        represents = subst (λ (n : ℕ). Represents y (take n m.a) (take n m.b) t' s) (sym B.top) L;
        kinds = subst (λ (n : ℕ). Zero (drop n m.a)) (sym B.top) Z.kinds;
        vals = subst (λ (n : ℕ). Zero (drop n m.b)) (sym B.top) Z.vals;
        front = Z.front;
        blank = subst (λ (n : ℕ). Zero (drop (lasting_words n) t')) (sym B.variables) (subst (λ (l : List ℕ). Zero l) (sym B.rest) Z.blank);
        work = clear;
        few = omega (arith, Z.few, Z.represents.kept, L.kept, B.top);
      }

  -- AN ORDER DONE ON WHAT IS LENT IS ANSWERED IN THE AREAS
  pub answers_does : (y : Solver) (t' d' : List ℕ) (st : Step) (w : Output) (v : Wrote)
      → Does (lent x (take x.top m.a) (take x.top m.b) m.table) y t' z st w v → z.kept ≤ st.session.kept → Zero d' → Answers y (areas m.a m.b m.records t' d') z st w v x
  answers_does y t' d' st w v D more clear =
      record {
        fits = λ k. ((D.answer.fits k).0, (D.answer.fits k).1, lays_again y t' d' st.session more (D.whole k) D.beside clear);
        long = λ k. ((D.answer.over k).0, (D.answer.over k).1, lays_again y t' d' z (omega arith) (D.long k) D.beside clear);
        variables = D.beside.variables;
        nodes = D.beside.nodes;
      }

-- ---- order 4: its tokens stay where a variable was bound

-- a and b are the areas with its tokens, which end before `top`; those of m are without them
module _ {x : Solver} {m : Areas} {z : Session} (Z : RepresentsInAreas x m z) (a b : List ℕ) (top : ℕ)
    (long_a : top ≤ length a) (rest-a : Zero (drop top a)) (rest-b : Zero (drop top b)) where
  lays_pair : (y : Solver) (t' d' : List ℕ) (s : Session) → top ≤ 6 * s.kept → Represents y (take top a) (take top b) t' s → y.variables ≡ x.variables
      → Zero (drop (pending_from x) t') → Zero d' → RepresentsInAreas y (areas a b m.records t' d') s
  lays_pair y t' d' s more L v k clear =
      let e : top ≡ y.top = sym (L.top ∙ length-take-le top a long_a) in
      record {
        represents = subst (λ (n : ℕ). Represents y (take n a) (take n b) t' s) e L;
        kinds = subst (λ (n : ℕ). Zero (drop n a)) e rest-a;
        vals = subst (λ (n : ℕ). Zero (drop n b)) e rest-b;
        front = Z.front;
        blank = subst (λ (n : ℕ). Zero (drop (lasting_words n) t')) (sym v) k;
        work = clear;
        few = omega (arith, L.kept);
      }

  module _ (y : Solver) (t' d' : List ℕ) (st : Step) (w : Output) (v : Wrote) (D : DoesPair (lent x (take top a) (take top b) m.table) y t' z st w v) (clear : Zero d') where
    -- a variable was bound: the tokens stay
    pub answers_bound : (y.revision ≡ x.revision → ⊥) → top ≤ 6 * st.session.kept → Answers y (areas a b m.records t' d') z st w v x
    answers_bound e more =
        record {
          fits = λ k. ((D.answer.fits k).0, (D.answer.fits k).1, lays_pair y t' d' st.session more (D.bound e) D.variables D.blank clear);
          long = λ k. absurd (e (D.long k));
          variables = D.variables;
          nodes = D.nodes;
        }

    -- none was, or the answer does not fit: they have been cleared, and all is as it was
    pub answers_quiet : y.revision ≡ x.revision → Answers y (areas m.a m.b m.records t' d') z st w v x
    answers_quiet e =
        let again : RepresentsInAreas y (areas m.a m.b m.records t' d') z
        = subst (λ (v : Solver). RepresentsInAreas v (areas m.a m.b m.records t' d') z) (sym (D.quiet e).0)
        (record {
          represents = subst (λ (l : List ℕ). Represents x (take x.top m.a) (take x.top m.b) l z) (sym (D.quiet e).1) Z.represents;
          kinds = Z.kinds;
          vals = Z.vals;
          front = Z.front;
          blank = D.blank;
          work = clear;
          few = Z.few;
        }) in
        record {
          fits = λ k. (
            (D.answer.fits k).0,
            (D.answer.fits k).1,
            subst (λ (s : Session). RepresentsInAreas y (areas m.a m.b m.records t' d') s) (sym (D.same e k)) again,
          );
          long = λ k. ((D.answer.over k).0, (D.answer.over k).1, again);
          variables = D.variables;
          nodes = D.nodes;
        }
