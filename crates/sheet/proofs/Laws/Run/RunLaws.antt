-- A run in progress: what is left of it from here on makes the whole.
use mathlib.Core.Path.{◌≡◌, refl, sym, ap, ap₂, subst, ◌∙◌}
use mathlib.Core.Bool.{Bool}
use mathlib.Core.List.{List, [], ◌∷◌, ◌++◌, append_assoc, append-nil}
use Rattle.std.specs.Prelude.{Some, None}
use Prim.Native.Nat.{ℕ, zero, suc, ◌+◌, ◌-◌, ◌≤◌, ◌<◌}
use native.Mathlib.Decide.{dec_le}
use native.Mathlib.Omega.{arith}
use borrow.Author.Tests.{le-leb, lt-leb, lt-ltb, le-ltb}
use lib.ListN.{length, take, drop, length-append}
use lib.Seq.{sets, sets-eq, length-sets, take_at, drop-append-add, drop-drop}
use Rattle.solver.specs.Terms.Result.{Result, got, refused, pick}
use Rattle.solver.specs.declared.Solver.{Solver}
use Rattle.solver.specs.Session.{Limits, Session, issued, fresh}
use Rattle.solver.specs.Orders.{Command, order, run}
use Rattle.solver.specs.Invariant.{InOrder}
use Rattle.solver.proofs.Laws.Definition.InOrderLaws.{fresh_in_order, run_in_order}
use Rattle.solver.specs.Words.SessionRepresentation.{limits_of}
use Rattle.sheet.specs.Fields.{Field}
use Rattle.sheet.specs.OrderTable.{Act, tells, answers, Read}
use Rattle.sheet.specs.Sheet.{read_order, Run, perform, step, step_read, order_of, framed, ends, answering, next_order, answered, run_from, run_of}
use Rattle.sheet.specs.Words.SessionInAreas.{Areas, RepresentsInAreas, AreasSuffice, Served}
use Rattle.sheet.specs.Words.FramingContract.{Output, Wrote, output_at}
use Rattle.sheet.specs.Entry.{AreasReady, Ended, Left}
use Rattle.sheet.specs.Words.DispatchContract.{Serves}
use Rattle.sheet.proofs.Laws.Run.EntryLaws.{roomy_same}
use Rattle.sheet.proofs.Laws.Run.SplittingLaws.{Ahead, next_ahead}

-- ---- a session that a list of orders leaves

pub record Past (lim : Limits) (z : Session) : Type 0 where
  pub commands : List Command
  pub reached : run lim fresh commands ≡ z

module _ (lim : Limits) where
  pub past_fresh : Past lim fresh
  unfolding run
  past_fresh = record { commands = []; reached = refl }

  pub past_in_order : (z : Session) → Past lim z → InOrder (issued z) z.solver
  past_in_order z p = subst (λ (s : Session). InOrder (issued s) s.solver) p.reached (run_in_order lim fresh p.commands fresh_in_order)

  run_more : (z : Session) (cs : List Command) (c : Command) → run lim z (cs ++ c ∷ []) ≡ (order lim (run lim z cs) c).session
  unfolding run
  run_more z [] c = refl
  run_more z (x ∷ cs) c = run_more (order lim z x).session cs c

  past_solve : (z : Session) → Past lim z → (c : Command) → Past lim (order lim z c).session
  past_solve z p c =
      record {
        commands = p.commands ++ c ∷ [];
        reached = run_more fresh p.commands c ∙ ap (λ (s : Session). (order lim s c).session) p.reached;
      }

  past_act : (z : Session) → Past lim z → (fs : List Field) (a : Act) → Past lim (perform lim z fs a).session
  past_act z p fs (tells f) = past_solve z p (f fs)
  past_act z p fs (answers f) = p

  -- "Each later one gets the session that the one before returned or left"
  pub past_order : (z : Session) → Past lim z → (b : List ℕ) → Past lim (order_of lim z b).session
  unfolding step
  past_order z p b = go (read_order b (issued z))
    where
      go : (r : Result Read) → Past lim (step_read lim z r).session
      go (got r n) = past_act z p r.fields r.kind.act
      go (refused c) = p

-- ---- the run from a position on

module _ (lim : Limits) (s : List ℕ) where
  pub run_over : (fuel : ℕ) (z : Session) (at space : ℕ) → length s ≤ at → run_from lim s fuel z at space ≡ ends 0 z
  unfolding run_from
  run_over zero z at space h = refl
  run_over (suc fuel) z at space h = rw (le-leb (length s) at h) refl

  -- the next order is there
  open_run : (fuel : ℕ) (z : Session) (at space : ℕ) → at < length s
      → run_from lim s (suc fuel) z at space ≡ answered lim s (run_from lim s fuel) z space (next_order s at)
  unfolding run_from
  open_run fuel z at space h = rw (lt-leb (length s) at h) refl

  pub run_faulty : (fuel : ℕ) (z : Session) (at space : ℕ) → at < length s → length s < at + fuel → refused 10 ≡ next_order s at
      → run_from lim s fuel z at space ≡ ends 10 z
  run_faulty zero z at space h l e = absurd (omega arith)
  run_faulty (suc fuel) z at space h l e = open_run fuel z at space h ∙ ap (answered lim s (run_from lim s fuel) z space) (sym e)

  pub run_long : (fuel : ℕ) (z : Session) (at space : ℕ) (b : List ℕ) (next : ℕ) → at < length s → length s < at + fuel → got b next ≡ next_order s at
      → space < length (framed (order_of lim z b).answer) → run_from lim s fuel z at space ≡ ends 11 z
  run_long zero z at space b next h l e t = absurd (omega arith)
  run_long (suc fuel) z at space b next h l e t =
      open_run fuel z at space h ∙ ap (answered lim s (run_from lim s fuel) z space) (sym e)
      ∙ ap (λ (q : Bool). pick q (ends 11 z) (answering (framed (order_of lim z b).answer) (run_from lim s fuel (order_of lim z b).session next (space - length (framed (order_of lim z b).answer))))) (lt-ltb space (length (framed (order_of lim z b).answer)) t)

  pub run_turn : (fuel : ℕ) (z : Session) (at space : ℕ) (b : List ℕ) (next : ℕ) → at < length s → got b next ≡ next_order s at
      → length (framed (order_of lim z b).answer) ≤ space
      → run_from lim s (suc fuel) z at space
      ≡ answering (framed (order_of lim z b).answer) (run_from lim s fuel (order_of lim z b).session next (space - length (framed (order_of lim z b).answer)))
  run_turn fuel z at space b next h e t =
      open_run fuel z at space h ∙ ap (answered lim s (run_from lim s fuel) z space) (sym e)
      ∙ ap (λ (q : Bool). pick q (ends 11 z) (answering (framed (order_of lim z b).answer) (run_from lim s fuel (order_of lim z b).session next (space - length (framed (order_of lim z b).answer))))) (le-ltb space (length (framed (order_of lim z b).answer)) t)

-- ---- a run in progress

-- a run after n orders that answered w
abbrev pub after : ℕ → List ℕ → Run → Run
after n w r = record { reason = r.reason; orders = n + r.orders; answers = w ++ r.answers; session = r.session }

after_one : (n : ℕ) (w a : List ℕ) (r : Run) → after n w (answering a r) ≡ after (n + 1) (w ++ a) r
after_one n w a r =
    let e : n + suc r.orders ≡ n + 1 + r.orders = omega arith in
    ap₂ {C = Run} (λ k l. record { reason = r.reason; orders = k; answers = l; session = r.session }) e (sym (append_assoc w a r.answers))

after_none : (r : Run) → r ≡ after 0 [] r
after_none r =
    let e : r.orders ≡ 0 + r.orders = omega arith in
    ap {B = Run} (λ k. record { reason = r.reason; orders = k; answers = r.answers; session = r.session }) e

-- With the counters x, the areas m and the output u so, n orders answered from the sheet's first bytes, up to `at`, and the answers in the output's
-- first bytes.
pub record Going (lim : Limits) (s out₀ : List ℕ) (x : Solver) (m : Areas) (u : Output) (at n : ℕ) : Type 0 where
  pub limits : limits_of x ≡ lim
  pub session : Session
  pub past : Past (limits_of x) session
  pub in_areas : RepresentsInAreas x m session
  pub roomy : AreasSuffice x (length m.a) m
  pub inside : at ≤ length s
  pub few : n ≤ at
  pub room : u.at ≤ length out₀
  pub long : length u.bytes ≡ length out₀
  pub written : List ℕ
  pub sized : length written ≡ u.at
  pub output : u.bytes ≡ written ++ drop u.at out₀
  pub fuel : ℕ
  pub enough : length s < at + fuel
  pub whole : run_of (limits_of x) s (length out₀) ≡ after n written (run_from (limits_of x) s fuel session at (length out₀ - u.at))

pub going_start : {s out₀ : List ℕ} {x : Solver} {m : Areas} → RepresentsInAreas x m fresh → AreasSuffice x (length m.a) m
    → Going (limits_of x) s out₀ x m (output_at out₀ 0) 0 0
going_start {s = s} {out₀ = out₀} {x = x} L R =
    record {
      limits = refl;
      session = fresh;
      past = past_fresh (limits_of x);
      in_areas = L;
      roomy = R;
      inside = omega arith;
      few = omega arith;
      room = omega arith;
      long = refl;
      written = [];
      sized = refl;
      output = refl;
      fuel = suc (length s);
      enough = omega arith;
      whole =
          let e : length out₀ ≡ length out₀ - 0 = omega arith in
          after_none (run_of (limits_of x) s (length out₀)) ∙ ap (λ (k : ℕ). after 0 [] (run_from (limits_of x) s (suc (length s)) fresh 0 k)) e;
    }

-- as the next order finds the areas
pub going_ready : {lim : Limits} {s out₀ : List ℕ} {x : Solver} {m : Areas} {u : Output} {at n : ℕ} → Going lim s out₀ x m u at n → AreasReady x m
going_ready {x = x} g =
    record { roomy = g.roomy; session = g.session; ordered = past_in_order (limits_of x) g.session g.past; in_areas = g.in_areas }

-- ---- how it ends

module _ {lim : Limits} {s out₀ : List ℕ} {x : Solver} {m : Areas} {u : Output} {at n : ℕ} (g : Going lim s out₀ x m u at n) where
  ending : (r : ℕ) (out' : List ℕ) → run_from (limits_of x) s g.fuel g.session at (length out₀ - u.at) ≡ ends r g.session
      → out' ≡ u.bytes → Ended lim s out₀ r n u.at out'
  ending r out' e o =
      subst (λ (l : Limits). Ended l s out₀ r n u.at out') g.limits
      (record {
        reason = sym (ap (λ (q : Run). q.reason) total);
        orders = sym (ap (λ (q : Run). q.orders) total ∙ none);
        bytes = sym (ap length answers ∙ g.sized);
        output = o ∙ g.output ∙ ap (λ (k : ℕ). g.written ++ drop k out₀) (sym g.sized) ∙ ap (λ (l : List ℕ). l ++ drop (length l) out₀) (sym answers);
      })
    where
      total : run_of (limits_of x) s (length out₀) ≡ after n g.written (ends r g.session)
      total = g.whole ∙ ap (after n g.written) e

      none : n + 0 ≡ n
      none = omega arith

      answers : (run_of (limits_of x) s (length out₀)).answers ≡ g.written
      answers = ap (λ (q : Run). q.answers) total ∙ append-nil g.written

module _ {lim : Limits} {s out₀ : List ℕ} {x : Solver} {m : Areas} {u : Output} {at n : ℕ} (g : Going lim s out₀ x m u at n) where
  -- the sheet is used up
  pub ends_used : length s ≤ at → Ended lim s out₀ 0 n u.at u.bytes × Left x m
  ends_used h = (
    ending g 0 u.bytes (run_over (limits_of x) s g.fuel g.session at (length out₀ - u.at) h) refl,
    record { session = g.session; in_areas = g.in_areas },
  )

  -- a length is faulty
  pub ends_faulty : at < length s → refused 10 ≡ next_order s at → Ended lim s out₀ 10 n u.at u.bytes × Left x m
  ends_faulty h e = (
    ending g 10 u.bytes (run_faulty (limits_of x) s g.fuel g.session at (length out₀ - u.at) h g.enough e) refl,
    record { session = g.session; in_areas = g.in_areas },
  )

  -- what came of the order in the session that there is
  module _ (y : Solver) (m' : Areas) (v : Wrote) (b₀ : List ℕ) (next : ℕ) (f : Serves x y b₀ m m' u v) where
    served : Served y m' g.session b₀ u v x
    served = f g.session (past_in_order (limits_of x) g.session g.past) g.in_areas

    a₀ : List ℕ
    a₀ = framed (order_of (limits_of x) g.session b₀).answer

    fits : (to : ℕ) → v.next ≡ Some to → u.at + length a₀ ≤ length u.bytes
    unfolding a₀
    fits to h = go (dec_le (u.at + length a₀) (length u.bytes))
      where
        go : Dec (u.at + length a₀ ≤ length u.bytes) → u.at + length a₀ ≤ length u.bytes
        go (yes l) = l
        go (no l) = let q = (served.long (omega arith)).0 in absurd (cc)

    over : v.next ≡ None → length u.bytes < u.at + length a₀
    unfolding a₀
    over h = go (dec_le (u.at + length a₀) (length u.bytes))
      where
        go : Dec (u.at + length a₀ ≤ length u.bytes) → length u.bytes < u.at + length a₀
        go (yes l) = let q = (served.fits l).0 in absurd (cc)
        go (no l) = omega arith

    -- an order keeps the limits
    same_limits : limits_of y ≡ limits_of x
    same_limits = ap₂ {C = Limits} (λ v k. record { variables = v; nodes = k }) served.variables served.nodes

    -- an answer does not fit
    pub ends_long : at < length s → got b₀ next ≡ next_order s at → v.next ≡ None → Ended lim s out₀ 11 n u.at v.bytes × Left y m'
    unfolding a₀
    ends_long h e l =
        let t : length u.bytes < u.at + length (framed (order_of (limits_of x) g.session b₀).answer) = over l in
        let q = served.long t in (
          ending g 11 v.bytes
              (run_long (limits_of x) s g.fuel g.session at (length out₀ - u.at) b₀ next h g.enough e (omega (arith, g.long, g.room)))
              q.1,
          record { session = g.session; in_areas = q.2 },
        )

    -- an order more
    pub going_on : at < length s → got b₀ next ≡ next_order s at → (to : ℕ) → v.next ≡ Some to
        → length m'.a ≡ length m.a → length m'.b ≡ length m.b → length m'.records ≡ length m.records → length m'.table ≡ length m.table → length m'.d ≡ length m.d
        → Going lim s out₀ y m' (output_at v.bytes to) next (n + 1)
    unfolding a₀
    going_on h e to l la lb lr lt ld = go g.fuel g.enough g.whole
      where
        w : List ℕ
        w = g.written

        t : u.at + length (framed (order_of (limits_of x) g.session b₀).answer) ≤ length u.bytes
        t = fits to l

        z' : Session
        z' = (order_of (limits_of x) g.session b₀).session

        q : (to ≡ u.at + length a₀) × (v.bytes ≡ sets u.bytes u.at a₀) × RepresentsInAreas y m' z'
        q = let x = served.fits t in let p = x.0 in (cc, x.1, x.2)

        ahead : Ahead at next (length s)
        ahead = next_ahead s at b₀ next e

        roomy : AreasSuffice y (length m'.a) m'
        roomy = roomy_same served.variables served.nodes la lb lr lt ld g.roomy

        wide : length (w ++ a₀) ≡ to
        wide = length-append w a₀ ∙ ap (λ (k : ℕ). k + length a₀) g.sized ∙ sym q.0

        rest : drop (u.at + length a₀) u.bytes ≡ drop to out₀
        rest =
            ap (λ (k : ℕ). drop (k + length a₀) u.bytes) (sym g.sized) ∙ ap (drop (length w + length a₀)) g.output ∙ drop-append-add w (drop u.at out₀) (length a₀)
            ∙ drop-drop (length a₀) u.at out₀ ∙ ap (λ (k : ℕ). drop k out₀) (sym q.0)

        front : take u.at u.bytes ≡ w
        front = ap (take u.at) g.output ∙ take_at w (drop u.at out₀) u.at g.sized

        output : v.bytes ≡ (w ++ a₀) ++ drop to out₀
        output =
            q.1 ∙ sets-eq a₀ u.bytes u.at t
            ∙ ap₂ (λ (k l : List ℕ). k ++ a₀ ++ l) front rest

        space : length out₀ - u.at - length a₀ ≡ length out₀ - to
        space = omega (arith, q.0)

        go : (fuel : ℕ) → length s < at + fuel → run_of (limits_of x) s (length out₀) ≡ after n w (run_from (limits_of x) s fuel g.session at (length out₀ - u.at))
            → Going lim s out₀ y m' (output_at v.bytes to) next (n + 1)
        go zero k e' = absurd (omega arith)
        go (suc fuel) k e' =
            let turn = run_turn (limits_of x) s fuel g.session at (length out₀ - u.at) b₀ next h e (omega (arith, g.long, g.room, t)) in
            record {
              limits = same_limits ∙ g.limits;
              session = z';
              past = subst (λ (i : Limits). Past i z') (sym same_limits) (past_order (limits_of x) g.session g.past b₀);
              in_areas = q.2;
              roomy = roomy;
              inside = ahead.inside;
              few = omega (arith, g.few, ahead.after);
              room = omega (arith, g.long, q.0, t);
              long = ap length q.1 ∙ length-sets u.bytes u.at a₀ ∙ g.long;
              written = w ++ a₀;
              sized = wide;
              output = output;
              fuel = fuel;
              enough = omega (arith, ahead.after);
              whole =
                  subst (λ (i : Limits). run_of i s (length out₀) ≡ after (n + 1) (w ++ a₀) (run_from i s fuel z' next (length out₀ - to))) (sym same_limits)
                  (e' ∙ ap (after n w) turn ∙ after_one n w a₀ _
                  ∙ ap (λ (k : ℕ). after (n + 1) (w ++ a₀) (run_from (limits_of x) s fuel z' next k)) space);
            }
