-- The history viewed is the run of the theory, order by order.
use mathlib.Core.Path.{◌≡◌, refl, sym, ap, ap₂, ◌∙◌, fun_ext}
use mathlib.Core.Logic.{ite}
use mathlib.Core.Bool.{Bool, true, false, not, ◌&&◌, ◌||◌}
use mathlib.Core.List.{List, [], ◌∷◌}
use mathlib.Core.Option.{Option, none, some}
use Prim.Native.Nat.{ℕ, suc, ◌+◌}
use native.Mathlib.Decide.{ℕ_discrete}
use borrow.Author.Tests.{eq-eqb, ne_eqb}
use lib.Dec.{eqb}
use lib.ListN.{length}
use Rattle.terms.specs.Result.{pick}
use Rattle.terms.specs.Term.{Term, var, node, size}
use Rattle.terms.specs.Questions.{meets}
use Rattle.terms.proofs.Laws.General.Bools.{never_true, or-none, not-true}
use Rattle.unify.specs.Solver.{Out, cancelled, done, put}
use Rattle.unify.specs.Orders.{Run, Issued, issued?, settle}
use Rattle.unify.specs.Table as table
use Rattle.unify.specs.Table.{Table, answer}
use Rattle.unify.specs.Session as session
use Rattle.solver.specs.Families.{Request}
use Rattle.solver.specs.Shapes.{Notion, loose, notion, read}
use Rattle.solver.specs.Constrain.{Solver, resolved, always, constrain}
use Rattle.solver.specs.Session.{Limits, VariablePlace, at, gap, same_place, Session, issued, find, issue_at, never, deferring, numeric_defaults_of, never_defaults_of}
use Rattle.solver.specs.Orders.{Command, variable, number, hole, defer, pair, resolving, numbers, nevers, revision, unread}
use Rattle.solver.specs.Orders.{Reply, term, verdict, changed, count, nothing, refused, Step, ◌gives◌, verdict_code, solver_of, beyond, known, full, crowded, unless, variable_step, number_at, hole_at, posing, order}
use Rattle.solver.specs.Demand3.{History, accepted, says, placed, requested_by, posed_by, noted, after, Allowed}
use Rattle.solver.proofs.Laws.Theory.TheoryView.{T, view}
use Rattle.solver.proofs.Laws.Theory.Signature.{S}
use Rattle.solver.proofs.Laws.Theory.TheoryViewLaws.{view_resolve, known_issued, unknown_issued}
use Rattle.solver.proofs.Laws.Theory.ConstrainView.{view_table, view_pairs, view_out, settles_view, fallback, numerics_view, nevers_view}

abbrev pub TheSession : Type 0
TheSession = session.Session S fallback never

abbrev pub view_session : Session → TheSession
view_session s = record { table = view_table s.solver; sites = λ r i. find (at r i) s.places; holes = λ r. find (gap r) s.places; diverging = s.deferred }

abbrev pub view_run : History → Run S TheSession
view_run h = record {
  state = view_session h.session;
  count = issued h.session;
  asked = h.requests;
  posed = view_pairs h.posed;
  wrong = h.incompatible;
  cut = h.cancelled;
}

or_yes : (a : Bool) → (a || true) ≡ true
or_yes true = refl
or_yes false = refl

-- the flags of an order that answers no verdict
flags : (h : History) (s : TheSession) (c : ℕ) (f : ℕ → Option Request)
    → ◌≡◌ {A = Run S TheSession}
    (record { state = s; count = c; asked = f; posed = view_pairs h.posed; wrong = h.incompatible; cut = h.cancelled })
    (record { state = s; count = c; asked = f; posed = view_pairs h.posed; wrong = h.incompatible || false; cut = h.cancelled || false })
flags h s c f =
    ap₂ (λ (a b : Bool). record { state = s; count = c; asked = f; posed = view_pairs h.posed; wrong = a; cut = b }) (sym (or-none h.incompatible)) (sym (or-none h.cancelled))

-- ---- places

module _ (ps : List VariablePlace) where
  sites_more : (site slot : ℕ) → put (λ (r i : ℕ). find (at r i) ps) site (put (λ (i : ℕ). find (at site i) ps) slot (some (length ps))) ≡ (λ r i. find (at r i) (at site slot ∷ ps))
  unfolding put find same_place
  sites_more site slot = fun_ext (λ r. outer r (ℕ_discrete r site))
    where
      inner : (r : ℕ) → r ≡ site → (i : ℕ) (d : Dec (i ≡ slot)) → ite d (some (length ps)) (find (at site i) ps) ≡ pick (eqb r site && eqb i slot) (some (length ps)) (find (at r i) ps)
      inner r e i (yes p) = rw (eq-eqb r site e, eq-eqb i slot p)
      inner r e i (no p) = rw (eq-eqb r site e, ne_eqb i slot p) (ap (λ (x : ℕ). find (at x i) ps) (sym e))

      outer : (r : ℕ) (d : Dec (r ≡ site))
          → ite d (put (λ (i : ℕ). find (at site i) ps) slot (some (length ps))) (λ i. find (at r i) ps) ≡ (λ i. find (at r i) (at site slot ∷ ps))
      outer r (yes p) = fun_ext (λ i. inner r p i (ℕ_discrete i slot))
      outer r (no p) = fun_ext (λ i. rw (ne_eqb r site p))

  holes_more : (site : ℕ) → put (λ (r : ℕ). find (gap r) ps) site (some (length ps)) ≡ (λ r. find (gap r) (gap site ∷ ps))
  unfolding put find same_place
  holes_more site = fun_ext (λ r. go r (ℕ_discrete r site))
    where
      go : (r : ℕ) (d : Dec (r ≡ site)) → ite d (some (length ps)) (find (gap r) ps) ≡ pick (eqb r site) (some (length ps)) (find (gap r) ps)
      go r (yes p) = rw (eq-eqb r site p)
      go r (no p) = rw (ne_eqb r site p)

site_view : (s : Session) (site slot : ℕ) → session.with_site S fallback never (view_session s) site slot (issued s) ≡ view_session (issue_at s (at site slot))
unfolding find same_place
site_view s site slot =
    ap (λ (f : ℕ → ℕ → Option ℕ). record { table = view_table s.solver; sites = f; holes = λ r. find (gap r) s.places; diverging = s.deferred }) (sites_more s.places site slot)

gap_view : (s : Session) (site : ℕ) → session.with_hole S fallback never (view_session s) site (issued s) ≡ view_session (issue_at s (gap site))
unfolding find same_place
gap_view s site =
    ap (λ (f : ℕ → Option ℕ). record { table = view_table s.solver; sites = λ r i. find (at r i) s.places; holes = f; diverging = s.deferred }) (holes_more s.places site)

-- terms whose variables are issued
pub known_yes : (s : Session) (t : Term) → known s t ≡ true → Issued (issued s) (view t)
known_yes s t e = known_issued (issued s) t (not-true (meets (beyond (issued s)) always t) e)

pub yes_known : (s : Session) (t : Term) → Issued (issued s) (view t) → known s t ≡ true
yes_known s t i = go (meets (beyond (issued s)) always t) refl
  where
    go : (b : Bool) → meets (beyond (issued s)) always t ≡ b → not b ≡ true
    go true e = absurd (unknown_issued (issued s) t e i)
    go false e = refl

-- ---- orders

-- whether it is strict; of an order that poses no pair it does not matter
abbrev pub strict : Command → Bool
strict (variable site slot) = false
strict (number site r) = false
strict (hole site) = false
strict (defer t) = false
strict (pair b k t u) = b
strict (resolving t) = false
strict numbers = false
strict nevers = false
strict revision = false
strict (unread r) = false

module _ (lim : Limits) where
  -- An order as the theory has it. The theory knows no limits: an order refused with 7 or 8 is one that is refused. So is a pair refused with 6.
  unfoldable pub if_room : Option ℕ → Bool → session.Command S → session.Command S
  if_room none true c = session.refused
  if_room none false c = c
  if_room (some v) b c = c

  unfoldable pub view_command : Session → Command → session.Command S
  view_command s (variable site slot) = if_room (find (at site slot) s.places) (full lim s) (session.variable site slot)
  view_command s (number site r) = if_room (find (at site 1) s.places) (full lim s) (session.number site r)
  view_command s (hole site) = if_room (find (gap site) s.places) (full lim s) (session.hole site)
  view_command s (defer t) = pick (crowded lim s (size t)) session.refused (session.defer (view t))
  view_command s (pair b k t u) = pick (known s t && known s u) (pick (crowded lim s (size t + size u)) session.refused (session.pair k (view t) (view u))) session.refused
  view_command s (resolving t) = pick (crowded lim s (size t)) session.refused (session.resolving (view t))
  view_command s numbers = session.numbers
  view_command s nevers = session.nevers
  view_command s revision = session.revision
  view_command s (unread r) = session.refused

  -- by any notion of equal shape
  module _ (n : Notion) where
    abbrev obeyed : History → session.Command S → Run S TheSession
    obeyed h c = session.obey S fallback never (read n) (view_run h) c

    variable_view : (h : History) (site slot : ℕ) (o : Option ℕ) (b : Bool) → find (at site slot) h.session.places ≡ o
        → obeyed h (if_room o b (session.variable site slot)) ≡ view_run (noted h (variable site slot) (variable_step lim h.session (at site slot) o b))
    unfolding session.obey session.serve_variable variable_step if_room requested_by posed_by says accepted
    variable_view h site slot (some v) b e =
        ap (session.serve_variable S fallback never (view_run h) site slot) e ∙ flags h (view_session h.session) (issued h.session) h.requests
    variable_view h site slot none true e = flags h (view_session h.session) (issued h.session) h.requests
    variable_view h site slot none false e =
        ap (session.serve_variable S fallback never (view_run h) site slot) e
        ∙ ap (session.grow S fallback never (view_run h)) (site_view h.session site slot)
        ∙ flags h (view_session (issue_at h.session (at site slot))) (suc (issued h.session)) h.requests

    number_view : (h : History) (site : ℕ) (r : Request) (o : Option ℕ) (b : Bool) → find (at site 1) h.session.places ≡ o
        → obeyed h (if_room o b (session.number site r)) ≡ view_run (noted h (number site r) (number_at lim h.session (at site 1) r o b))
    unfolding session.obey session.serve_number number_at if_room requested_by posed_by says accepted placed
    number_view h site r (some v) b e =
        ap (session.serve_number S fallback never (view_run h) site r) e
        ∙ ap (λ (w : ℕ). record {
          state = session.with_table S fallback never (view_session h.session) (table.table_asks S (view_table h.session.solver) v r);
          count = issued h.session;
          asked = put h.requests w (some r);
          posed = view_pairs h.posed;
          wrong = h.incompatible;
          cut = h.cancelled;
        }) (sym (ap (λ (o : Option ℕ). placed o (issued h.session)) e))
        ∙ flags h _ (issued h.session) _
    number_view h site r none true e = flags h (view_session h.session) (issued h.session) h.requests
    number_view h site r none false e =
        ap (session.serve_number S fallback never (view_run h) site r) e
        ∙ ap₂ (λ (x : TheSession) (w : ℕ). record {
          state = session.with_table S fallback never x (table.table_asks S (view_table h.session.solver) (issued h.session) r);
          count = suc (issued h.session);
          asked = put h.requests w (some r);
          posed = view_pairs h.posed;
          wrong = h.incompatible;
          cut = h.cancelled;
        }) (site_view h.session site 1) (sym (ap (λ (o : Option ℕ). placed o (issued h.session)) e))
        ∙ flags h _ (suc (issued h.session)) _

    hole_view : (h : History) (site : ℕ) (o : Option ℕ) (b : Bool) → find (gap site) h.session.places ≡ o
        → obeyed h (if_room o b (session.hole site)) ≡ view_run (noted h (hole site) (hole_at lim h.session (gap site) o b))
    unfolding session.obey session.serve_hole hole_at if_room requested_by posed_by says accepted
    hole_view h site (some v) b e = ap (session.serve_hole S fallback never (view_run h) site) e ∙ flags h (view_session h.session) (issued h.session) h.requests
    hole_view h site none true e = flags h (view_session h.session) (issued h.session) h.requests
    hole_view h site none false e =
        ap (session.serve_hole S fallback never (view_run h) site) e
        ∙ ap (session.grow S fallback never (view_run h)) (gap_view h.session site)
        ∙ flags h (view_session (issue_at h.session (gap site))) (suc (issued h.session)) h.requests

    deferred_view : (h : History) (t u : Term)
        → session.move S fallback never (view_run h) (session.deferring S fallback never (view_session h.session) (view u))
        ≡ view_run (noted h (defer t) (deferring h.session u gives nothing))
    unfolding session.deferring deferring view requested_by posed_by says accepted
    deferred_view h t (var v) = flags h _ (issued h.session) h.requests
    deferred_view h t (node k ps) = flags h _ (issued h.session) h.requests

    defer_view : (h : History) (t : Term) (b c : Bool) → (b ≡ true → Issued (issued h.session) (view t)) → (Issued (issued h.session) (view t) → b ≡ true)
        → obeyed h (pick c session.refused (session.defer (view t)))
        ≡ view_run (noted h (defer t) (unless lim h.session b c (deferring h.session (resolved h.session.solver t) gives nothing)))
    unfolding session.obey session.serve_defer requested_by posed_by says accepted
    defer_view h t true true f g = flags h (view_session h.session) (issued h.session) h.requests
    defer_view h t false true f g = flags h (view_session h.session) (issued h.session) h.requests
    defer_view h t b false f g = go b f g (issued? (issued h.session) (view t))
      where
        go : (b : Bool) → (b ≡ true → Issued (issued h.session) (view t)) → (Issued (issued h.session) (view t) → b ≡ true) → (d : Dec (Issued (issued h.session) (view t)))
            → session.serve_defer S fallback never (view_run h) (view t) d
            ≡ view_run (noted h (defer t) (unless lim h.session b false (deferring h.session (resolved h.session.solver t) gives nothing)))
        go true f g (yes i) =
            ap (λ (x : T). session.move S fallback never (view_run h) (session.deferring S fallback never (view_session h.session) x))
            (sym (view_resolve h.session.solver.revision h.session.solver.bindings t))
            ∙ deferred_view h t (resolved h.session.solver t)
        go true f g (no i) = absurd (i (f refl))
        go false f g (yes i) = never_true (g i)
        go false f g (no i) = flags h (view_session h.session) (issued h.session) h.requests

    settled_view : (h : History) (b : Bool) (k m : ℕ) (t u : Term) (o : Out Solver)
        → settle S (view_run h) (view t) (view u) (session.lift S fallback never (view_session h.session) (view_out o))
        ≡ view_run (noted h (pair b k t u) (posing lim h.session m o))
    unfolding settle session.lift view_out verdict_code solver_of requested_by posed_by says accepted
    settled_view h b k m t u (cancelled z) = rw (or-none h.incompatible, or_yes h.cancelled)
    settled_view h b k m t u (done z true) = rw (or-none h.cancelled)
    settled_view h b k m t u (done z false) = rw (or-none h.cancelled)

    pair_view : (h : History) (d : Bool) (k : ℕ) (t u : Term) (a b c : Bool)
        → (a ≡ true → Issued (issued h.session) (view t)) → (b ≡ true → Issued (issued h.session) (view u))
        → obeyed h (pick (a && b) (pick c session.refused (session.pair k (view t) (view u))) session.refused)
        ≡ view_run (noted h (pair d k t u) (unless lim h.session (a && b) c (posing lim h.session (size t + size u) (constrain n k h.session.solver t u))))
    unfolding session.obey session.serve_pair requested_by posed_by says accepted
    pair_view h d k t u true true true f g = flags h (view_session h.session) (issued h.session) h.requests
    pair_view h d k t u true true false f g = go (issued? (issued h.session) (view t)) (issued? (issued h.session) (view u))
      where
        go : (x : Dec (Issued (issued h.session) (view t))) (y : Dec (Issued (issued h.session) (view u)))
            → session.serve_pair S fallback never (read n) (view_run h) k (view t) (view u) x y
            ≡ view_run (noted h (pair d k t u) (posing lim h.session (size t + size u) (constrain n k h.session.solver t u)))
        go (yes i) (yes j) =
            ap (λ (o : Out (Table S)). settle S (view_run h) (view t) (view u) (session.lift S fallback never (view_session h.session) o))
            (settles_view n k h.session.solver true ((t, u) ∷ []))
            ∙ settled_view h d k (size t + size u) t u (constrain n k h.session.solver t u)
        go (yes i) (no j) = absurd (j (g refl))
        go (no i) y = absurd (i (f refl))
    pair_view h d k t u true false c f g = flags h (view_session h.session) (issued h.session) h.requests
    pair_view h d k t u false b c f g = flags h (view_session h.session) (issued h.session) h.requests

    resolving_view : (h : History) (t u : Term) (b c : Bool)
        → obeyed h (pick c session.refused (session.resolving (view t))) ≡ view_run (noted h (resolving t) (unless lim h.session b c (h.session gives term u)))
    unfolding session.obey requested_by posed_by says accepted
    resolving_view h t u true true = flags h (view_session h.session) (issued h.session) h.requests
    resolving_view h t u true false = flags h (view_session h.session) (issued h.session) h.requests
    resolving_view h t u false true = flags h (view_session h.session) (issued h.session) h.requests
    resolving_view h t u false false = flags h (view_session h.session) (issued h.session) h.requests

  -- AN ORDER ON THE TERMS' SESSION IS, VIEWED, THE ORDER OF THE THEORY, a pair by the notion by which it is posed.
  pub order_view : (h : History) (c : Command) → obeyed (notion (strict c)) h (view_command h.session c) ≡ view_run (after lim h c)
  unfolding order view_command session.obey requested_by posed_by says accepted
  order_view h (variable site slot) = variable_view loose h site slot (find (at site slot) h.session.places) (full lim h.session) refl
  order_view h (number site r) = number_view loose h site r (find (at site 1) h.session.places) (full lim h.session) refl
  order_view h (hole site) = hole_view loose h site (find (gap site) h.session.places) (full lim h.session) refl
  order_view h (defer t) = defer_view loose h t (known h.session t) (crowded lim h.session (size t)) (known_yes h.session t) (yes_known h.session t)
  order_view h (pair b k t u) =
      pair_view (notion b) h b k t u (known h.session t) (known h.session u) (crowded lim h.session (size t + size u))
      (known_yes h.session t) (known_yes h.session u)
  order_view h (resolving t) = resolving_view loose h t (resolved h.session.solver t) (known h.session t) (crowded lim h.session (size t))
  order_view h numbers =
      ap (λ (z : Table S). session.move S fallback never (view_run h) (session.with_table S fallback never (view_session h.session) z))
      (numerics_view (issued h.session) 0 h.session.solver)
      ∙ flags h _ (issued h.session) h.requests
  order_view h nevers =
      ap (λ (z : Table S). session.move S fallback never (view_run h) (session.with_table S fallback never (view_session h.session) z))
      (nevers_view h.session.deferred (issued h.session) 0 h.session.solver)
      ∙ flags h _ (issued h.session) h.requests
  order_view h revision = flags h (view_session h.session) (issued h.session) h.requests
  order_view h (unread r) = flags h (view_session h.session) (issued h.session) h.requests

  -- the premises that are about an order where it stands
  room_allowed : (n : Notion) (h : History) (o : Option ℕ) (b : Bool) (c : session.Command S) → session.Allowed S fallback never (read n) (view_run h) c → session.Allowed S fallback never (read n) (view_run h) (if_room o b c)
  unfolding if_room
  room_allowed n h none true c p = tt
  room_allowed n h none false c p = p
  room_allowed n h (some v) b c p = p

  pick_allowed : (n : Notion) (h : History) (b : Bool) (c : session.Command S) → session.Allowed S fallback never (read n) (view_run h) c → session.Allowed S fallback never (read n) (view_run h) (pick b session.refused c)
  pick_allowed n h true c p = tt
  pick_allowed n h false c p = p

  pub allowed_view : (h : History) (c : Command) → Allowed lim h.session c → session.Allowed S fallback never (read (notion (strict c))) (view_run h) (view_command h.session c)
  unfolding view_command order
  allowed_view h (variable site slot) p = room_allowed (notion false) h (find (at site slot) h.session.places) (full lim h.session) (session.variable site slot) tt
  allowed_view h (number site r) p = room_allowed (notion false) h (find (at site 1) h.session.places) (full lim h.session) (session.number site r) p
  allowed_view h (hole site) p = room_allowed (notion false) h (find (gap site) h.session.places) (full lim h.session) (session.hole site) tt
  allowed_view h (defer t) p = pick_allowed (notion false) h (crowded lim h.session (size t)) (session.defer (view t)) tt
  allowed_view h (pair b k t u) p = go (known h.session t && known h.session u)
    where
      go : (a : Bool) → session.Allowed S fallback never (read (notion b)) (view_run h) (pick a (pick (crowded lim h.session (size t + size u)) session.refused (session.pair k (view t) (view u))) session.refused)
      go true = pick_allowed (notion b) h (crowded lim h.session (size t + size u)) (session.pair k (view t) (view u)) tt
      go false = tt
  allowed_view h (resolving t) p = pick_allowed (notion false) h (crowded lim h.session (size t)) (session.resolving (view t)) tt
  allowed_view h numbers p = ap (λ (z : Table S). z.rev) (numerics_view (issued h.session) 0 h.session.solver) ∙ p
  allowed_view h nevers p = ap (λ (z : Table S). z.rev) (nevers_view h.session.deferred (issued h.session) 0 h.session.solver) ∙ p
  allowed_view h revision p = tt
  allowed_view h (unread r) p = tt

  -- ---- answers

  unfoldable pub view_reply : Reply → session.Reply S
  view_reply (term t) = session.term (view t)
  view_reply (verdict a) = session.verdict a
  view_reply (changed b) = session.changed b
  view_reply (count c) = session.count c
  view_reply nothing = session.nothing
  view_reply (refused r) = session.refusal

  module _ (n : Notion) where
    abbrev answered : History → session.Command S → session.Reply S
    answered h c = session.reply S fallback never (read n) (view_run h) c

    answer_view : (z : Solver) (t : Term) → ◌≡◌ {A = session.Reply S} (session.term (answer S (view_table z) (view t))) (session.term (view (resolved z t)))
    answer_view z t = ap session.term (sym (view_resolve z.revision z.bindings t))

    variable_reply : (h : History) (site slot : ℕ) (o : Option ℕ) (b : Bool) → find (at site slot) h.session.places ≡ o
        → answered h (if_room o b (session.variable site slot)) ≡ view_reply (variable_step lim h.session (at site slot) o b).reply
    unfolding session.reply session.variable_at variable_step if_room view_reply view
    variable_reply h site slot (some v) b e = ap (λ (o : Option ℕ). session.term (session.variable_at S fallback never (read n) o (issued h.session))) e
    variable_reply h site slot none true e = refl
    variable_reply h site slot none false e = ap (λ (o : Option ℕ). session.term (session.variable_at S fallback never (read n) o (issued h.session))) e

    number_reply : (h : History) (site : ℕ) (r : Request) (o : Option ℕ) (b : Bool) → find (at site 1) h.session.places ≡ o
        → answered h (if_room o b (session.number site r)) ≡ view_reply (number_at lim h.session (at site 1) r o b).reply
    unfolding session.reply session.obey session.serve_number session.variable_at number_at if_room view_reply view
    number_reply h site r (some v) b e =
        ap (λ (o : Option ℕ). session.term (answer S (session.serve_number S fallback never (view_run h) site r o).state.table (session.variable_at S fallback never (read n) o (issued h.session)))) e
        ∙ answer_view h.session.solver (var v)
    number_reply h site r none true e = refl
    number_reply h site r none false e =
        ap (λ (o : Option ℕ). session.term (answer S (session.serve_number S fallback never (view_run h) site r o).state.table (session.variable_at S fallback never (read n) o (issued h.session)))) e
        ∙ answer_view h.session.solver (var (issued h.session))

    hole_reply : (h : History) (site : ℕ) (o : Option ℕ) (b : Bool) → find (gap site) h.session.places ≡ o
        → answered h (if_room o b (session.hole site)) ≡ view_reply (hole_at lim h.session (gap site) o b).reply
    unfolding session.reply session.variable_at hole_at if_room view_reply view
    hole_reply h site (some v) b e =
        ap (λ (o : Option ℕ). session.term (answer S (view_table h.session.solver) (session.variable_at S fallback never (read n) o (issued h.session)))) e
        ∙ answer_view h.session.solver (var v)
    hole_reply h site none true e = refl
    hole_reply h site none false e =
        ap (λ (o : Option ℕ). session.term (answer S (view_table h.session.solver) (session.variable_at S fallback never (read n) o (issued h.session)))) e
        ∙ answer_view h.session.solver (var (issued h.session))

    -- an order on a term: refused with 6, with 7, or answered
    term_reply : (s : Session) (t : Term) (b c : Bool) → (b ≡ true → Issued (issued s) (view t)) → (Issued (issued s) (view t) → b ≡ true) → (d : Dec (Issued (issued s) (view t)))
        → (x : Step) (y : session.Reply S) → y ≡ view_reply x.reply
        → pick c session.refusal (session.if_issued S fallback never (read n) d y) ≡ view_reply (unless lim s b c x).reply
    unfolding session.if_issued view_reply
    term_reply s t true true f g d x y e = refl
    term_reply s t false true f g d x y e = refl
    term_reply s t true false f g (yes i) x y e = e
    term_reply s t true false f g (no i) x y e = absurd (i (f refl))
    term_reply s t false false f g (yes i) x y e = never_true (g i)
    term_reply s t false false f g (no i) x y e = refl

    pair_reply : (h : History) (t u : Term) (k : ℕ) (a b c : Bool) → (a ≡ true → Issued (issued h.session) (view t)) → (b ≡ true → Issued (issued h.session) (view u))
        → (x : Step) → session.verdict (session.verdict_of S fallback never (read n) (table.table_poses S (read n) k (view_table h.session.solver) (view t) (view u))) ≡ view_reply x.reply
        → answered h (pick (a && b) (pick c session.refused (session.pair k (view t) (view u))) session.refused) ≡ view_reply (unless lim h.session (a && b) c x).reply
    unfolding session.reply session.if_issued view_reply
    pair_reply h t u k true true true f g x q = refl
    pair_reply h t u k true true false f g x q = go (issued? (issued h.session) (view t)) (issued? (issued h.session) (view u))
      where
        y : session.Reply S
        y = session.verdict (session.verdict_of S fallback never (read n) (table.table_poses S (read n) k (view_table h.session.solver) (view t) (view u)))

        go : (d : Dec (Issued (issued h.session) (view t))) (e : Dec (Issued (issued h.session) (view u)))
            → session.if_issued S fallback never (read n) d (session.if_issued S fallback never (read n) e y) ≡ view_reply x.reply
        go (yes i) (yes j) = q
        go (yes i) (no j) = absurd (j (g refl))
        go (no i) e = absurd (i (f refl))
    pair_reply h t u k true false c f g x q = refl
    pair_reply h t u k false b c f g x q = refl

    picked : (h : History) (b : Bool) (c : session.Command S) → answered h (pick b session.refused c) ≡ pick b session.refusal (answered h c)
    unfolding session.reply
    picked h true c = refl
    picked h false c = refl

    verdict_view : (o : Out Solver) → session.verdict_of S fallback never (read n) (view_out o) ≡ verdict_code o
    unfolding session.verdict_of verdict_code view_out
    verdict_view (cancelled z) = refl
    verdict_view (done z true) = refl
    verdict_view (done z false) = refl

    moved_view : (a b : ℕ) → session.is_same a b ≡ eqb a b
    unfolding session.is_same
    moved_view a b = go (ℕ_discrete a b)
      where
        go : (d : Dec (a ≡ b)) → ite d true false ≡ eqb a b
        go (yes p) = sym (eq-eqb a b p)
        go (no p) = sym (ne_eqb a b p)

  -- EACH ANSWER IS THAT OF THE THEORY.
  pub reply_view : (h : History) (c : Command) → answered (notion (strict c)) h (view_command h.session c) ≡ view_reply (order lim h.session c).reply
  unfolding order view_command session.reply session.obey view_reply
  reply_view h (variable site slot) = variable_reply loose h site slot (find (at site slot) h.session.places) (full lim h.session) refl
  reply_view h (number site r) = number_reply loose h site r (find (at site 1) h.session.places) (full lim h.session) refl
  reply_view h (hole site) = hole_reply loose h site (find (gap site) h.session.places) (full lim h.session) refl
  reply_view h (defer t) =
      picked loose h (crowded lim h.session (size t)) (session.defer (view t))
      ∙ term_reply loose h.session t (known h.session t) (crowded lim h.session (size t)) (known_yes h.session t) (yes_known h.session t) (issued? (issued h.session) (view t))
      (deferring h.session (resolved h.session.solver t) gives nothing) session.nothing refl
  reply_view h (pair b k t u) =
      let n = notion b in
      let o = constrain n k h.session.solver t u in
      pair_reply n h t u k (known h.session t) (known h.session u) (crowded lim h.session (size t + size u)) (known_yes h.session t) (known_yes h.session u)
      (posing lim h.session (size t + size u) o)
      (ap session.verdict (ap (session.verdict_of S fallback never (read n)) (settles_view n k h.session.solver true ((t, u) ∷ [])) ∙ verdict_view n o))
  reply_view h (resolving t) =
      picked loose h (crowded lim h.session (size t)) (session.resolving (view t))
      ∙ term_reply loose h.session t (known h.session t) (crowded lim h.session (size t)) (known_yes h.session t) (yes_known h.session t) (issued? (issued h.session) (view t))
      (h.session gives term (resolved h.session.solver t)) (session.term (answer S (view_table h.session.solver) (view t))) (answer_view loose h.session.solver t)
  reply_view h numbers =
      ap (λ (z : Table S). session.changed (not (session.is_same z.rev h.session.solver.revision))) (numerics_view (issued h.session) 0 h.session.solver)
      ∙ ap (λ (b : Bool). session.changed (not b)) (moved_view loose (numeric_defaults_of (issued h.session) 0 h.session.solver).revision h.session.solver.revision)
  reply_view h nevers =
      ap (λ (z : Table S). session.changed (not (session.is_same z.rev h.session.solver.revision))) (nevers_view h.session.deferred (issued h.session) 0 h.session.solver)
      ∙ ap (λ (b : Bool). session.changed (not b)) (moved_view loose (never_defaults_of h.session.deferred (issued h.session) 0 h.session.solver).revision h.session.solver.revision)
  reply_view h revision = refl
  reply_view h (unread r) = refl
