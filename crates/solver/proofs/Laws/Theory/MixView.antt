-- A history viewed with the notion of each pair is the theory's mix, for every list of orders.
use mathlib.Core.Path.{◌≡◌, refl, sym, ap₂, subst}
use mathlib.Core.Bool.{Bool, true, false, ◌&&◌}
use mathlib.Core.List.{List, [], ◌∷◌}
use mathlib.Core.Option.{Option, none, some}
use Prim.Native.Nat.{ℕ, ◌+◌}
use Rattle.terms.specs.Result.{pick}
use Rattle.terms.specs.Term.{Term, size}
use Rattle.unify.specs.Orders.{Run, Issued, issued?}
use Rattle.unify.specs.Session as session
use Rattle.unify.specs.Mixes as mixes
use Rattle.solver.specs.Shapes.{notion, read}
use Rattle.solver.specs.Constrain.{constrain}
use Rattle.solver.specs.Session.{Limits, at, gap, Session, issued, find, never}
use Rattle.solver.specs.Orders.{Command, variable, number, hole, defer, pair, resolving, numbers, nevers, revision, unread}
use Rattle.solver.specs.Orders.{known, full, crowded, unless, posing, order}
use Rattle.solver.specs.Demand3.{History, accepted, strict_by, OnlyBy, role, after, history, AllAllowed}
use Rattle.solver.proofs.Laws.Theory.TheoryView.{view}
use Rattle.solver.proofs.Laws.Theory.Signature.{S}
use Rattle.solver.proofs.Laws.Theory.ConstrainView.{fallback}
use Rattle.solver.proofs.Laws.Theory.TheorySimulation.{TheSession, view_run, known_yes, if_room, view_command, strict, order_view, allowed_view}

abbrev pub norm : Bool → Term → Term
norm b = read (notion b)

abbrev pub Mix : Type 0
Mix = mixes.Mixing S fallback never Bool norm

abbrev pub view_mix : History → Mix
view_mix h = record { run = view_run h; by = h.by }

abbrev pub By : Type 0
By = mixes.By S Bool

abbrev also : {P Q : Type 0} → Bool → Dec P → Dec Q → List Bool → List Bool
also b d e bs = mixes.also S fallback never Bool norm b d e bs

abbrev noted : History → Bool → session.Command S → List Bool
noted h b c = mixes.noted S fallback never Bool norm (view_run h) b c h.by

module _ (lim : Limits) where
  abbrev pub view_by : Session → Command → By
  view_by s c = (strict c, view_command lim s c)

  pub view_all : Session → List Command → List By
  view_all s [] = []
  view_all s (c ∷ cs) = view_by s c ∷ view_all (order lim s c).session cs

  -- ---- which pairs are posed, and how

  -- orders that pose no pair
  room_noted : (h : History) (o : Option ℕ) (b : Bool) (c : session.Command S) → noted h false c ≡ h.by → noted h false (if_room lim o b c) ≡ h.by
  unfolding if_room mixes.noted
  room_noted h none true c e = refl
  room_noted h none false c e = e
  room_noted h (some v) b c e = e

  pick_noted : (h : History) (b : Bool) (c : session.Command S) → noted h false c ≡ h.by → noted h false (pick b session.refused c) ≡ h.by
  unfolding mixes.noted
  pick_noted h true c e = refl
  pick_noted h false c e = e

  by_view : (h : History) (c : Command) → noted h (strict c) (view_command lim h.session c) ≡ strict_by h.by (role c) (accepted (order lim h.session c).reply)
  unfolding view_command mixes.noted mixes.also strict_by order accepted
  by_view h (variable site slot) = room_noted h (find (at site slot) h.session.places) (full lim h.session) (session.variable site slot) refl
  by_view h (number site r) = room_noted h (find (at site 1) h.session.places) (full lim h.session) (session.number site r) refl
  by_view h (hole site) = room_noted h (find (gap site) h.session.places) (full lim h.session) (session.hole site) refl
  by_view h (defer t) = pick_noted h (crowded lim h.session (size t)) (session.defer (view t)) refl
  by_view h (pair d k t u) = go (known h.session t) (known h.session u) (crowded lim h.session (size t + size u)) (known_yes h.session t) (known_yes h.session u)
    where
      both : Issued (issued h.session) (view t) → Issued (issued h.session) (view u)
          → (x : Dec (Issued (issued h.session) (view t))) (y : Dec (Issued (issued h.session) (view u))) → also d x y h.by ≡ d ∷ h.by
      both i j (yes a) (yes b) = refl
      both i j (yes a) (no b) = absurd (b j)
      both i j (no a) y = absurd (a i)

      go : (a b c : Bool) → (a ≡ true → Issued (issued h.session) (view t)) → (b ≡ true → Issued (issued h.session) (view u))
          → noted h d (pick (a && b) (pick c session.refused (session.pair k (view t) (view u))) session.refused)
          ≡ pick (accepted (unless lim h.session (a && b) c (posing lim h.session (size t + size u) (constrain (notion d) k h.session.solver t u))).reply) (d ∷ h.by) h.by
      go true true true f g = refl
      go true true false f g = both (f refl) (g refl) (issued? (issued h.session) (view t)) (issued? (issued h.session) (view u))
      go true false c f g = refl
      go false b c f g = refl
  by_view h (resolving t) = pick_noted h (crowded lim h.session (size t)) (session.resolving (view t)) refl
  by_view h numbers = refl
  by_view h nevers = refl
  by_view h revision = refl
  by_view h (unread r) = refl

  -- ---- AN ORDER, AND A LIST OF ORDERS, IS THAT OF THE THEORY'S MIX

  abbrev mixed : (x : Run S TheSession) (bs : List Bool) → Mix
  mixed x bs = record { run = x; by = bs }

  pub mix_order : (h : History) (c : Command) → mixes.obey_by S fallback never Bool norm (view_mix h) (view_by h.session c) ≡ view_mix (after lim h c)
  mix_order h c = ap₂ mixed (order_view lim h c) (by_view h c)

  pub mix_history : (h : History) (cs : List Command) → mixes.mix S fallback never Bool norm (view_mix h) (view_all h.session cs) ≡ view_mix (history lim h cs)
  unfolding mixes.mix history view_all
  mix_history h [] = refl
  mix_history h (c ∷ cs) =
      subst (λ (x : Mix). mixes.mix S fallback never Bool norm x (view_all (order lim h.session c).session cs) ≡ view_mix (history lim (after lim h c) cs)) (sym (mix_order h c))
      (mix_history (after lim h c) cs)

  -- the premises that are about an order where it stands
  pub mix_allowed : (h : History) (cs : List Command) → AllAllowed lim h.session cs → mixes.AllAllowedBy S fallback never Bool norm (view_mix h) (view_all h.session cs)
  unfolding view_all
  mix_allowed h [] p = tt
  mix_allowed h (c ∷ cs) p = (
    allowed_view lim h c p.0,
    subst (λ (x : Mix). mixes.AllAllowedBy S fallback never Bool norm x (view_all (order lim h.session c).session cs)) (sym (mix_order h c))
        (mix_allowed (after lim h c) cs p.1),
  )

  -- ---- lists that pose by one order alone

  by_before : (b : Bool) (h : History) (c : Command) → OnlyBy b (after lim h c).by → OnlyBy b h.by
  unfolding strict_by
  by_before b h (variable site slot) o = o
  by_before b h (number site r) o = o
  by_before b h (hole site) o = o
  by_before b h (defer t) o = o
  by_before b h (pair d k t u) o = go (accepted (order lim h.session (pair d k t u)).reply) o
    where
      go : (a : Bool) → OnlyBy b (pick a (d ∷ h.by) h.by) → OnlyBy b h.by
      go true p = p.1
      go false p = p
  by_before b h (resolving t) o = o
  by_before b h numbers o = o
  by_before b h nevers o = o
  by_before b h revision o = o
  by_before b h (unread r) o = o

  only_before : (b : Bool) (h : History) (cs : List Command) → OnlyBy b (history lim h cs).by → OnlyBy b h.by
  unfolding history
  only_before b h [] o = o
  only_before b h (c ∷ cs) o = by_before b h c (only_before b (after lim h c) cs o)

  -- an order that is not refused poses as the one order does
  room_only : (b : Bool) (o : Option ℕ) (f : Bool) (c : session.Command S) → mixes.PairBy S Bool b false c → mixes.PairBy S Bool b false (if_room lim o f c)
  unfolding if_room
  room_only b none true c p = tt
  room_only b none false c p = p
  room_only b (some v) f c p = p

  pick_only : (b : Bool) (f : Bool) (c : session.Command S) → mixes.PairBy S Bool b false c → mixes.PairBy S Bool b false (pick f session.refused c)
  pick_only b true c p = tt
  pick_only b false c p = p

  pair_only : (b : Bool) (h : History) (c : Command) → OnlyBy b (after lim h c).by → mixes.PairBy S Bool b (strict c) (view_command lim h.session c)
  unfolding view_command strict_by order accepted
  pair_only b h (variable site slot) o = room_only b (find (at site slot) h.session.places) (full lim h.session) (session.variable site slot) tt
  pair_only b h (number site r) o = room_only b (find (at site 1) h.session.places) (full lim h.session) (session.number site r) tt
  pair_only b h (hole site) o = room_only b (find (gap site) h.session.places) (full lim h.session) (session.hole site) tt
  pair_only b h (defer t) o = pick_only b (crowded lim h.session (size t)) (session.defer (view t)) tt
  pair_only b h (pair d k t u) o = go (known h.session t && known h.session u) (crowded lim h.session (size t + size u)) o
    where
      go : (a c : Bool)
          → OnlyBy b (pick (accepted (unless lim h.session a c (posing lim h.session (size t + size u) (constrain (notion d) k h.session.solver t u))).reply) (d ∷ h.by) h.by)
          → mixes.PairBy S Bool b d (pick a (pick c session.refused (session.pair k (view t) (view u))) session.refused)
      go true true p = tt
      go true false p = p.0
      go false c p = tt
  pair_only b h (resolving t) o = pick_only b (crowded lim h.session (size t)) (session.resolving (view t)) tt
  pair_only b h numbers o = tt
  pair_only b h nevers o = tt
  pair_only b h revision o = tt
  pair_only b h (unread r) o = tt

  pub mix_only : (b : Bool) (h : History) (cs : List Command) → OnlyBy b (history lim h cs).by → mixes.OnlyBy S Bool b (view_all h.session cs)
  unfolding history view_all
  mix_only b h [] o = tt
  mix_only b h (c ∷ cs) o = (pair_only b h c (only_before b (after lim h c) cs o), mix_only b (after lim h c) cs o)
