-- The kept record of the ends of chains: one look-up gives the end; and how the record goes on when a variable is bound, when a request is made, and when a
-- variable is issued.
use mathlib.Core.Path.{◌≡◌, refl, sym, ap, subst, ◌∙◌}
use mathlib.Core.Bool.{Bool, true, false}
use mathlib.Core.Logic.{◌≢◌}
use mathlib.Core.List.{List}
use mathlib.Core.Option.{Option, none, some}
use Prim.Native.Nat.{ℕ, zero, suc, ◌+◌, ◌*◌, ◌%◌, ◌/◌, ◌<◌}
use native.Mathlib.Decide.{ℕ_discrete, dec_lt}
use native.Mathlib.Omega.{arith}
use borrow.Author.Tests.{eq-eqb, ne_eqb}
use lib.Dec.{eqb}
use lib.ListN.{get_or}
use Rattle.terms.specs.Result.{pick}
use Rattle.terms.specs.Term.{Term, Parts, var, node, AllVars}
use Rattle.unify.specs.Solver.{put, put_same, put_other}
use Rattle.unify.specs.Term.{clash}
use Rattle.solver.specs.Families.{Request, admits}
use Rattle.solver.specs.Constrain.{Solver, Requests, followed, follow, top}
use Rattle.solver.specs.Words.MethodContract.{bound_to, requesting}
use Rattle.solver.specs.Words.ConstrainContract.{Within}
use Rattle.solver.specs.Words.Masks.{bit}
use Rattle.solver.specs.Words.ChainRecord.{end_if, chain_ends, Coming, Last, named, family_mask, shared, HeldFamily, Sharing, HeldTail}
use Rattle.solver.proofs.Laws.Resolving.TopLaws.{follow_node, free_stays}
use Rattle.solver.specs.Invariant.{InOrder}
use Rattle.solver.proofs.Laws.Definition.InOrderLaws.{in_order_ordered}
use Rattle.solver.proofs.Laws.Definition.SolverInvariantLaws.{top_low, top_free}

-- an end, after v was bound to what ends at t
unfoldable pub moved : ℕ → Term → Term → Term
moved v t (var u) = pick (eqb u v) t (var u)
moved v t (node k ps) = node k ps

variable_within : (N u : ℕ) → u < N → Within N (var u)
unfolding AllVars
variable_within N u h = h

-- so it is in a session in order
pub in_order_coming : (N : ℕ) (z : Solver) → InOrder N z → Coming N z
in_order_coming N z o =
    let O = in_order_ordered N z o in
    record {
      free = λ t v e. top_free N z O t v e;
      low = λ u v h e. top_low N z O (var u) v (variable_within N u h) e;
      far = o.unbound;
    }

-- requests do not count
pub coming_requests : (N : ℕ) (z : Solver) (rs : Requests) → Coming N z → Coming N (requesting z rs)
coming_requests N z rs C = record { free = C.free; low = C.low; far = C.far }

-- and after one more is issued
pub coming_issued : (N : ℕ) (z : Solver) → Coming N z → Coming (suc N) z
coming_issued N z C = record { free = C.free; low = λ u v h e. go u v h e (ℕ_discrete u N); far = λ v h. C.far v (omega arith) }
  where
    go : (u v : ℕ) → u < suc N → top z (var u) ≡ var v → Dec (u ≡ N) → v < suc N
    go u v h e (yes d) =
        let g : var N ≡ var v = sym (free_stays z.revision z.bindings N (C.far N (omega arith))) ∙ ap (λ (i : ℕ). top z (var i)) (sym d) ∙ e in
        let i : N ≡ v = cc (g) in
        omega arith
    go u v h e (no d) = let l = C.low u v (omega arith) e in omega arith

-- ---- the end

-- none where v is free
pub ends_none : (n : ℕ) (b : ℕ → Option Term) (v : ℕ) → b v ≡ none → chain_ends n b v ≡ none
unfolding end_if
ends_none n b v p = rw p refl

-- ---- a binding

-- an end that is not at v stays
pub moved_else : (v : ℕ) (t e : Term) → e ≢ var v → moved v t e ≡ e
unfolding moved
moved_else v t (var u) m = rw (ne_eqb u v (λ c. m (ap var c))) refl
moved_else v t (node k ps) m = refl

pub moved_at : (v : ℕ) (t : Term) → moved v t (var v) ≡ t
unfolding moved
moved_at v t = rw (eq-eqb v v refl) refl

-- v, which is free, is bound to t, a node or another free variable: with one step more, following comes to t where it came to v, and else to the same
module _ (b : ℕ → Option Term) (v : ℕ) (t : Term) (p : b v ≡ none) (l : Last b v t) where
  last_stays : (n : ℕ) (t : Term) → Last b v t → follow n (put b v (some t)) t ≡ t
  last_stays n (node k ps) l = follow_node n (put b v (some (node k ps))) k ps
  last_stays n (var w) l = free_stays n (put b v (some (var w))) w (put_other b v (some (var w)) w l.1 ∙ l.0)

  free_moves : (n x : ℕ) → b x ≡ none → follow (suc n) (put b v (some t)) (var x) ≡ moved v t (var x)
  unfolding follow followed moved
  free_moves n x e = go (ℕ_discrete x v)
    where
      go : Dec (x ≡ v) → follow (suc n) (put b v (some t)) (var x) ≡ pick (eqb x v) t (var x)
      go (yes c) = rw (eq-eqb x v c, c, put_same b v (some t)) (last_stays n t l)
      go (no c) = rw (ne_eqb x v c, put_other b v (some t) x c, e) refl

  pub follow_moves : (n : ℕ) (s : Term) → ((x : ℕ) → follow n b s ≡ var x → b x ≡ none) → follow (suc n) (put b v (some t)) s ≡ moved v t (follow n b s)
  unfolding follow followed
  follow_moves n (node k ps) h = follow_node (suc n) (put b v (some t)) k ps ∙ sym (ap (moved v t) (follow_node n b k ps) ∙ moved_else v t (node k ps) (λ c. clash (cc (c))))
  follow_moves zero (var x) h = free_moves zero x (h x refl)
  follow_moves (suc n) (var x) h = go (b x) refl h (λ s k. follow_moves n s k)
    where
      go : (o : Option Term) → b x ≡ o → ((y : ℕ) → followed x o (λ u. follow n b u) ≡ var y → b y ≡ none)
          → ((s : Term) → ((y : ℕ) → follow n b s ≡ var y → b y ≡ none) → follow (suc n) (put b v (some t)) s ≡ moved v t (follow n b s))
          → follow (suc (suc n)) (put b v (some t)) (var x) ≡ moved v t (followed x o (λ u. follow n b u))
      go none e k i = free_moves (suc n) x e
      go (some u) e k i =
          let away : x ≢ v = λ c. clash (cc (ap b c, p, e)) in
          rw (put_other b v (some t) x away, e) (i u k)

  -- the end of a variable whose chain ended at v, and of another
  module _ (n : ℕ) (h : (s : Term) (x : ℕ) → follow n b s ≡ var x → b x ≡ none) where
    pub end_named : (u : ℕ) → follow n b (var u) ≡ var v → chain_ends (suc n) (put b v (some t)) u ≡ some t
    unfolding end_if
    end_named u e = go (put b v (some t) u) refl
      where
        to : follow (suc n) (put b v (some t)) (var u) ≡ t
        to = follow_moves n (var u) (h (var u)) ∙ ap (moved v t) e ∙ moved_at v t

        at_v : Dec (u ≡ v) → put b v (some t) u ≡ none → ⊥
        at_v (yes c) q = clash (cc (q, ap (put b v (some t)) c ∙ put_same b v (some t)))
        at_v (no c) q = c (let r : var u ≡ var v = sym (free_stays n b u (sym (put_other b v (some t) u c) ∙ q)) ∙ e in cc (r))

        go : (o : Option Term) → put b v (some t) u ≡ o → end_if o (follow (suc n) (put b v (some t)) (var u)) ≡ some t
        go none q = absurd (at_v (ℕ_discrete u v) q)
        go (some x) q = ap some to

    pub end_unnamed : (u : ℕ) → follow n b (var u) ≢ var v → chain_ends (suc n) (put b v (some t)) u ≡ chain_ends n b u
    end_unnamed u e =
        ap (λ (x : Option Term). end_if x (follow (suc n) (put b v (some t)) (var u))) (put_other b v (some t) u away)
        ∙ ap (end_if (b u)) (follow_moves n (var u) (h (var u)) ∙ moved_else v t (follow n b (var u)) e)
      where
        away : u ≢ v
        away c = e (ap (λ (x : ℕ). follow n b (var x)) c ∙ free_stays n b v p)

-- ---- tails

-- the tail's name is that of the variable at the end, and of no other
pub tail_names : (z : Solver) (n u : ℕ) (e : Term) (word v : ℕ) → HeldTail z n u e word → named word ≡ suc v → e ≡ var v
tail_names z n u (var w) word v h q = let r : w ≡ v = omega (arith, h.0) in ap var r
tail_names z n u (node k ps) word v h q = absurd (omega (arith, h))

pub tail_named : (z : Solver) (n u : ℕ) (e : Term) (word v : ℕ) → HeldTail z n u e word → e ≡ var v → named word ≡ suc v
tail_named z n u e word v h q = (subst (λ (x : Term). HeldTail z n u x word) q h).0

-- the tail that others have which end at the same variable
abbrev pub plain_tail : ℕ → ℕ
plain_tail word = word % 67108864

pub plain_named : (word : ℕ) → named (plain_tail word) ≡ named word
plain_named word = omega arith

pub plain_family : (word : ℕ) → family_mask (plain_tail word) ≡ family_mask word
plain_family word = omega arith

pub plain_unshared : (word : ℕ) → shared (plain_tail word) ≡ 0
plain_unshared word = omega arith

pub shared_named : (word : ℕ) → named (plain_tail word + 67108864) ≡ named word
shared_named word = omega arith

pub shared_family : (word : ℕ) → family_mask (plain_tail word + 67108864) ≡ family_mask word
shared_family word = omega arith

pub shared_shared : (word : ℕ) → shared (plain_tail word + 67108864) ≡ 1
shared_shared word = omega arith

-- v, which is free, is bound to t, a node or another free variable
module _ (N : ℕ) (z : Solver) (C : Coming N z) (v : ℕ) (t : Term) (p : z.bindings v ≡ none) (l : Last z.bindings v t) (low : v < N) where
  abbrev pub after : Solver
  after = bound_to z v t z.requests

  pub moves : (s : Term) → top after s ≡ moved v t (top z s)
  moves s = follow_moves z.bindings v t p l z.revision s (C.free s)

  top_moves : (u : ℕ) → top after (var u) ≡ moved v t (top z (var u))
  top_moves u = moves (var u)

  bound_now : after.bindings v ≡ none → ⊥
  bound_now q = clash (cc (q, put_same z.bindings v (some t)))

  stays : (u x : ℕ) → x ≢ v → top z (var u) ≡ var x → top after (var u) ≡ var x
  stays u x n e = top_moves u ∙ ap (moved v t) e ∙ moved_else v t (var x) (λ c. n (let r : x ≡ v = cc (c) in r))

  came : (u : ℕ) → top z (var u) ≡ var v → top after (var u) ≡ t
  came u e = top_moves u ∙ ap (moved v t) e ∙ moved_at v t

  -- a chain that ends at x after it ended there before, or at v, and then x is what v is bound to
  from : (u x : ℕ) → top after (var u) ≡ var x → t ≢ var x → top z (var u) ≡ var x
  unfolding moved
  from u x e n = go (top z (var u)) refl (sym (top_moves u) ∙ e)
    where
      go : (s : Term) → top z (var u) ≡ s → moved v t s ≡ var x → top z (var u) ≡ var x
      go (var w) q c = by (ℕ_discrete w v) c
        where
          by : Dec (w ≡ v) → pick (eqb w v) t (var w) ≡ var x → top z (var u) ≡ var x
          by (yes d) c = absurd (n (subst (λ (b : Bool). pick b t (var w) ≡ var x) (eq-eqb w v d) c))
          by (no d) c = q ∙ subst (λ (b : Bool). pick b t (var w) ≡ var x) (ne_eqb w v d) c
      go (node k ps) q c = clash (cc (c))

  -- what is followed afterwards comes to a free variable again
  after_free : (s : Term) (x : ℕ) → top after s ≡ var x → after.bindings x ≡ none
  unfolding moved
  after_free s x e = go (top z s) refl (sym (moves s) ∙ e)
    where
      target : (y : Term) → Last z.bindings v y → y ≡ var x → put z.bindings v (some t) x ≡ none
      target (var w) f q = let d : w ≡ x = cc (q) in subst (λ (i : ℕ). put z.bindings v (some t) i ≡ none) d (put_other z.bindings v (some t) w f.1 ∙ f.0)
      target (node k ps) f q = clash (cc (q))

      go : (y : Term) → top z s ≡ y → moved v t y ≡ var x → put z.bindings v (some t) x ≡ none
      go (node k ps) q c = clash (cc (c))
      go (var w) q c = by (ℕ_discrete w v)
        where
          by : Dec (w ≡ v) → put z.bindings v (some t) x ≡ none
          by (yes d) = target t l (subst (λ (b : Bool). pick b t (var w) ≡ var x) (eq-eqb w v d) c)
          by (no d) =
              let f : var w ≡ var x = subst (λ (b : Bool). pick b t (var w) ≡ var x) (ne_eqb w v d) c in
              let g : w ≡ x = cc (f) in
              subst (λ (i : ℕ). put z.bindings v (some t) i ≡ none) g (put_other z.bindings v (some t) w d ∙ C.free s w q)

  -- and from an issued one to an issued one
  pub coming_after : ((w : ℕ) → t ≡ var w → w < N) → Coming N after
  unfolding moved
  coming_after inside = record {
    free = after_free;
    low = λ u x h e. go u x h (top z (var u)) refl (sym (top_moves u) ∙ e);
    far = λ u h. put_other z.bindings v (some t) u (λ q. omega arith) ∙ C.far u h;
  }
    where
      go : (u x : ℕ) → u < N → (y : Term) → top z (var u) ≡ y → moved v t y ≡ var x → x < N
      go u x h (node k ps) q c = clash (cc (c))
      go u x h (var w) q c = by (ℕ_discrete w v)
        where
          by : Dec (w ≡ v) → x < N
          by (yes d) = inside x (subst (λ (b : Bool). pick b t (var w) ≡ var x) (eq-eqb w v d) c)
          by (no d) =
              let f : var w ≡ var x = subst (λ (b : Bool). pick b t (var w) ≡ var x) (ne_eqb w v d) c in
              let g : w ≡ x = cc (f) in
              subst (λ (i : ℕ). i < N) g (C.low u w h q)

  -- sharing of a variable that is not what v is bound to
  sharing_stays : (x f : ℕ) → x ≢ v → t ≢ var x → Sharing z N x f → Sharing after N x f
  sharing_stays x f n m S =
      record {
        most = S.most;
        yes = λ q. let w = S.yes q in (w.0, w.1, w.2, stays w.0 x n w.3);
        no = λ q u h d e. S.no q u h d (from u x e m);
      }

  -- a bound variable shares with none
  sharing_none : (u : ℕ) → (after.bindings u ≡ none → ⊥) → Sharing after N u 0
  sharing_none u b =
      record {
        most = omega arith;
        yes = λ q. absurd (omega arith);
        no = λ q w h d e. b (after_free (var w) u e);
      }

  -- a variable whose chain ends at another one is bound
  bound_else : (u x : ℕ) → top z (var u) ≡ var x → u ≢ x → z.bindings u ≡ none → ⊥
  bound_else u x e n q = n (let r : var u ≡ var x = sym (free_stays z.revision z.bindings u q) ∙ e in cc (r))

  -- the tail of each variable after it. `old` and `new` are the words before and after: a variable whose tail named v takes the tail that goes with t, and the
  -- variable t shares from now on.
  pub record Retailed (old new : ℕ → ℕ) : Type 0 where
    pub node : (k : ℕ) (ps : Parts) → t ≡ node k ps → (u : ℕ) → named (old u) ≡ suc v → new u ≡ 0
    pub variable : (w : ℕ) → t ≡ var w → (u : ℕ) → named (old u) ≡ suc v → new u ≡ plain_tail (old w)
    pub shares : (w : ℕ) → t ≡ var w → new w ≡ plain_tail (old w) + 67108864
    pub others : (u : ℕ) → (named (old u) ≡ suc v → ⊥) → t ≢ var u → new u ≡ old u

  -- a variable whose chain ended at v is bound now
  bound_come : (u : ℕ) → top z (var u) ≡ var v → after.bindings u ≡ none → ⊥
  bound_come u e q = go (ℕ_discrete u v)
    where
      go : Dec (u ≡ v) → ⊥
      go (yes d) = bound_now (sym (ap after.bindings d) ∙ q)
      go (no d) = bound_else u v e d (sym (put_other z.bindings v (some t) u d) ∙ q)

  module _ (old new : ℕ → ℕ) (held : (u : ℕ) → u < N → HeldTail z N u (top z (var u)) (old u)) (r : Retailed old new) (inside : (w : ℕ) → t ≡ var w → w < N) where
    -- the tail of what v is bound to, if it is a variable
    target : (w : ℕ) → t ≡ var w → (top z (var w) ≡ var w) × HeldTail z N w (var w) (old w) × (w ≢ v)
    target w q =
        let f = subst (λ (s : Term). Last z.bindings v s) q l in
        let self = free_stays z.revision z.bindings w f.0 in
        (self, subst (λ (s : Term). HeldTail z N w s (old w)) self (held w (inside w q)), f.1)

    -- of a variable whose chain ended at v
    tail_came : (u : ℕ) → u < N → top z (var u) ≡ var v → (s : Term) → t ≡ s → HeldTail after N u s (new u)
    tail_came u h e (node k ps) q = r.node k ps q u (tail_named z N u (top z (var u)) (old u) v (held u h) e)
    tail_came u h e (var w) q =
        let n : named (old u) ≡ suc v = tail_named z N u (top z (var u)) (old u) v (held u h) e in
        let H = (target w q).1 in
        rw (r.variable w q u n)
        (plain_named (old w) ∙ H.0, rw (plain_family (old w)) H.1, rw (plain_unshared (old w)) (sharing_none u (bound_come u e)))

    -- of the variable that v is bound to
    tail_shares : (w : ℕ) → t ≡ var w → HeldTail after N w (var w) (new w)
    tail_shares w q =
        let T = target w q in
        let H = T.1 in
        rw (r.shares w q) (
          shared_named (old w) ∙ H.0,
          rw (shared_family (old w)) H.1,
          rw (shared_shared (old w))
              (record {
                most = omega arith;
                yes = λ _. (v, low, (λ c. T.2 (sym c)), came v (free_stays z.revision z.bindings v p) ∙ q);
                no = λ c. absurd (omega arith);
              }),
        )

    -- of another one
    tail_stays : (u : ℕ) → u < N → (s : Term) → top z (var u) ≡ s → s ≢ var v → t ≢ var u → HeldTail after N u s (new u)
    tail_stays u h s e n m = rw (r.others u (λ c. n (sym e ∙ tail_names z N u (top z (var u)) (old u) v (held u h) c)) m)
        (go s e (subst (λ (x : Term). HeldTail z N u x (old u)) e (held u h)))
      where
        away : u ≢ v
        away c = n (sym e ∙ ap (λ (x : ℕ). top z (var x)) c ∙ free_stays z.revision z.bindings v p)

        go : (s : Term) → top z (var u) ≡ s → HeldTail z N u s (old u) → HeldTail after N u s (old u)
        go (var x) c H = (H.0, H.1, sharing_stays u (shared (old u)) away m H.2)
        go (node k ps) c H = H

    -- so every tail is right again
    pub tails_after : (u : ℕ) → u < N → HeldTail after N u (top after (var u)) (new u)
    tails_after u h = go (top z (var u)) refl
      where
        still : (s : Term) → top z (var u) ≡ s → s ≢ var v → HeldTail after N u (top after (var u)) (new u)
        still s e n = subst (λ (x : Term). HeldTail after N u x (new u)) (sym (top_moves u ∙ ap (moved v t) e ∙ moved_else v t s n)) (at_target t refl)
          where
            at_target : (c : Term) → t ≡ c → HeldTail after N u s (new u)
            at_target (node k ps) q = tail_stays u h s e n (λ d. clash (cc (q, d)))
            at_target (var w) q = by (ℕ_discrete u w)
              where
                by : Dec (u ≡ w) → HeldTail after N u s (new u)
                by (yes d) =
                    let f : s ≡ var u = sym e ∙ ap (λ (x : ℕ). top z (var x)) d ∙ (target w q).0 ∙ ap var (sym d) in
                    subst (λ (x : Term). HeldTail after N u x (new u)) (sym f) (subst (λ (x : ℕ). HeldTail after N x (var x) (new x)) (sym d) (tail_shares w q))
                by (no d) = tail_stays u h s e n (λ c. d (let f : var w ≡ var u = sym q ∙ c in let g : w ≡ u = cc (f) in sym g))

        go : (s : Term) → top z (var u) ≡ s → HeldTail after N u (top after (var u)) (new u)
        go (node k ps) e = still (node k ps) e (λ c. clash (cc (c)))
        go (var x) e = by (ℕ_discrete x v)
          where
            by : Dec (x ≡ v) → HeldTail after N u (top after (var u)) (new u)
            by (yes d) =
                let c : top z (var u) ≡ var v = e ∙ ap var d in
                subst (λ (s : Term). HeldTail after N u s (new u)) (sym (came u c)) (tail_came u h c t refl)
            by (no d) = still (var x) e (λ c. d (let f : x ≡ v = cc (c) in f))

-- ---- a request

-- r is requested of w
module _ (N : ℕ) (z : Solver) (w : ℕ) (r : Request) where
  abbrev pub asked : Solver
  asked = record { bindings = z.bindings; requests = put z.requests w (some r); revision = z.revision }

  -- the tails that name w have its family from now on
  pub tails_asked : (old new : ℕ → ℕ) → ((u : ℕ) → u < N → HeldTail z N u (top z (var u)) (old u))
      → ((u : ℕ) → named (old u) ≡ suc w → (named (new u) ≡ suc w) × HeldFamily (some r) (family_mask (new u)) × (shared (new u) ≡ shared (old u)))
      → ((u : ℕ) → (named (old u) ≡ suc w → ⊥) → new u ≡ old u) → (u : ℕ) → u < N → HeldTail asked N u (top asked (var u)) (new u)
  tails_asked old new held at others u h = go (top z (var u)) (held u h)
    where
      same : {v f : ℕ} → Sharing z N v f → Sharing asked N v f
      same S = record { most = S.most; yes = S.yes; no = S.no }

      go : (e : Term) → HeldTail z N u e (old u) → HeldTail asked N u e (new u)
      go (node k ps) H = others u (λ c. omega (arith, H)) ∙ H
      go (var x) H = by (ℕ_discrete x w)
        where
          by : Dec (x ≡ w) → HeldTail asked N u (var x) (new u)
          by (yes d) =
              let A = at u (H.0 ∙ ap suc d) in (
                A.0 ∙ ap suc (sym d),
                rw (d, put_same z.requests w (some r)) A.1,
                rw A.2 (same H.2),
              )
          by (no d) =
              rw (others u (λ c. d (omega (arith, H.0))))
              (H.0, subst (λ (o : Option Request). HeldFamily o (family_mask (old u))) (sym (put_other z.requests w (some r) x d)) H.1, same H.2)

-- ---- a variable issued

module _ (N : ℕ) (z : Solver) (C : Coming N z) (far : z.bindings N ≡ none) (unasked : z.requests N ≡ none) where
  self : top z (var N) ≡ var N
  self = free_stays z.revision z.bindings N far

  pub tails_issued : (old new : ℕ → ℕ) → ((u : ℕ) → u < N → HeldTail z N u (top z (var u)) (old u)) → new N ≡ suc N → suc N < 65536
      → ((u : ℕ) → u < N → new u ≡ old u) → (u : ℕ) → u < suc N → HeldTail z (suc N) u (top z (var u)) (new u)
  tails_issued old new held q low still u h = by (ℕ_discrete u N)
    where
      more : (v f : ℕ) → v < N → Sharing z N v f → Sharing z (suc N) v f
      more v f b S =
          record {
            most = S.most;
            yes = λ e. let w = S.yes e in (w.0, omega (arith, w.1), w.2, w.3);
            no = λ e u h d c. other e u h d c (ℕ_discrete u N);
          }
        where
          other : f ≡ 0 → (u : ℕ) → u < suc N → (u ≡ v → ⊥) → top z (var u) ≡ var v → Dec (u ≡ N) → ⊥
          other e u h d c (yes x) = d (let y : var N ≡ var v = sym self ∙ ap (λ (i : ℕ). top z (var i)) (sym x) ∙ c in let g : N ≡ v = cc (y) in x ∙ g)
          other e u h d c (no x) = S.no e u (omega arith) d c

      old_one : (u : ℕ) → u < N → (e : Term) → HeldTail z N u e (old u) → HeldTail z (suc N) u e (old u)
      old_one u b (node k ps) H = H
      old_one u b (var x) H = (H.0, H.1, more u (shared (old u)) b H.2)

      new_one : HeldTail z (suc N) N (var N) (new N)
      new_one =
          rw q (
            omega arith,
            subst (λ (r : Option Request). HeldFamily r (family_mask (suc N))) (sym unasked) (omega arith),
            record {
              most = omega arith;
              yes = λ e. absurd (omega arith);
              no = λ e u h d c. absurd (none_low u h d c);
            },
          )
        where
          none_low : (u : ℕ) → u < suc N → (u ≡ N → ⊥) → top z (var u) ≡ var N → ⊥
          none_low u h d c = let g = C.low u N (omega arith) c in omega arith

      by : Dec (u ≡ N) → HeldTail z (suc N) u (top z (var u)) (new u)
      by (yes d) = subst (λ (x : ℕ). HeldTail z (suc N) x (top z (var x)) (new x)) (sym d) (subst (λ (e : Term). HeldTail z (suc N) N e (new N)) (sym self) new_one)
      by (no d) = rw (still u (omega arith)) (old_one u (omega arith) (top z (var u)) (held u (omega arith)))
