-- Two rows read in step: what is left of both decides whether the one begins with the other.
use mathlib.Core.Path.{◌≡◌, refl, sym, ap, ap₂, ◌∙◌}
use mathlib.Core.Bool.{Bool, true, false, ◌&&◌}
use mathlib.Core.List.{List}
use Prim.Native.Nat.{ℕ, suc, max, ◌+◌, ◌≤◌, ◌<◌}
use native.Mathlib.Omega.{arith}
use borrow.Author.Tests.{eqb-true, eqb-false, leb-true, leb-false}
use lib.Dec.{eqb, leb}
use lib.ListN.{length, get_or}
use Rattle.terms.specs.Words.Tokens.{Area}
use Rattle.terms.specs.Term.{Term, Parts, var, node, end, num, sub, ◌+++◌, depth, depths}
use Rattle.terms.specs.Words.Held.{Held, span}
use Rattle.terms.specs.Tree.{row, same}
use Rattle.terms.specs.Words.VirtualTokens.{view, Sight}
use Rattle.std.specs.declared.option.Option as rust
use Rattle.terms.specs.declared.Origin.{Origin}
use Rattle.terms.specs.declared.Content.{Content}
use Rattle.terms.specs.declared.Cursor.{Cursor}
use Rattle.terms.specs.Words.Arena.{head_of, kids_of, Tree, variable, branch, Parted, RowAt, From, Alike, Begins, Starts}
use Rattle.terms.proofs.Laws.General.Bools.{never_true}
use Rattle.terms.proofs.Laws.Held.HeldLaws.{head_kind}
use Rattle.terms.proofs.Laws.Held.SameLaws.{both, same_refl, same_true}
use Rattle.terms.proofs.Laws.Normalising.SourceLaws.{tree_held}
use Rattle.terms.proofs.Laws.Normalising.ArenaLaws.{parted_over, parted_more, parted_number, parted_child, tree_kind}
use Rattle.std.specs.Prelude.{MatchOption, Some, None}

clash : {A : Type 0} → ◌≡◌ {A = ℕ} 0 1 → A
clash e = absurd (omega arith)

-- ---- levels

pub depth_some : (t : Term) → 1 ≤ depth t
unfolding depth
depth_some (var v) = omega arith
depth_some (node k ps) = omega arith

pub depth_row : (t : Term) → depth t ≡ suc (depths (row t))
unfolding depth row
depth_row (var v) = refl
depth_row (node k ps) = refl

pub depths_num : (n : ℕ) (ps : Parts) → depths (num n ps) ≡ depths ps
unfolding depth
depths_num n ps = refl

pub depths_sub : (t : Term) (ps : Parts) → depths (sub t ps) ≡ max (depth t) (depths ps)
unfolding depth
depths_sub t ps = refl

-- ---- rows one after the other

pub behind_end : (ps : Parts) → ps +++ end ≡ ps
behind_end end = refl
behind_end (num n ps) = ap (num n) (behind_end ps)
behind_end (sub t ps) = ap (sub t) (behind_end ps)

no_end : (ps rest : Parts) → (ps ≡ end → ⊥) → end ≡ ps +++ rest → ⊥
no_end end rest f e = f refl
no_end (num n ps) rest f e = clash (cc)
no_end (sub t ps) rest f e = clash (cc)

-- ---- the loop

module _ (a : Area) (hs cs : List ℕ) (x y : Cursor) (fuel : ℕ) where
  -- l and m are left: the whole begins with the other whole where these do
  pub record MeetAt (S T : ℕ → Bool) (ps qs : Parts) (p i q j : ℕ) : Type 0 where
    pub l : Parts
    pub m : Parts
    pub left : Parted a hs cs S x.kids x.end p i l
    pub right : Parted a hs cs T y.kids y.end q j m
    pub low : depths l ≤ fuel
    pub to : (rest : Parts) → ps ≡ qs +++ rest → l ≡ m +++ rest
    pub from : (rest : Parts) → l ≡ m +++ rest → ps ≡ qs +++ rest

  pub record Meeting (p i q j : ℕ) : Type 0 where
    pub first : i ≤ p
    pub second : j ≤ q
    pub is : (S T : ℕ → Bool) (ps qs : Parts) → From a hs cs S x ps → From a hs cs T y qs → depths ps ≤ fuel → MeetAt S T ps qs p i q j

  pub meeting_start : Meeting x.at x.child y.at y.child
  meeting_start = record {
    first = x.few;
    second = y.few;
    is = λ S T ps qs f g d. record { l = ps; m = qs; left = f; right = g; low = d; to = λ r e. e; from = λ r e. e };
  }

module _ {a : Area} {hs cs : List ℕ} {x y : Cursor} {fuel p i q j : ℕ} (w : Meeting a hs cs x y fuel p i q j) where
  pub meeting_done : y.end ≤ q → (small : x.end < 4294967296) (few : i ≤ p)
      → Begins a hs cs x y fuel (Some (record { at = p; end = x.end; child = i; kids = x.kids; small = small; few = few }))
  meeting_done le small few = (
    (refl, refl),
    λ S T ps qs f g d.
        let b = w.is S T ps qs f g d in
        let e = parted_over a hs cs T b.right le in
        (b.l, b.from b.l (ap (λ (r : Parts). r +++ b.l) (sym e)), b.left),
  )

  -- the first row ends before
  pub meeting_short : q < y.end → x.end ≤ p → Begins a hs cs x y fuel None
  meeting_short lt le S T ps qs f g d rest e =
      let b = w.is S T ps qs f g d in
      no_end b.m rest (parted_more a hs cs T b.right lt) (sym (parted_over a hs cs S b.left le) ∙ b.to rest e)

  module _ (lq : q < y.end) (lp : p < x.end) {k v n z : ℕ} (ek : k ≡ get_or a.kinds p 0) (ev : v ≡ get_or a.vals p 0)
      (en : n ≡ get_or a.kinds q 0) (ez : z ≡ get_or a.vals q 0) where
    module _ (o : n ≡ 0) where
      -- a number meets a child
      pub meeting_child : (k ≡ 0 → ⊥) → Begins a hs cs x y fuel None
      meeting_child c S T ps qs f g d rest e =
          let b = w.is S T ps qs f g d in
          let u = parted_child a hs cs S b.left lp ek ev c in
          let s = parted_number a hs cs T b.right lq en ez o in
          let h : sub u.term u.rest ≡ num z (s.rest +++ rest) = sym u.is ∙ b.to rest e ∙ ap (λ (r : Parts). r +++ rest) s.is in
          clash (cc)

      pub meeting_apart : k ≡ 0 → (v ≡ z → ⊥) → Begins a hs cs x y fuel None
      meeting_apart c ne S T ps qs f g d rest e =
          let b = w.is S T ps qs f g d in
          let u = parted_number a hs cs S b.left lp ek ev c in
          let s = parted_number a hs cs T b.right lq en ez o in
          let h : num v u.rest ≡ num z (s.rest +++ rest) = sym u.is ∙ b.to rest e ∙ ap (λ (r : Parts). r +++ rest) s.is in
          ne (cc)

      pub meeting_number : k ≡ 0 → v ≡ z → Meeting a hs cs x y fuel (p + 1) i (q + 1) j
      meeting_number c eq = record {
        first = omega (arith, w.first);
        second = omega (arith, w.second);
        is = λ S T ps qs f g d.
            let b = w.is S T ps qs f g d in
            let u = parted_number a hs cs S b.left lp ek ev c in
            let s = parted_number a hs cs T b.right lq en ez o in
            record {
              l = u.rest;
              m = s.rest;
              left = u.behind;
              right = s.behind;
              low = omega (arith, b.low, ap depths u.is, depths_num v u.rest);
              to = λ rest e.
                  let h : num v u.rest ≡ num z (s.rest +++ rest) = sym u.is ∙ b.to rest e ∙ ap (λ (r : Parts). r +++ rest) s.is in
                  cc;
              from = λ rest e. b.from rest (u.is ∙ ap₂ num eq e ∙ ap (λ (r : Parts). r +++ rest) (sym s.is));
            };
      }

    module _ (o : n ≡ 0 → ⊥) where
      -- a child meets a number
      pub meeting_other : k ≡ 0 → Begins a hs cs x y fuel None
      meeting_other c S T ps qs f g d rest e =
          let b = w.is S T ps qs f g d in
          let u = parted_number a hs cs S b.left lp ek ev c in
          let s = parted_child a hs cs T b.right lq en ez o in
          let h : num v u.rest ≡ sub s.term (s.rest +++ rest) = sym u.is ∙ b.to rest e ∙ ap (λ (r : Parts). r +++ rest) s.is in
          clash (cc)

      -- two children, compared
      module _ (c : k ≡ 0 → ⊥) (s t : Content) (sh : s.head ≡ head_of hs x.kids p i) (sk : s.kids ≡ kids_of cs x.kids i)
          (th : t.head ≡ head_of hs y.kids q j) (tk : t.kids ≡ kids_of cs y.kids j) (r : Bool) (al : Alike a hs cs s t fuel r) where
        pub meeting_differ : r ≡ false → Begins a hs cs x y fuel None
        meeting_differ fl S T ps qs f g d rest e =
            let b = w.is S T ps qs f g d in
            let u = parted_child a hs cs S b.left lp ek ev c in
            let z = parted_child a hs cs T b.right lq en ez o in
            let h : sub u.term u.rest ≡ sub z.term (z.rest +++ rest) = sym u.is ∙ b.to rest e ∙ ap (λ (y : Parts). y +++ rest) z.is in
            al.no fl S T u.term z.term (rw (sh, sk) u.tree) (rw (th, tk) z.tree)
            (omega (arith, b.low, ap depths u.is, depths_sub u.term u.rest)) (cc)

        pub meeting_same : r ≡ true → (b d : ℕ) → (1 ≤ span k v → b ≡ span k v) → (1 ≤ span n z → d ≡ span n z) → 1 ≤ b → 1 ≤ d → Meeting a hs cs x y fuel (p + b) (i + 1) (q + d) (j + 1)
        meeting_same tr b d eb ed b1 d1 = record {
          first = omega (arith, w.first);
          second = omega (arith, w.second);
          is = λ S T ps qs f g low.
              let m = w.is S T ps qs f g low in
              let u = parted_child a hs cs S m.left lp ek ev c in
              let z = parted_child a hs cs T m.right lq en ez o in
              let dl = depths_sub u.term u.rest in
              let eq : u.term ≡ z.term
              = al.yes tr S T u.term z.term (rw (sh, sk) u.tree) (rw (th, tk) z.tree) (omega (arith, m.low, ap depths u.is, dl)) in
              record {
                l = u.rest;
                m = z.rest;
                left = rw (eb u.some) u.behind;
                right = rw (ed z.some) z.behind;
                low = omega (arith, m.low, ap depths u.is, dl);
                to = λ rest e.
                    let h : sub u.term u.rest ≡ sub z.term (z.rest +++ rest) = sym u.is ∙ m.to rest e ∙ ap (λ (y : Parts). y +++ rest) z.is in
                    cc;
                from = λ rest e. m.from rest (u.is ∙ ap₂ sub eq e ∙ ap (λ (y : Parts). y +++ rest) (sym z.is));
              };
        }

-- ---- two trees

pub starts : (a : Area) (x : Content) (r : Cursor) → RowAt a x.head r.at r.end → r.child ≡ 0 → r.kids ≡ x.kids → Starts a x r
starts a x r w ec ek = record { is = λ hs cs S t f. rw (ec, ek) (w.is hs cs S x.kids t f) }

-- equal rows under equal heads
node_same : (t u : Term) → head_kind t ≡ head_kind u → (head_kind t ≡ 1 → ⊥) → row t ≡ row u → t ≡ u
unfolding head_kind row
node_same (var v) u e n r = absurd (n refl)
node_same (node k ps) (var w) e n r = absurd (n e)
node_same (node k ps) (node j qs) e n r = ap₂ node (omega arith) r

var_of : {a : Area} {hs cs : List ℕ} {S : ℕ → Bool} {h c : ℕ} (t : Term) → Tree a hs cs S h c t → head_kind t ≡ 1 → t ≡ var (get_or a.vals h 0)
unfolding head_kind
var_of t (variable e f l) o = ap var (sym f)
var_of t (branch e f o l w) q = absurd (omega arith)

module _ {a : Area} {hs cs : List ℕ} {x y : Content} {fuel : ℕ} where
  pub alike_none : fuel ≡ 0 → Alike a hs cs x y fuel false
  alike_none z = record {
    yes = λ e. never_true e;
    no = λ e S T t u f g d q. omega (arith, depth_some t);
  }

  module _ {k v n z : ℕ} (ek : k ≡ get_or a.kinds x.head 0) (ev : v ≡ get_or a.vals x.head 0) (en : n ≡ get_or a.kinds y.head 0) (ez : z ≡ get_or a.vals y.head 0) where
    pub alike_kinds : (k ≡ n → ⊥) → Alike a hs cs x y fuel false
    alike_kinds ne = record {
      yes = λ e. never_true e;
      no = λ e S T t u f g d o. ne (tree_kind a hs cs S f ek ∙ ap head_kind o ∙ sym (tree_kind a hs cs T g en));
    }

    module _ (kn : k ≡ n) where
      pub alike_vars : k ≡ 1 → Alike a hs cs x y fuel (eqb v z)
      alike_vars o = record {
        yes = λ e S T t u f g d.
            let eq' : get_or a.vals x.head 0 ≡ get_or a.vals y.head 0
            = sym ev ∙ eqb-true v z e ∙ ez in
            var_of t f (sym (tree_kind a hs cs S f ek) ∙ o) ∙ ap var eq' ∙ sym (var_of u g (sym (tree_kind a hs cs T g en) ∙ sym kn ∙ o));
        no = λ e S T t u f g d i.
            let h : var (get_or a.vals x.head 0) ≡ var (get_or a.vals y.head 0)
            = sym (var_of t f (sym (tree_kind a hs cs S f ek) ∙ o)) ∙ i ∙ var_of u g (sym (tree_kind a hs cs T g en) ∙ sym kn ∙ o) in
            let j : get_or a.vals x.head 0 ≡ get_or a.vals y.head 0 = cc in
            eqb-false v z e (ev ∙ j ∙ sym ez);
      }

      module _ (o' : k ≡ 1 → ⊥) {c d : Cursor} (sc : Starts a x c) (sd : Starts a y d) (less : ℕ) (el : less + 1 ≡ fuel) where
        -- the other row ends where this one does, or not
        pub alike_rows : (m : rust.Option Cursor) → Begins a hs cs c d less m → (r : Bool) → MatchOption m (r ≡ false) (λ z. r ≡ leb z.end z.at) → Alike a hs cs x y fuel r
        alike_rows None b r er = record {
          yes = λ e. never_true (sym er ∙ e);
          no = λ e S T t u f g low i.
              b S T (row t) (row u) (sc.is hs cs S t f) (sd.is hs cs T u g) (omega (arith, depth_row t)) end (ap row i ∙ sym (behind_end (row u)));
        }
        alike_rows (Some z) b r er = record {
          yes = λ e S T t u f g low.
              let m = b.1 S T (row t) (row u) (sc.is hs cs S t f) (sd.is hs cs T u g) (omega (arith, depth_row t)) in
              let o = parted_over a hs cs S m.2 (leb-true z.end z.at (sym er ∙ e)) in
              node_same t u (sym (tree_kind a hs cs S f ek) ∙ kn ∙ tree_kind a hs cs T g en) (λ h. o' (tree_kind a hs cs S f ek ∙ h)) (m.1 ∙ ap (λ (r : Parts). row u +++ r) o ∙ behind_end (row u));
          no = λ e S T t u f g low i.
              let m = b.1 S T (row t) (row u) (sc.is hs cs S t f) (sd.is hs cs T u g) (omega (arith, depth_row t)) in
              parted_more a hs cs S m.2 (leb-false z.end z.at (sym er ∙ e)) (rest_end (row u) m.0 (sym (ap row i) ∙ m.1));
        }
          where
            rest_end : (ps rest : Parts) → ps ≡ ps +++ rest → rest ≡ end
            rest_end end rest e = sym e
            rest_end (num n ps) rest e = rest_end ps rest (cc)
            rest_end (sub t ps) rest e = rest_end ps rest (cc)

-- ---- lent trees, compared token by token

-- as in the source, and all its tokens are lent
abbrev pub Lent : (ks vs : List ℕ) → Content → Type 0
Lent ks vs x = (x.kids ≡ 0) × (x.head + span (get_or ks x.head 0) (get_or vs x.head 0) ≤ length ks)

-- what `is_lent` tells
pub lent_true : (ks vs : List ℕ) (x : Content) (r : Bool) → r ≡ (eqb x.kids 0 && leb (x.head + span (get_or ks x.head 0) (get_or vs x.head 0)) (length ks)) → r ≡ true → Lent ks vs x
lent_true ks vs x r e t = let b = both _ _ (sym e ∙ t) in (eqb-true x.kids 0 b.0, leb-true _ _ b.1)

module _ {ks vs : List ℕ} {g : rust.Option Origin} (s : Sight ks vs g) {hs cs : List ℕ} {x y : Content} {fuel : ℕ} where
  -- r says whether the terms at p and q are the same
  pub alike_lent : Lent ks vs x → Lent ks vs y → {r : Bool} → ((t u : Term) → Held ks vs x.head t → Held ks vs y.head u → r ≡ same t u)
      → Alike (view ks vs g) hs cs x y fuel r
  alike_lent lx ly {r} f = record {
    yes = λ e S T t u w z d. same_true t u (sym (is S T t u w z) ∙ e);
    no = λ e S T t u w z d i. never_true (sym e ∙ is S T t u w z ∙ ap (same t) (sym i) ∙ same_refl t);
  }
    where
      held : (h : Content) → Lent ks vs h → (S : ℕ → Bool) (t : Term) → Tree (view ks vs g) hs cs S h.head h.kids t → Held ks vs h.head t
      held h l S t w = tree_held ks vs g s hs cs S h.head t l.1 (rw l.0 at w)

      is : (S T : ℕ → Bool) (t u : Term) → Tree (view ks vs g) hs cs S x.head x.kids t → Tree (view ks vs g) hs cs T y.head y.kids u → r ≡ same t u
      is S T t u w z = f t u (held x lx S t w) (held y ly T u z)
