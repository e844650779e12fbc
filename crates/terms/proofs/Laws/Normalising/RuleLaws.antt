-- The search of a rule: what a row begins with, and the rules passed.
use mathlib.Core.Path.{◌≡◌, refl, sym, ap, ap₂, ◌∙◌}
use mathlib.Core.Bool.{Bool, true, false}
use mathlib.Core.List.{List, [], ◌∷◌}
use mathlib.Core.Option.{none, some}
use Prim.Native.Nat.{ℕ, zero, suc, ◌+◌, ◌-◌, ◌≤◌, ◌<◌}
use native.Mathlib.Omega.{arith}
use borrow.Rule.Slice.PartAt.{part_to_end}
use lib.ListN.{length, get_or, take, drop}
use Rattle.std.proofs.lemmas.List.{drop_more, drop_all, length-drop}
use Rattle.std.proofs.lemmas.List.Quantifiers.{position-Some}
use Rattle.std.proofs.lemmas.List.Sums.{fails_before_first}
use Rattle.std.proofs.lemmas.Grind.{common_steps}
use Rattle.std.specs.List.{position}
use borrow.Author.Tests.{eq-eqb}
use Rattle.terms.proofs.Laws.General.Bools.{never_true}
use Rattle.terms.specs.Words.Tokens.{Area}
use Rattle.terms.specs.Term.{Term, Parts, node, end, num, sub, ◌+++◌, depth, depths}
use Rattle.terms.specs.Words.Held.{Held, HeldParts, span}
use Rattle.terms.specs.Tree.{nums, row, same_rows, put_terms}
use Rattle.terms.specs.declared.Origin.{Origin}
use Rattle.terms.specs.declared.Rule.{Rule}
use Rattle.terms.specs.declared.Cursor.{Cursor}
use Rattle.terms.specs.declared.Content.{Content}
use Rattle.terms.specs.Result.{pick}
use Rattle.terms.specs.Words.VirtualTokens.{view, Sight}
use Rattle.terms.specs.Lookup.{Pattern, front, left, by_patterns, HeldRule, Ruled}
use Rattle.terms.specs.Words.RuleListContract.{has_member, first_with}
use Rattle.terms.specs.Words.Arena.{Tree, Parted, EndAt, over, number, child, From, Begins, Starts}
use Rattle.terms.specs.Words.RulesContract.{TermStarts, Numbers, Fronted, last_but_one, MemberIn}
use Rattle.terms.proofs.Laws.Held.HeldLaws.{kind_some, items_some, held_sub}
use Rattle.terms.proofs.Laws.Held.SameLaws.{span_held, rows_refl, rows_true}
use Rattle.terms.proofs.Laws.Normalising.VirtualTokenLaws.{view_held, view_parts}
use Rattle.terms.proofs.Laws.Normalising.ArenaLaws.{held_tree, tree_kind, tree_row, parted_over, parted_more, parted_number, parted_child}
use Rattle.std.specs.Prelude.{Option, Some, None}

clash : {A : Type 0} → ◌≡◌ {A = ℕ} 0 1 → A
clash e = absurd (omega arith)

-- ---- a term as a row of its own

pub term_starts : (a : Area) (p : ℕ) (x : Cursor) → x.at ≡ p → x.child ≡ 0 → x.kids ≡ 0 → EndAt a p x.end → TermStarts a p x
term_starts a p x ea ec ez i = record {
  is = λ hs cs S t w.
      let r = tree_row a hs cs S w refl refl in
      let e = i.is r.0 r.1 in
      rw (ea, ec, ez) (child {c = 0} {e = x.end} {q = p} {n = 0} {t = t} (omega (arith, e, r.0)) (λ y. omega (arith, tree_kind a hs cs S w refl, kind_some t)) refl r.0 tt w (over (sym e)));
  ends = λ t h.
      let u = span_held a.kinds a.vals p t h in
      i.is (omega (arith, u, items_some t)) (omega (arith, u, h.within)) ∙ ap (λ (n : ℕ). p + n) u;
}

-- ---- two numbers

module _ (a : Area) (hs cs : List ℕ) (S : ℕ → Bool) where
  num_behind : {c e q n v : ℕ} {ps : Parts} → Parted a hs cs S c e q n (num v ps)
      → (q < e) × (get_or a.kinds q 0 ≡ 0) × (get_or a.vals q 0 ≡ v) × Parted a hs cs S c e (q + 1) n ps
  num_behind (number lt z f p) = (lt, z, f, p)

module _ (a : Area) (x : Cursor) (m n : ℕ) where
  -- what is so where they come next
  pub record NumbersAre : Type 0 where
    pub first : x.at < x.end
    pub kind : get_or a.kinds x.at 0 ≡ 0
    pub value : get_or a.vals x.at 0 ≡ m
    pub second : x.at + 1 < x.end
    pub kind2 : get_or a.kinds (x.at + 1) 0 ≡ 0
    pub value2 : get_or a.vals (x.at + 1) 0 ≡ n

  numbers_are : (hs cs : List ℕ) (S : ℕ → Bool) (ps rest : Parts) → From a hs cs S x ps → ps ≡ num m (num n rest) → NumbersAre
  numbers_are hs cs S ps rest f e =
      let g : From a hs cs S x (num m (num n rest)) = rw e at f in
      let b = num_behind a hs cs S g in
      let d = num_behind a hs cs S b.3 in
      record { first = b.0; kind = b.1; value = b.2; second = d.0; kind2 = d.1; value2 = d.2 }

  pub numbers_apart : (NumbersAre → ⊥) → Numbers a x m n None
  numbers_apart f hs cs S ps g rest e = f (numbers_are hs cs S ps rest g e)

  pub numbers_met : NumbersAre → (z : Cursor) → z.at ≡ x.at + 2 → z.end ≡ x.end → z.child ≡ x.child → z.kids ≡ x.kids → Numbers a x m n (Some z)
  numbers_met w z ea ee ec ez = (
    (ee, ez),
    λ hs cs S ps f.
        let b = parted_number a hs cs S f w.first (sym w.kind) (sym w.value) refl in
        let d = parted_number a hs cs S b.behind w.second (sym w.kind2) (sym w.value2) refl in
        let o : x.at + 1 + 1 ≡ z.at = omega arith in
        (d.rest, b.is ∙ ap (num m) d.is, rw (ee, ec, ez) (rw o at d.behind)),
  )

-- ---- what a rule has before its arguments

pub depths_behind : (qs rest : Parts) → depths rest ≤ depths (qs +++ rest)
unfolding depth
depths_behind end rest = omega arith
depths_behind (num n qs) rest = depths_behind qs rest
depths_behind (sub t qs) rest = let q = depths_behind qs rest in omega arith

front_is : (p : Pattern) (rest : Parts) → front p rest ≡ (sub p.receiver end) +++ (p.interface +++ num p.member (num (length p.arguments) rest))
unfolding front
front_is p rest = refl

row_node : (k : ℕ) (ps : Parts) → row (node k ps) ≡ ps
unfolding row
row_node k ps = refl

abbrev nothing : ℕ → Bool
nothing i = false

behind_cancel : (qs l m : Parts) → qs +++ l ≡ qs +++ m → l ≡ m
behind_cancel end l m e = e
behind_cancel (num n qs) l m e = behind_cancel qs l m (cc)
behind_cancel (sub t qs) l m e = behind_cancel qs l m (cc)

module _ (ks vs : List ℕ) (g : Option Origin) (s : Sight ks vs g) (hs cs : List ℕ) where
  abbrev area : Area
  area = view ks vs g

  -- a term of the source as a row of its own
  source_from : (p at : ℕ) (t : Term) (r : Cursor) → Held ks vs p t → at ≡ p → TermStarts area at r → From area hs cs nothing r (sub t end)
  source_from p at t r h e w = w.is hs cs nothing t (rw e (held_tree area hs cs nothing t p (view_held ks vs g s p t h)))

  -- the row of a bare nominal of the source
  nominal_from : (p : ℕ) (i : Parts) (y : Content) (r : Cursor) → Held ks vs p (node 20 i) → y.head ≡ p → y.kids ≡ 0 → Starts area y r → From area hs cs nothing r i
  nominal_from p i y r h eh ek w =
      let t : Tree area hs cs nothing y.head y.kids (node 20 i) = rw (eh, ek) (held_tree area hs cs nothing (node 20 i) p (view_held ks vs g s p (node 20 i) h)) in
      rw (row_node 20 i) at (w.is hs cs nothing (node 20 i) t)

  module _ (x : Cursor) (w : Rule) (fuel : ℕ) (rc : Cursor) (at : ℕ) (e : at ≡ w.receiver) (tr : TermStarts area at rc) where
    pub front_receiver : Begins area hs cs x rc fuel None → Fronted ks vs area hs cs x w fuel None
    front_receiver b S ps p f d h rest q =
        b S nothing ps (sub p.receiver end) f (source_from w.receiver at p.receiver rc h.receiver e tr) d _ (q ∙ front_is p rest)

    module _ (x₁ : Cursor) (b : Begins area hs cs x rc fuel (Some x₁)) (y : Content) (ic : Cursor) (yh : y.head ≡ w.interface) (yk : y.kids ≡ 0) (st : Starts area y ic) where
      -- after the receiver
      pub record First (S : ℕ → Bool) (ps : Parts) (p : Pattern) : Type 0 where
        pub rest : Parts
        pub is : ps ≡ sub p.receiver rest
        pub there : From area hs cs S x₁ rest
        pub low : depths rest ≤ fuel

      first : (S : ℕ → Bool) (ps : Parts) (p : Pattern) → From area hs cs S x ps → depths ps ≤ fuel → HeldRule ks vs w p → First S ps p
      first S ps p f d h =
          let r = b.1 S nothing ps (sub p.receiver end) f (source_from w.receiver at p.receiver rc h.receiver e tr) d in
          record { rest = r.0; is = r.1; there = r.2; low = omega (arith, depths_behind (sub p.receiver end) r.0, ap depths r.1) }

      pub front_interface : Begins area hs cs x₁ ic fuel None → Fronted ks vs area hs cs x w fuel None
      front_interface b2 S ps p f d h rest q =
          let r = first S ps p f d h in
          let z : sub p.receiver r.rest ≡ sub p.receiver (p.interface +++ num p.member (num (length p.arguments) rest)) = sym r.is ∙ q ∙ front_is p rest in
          b2 S nothing r.rest p.interface r.there (nominal_from w.interface p.interface y ic h.interface yh yk st) r.low
          (num p.member (num (length p.arguments) rest)) (cc)

      module _ (x₂ : Cursor) (b2 : Begins area hs cs x₁ ic fuel (Some x₂)) where
        -- after the interface
        pub record Second (S : ℕ → Bool) (ps : Parts) (p : Pattern) : Type 0 where
          pub rest : Parts
          pub is : ps ≡ sub p.receiver (p.interface +++ rest)
          pub there : From area hs cs S x₂ rest

        second : (S : ℕ → Bool) (ps : Parts) (p : Pattern) → From area hs cs S x ps → depths ps ≤ fuel → HeldRule ks vs w p → Second S ps p
        second S ps p f d h =
            let r = first S ps p f d h in
            let t = b2.1 S nothing r.rest p.interface r.there (nominal_from w.interface p.interface y ic h.interface yh yk st) r.low in
            record { rest = t.0; is = r.is ∙ ap (sub p.receiver) t.1; there = t.2 }

        pub front_numbers : (r : Option Cursor) → Numbers area x₂ w.member w.count r → Fronted ks vs area hs cs x w fuel r
        front_numbers (Some x₃) z = (
          (z.0.0 ∙ b2.0.0 ∙ b.0.0, z.0.1 ∙ b2.0.1 ∙ b.0.1),
          λ S ps p f d h.
              let r = second S ps p f d h in
              let t = z.1 hs cs S r.rest r.there in
              let u = ap₂ (λ (i j : ℕ). num i (num j t.0)) h.member h.count in
              (t.0, r.is ∙ ap (λ (l : Parts). sub p.receiver (p.interface +++ l)) (t.1 ∙ u) ∙ sym (front_is p t.0), t.2),
        )
        front_numbers None z = λ S ps p f d h rest q.
            let r = second S ps p f d h in
            let v : sub p.receiver (p.interface +++ r.rest) ≡ sub p.receiver (p.interface +++ num p.member (num (length p.arguments) rest)) = sym r.is ∙ q ∙ front_is p rest in
            let u = ap₂ (λ (i j : ℕ). num i (num j rest)) h.member h.count in
            z hs cs S r.rest r.there rest (behind_cancel p.interface r.rest (num p.member (num (length p.arguments) rest)) (cc) ∙ sym u)

-- ---- the member of a row: the last number but one

-- arguments have no numbers
terms_numbers : (ts : List Term) → nums (put_terms ts end) ≡ []
unfolding nums put_terms
terms_numbers [] = refl
terms_numbers (t ∷ ts) = terms_numbers ts

-- the member stands there after any interface
behind_member : (i : Parts) (a b m n : ℕ) (ts : List Term) → last_but_one a b (nums (i +++ num m (num n (put_terms ts end)))) ≡ m
unfolding nums last_but_one
behind_member end a b m n ts = rw (terms_numbers ts)
behind_member (num v i) a b m n ts = behind_member i b v m n ts
behind_member (sub t i) a b m n ts = behind_member i a b m n ts

-- and so in the row that a rule replaces
left_member : (a b : ℕ) (p : Pattern) → last_but_one a b (nums (left p)) ≡ p.member
unfolding nums front
left_member a b p = behind_member p.interface a b p.member (length p.arguments) p.arguments

module _ (a : Area) (x : Cursor) where
  -- what is left of a row from the token q on, after the numbers b and l, has its last number but one
  pub record CalledAt (q b l : ℕ) (hs cs : List ℕ) (S : ℕ → Bool) (ps : Parts) : Type 0 where
    pub passed : ℕ
    pub rest : Parts
    pub there : Parted a hs cs S x.kids x.end q passed rest
    pub so : last_but_one 0 0 (nums ps) ≡ last_but_one b l (nums rest)

  pub record Calling (q b l : ℕ) : Type 0 where
    pub is : (hs cs : List ℕ) (S : ℕ → Bool) (ps : Parts) → From a hs cs S x ps → CalledAt q b l hs cs S ps

  -- the scan: its start, a number and a child passed, its end
  pub calling_start : Calling x.at 0 0
  calling_start = record { is = λ hs cs S ps f. record { passed = x.child; rest = ps; there = f; so = refl } }

  module _ (q b l : ℕ) (w : Calling q b l) where
    pub calling_done : x.end ≤ q → MemberIn a x b
    unfolding nums last_but_one
    calling_done le = record {
      is = λ hs cs S ps f.
          let c = w.is hs cs S ps f in
          sym (c.so ∙ ap (λ (r : Parts). last_but_one b l (nums r)) (parted_over a hs cs S c.there le));
    }

    module _ (lt : q < x.end) {k v : ℕ} (ek : k ≡ get_or a.kinds q 0) (ev : v ≡ get_or a.vals q 0) where
      pub calling_number : k ≡ 0 → Calling (q + 1) l v
      unfolding nums last_but_one
      calling_number z = record {
        is = λ hs cs S ps f.
            let c = w.is hs cs S ps f in
            let d = parted_number a hs cs S c.there lt ek ev z in
            record { passed = c.passed; rest = d.rest; there = d.behind; so = c.so ∙ ap (λ (r : Parts). last_but_one b l (nums r)) d.is };
      }

      pub calling_child : (k ≡ 0 → ⊥) → (n : ℕ) → (1 ≤ span k v → n ≡ span k v) → Calling (q + n) b l
      unfolding nums
      calling_child z n en = record {
        is = λ hs cs S ps f.
            let c = w.is hs cs S ps f in
            let d = parted_child a hs cs S c.there lt ek ev z in
            record { passed = c.passed + 1; rest = d.rest; there = rw (en d.some) d.behind; so = c.so ∙ ap (λ (r : Parts). last_but_one b l (nums r)) d.is };
      }

-- ---- the rules one after the other

front_cancel : (p : Pattern) (l m : Parts) → front p l ≡ front p m → l ≡ m
unfolding front
front_cancel p l m e =
    let z : p.interface +++ num p.member (num (length p.arguments) l) ≡ p.interface +++ num p.member (num (length p.arguments) m) = cc in
    let y = behind_cancel p.interface _ _ z in
    cc

terms_cons : (u : Term) (us : List Term) → put_terms (u ∷ us) end ≡ sub u (put_terms us end)
unfolding put_terms
terms_cons u us = refl

empty : (us : List Term) → length us ≡ 0 → us ≡ []
empty [] e = refl
empty (u ∷ us) e = absurd (omega arith)

terms_none : put_terms [] end ≡ end
unfolding put_terms
terms_none = refl

pattern_yes : (p : Pattern) (rs : List Pattern) (ps : Parts) → ps ≡ left p → by_patterns (p ∷ rs) ps ≡ some p.value
unfolding by_patterns
pattern_yes p rs ps e = rw (e, rows_refl (left p))

pattern_no : (p : Pattern) (rs : List Pattern) (ps : Parts) → (ps ≡ left p → ⊥) → by_patterns (p ∷ rs) ps ≡ by_patterns rs ps
unfolding by_patterns
pattern_no p rs ps n = go (same_rows (left p) ps) refl
  where
    go : (b : Bool) → same_rows (left p) ps ≡ b → pick b (some p.value) (by_patterns rs ps) ≡ by_patterns rs ps
    go true h = absurd (n (sym (rows_true (left p) ps h)))
    go false h = refl

module _ (ks vs : List ℕ) (g : Option Origin) (hs cs : List ℕ) (x : Cursor) (fuel : ℕ) where
  abbrev seen : Area
  seen = view ks vs g

  -- the rule is not the row's, or it is
  pub record Missed (w : Rule) : Type 0 where
    pub is : (S : ℕ → Bool) (ps : Parts) (p : Pattern) → From seen hs cs S x ps → depths ps ≤ fuel → HeldRule ks vs w p → ps ≡ left p → ⊥

  pub record Hit (w : Rule) : Type 0 where
    pub is : (S : ℕ → Bool) (ps : Parts) (p : Pattern) → From seen hs cs S x ps → depths ps ≤ fuel → HeldRule ks vs w p → ps ≡ left p

  -- what is left of the row at z decides, with the arguments from the token q on
  pub record ArguingAt (z : Cursor) (q l : ℕ) (S : ℕ → Bool) (ps : Parts) (p : Pattern) : Type 0 where
    pub rest : Parts
    pub arguments : List Term
    pub ends : ℕ
    pub there : From seen hs cs S z rest
    pub low : depths rest ≤ fuel
    pub held : HeldParts seen.kinds seen.vals q ends (put_terms arguments end)
    pub count : l ≡ length arguments
    pub to : ps ≡ left p → rest ≡ put_terms arguments end
    pub from : rest ≡ put_terms arguments end → ps ≡ left p

  pub record ArguedBehind (w : Rule) (z : Cursor) (q l : ℕ) : Type 0 where
    pub is : (S : ℕ → Bool) (ps : Parts) (p : Pattern) → From seen hs cs S x ps → depths ps ≤ fuel → HeldRule ks vs w p → ArguingAt z q l S ps p

  abbrev pub Arguing : (w : Rule) → Option Cursor → (q l : ℕ) → Type 0
  Arguing w (Some z) q l = ArguedBehind w z q l
  Arguing w None q l = Missed w

module _ (ks vs : List ℕ) (g : Option Origin) (hs cs : List ℕ) (x : Cursor) (fuel : ℕ) (s : Sight ks vs g) where
  pub arguing_start : (w : Rule) (m : Option Cursor) (q : ℕ) → q ≡ w.arguments → Fronted ks vs (view ks vs g) hs cs x w fuel m → Arguing ks vs g hs cs x fuel w m q w.count
  arguing_start w (Some z) q eq f = record {
    is = λ S ps p h d k.
        let t = f.1 S ps p h d k in
        record {
          rest = t.0;
          arguments = p.arguments;
          ends = k.ends;
          there = t.2;
          low = omega (arith, ap depths (t.1 ∙ front_is p t.0), front_low p t.0);
          held = rw eq (view_parts ks vs g s w.arguments k.ends (put_terms p.arguments end) k.arguments);
          count = k.count;
          to = λ e. front_cancel p t.0 (put_terms p.arguments end) (sym t.1 ∙ e);
          from = λ e. t.1 ∙ ap (front p) e;
        };
  }
    where
      front_low : (p : Pattern) (rest : Parts) → depths rest ≤ depths ((sub p.receiver end) +++ (p.interface +++ num p.member (num (length p.arguments) rest)))
      front_low p rest =
          omega (
            arith,
            depths_behind (num p.member (num (length p.arguments) end)) rest,
            depths_behind p.interface (num p.member (num (length p.arguments) rest)),
            depths_behind (sub p.receiver end) (p.interface +++ num p.member (num (length p.arguments) rest)),
          )
  arguing_start w None q eq f = record { is = λ S ps p h d k e. f S ps p h d k (put_terms p.arguments end) e }

module _ {ks vs : List ℕ} {g : Option Origin} {hs cs : List ℕ} {x : Cursor} {fuel : ℕ} {u : Rule} {r : Cursor} {q l : ℕ} (w : ArguedBehind ks vs g hs cs x fuel u r q l) where
  pub argued_done : l ≡ 0 → r.end ≤ r.at → Hit ks vs g hs cs x fuel u
  argued_done z le = record {
    is = λ S ps p h d k.
        let t = w.is S ps p h d k in
        t.from (parted_over (view ks vs g) hs cs S t.there le ∙ sym (ap (λ (us : List Term). put_terms us end) (empty t.arguments (sym t.count ∙ z)) ∙ terms_none));
  }

  pub argued_more : l ≡ 0 → r.at < r.end → Missed ks vs g hs cs x fuel u
  argued_more z lt = record {
    is = λ S ps p h d k e.
        let t = w.is S ps p h d k in
        parted_more (view ks vs g) hs cs S t.there lt (t.to e ∙ ap (λ (us : List Term). put_terms us end) (empty t.arguments (sym t.count ∙ z)) ∙ terms_none);
  }

  -- one argument more
  module _ (some : l ≡ 0 → ⊥) {tc : Cursor} (ts : TermStarts (view ks vs g) q tc) where
    pub record Next (S : ℕ → Bool) (ps : Parts) (p : Pattern) : Type 0 where
      pub old : ArguingAt ks vs g hs cs x fuel r q l S ps p
      pub term : Term
      pub terms : List Term
      pub is : old.arguments ≡ term ∷ terms
      pub there : From (view ks vs g) hs cs nothing tc (sub term end)
      pub held : HeldParts (view ks vs g).kinds (view ks vs g).vals tc.end old.ends (put_terms terms end)

    next : (S : ℕ → Bool) (ps : Parts) (p : Pattern) → From (view ks vs g) hs cs S x ps → depths ps ≤ fuel → HeldRule ks vs u p → Next S ps p
    next S ps p h d k = let t = w.is S ps p h d k in go t t.arguments refl
      where
        go : (t : ArguingAt ks vs g hs cs x fuel r q l S ps p) (us : List Term) → t.arguments ≡ us → Next S ps p
        go t [] e = absurd (some (t.count ∙ ap length e))
        go t (u ∷ us) e =
            let h : HeldParts (view ks vs g).kinds (view ks vs g).vals q t.ends (sub u (put_terms us end)) = rw (e, terms_cons u us) at t.held in
            let y = held_sub (view ks vs g).kinds (view ks vs g).vals q t.ends u (put_terms us end) h in
            record {
              old = t;
              term = u;
              terms = us;
              is = e;
              there = ts.is hs cs nothing u (held_tree (view ks vs g) hs cs nothing u q y.0);
              held = rw (ts.ends u y.0) y.1;
            }

    pub argued_next : (m : Option Cursor) → Begins (view ks vs g) hs cs r tc fuel m → Arguing ks vs g hs cs x fuel u m tc.end (l - 1)
    argued_next (Some r') b = record {
      is = λ S ps p h d k.
          let y = next S ps p h d k in
          let t = y.old in
          let z = b.1 S nothing t.rest (sub y.term end) t.there y.there t.low in
          let o = ap (λ (us : List Term). put_terms us end) y.is ∙ terms_cons y.term y.terms in
          record {
            rest = z.0;
            arguments = y.terms;
            ends = t.ends;
            there = z.2;
            low = omega (arith, t.low, ap depths z.1, depths_behind (sub y.term end) z.0);
            held = y.held;
            count = omega (arith, t.count, ap length y.is);
            to = λ e. let v : sub y.term z.0 ≡ sub y.term (put_terms y.terms end) = sym z.1 ∙ t.to e ∙ o in cc;
            from = λ e. t.from (z.1 ∙ ap (sub y.term) e ∙ sym o);
          };
    }
    argued_next None b = record {
      is = λ S ps p h d k e.
          let y = next S ps p h d k in
          let t = y.old in
          b S nothing t.rest (sub y.term end) t.there y.there t.low (put_terms y.terms end)
          (t.to e ∙ ap (λ (us : List Term). put_terms us end) y.is ∙ terms_cons y.term y.terms);
    }

module _ {ks vs : List ℕ} {g : Option Origin} {x : Cursor} {m : ℕ} (hs cs : List ℕ) (fuel : ℕ) (w : Rule) (h : MemberIn (view ks vs g) x m) where
  -- a rule with another member than the row's is not the row's
  pub replaces_other : (w.member ≡ m → ⊥) → Missed ks vs g hs cs x fuel w
  replaces_other ne = record {
    is = λ S ps p f d k e. ne (k.member ∙ sym (h.is hs cs S ps f ∙ ap (λ (l : Parts). last_but_one 0 0 (nums l)) e ∙ left_member 0 0 p));
  }

-- where no rule has the member, each has another
position_none : (p : Rule → Bool) (ws : List Rule) → position p ws ≡ None → (i : ℕ) (d : Rule) → i < length ws → p (get_or ws i d) ≡ false
position_none p ws e i d lt = fails_before_first p ws i d (grind (arith, common_steps))

-- r rules have been passed
pub record Searching (ks vs : List ℕ) (ws : List Rule) (g : Option Origin) (hs cs : List ℕ) (x : Cursor) (fuel r : ℕ) : Type 0 where
  pub is : (S : ℕ → Bool) (ps : Parts) (rs : List Pattern) → From (view ks vs g) hs cs S x ps → depths ps ≤ fuel → Ruled ks vs ws rs
      → (qs : List Pattern) × Ruled ks vs (drop r ws) qs × (by_patterns rs ps ≡ by_patterns qs ps)

abbrev no_rule : Rule
no_rule = record { interface = 0; receiver = 0; member = 0; arguments = 0; count = 0; value = 0 }

-- the r-th rule, and those after it
abbrev pub rule_at : List Rule → ℕ → Rule
rule_at ws r = get_or ws r no_rule

rules_split : (ws : List Rule) (r : ℕ) → r < length ws → drop r ws ≡ rule_at ws r ∷ drop (r + 1) ws
rules_split ws r lt = drop_more ws r _ lt

module _ {ks vs : List ℕ} {ws : List Rule} {g : Option Origin} {hs cs : List ℕ} {x : Cursor} {fuel : ℕ} where
  module _ {r : ℕ} (w : Searching ks vs ws g hs cs x fuel r) where
    pub searching_next : r < length ws → Missed ks vs g hs cs x fuel (rule_at ws r) → Searching ks vs ws g hs cs x fuel (r + 1)
    searching_next lt m = record { is = λ S ps rs h d k. let t = w.is S ps rs h d k in go S ps rs h d t.0 (rw (rules_split ws r lt) at t.1) t.2 }
      where
        go : (S : ℕ → Bool) (ps : Parts) (rs : List Pattern) → From (view ks vs g) hs cs S x ps → depths ps ≤ fuel → (qs : List Pattern)
            → Ruled ks vs (rule_at ws r ∷ drop (r + 1) ws) qs → by_patterns rs ps ≡ by_patterns qs ps
            → (qs : List Pattern) × Ruled ks vs (drop (r + 1) ws) qs × (by_patterns rs ps ≡ by_patterns qs ps)
        go S ps rs h d [] k e = absurd k
        go S ps rs h d (p ∷ qs) k e = (qs, k.1, e ∙ pattern_no p qs ps (m.is S ps p h d k.0))

    pub searching_none : length ws ≤ r → (S : ℕ → Bool) (ps : Parts) (rs : List Pattern) → From (view ks vs g) hs cs S x ps → depths ps ≤ fuel → Ruled ks vs ws rs
        → by_patterns rs ps ≡ none
    unfolding by_patterns
    searching_none le S ps rs h d k = let t = w.is S ps rs h d k in t.2 ∙ go t.0 (rw (drop_all r ws le) at t.1)
      where
        go : (qs : List Pattern) → Ruled ks vs [] qs → by_patterns qs ps ≡ none
        go [] k = refl
        go (p ∷ qs) k = absurd k

    pub searching_hit : Sight ks vs g → r < length ws → Hit ks vs g hs cs x fuel (rule_at ws r) → (S : ℕ → Bool) (ps : Parts) (rs : List Pattern) → From (view ks vs g) hs cs S x ps → depths ps ≤ fuel → Ruled ks vs ws rs
        → (u : Term) × (by_patterns rs ps ≡ some u) × Tree (view ks vs g) hs cs S (rule_at ws r).value 0 u
    searching_hit s lt m S ps rs h d k = let t = w.is S ps rs h d k in go t.0 (rw (rules_split ws r lt) at t.1) t.2
      where
        go : (qs : List Pattern) → Ruled ks vs (rule_at ws r ∷ drop (r + 1) ws) qs → by_patterns rs ps ≡ by_patterns qs ps
            → (u : Term) × (by_patterns rs ps ≡ some u) × Tree (view ks vs g) hs cs S (rule_at ws r).value 0 u
        go [] k e = absurd k
        go (p ∷ qs) k e = (
          p.value,
          e ∙ pattern_yes p qs ps (m.is S ps p h d k.0),
          held_tree (view ks vs g) hs cs S p.value (rule_at ws r).value (view_held ks vs g s (rule_at ws r).value p.value k.0.value),
        )

  -- the rules that the scan passes have another member than the row
  past : {m : ℕ} → MemberIn (view ks vs g) x m → (k r : ℕ) → r + k ≤ length ws → ((i : ℕ) → i < k → has_member (rule_at (drop r ws) i) m ≡ false)
      → Searching ks vs ws g hs cs x fuel r → Searching ks vs ws g hs cs x fuel (r + k)
  past h zero r le f w = let e : r + 0 ≡ r = omega arith in rw e w
  past {m} h (suc k) r le f w =
      let e : r + 1 + k ≡ r + suc k = omega arith in
      let split = rules_split ws r (omega arith) in
      let other : has_member (rule_at ws r) m ≡ false = rw split at (f 0 (omega arith)) in
      let one = searching_next w (omega arith) (replaces_other hs cs fuel (rule_at ws r) h (λ z. never_true (sym other ∙ eq-eqb _ _ z))) in
      rw e at (past h k (r + 1) (omega arith) (λ i b. rw split at (f (suc i) (omega arith))) one)

  -- the scan of the rules from the r-th on: the first with the member, or none
  module _ {m r : ℕ} (h : MemberIn (view ks vs g) x m) (w : Searching ks vs ws g hs cs x fuel r) (within : r ≤ length ws) where
    abbrev scan : Option ℕ
    scan = first_with (take (length ws - r) (drop r ws)) m

    scan_is : scan ≡ first_with (drop r ws) m
    scan_is = ap (λ (l : List Rule). first_with l m) (part_to_end ws r)

    pub searching_to : {n : ℕ} → scan ≡ Some n → (r + n < length ws) × Searching ks vs ws g hs cs x fuel (r + n)
    searching_to {n} e =
        let at = position-Some (λ u. has_member u m) (drop r ws) n no_rule (sym scan_is ∙ e) in
        let lt : r + n < length ws = omega (arith, at.0, length-drop r ws) in
        (lt, past h n r (omega arith) at.2 w)

    pub searching_past : scan ≡ None → Searching ks vs ws g hs cs x fuel (length ws)
    searching_past e =
        let z : r + (length ws - r) ≡ length ws = omega arith in
        rw z at (past h (length ws - r) r (omega arith) (λ i lt. position_none (λ u. has_member u m) (drop r ws) (sym scan_is ∙ e) i no_rule (omega (arith, length-drop r ws))) w)
