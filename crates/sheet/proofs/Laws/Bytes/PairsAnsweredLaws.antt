-- A history has a pair as answered incompatible, or cancelled, exactly where some order 4 of the list was answered so in bytes.
use mathlib.Core.Path.{◌≡◌, refl, sym, ap, subst, ◌∙◌}
use mathlib.Core.Bool.{Bool, true, false, ◌&&◌, ◌||◌}
use mathlib.Core.List.{List, [], ◌∷◌}
use mathlib.Core.Logic.{◌⊎◌, inl, inr, ◌↔◌}
use mathlib.Core.Option.{Option, none, some}
use Prim.Native.Nat.{ℕ, ◌+◌}
use native.Mathlib.Omega.{arith}
use borrow.Author.Tests.{eqb-true, eq-eqb}
use Rattle.solver.specs.Terms.Term.{Term, size}
use Rattle.solver.proofs.Terms.Bools.{never_true, or-true, or_right}
use Rattle.solver.specs.Families.{Request}
use Rattle.solver.specs.Session.{Limits, VariablePlace, Session, at, gap, find, fresh}
use Rattle.solver.specs.Orders as solver
use Rattle.solver.specs.Shapes.{notion}
use Rattle.solver.specs.Constrain.{constrain}
use Rattle.solver.specs.Orders.{Command, Reply, order, unless, posing, verdict_code, variable_step, number_at, hole_at, full, ◌gives◌}
use Rattle.solver.specs.Demand3 as theirs
use Rattle.solver.specs.Demand3.{History, says, beginning, history}
use Rattle.sheet.specs.OrderTable.{outcome}
use Rattle.sheet.specs.Sheet.{Step, answer_of, order_of}
use Rattle.sheet.specs.Commands.{command, leaves, prefixed, commands}
use Rattle.sheet.specs.PairsAnswered.{PairAnswered, SomePairAnswered}
use Rattle.sheet.specs.Demand3.{history_of}
use Rattle.sheet.proofs.Laws.Bytes.CommandLaws.{StepBy, does_order, leaves_order}

none-some : {A B : Type 0} {a : A} → ◌≡◌ {A = Option A} none (some a) → B
none-some e = let z : ◌≡◌ {A = ℕ} 0 1 = cc in absurd (omega arith)

module _ (lim : Limits) (n : ℕ) where
  -- a reply that says so is a verdict
  pub said : (r : Reply) → says n r ≡ true → r ≡ solver.verdict n
  unfolding says
  said (solver.term t) h = never_true h
  said (solver.verdict m) h = ap solver.verdict (sym (eqb-true n m h))
  said (solver.changed b) h = never_true h
  said (solver.count m) h = never_true h
  said solver.nothing h = never_true h
  said (solver.refused c) h = never_true h

  -- and is the reply to a pair
  variable_mute : (s : Session) (p : VariablePlace) (o : Option ℕ) (f : Bool) → says n (variable_step lim s p o f).reply ≡ false
  unfolding says variable_step
  variable_mute s p none true = refl
  variable_mute s p none false = refl
  variable_mute s p (some v) f = refl

  number_mute : (s : Session) (p : VariablePlace) (r : Request) (o : Option ℕ) (f : Bool) → says n (number_at lim s p r o f).reply ≡ false
  unfolding says number_at
  number_mute s p r none true = refl
  number_mute s p r none false = refl
  number_mute s p r (some v) f = refl

  hole_mute : (s : Session) (p : VariablePlace) (o : Option ℕ) (f : Bool) → says n (hole_at lim s p o f).reply ≡ false
  unfolding says hole_at
  hole_mute s p none true = refl
  hole_mute s p none false = refl
  hole_mute s p (some v) f = refl

  unless_mute : (s : Session) (a b : Bool) (x : solver.Step) → says n x.reply ≡ false → says n (unless lim s a b x).reply ≡ false
  unfolding says
  unless_mute s true true x e = refl
  unless_mute s true false x e = e
  unless_mute s false b x e = refl

  record IsPair (c : Command) : Type 0 where
    strict : Bool
    checks : ℕ
    left : Term
    right : Term
    is : c ≡ solver.pair strict checks left right

  says_pair : (s : Session) (c : Command) → says n (order lim s c).reply ≡ true → IsPair c
  unfolding order says
  says_pair s (solver.variable i j) h = never_true (sym (variable_mute s (at i j) (find (at i j) s.places) (full lim s)) ∙ h)
  says_pair s (solver.number i r) h = never_true (sym (number_mute s (at i 1) r (find (at i 1) s.places) (full lim s)) ∙ h)
  says_pair s (solver.hole i) h = never_true (sym (hole_mute s (gap i) (find (gap i) s.places) (full lim s)) ∙ h)
  says_pair s (solver.defer t) h = never_true (sym (unless_mute s (solver.known s t) (solver.crowded lim s (size t)) _ refl) ∙ h)
  says_pair s (solver.pair d k t u) h = record { strict = d; checks = k; left = t; right = u; is = refl }
  says_pair s (solver.resolving t) h = never_true (sym (unless_mute s (solver.known s t) (solver.crowded lim s (size t)) _ refl) ∙ h)
  says_pair s solver.numbers h = never_true h
  says_pair s solver.nevers h = never_true h
  says_pair s solver.revision h = never_true h
  says_pair s (solver.unread c) h = never_true h

  -- ---- one order

  -- an order that tells a command is answered as the solver replies
  replied : (s : Session) (b : List ℕ) (c : Command) → command s b ≡ some c → (order_of lim s b).answer ≡ answer_of (order lim s c).reply
  replied s b c e = ap (λ (x : Step). x.answer) (subst (λ (o : Option Command). StepBy lim s o (order_of lim s b)) e (does_order lim s b))

  verdict_says : (s y : Session) (a b : Bool) (v : ℕ) → answer_of (unless lim s a b (y gives solver.verdict v)).reply ≡ outcome (n ∷ []) → says n (unless lim s a b (y gives solver.verdict v)).reply ≡ true
  unfolding says answer_of
  verdict_says s y true true v e = let z : ◌≡◌ {A = ℕ} 0 1 = cc in absurd (omega arith)
  verdict_says s y true false v e = let m : n ≡ v = cc in eq-eqb n v m
  verdict_says s y false b v e = let z : ◌≡◌ {A = ℕ} 0 1 = cc in absurd (omega arith)

  pub from_bytes : (s : Session) (b : List ℕ) (c : Command) → command s b ≡ some c → PairAnswered lim n s b → says n (order lim s c).reply ≡ true
  unfolding order
  from_bytes s b c e p =
      let d = p.strict in
      let k = p.checks in
      let t = p.left in
      let u = p.right in
      let q : solver.pair d k t u ≡ c = let f : some (solver.pair d k t u) ≡ some c = sym p.says ∙ e in cc in
      let x = posing lim s (size t + size u) (constrain (notion d) k s.solver t u) in
      rw (← q)
      (verdict_says s x.session (solver.known s t && solver.known s u) (solver.crowded lim s (size t + size u)) (verdict_code (constrain (notion d) k s.solver t u))
      (sym (replied s b (solver.pair d k t u) p.says) ∙ p.answer))

  to_bytes : (s : Session) (b : List ℕ) (c : Command) → command s b ≡ some c → says n (order lim s c).reply ≡ true → PairAnswered lim n s b
  unfolding answer_of
  to_bytes s b c e h =
      let p = says_pair s c h in
      record { strict = p.strict; checks = p.checks; left = p.left; right = p.right; says = e ∙ ap some p.is; answer = replied s b c e ∙ ap answer_of (said (order lim s c).reply h) }

  -- ---- a list of orders

  -- a flag of a history that such replies raise
  module _ (flag : History → Bool) (raised : (h : History) (c : Command) → flag (theirs.after lim h c) ≡ (flag h || says n (order lim h.session c).reply)) where
    abbrev Either : History → List (List ℕ) → Type 0
    Either h bs = (flag h ≡ true) ⊎ SomePairAnswered lim n h.session bs

    abbrev Same : History → List (List ℕ) → Type 0
    Same h bs = (flag (history lim h (commands lim h.session bs)) ≡ true) ↔ Either h bs

    -- after an order that tells nothing, and after one that tells c
    mute : (h : History) (b : List ℕ) (bs : List (List ℕ)) → command h.session b ≡ none → Either h (b ∷ bs) ↔ Either h bs
    unfolding SomePairAnswered
    mute h b bs e =
        let s : (order_of lim h.session b).session ≡ h.session = leaves_order lim h.session b ∙ ap (leaves lim h.session) e in (
          λ x. elim x [
            | inl f ↦ inl f
            | inr y ↦ elim y [
              | inl p ↦ let z : none ≡ some (solver.pair p.strict p.checks p.left p.right) = sym e ∙ p.says in none-some z
              | inr r ↦ inr (subst (λ (w : Session). SomePairAnswered lim n w bs) s r)
            ]
          ],
          λ x. elim x [ inl f ↦ inl f | inr r ↦ inr (inr (subst (λ (w : Session). SomePairAnswered lim n w bs) (sym s) r)) ],
        )

    told : (h : History) (b : List ℕ) (bs : List (List ℕ)) (c : Command) → command h.session b ≡ some c → Either h (b ∷ bs) ↔ Either (theirs.after lim h c) bs
    unfolding SomePairAnswered
    told h b bs c e =
        let r = (order lim h.session c).reply in
        let s : (order_of lim h.session b).session ≡ (order lim h.session c).session = leaves_order lim h.session b ∙ ap (leaves lim h.session) e in (
          λ x. elim x [
            | inl f ↦ inl (raised h c ∙ or-true (flag h) (says n r) f)
            | inr y ↦ elim y [
              | inl p ↦ inl (raised h c ∙ or_right (flag h) (says n r) (from_bytes h.session b c e p))
              | inr q ↦ inr (subst (λ (w : Session). SomePairAnswered lim n w bs) s q)
            ]
          ],
          λ x. elim x [
            | inl f ↦ split (flag h) (says n r) refl (λ q. to_bytes h.session b c e q) (sym (raised h c) ∙ f)
            | inr q ↦ inr (inr (subst (λ (w : Session). SomePairAnswered lim n w bs) (sym s) q))
          ],
        )
      where
        split : (x y : Bool) → flag h ≡ x → (y ≡ true → PairAnswered lim n h.session b) → (x || y) ≡ true
            → (flag h ≡ true) ⊎ (PairAnswered lim n h.session b ⊎ SomePairAnswered lim n (order_of lim h.session b).session bs)
        split true y g f q = inl g
        split false y g f q = inr (inl (f q))

    pub flagged : (h : History) (bs : List (List ℕ)) → Same h bs
    unfolding history commands SomePairAnswered
    flagged h [] = (λ f. inl f, λ x. elim x [ inl f ↦ f | inr r ↦ absurd r ])
    flagged h (b ∷ bs) = go (command h.session b) refl (flagged h bs) (λ c. flagged (theirs.after lim h c) bs)
      where
        go : (o : Option Command) → command h.session b ≡ o → Same h bs → ((c : Command) → Same (theirs.after lim h c) bs)
            → (flag (history lim h (prefixed o (commands lim (leaves lim h.session o) bs))) ≡ true) ↔ Either h (b ∷ bs)
        go none e x y = let m = mute h b bs e in (λ f. m.1 (x.0 f), λ z. x.1 (m.0 z))
        go (some c) e x y = let m = told h b bs c e in (λ f. m.1 ((y c).0 f), λ z. (y c).1 (m.0 z))

module _ (lim : Limits) (bs : List (List ℕ)) where
  -- "Some pair was answered incompatible"
  pub incompatible_answered : ((history_of lim beginning bs).incompatible ≡ true) ↔ SomePairAnswered lim 0 fresh bs
  incompatible_answered = let f = flagged lim 0 (λ h. h.incompatible) (λ h c. refl) beginning bs in (λ e. later (f.0 e), λ x. f.1 (inr x))
    where
      later : (false ≡ true) ⊎ SomePairAnswered lim 0 fresh bs → SomePairAnswered lim 0 fresh bs
      later (inl e) = never_true e
      later (inr x) = x

  -- "no cancelled pair": none was answered so
  pub cancelled_answered : ((history_of lim beginning bs).cancelled ≡ true) ↔ SomePairAnswered lim 2 fresh bs
  cancelled_answered = let f = flagged lim 2 (λ h. h.cancelled) (λ h c. refl) beginning bs in (λ e. later (f.0 e), λ x. f.1 (inr x))
    where
      later : (false ≡ true) ⊎ SomePairAnswered lim 2 fresh bs → SomePairAnswered lim 2 fresh bs
      later (inl e) = never_true e
      later (inr x) = x
