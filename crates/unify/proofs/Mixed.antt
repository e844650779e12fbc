-- A pair posed by one of several equalities, over substitutions. Agreement is equality of terms here, so that it names no equality.
use mathlib.Core.Path.{◌≡◌, refl}
use mathlib.Core.Logic.{◌↔◌}
use mathlib.Core.Bool.{Bool, true, false}
use mathlib.Core.Option.{Option}
use mathlib.Core.List.{[], ◌∷◌}
use Prim.Native.Nat.{ℕ}
use Rattle.unify.specs.Term.{sub, Sim, sim_of_eq}
use Rattle.unify.specs.Solver.{Sig, T, State, Out, cancelled, done, poses}
use Rattle.unify.specs.Meaning.{True, Fine, Plain, PlainPairs, plain_formed, Tidy, Agree}
use Rattle.unify.specs.Orders.{Issued, Assigns}
use Rattle.unify.proofs.Sound.{After, Finer, constrain_right}
use Rattle.unify.proofs.Demand.{solution, solution_closed, solution_plain, solution_agrees, solution_true}
use Rattle.unify.proofs.Robinson.{eq_of_sim}

module _ (S : Sig) where
  -- an assignment agrees exactly with what the variables resolve to
  abbrev pub Exactly : (ℕ → T S) → State S → Type 0
  Exactly θ s = (v : ℕ) → θ v ≡ sub θ (s.res v)

  exact_agree : (n : S.Head → S.Head) (θ : ℕ → T S) (s : State S) → Exactly θ s → Agree S n θ s.res
  exact_agree n θ s e v = sim_of_eq (e v)

  agree_exact : (θ : ℕ → T S) (s : State S) → Agree S (λ h. h) θ s.res → Exactly θ s
  agree_exact θ s a v = eq_of_sim (a v)

  -- A session s over N variables, of which `asked` was asked, before a pair is posed in it: what a mix keeps.
  pub record Mixable (N : ℕ) (asked : ℕ → Option S.Fam) (s : State S) : Type 0 where
    pub fine : Fine S N s
    pub tidy : Tidy S s
    -- who is true to what was asked, and agrees exactly, is true to the families as they stand; and the other way round
    pub kinds : (θ : ℕ → T S) → True S θ asked → Exactly θ s → True S θ s.fam
    pub asks : (θ : ℕ → T S) → True S θ s.fam → True S θ asked

  module _ (n : S.Head → S.Head) (respects : (f : S.Fam) (h k : S.Head) → n h ≡ n k → S.admits f h ≡ S.admits f k) where
    exact_finer : Finer S n respects (λ h. h)
    exact_finer t u p = sim_of_eq (eq_of_sim p)

    -- What posing one plain pair by n does in a mix.
    pub record Posed (N : ℕ) (asked : ℕ → Option S.Fam) (s : State S) (l r : T S) (s' : State S) (b : Bool) : Type 0 where
      pub mixable : Mixable N asked s'
      -- who agrees exactly afterwards agreed exactly before
      pub back : (θ : ℕ → T S) → Exactly θ s' → Exactly θ s
      -- compatible: who is true to the families and agrees exactly afterwards makes the pair equal by n
      pub equal : b ≡ true → (θ : ℕ → T S) → True S θ asked → Exactly θ s' → Sim n (sub θ l) (sub θ r)
      -- INCOMPATIBLE EXACTLY IF no assignment of variable-free terms, true to the families, that agrees exactly with what the variables
      -- resolved to just before makes the pair equal by n
      pub incompatible : (b ≡ false) ↔ ((θ : ℕ → T S) → Assigns S N θ → True S θ asked → Exactly θ s → ¬ Sim n (sub θ l) (sub θ r))

    abbrev pub Answers : ℕ → (ℕ → Option S.Fam) → State S → T S → T S → Out (State S) → Type 0
    Answers N asked s l r (cancelled s') = Unit {0}
    Answers N asked s l r (done s' b) = Posed N asked s l r s' b

    posed_of : (N : ℕ) (asked : ℕ → Option S.Fam) (s : State S) (l r : T S) → Mixable N asked s → Plain S l → Plain S r
        → (o : Out (State S)) → After S n respects N s true ((l, r) ∷ []) o → Answers N asked s l r o
    posed_of N asked s l r m pl pr (cancelled s') a = tt
    posed_of N asked s l r m pl pr (done s' b) a = record {
      mixable = record {
        fine = a.0;
        tidy = a.2 plain;
        kinds = kinds;
        asks = λ θ k. m.asks θ (a.1.narrow θ k);
      };
      back = back;
      equal = equal;
      incompatible = (
        λ e θ c k x p. a.4 plain e refl θ (record { agree = exact_agree n θ s x; kind = m.kinds θ k x; all = (p, tt) }),
        λ h. wrong h b refl,
      );
    }
      where
        plain : Tidy S s × PlainPairs S ((l, r) ∷ [])
        plain = (m.tidy, (pl, pr, tt))

        back : (θ : ℕ → T S) → Exactly θ s' → Exactly θ s
        back θ x = agree_exact θ s (a.1.back (λ h. h) θ (exact_agree (λ h. h) θ s' x))

        kinds : (θ : ℕ → T S) → True S θ asked → Exactly θ s' → True S θ s'.fam
        kinds θ k x = a.1.kinds (λ h. h) exact_finer θ (λ y. m.kinds θ k (agree_exact θ s y)) (exact_agree (λ h. h) θ s' x)

        equal : b ≡ true → (θ : ℕ → T S) → True S θ asked → Exactly θ s' → Sim n (sub θ l) (sub θ r)
        equal e θ k x = (((a.3 plain e).1 θ).1 (record { agree = exact_agree n θ s' x; kind = kinds θ k x; all = tt })).all.0

        wrong : ((θ : ℕ → T S) → Assigns S N θ → True S θ asked → Exactly θ s → ¬ Sim n (sub θ l) (sub θ r)) → (c : Bool) → b ≡ c → b ≡ false
        wrong h false e = e
        wrong h true e =
            let θ = solution S s' in
            let x : Exactly θ s' = agree_exact θ s' (solution_agrees S N s' a.0 (λ h. h)) in
            let k : True S θ asked = m.asks θ (a.1.narrow θ (solution_true S N s' a.0 (a.2 plain).1)) in
            absurd (h θ (λ v l. (solution_closed S s' v, plain_formed S (θ v) (solution_plain S s' (a.2 plain).0 v))) k (back θ x) (equal e θ k x))

    -- POSING IN A MIX.
    pub mixed_pose : (k N : ℕ) (asked : ℕ → Option S.Fam) (s : State S) (l r : T S) → Mixable N asked s → Issued N l → Issued N r → Plain S l → Plain S r
        → Answers N asked s l r (poses S n k s l r)
    mixed_pose k N asked s l r m il ir pl pr =
        posed_of N asked s l r m pl pr (poses S n k s l r) (constrain_right S n respects k N s true ((l, r) ∷ []) m.fine (il, ir, tt))
