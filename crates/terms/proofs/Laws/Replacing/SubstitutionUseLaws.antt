-- What is chosen for a term is what the step of each use gives: `instantiate`, `apply`, `argument_context`.
use mathlib.Core.Path.{◌≡◌, refl, sym, ap, ◌∙◌}
use mathlib.Core.Bool.{Bool, true, false}
use Rattle.terms.proofs.Laws.General.Bools.{never_true, never_false}
use mathlib.Core.List.{List, [], ◌∷◌, ◌++◌, append-nil}
use mathlib.Core.Option as math
use mathlib.Core.Option.{none, some}
use Prim.Native.Nat.{ℕ, ◌+◌, ◌-◌, ◌≤◌}
use native.Mathlib.Omega.{arith}
use borrow.Author.Tests.{eq-eqb, ne_eqb, eqb-true, eqb-false}
use lib.Dec.{eqb}
use lib.ListN.{length, get_or}
use Rattle.terms.specs.declared.Binders.{Binders}
use Rattle.terms.specs.declared.Parameters.{Parameters}
use Rattle.terms.specs.declared.Purpose.{Purpose}
use Rattle.terms.specs.declared.Purpose.TheVariants.{Instance, Context, Family}
use Rattle.terms.specs.declared.Choice.{Choice}
use Rattle.terms.specs.declared.Choice.TheVariants.{Keep, Unknown}
use Rattle.terms.specs.Result.{got, pick}
use Rattle.terms.specs.Words.Tokens.{spell}
use Rattle.terms.specs.Term.{Term, Parts, var, node, end, num, sub, bytes, items}
use Rattle.terms.specs.Words.Held.{Held, HeldParts}
use Rattle.terms.specs.Shape.{layout}
use Rattle.terms.specs.Formed.{Formed, Fit, TakesNumber, after_number, TakesTerm}
use Rattle.terms.specs.Tree.{tag, row, nums, unknown}
use Rattle.terms.specs.Questions.{Parameter, contains, first, second}
use Rattle.terms.specs.Substitution.{or_else, substitute_once, Entry, Receiver, TypeSubstitution, get, receiver, extend, instantiated, instantiate, contextual, argument_context, zipped}
use Rattle.terms.specs.Parameters.{is_found, last_from, last_index, listed}
use Rattle.terms.specs.Rows.{entry_row, receiver_row}
use Rattle.terms.specs.Words.FindContract.{Finds, receiver_at, argument_for}
use Rattle.terms.specs.Words.RewriteContract.{by, index, is_context, entry_for, generic, in_context_of, generic_for, chosen, written, Agrees, Named, HeldBinders, Rewrites, for_instance, for_context, for_family}
use Rattle.terms.proofs.Laws.Held.HeldLaws.{held_first, held_node, held_num, head_kind}
use Rattle.terms.proofs.Laws.Format.ParameterLaws.{found_contains}
use Rattle.terms.proofs.Laws.Replacing.SubstitutionLaws.{else_none, get_append, with_self_is, apply_gives}
use Rattle.terms.proofs.Laws.Replacing.FindLaws.{stride_held, entry_held, receiver_held, argument_held}
use Rattle.terms.proofs.Laws.Replacing.RewriteLaws.{chosen_generic, chosen_self, chosen_keep, self_context, self_receiver}
use Rattle.terms.proofs.Laws.Replacing.InsertLaws.{substituted_bytes}
use Rattle.std.specs.Prelude.{Option, Some, None}

-- ---- the heads of a Generic and of a SelfType

-- the rows that the table gives them
generic_row : (ps : Parts) → Fit (layout 17) ps → (o : ℕ) × (q : ℕ) × (ps ≡ num o (num q end))
unfolding Formed TakesNumber after_number TakesTerm
generic_row end w = absurd (let z : ◌≡◌ {A = ℕ} 0 1 = cc in omega arith)
generic_row (sub t ps) w = absurd w.0
generic_row (num o end) w = absurd (let e = w.1 in let z : ◌≡◌ {A = ℕ} 0 1 = cc in omega arith)
generic_row (num o (sub t ps)) w = absurd w.1.0
generic_row (num o (num q end)) w = (o, q, refl)
generic_row (num o (num q (num n ps))) w = absurd w.1.1.0
generic_row (num o (num q (sub t ps))) w = absurd w.1.1.0

self_row : (ps : Parts) → Fit (layout 19) ps → (o : ℕ) × (ps ≡ num o end)
unfolding Formed TakesNumber after_number TakesTerm
self_row end w = absurd (let z : ◌≡◌ {A = ℕ} 0 1 = cc in omega arith)
self_row (sub t ps) w = absurd w.0
self_row (num o end) w = (o, refl)
self_row (num o (num n ps)) w = absurd w.1.0
self_row (num o (sub t ps)) w = absurd w.1.0

-- what the words at p tell of a term
pub data Head (ks vs : List ℕ) (p : ℕ) (t : Term) : Type 0 where
  binder : tag t ≡ 17 → get_or ks p 0 ≡ 19 → get_or vs (p + 1) 0 ≡ first t → get_or vs (p + 2) 0 ≡ second t → Head ks vs p t
  owner : tag t ≡ 19 → get_or ks p 0 ≡ 21 → get_or vs (p + 1) 0 ≡ first t → Head ks vs p t
  other : (tag t ≡ 17 → ⊥) → (tag t ≡ 19 → ⊥) → (get_or ks p 0 ≡ 19 → ⊥) → (get_or ks p 0 ≡ 21 → ⊥) → Head ks vs p t

module _ (ks vs : List ℕ) (p : ℕ) where
  head_generic : (ps : Parts) → Held ks vs p (node 17 ps) → (o q : ℕ) → ps ≡ num o (num q end) → Head ks vs p (node 17 ps)
  unfolding tag first second nums row head_kind
  head_generic ps h o q e =
      let f = held_first ks vs p (node 17 ps) h in
      let a = held_num ks vs (p + 1) _ o (num q end) (rw e at (held_node ks vs p 17 ps h)) in
      let b = held_num ks vs (p + 1 + 1) _ q end a.2 in
      let z : p + 1 + 1 ≡ p + 2 = omega arith in
      binder refl f.0 (rw e a.1) (rw e (rw z at b.1))

  head_self : (ps : Parts) → Held ks vs p (node 19 ps) → (o : ℕ) → ps ≡ num o end → Head ks vs p (node 19 ps)
  unfolding tag first nums row head_kind
  head_self ps h o e =
      let f = held_first ks vs p (node 19 ps) h in
      let a = held_num ks vs (p + 1) _ o end (rw e at (held_node ks vs p 19 ps h)) in
      owner refl f.0 (rw e a.1)

  head : (t : Term) → Held ks vs p t → Formed t → Head ks vs p t
  unfolding tag head_kind Formed
  head (var v) h w =
      let k = (held_first ks vs p (var v) h).0 in
      other (λ e. omega arith) (λ e. omega arith) (λ e. omega arith) (λ e. omega arith)
  head (node k ps) h w = go (eqb k 17) (eqb k 19) refl refl
    where
      go : (a b : Bool) → eqb k 17 ≡ a → eqb k 19 ≡ b → Head ks vs p (node k ps)
      go true b x y =
          let e = eqb-true k 17 x in
          let r = generic_row ps (rw e at w.1) in
          rw e (head_generic ps (rw e at h) r.0 r.1 r.2)
      go false true x y =
          let e = eqb-true k 19 y in
          let r = self_row ps (rw e at w.1) in
          rw e (head_self ps (rw e at h) r.0 r.1)
      go false false x y =
          let f = (held_first ks vs p (node k ps) h).0 in
          let m = eqb-false k 17 x in
          let n = eqb-false k 19 y in
          other m n (λ e. m (omega arith)) (λ e. n (omega arith))

-- ---- what is chosen is what the step gives

module _ (ks vs : List ℕ) where
  agrees_by : (l : Option ℕ) (c : Choice) (o p : math.Option Term) → Finds ks vs l o → Agrees ks vs c p → Agrees ks vs (by l c) (or_else o p)
  agrees_by (Some q) c o p f a = (f.0, rw f.1, f.2)
  agrees_by None c o p f a = rw f a

  agrees_is : (c d : Choice) (o p : math.Option Term) → d ≡ c → p ≡ o → Agrees ks vs c o → Agrees ks vs d p
  agrees_is c d o p e f a = rw (e, f) a

  agrees_known : (t : Bool) → Agrees ks vs (pick t Unknown Keep) (pick t (some unknown) none)
  agrees_known true = refl
  agrees_known false = refl

-- the arguments of a family are found; an instance and a context have none
abbrev Argued : (ks vs : List ℕ) → List Parameter → List Term → Purpose → Type 0
Argued ks vs ps ts Instance = Unit {0}
Argued ks vs ps ts (Context l) = Unit {0}
Argued ks vs ps ts (Family l i) = (p : Parameter) → Finds ks vs (argument_for ks vs i (last_index ps p)) (get (zipped ps ts) p)

-- a number is kept
pub number_kept : (ks vs : List ℕ) (b : Binders) (p : ℕ) → get_or ks p 0 ≡ 0 → chosen ks vs b p ≡ Keep
number_kept ks vs b p h = sym (chosen_keep ks vs b p (λ e. omega arith) (λ e. omega arith))

module _ (ks vs : List ℕ) (b : Binders) (es : List Entry) (rs : List Receiver) (ps : List Parameter) (h : HeldBinders ks vs b es rs ps) where
  index_is : (l : Parameters) (n : ℕ) → listed l ≡ got ps n → (p : Parameter) → index l p ≡ last_index ps p
  index_is l n e p = rw e

  entry_finds : (p : Parameter) → Finds ks vs (entry_for ks vs b p) (get es p)
  entry_finds p = entry_held ks vs es b.entries.from b.entries.end p h.entries

  -- an entry's term, or what the rest gives
  entry_agrees : (p : Parameter) (c : Choice) (o : math.Option Term) → Agrees ks vs c o → Agrees ks vs (by (entry_for ks vs b p) c) (or_else (get es p) o)
  entry_agrees p c o a = agrees_by ks vs (entry_for ks vs b p) c (get es p) o (entry_finds p) a

  -- `argument_context`
  module _ (c : is_context b.purpose ≡ true) where
    context_agrees : (u : Purpose) → Named u ps → is_context u ≡ true → (p : Parameter)
        → Agrees ks vs (generic_for ks vs b u p) (or_else (get es p) (pick (contains ps p) (some unknown) none))
    unfolding generic_for in_context_of
    context_agrees Instance n e p = never_true e
    context_agrees (Family l a) n e p = never_true e
    context_agrees (Context l) n e p =
        let known : is_found (index l p) ≡ contains ps p = ap is_found (index_is l n.0 n.1 p) ∙ found_contains ps p in
        entry_agrees p (pick (is_found (index l p)) Unknown Keep) _ (rw known (agrees_known ks vs (contains ps p)))

    contextually : (p : ℕ) (t : Term) → Held ks vs p t → Formed t → Agrees ks vs (chosen ks vs b p) (contextual (record { parameters = es; receivers = rs }) ps t)
    unfolding contextual
    contextually p t k w = go (head ks vs p t k w)
      where
        go : Head ks vs p t → Agrees ks vs (chosen ks vs b p) (contextual (record { parameters = es; receivers = rs }) ps t)
        go (binder x y u v) =
            let w : Parameter = record { owner = first t; position = second t } in
            agrees_is ks vs (generic_for ks vs b b.purpose w) _ _ _ (sym (chosen_generic ks vs b p y _ w (sym u) (sym v) refl)) (rw (eq-eqb (tag t) 17 x))
            (context_agrees b.purpose h.parameters c w)
        go (owner x y u) =
            agrees_is ks vs Keep _ none _
            (sym (chosen_self ks vs b p (λ e. omega arith) y Keep (first t) (sym u) (self_context ks vs b (first t) c))) (rw (ne_eqb (tag t) 17 (λ e. omega arith))) refl
        go (other x y u v) =
            agrees_is ks vs Keep _ none _ (sym (chosen_keep ks vs b p u v)) (rw (ne_eqb (tag t) 17 x)) refl

  -- `instantiate`, with arguments for the parameters: `apply`
  module _ (c : is_context b.purpose ≡ false) (ts : List Term) (a : Argued ks vs ps ts b.purpose) where
    abbrev whole : TypeSubstitution
    whole = extend (record { parameters = es; receivers = rs }) (zipped ps ts)

    generic_agrees : (u : Purpose) → Named u ps → is_context u ≡ false → Argued ks vs ps ts u → (p : Parameter) → Agrees ks vs (generic_for ks vs b u p) (get (es ++ zipped ps ts) p)
    unfolding generic_for generic zipped
    generic_agrees Instance n e f p =
        agrees_is ks vs (by (entry_for ks vs b p) Keep) _ _ _ refl
        (ap (λ (l : List Entry). get l p) (ap (λ (qs : List Parameter). es ++ zipped qs ts) n ∙ append-nil es) ∙ sym (else_none (get es p))) (entry_agrees p Keep none refl)
    generic_agrees (Context l) n e f p = never_false e
    generic_agrees (Family l i) n e f p =
        let g : Finds ks vs (argument_for ks vs i (index l p)) (get (zipped ps ts) p) = rw (index_is l n.0 n.1 p) (f p) in
        agrees_is ks vs (by (argument_for ks vs i (index l p)) (by (entry_for ks vs b p) Keep)) _ _ _ refl
        (get_append es (zipped ps ts) p ∙ ap (λ (x : math.Option Term). or_else (get (zipped ps ts) p) x) (sym (else_none (get es p))))
        (agrees_by ks vs (argument_for ks vs i (index l p)) (by (entry_for ks vs b p) Keep) (get (zipped ps ts) p) _ g (entry_agrees p Keep none refl))

    self_agrees : (o : ℕ) → Agrees ks vs (by (receiver_at ks vs b.receivers.from b.receivers.end o) Keep) (receiver rs o)
    self_agrees o =
        let r = receiver_at ks vs b.receivers.from b.receivers.end o in
        agrees_is ks vs (by r Keep) _ _ _ refl (sym (else_none (receiver rs o)))
        (agrees_by ks vs r Keep (receiver rs o) none (receiver_held ks vs rs b.receivers.from b.receivers.end o h.receivers) refl)

    instantly : (p : ℕ) (t : Term) → Held ks vs p t → Formed t → Agrees ks vs (chosen ks vs b p) (instantiated whole t)
    unfolding instantiated
    instantly p t k w = go (head ks vs p t k w)
      where
        go : Head ks vs p t → Agrees ks vs (chosen ks vs b p) (instantiated whole t)
        go (binder x y u v) =
            let w : Parameter = record { owner = first t; position = second t } in
            agrees_is ks vs (generic_for ks vs b b.purpose w) _ _ _ (sym (chosen_generic ks vs b p y _ w (sym u) (sym v) refl)) (rw (eq-eqb (tag t) 17 x))
            (generic_agrees b.purpose h.parameters c a w)
        go (owner x y u) =
            agrees_is ks vs (by (receiver_at ks vs b.receivers.from b.receivers.end (first t)) Keep) _ _ _
            (sym (chosen_self ks vs b p (λ z. omega arith) y _ (first t) (sym u) (self_receiver ks vs b (first t) c _ _ refl refl)))
            (rw (ne_eqb (tag t) 17 (λ z. omega arith), eq-eqb (tag t) 19 x)) (self_agrees (first t))
        go (other x y u v) =
            agrees_is ks vs Keep _ none _ (sym (chosen_keep ks vs b p u v)) (rw (ne_eqb (tag t) 17 x, ne_eqb (tag t) 19 y)) refl

-- ---- the bytes of each use

module _ (ks vs : List ℕ) (b : Binders) (a : ℕ) where
  -- what is written is the bytes after a step that agrees with the choices
  step_bytes : (f : Term → math.Option Term) → ((p : ℕ) (t : Term) → Held ks vs p t → Formed t → Agrees ks vs (chosen ks vs b p) (f t))
      → (t : Term) → Formed t → Held ks vs a t → written ks vs b a ≡ bytes (substitute_once f t)
  step_bytes f agrees t w h =
      substituted_bytes ks vs (chosen ks vs b) f (number_kept ks vs b) agrees t a _ h w (stride_held ks vs a (length ks - a) t h (omega (arith, h.within)))

  context_bytes : (t : Term) (es : List Entry) (rs : List Receiver) (ps : List Parameter) → Formed t → Held ks vs a t → HeldBinders ks vs b es rs ps → is_context b.purpose ≡ true
      → written ks vs b a ≡ bytes (argument_context (record { parameters = es; receivers = rs }) ps t)
  context_bytes t es rs ps w h k c = step_bytes (contextual (record { parameters = es; receivers = rs }) ps) (contextually ks vs b es rs ps k c) t w h

  family_bytes : (t : Term) (es : List Entry) (rs : List Receiver) (ps : List Parameter) (ts : List Term) → Formed t → Held ks vs a t → HeldBinders ks vs b es rs ps
      → is_context b.purpose ≡ false → Argued ks vs ps ts b.purpose
      → written ks vs b a ≡ bytes (instantiate (extend (record { parameters = es; receivers = rs }) (zipped ps ts)) t)
  family_bytes t es rs ps ts w h k c f =
      step_bytes (instantiated (extend (record { parameters = es; receivers = rs }) (zipped ps ts))) (instantly ks vs b es rs ps k c ts f) t w h

  -- without parameters there are no arguments
  no_arguments : (u : Purpose) → Argued ks vs [] [] u
  unfolding last_from get zipped
  no_arguments Instance = tt
  no_arguments (Context l) = tt
  no_arguments (Family l i) = λ p. refl

  instance_bytes : (t : Term) (es : List Entry) (rs : List Receiver) → Formed t → Held ks vs a t → HeldBinders ks vs b es rs [] → is_context b.purpose ≡ false
      → written ks vs b a ≡ bytes (instantiate (record { parameters = es; receivers = rs }) t)
  unfolding zipped
  instance_bytes t es rs w h k c =
      family_bytes t es rs [] [] w h k c (no_arguments b.purpose)
      ∙ ap (λ (l : List Entry). bytes (instantiate (record { parameters = l; receivers = rs }) t)) (append-nil es)

  module _ (W : List ℕ → Type 0) (wrote : W (written ks vs b a)) where
    told : (x : List ℕ) → written ks vs b a ≡ x → W x
    told x e = rw e at wrote

    pub rewrites : Rewrites ks vs b a W
    rewrites = record {
      instantiated = λ t es rs w h k c. told _ (instance_bytes t es rs w h k c);
      in_context = λ t es rs ps w h k c. told _ (context_bytes t es rs ps w h k c);
      with_self = λ t owner u w h k c. told _ (instance_bytes t [] _ w h k c ∙ ap bytes (sym (with_self_is owner u t)));
      applied = λ t es rs ps ts l i e u w h k r c g.
          let q = apply_gives ps t (record { parameters = es; receivers = rs }) ts u g in
          told _ (family_bytes t es rs ps ts w h k (ap is_context c) (rw c (λ (p : Parameter). argument_held ks vs i e p ps ts q.0 r)) ∙ ap bytes q.1);
    }

-- ---- the binders of each use are held, where their rows are

module _ (ks vs : List ℕ) where
  empty_held : (a : ℕ) → a ≤ length ks → HeldParts ks vs a a end
  unfolding items spell
  empty_held a h = record { tokens = refl; ends = omega arith; within = h }

  pub family_binders : (e r f : ℕ) (l : Parameters) (a : ℕ) (es : List Entry) (rs : List Receiver) (ps : List Parameter) (m : ℕ) → HeldParts ks vs e r (entry_row es)
      → HeldParts ks vs r f (receiver_row rs) → listed l ≡ got ps m → HeldBinders ks vs (for_family e r f l a) es rs ps
  family_binders e r f l a es rs ps m h k q = record { entries = h; receivers = k; parameters = (m, q) }

  pub instance_binders : (e r f : ℕ) (es : List Entry) (rs : List Receiver) → HeldParts ks vs e r (entry_row es) → HeldParts ks vs r f (receiver_row rs)
      → HeldBinders ks vs (for_instance e r f) es rs []
  instance_binders e r f es rs h k = record { entries = h; receivers = k; parameters = refl }

  -- an owner and a replacement, read as one receiver
  pub self_binders : (r f o : ℕ) (u : Term) → HeldParts ks vs r f (receiver_row (record { owner = o; term = u } ∷ []))
      → HeldBinders ks vs (for_instance r r f) [] (record { owner = o; term = u } ∷ []) []
  unfolding entry_row
  self_binders r f o u k = instance_binders r r f [] _ (empty_held r (omega (arith, k.ends, k.within))) k

  -- the receivers are left out: `argument_context_receivers` says that they play no part
  pub context_binders : (e r : ℕ) (l : Parameters) (es : List Entry) (ps : List Parameter) (m : ℕ) → HeldParts ks vs e r (entry_row es) → listed l ≡ got ps m
      → HeldBinders ks vs (for_context e r l) es [] ps
  unfolding receiver_row
  context_binders e r l es ps m h q = record { entries = h; receivers = empty_held r h.within; parameters = (m, q) }
