-- Steps of orders 0 to 8, 21 and 22 done on what is lent: what each answers, and that it is done or not.
use mathlib.Core.Path.{◌≡◌, refl, sym, ap, subst, ◌∙◌}
use mathlib.Core.Bool.{Bool, true, false, not}
use mathlib.Core.List.{List, [], ◌∷◌, ◌++◌}
use mathlib.Core.Option.{Option, none, some}
use Prim.Native.Nat.{ℕ, ◌+◌, ◌-◌, ◌≤◌, ◌<◌}
use native.Mathlib.Omega.{arith}
use borrow.Author.Tests.{leb-true}
use lib.Dec.{eqb}
use lib.ListN.{length, length-append}
use Rattle.solver.specs.Terms.Number.{shortest}
use Rattle.solver.specs.Terms.Term.{var, bytes}
use Rattle.solver.specs.declared.Solver.{Solver}
use Rattle.solver.specs.declared.Defaulted.{Defaulted}
use Rattle.solver.specs.declared.Defaulted.TheVariants.{Requested, Deferred}
use Rattle.std.specs.Prelude.{Some, None, is_some}
use Rattle.std.specs.declared.option.Option as rust
use Rattle.sheet.specs.declared.VariableOrder.{VariableOrder}
use Rattle.sheet.specs.declared.VariableOrder.TheVariants.{Slot, Number, Hole}
use Rattle.sheet.specs.declared.TermlessOrder.{TermlessOrder}
use Rattle.solver.specs.Families.{Request}
use Rattle.solver.specs.Constrain.{resolved}
use Rattle.solver.specs.Session.{Limits, Session, VariablePlace, at, gap, issued, find}
use Rattle.solver.specs.Orders as orders
use Rattle.solver.specs.Orders.{order, variable_step, number_at, hole_at, full, refused, ◌gives◌}
use Rattle.solver.specs.Invariant.{InOrder}
use Rattle.solver.specs.Words.SessionRepresentation.{request_in, Represents, limits_of}
use Rattle.solver.specs.Words.MethodContract.{Beside, defaults_by, found, placed, named_of}
use Rattle.solver.specs.Words.OrderTerms.{place_of}
use Rattle.solver.proofs.Laws.Definition.SolverInvariantLaws.{ordered_revision}
use Rattle.solver.proofs.Laws.Definition.InOrderLaws.{in_order_ordered}
use Rattle.solver.proofs.Laws.Table.MethodLaws.{beside_same, named_next, named_none}
use Rattle.sheet.specs.OrderTable.{Answer, refusal, outcome}
use Rattle.sheet.specs.Operations.{bit}
use Rattle.sheet.specs.Sheet.{Step, solve, answer_of, framed}
use Rattle.sheet.specs.Words.FramingContract.{output_at, written_to, Framed, opening}
use Rattle.sheet.specs.Words.SessionOrdersContract.{lent, Does, variable_command, site_of, variable_answer, termless_command}
use Rattle.sheet.proofs.Laws.Answering.FramingLaws.{one_frame, frame_over, value_frame}

-- ---- done, or not

module _ {x : Solver} {ks vs ts : List ℕ} {z : Session} (L : Represents x ks vs ts z) (st : Step) (out₀ : List ℕ) (to : ℕ) where
  -- the answer does not fit
  pub does_not : length out₀ < to + length (framed st.answer) → Does (lent x ks vs ts) x ts z st (output_at out₀ to) (written_to out₀ None)
  does_not h =
      record {
        answer = record { fits = λ k. absurd (omega arith); over = λ k. (refl, refl) };
        whole = λ k. absurd (omega arith);
        long = λ k. L;
        beside = beside_same x ts;
      }

  -- and so it is where no position is told
  pub does_over : (out : List ℕ) (r : rust.Option ℕ) → Framed st.answer out₀ to out r → is_some r ≡ false → Does (lent x ks vs ts) x ts z st (output_at out₀ to) (written_to out r)
  does_over out (Some n) f h = absurd (cc)
  does_over out None f h =
      record {
        answer = f;
        whole = λ k. let p = (f.fits k).0 in absurd (cc);
        long = λ k. L;
        beside = beside_same x ts;
      }

  -- the session stays as it is
  pub does_same : (out : List ℕ) (r : rust.Option ℕ) → st.session ≡ z → Framed st.answer out₀ to out r → Does (lent x ks vs ts) x ts z st (output_at out₀ to) (written_to out r)
  does_same out r e f =
      record {
        answer = f;
        whole = λ k. subst (λ (s : Session). Represents x ks vs ts s) (sym e) L;
        long = λ k. L;
        beside = beside_same x ts;
      }

  -- the answer fits
  pub does_whole : (y : Solver) (us out : List ℕ) (r : rust.Option ℕ) → Framed st.answer out₀ to out r → is_some r ≡ true
      → Represents y ks vs us st.session → Beside x y ts us → Does (lent x ks vs ts) y us z st (output_at out₀ to) (written_to out r)
  does_whole y us out None f h M B = absurd (cc)
  does_whole y us out (Some n) f h M B =
      record {
        answer = f;
        whole = λ k. M;
        long = λ k. let p = (f.over k).0 in absurd (cc);
        beside = B;
      }

-- ---- the revision

-- it is at most the count of variables
pub in_order_revision : (z : Session) → InOrder (issued z) z.solver → z.solver.revision ≤ issued z
in_order_revision z A = ordered_revision (issued z) z.solver (in_order_ordered (issued z) z.solver A)

pub lent_revision : (x : Solver) (ks vs ts : List ℕ) (z : Session) → InOrder (issued z) z.solver → Represents x ks vs ts z → x.revision ≤ x.variables
lent_revision x ks vs ts z A L = omega (arith, in_order_revision z A, L.revision, L.fits.variables)

pub revision_does : (x : Solver) (ks vs ts : List ℕ) (z : Session) → Represents x ks vs ts z → (n : ℕ) → n ≡ x.revision → (out₀ : List ℕ) (to : ℕ) (out : List ℕ) (r : rust.Option ℕ)
    → Framed (outcome (shortest n)) out₀ to out r → Does (lent x ks vs ts) x ts z (solve (limits_of x) z orders.revision) (output_at out₀ to) (written_to out r)
unfolding order answer_of
revision_does x ks vs ts z L n e out₀ to out r f =
    does_same L (solve (limits_of x) z orders.revision) out₀ to out r refl
    (subst (λ (n : ℕ). Framed (outcome (shortest n)) out₀ to out r) (e ∙ L.revision) f)

-- ---- defaults

-- a step that answers whether the revision is another
abbrev pub Tells : Session → Step → Type 0
Tells z st = st.answer ≡ outcome (bit (not (eqb st.session.solver.revision z.solver.revision)) ∷ [])

pub defaults_tell : (which : Defaulted) (lim : Limits) (z : Session) → Tells z (solve lim z (defaults_by which))
unfolding order answer_of
defaults_tell Requested lim z = refl
defaults_tell Deferred lim z = refl

module _ {x : Solver} {ks vs ts : List ℕ} {z : Session} (L : Represents x ks vs ts z) (st : Step) (e : Tells z st) (out₀ : List ℕ) (to : ℕ) (inside : to ≤ length out₀) where
  size : length (framed st.answer) ≡ 3
  size = ap (λ a. length (framed a)) e ∙ ap length (one_frame (bit (not (eqb st.session.solver.revision z.solver.revision))))

  pub defaults_not : length out₀ - to < 3 → Does (lent x ks vs ts) x ts z st (output_at out₀ to) (written_to out₀ None)
  defaults_not h = does_not L st out₀ to (omega (arith, size))

  pub defaults_done : (y : Solver) (us out : List ℕ) (r : rust.Option ℕ) (a : ℕ) → 3 ≤ length out₀ - to → Represents y ks vs us st.session → Beside x y ts us
      → a ≡ bit (not (eqb y.revision x.revision)) → Framed (outcome (a ∷ [])) out₀ to out r → Does (lent x ks vs ts) y us z st (output_at out₀ to) (written_to out r)
  defaults_done y us out r a h M B p f =
      let q : a ≡ bit (not (eqb st.session.solver.revision z.solver.revision)) = p ∙ rw (M.revision, L.revision) refl in
      let g : Framed st.answer out₀ to out r
      = subst (λ b. Framed b out₀ to out r) (ap (λ (n : ℕ). outcome (n ∷ [])) q ∙ sym e) f in
      does_whole L st out₀ to y us out r g (ap is_some (g.fits (omega (arith, size))).0) M B

-- ---- the variable of a place

-- it is the one that there is or the next one
abbrev pub next_of : Session → VariablePlace → ℕ
next_of z p = found (issued z) (find p z.places)

-- order 0
module _ (lim : Limits) (z : Session) (site slot : ℕ) where
  variable_go : (o : Option ℕ) (f : Bool) → full lim z ≡ f → found (issued z) o < lim.variables
      → answer_of (variable_step lim z (at site slot) o f).reply ≡ outcome (bytes (var (found (issued z) o)))
  unfolding answer_of variable_step
  variable_go (some v) f g h = refl
  variable_go none true g h = absurd (omega (arith, leb-true lim.variables (issued z) g))
  variable_go none false g h = refl

  variable_answer_lem : next_of z (at site slot) < lim.variables → (solve lim z (orders.variable site slot)).answer ≡ outcome (bytes (var (next_of z (at site slot))))
  unfolding order
  variable_answer_lem h = variable_go (find (at site slot) z.places) (full lim z) refl h

  variable_full : find (at site slot) z.places ≡ none → full lim z ≡ true → order lim z (orders.variable site slot) ≡ (z gives refused 8)
  unfolding order variable_step
  variable_full u f = rw (u, f) refl

-- orders 1 and 21
module _ (lim : Limits) (z : Session) (site : ℕ) (r : Request) where
  number_go : (o : Option ℕ) (f : Bool) → full lim z ≡ f → found (issued z) o < lim.variables
      → answer_of (number_at lim z (at site 1) r o f).reply ≡ outcome (bytes (resolved z.solver (var (found (issued z) o))))
  unfolding answer_of number_at
  number_go (some v) f g h = refl
  number_go none true g h = absurd (omega (arith, leb-true lim.variables (issued z) g))
  number_go none false g h = refl

  number_answer : next_of z (at site 1) < lim.variables
      → (solve lim z (orders.number site r)).answer ≡ outcome (bytes (resolved z.solver (var (next_of z (at site 1)))))
  unfolding order
  number_answer h = number_go (find (at site 1) z.places) (full lim z) refl h

  number_full : find (at site 1) z.places ≡ none → full lim z ≡ true → order lim z (orders.number site r) ≡ (z gives refused 8)
  unfolding order number_at
  number_full u f = rw (u, f) refl

-- order 2
module _ (lim : Limits) (z : Session) (site : ℕ) where
  hole_go : (o : Option ℕ) (f : Bool) → full lim z ≡ f → found (issued z) o < lim.variables
      → answer_of (hole_at lim z (gap site) o f).reply ≡ outcome (bytes (resolved z.solver (var (found (issued z) o))))
  unfolding answer_of hole_at
  hole_go (some v) f g h = refl
  hole_go none true g h = absurd (omega (arith, leb-true lim.variables (issued z) g))
  hole_go none false g h = refl

  hole_answer : next_of z (gap site) < lim.variables → (solve lim z (orders.hole site)).answer ≡ outcome (bytes (resolved z.solver (var (next_of z (gap site)))))
  unfolding order
  hole_answer h = hole_go (find (gap site) z.places) (full lim z) refl h

  hole_full : find (gap site) z.places ≡ none → full lim z ≡ true → order lim z (orders.hole site) ≡ (z gives refused 8)
  unfolding order hole_at
  hole_full u f = rw (u, f) refl

-- all of them
module _ (lim : Limits) (z : Session) where
  pub variable_order_answer : (o : VariableOrder) → next_of z (place_of (site_of o)) < lim.variables
      → (solve lim z (variable_command o)).answer ≡ outcome (bytes (variable_answer z o (next_of z (place_of (site_of o)))))
  variable_order_answer (Slot s i) = variable_answer_lem lim z s i
  variable_order_answer (Number s r) = number_answer lim z s (request_in r.word)
  variable_order_answer (Hole s) = hole_answer lim z s

  pub variable_order_full : (o : VariableOrder) → find (place_of (site_of o)) z.places ≡ none → full lim z ≡ true → order lim z (variable_command o) ≡ (z gives refused 8)
  variable_order_full (Slot s i) = variable_full lim z s i
  variable_order_full (Number s r) = number_full lim z s (request_in r.word)
  variable_order_full (Hole s) = hole_full lim z s

-- refusal 8, whatever the order
pub full_does : (x : Solver) (ks vs ts : List ℕ) (z : Session) → Represents x ks vs ts z → (c : orders.Command) → order (limits_of x) z c ≡ (z gives refused 8)
    → (out₀ : List ℕ) (to : ℕ) (out : List ℕ) (r : rust.Option ℕ) → Framed (refusal 8) out₀ to out r → Does (lent x ks vs ts) x ts z (solve (limits_of x) z c) (output_at out₀ to) (written_to out r)
unfolding answer_of
full_does x ks vs ts z L c e out₀ to out r f =
    does_same L (solve (limits_of x) z c) out₀ to out r (ap (λ (s : orders.Step). s.session) e)
    (subst (λ a. Framed a out₀ to out r) (sym (ap (λ (s : orders.Step). answer_of s.reply) e)) f)

-- any other refusal
pub refusal_does : (x : Solver) (ks vs ts : List ℕ) (z : Session) → Represents x ks vs ts z → (c : ℕ) (out₀ : List ℕ) (to : ℕ) (out : List ℕ) (r : rust.Option ℕ) → Framed (refusal c) out₀ to out r
    → Does (lent x ks vs ts) x ts z (solve (limits_of x) z (orders.unread c)) (output_at out₀ to) (written_to out r)
unfolding order answer_of
refusal_does x ks vs ts z L c out₀ to out r f = does_same L (solve (limits_of x) z (orders.unread c)) out₀ to out r refl f

-- ---- answers that are terms

-- a value longer than the output does not fit
pub long_over : (v out₀ : List ℕ) (to : ℕ) → length out₀ < length v → Framed (outcome v) out₀ to out₀ None
long_over v out₀ to h =
    frame_over (outcome v) (opening (length v) ++ v) (value_frame v) out₀ to out₀ (omega (arith, length-append (opening (length v)) v)) refl

-- ---- bytes of the revision

-- ---- orders 0 to 2 and 21: by the variable that the place has or would be given

module _ (x : Solver) (ks vs ts : List ℕ) (z : Session) (L : Represents x ks vs ts z) (c : orders.Command) (p : VariablePlace) (w : ℕ → List ℕ)
    (answers : next_of z p < x.variables → (solve (limits_of x) z c).answer ≡ outcome (w (next_of z p)))
    (fullness : find p z.places ≡ none → full (limits_of x) z ≡ true → order (limits_of x) z c ≡ (z gives refused 8))
    (a : rust.Option ℕ) (e : a ≡ named_of (placed (limits_of x) z p).variable) (out₀ : List ℕ) (to : ℕ) (out : List ℕ) (r : rust.Option ℕ) where
  pub place_refused : a ≡ None → Framed (refusal 8) out₀ to out r → Does (lent x ks vs ts) x ts z (solve (limits_of x) z c) (output_at out₀ to) (written_to out r)
  place_refused f g =
      let n = named_none (limits_of x) z p L.fits (sym f ∙ e) in
      full_does x ks vs ts z L c (fullness n.0 n.1) out₀ to out r g

  module _ (v : ℕ) (f : a ≡ Some v) (g : Framed (outcome (w v)) out₀ to out r) where
    says : Framed (solve (limits_of x) z c).answer out₀ to out r
    says =
        let n = named_next (limits_of x) z p L.fits v (sym f ∙ e) in
        subst (λ (b : Answer). Framed b out₀ to out r) (ap (λ (i : ℕ). outcome (w i)) n.0 ∙ sym (answers (omega (arith, n.0, n.1)))) g

    pub place_over : is_some r ≡ false → Does (lent x ks vs ts) x ts z (solve (limits_of x) z c) (output_at out₀ to) (written_to out r)
    place_over l = does_over L (solve (limits_of x) z c) out₀ to out r says l

    pub place_done : is_some r ≡ true → (y : Solver) (us : List ℕ) → Represents y ks vs us (order (limits_of x) z c).session → Beside x y ts us
        → Does (lent x ks vs ts) y us z (solve (limits_of x) z c) (output_at out₀ to) (written_to out r)
    place_done l y us M B = does_whole L (solve (limits_of x) z c) out₀ to y us out r says l M B

-- ---- orders without terms, by their commands

pub does_termless : (x y : Solver) (ks vs ts us : List ℕ) (z : Session) (c d : TermlessOrder) → c ≡ d → (out₀ : List ℕ) (to : ℕ) (out : List ℕ) (r : rust.Option ℕ)
    → Does (lent x ks vs ts) y us z (solve (limits_of x) z (termless_command c)) (output_at out₀ to) (written_to out r)
    → Does (lent x ks vs ts) y us z (solve (limits_of x) z (termless_command d)) (output_at out₀ to) (written_to out r)
does_termless x y ks vs ts us z c d e out₀ to out r h =
    subst (λ (o : TermlessOrder). Does (lent x ks vs ts) y us z (solve (limits_of x) z (termless_command o)) (output_at out₀ to) (written_to out r)) e h
