-- An order that is given, kind by kind: what its fields are, where they are held, and what its answer is.
use mathlib.Core.Path.{◌≡◌, refl, sym, ap, ◌∙◌}
use mathlib.Core.Bool.{Bool}
use mathlib.Core.List.{List, [], ◌∷◌, map}
use Prim.Native.Nat.{ℕ, ◌≤◌, ◌<◌}
use native.Mathlib.Omega.{arith}
use lib.ListN.{length, take}
use Rattle.solver.specs.TermTypes.{Binders, Parameter, Parameters, Rule}
use Rattle.solver.specs.Terms.Result.{got}
use Rattle.solver.specs.Terms.Tokens.{spell}
use Rattle.solver.specs.Terms.Term.{Term, Parts, node, end, part_items, Held, bytes}
use Rattle.solver.specs.Terms.Held.{HeldParts}
use Rattle.solver.specs.Terms.TermsAtPlaces.{FormedAt}
use Rattle.solver.specs.Terms.Shape as shape
use Rattle.solver.specs.Terms.Formed.{Formed, Fit, Each}
use Rattle.solver.specs.Terms.Tree.{nominal_of}
use Rattle.solver.specs.Terms.Questions.{is_resolved_in}
use Rattle.solver.specs.Terms.Comparison.{conflicts_with, can_weaken_to, satisfies, satisfies_for}
use Rattle.solver.specs.Terms.Recovery.{recover_from}
use Rattle.solver.specs.Terms.Parameters.{parameters, listed as in_bytes}
use Rattle.solver.specs.Terms.Substitution as substitution
use Rattle.solver.specs.Terms.Substitution.{Entry, Receiver, apply, contextual}
use Rattle.solver.specs.Terms.Rows.{entry_row, receiver_row}
use Rattle.solver.specs.TermTypes as purposes
use Rattle.solver.specs.Terms.RewriteContract.{RowsWithin, HeldBinders}
use Rattle.solver.specs.Terms.Lookup.{Pattern, FormedPatterns}
use Rattle.solver.specs.Terms.Normal.{normalize, with_associated_types}
use Rattle.std.specs.Prelude.{Option}
use Rattle.sheet.specs.declared.FieldSpots.{FieldSpots}
use Rattle.sheet.specs.Fields as fields
use Rattle.sheet.specs.Fields.{Field, tree, bare, entered, received, named, listed, ruled, nth, term_of, row_of, entries_of, receivers_of, parameters_of, arguments_of, rules_of}
use Rattle.sheet.specs.OrderTable.{Answer, outcome, Row, layout}
use Rattle.sheet.specs.Operations.{bit, bits, seven, perhaps, settled, rule_of, operation}
use Rattle.sheet.specs.Operations as operations
use Rattle.sheet.specs.Words.FieldsFormed.{FormedTrees, FormedRules, FormedFields}
use Rattle.sheet.specs.Words.FieldsHeld.{HeldFields}
use Rattle.sheet.specs.Words.OrderGiven.{FitsLayout, Given}
use Rattle.sheet.specs.Words.FramingContract.{Framed}
use Rattle.sheet.specs.Words.OperationsContract.{Asks, Replies, row_at, Two, Applies, Associates, Normalises}
use Rattle.sheet.proofs.Laws.Answering.AnswerLaws.{held_in, frame_as, one_byte}

-- what an order with a row says: its fields are held, and w is its answer
pub record Kind (ks vs s : List ℕ) (ws : List Rule) (k : Row) (o : FieldSpots) (Says : Answer → Type 0) : Type 1 where
  pub asked : Asks ks vs s ws k o → (w : Answer) × Says w
  pub replied : (W : Answer → Type 0) → ((w : Answer) → Says w → W w) → Replies ks vs s ws k o W

kind_of : (ks vs s : List ℕ) (ws : List Rule) (k : Row) (o : FieldSpots) (Says : Answer → Type 0)
    → ((known : ℕ) (fs : List Field) → Given ks vs s ws known k o fs → Says (operation k fs)) → Kind ks vs s ws k o Says
kind_of ks vs s ws k o Says f = record {
  asked = λ x. (operation k x.fields, f x.known x.fields x.given);
  replied = λ W g. record { says = λ known fs x. g (operation k fs) (f known fs x) };
}

-- ---- the fields of each layout

fits_one_term : (fs : List Field) → FitsLayout (fields.term ∷ []) fs → (t : Term) × (fs ≡ tree t ∷ [])
unfolding FitsLayout
fits_one_term [] x = absurd x
fits_one_term (f ∷ []) x = (x.0.0, rw x.0.1)
fits_one_term (f ∷ g ∷ fs) x = absurd x.1

fits_two_terms : (fs : List Field) → FitsLayout (fields.term ∷ fields.term ∷ []) fs → (t : Term) × (u : Term) × (fs ≡ tree t ∷ tree u ∷ [])
unfolding FitsLayout
fits_two_terms [] x = absurd x
fits_two_terms (f ∷ []) x = absurd x.1
fits_two_terms (f ∷ g ∷ []) x = (x.0.0, x.1.0.0, rw (x.0.1, x.1.0.1))
fits_two_terms (f ∷ g ∷ h ∷ fs) x = absurd x.1.1

fits_instance : (fs : List Field) → FitsLayout (fields.entries ∷ fields.receivers ∷ fields.term ∷ []) fs → (es : List Entry) × (rs : List Receiver) × (t : Term) × (fs ≡ entered es ∷ received rs ∷ tree t ∷ [])
unfolding FitsLayout
fits_instance [] x = absurd x
fits_instance (f ∷ []) x = absurd x.1
fits_instance (f ∷ g ∷ []) x = absurd x.1.1
fits_instance (f ∷ g ∷ h ∷ []) x = (x.0.0, x.1.0.0, x.1.1.0.0, rw (x.0.1, x.1.0.1, x.1.1.0.1))
fits_instance (f ∷ g ∷ h ∷ i ∷ fs) x = absurd x.1.1.1

fits_context : (fs : List Field) → FitsLayout (fields.entries ∷ fields.receivers ∷ fields.parameters ∷ fields.term ∷ []) fs
    → (es : List Entry) × (rs : List Receiver) × (ps : List Parameter) × (t : Term) × (fs ≡ entered es ∷ received rs ∷ named ps ∷ tree t ∷ [])
unfolding FitsLayout
fits_context [] x = absurd x
fits_context (f ∷ []) x = absurd x.1
fits_context (f ∷ g ∷ []) x = absurd x.1.1
fits_context (f ∷ g ∷ h ∷ []) x = absurd x.1.1.1
fits_context (f ∷ g ∷ h ∷ i ∷ []) x = (x.0.0, x.1.0.0, x.1.1.0.0, x.1.1.1.0.0, rw (x.0.1, x.1.0.1, x.1.1.0.1, x.1.1.1.0.1))
fits_context (f ∷ g ∷ h ∷ i ∷ j ∷ fs) x = absurd x.1.1.1.1

fits_self : (fs : List Field) → FitsLayout (fields.receiver ∷ fields.term ∷ []) fs → (r : Receiver) × (t : Term) × (fs ≡ received (r ∷ []) ∷ tree t ∷ [])
unfolding FitsLayout
fits_self [] x = absurd x
fits_self (f ∷ []) x = absurd x.1
fits_self (f ∷ g ∷ []) x = (x.0.0, x.1.0.0, rw (x.0.1, x.1.0.1))
fits_self (f ∷ g ∷ h ∷ fs) x = absurd x.1.1

fits_resolved : (fs : List Field) → FitsLayout (fields.parameters ∷ fields.term ∷ []) fs → (ps : List Parameter) × (t : Term) × (fs ≡ named ps ∷ tree t ∷ [])
unfolding FitsLayout
fits_resolved [] x = absurd x
fits_resolved (f ∷ []) x = absurd x.1
fits_resolved (f ∷ g ∷ []) x = (x.0.0, x.1.0.0, rw (x.0.1, x.1.0.1))
fits_resolved (f ∷ g ∷ h ∷ fs) x = absurd x.1.1

fits_satisfied : (fs : List Field) → FitsLayout (fields.nominal ∷ fields.nominal ∷ fields.term ∷ []) fs → (ps : Parts) × (qs : Parts) × (t : Term) × (fs ≡ bare ps ∷ bare qs ∷ tree t ∷ [])
unfolding FitsLayout
fits_satisfied [] x = absurd x
fits_satisfied (f ∷ []) x = absurd x.1
fits_satisfied (f ∷ g ∷ []) x = absurd x.1.1
fits_satisfied (f ∷ g ∷ h ∷ []) x = (x.0.0, x.1.0.0, x.1.1.0.0, rw (x.0.1, x.1.0.1, x.1.1.0.1))
fits_satisfied (f ∷ g ∷ h ∷ i ∷ fs) x = absurd x.1.1.1

fits_family : (fs : List Field) → FitsLayout (fields.parameters ∷ fields.term ∷ fields.entries ∷ fields.receivers ∷ fields.arguments ∷ []) fs
    → (ps : List Parameter) × (t : Term) × (es : List Entry) × (rs : List Receiver) × (ts : List Term) × (fs ≡ named ps ∷ tree t ∷ entered es ∷ received rs ∷ listed ts ∷ [])
unfolding FitsLayout
fits_family [] x = absurd x
fits_family (f ∷ []) x = absurd x.1
fits_family (f ∷ g ∷ []) x = absurd x.1.1
fits_family (f ∷ g ∷ h ∷ []) x = absurd x.1.1.1
fits_family (f ∷ g ∷ h ∷ i ∷ []) x = absurd x.1.1.1.1
fits_family (f ∷ g ∷ h ∷ i ∷ j ∷ []) x =
    (x.0.0, x.1.0.0, x.1.1.0.0, x.1.1.1.0.0, x.1.1.1.1.0.0, rw (x.0.1, x.1.0.1, x.1.1.0.1, x.1.1.1.0.1, x.1.1.1.1.0.1))
fits_family (f ∷ g ∷ h ∷ i ∷ j ∷ k ∷ fs) x = absurd x.1.1.1.1.1

fits_associated : (fs : List Field) → FitsLayout (fields.term ∷ fields.nominal ∷ fields.term ∷ []) fs → (t : Term) × (ps : Parts) × (u : Term) × (fs ≡ tree t ∷ bare ps ∷ tree u ∷ [])
unfolding FitsLayout
fits_associated [] x = absurd x
fits_associated (f ∷ []) x = absurd x.1
fits_associated (f ∷ g ∷ []) x = absurd x.1.1
fits_associated (f ∷ g ∷ h ∷ []) x = (x.0.0, x.1.0.0, x.1.1.0.0, rw (x.0.1, x.1.0.1, x.1.1.0.1))
fits_associated (f ∷ g ∷ h ∷ i ∷ fs) x = absurd x.1.1.1

fits_rules : (fs : List Field) → FitsLayout (fields.rules ∷ fields.term ∷ []) fs → (rs : List Pattern) × (t : Term) × (fs ≡ ruled rs ∷ tree t ∷ [])
unfolding FitsLayout
fits_rules [] x = absurd x
fits_rules (f ∷ []) x = absurd x.1
fits_rules (f ∷ g ∷ []) x = (x.0.0, x.1.0.0, rw (x.0.1, x.1.0.1))
fits_rules (f ∷ g ∷ h ∷ fs) x = absurd x.1.1

-- ---- rows and rules

-- nothing stands between a place and itself
no_row : (ks vs : List ℕ) (p : ℕ) → p ≤ length ks → HeldParts ks vs p p end
unfolding part_items spell
no_row ks vs p h = record { tokens = refl; ends = omega arith; within = h }

formed_each : (known : ℕ) (ts : List Term) → FormedTrees known ts → Each Formed ts
unfolding FormedTrees Each
formed_each known [] x = tt
formed_each known (t ∷ ts) x = (x.0.formed, formed_each known ts x.1)

formed_patterns : (known : ℕ) (rs : List Pattern) → FormedRules known rs → FormedPatterns rs
unfolding FormedRules FormedPatterns
formed_patterns known [] x = tt
formed_patterns known (r ∷ rs) x = (
  record { interface = x.0.interface.fit; receiver = x.0.receiver.formed; arguments = formed_each known r.arguments x.0.arguments; value = x.0.value.formed },
  formed_patterns known rs x.1,
)

-- binders that are held can be looked up
pub binders_within : (ks vs : List ℕ) (b : Binders) (es : List Entry) (rs : List Receiver) (ps : List Parameter) → HeldBinders ks vs b es rs ps → length vs ≡ length ks → RowsWithin ks vs b
binders_within ks vs b es rs ps x e = record { entries = x.entries.within; receivers = x.receivers.within; long = e }

-- binders that are told
module _ (ks vs : List ℕ) (b b' : Binders) (e : b ≡ b') where
  pub within_as : RowsWithin ks vs b' → RowsWithin ks vs b
  within_as x = rw e x

  pub held_as : (es : List Entry) (rs : List Receiver) (ps : List Parameter) → HeldBinders ks vs b' es rs ps → HeldBinders ks vs b es rs ps
  held_as es rs ps x = rw e x

  pub applies_as : (l : Parameters) (given a : ℕ) (t : Term) (es : List Entry) (rs : List Receiver) (ps : List Parameter) (ts : List Term)
      → Applies ks vs b' l given a t es rs ps ts → Applies ks vs b l given a t es rs ps ts
  applies_as l given a t es rs ps ts x = rw e x

-- ---- each kind: what its fields are, where they are held, and what its answer is

-- orders 9, 10 and 11
pub record Pair (ks vs : List ℕ) (o : FieldSpots) (says : Term → Term → Answer) (w : Answer) : Type 0 where
  pub left : Term
  pub right : Term
  pub answer : w ≡ says left right
  pub both : Two ks vs o.first.place o.second.place left right

-- order 12
pub record Instance (ks vs s : List ℕ) (o : FieldSpots) (w : Answer) : Type 0 where
  pub entries : List Entry
  pub receivers : List Receiver
  pub term : Term
  pub answer : w ≡ outcome (bytes (substitution.instantiate (record { parameters = entries; receivers = receivers }) term))
  pub binders : HeldBinders ks vs (record { entries = row_at o.first; receivers = row_at o.second; purpose = purposes.Instance }) entries receivers []
  pub held : Held ks vs o.third.place term
  pub formed : Formed term

-- order 13
pub record Context (ks vs s : List ℕ) (o : FieldSpots) (w : Answer) : Type 0 where
  pub entries : List Entry
  pub names : List Parameter
  pub term : Term
  pub answer : w ≡ outcome (bytes (substitution.argument_context (record { parameters = entries; receivers = [] }) names term))
  pub binders : (l : Parameters) → in_bytes l ≡ parameters s o.third.value o.third.place → HeldBinders ks vs (record { entries = row_at o.first; receivers = record { from = o.first.end; end = o.first.end }; purpose = purposes.Context l }) entries [] names
  pub held : Held ks vs o.fourth.place term
  pub formed : Formed term

-- order 14
pub record SelfOnly (ks vs s : List ℕ) (o : FieldSpots) (w : Answer) : Type 0 where
  pub receiver : Receiver
  pub term : Term
  pub answer : w ≡ outcome (bytes (substitution.with_self receiver.owner receiver.term term))
  pub binders : HeldBinders ks vs (record { entries = record { from = o.first.place; end = o.first.place }; receivers = row_at o.first; purpose = purposes.Instance }) [] (receiver ∷ []) []
  pub held : Held ks vs o.second.place term
  pub formed : Formed term

-- order 15
pub record Questions (ks vs : List ℕ) (o : FieldSpots) (w : Answer) : Type 0 where
  pub term : Term
  pub answer : w ≡ outcome (seven term)
  pub held : Held ks vs o.first.place term
  pub formed : Formed term

-- order 16
pub record ResolvedIn (ks vs s : List ℕ) (o : FieldSpots) (w : Answer) : Type 0 where
  pub names : List Parameter
  pub term : Term
  pub answer : w ≡ outcome (bit (is_resolved_in names term) ∷ [])
  pub after : ℕ
  pub read : parameters s o.first.value o.first.place ≡ got names after
  pub held : Held ks vs o.second.place term
  pub formed : Formed term

-- order 17
pub record Satisfied (ks vs : List ℕ) (o : FieldSpots) (w : Answer) : Type 0 where
  pub has : Parts
  pub needs : Parts
  pub receiver : Term
  pub answer : w ≡ outcome (bit (satisfies (nominal_of has) (nominal_of needs)) ∷ bit (satisfies_for (nominal_of has) (nominal_of needs) receiver) ∷ [])
  pub first : Held ks vs o.first.place (node 20 has)
  pub second : Held ks vs o.second.place (node 20 needs)
  pub third : Held ks vs o.third.place receiver
  pub first_fit : Fit (shape.nominal shape.done) has
  pub second_fit : Fit (shape.nominal shape.done) needs

-- order 18
pub record Family (ks vs s : List ℕ) (o : FieldSpots) (w : Answer) : Type 0 where
  pub names : List Parameter
  pub term : Term
  pub entries : List Entry
  pub receivers : List Receiver
  pub arguments : List Term
  pub answer : w ≡ outcome (perhaps (apply names term (record { parameters = entries; receivers = receivers }) arguments))
  pub applies : (l : Parameters) → l.count ≡ o.first.value → in_bytes l ≡ parameters s o.first.value o.first.place
      → Applies ks vs (record { entries = row_at o.third; receivers = row_at o.fourth; purpose = purposes.Family l o.fifth.place }) l o.fifth.value o.second.place term entries receivers names arguments

-- order 19
pub record Associated (ks vs : List ℕ) (o : FieldSpots) (w : Answer) : Type 0 where
  pub term : Term
  pub row : Parts
  pub owner : Term
  pub answer : w ≡ settled (with_associated_types term (nominal_of row) owner)
  pub associates : Associates ks vs o.first.place o.second.place o.third.place term row owner

-- order 20
pub record Ruling (ks vs : List ℕ) (ws : List Rule) (o : FieldSpots) (w : Answer) : Type 0 where
  pub patterns : List Pattern
  pub term : Term
  pub answer : w ≡ settled (normalize (map rule_of patterns) term)
  pub normalises : Normalises ks vs (take o.first.value ws) o.second.place patterns term
  pub enough : o.first.value ≤ length ws

module _ (ks vs s : List ℕ) (ws : List Rule) (o : FieldSpots) where
  -- a kind whose fields are two terms
  pair : (says : Term → Term → Answer) (k : Row) → layout k ≡ fields.term ∷ fields.term ∷ []
      → ((t u : Term) → operation k (tree t ∷ tree u ∷ []) ≡ says t u) → Kind ks vs s ws k o (Pair ks vs o says)
  unfolding FormedFields nth
  pair says k l answers = kind_of ks vs s ws k o _ (λ known fs x.
      let f = fits_two_terms fs (rw l at x.fits) in
      let h : HeldFields ks vs s ws o (tree f.0 ∷ tree f.1 ∷ []) = rw f.2 at x.held in
      let g : FormedFields known (tree f.0 ∷ tree f.1 ∷ []) = rw f.2 at x.formed in
      record { left = f.0; right = f.1; answer = ap (operation k) f.2 ∙ answers f.0 f.1; both = record { left = h.first; right = h.second; left_formed = g.0.formed; right_formed = g.1.0.formed } })

  pub conflicts : Kind ks vs s ws operations.conflicts o (Pair ks vs o (λ t u. outcome (bit (conflicts_with t u) ∷ [])))
  unfolding operation nth term_of layout
  conflicts = pair _ operations.conflicts refl (λ t u. refl)

  pub weakens : Kind ks vs s ws operations.weakens o (Pair ks vs o (λ t u. outcome (bit (can_weaken_to t u) ∷ [])))
  unfolding operation nth term_of layout
  weakens = pair _ operations.weakens refl (λ t u. refl)

  pub recovers : Kind ks vs s ws operations.recover o (Pair ks vs o (λ t u. outcome (bytes (recover_from t u))))
  unfolding operation nth term_of layout
  recovers = pair _ operations.recover refl (λ t u. refl)

  pub instance : Kind ks vs s ws operations.instantiate o (Instance ks vs s o)
  unfolding operation nth term_of entries_of receivers_of layout FormedFields parameters
  instance = kind_of ks vs s ws operations.instantiate o _ (λ known fs x.
      let f = fits_instance fs x.fits in
      let h : HeldFields ks vs s ws o (entered f.0 ∷ received f.1 ∷ tree f.2 ∷ []) = rw f.3 at x.held in
      let g : FormedFields known (entered f.0 ∷ received f.1 ∷ tree f.2 ∷ []) = rw f.3 at x.formed in record {
        entries = f.0;
        receivers = f.1;
        term = f.2;
        answer = ap (operation operations.instantiate) f.3;
        binders = record { entries = h.first.1; receivers = h.second.1; parameters = refl };
        held = h.third;
        formed = g.1.1.0.formed;
      })

  pub in_context : Kind ks vs s ws operations.argument_context o (Context ks vs s o)
  unfolding operation nth term_of entries_of receivers_of parameters_of layout FormedFields contextual receiver_row
  in_context = kind_of ks vs s ws operations.argument_context o _ (λ known fs x.
      let f = fits_context fs x.fits in
      let h : HeldFields ks vs s ws o (entered f.0 ∷ received f.1 ∷ named f.2 ∷ tree f.3 ∷ []) = rw f.4 at x.held in
      let g : FormedFields known (entered f.0 ∷ received f.1 ∷ named f.2 ∷ tree f.3 ∷ []) = rw f.4 at x.formed in record {
        entries = f.0;
        names = f.2;
        term = f.3;
        answer = ap (operation operations.argument_context) f.4;
        binders = λ l z. record { entries = h.first.1; receivers = no_row ks vs o.first.end h.first.1.within; parameters = (h.third.1.0, z ∙ h.third.1.1) };
        held = h.fourth;
        formed = g.1.1.1.0.formed;
      })

  pub self_only : Kind ks vs s ws operations.with_self o (SelfOnly ks vs s o)
  unfolding operation nth term_of receivers_of operations.by_receiver layout FormedFields parameters entry_row
  self_only = kind_of ks vs s ws operations.with_self o _ (λ known fs x.
      let f = fits_self fs x.fits in
      let h : HeldFields ks vs s ws o (received (f.0 ∷ []) ∷ tree f.1 ∷ []) = rw f.2 at x.held in
      let g : FormedFields known (received (f.0 ∷ []) ∷ tree f.1 ∷ []) = rw f.2 at x.formed in
      let r = h.first.1 in record {
        receiver = f.0;
        term = f.1;
        answer = ap (operation operations.with_self) f.2;
        binders = record { entries = no_row ks vs o.first.place (omega (arith, r.ends, r.within)); receivers = r; parameters = refl };
        held = h.second;
        formed = g.1.0.formed;
      })

  pub questions : Kind ks vs s ws operations.questions o (Questions ks vs o)
  unfolding operation nth term_of layout FormedFields
  questions = kind_of ks vs s ws operations.questions o _ (λ known fs x.
      let f = fits_one_term fs x.fits in
      let h : HeldFields ks vs s ws o (tree f.0 ∷ []) = rw f.1 at x.held in
      let g : FormedFields known (tree f.0 ∷ []) = rw f.1 at x.formed in
      record { term = f.0; answer = ap (operation operations.questions) f.1; held = h.first; formed = g.0.formed })

  pub resolved_in : Kind ks vs s ws operations.resolved_in o (ResolvedIn ks vs s o)
  unfolding operation nth term_of parameters_of layout FormedFields
  resolved_in = kind_of ks vs s ws operations.resolved_in o _ (λ known fs x.
      let f = fits_resolved fs x.fits in
      let h : HeldFields ks vs s ws o (named f.0 ∷ tree f.1 ∷ []) = rw f.2 at x.held in
      let g : FormedFields known (named f.0 ∷ tree f.1 ∷ []) = rw f.2 at x.formed in
      record { names = f.0; term = f.1; answer = ap (operation operations.resolved_in) f.2; after = h.first.1.0; read = h.first.1.1; held = h.second; formed = g.1.0.formed })

  pub satisfied : Kind ks vs s ws operations.satisfied o (Satisfied ks vs o)
  unfolding operation nth term_of row_of bits layout FormedFields
  satisfied = kind_of ks vs s ws operations.satisfied o _ (λ known fs x.
      let f = fits_satisfied fs x.fits in
      let h : HeldFields ks vs s ws o (bare f.0 ∷ bare f.1 ∷ tree f.2 ∷ []) = rw f.3 at x.held in
      let g : FormedFields known (bare f.0 ∷ bare f.1 ∷ tree f.2 ∷ []) = rw f.3 at x.formed in record {
        has = f.0;
        needs = f.1;
        receiver = f.2;
        answer = ap (operation operations.satisfied) f.3;
        first = h.first;
        second = h.second;
        third = h.third;
        first_fit = g.0.fit;
        second_fit = g.1.0.fit;
      })

  pub family : Kind ks vs s ws operations.family o (Family ks vs s o)
  unfolding operation nth term_of parameters_of entries_of receivers_of arguments_of layout FormedFields
  family = kind_of ks vs s ws operations.family o _ (λ known fs x.
      let f = fits_family fs x.fits in
      let h : HeldFields ks vs s ws o (named f.0 ∷ tree f.1 ∷ entered f.2 ∷ received f.3 ∷ listed f.4 ∷ []) = rw f.5 at x.held in
      let g : FormedFields known (named f.0 ∷ tree f.1 ∷ entered f.2 ∷ received f.3 ∷ listed f.4 ∷ []) = rw f.5 at x.formed in record {
        names = f.0;
        term = f.1;
        entries = f.2;
        receivers = f.3;
        arguments = f.4;
        answer = ap (operation operations.family) f.5;
        applies = λ l c z. record {
          held = h.second;
          formed = g.1.0.formed;
          binders = record { entries = h.third.1; receivers = h.fourth.1; parameters = (h.first.1.0, z ∙ h.first.1.1) };
          from = o.fifth.place;
          end = o.fifth.end;
          arguments = h.fifth.1;
          family = refl;
          many = h.fifth.0;
          parameters = c ∙ h.first.0;
        };
      })

  pub associated : Kind ks vs s ws operations.with_associated_types o (Associated ks vs o)
  unfolding operation nth term_of row_of layout FormedFields
  associated = kind_of ks vs s ws operations.with_associated_types o _ (λ known fs x.
      let f = fits_associated fs x.fits in
      let h : HeldFields ks vs s ws o (tree f.0 ∷ bare f.1 ∷ tree f.2 ∷ []) = rw f.3 at x.held in
      let g : FormedFields known (tree f.0 ∷ bare f.1 ∷ tree f.2 ∷ []) = rw f.3 at x.formed in record {
        term = f.0;
        row = f.1;
        owner = f.2;
        answer = ap (operation operations.with_associated_types) f.3;
        associates = record { term = h.first; interface = h.second; owns = h.third; term_formed = g.0.formed; interface_fit = g.1.0.fit; owner_formed = g.1.1.0.formed };
      })

  pub ruling : Kind ks vs s ws operations.normalise o (Ruling ks vs ws o)
  unfolding operation nth term_of rules_of layout FormedFields
  ruling = kind_of ks vs s ws operations.normalise o _ (λ known fs x.
      let f = fits_rules fs x.fits in
      let h : HeldFields ks vs s ws o (ruled f.0 ∷ tree f.1 ∷ []) = rw f.2 at x.held in
      let g : FormedFields known (ruled f.0 ∷ tree f.1 ∷ []) = rw f.2 at x.formed in record {
        patterns = f.0;
        term = f.1;
        answer = ap (operation operations.normalise) f.2;
        normalises = record { rules = h.first.2; term = h.second; rules_formed = formed_patterns known f.0 g.0; term_formed = g.1.0.formed };
        enough = h.first.1;
      })

-- ---- what a function that answers is asked, and what it replies

module _ {ks vs s : List ℕ} {ws : List Rule} {k : Row} {o : FieldSpots} where
  -- what was written is the answer
  pub replies_as : {Says : Answer → Type 0} → Kind ks vs s ws k o Says → (a : Answer) → ((w : Answer) → Says w → a ≡ w) → (out₀ : List ℕ) (to : ℕ) (out : List ℕ) (r : Option ℕ) → Framed a out₀ to out r
      → Replies ks vs s ws k o (λ x. Framed x out₀ to out r)
  replies_as x a e out₀ to out r f = x.replied _ (λ w y. frame_as a w (e w y) out₀ to out r f)

  -- two formed terms at their places
  pub pair_asked : {says : Term → Term → Answer} → Kind ks vs s ws k o (Pair ks vs o says) → Asks ks vs s ws k o
      → ((o.first.place < length ks) × (o.second.place < length ks)) × (FormedAt ks vs o.first.place × FormedAt ks vs o.second.place)
  pair_asked x p =
      let y = (x.asked p).1.both in (
        (held_in _ _ _ _ y.left, held_in _ _ _ _ y.right),
        (record { term = _; held = y.left; formed = y.left_formed }, record { term = _; held = y.right; formed = y.right_formed }),
      )

  -- orders 9 and 10: a byte says whether h holds of the two terms
  pub pair_replies : (h : Term → Term → Bool) → Kind ks vs s ws k o (Pair ks vs o (λ t u. outcome (bit (h t u) ∷ []))) → (b : Bool) (n : ℕ) → n ≡ bit b
      → ((t u : Term) → Held ks vs o.first.place t → Held ks vs o.second.place u → Formed t → Formed u → b ≡ h t u)
      → (out₀ : List ℕ) (to : ℕ) (out : List ℕ) (r : Option ℕ) → Framed (outcome (n ∷ [])) out₀ to out r → Replies ks vs s ws k o (λ x. Framed x out₀ to out r)
  pair_replies h x b n e tells = replies_as x _ (λ w y. one_byte _ _ (e ∙ ap bit (tells _ _ y.both.left y.both.right y.both.left_formed y.both.right_formed)) ∙ sym y.answer)
