-- Writing a term with its binders replaced: on words, whatever they are, and what that says of terms.
use Rattle.std.specs.Prelude.{◌≡◌, Bool, true, false, List, [], ◌∷◌, ◌++◌, ℕ, zero, suc, ◌+◌, ◌-◌, ◌^◌, ◌≤◌, ◌<◌, eqb, ltb, length, get_or, Option, Some, None}
use Rattle.std.proofs.Math.Option as math
use Rattle.std.proofs.Math.Option.{none, some}
use Rattle.std.proofs.lemmas.List.Edits.{sets}
use Rattle.terms.specs.declared.Binders.{Binders}
use Rattle.terms.specs.declared.Choice.{Choice}
use Rattle.terms.specs.declared.Choice.TheVariants.{Keep, By, Unknown}
use Rattle.terms.specs.Result.{got, pick}
use Rattle.terms.specs.Term.{Term, bytes}
use Rattle.terms.specs.Formed.{Formed}
use Rattle.terms.specs.Words.Held.{Held, HeldParts}
use Rattle.terms.specs.Tree.{unknown}
use Rattle.terms.specs.Words.TokenBytes.{spelt}
use Rattle.terms.specs.declared.Parameters.{Parameters}
use Rattle.terms.specs.declared.Part.{Part}
use Rattle.terms.specs.declared.Purpose.{Purpose}
use Rattle.terms.specs.declared.Purpose.TheVariants.{Instance, Context, Family}
use Rattle.terms.specs.Questions.{Parameter}
use Rattle.terms.specs.Substitution.{Entry, Receiver, instantiate, argument_context, with_self, apply}
use Rattle.terms.specs.Rows.{entry_row, receiver_row, argument_row}
use Rattle.terms.specs.Parameters.{listed, index_in, is_found}
use Rattle.terms.specs.Words.FindContract.{stride, entry_at, receiver_at, argument_for}

-- ---- what takes the place of the term at p

abbrev pub by : Option ℕ → Choice → Choice
by (Some q) c = By q
by None c = c

-- the index of a parameter
abbrev pub index : Parameters → Parameter → Option ℕ
index l p = index_in (listed l) p

-- whether it is `argument_context`
abbrev pub is_context : Purpose → Bool
is_context Instance = false
is_context (Context l) = true
is_context (Family l a) = false

module _ (ks vs : List ℕ) (b : Binders) where
  -- a SelfType: by a receiver, but in `argument_context` by nothing
  unfoldable pub self_for : ℕ → Choice
  self_for o = pick (is_context b.purpose) Keep (by (receiver_at ks vs b.receivers.from b.receivers.end o) Keep)

  -- the term of an entry
  abbrev pub entry_for : Parameter → Option ℕ
  entry_for p = entry_at ks vs b.entries.from b.entries.end p.owner p.position

  -- a Generic in `apply`, with the arguments from a place on: an argument for a parameter comes before an entry
  unfoldable pub generic : Parameters → ℕ → Parameter → Choice
  generic l a p = by (argument_for ks vs a (index l p)) (by (entry_for p) Keep)

  -- a Generic in `argument_context`: an entry, else Unknown for a parameter
  unfoldable pub in_context_of : Parameters → Parameter → Choice
  in_context_of l p = by (entry_for p) (pick (is_found (index l p)) Unknown Keep)

  -- a Generic, in `instantiate` too: an entry
  unfoldable pub generic_for : Purpose → Parameter → Choice
  generic_for Instance p = by (entry_for p) Keep
  generic_for (Context l) p = in_context_of l p
  generic_for (Family l a) p = generic l a p

  -- the parameter that a Generic names
  abbrev pub named_at : ℕ → Parameter
  named_at p = record { owner = get_or vs (p + 1) 0; position = get_or vs (p + 2) 0 }

  -- the head of a Generic has the kind 19, that of a SelfType 21
  unfoldable pub chosen : ℕ → Choice
  chosen p =
      pick (eqb (get_or ks p 0) 19) (generic_for b.purpose (named_at p)) (pick (eqb (get_or ks p 0) 21) (self_for (get_or vs (p + 1) 0)) Keep)

-- ---- what is written

module _ (ks vs : List ℕ) where
  -- for what stands at p: its own token, or the term chosen as it stands
  unfoldable pub piece : ℕ → Choice → List ℕ
  piece p Keep = spelt ks vs p 1
  piece p (By q) = spelt ks vs q (stride ks vs q (length ks - q))
  piece p Unknown = 2 ∷ []

  -- and how many tokens it stands for: one, or the whole term
  unfoldable pub pace : ℕ → ℕ → Choice → ℕ
  pace p e Keep = 1
  pace p e (By q) = stride ks vs p (e - p)
  pace p e Unknown = stride ks vs p (e - p)

  -- the tokens from p up to e; each step passes one at least, so there are no more steps than fuel
  unfoldable pub pieces : (ℕ → Choice) → (fuel p e : ℕ) → List ℕ
  pieces f zero p e = []
  pieces f (suc fuel) p e = pick (ltb p e) (piece p (f p) ++ pieces f fuel (p + pace p e (f p)) e) []

-- the tokens of a part
abbrev pub rewritten : (ks vs : List ℕ) → Binders → Part → List ℕ
rewritten ks vs b p = pieces ks vs (chosen ks vs b) (p.end - p.from) p.from p.end

-- ---- contracts

-- the rows are within the areas, which have as many values as kinds
pub record RowsWithin (ks vs : List ℕ) (b : Binders) : Type 0 where
  pub entries : b.entries.end ≤ length ks
  pub receivers : b.receivers.end ≤ length ks
  pub long : length vs ≡ length ks

-- n bytes can be counted from i on and, where they are written, fit
pub record Space (on : Bool) (i n size : ℕ) : Type 0 where
  pub counts : i + n < 2 ^ 64
  pub fits : on ≡ true → i + n ≤ size

-- a place is within the areas
abbrev pub Inside : List ℕ → Choice → Type 0
Inside ks Keep = Unit {0}
Inside ks (By q) = q < length ks
Inside ks Unknown = Unit {0}

-- what was chosen is what a step of `substitute_once` gives
abbrev pub Agrees : List ℕ → List ℕ → Choice → math.Option Term → Type 0
Agrees ks vs Keep o = o ≡ none
Agrees ks vs (By q) o = (u : Term) × (o ≡ some u) × Held ks vs q u
Agrees ks vs Unknown o = o ≡ some unknown

-- the parameters ps stand in the bytes
abbrev pub Named : Purpose → List Parameter → Type 0
Named Instance ps = ps ≡ []
Named (Context l) ps = (n : ℕ) × (listed l ≡ got ps n)
Named (Family l a) ps = (n : ℕ) × (listed l ≡ got ps n)

-- The areas hold the rows of a substitution with the entries es and the receivers rs, and the bytes the parameters ps.
pub record HeldBinders (ks vs : List ℕ) (b : Binders) (es : List Entry) (rs : List Receiver) (ps : List Parameter) : Type 0 where
  pub entries : HeldParts ks vs b.entries.from b.entries.end (entry_row es)
  pub receivers : HeldParts ks vs b.receivers.from b.receivers.end (receiver_row rs)
  pub parameters : Named b.purpose ps

-- the term at a place
abbrev pub written : (ks vs : List ℕ) → Binders → ℕ → List ℕ
written ks vs b a = rewritten ks vs b (record { from = a; end = a + stride ks vs a (length ks - a) })

-- The bytes x were written at a position, or counted: the position after them, and what was written.
pub record Writes (on : Bool) (out : List ℕ) (at r : ℕ) (out' : List ℕ) (x : List ℕ) : Type 0 where
  pub next : r ≡ at + length x
  pub wrote : out' ≡ pick on (sets out at x) out

-- The uses, on trees. Where the areas hold a formed term t at a place, and the binders, W holds of the bytes of t after the operation. For `apply` that is
-- where it gives a term: where the arguments are not as many as the parameters, nothing is to be written.
pub record Rewrites (ks vs : List ℕ) (b : Binders) (a : ℕ) (W : List ℕ → Type 0) : Type 0 where
  pub instantiated : (t : Term) (es : List Entry) (rs : List Receiver) → Formed t → Held ks vs a t → HeldBinders ks vs b es rs [] → is_context b.purpose ≡ false
      → W (bytes (instantiate (record { parameters = es; receivers = rs }) t))
  pub in_context : (t : Term) (es : List Entry) (rs : List Receiver) (ps : List Parameter) → Formed t → Held ks vs a t → HeldBinders ks vs b es rs ps
      → is_context b.purpose ≡ true → W (bytes (argument_context (record { parameters = es; receivers = rs }) ps t))
  pub with_self : (t : Term) (owner : ℕ) (u : Term) → Formed t → Held ks vs a t → HeldBinders ks vs b [] (record { owner = owner; term = u } ∷ []) []
      → is_context b.purpose ≡ false → W (bytes (with_self owner u t))
  pub applied : (t : Term) (es : List Entry) (rs : List Receiver) (ps : List Parameter) (ts : List Term) (l : Parameters) (i e : ℕ) (u : Term) → Formed t → Held ks vs a t
      → HeldBinders ks vs b es rs ps → HeldParts ks vs i e (argument_row ts) → b.purpose ≡ Family l i
      → apply ps t (record { parameters = es; receivers = rs }) ts ≡ some u → W (bytes u)

-- ---- the binders of each use

abbrev row : ℕ → ℕ → Part
row i e = record { from = i; end = e }

abbrev pub for_family : (entries receivers finish : ℕ) → Parameters → (arguments : ℕ) → Binders
for_family e r f l a = record { entries = row e r; receivers = row r f; purpose = Family l a }

-- no parameters
abbrev pub for_instance : (entries receivers finish : ℕ) → Binders
for_instance e r f = record { entries = row e r; receivers = row r f; purpose = Instance }

-- no receivers
abbrev pub for_context : (entries receivers : ℕ) → Parameters → Binders
for_context e r l = record { entries = row e r; receivers = row r r; purpose = Context l }
