-- How the fields of an order are laid out: their sorts as the code has them, their tokens, and the spots that tell where they stand.
use Rattle.std.specs.Prelude.{Bool, true, false, ◌&&◌, List, [], ◌∷◌, ◌++◌, ◌≡◌, ℕ, zero, suc, ◌+◌, ◌-◌, ◌*◌, ◌^◌, ◌≤◌, ◌<◌, eqb, length, take, set}
use Rattle.std.proofs.Math.Option.{Option}
use Rattle.solver.specs.TermTypes.{Place, Rule, Listing, Arguments, Receivers, Entries, Step, Next, Stopped}
use Rattle.solver.specs.Terms.Parser.{Parser, Result, got, refused, pick, ◌>>=◌, return, number}
use Rattle.solver.specs.Terms.Tokens.{Item, Area, puts, blank}
use Rattle.solver.specs.Terms.Term.{node, items, part_items}
use Rattle.solver.specs.Terms.Rows as rows
use Rattle.solver.specs.Terms.Shape as shape
use Rattle.solver.specs.Terms.Shape.{ceiling}
use Rattle.solver.specs.Terms.Rows.{entry_row, receiver_row, argument_row}
use Rattle.solver.specs.Terms.Parameters.{parameters}
use Rattle.solver.specs.Terms.Lookup.{Pattern}
use Rattle.solver.specs.Terms.ReadContract.{Only}
use Rattle.solver.specs.Families.{Bound}
use Rattle.sheet.specs.declared.FieldSpot.{FieldSpot}
use Rattle.sheet.specs.declared.FieldSpots.{FieldSpots}
use Rattle.sheet.specs.declared.Sort.{Sort}
use Rattle.sheet.specs.declared.Sort.TheVariants as sorts
use Rattle.sheet.specs.Fields as fields
use Rattle.sheet.specs.Fields.{FieldSort, Field, signed, value, bounded, tree, bare, entered, received, named, listed, ruled, nodes, all_nodes, rule_nodes, nth}

-- ---- the sorts as the code has them

unfoldable pub sort_of : Sort → FieldSort
sort_of sorts.Number = fields.ordinary
sort_of sorts.Code = fields.code
sort_of sorts.Bound = fields.bound
sort_of sorts.Term = fields.term
sort_of sorts.Nominal = fields.nominal
sort_of sorts.Receiver = fields.receiver
sort_of sorts.Entries = fields.entries
sort_of sorts.Receivers = fields.receivers
sort_of sorts.Parameters = fields.parameters
sort_of sorts.Arguments = fields.arguments
sort_of sorts.Rules = fields.rules

-- what is read where rules are not: these are taken for receivers
unfoldable pub plain_of : Sort → FieldSort
plain_of sorts.Rules = fields.receivers
plain_of a = sort_of a

-- a layout, by what each sort is read as; and as it stands
abbrev pub sorts_by : (Sort → FieldSort) → List Sort → List FieldSort
sorts_by f [] = []
sorts_by f (a ∷ l) = f a ∷ sorts_by f l

abbrev pub sorts_of : List Sort → List FieldSort
sorts_of = sorts_by sort_of

-- numbers and codes; those alone among the first n fields
unfoldable pub is_number : FieldSort → Bool
is_number fields.ordinary = true
is_number fields.code = true
is_number a = false

unfoldable pub numeric : ℕ → List FieldSort → Bool
numeric zero l = true
numeric (suc n) [] = true
numeric (suc n) (a ∷ l) = is_number a && numeric n l

-- numbers, codes and bounds: the sorts without tokens, parameters aside; a layout of those alone
unfoldable pub is_tokenless : FieldSort → Bool
is_tokenless fields.bound = true
is_tokenless a = is_number a

unfoldable pub tokenless : List FieldSort → Bool
tokenless [] = true
tokenless (a ∷ l) = is_tokenless a && tokenless l

-- a sort other than rules; rules stand first where they stand
unfoldable pub Plain : FieldSort → Type 0
Plain fields.ordinary = Unit {0}
Plain fields.receiver = Unit {0}
Plain fields.code = Unit {0}
Plain fields.bound = Unit {0}
Plain fields.term = Unit {0}
Plain fields.nominal = Unit {0}
Plain fields.entries = Unit {0}
Plain fields.receivers = Unit {0}
Plain fields.parameters = Unit {0}
Plain fields.arguments = Unit {0}
Plain fields.rules = ⊥

unfoldable pub Plains : List FieldSort → Type 0
Plains [] = Unit {0}
Plains (a ∷ l) = Plain a × Plains l

unfoldable pub Leading : List FieldSort → Type 0
Leading [] = Unit {0}
Leading (a ∷ l) = Plains l

-- a layout has five fields at most
pub record IsLayout (l : List FieldSort) : Type 0 where
  pub few : length l ≤ 5
  pub leading : Leading l

-- a rule's parts are fields
abbrev pub rule_sorts : List FieldSort
rule_sorts = fields.nominal ∷ fields.term ∷ fields.ordinary ∷ fields.arguments ∷ fields.term ∷ []

abbrev pub rule_fields : Pattern → List Field
rule_fields p = bare p.interface ∷ tree p.receiver ∷ value p.member ∷ listed p.arguments ∷ tree p.value ∷ []

-- the list that a sort has
abbrev pub listing_of : Sort → Listing
listing_of sorts.Entries = Entries
listing_of sorts.Arguments = Arguments
listing_of a = Receivers

-- the fields whose tokens are stored, by their sort: of a list so many; a receiver is a list of one
module _ (s : List ℕ) (issued : ℕ) where
  unfoldable pub part_of : Sort → ℕ → Parser Field
  part_of sorts.Term n = fields.field s issued fields.term
  part_of sorts.Nominal n = fields.field s issued fields.nominal
  part_of sorts.Entries n = rows.entries s (fields.term_field s issued) n >>= λ es. return (entered es)
  part_of sorts.Arguments n = rows.arguments s (fields.term_field s issued) n >>= λ ts. return (listed ts)
  part_of a n = rows.receivers s (fields.term_field s issued) n >>= λ rs. return (received rs)

-- ---- tokens

unfoldable pub rule_items : List Pattern → List Item
rule_items [] = []
rule_items (p ∷ rs) =
    (items (node 20 p.interface) ++ (items p.receiver ++ (part_items (argument_row p.arguments) ++ (items p.value ++ [])))) ++ rule_items rs

unfoldable pub field_items : Field → List Item
field_items (value n) = []
field_items (bounded b n) = []
field_items (tree t) = items t
field_items (bare ps) = items (node 20 ps)
field_items (entered es) = part_items (entry_row es)
field_items (received rs) = part_items (receiver_row rs)
field_items (named ps) = []
field_items (listed ts) = part_items (argument_row ts)
field_items (ruled rs) = rule_items rs

unfoldable pub all_items : List Field → List Item
all_items [] = []
all_items (f ∷ fs) = field_items f ++ all_items fs

-- the tokens of a field that no node pays
unfoldable pub spare : FieldSort → ℕ
spare fields.ordinary = 0
spare fields.receiver = 0
spare fields.code = 0
spare fields.bound = 0
spare fields.term = 0
spare fields.nominal = 4
spare fields.entries = 0
spare fields.receivers = 0
spare fields.parameters = 0
spare fields.arguments = 0
spare fields.rules = 0

unfoldable pub spares : List FieldSort → ℕ
spares [] = 0
spares (a ∷ l) = spare a + spares l

-- ---- places

-- the place at another position
abbrev pub moved : Place → ℕ → Place
moved p at = record { at = at; top = p.top; nodes = p.nodes; limit = p.limit }

-- from n on the areas hold nothing: clearing changes nothing
abbrev pub Free : ℕ → Area → Type 0
Free n d = (k : ℕ) → blank d n k ≡ d

-- Tokens with n nodes were read from the place p up to q. Where the nodes are within the limit the areas e are d with the tokens stored; in any case
-- nothing else changed, and nothing is held after them.
pub record Stored (p q : Place) (d e : Area) (ws : List Item) (n : ℕ) : Type 0 where
  pub whole : q.nodes ≤ p.limit → e ≡ puts d p.top ws
  pub only : Only p.top (length ws) d e
  pub free : Free q.top e
  pub limit : q.limit ≡ p.limit
  pub tokens : q.top ≡ p.top + length ws
  pub counts : q.nodes ≡ p.nodes + n

-- the position is within the bytes, and for each byte left there are two numbers of 32 bits for tokens and one for a node
pub record Ample (s : List ℕ) (p : Place) : Type 0 where
  pub inside : p.at ≤ length s
  pub tokens : p.top + 2 * (length s - p.at) + 1 < 2 ^ 32
  pub counts : p.nodes + (length s - p.at) + 1 < 2 ^ 32

-- ---- spots

-- the rule whose tokens begin at a
abbrev pub placed_rule : ℕ → Pattern → Rule
placed_rule a p = record {
  interface = a;
  receiver = a + length (items (node 20 p.interface));
  member = p.member;
  arguments = a + length (items (node 20 p.interface)) + length (items p.receiver);
  count = length p.arguments;
  value = a + length (items (node 20 p.interface)) + length (items p.receiver) + length (part_items (argument_row p.arguments));
}

-- a rule from the spots of its five fields, and that its numbers have 32 bits
abbrev pub rule_from : FieldSpots → Rule
rule_from o = record {
  interface = o.first.place;
  receiver = o.second.place;
  member = o.third.value;
  arguments = o.fourth.place;
  count = o.fourth.value;
  value = o.fifth.place;
}

pub record WordsFit (o : FieldSpots) : Type 0 where
  pub first : o.first.place < 4294967296
  pub second : o.second.place < 4294967296
  pub third : o.third.value < 4294967296
  pub fourth : o.fourth.place < 4294967296
  pub count : o.fourth.value < 4294967296
  pub fifth : o.fifth.place < 4294967296

-- rules one after the other, whose tokens begin at a
unfoldable pub placed_rules : ℕ → List Pattern → List Rule
placed_rules a [] = []
placed_rules a (p ∷ rs) = placed_rule a p ∷ placed_rules (a + length (rule_items (p ∷ []))) rs

-- what a spot says of a bound
abbrev pub spot_bound : FieldSpot → Option Bound
spot_bound x = signed x.place x.value

-- the spot of a field whose tokens begin at a; ws are the rules stored
abbrev pub SpotOf : (s : List ℕ) (ws : List Rule) → ℕ → FieldSpot → Field → Type 0
SpotOf s ws a x (value n) = x.value ≡ n
SpotOf s ws a x (bounded b n) = (x.value ≡ n) × (x.place ≡ b)
SpotOf s ws a x (tree t) = x.place ≡ a
SpotOf s ws a x (bare ps) = x.place ≡ a
SpotOf s ws a x (entered es) = (x.value ≡ length es) × (x.place ≡ a) × (x.end ≡ a + length (part_items (entry_row es)))
SpotOf s ws a x (received rs) = (x.value ≡ length rs) × (x.place ≡ a) × (x.end ≡ a + length (part_items (receiver_row rs)))
SpotOf s ws a x (named ps) = (x.value ≡ length ps) × ((after : ℕ) × (parameters s x.value x.place ≡ got ps after))
SpotOf s ws a x (listed ts) = (x.value ≡ length ts) × (x.place ≡ a) × (x.end ≡ a + length (part_items (argument_row ts)))
SpotOf s ws a x (ruled rs) = (x.value ≡ length rs) × (length rs ≤ length ws → take (length rs) ws ≡ placed_rules a rs)

-- the spot of the i-th field, and the spots with another there
unfoldable pub spot_at : ℕ → FieldSpots → FieldSpot
spot_at zero o = o.first
spot_at (suc zero) o = o.second
spot_at (suc (suc zero)) o = o.third
spot_at (suc (suc (suc zero))) o = o.fourth
spot_at (suc (suc (suc (suc i)))) o = o.fifth

abbrev pub put_spot : ℕ → FieldSpot → FieldSpots → FieldSpots
put_spot i x o = record {
  first = pick (eqb i 0) x o.first;
  second = pick (eqb i 1) x o.second;
  third = pick (eqb i 2) x o.third;
  fourth = pick (eqb i 3) x o.fourth;
  fifth = pick (eqb i 4) x o.fifth;
}

abbrev pub no_spot : FieldSpot
no_spot = record { value = 0; place = 0; end = 0 }

-- no field yet
abbrev pub no_fields : FieldSpots
no_fields = record { first = no_spot; second = no_spot; third = no_spot; fourth = no_spot; fifth = no_spot }

-- where the tokens of the i-th field begin, where those of the first do at a
unfoldable pub start_at : ℕ → ℕ → List Field → ℕ
start_at a i [] = a
start_at a zero (f ∷ fs) = a
start_at a (suc i) (f ∷ fs) = start_at (a + length (field_items f)) i fs

abbrev pub Spots : (s : List ℕ) (ws : List Rule) → ℕ → FieldSpots → List Field → Type 0
Spots s ws a o fs = (i : ℕ) → i < 5 → SpotOf s ws (start_at a i fs) (spot_at i o) (nth i fs)

-- the fields of a layout, all read and stored, and their spots
pub record FieldsHere (s : List ℕ) (ws : List Rule) (found : Result (List Field)) (p : Place) (d e : Area) (o : FieldSpots) (q : Place) : Type 0 where
  pub read : List Field
  pub is : found ≡ got read q.at
  pub stored : Stored p q d e (all_items read) (all_nodes read)
  pub inside : q.at ≤ length s
  pub spots : Spots s ws p.top o read

-- ---- what the reading functions answer and leave: d are the areas at entry and e at exit

-- tokens that are a field's
abbrev pub PartDone : (s : List ℕ) (ws : List Rule) (count : ℕ) (found : Result Field) (p : Place) (d e : Area) → Step → Type 0
PartDone s ws count found p d e (Next q) =
    (f : Field) × (found ≡ got f q.at) × Stored p q d e (field_items f) (nodes f) × (q.at ≤ length s) × SpotOf s ws p.top (record { value = count; place = p.top; end = q.top }) f
PartDone s ws count found p d e (Stopped c) = (found ≡ refused c) × (e ≡ d)

-- a field that was read and the place after it, or the refusal
pub data FieldRead : Type 0 where
  Spotted : FieldSpot → Place → FieldRead
  Unread : ℕ → FieldRead

abbrev pub FieldDone : (s : List ℕ) (ws : List Rule) (found : Result Field) (p : Place) (d e : Area) → FieldRead → Type 0
FieldDone s ws found p d e (Spotted x q) =
    (f : Field) × (found ≡ got f q.at) × Stored p q d e (field_items f) (nodes f) × (q.at ≤ length s) × SpotOf s ws p.top x f
FieldDone s ws found p d e (Unread c) = (found ≡ refused c) × (e ≡ d)

-- a field without tokens, and any but rules: whatever the areas, or the rules stored, are
abbrev pub ReadOnly : (s : List ℕ) (found : Result Field) (p : Place) → FieldRead → Type 0
ReadOnly s found p r = (ws : List Rule) (d : Area) → Free p.top d → FieldDone s ws found p d d r

abbrev pub PlainDone : (s : List ℕ) (found : Result Field) (p : Place) (d e : Area) → FieldRead → Type 0
PlainDone s found p d e r = (ws : List Rule) → FieldDone s ws found p d e r

-- a number as a field
abbrev pub value_field : (s : List ℕ) (most : ℕ) → Parser Field
value_field s most = number s most >>= λ n. return (value n)

-- a list as a field: its count, and then so many
abbrev pub list_field : (s : List ℕ) (issued : ℕ) → Sort → Parser Field
list_field s issued a = number s (ceiling shape.ordinary) >>= λ n. part_of s issued a n

-- a rule, and rules: ws are those stored at entry, us at exit
abbrev pub RuleDone : (found : Result Pattern) (s : List ℕ) (p : Place) (d e : Area) (r : ℕ) (ws us : List Rule) → Step → Type 0
RuleDone found s p d e r ws us (Next q) =
    (x : Pattern) × (found ≡ got x q.at) × Stored p q d e (all_items (rule_fields x)) (all_nodes (rule_fields x)) × (q.at ≤ length s) × (us ≡ set ws r (placed_rule p.top x))
RuleDone found s p d e r ws us (Stopped c) = (found ≡ refused c) × (e ≡ d)

abbrev pub RulesDone : (found : Result (List Pattern)) (s : List ℕ) (p : Place) (d e : Area) (n : ℕ) (us : List Rule) → Step → Type 0
RulesDone found s p d e n us (Next q) =
    (rs : List Pattern) × (found ≡ got rs q.at) × Stored p q d e (rule_items rs) (rule_nodes rs) × (q.at ≤ length s) × (length rs ≡ n) × (length rs ≤ length us → take (length rs) us ≡ placed_rules p.top rs)
RulesDone found s p d e n us (Stopped c) = (found ≡ refused c) × (e ≡ d)
