-- Lists, searches and rewriting on small bytes and areas, by computation.
use mathlib.Core.Path.{◌≡◌, refl}
use mathlib.Core.List.{List, [], ◌∷◌, ◌++◌}
use Prim.Native.Nat.{ℕ}
use Rattle.terms.specs.Number.{groups, shortest, digits}
use Rattle.terms.specs.Parser.{got, refused}
use Rattle.terms.specs.Words.Tokens.{Item, item, spell}
use Rattle.terms.specs.Term.{Term, node, end, num, sub, items, part_items, bytes}
use Rattle.terms.specs.Words.Held.{span}
use Rattle.terms.specs.Words.TokenBytes.{plain}
use Rattle.terms.specs.Shape.{kind_of}
use Rattle.terms.specs.Reading.{code, row, kinded, term}
use Rattle.terms.specs.declared.Parameters.{Parameters}
use Rattle.terms.specs.Questions.{same_parameter}
use Rattle.terms.specs.Parameters.{parameter, parameters, listed, last_from, last_index}
use Rattle.terms.specs.Rows.{entries, entry_row, receiver_row}
use Rattle.terms.specs.Words.FindContract.{clip, last_at, nth_at}
use Rattle.terms.specs.Words.RewriteContract.{self_for, generic, generic_for, in_context_of, chosen, piece, pace, pieces, written, for_instance, for_context, for_family}
use Rattle.std.specs.Prelude.{Some, None}

abbrev i32 : Term
i32 = node 4 (num 2 end)

abbrev f64 : Term
f64 = node 4 (num 9 end)

abbrev generic' : ℕ → ℕ → Term
generic' o p = node 17 (num o (num p end))

abbrev self' : ℕ → Term
self' o = node 19 (num o end)

abbrev pair : Term → Term → Term
pair t u = node 5 (num 2 (sub t (sub u end)))

-- ---- reading

-- two parameters, (300, 0) and (1, 2): the position after them is 5; a third is missing
abbrev written_parameters : List ℕ
written_parameters = 0xac ∷ 2 ∷ 0 ∷ 1 ∷ 2 ∷ []

parameters_read : (parameters written_parameters 2 0 ≡ got (record { owner = 300; position = 0 } ∷ record { owner = 1; position = 2 } ∷ []) 5)
    × (parameters written_parameters 3 0 ≡ refused 1) × (parameters (0x80 ∷ 0 ∷ 0 ∷ []) 1 0 ≡ refused 3)
unfolding parameters parameter groups
parameters_read = (refl, refl, refl)

-- the last one counts
last_counts : (last_index (record { owner = 1; position = 0 } ∷ record { owner = 1; position = 1 } ∷ record { owner = 1; position = 0 } ∷ []) (record { owner = 1; position = 0 }) ≡ Some 2)
    × (last_index (record { owner = 1; position = 0 } ∷ []) (record { owner = 1; position = 1 }) ≡ None)
unfolding last_from same_parameter
last_counts = (refl, refl)

-- an entry (1, 0) for I32
entries_read : entries (1 ∷ 0 ∷ 4 ∷ 2 ∷ []) (term (1 ∷ 0 ∷ 4 ∷ 2 ∷ []) 0 200) 1 0 ≡ got (record { parameter = record { owner = 1; position = 0 }; term = i32 } ∷ []) 4
unfolding entries groups term code row kinded kind_of
entries_read = refl

-- ---- rewriting: the areas hold the entries (1, 0) for F64 and (1, 0) for Generic 1 1, the receiver 5 for I32, and Tuple(Generic 1 0, SelfType 5)

abbrev held : List Item
held =
    part_items (entry_row (record { parameter = record { owner = 1; position = 0 }; term = f64 } ∷ record { parameter = record { owner = 1; position = 0 }; term = generic' 1 1 } ∷ []))
    ++ (part_items (receiver_row (record { owner = 5; term = i32 } ∷ [])) ++ items (pair (generic' 1 0) (self' 5)))

kinds : List Item → List ℕ
kinds [] = []
kinds (item k v ∷ l) = k ∷ kinds l

vals : List Item → List ℕ
vals [] = []
vals (item k v ∷ l) = v ∷ vals l

-- the entries stand from 0 to 9, the receivers from there to 12, the term after them
instantiated : written (kinds held) (vals held) (for_instance 0 9 12) 12 ≡ bytes (pair (generic' 1 1) i32)
unfolding kinds vals items entry_row receiver_row bytes plain shortest digits spell clip span last_at nth_at self_for generic_for chosen piece pace pieces
instantiated = refl

-- the bytes have the parameter (1, 0)
one_parameter : parameters (1 ∷ 0 ∷ []) 1 0 ≡ got (record { owner = 1; position = 0 } ∷ []) 2
unfolding parameters parameter groups
one_parameter = refl

module _ (l : Parameters) (e : listed l ≡ got (record { owner = 1; position = 0 } ∷ []) 2) where
  -- in a context the receivers are not looked at; a parameter that has no entry becomes Unknown
  in_context : (written (kinds held) (vals held) (for_context 0 9 l) 12 ≡ bytes (pair (generic' 1 1) (self' 5)))
      × (written (kinds held) (vals held) (for_context 0 0 l) 12 ≡ bytes (pair (node 2 end) (self' 5)))
  unfolding kinds vals items entry_row receiver_row bytes plain shortest digits spell clip span last_at nth_at parameters parameter groups last_from same_parameter self_for generic_for in_context_of chosen piece pace pieces
  in_context = (refl, rw e refl)

  -- a family's argument, here the I32 at 10, comes before the entries
  applied : written (kinds held) (vals held) (for_family 0 9 12 l 10) 12 ≡ bytes (pair i32 i32)
  unfolding kinds vals items entry_row receiver_row bytes plain shortest digits spell clip span last_at nth_at parameters parameter groups last_from same_parameter self_for generic_for generic chosen piece pace pieces
  applied = rw e refl
