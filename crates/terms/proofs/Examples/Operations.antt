-- The operations on small terms, by computation: document 01's marked lines and slips, and corners of the Rust.
use mathlib.Core.Path.{◌≡◌, refl}
use mathlib.Core.Logic.{inl, inr}
use mathlib.Core.Bool.{true, false}
use mathlib.Core.List.{[], ◌∷◌}
use mathlib.Core.Option.{none, some}
use Prim.Native.Nat.{ℕ}
use Rattle.terms.specs.Term.{Term, var, node, end, num, sub}
use Rattle.terms.specs.Tree.{unknown, error, nums, subs, row, tag, same, same_terms, same_numbers, Nominal, look_up, nominal_of, interface_of, receiver_of, member_of, arguments_of}
use Rattle.terms.specs.Questions.{meets, AmongEntered, OneCounts, Parameter, same_parameter, contains, first, second, among, counted_by, counted, entered_by, entered, is_never, is_integer, is_concrete, is_unresolved, contains_unknown, contains_self_type, contains_projection, is_resolved_in}
use Rattle.terms.specs.Comparison.{conflicts_with, collection_access, read_only_view, can_weaken_to, every, has, bounded, satisfies, reflexive, satisfies_for}
use Rattle.terms.specs.Substitution.{substitute_once, Entry, TypeSubstitution, get, receiver, instantiated, instantiate, contextual, argument_context, self_of, with_self, zipped, apply}
use Rattle.terms.specs.Recovery.{parts, reach, nominal_reach, recover_from}
use Rattle.terms.proofs.Laws.General.Bools.{never_true}
use Rattle.terms.proofs.Laws.Asking.FoundLaws.{finds}

abbrev i32 : Term
i32 = node 4 (num 2 end)

abbrev f64 : Term
f64 = node 4 (num 9 end)

-- a Set of I32 with an access: 0 ReadOnly, 1 Mutable
abbrev set : ℕ → Term
set a = node 11 (num a (sub i32 end))

abbrev array : Term → Term
array t = node 9 (sub t end)

abbrev pair : Term → Term → Term
pair t u = node 5 (num 2 (sub t (sub u end)))

-- a projection of the member 4 of the interface 7
abbrev proj : Term → Term
proj r = node 18 (sub r (num 7 (num 0 (num 0 (num 4 (num 0 end))))))

-- Generic with an owner and a position, SelfType of an owner
abbrev generic : ℕ → ℕ → Term
generic o p = node 17 (num o (num p end))

abbrev self : ℕ → Term
self o = node 19 (num o end)

-- a Struct with a declaration, one argument and one member
abbrev struct : ℕ → Term → ℕ → Term → Term
struct d t m u = node 13 (num d (num 1 (sub t (num 1 (num m (sub u end))))))

-- ---- marked for the proved table

-- ReadOnly and Mutable Set of I32 conflict; Mutable weakens to ReadOnly, not back
accesses : (conflicts_with (set 0) (set 1) ≡ true) × (can_weaken_to (set 1) (set 0) ≡ true) × (can_weaken_to (set 0) (set 1) ≡ false)
unfolding conflicts_with same nums row tag first among collection_access read_only_view can_weaken_to
accesses = (refl, refl, refl)

-- a projection with receiver Unknown is unresolved, but `contains_unknown` is 0
unknown_receiver : (is_unresolved (proj unknown) ≡ true) × (contains_unknown (proj unknown) ≡ false)
unfolding meets counted_by entered_by nums row tag first second among
unknown_receiver = (refl, refl)

-- ---- the questions

questions : (is_never (node 4 (num 10 end)) ≡ true) × (is_never (array (node 4 (num 10 end))) ≡ false) × (is_integer i32 ≡ true) × (is_integer f64 ≡ false)
    × (is_concrete (pair i32 f64) ≡ true) × (is_concrete (pair i32 (generic 1 0)) ≡ false) × (is_concrete (proj i32) ≡ false)
    × (contains_unknown (pair i32 error) ≡ false) × (contains_unknown (pair i32 (var 3)) ≡ true)
    × (contains_self_type (proj (self 5)) ≡ true) × (contains_projection (array (proj i32)) ≡ true)
unfolding meets counted_by entered_by nums row tag first second among
questions = (refl, refl, refl, refl, refl, refl, refl, refl, refl, refl, refl)

abbrev one : Parameter
one = record { owner = 1; position = 0 }

-- a binder of the caller's is known; a projection of one is too, but not without parameters
resolved : (is_resolved_in (one ∷ []) (generic 1 0) ≡ true) × (is_resolved_in (one ∷ []) (generic 1 1) ≡ false)
    × (is_resolved_in (one ∷ []) (proj (generic 1 0)) ≡ true) × (is_resolved_in [] (proj i32) ≡ false) × (is_resolved_in (one ∷ []) (self 1) ≡ false)
unfolding meets counted_by entered_by nums row tag first second among same_parameter contains
resolved = (refl, refl, refl, refl, refl)

-- ---- what the walk finds

abbrev never : Term
never = node 4 (num 10 end)

-- The receiver is found for `is_unresolved`; for `contains_unknown` nothing is, as a projection is not entered.
receiver_found : OneCounts (counted [] 3) (entered 3) (proj unknown) × (OneCounts (counted [] 4) (entered 4) (proj unknown) → ⊥)
unfolding meets AmongEntered counted_by entered_by nums row tag first second among
receiver_found = ((unknown, inr (refl, inl (inl refl)), refl), λ r. never_true ((finds [] 4 (proj unknown)).1 r))

-- what stands beside a projection is found
beside_found : OneCounts (counted [] 4) (entered 4) (pair (proj unknown) (var 3))
unfolding AmongEntered counted_by entered_by nums row tag first second among
beside_found = (var 3, inr (refl, inr (inl refl)), refl)

-- the term itself is found, also where none is entered; then nothing in it is
itself_found : OneCounts (counted [] 0) (entered 0) never × (is_never never ≡ true) × (OneCounts (counted [] 0) (entered 0) (array never) → ⊥)
unfolding meets AmongEntered counted_by entered_by nums row tag first second among
itself_found = ((never, inl refl, refl), refl, λ r. never_true ((finds [] 0 (array never)).1 r))

-- a Generic of the caller's is not found, another one is
generic_found : (OneCounts (counted (one ∷ []) 7) (entered 7) (array (generic 1 0)) → ⊥) × OneCounts (counted (one ∷ []) 7) (entered 7) (array (generic 1 1))
unfolding meets AmongEntered counted_by entered_by nums row tag first second among same_parameter contains
generic_found = (λ r. never_true ((finds (one ∷ []) 7 (array (generic 1 0))).1 r), (generic 1 1, inr (refl, inl (inl refl)), refl))

-- ---- comparing

conflicts : (conflicts_with (pair i32 unknown) (pair i32 f64) ≡ false) × (conflicts_with (pair i32 i32) (pair i32 f64) ≡ true)
    × (conflicts_with (proj unknown) (proj i32) ≡ true) × (conflicts_with (var 0) i32 ≡ false)
    × (conflicts_with (node 5 (num 1 (sub unknown end))) (pair unknown unknown) ≡ true)
    × (can_weaken_to (node 0 (num 1 (sub i32 end))) (node 0 (num 0 (sub unknown end))) ≡ true)
    × (can_weaken_to (node 0 (num 1 (sub (set 1) end))) (node 0 (num 0 (sub (set 0) end))) ≡ false)
    × (can_weaken_to (set 1) (node 10 (num 0 (sub i32 (sub i32 end)))) ≡ false)
unfolding conflicts_with same nums row tag first among collection_access read_only_view can_weaken_to
conflicts = (refl, refl, refl, refl, refl, refl, refl, refl)

-- interface 7 with the member 4 given, or not
abbrev given : Nominal
given = record { declaration = 7; arguments = []; members = 4 ∷ []; values = i32 ∷ [] }

abbrev bare : Nominal
bare = record { declaration = 7; arguments = []; members = []; values = [] }

abbrev projected : Nominal
projected = record { declaration = 7; arguments = []; members = 4 ∷ []; values = proj f64 ∷ [] }

bounds : (satisfies given bare ≡ true) × (satisfies bare given ≡ false) × (satisfies bare projected ≡ false)
    × (satisfies_for bare projected f64 ≡ true) × (satisfies_for bare projected i32 ≡ false)
unfolding bounded every has look_up same same_terms reflexive nums subs row tag interface_of receiver_of member_of arguments_of
bounds = (refl, refl, refl, refl, refl)

-- ---- substitution

abbrev entry : ℕ → Term → Entry
entry p t = record { parameter = record { owner = 1; position = p }; term = t }

-- parameters 0 and 1 swapped, and then 0 once more; Self of 5 is Array(Generic 1 0)
abbrev swap : TypeSubstitution
swap = record { parameters = entry 0 (generic 1 1) ∷ entry 1 (generic 1 0) ∷ []; receivers = record { owner = 5; term = array (generic 1 0) } ∷ [] }

abbrev later : TypeSubstitution
later = record { parameters = entry 0 f64 ∷ entry 0 i32 ∷ []; receivers = [] }

-- an inserted term is not substituted again; a later entry replaces an earlier one
substitutions : (instantiate swap (pair (generic 1 0) (generic 1 1)) ≡ pair (generic 1 1) (generic 1 0))
    × (instantiate swap (self 5) ≡ array (generic 1 0)) × (instantiate swap (self 6) ≡ self 6) × (instantiate later (generic 1 0) ≡ i32)
    × (argument_context swap (record { owner = 1; position = 2 } ∷ []) (pair (generic 1 2) (generic 1 0)) ≡ pair unknown (generic 1 1))
    × (argument_context swap [] (pair (self 5) (generic 1 2)) ≡ pair (self 5) (generic 1 2))
    × (with_self 5 (self 5) (pair (self 5) (self 6)) ≡ pair (self 5) (self 6))
    × (apply (one ∷ []) (generic 1 0) later (f64 ∷ []) ≡ some f64) × (apply (one ∷ []) (generic 1 0) later [] ≡ none)
unfolding substitute_once instantiated contextual self_of zipped apply get receiver nums row tag first second same_parameter contains
substitutions = (refl, refl, refl, refl, refl, refl, refl, refl, refl)

-- ---- recovery

-- access is ignored; members that differ leave the arguments recovered; Inference is never replaced
recoveries : (recover_from (pair unknown i32) (pair f64 f64) ≡ pair f64 i32) × (recover_from (pair unknown i32) (pair error f64) ≡ pair unknown i32)
    × (recover_from (var 0) i32 ≡ var 0) × (recover_from unknown (var 0) ≡ var 0)
    × (recover_from (node 11 (num 0 (sub unknown end))) (set 1) ≡ set 0)
    × (recover_from (struct 3 unknown 8 unknown) (struct 3 i32 9 i32) ≡ struct 3 i32 8 unknown)
    × (recover_from (struct 3 unknown 8 unknown) (struct 3 i32 8 i32) ≡ struct 3 i32 8 i32)
    × (recover_from (proj unknown) (proj i32) ≡ proj unknown)
unfolding recover_from parts reach nominal_reach nums subs row tag first second among same_numbers nominal_of
recoveries = (refl, refl, refl, refl, refl, refl, refl, refl)
