-- `normalize` and `with_associated_types` on small terms, by computation: the limits of depth and visits, which replacement comes first, the order of the
-- visits.
use mathlib.Core.Path.{◌≡◌, refl}
use mathlib.Core.List.{[], ◌∷◌}
use Prim.Native.Nat.{ℕ, zero, suc}
use Rattle.terms.specs.Term.{Term, node, end, num, sub}
use Rattle.terms.specs.Tree.{error, nums, subs, fill, children, with_kids, row, tag, nominal_slot, projection_slot, class, slot_by, same, same_terms, same_numbers, Nominal, same_nominal, look_up, interface_of, receiver_of, member_of, arguments_of, put_terms, put_members, projection}
use Rattle.terms.specs.Questions.{meets, counted_by, entered_by}
use Rattle.terms.specs.Normal.{visit_kids, member_from, trait_member, own_member, replacement, walk_by, walk, Rule, matches, by_rules, by_interface, normalize, with_associated_types}

abbrev i32 : Term
i32 = node 4 (num 2 end)

abbrev f64 : Term
f64 = node 4 (num 9 end)

abbrev arrays : ℕ → Term → Term
arrays zero t = t
arrays (suc n) t = node 9 (sub (arrays n t) end)

-- a projection of the member 4 of the interface 7
abbrev proj : Term → Term
proj r = node 18 (sub r (num 7 (num 0 (num 0 (num 4 (num 0 end))))))

-- ---- depth

-- a projection under 63 Arrays keeps receiver I32: 63 + 2 visits and 64 children; under 64 it gets Error there
depths : (normalize [] (arrays 63 (proj i32)) ≡ record { term = arrays 63 (proj i32); visits = 8127; count = 64 })
    × (normalize [] (arrays 64 (proj i32)) ≡ record { term = arrays 64 (proj error); visits = 8127; count = 65 })
unfolding nums subs fill children with_kids row tag nominal_slot projection_slot class slot_by same look_up interface_of receiver_of member_of arguments_of visit_kids member_from trait_member own_member replacement walk_by meets counted_by entered_by by_rules
depths = (refl, refl)

-- ---- rules

-- the interface 7, bare
abbrev bare : Nominal
bare = record { declaration = 7; arguments = []; members = []; values = [] }

-- the projection of I32 is Array of the projection of F64, which is F64
abbrev to_f64 : Rule
to_f64 = record { interface = bare; receiver = i32; member = 4; arguments = []; value = arrays 1 (proj f64) }

abbrev of_f64 : Rule
of_f64 = record { interface = bare; receiver = f64; member = 4; arguments = []; value = f64 }

-- the projection of I32 is itself
abbrev itself : Rule
itself = record { interface = bare; receiver = i32; member = 4; arguments = []; value = proj i32 }

-- a Trait whose member 4 is F64
abbrev trait : Term
trait = node 15 (num 8 (num 0 (num 1 (num 4 (sub f64 end)))))

-- a projection of it whose interface has a member 4 of its own, and one more with an argument
abbrev owned : Term
owned = node 18 (sub trait (num 7 (num 0 (num 1 (num 4 (sub i32 (num 4 (num 0 end))))))))

abbrev argued : Term
argued = node 18 (sub trait (num 7 (num 0 (num 1 (num 4 (sub i32 (num 4 (num 1 (sub f64 end)))))))))

-- Rules fire again on what they give; a value that is the projection itself gives Error; the interface's own member comes first, then a Trait
-- receiver's own, and with an argument neither is tried.
rules : ((normalize (to_f64 ∷ of_f64 ∷ []) (proj i32)).term ≡ arrays 1 f64) × ((normalize (itself ∷ to_f64 ∷ []) (proj i32)).term ≡ error)
    × ((normalize (to_f64 ∷ []) owned).term ≡ i32) × ((normalize (to_f64 ∷ []) (proj trait)).term ≡ f64) × ((normalize [] argued).term ≡ argued)
unfolding nums subs fill children with_kids row tag nominal_slot projection_slot class slot_by same same_terms same_numbers same_nominal look_up interface_of receiver_of member_of arguments_of visit_kids member_from trait_member own_member replacement walk_by meets counted_by entered_by matches by_rules
rules = (refl, refl, refl, refl, refl)

-- ---- the order of the visits, by letting them run out

-- a projection with a receiver, an interface argument, an interface member and an argument
abbrev four : Term → Term → Term → Term → Term
four r ia im a = node 18 (sub r (num 7 (num 1 (sub ia (num 1 (num 5 (sub im (num 4 (num 1 (sub a end))))))))))

-- a Struct with two arguments and a member
abbrev struct : Term → Term → Term → Term
struct a b m = node 13 (num 3 (num 2 (sub a (sub b (num 1 (num 9 (sub m end)))))))

-- a projection's argument, receiver, interface member, interface argument; a nominal's members before its arguments
orders : ((walk (by_rules []) 65 (four i32 i32 i32 i32) 4 0).term ≡ four i32 error i32 i32) × ((walk (by_rules []) 65 (four i32 i32 i32 i32) 3 0).term ≡ four i32 error error i32)
    × ((walk (by_rules []) 65 (four i32 i32 i32 i32) 2 0).term ≡ four error error error i32) × ((walk (by_rules []) 65 (struct i32 i32 i32) 2 0).term ≡ struct error error i32)
unfolding nums subs fill children with_kids row tag nominal_slot projection_slot class slot_by same same_terms same_numbers same_nominal look_up interface_of receiver_of member_of arguments_of visit_kids member_from trait_member own_member replacement walk_by matches by_rules
orders = (refl, refl, refl, refl)

-- ---- order 19

-- the interface 7 with the member 5
abbrev given : Nominal
given = record { declaration = 7; arguments = []; members = 5 ∷ []; values = f64 ∷ [] }

-- it takes the bare one's place; a known member is resolved; another owner changes nothing
associated : ((with_associated_types (proj i32) given i32).term ≡ node 18 (sub i32 (num 7 (num 0 (num 1 (num 5 (sub f64 (num 4 (num 0 end)))))))))
    × ((with_associated_types (node 18 (sub i32 (num 7 (num 0 (num 0 (num 5 (num 0 end))))))) given i32).term ≡ f64)
    × ((with_associated_types (proj i32) given f64).term ≡ proj i32)
unfolding nums subs fill children with_kids row tag nominal_slot projection_slot class slot_by same same_terms same_numbers same_nominal look_up interface_of receiver_of member_of arguments_of put_terms put_members projection visit_kids member_from trait_member own_member replacement walk_by meets counted_by entered_by by_interface
associated = (refl, refl, refl)
