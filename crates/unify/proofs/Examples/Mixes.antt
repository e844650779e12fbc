-- Sessions of Kagari's terms that mix both equalities: strict pairs (true) and pairs up to Set and Map access (false). And why the half that a mix keeps
-- asks for equality of terms: it is false of assignments that agree up to access alone.
use mathlib.Core.Path.{◌≡◌, refl}
use mathlib.Core.Bool.{Bool, true, false}
use mathlib.Core.List.{List, [], ◌∷◌}
use Prim.Native.Nat.{ℕ, zero, suc, ◌<◌}
use native.Mathlib.Decide.{ℕ_discrete, dec_lt}
use native.Mathlib.Omega.{arith}
use Rattle.unify.specs.Term.{Term, var, map, Sim, sub, in?, same?, clash}
use Rattle.unify.specs.Solver.{put, admit, join, joined, allow, any_soft, zip_on}
use Rattle.unify.specs.Expansion.{resolve, expand}
use Rattle.unify.specs.Meaning.{True}
use Rattle.unify.specs.Orders.{settle, issued?}
use Rattle.unify.specs.Table.{answer, walk, tie₁, tie₀, tie, part₁, part, differ, match, turn, settles}
use Rattle.unify.specs.Session.{variable, pair, resolving, Reply, term, verdict, verdict_of, variable_at, if_issued, reply, serve_variable, lift, serve_pair, obey}
use Rattle.unify.specs.Mixes.{By, EachBy, Mixing, also, noted, obey_by, reply_by, mix, mix_begin, AllAllowedBy, MixPremises, Half}
use Rattle.unify.proofs.MixLaws.{mixed_half}
use Rattle.unify.proofs.Examples.Kagari.{Head, head_discrete, list_discrete, kagari, kagari_soft, kagari_rigid, kagari_admits, kagari_meet, floating, in_family, loose, loose_respects, exact, exact_respects, fallback, never_head, I32, set_of}

abbrev notion : Bool → Head → Head
notion true = exact
notion false = loose

notion_respects : (b : Bool) (f : ℕ) (h k : Head) → notion b h ≡ notion b k → kagari_admits f h ≡ kagari_admits f k
notion_respects true = exact_respects
notion_respects false = loose_respects

abbrev M : Type 0
M = Mixing kagari fallback never_head Bool notion

abbrev Orders : Type 0
Orders = List (By kagari Bool)

abbrev led : Orders → M
led cs = mix kagari fallback never_head Bool notion (mix_begin kagari fallback never_head Bool notion) cs

pub kagari_mixed_half : (cs : Orders) → AllAllowedBy kagari fallback never_head Bool notion (mix_begin kagari fallback never_head Bool notion) cs
    → MixPremises kagari fallback never_head Bool notion (led cs) → Half kagari fallback never_head Bool notion (led cs)
kagari_mixed_half = mixed_half kagari fallback never_head Bool notion notion_respects

answers : M → Orders → List (Reply kagari)
answers x [] = []
answers x (c ∷ cs) = reply_by kagari fallback never_head Bool notion x c ∷ answers (obey_by kagari fallback never_head Bool notion x c) cs

abbrev read_only : Term Head
read_only = set_of 0 I32

abbrev mutable : Term Head
mutable = set_of 1 I32

abbrev loosely : Term Head → Term Head → By kagari Bool
loosely t u = (false, pair 9 t u)

abbrev strictly : Term Head → Term Head → By kagari Bool
strictly t u = (true, pair 9 t u)

-- ?0 is bound to a ReadOnly Set; it meets a Mutable one up to access, and not strictly; the binding keeps its access
abbrev mixed : Orders
mixed = (false, variable 0 0) ∷ loosely (var 0) read_only ∷ loosely (var 0) mutable ∷ strictly (var 0) mutable ∷ strictly (var 0) read_only ∷ (false, resolving (var 0)) ∷ []

-- one strict pair
abbrev strict : Orders
strict = (false, variable 0 0) ∷ strictly (var 0) read_only ∷ []

-- the half, said of who agrees up to one of the equalities
abbrev UpToAccess : M → Type 0
UpToAccess x = x.run.wrong ≡ false → (θ : ℕ → Term Head) → True kagari θ x.run.asked
    → ((v : ℕ) → v < x.run.count → (b : Bool) × Sim (notion b) (θ v) (sub θ (answer kagari x.run.state.table (var v)))) → EachBy kagari Bool notion θ x.by x.run.posed

record Mixes : Type 0 where
  answered : answers (mix_begin kagari fallback never_head Bool notion) mixed ≡ term (var 0) ∷ verdict 1 ∷ verdict 1 ∷ verdict 0 ∷ verdict 1 ∷ term read_only ∷ []
  noted_so : (led mixed).by ≡ true ∷ true ∷ false ∷ false ∷ []
  too_much : ¬ UpToAccess (led strict)

mixes : Mixes
unfolding answers loose head_discrete list_discrete kagari_soft kagari_rigid kagari_admits kagari_meet floating in_family ℕ_discrete dec_lt
    sub in? same? put admit join joined allow any_soft zip_on issued? resolve expand walk tie₁ tie₀ tie part₁ part differ match turn settles
    obey serve_variable serve_pair lift settle verdict_of variable_at if_issued reply mix also noted map
mixes = record { answered = refl; noted_so = refl; too_much = apart }
  where
    agree : (v : ℕ) → v < 1 → Sim loose mutable (sub (λ w. mutable) (answer kagari (led strict).run.state.table (var v)))
    agree zero l = record { eq = refl }
    agree (suc v) l = absurd (omega arith)

    apart : ¬ UpToAccess (led strict)
    apart h = let e = (h refl (λ v. mutable) (λ v f e. clash (cc)) (λ v l. (false, agree v l))).0.eq in clash (cc)
