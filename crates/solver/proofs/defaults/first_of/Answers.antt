-- `first_of`. The first of the codes that the test takes is that of the first of the preferences that the family admits.
use mathlib.Core.Bool.{Bool, true, false}
use mathlib.Core.List.{List, [], ◌∷◌, map}
use mathlib.Core.Path.{◌≡◌, refl, sym, ap, ◌∙◌}
use Prim.Native.Nat.{ℕ, ◌<◌}
use Rattle.std.proofs.Common.{rules, tests}
use Rattle.std.proofs.lemmas.Iterator.{YieldsList-from_slice}
use Rattle.std.proofs.lemmas.Iterator.Consumers.{YieldsList-from_copied}
use Rattle.std.proofs.lemmas.Iterator.Search.{find_from_yields_List}
use Rattle.std.specs.List.{find}
use Rattle.std.specs.Slice.Iter.{iter_rest}
use Rattle.std.specs.Option.{option_map, unwrap_or}
use Rattle.std.specs.Prelude.{Option, Some, None}
use Rattle.solver.specs.Words.SessionRepresentation.{bit}
use Rattle.solver.specs.Families.{Numeric, Family, admits, code, first_of, preference}
use Rattle.solver.proofs.defaults.first_of.Goals as goal

-- an option mapped to itself gives the same value
same_value : (r : Option ℕ) (d : ℕ) → unwrap_or (option_map (λ (x : ℕ). x) r) d ≡ unwrap_or r d
same_value (Some x) d = refl
same_value None d = refl

-- the first code of a list that a test takes is that of the first type that is admitted
first_code : (f : Family) (test : ℕ → Bool) → ((c : ℕ) → admits f c ≡ test c) → (d : ℕ) (l : List Numeric) → unwrap_or (find test (map code l)) d ≡ first_of d f l
unfolding first_of
first_code f test h d [] = refl
first_code f test h d (x ∷ l) = go (test (code x)) refl (first_code f test h d l)
  where
    go : (b : Bool) → test (code x) ≡ b → unwrap_or (find test (map code l)) d ≡ first_of d f l
        → unwrap_or (find test (map code (x ∷ l))) d ≡ first_of d f (x ∷ l)
    go true e i = rw (e, h (code x) ∙ e)
    go false e i = rw (e, h (code x) ∙ e) i

-- the code that is found is below 32
found_small : (test : ℕ → Bool) (d : ℕ) → d < 32 → unwrap_or (find test (map code preference)) d < 32
unfolding code
found_small test d h = search (rules, tests)

pub returns : goal.returns
unfolding code
returns c =
    let t = λ (x : ℕ). bit c.args.mask x in
    let d = c.args.fallback.code in
    let e = find_from_yields_List t _ _ _ c.find.ensures.ran (YieldsList-from_copied (YieldsList-from_slice _ (ap iter_rest c.copied.ensures.source ∙ c.iter.ensures.rest))) (λ x b q k. search (rules, tests)) in
    let r : c.unwrap_or-code.result ≡ unwrap_or (find t (map code preference)) d = c.unwrap_or-code.ensures ∙ sym (same_value c.find.result d) ∙ ap (λ (o : Option ℕ). unwrap_or o d) e in
    λ f h. r ∙ first_code f t h d preference
