-- Parameters in the bytes: one, and going through them.
use mathlib.Core.Path.{◌≡◌, refl, ◌∙◌}
use mathlib.Core.Bool.{Bool, true, false, ◌||◌}
use mathlib.Core.List.{List, [], ◌∷◌}
use Prim.Native.Nat.{ℕ, suc, ◌+◌, ◌-◌, ◌≤◌, ◌<◌}
use native.Mathlib.Omega.{arith}
use Rattle.terms.specs.Parser.{Result, got, refused, bind, pick, number}
use Rattle.terms.specs.Shape.{definition, ordinary, ceiling}
use Rattle.terms.specs.Questions.{Parameter, same_parameter, contains}
use Rattle.terms.specs.Parameters.{parameter, parameters, last_from, last_index, passed, index_in, is_found}
use Rattle.std.specs.Prelude.{Option, Some, None}

module _ (s : List ℕ) (at : ℕ) where
  pub parameter_no : (c : ℕ) → refused c ≡ number s (ceiling definition) at → refused c ≡ parameter s at
  unfolding parameter
  parameter_no c e = rw (← e)

  module _ (o n : ℕ) (e : got o n ≡ number s (ceiling definition) at) where
    pub parameter_half : (c : ℕ) → refused c ≡ number s (ceiling ordinary) n → refused c ≡ parameter s at
    unfolding parameter
    parameter_half c f = rw (← e, ← f)

    pub parameter_yes : (q m : ℕ) → got q m ≡ number s (ceiling ordinary) n → got (record { owner = o; position = q }) m ≡ parameter s at
    unfolding parameter
    parameter_yes q m f = rw (← e, ← f)

-- the parameters from i on, n of `count` being passed, where p is wanted
module _ (s : List ℕ) (p : Parameter) (count n i : ℕ) (best : Option ℕ) where
  pub pass_end : count ≤ n → got best i ≡ passed n best (parameters s (count - n) i) p
  unfolding parameters last_from
  pass_end h = let z : count - n ≡ 0 = omega arith in rw z

  module _ (h : n < count) where
    pub pass_stop : (c : ℕ) → refused c ≡ parameter s i → refused c ≡ passed n best (parameters s (count - n) i) p
    unfolding parameters
    pass_stop c e = let z : count - n ≡ suc (count - (n + 1)) = omega arith in rw (z, ← e)

    pub pass_more : (q : Parameter) (next : ℕ) → got q next ≡ parameter s i → (best' : Option ℕ) → best' ≡ pick (same_parameter q p) (Some n) best
        → passed (n + 1) best' (parameters s (count - (n + 1)) next) p ≡ passed n best (parameters s (count - n) i) p
    unfolding parameters last_from
    pass_more q next e best' f =
        let z : count - n ≡ suc (count - (n + 1)) = omega arith in
        rw (f, z, ← e) (go (parameters s (count - (n + 1)) next))
      where
        go : (r : Result (List Parameter)) → passed (n + 1) (pick (same_parameter q p) (Some n) best) r p ≡ passed n best (bind r (λ ps m. got (q ∷ ps) m)) p
        go (got ps m) = refl
        go (refused c) = refl

-- what going through them says
module _ (found : Result (List Parameter)) (p : Parameter) where
  pub through_index : (next : ℕ) (best : Option ℕ) → got best next ≡ passed 0 None found p → best ≡ index_in found p
  through_index next best e = go found e
    where
      go : (r : Result (List Parameter)) → got best next ≡ passed 0 None r p → best ≡ index_in r p
      go (got ps m) h = cc
      go (refused c) h = absurd (let z : ◌≡◌ {A = ℕ} 0 1 = cc in omega arith)

-- `contains` asks whether there is one
found_or : (n : ℕ) (best : Option ℕ) (ps : List Parameter) (p : Parameter) → is_found (last_from n best ps p) ≡ (contains ps p || is_found best)
unfolding last_from contains
found_or n best [] p = refl
found_or n best (q ∷ qs) p = found_or (n + 1) (pick (same_parameter q p) (Some n) best) qs p ∙ go (same_parameter q p) (contains qs p)
  where
    go : (b c : Bool) → (c || is_found (pick b (Some n) best)) ≡ ((b || c) || is_found best)
    go true true = refl
    go true false = refl
    go false true = refl
    go false false = refl

pub found_contains : (ps : List Parameter) (p : Parameter) → is_found (last_index ps p) ≡ contains ps p
found_contains ps p = found_or 0 None ps p ∙ go (contains ps p)
  where
    go : (b : Bool) → (b || false) ≡ b
    go true = refl
    go false = refl
