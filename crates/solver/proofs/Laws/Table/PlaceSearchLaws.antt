-- A search from the last number of a range down, and the variable that it finds.
use mathlib.Core.Path.{◌≡◌, refl, sym, ap, ◌∙◌}
use mathlib.Core.Bool.{Bool, true, false}
use mathlib.Core.List.{List, [], ◌∷◌}
use mathlib.Core.Option.{Option, some}
use Prim.Native.Nat.{ℕ, zero, suc, ◌+◌, ◌-◌, ◌≤◌, ◌<◌}
use native.Mathlib.Omega.{arith}
use Rattle.std.specs.Iterator.{AlwaysYields}
use Rattle.std.specs.declared.ops.Range.{Range}
use Rattle.std.specs.List.{find}
use Rattle.std.specs.Option.{MatchOption, unwrap_or}
use Rattle.std.specs.Prelude.{Some, None}
use Rattle.std.specs.declared.iter.Rev.{Rev}
use Rattle.std.specs.declared.option.Option as rust
use Rattle.std.proofs.lemmas.Iterator.{YieldsList}
use Rattle.solver.specs.Words.MethodContract.{last_match, found, named_of}
use Rattle.solver.proofs.Laws.Table.MethodLaws.{Last, Fits-at, search_hit, search_on, found_named, none_named}

-- the numbers below n, the greatest first
pub downs : ℕ → List ℕ
downs zero = []
downs (suc n) = n ∷ downs n

abbrev pub steps_down : Rev (Range ℕ) → rust.Option ℕ → Rev (Range ℕ) → Type 0
steps_down s r t = (t.iter.start ≡ s.iter.start) × MatchOption r ((s.iter.end - s.iter.start ≡ 0) × (t.iter.end ≡ s.iter.end)) (λ x. (0 < s.iter.end - s.iter.start) × (x ≡ t.iter.end) × (s.iter.end ≡ t.iter.end + 1))

yields_down : (n : ℕ) (s : Rev (Range ℕ)) → s.iter.start ≡ 0 → s.iter.end ≡ n → AlwaysYields steps_down (λ x. x) s (downs n)
unfolding downs
yields_down zero s a e = λ x j p. omega (arith, p.1.0, a, e)
yields_down (suc n) s a e = (
  λ j p. omega (arith, p.1.0, a, e),
  λ x j p. (omega (arith, p.1.1, p.1.2, e), yields_down n j (p.0 ∙ a) (omega (arith, p.1.2, e))),
)

pub YieldsList-from_rev_range : {s : Rev (Range ℕ)} (n : ℕ) → s.iter ≡ record { start = 0; end = n } → YieldsList steps_down (λ x. x) s (downs n)
YieldsList-from_rev_range {s} n e = record { runs = yields_down n s (ap (λ (r : Range ℕ). r.start) e) (ap (λ (r : Range ℕ). r.end) e) }

module _ (kind site slot m : ℕ) (ts : List ℕ) (d : ℕ) where
  -- the first that is found is the last variable whose words are those asked for
  pub search_down : (n : ℕ) → n ≤ m → unwrap_or (find (Fits-at kind site slot m ts d) (downs n)) d ≡ Last kind site slot m ts d n
  unfolding last_match downs
  search_down zero l = refl
  search_down (suc n) l = go (Fits-at kind site slot m ts d n) refl (search_down n (omega arith))
    where
      last : suc n - 1 ≡ n
      last = omega arith

      go : (b : Bool) → Fits-at kind site slot m ts d n ≡ b → unwrap_or (find (Fits-at kind site slot m ts d) (downs n)) d ≡ Last kind site slot m ts d n
          → unwrap_or (find (Fits-at kind site slot m ts d) (downs (suc n))) d ≡ Last kind site slot m ts d (suc n)
      go true e i = rw e (sym last ∙ search_hit kind site slot m ts d _ (suc n) refl (omega arith) l (ap (Fits-at kind site slot m ts d) last ∙ e))
      go false e i = rw e (i ∙ sym (search_on kind site slot m ts d _ (suc n) refl (omega arith) l (ap (Fits-at kind site slot m ts d) last ∙ e) ∙ ap (Last kind site slot m ts d) last))

-- what is found is one of the range
pub found_below : (test : ℕ → Bool) (n v : ℕ) → find test (downs n) ≡ Some v → v < n
unfolding downs
found_below test zero v e = absurd (cc)
found_below test (suc n) v e = go (test n) refl (found_below test n v)
  where
    go : (b : Bool) → test n ≡ b → (find test (downs n) ≡ Some v → v < n) → v < suc n
    go true t h = let z : n ≡ v = (let y = rw t at e in cc) in omega arith
    go false t h = let z = h (rw t at e) in omega arith

pub answer_named : (r : rust.Option ℕ) (d : ℕ) (o : Option ℕ) → unwrap_or r d ≡ found d o → ((v : ℕ) → r ≡ Some v → v < d) → ((v : ℕ) → o ≡ some v → v < d) → r ≡ named_of o
answer_named (Some v) d o e l h = found_named v d o e (l v refl)
answer_named None d o e l h = none_named d o e h
