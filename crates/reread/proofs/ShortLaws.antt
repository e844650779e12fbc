-- A number of 64 bits has at most ten bytes.
use mathlib.Core.Path.{ap}
use Prim.Native.Nat.{ℕ, zero, suc, ◌/◌, ◌^◌, ◌≤◌, ◌<◌}
use native.Mathlib.Decide.{dec_lt}
use native.Mathlib.Nat.{pow-suc}
use native.Mathlib.Omega.{arith}
use lib.ListN.{length}
use Rattle.terms.specs.Number.{shortest}
use Rattle.terms.proofs.Laws.Numbers.Shortest.{shortest_last, shortest_more}

groups_enough : (k v : ℕ) → v < 128 ^ suc k → length (shortest v) ≤ suc k
groups_enough zero v h = omega (arith, pow-suc 128 0, ap length (shortest_last v (omega (arith, pow-suc 128 0))))
groups_enough (suc k) v h = go (dec_lt v 128) (groups_enough k (v / 128) (omega (arith, pow-suc 128 (suc k))))
  where
    go : Dec (v < 128) → length (shortest (v / 128)) ≤ suc k → length (shortest v) ≤ suc (suc k)
    go (yes p) ih = omega (arith, ap length (shortest_last v p))
    go (no p) ih = omega (arith, ap length (shortest_more v (omega arith)))

pub short_number : (v : ℕ) → v < 2 ^ 64 → length (shortest v) ≤ 10
short_number v h = groups_enough 9 v (omega arith)
