-- What the bytes of an order say is formed: every term keeps to its tag's layout, and its variables are known. A byte is taken for each two tokens and for
-- each node, and the tokens are at most six a node but for four of a bare nominal.
use mathlib.Core.Path.{◌≡◌, refl, sym, ap, ◌∙◌}
use mathlib.Core.Bool.{Bool, true, false}
use mathlib.Core.List.{List, [], ◌∷◌, ◌++◌}
use Prim.Native.Nat.{ℕ, zero, suc, ◌+◌, ◌*◌, ◌%◌, ◌/◌, ◌≤◌, ◌<◌}
use native.Mathlib.Omega.{arith}
use borrow.Author.Tests.{ltb-true}
use lib.Dec.{ltb}
use lib.ListN.{length, length-append, length-drop, drop, get_or}
use Rattle.solver.specs.TermTypes.{Parameter}
use Rattle.solver.specs.Terms.Number.{digits, shortest}
use Rattle.solver.specs.Terms.Parser.{Result, Parser, got, refused, bind, pick, return, refuse, byte, number}
use Rattle.solver.specs.Terms.Term.{Term, Parts, var, node, end, num, sub, items, part_items, size, sizes, bytes, part_bytes}
use Rattle.solver.specs.Terms.Shape as shape
use Rattle.solver.specs.Terms.Shape.{ceiling}
use Rattle.solver.specs.Terms.Formed.{Fit, TakesTerm}
use Rattle.solver.specs.Terms.Reading as reading
use Rattle.solver.specs.Terms.Tree.{row}
use Rattle.solver.specs.Terms.Substitution.{Entry, Receiver}
use Rattle.solver.specs.Terms.Rows.{entries, receivers, arguments, entry_row, receiver_row, argument_row}
use Rattle.solver.specs.Terms.Parameters.{parameter, parameters}
use Rattle.solver.specs.Terms.Lookup.{Pattern}
use Rattle.solver.proofs.Terms.NumberBoundLaws.{bounds, number_bounds}
use Rattle.solver.proofs.Terms.Shortest.{Octets}
use Rattle.solver.proofs.Terms.Sound.{Took, found, bare_found}
use Rattle.solver.proofs.Terms.TokenCountLaws.{bare_bound, weights_one, one}
use Rattle.solver.proofs.Terms.KeepTermLaws.{tokens_fit}
use Rattle.sheet.specs.Fields as fields
use Rattle.sheet.specs.Fields.{FieldSort, Field, value, bare, levels, nodes, all_nodes, rule_nodes}
use Rattle.sheet.specs.Words.FieldsFormed.{FormedTree, FormedBare, FormedEntries, FormedReceivers, FormedTrees, FormedRules, FormedField, FormedFields}
use Rattle.sheet.specs.Words.FieldLayout.{rule_items, field_items, all_items, spare, spares}

-- ---- results

pub never : {A B : Type 0} (c : ℕ) (x : A) (n : ℕ) → ◌≡◌ {A = Result A} (refused c) (got x n) → B
never c x n e = let z : ◌≡◌ {A = ℕ} 0 1 = cc in absurd (omega arith)

-- a result that was found came from one that was found
pub parts_of : {A B : Type 0} (r : Result A) (f : A → Parser B) (y : B) (n : ℕ) → bind r f ≡ got y n → (x : A) × (m : ℕ) × (r ≡ got x m) × (f x m ≡ got y n)
parts_of (got x m) f y n e = (x, m, refl, e)
parts_of (refused c) f y n e = never c y n e

pub same_value : {A : Type 0} {x y : A} {m n : ℕ} → got x m ≡ got y n → x ≡ y
same_value e = cc

pub same_next : {A : Type 0} {x y : A} {m n : ℕ} → got x m ≡ got y n → m ≡ n
same_next e = cc

-- ---- a byte at least for each token and for each node

digits_some : (fuel v : ℕ) → 1 ≤ length (digits fuel v)
unfolding digits
digits_some zero v = omega arith
digits_some (suc fuel) v = go (ltb v 128)
  where
    go : (b : Bool) → 1 ≤ length (pick b (v ∷ []) ((v % 128 + 128) ∷ digits fuel (v / 128)))
    go true = omega arith
    go false = omega arith

shortest_some : (v : ℕ) → 1 ≤ length (shortest v)
unfolding shortest
shortest_some v = digits_some v v

mutual
  unfolding items bytes

  items_bytes : (t : Term) → length (items t) ≤ length (bytes t)
  items_bytes (var v) = omega arith
  items_bytes (node k ps) = omega (arith, row_bytes ps)

  row_bytes : (ps : Parts) → length (part_items ps) ≤ length (part_bytes ps)
  row_bytes end = omega arith
  row_bytes (num n ps) = omega (arith, length-append (shortest n) (part_bytes ps), shortest_some n, row_bytes ps)
  row_bytes (sub t ps) = omega (arith, length-append (items t) (part_items ps), length-append (bytes t) (part_bytes ps), items_bytes t, row_bytes ps)

mutual
  unfolding size bytes

  size_bytes : (t : Term) → size t ≤ length (bytes t)
  size_bytes (var v) = omega arith
  size_bytes (node k ps) = omega (arith, sizes_bytes ps)

  sizes_bytes : (ps : Parts) → sizes ps ≤ length (part_bytes ps)
  sizes_bytes end = omega arith
  sizes_bytes (num n ps) = omega (arith, length-append (shortest n) (part_bytes ps), sizes_bytes ps)
  sizes_bytes (sub t ps) = omega (arith, length-append (bytes t) (part_bytes ps), size_bytes t, sizes_bytes ps)

bytes_some : (t : Term) → 1 ≤ length (bytes t)
unfolding bytes
bytes_some (var v) = omega arith
bytes_some (node k ps) = omega arith

took_pace : (s : List ℕ) (at n : ℕ) (bs : List ℕ) → Took s at n bs → 1 ≤ length bs → length bs + at ≤ n
took_pace s at n bs t h =
    let e : length (drop at s) ≡ length (bs ++ drop n s) = ap length t in
    omega (arith, length-append bs (drop n s), length-drop at s, length-drop n s)

nominal_some : (ps : Parts) → Fit (shape.nominal shape.done) ps → 1 ≤ length (part_bytes ps)
unfolding Fit TakesTerm bytes
nominal_some end f = absurd (let z : ◌≡◌ {A = ℕ} 0 1 = cc in omega arith)
nominal_some (num n ps) f = omega (arith, length-append (shortest n) (part_bytes ps), shortest_some n)
nominal_some (sub t ps) f = absurd f.0

-- ---- terms and lists

-- a term that was found
pub record TreeFound (issued at : ℕ) (t : Term) (n : ℕ) : Type 0 where
  pub formed : FormedTree issued t
  pub tokens : length (items t) + at ≤ n
  pub nodes : size t + at ≤ n
  pub room : length (items t) + 2 ≤ 6 * size t

pub record BareFound (issued at : ℕ) (ps : Parts) (n : ℕ) : Type 0 where
  pub formed : FormedBare issued ps
  pub tokens : length (part_items ps) + at ≤ n
  pub some : at < n
  pub nodes : sizes ps + at ≤ n
  pub room : suc (length (part_items ps)) ≤ 6 * sizes ps + 4

-- a list, as its row
pub record RowFound (at : ℕ) (ps : Parts) (n : ℕ) : Type 0 where
  pub tokens : length (part_items ps) + at ≤ n
  pub nodes : sizes ps + at ≤ n
  pub room : length (part_items ps) ≤ 6 * sizes ps

number_after : (s : List ℕ) (most at v n : ℕ) → number s most at ≡ got v n → (v ≤ most) × (at < n)
number_after s most at v n e = let b = bounds most 0 1 at (drop at s) v n e in (b.small, b.after)

module _ (s : List ℕ) (o : Octets s) (issued : ℕ) where
  pub tree_found : (at : ℕ) (t : Term) (n : ℕ) → reading.term s issued levels at ≡ got t n → TreeFound issued at t n
  tree_found at t n e =
      let f = found s o issued levels at t n e in
      let p = took_pace s at n (bytes t) f.taken (bytes_some t) in
      record { formed = record { formed = f.formed; below = f.known }; tokens = omega (arith, items_bytes t); nodes = omega (arith, size_bytes t); room = tokens_fit t f.formed }

  pub nominal_found : (at : ℕ) (ps : Parts) (n : ℕ) → fields.nominal_field s issued at ≡ got ps n → BareFound issued at ps n
  unfolding fields.nominal_field row
  nominal_found at ps n e =
      let x = parts_of (reading.bare s issued levels at) _ ps n e in
      let f = bare_found s o issued levels at x.0 x.1 x.2 in
      let qs = f.0 in
      let same : qs ≡ ps = ap row (sym f.1) ∙ same_value x.3 in
      let next : x.1 ≡ n = same_next x.3 in
      let some = nominal_some qs f.2.fit in
      let p = took_pace s at x.1 (part_bytes qs) f.2.taken some in
      rw (← same)
      (record {
        formed = record { fit = f.2.fit; below = f.2.known };
        tokens = omega (arith, row_bytes qs);
        some = omega arith;
        nodes = omega (arith, sizes_bytes qs);
        room = omega (arith, weights_one qs (shape.nominal shape.done), bare_bound 1 one qs f.2.fit);
      })

  pub arguments_found : (k at : ℕ) (ts : List Term) (n : ℕ) → arguments s (reading.term s issued levels) k at ≡ got ts n
      → FormedTrees issued ts × RowFound at (argument_row ts) n × (length ts ≡ k)
  unfolding arguments FormedTrees argument_row items size
  arguments_found zero at ts n e = rw (← (same_value e)) (tt, record { tokens = omega (arith, same_next e); nodes = omega (arith, same_next e); room = omega arith }, refl)
  arguments_found (suc k) at ts n e =
      let t = parts_of (reading.term s issued levels at) _ ts n e in
      let r = parts_of (arguments s (reading.term s issued levels) k t.1) _ ts n t.3 in
      let x = tree_found at t.0 t.1 t.2 in
      let y = arguments_found k t.1 r.0 r.1 r.2 in
      let a = length-append (items t.0) (part_items (argument_row r.0)) in
      let next : r.1 ≡ n = same_next r.3 in
      rw (← (same_value r.3))
      ((x.formed, y.0), record { tokens = omega (arith, x.tokens, y.1.tokens); nodes = omega (arith, x.nodes, y.1.nodes); room = omega (arith, x.room, y.1.room) }, ap suc y.2)

  pub receivers_found : (k at : ℕ) (rs : List Receiver) (n : ℕ) → receivers s (reading.term s issued levels) k at ≡ got rs n
      → FormedReceivers issued rs × RowFound at (receiver_row rs) n × (length rs ≡ k)
  unfolding receivers FormedReceivers receiver_row items size
  receivers_found zero at rs n e = rw (← (same_value e)) (tt, record { tokens = omega (arith, same_next e); nodes = omega (arith, same_next e); room = omega arith }, refl)
  receivers_found (suc k) at rs n e =
      let v = parts_of (number s (ceiling shape.definition) at) _ rs n e in
      let t = parts_of (reading.term s issued levels v.1) _ rs n v.3 in
      let r = parts_of (receivers s (reading.term s issued levels) k t.1) _ rs n t.3 in
      let x = tree_found v.1 t.0 t.1 t.2 in
      let y = receivers_found k t.1 r.0 r.1 r.2 in
      let a = length-append (items t.0) (part_items (receiver_row r.0)) in
      let b = number_after s (ceiling shape.definition) at v.0 v.1 v.2 in
      let next : r.1 ≡ n = same_next r.3 in
      rw (← (same_value r.3))
      ((x.formed, y.0), record { tokens = omega (arith, b.1, x.tokens, y.1.tokens); nodes = omega (arith, b.1, x.nodes, y.1.nodes); room = omega (arith, x.room, y.1.room) }, ap suc y.2)

  pub entries_found : (k at : ℕ) (es : List Entry) (n : ℕ) → entries s (reading.term s issued levels) k at ≡ got es n
      → FormedEntries issued es × RowFound at (entry_row es) n × (length es ≡ k)
  unfolding entries FormedEntries entry_row items size
  entries_found zero at es n e = rw (← (same_value e)) (tt, record { tokens = omega (arith, same_next e); nodes = omega (arith, same_next e); room = omega arith }, refl)
  entries_found (suc k) at es n e =
      let v = parts_of (number s (ceiling shape.definition) at) _ es n e in
      let w = parts_of (number s (ceiling shape.ordinary) v.1) _ es n v.3 in
      let t = parts_of (reading.term s issued levels w.1) _ es n w.3 in
      let r = parts_of (entries s (reading.term s issued levels) k t.1) _ es n t.3 in
      let x = tree_found w.1 t.0 t.1 t.2 in
      let y = entries_found k t.1 r.0 r.1 r.2 in
      let a = length-append (items t.0) (part_items (entry_row r.0)) in
      let b = number_after s (ceiling shape.definition) at v.0 v.1 v.2 in
      let c = number_after s (ceiling shape.ordinary) v.1 w.0 w.1 w.2 in
      let next : r.1 ≡ n = same_next r.3 in
      rw (← (same_value r.3))
      ((x.formed, y.0), record { tokens = omega (arith, b.1, c.1, x.tokens, y.1.tokens); nodes = omega (arith, b.1, c.1, x.nodes, y.1.nodes); room = omega (arith, x.room, y.1.room) }, ap suc y.2)

module _ (s : List ℕ) where
  -- parameters: no tokens; they stay within the bytes
  pub parameters_found : (k at : ℕ) (ps : List Parameter) (n : ℕ) → parameters s k at ≡ got ps n → (length ps ≡ k) × (at ≤ n) × (at ≤ length s → n ≤ length s)
  unfolding parameters parameter
  parameters_found zero at ps n e = rw (← (same_value e)) (refl, omega (arith, same_next e), λ h. omega (arith, same_next e))
  parameters_found (suc k) at ps n e =
      let x = parts_of (parameter s at) _ ps n e in
      let r = parts_of (parameters s k x.1) _ ps n x.3 in
      let v = parts_of (number s (ceiling shape.definition) at) _ x.0 x.1 x.2 in
      let w = parts_of (number s (ceiling shape.ordinary) v.1) _ x.0 x.1 v.3 in
      let y = parameters_found k x.1 r.0 r.1 r.2 in
      let i : w.1 ≡ x.1 = same_next w.3 in
      let j : r.1 ≡ n = same_next r.3 in
      let b = number_after s (ceiling shape.definition) at v.0 v.1 v.2 in
      let c = number_after s (ceiling shape.ordinary) v.1 w.0 w.1 w.2 in
      rw (← (same_value r.3)) (
        ap suc y.0,
        omega (arith, b.1, c.1, y.1),
        λ h.
            let d = number_bounds (ceiling shape.definition) s at v.0 v.1 h v.2 in
            let f = number_bounds (ceiling shape.ordinary) s v.1 w.0 w.1 d.inside w.2 in
            omega (arith, y.2 (omega (arith, f.inside))),
      )

-- ---- a code

byte_after : (s : List ℕ) (at b n : ℕ) → byte s at ≡ got b n → (at < n) × (n ≤ length s)
byte_after s at b n e = go (ltb at (length s)) refl e
  where
    go : (h : Bool) → ltb at (length s) ≡ h → pick h (got (get_or s at 0) (at + 1)) (refused 1) ≡ got b n → (at < n) × (n ≤ length s)
    go true h e = let m : at + 1 ≡ n = same_next e in (omega arith, omega (arith, ltb-true at (length s) h))
    go false h e = never 1 b n e

pub code_after : (s : List ℕ) (at c n : ℕ) → reading.code s 32 at ≡ got c n → (c < 32) × (at < n) × (n ≤ length s)
unfolding reading.code
code_after s at c n e =
    let x = parts_of (byte s at) _ c n e in
    let y = byte_after s at x.0 x.1 x.2 in
    go x.0 x.1 (ltb x.0 32) refl y x.3
  where
    go : (b m : ℕ) (h : Bool) → ltb b 32 ≡ h → (at < m) × (m ≤ length s) → pick {A = Parser ℕ} h (return b) (refuse 2) m ≡ got c n → (c < 32) × (at < n) × (n ≤ length s)
    go b m true h y e =
        let v : b ≡ c = same_value e in
        let i : m ≡ n = same_next e in
        (omega (arith, ltb-true b 32 h), omega (arith, y.0), omega (arith, y.1))
    go b m false h y e = never 2 c n e

-- ---- rules

rule_length : (p : Pattern) (rs : List Pattern)
    → length (rule_items (p ∷ rs)) ≡ length (part_items p.interface) + 1 + length (items p.receiver) + length (part_items (argument_row p.arguments)) + length (items p.value) + length (rule_items rs)
unfolding rule_items items
rule_length p rs =
    let i = items (node 20 p.interface) in
    let r = items p.receiver in
    let a = part_items (argument_row p.arguments) in
    let v = items p.value in
    omega (
      arith,
      length-append (i ++ (r ++ (a ++ (v ++ [])))) (rule_items rs),
      length-append i (r ++ (a ++ (v ++ []))),
      length-append r (a ++ (v ++ [])),
      length-append a (v ++ []),
      length-append v [],
    )

pub record RulesFound (issued at : ℕ) (rs : List Pattern) (n : ℕ) : Type 0 where
  pub formed : FormedRules issued rs
  pub tokens : length (rule_items rs) + at ≤ n
  pub nodes : rule_nodes rs + at ≤ n
  pub room : length (rule_items rs) ≤ 6 * rule_nodes rs
  pub many : 2 * length rs ≤ rule_nodes rs

size-some : (t : Term) → 1 ≤ size t
unfolding size
size-some (var v) = omega arith
size-some (node k ps) = omega arith

module _ (s : List ℕ) (o : Octets s) (issued : ℕ) where
  -- one more, in front
  rule_found : (at : ℕ) (p : Pattern) (m : ℕ) → fields.rule s issued at ≡ got p m → (rs : List Pattern) (n : ℕ) → RulesFound issued m rs n → RulesFound issued at (p ∷ rs) n
  unfolding fields.rule FormedRules rule_nodes
  rule_found at p m e rs n z =
      let i = parts_of (fields.nominal_field s issued at) _ p m e in
      let r = parts_of (reading.term s issued levels i.1) _ p m i.3 in
      let k = parts_of (number s (ceiling shape.definition) r.1) _ p m r.3 in
      let c = parts_of (reading.count s k.1) _ p m k.3 in
      let l = parts_of (arguments s (reading.term s issued levels) c.0 c.1) _ p m c.3 in
      let v = parts_of (reading.term s issued levels l.1) _ p m l.3 in
      let is : record { interface = i.0; receiver = r.0; member = k.0; arguments = l.0; value = v.0 } ≡ p = same_value v.3 in
      let next : v.1 ≡ m = same_next v.3 in
      let a = nominal_found s o issued at i.0 i.1 i.2 in
      let b = tree_found s o issued i.1 r.0 r.1 r.2 in
      let d = number_after s (ceiling shape.definition) r.1 k.0 k.1 k.2 in
      let f = number_after s (ceiling shape.ordinary) k.1 c.0 c.1 c.2 in
      let g = arguments_found s o issued c.0 c.1 l.0 l.1 l.2 in
      let h = tree_found s o issued l.1 v.0 v.1 v.2 in
      let len = rule_length (record { interface = i.0; receiver = r.0; member = k.0; arguments = l.0; value = v.0 }) rs in
      rw (← is)
      (record {
        formed = (record { interface = a.formed; receiver = b.formed; member = d.0; arguments = g.0; value = h.formed }, z.formed);
        tokens = omega (arith, len, a.tokens, b.tokens, d.1, f.1, g.1.tokens, h.tokens, z.tokens);
        nodes = omega (arith, a.nodes, b.nodes, d.1, f.1, g.1.nodes, h.nodes, z.nodes);
        room = omega (arith, len, a.room, b.room, g.1.room, h.room, z.room);
        many = omega (arith, size-some r.0, size-some v.0, z.many);
      })

  pub rules_found : (k at : ℕ) (rs : List Pattern) (n : ℕ) → fields.rule_list s issued k at ≡ got rs n → RulesFound issued at rs n × (length rs ≡ k)
  unfolding fields.rule_list FormedRules rule_nodes rule_items
  rules_found zero at rs n e =
      let next : at ≡ n = same_next e in
      rw (← (same_value e)) (record { formed = tt; tokens = omega arith; nodes = omega arith; room = omega arith; many = omega arith }, refl)
  rules_found (suc k) at rs n e =
      let p = parts_of (fields.rule s issued at) _ rs n e in
      let r = parts_of (fields.rule_list s issued k p.1) _ rs n p.3 in
      let y = rules_found k p.1 r.0 r.1 r.2 in
      let next : r.1 ≡ n = same_next r.3 in
      let x = rule_found at p.0 p.1 p.2 r.0 n (rw next at y.0) in
      rw (← (same_value r.3)) (x, ap suc y.1)

-- ---- fields

pub record FieldFound (issued spared at : ℕ) (f : Field) (n : ℕ) : Type 0 where
  pub formed : FormedField issued f
  pub tokens : length (field_items f) + 2 * at ≤ 2 * n
  pub counts : nodes f + at ≤ n
  pub room : length (field_items f) ≤ 6 * nodes f + spared

module _ (s : List ℕ) (o : Octets s) (issued : ℕ) where
  value_found : (most at v m : ℕ) (f : Field) (n : ℕ) → v ≤ 4294967295 → at < m → got (value v) m ≡ got f n → FieldFound issued 0 at f n
  unfolding field_items nodes
  value_found most at v m f n h k e =
      let next : m ≡ n = same_next e in
      rw (← (same_value e)) (record { formed = h; tokens = omega arith; counts = omega arith; room = omega arith })

  -- a row of as many
  row-found : (at : ℕ) (ps : Parts) (n m : ℕ) → RowFound m ps n → at < m → (length (part_items ps) + 2 * at ≤ 2 * n) × (sizes ps + at ≤ n) × (length (part_items ps) ≤ 6 * sizes ps + 0)
  row-found at ps n m r h = (omega (arith, r.tokens), omega (arith, r.nodes), omega (arith, r.room))

  pub field_found : (a : FieldSort) (at : ℕ) (f : Field) (n : ℕ) → fields.field s issued a at ≡ got f n → FieldFound issued (spare a) at f n
  unfolding fields.field spare field_items nodes items
  field_found fields.ordinary at f n e =
      let v = parts_of (number s (ceiling shape.ordinary) at) _ f n e in
      let b = number_after s (ceiling shape.ordinary) at v.0 v.1 v.2 in
      value_found (ceiling shape.ordinary) at v.0 v.1 f n b.0 b.1 v.3
  field_found fields.receiver at f n e =
      let l = parts_of (receivers s (reading.term s issued levels) 1 at) _ f n e in
      let x = receivers_found s o issued 1 at l.0 l.1 l.2 in
      let next : l.1 ≡ n = same_next l.3 in
      rw (← (same_value l.3)) (record { formed = x.0; tokens = omega (arith, x.1.tokens); counts = omega (arith, x.1.nodes); room = omega (arith, x.1.room) })
  field_found fields.code at f n e =
      let v = parts_of (reading.code s 32 at) _ f n e in
      let b = code_after s at v.0 v.1 v.2 in
      value_found 32 at v.0 v.1 f n (omega (arith, b.0)) b.1 v.3
  field_found fields.bound at f n e =
      let x = parts_of (byte s at) _ f n e in
      let y = parts_of (number s (ceiling shape.ordinary) x.1) _ f n x.3 in
      let z = parts_of (number s (ceiling shape.ordinary) y.1) _ f n y.3 in
      let a = byte_after s at x.0 x.1 x.2 in
      let b = number_after s (ceiling shape.ordinary) x.1 y.0 y.1 y.2 in
      let c = number_after s (ceiling shape.ordinary) y.1 z.0 z.1 z.2 in
      let next : z.1 ≡ n = same_next z.3 in
      rw (← (same_value z.3)) (record { formed = tt; tokens = omega (arith, a.0, b.1, c.1); counts = omega (arith, a.0, b.1, c.1); room = omega arith })
  field_found fields.term at f n e =
      let t = parts_of (reading.term s issued levels at) _ f n e in
      let x = tree_found s o issued at t.0 t.1 t.2 in
      let next : t.1 ≡ n = same_next t.3 in
      rw (← (same_value t.3)) (record { formed = x.formed; tokens = omega (arith, x.tokens); counts = omega (arith, x.nodes); room = omega (arith, x.room) })
  field_found fields.nominal at f n e =
      let t = parts_of (fields.nominal_field s issued at) _ f n e in
      let x = nominal_found s o issued at t.0 t.1 t.2 in
      let next : t.1 ≡ n = same_next t.3 in
      rw (← (same_value t.3)) (record { formed = x.formed; tokens = omega (arith, x.tokens, x.some); counts = omega (arith, x.nodes); room = omega (arith, x.room) })
  field_found fields.entries at f n e =
      let v = parts_of (reading.count s at) _ f n e in
      let l = parts_of (entries s (reading.term s issued levels) v.0 v.1) _ f n v.3 in
      let b = number_after s (ceiling shape.ordinary) at v.0 v.1 v.2 in
      let x = entries_found s o issued v.0 v.1 l.0 l.1 l.2 in
      let next : l.1 ≡ n = same_next l.3 in
      let r = row-found at (entry_row l.0) l.1 v.1 x.1 b.1 in
      rw (← (same_value l.3)) (record { formed = x.0; tokens = omega (arith, r.0); counts = omega (arith, r.1); room = r.2 })
  field_found fields.receivers at f n e =
      let v = parts_of (reading.count s at) _ f n e in
      let l = parts_of (receivers s (reading.term s issued levels) v.0 v.1) _ f n v.3 in
      let b = number_after s (ceiling shape.ordinary) at v.0 v.1 v.2 in
      let x = receivers_found s o issued v.0 v.1 l.0 l.1 l.2 in
      let next : l.1 ≡ n = same_next l.3 in
      let r = row-found at (receiver_row l.0) l.1 v.1 x.1 b.1 in
      rw (← (same_value l.3)) (record { formed = x.0; tokens = omega (arith, r.0); counts = omega (arith, r.1); room = r.2 })
  field_found fields.parameters at f n e =
      let v = parts_of (reading.count s at) _ f n e in
      let l = parts_of (parameters s v.0 v.1) _ f n v.3 in
      let b = number_after s (ceiling shape.ordinary) at v.0 v.1 v.2 in
      let x = parameters_found s v.0 v.1 l.0 l.1 l.2 in
      let next : l.1 ≡ n = same_next l.3 in
      rw (← (same_value l.3)) (record { formed = tt; tokens = omega (arith, b.1, x.1); counts = omega (arith, b.1, x.1); room = omega arith })
  field_found fields.arguments at f n e =
      let v = parts_of (reading.count s at) _ f n e in
      let l = parts_of (arguments s (reading.term s issued levels) v.0 v.1) _ f n v.3 in
      let b = number_after s (ceiling shape.ordinary) at v.0 v.1 v.2 in
      let x = arguments_found s o issued v.0 v.1 l.0 l.1 l.2 in
      let next : l.1 ≡ n = same_next l.3 in
      let r = row-found at (argument_row l.0) l.1 v.1 x.1 b.1 in
      rw (← (same_value l.3)) (record { formed = x.0; tokens = omega (arith, r.0); counts = omega (arith, r.1); room = r.2 })
  field_found fields.rules at f n e =
      let v = parts_of (reading.count s at) _ f n e in
      let l = parts_of (fields.rule_list s issued v.0 v.1) _ f n v.3 in
      let b = number_after s (ceiling shape.ordinary) at v.0 v.1 v.2 in
      let x = (rules_found s o issued v.0 v.1 l.0 l.1 l.2).0 in
      let next : l.1 ≡ n = same_next l.3 in
      rw (← (same_value l.3)) (record { formed = x.formed; tokens = omega (arith, b.1, x.tokens); counts = omega (arith, b.1, x.nodes); room = omega (arith, x.room) })

  pub record FieldsFound (l : List FieldSort) (at : ℕ) (fs : List Field) (n : ℕ) : Type 0 where
    pub formed : FormedFields issued fs
    pub tokens : length (all_items fs) + 2 * at ≤ 2 * n
    pub counts : all_nodes fs + at ≤ n
    pub room : length (all_items fs) ≤ 6 * all_nodes fs + spares l
    pub many : length fs ≡ length l

  pub fields_found : (l : List FieldSort) (at : ℕ) (fs : List Field) (n : ℕ) → fields.fields s issued l at ≡ got fs n → FieldsFound l at fs n
  unfolding fields.fields FormedFields all_items all_nodes spares
  fields_found [] at fs n e =
      let next : at ≡ n = same_next e in
      rw (← (same_value e)) (record { formed = tt; tokens = omega arith; counts = omega arith; room = omega arith; many = refl })
  fields_found (a ∷ l) at fs n e =
      let x = parts_of (fields.field s issued a at) _ fs n e in
      let y = parts_of (fields.fields s issued l x.1) _ fs n x.3 in
      let f = field_found a at x.0 x.1 x.2 in
      let g = fields_found l x.1 y.0 y.1 y.2 in
      let next : y.1 ≡ n = same_next y.3 in
      let len = length-append (field_items x.0) (all_items y.0) in
      rw (← (same_value y.3))
      (record {
        formed = (f.formed, g.formed);
        tokens = omega (arith, len, f.tokens, g.tokens);
        counts = omega (arith, f.counts, g.counts);
        room = omega (arith, len, f.room, g.room);
        many = ap suc g.many;
      })
