-- Rules: a rule is five fields, its record tells where they stand, and rules are read one after the other.
use mathlib.Core.Path.{◌≡◌, refl, sym, ap, ◌∙◌}
use mathlib.Core.List.{List, [], ◌∷◌, ◌++◌, append_assoc}
use Prim.Native.Nat.{ℕ, suc, ◌+◌, ◌-◌, ◌*◌, ◌≤◌, ◌<◌}
use native.Mathlib.Omega.{arith}
use lib.ListN.{length, length-append, length-set, take, set}
use Rattle.std.proofs.lemmas.List.{take_more_set}
use Rattle.solver.specs.TermTypes.{Place, Rule, Next, Stopped}
use Rattle.solver.specs.Terms.Parser.{Result, Parser, got, refused, bind, number}
use Rattle.solver.specs.Terms.Tokens.{Item, Area, blank}
use Rattle.solver.specs.Terms.Term.{Term, Parts, node, items, part_items}
use Rattle.solver.specs.Terms.Shape as shape
use Rattle.solver.specs.Terms.Shape.{ceiling}
use Rattle.solver.specs.Terms.Reading as reading
use Rattle.solver.specs.Terms.Rows as rows
use Rattle.solver.specs.Terms.Rows.{argument_row}
use Rattle.solver.specs.Terms.Lookup.{Pattern}
use Rattle.solver.proofs.Terms.HeldLaws.{items_some}
use Rattle.solver.proofs.Terms.Shortest.{Octets}
use Rattle.sheet.specs.declared.FieldSpots.{FieldSpots}
use Rattle.sheet.specs.Fields as fields
use Rattle.sheet.specs.Fields.{Field, value, tree, bare, listed, levels, nodes, all_nodes, rule_nodes, nth}
use Rattle.sheet.specs.Words.FieldsFormed.{FormedFields}
use Rattle.sheet.specs.Words.FieldLayout.{rule_sorts, rule_fields, rule_items, field_items, all_items, Free, Stored, Ample, placed_rule, placed_rules, spot_at, start_at, Spots, RuleDone, RulesDone, rule_from, WordsFit, FieldsHere}
use Rattle.sheet.proofs.Laws.Reading.StoredLaws.{stored_none, stored_then, stored_as, stored_undo, ample_after}
use Rattle.sheet.proofs.Laws.Reading.FieldLaws.{never, parts_of, same_value, same_next, fields_found}

-- ---- a rule as fields

bind_got : {A : Type 0} (r : Result A) → r ≡ bind r (λ x n. got x n)
bind_got (got x n) = refl
bind_got (refused c) = refl

assoc : (x : Result (List Field)) (u g : List Field → List Field) → bind (bind x (λ fs m. got (u fs) m)) (λ fs m. got (g fs) m) ≡ bind x (λ fs m. got (g (u fs)) m)
assoc (got fs m) u g = refl
assoc (refused c) u g = refl

-- one field, and then the others
stage : {A : Type 0} (r : Result A) (k : A → Field) (X : Parser (List Field)) (Y : A → Parser Pattern) (g : List Field → List Field)
    → ((a : A) (n : ℕ) → bind (X n) (λ fs m. got (g (k a ∷ fs)) m) ≡ bind (Y a n) (λ p m. got (rule_fields p) m))
    → bind (bind (bind r (λ a n. got (k a) n)) (λ f n. bind (X n) (λ fs m. got (f ∷ fs) m))) (λ fs m. got (g fs) m) ≡ bind (bind r Y) (λ p m. got (rule_fields p) m)
stage (got a n) k X Y g h = assoc (X n) (λ fs. k a ∷ fs) g ∙ h a n
stage (refused c) k X Y g h = refl

-- a field after its count
stage_counted : {A : Type 0} (r : Result ℕ) (R : ℕ → Parser A) (k : A → Field) (X : Parser (List Field)) (Y : A → Parser Pattern) (g : List Field → List Field)
    → ((a : A) (n : ℕ) → bind (X n) (λ fs m. got (g (k a ∷ fs)) m) ≡ bind (Y a n) (λ p m. got (rule_fields p) m))
    → bind (bind (bind r (λ c i. bind (R c i) (λ a n. got (k a) n))) (λ f n. bind (X n) (λ fs m. got (f ∷ fs) m))) (λ fs m. got (g fs) m)
    ≡ bind (bind r (λ c i. bind (R c i) Y)) (λ p m. got (rule_fields p) m)
stage_counted (got c i) R k X Y g h = stage (R c i) k X Y g h
stage_counted (refused c) R k X Y g h = refl

rule_read : (s : List ℕ) (issued at : ℕ) → fields.fields s issued rule_sorts at ≡ bind (fields.rule s issued at) (λ p m. got (rule_fields p) m)
unfolding fields.fields fields.field fields.rule
rule_read s issued at =
    let term = reading.term s issued levels in
    let to : Parts → Term → ℕ → List Term → Term → Pattern = λ i r m ts v. record { interface = i; receiver = r; member = m; arguments = ts; value = v } in
    let y5 : Parts → Term → ℕ → List Term → Term → Parser Pattern = λ i r m ts v n. got (to i r m ts v) n in
    let y4 : Parts → Term → ℕ → List Term → Parser Pattern = λ i r m ts n. bind (term n) (y5 i r m ts) in
    let y3 : Parts → Term → ℕ → Parser Pattern = λ i r m n. bind (reading.count s n) (λ c j. bind (rows.arguments s term c j) (y4 i r m)) in
    let y2 : Parts → Term → Parser Pattern = λ i r n. bind (number s (ceiling shape.definition) n) (y3 i r) in
    let y1 : Parts → Parser Pattern = λ i n. bind (term n) (y2 i) in
    bind_got (fields.fields s issued rule_sorts at)
    ∙ stage (fields.nominal_field s issued at) bare (fields.fields s issued (fields.term ∷ fields.ordinary ∷ fields.arguments ∷ fields.term ∷ [])) y1 (λ fs. fs) (λ i n.
    stage (term n) tree (fields.fields s issued (fields.ordinary ∷ fields.arguments ∷ fields.term ∷ [])) (y2 i) (λ fs. bare i ∷ fs) (λ r n.
    stage (number s (ceiling shape.definition) n) value (fields.fields s issued (fields.arguments ∷ fields.term ∷ [])) (y3 i r) (λ fs. bare i ∷ tree r ∷ fs) (λ m n.
    stage_counted (reading.count s n) (λ c. rows.arguments s term c) listed (fields.fields s issued (fields.term ∷ [])) (y4 i r m) (λ fs. bare i ∷ tree r ∷ value m ∷ fs) (λ ts n.
    stage (term n) tree (fields.fields s issued []) (y5 i r m ts) (λ fs. bare i ∷ tree r ∷ value m ∷ listed ts ∷ fs) (λ v n. refl)))))

refused_from : {A B : Type 0} (r : Result A) (k : A → B) (c : ℕ) → bind r (λ a n. got (k a) n) ≡ refused c → r ≡ refused c
refused_from (got a n) k c e = never c (k a) n (sym e)
refused_from (refused b) k c e = let z : b ≡ c = cc in rw z

-- ---- a rule's record

terms_many : (ts : List Term) → length ts ≤ length (part_items (argument_row ts))
unfolding argument_row items
terms_many [] = omega arith
terms_many (t ∷ ts) = omega (arith, length-append (items t) (part_items (argument_row ts)), items_some t, terms_many ts)

same_rule : (a b : Rule) → a.interface ≡ b.interface → a.receiver ≡ b.receiver → a.member ≡ b.member → a.arguments ≡ b.arguments → a.count ≡ b.count → a.value ≡ b.value → a ≡ b
same_rule a b i r m l c v = let e : record { interface = a.interface; receiver = a.receiver; member = a.member; arguments = a.arguments; count = a.count; value = a.value } ≡ b = rw (i, r, m, l, c, v) in e

-- what was read of a rule
pub record RuleHere (s : List ℕ) (issued : ℕ) (p : Place) (d e : Area) (o : FieldSpots) (q : Place) : Type 0 where
  pub rule : Pattern
  pub found : fields.rule s issued p.at ≡ got rule q.at
  pub stored : Stored p q d e (all_items (rule_fields rule)) (all_nodes (rule_fields rule))
  pub inside : q.at ≤ length s
  pub is : rule_from o ≡ placed_rule p.top rule
  pub fits : WordsFit o

module _ {s : List ℕ} (ws : List Rule) (octets : Octets s) {issued : ℕ} {p : Place} {d e : Area} (ample : Ample s p) where
  rule_made : (x : Pattern) (o : FieldSpots) (q : Place) → fields.fields s issued rule_sorts p.at ≡ got (rule_fields x) q.at → fields.rule s issued p.at ≡ got x q.at
      → Stored p q d e (all_items (rule_fields x)) (all_nodes (rule_fields x)) → Spots s ws p.top o (rule_fields x) → q.at ≤ length s → RuleHere s issued p d e o q
  unfolding spot_at nth start_at field_items all_items FormedFields
  rule_made x o q read found st sp inside =
      let good = fields_found s octets issued rule_sorts p.at (rule_fields x) q.at read in
      let a = p.top in
      let i = items (node 20 x.interface) in
      let r = items x.receiver in
      let l = part_items (argument_row x.arguments) in
      let v = items x.value in
      let s0 : o.first.place ≡ a = sp 0 (omega arith) in
      let s1 : o.second.place ≡ a + length i = sp 1 (omega arith) in
      let s2 : o.third.value ≡ x.member = sp 2 (omega arith) in
      let s3 = sp 3 (omega arith) in
      let s3v : o.fourth.value ≡ length x.arguments = s3.0 in
      let s3p : o.fourth.place ≡ a + length i + length r + 0 = s3.1 in
      let s4 : o.fifth.place ≡ a + length i + length r + 0 + length l = sp 4 (omega arith) in
      let l1 = length-append i (r ++ (l ++ (v ++ []))) in
      let l2 = length-append r (l ++ (v ++ [])) in
      let l3 = length-append l (v ++ []) in
      let top = good.tokens in
      let few = terms_many x.arguments in
      let member : x.member ≤ 4294967295 = good.formed.1.1.0 in
      record {
        rule = x;
        found = found;
        stored = st;
        inside = inside;
        is = same_rule _ _ s0 s1 s2 (omega arith) s3v (omega arith);
        fits = record {
          first = omega (arith, ample.tokens);
          second = omega (arith, ample.tokens);
          third = omega arith;
          fourth = omega (arith, ample.tokens);
          count = omega (arith, ample.tokens);
          fifth = omega (arith, ample.tokens);
        };
      }

  pub rule_here : {o : FieldSpots} {q : Place} → FieldsHere s ws (fields.fields s issued rule_sorts p.at) p d e o q → RuleHere s issued p d e o q
  rule_here {o} {q} z =
      let y = parts_of (fields.rule s issued p.at) (λ x m. got (rule_fields x) m) z.read q.at (sym (rule_read s issued p.at) ∙ z.is) in
      go y.0 y.1 y.2 (same_value y.3) (same_next y.3)
    where
      go : (x : Pattern) (m : ℕ) → fields.rule s issued p.at ≡ got x m → rule_fields x ≡ z.read → m ≡ q.at → RuleHere s issued p d e o q
      go x m h is next =
          rule_made x o q (rw (← is) at z.is) (rw next at h) (stored_as p q d e _ _ _ _ (ap all_items (sym is)) (ap all_nodes (sym is)) z.stored) (λ j k. rw is (z.spots j k)) z.inside

pub rule_refused : (s : List ℕ) (issued at : ℕ) {c : ℕ} → fields.fields s issued rule_sorts at ≡ refused c → fields.rule s issued at ≡ refused c
rule_refused s issued at {c} e = refused_from (fields.rule s issued at) rule_fields c (sym (rule_read s issued at) ∙ e)

-- ---- one rule more

append-nil : (l : List Item) → l ++ [] ≡ l
append-nil [] = refl
append-nil (x ∷ l) = ap (λ (m : List Item). x ∷ m) (append-nil l)

rule_items_lem : (ps : List Pattern) (x : Pattern) → rule_items (ps ++ (x ∷ [])) ≡ rule_items ps ++ all_items (rule_fields x)
unfolding rule_items all_items field_items
rule_items_lem [] x = append-nil (items (node 20 x.interface) ++ (items x.receiver ++ (part_items (argument_row x.arguments) ++ (items x.value ++ []))))
rule_items_lem (p ∷ ps) x =
    let one = items (node 20 p.interface) ++ (items p.receiver ++ (part_items (argument_row p.arguments) ++ (items p.value ++ []))) in
    ap (λ (l : List Item). one ++ l) (rule_items_lem ps x) ∙ sym (append_assoc one (rule_items ps) _)

rule_nodes_lem : (ps : List Pattern) (x : Pattern) → rule_nodes (ps ++ (x ∷ [])) ≡ rule_nodes ps + all_nodes (rule_fields x)
unfolding rule_nodes all_nodes nodes
rule_nodes_lem [] x = omega arith
rule_nodes_lem (p ∷ ps) x = omega (arith, rule_nodes_lem ps x)

placed_more : (ps : List Pattern) (a : ℕ) (x : Pattern) → placed_rules a (ps ++ (x ∷ [])) ≡ placed_rules a ps ++ (placed_rule (a + length (rule_items ps)) x ∷ [])
unfolding placed_rules rule_items
placed_more [] a x = let z : a + 0 ≡ a = omega arith in rw z refl
placed_more (p ∷ ps) a x =
    let one = items (node 20 p.interface) ++ (items p.receiver ++ (part_items (argument_row p.arguments) ++ (items p.value ++ []))) in
    let z : a + length (one ++ []) + length (rule_items ps) ≡ a + length (one ++ rule_items ps) = omega (arith, length-append one (rule_items ps), length-append one []) in
    ap (λ (l : List Rule). placed_rule a p ∷ l) (placed_more ps (a + length (one ++ [])) x ∙ rw z refl)

-- a rule stored after those before it
placed_stored : (us : List Rule) (ps : List Pattern) (a r b : ℕ) (x : Pattern) → r ≡ length ps → b ≡ a + length (rule_items ps) → r < length us
    → take (length ps) us ≡ placed_rules a ps → take (length (ps ++ (x ∷ []))) (set us r (placed_rule b x)) ≡ placed_rules a (ps ++ (x ∷ []))
placed_stored us ps a r b x er eb lt e =
    let n : length (ps ++ (x ∷ [])) ≡ r + 1 = omega (arith, length-append ps (x ∷ [])) in
    rw (n, placed_more ps a x, ← eb) (take_more_set us r (placed_rule b x) lt ∙ ap (λ (l : List Rule). l ++ (placed_rule b x ∷ [])) (rw er e))

-- `read` are the first r of n rules; us are those stored
pub record RulesThrough (s : List ℕ) (issued n : ℕ) (p : Place) (d e : Area) (ws us : List Rule) (r : ℕ) (q : Place) : Type 0 where
  pub read : List Pattern
  pub count : r ≡ length read
  pub within : r ≤ n
  pub whole : fields.rule_list s issued n p.at ≡ bind (fields.rule_list s issued (n - r) q.at) (λ gs m. got (read ++ gs) m)
  pub stored : Stored p q d e (rule_items read) (rule_nodes read)
  pub placed : length read ≤ length us → take (length read) us ≡ placed_rules p.top read
  pub long : length us ≡ length ws
  pub ample : Ample s q

pub rules_start : {s : List ℕ} {issued n : ℕ} (p : Place) (d : Area) {ws : List Rule} → Free p.top d → Ample s p → RulesThrough s issued n p d d ws ws 0 p
unfolding rule_items rule_nodes placed_rules
rules_start {s} {issued} {n} p d f a = record {
  read = [];
  count = refl;
  within = omega arith;
  whole = let z : n - 0 ≡ n = omega arith in rw z (bind_got (fields.rule_list s issued n p.at));
  stored = stored_none p p d f refl refl refl;
  placed = λ h. refl;
  long = refl;
  ample = a;
}

module _ {s : List ℕ} (octets : Octets s) {issued n : ℕ} {p : Place} {d e : Area} {ws us : List Rule} {r : ℕ} {q : Place} (x : RulesThrough s issued n p d e ws us r q) where
  whole_split : r < n → fields.rule_list s issued n p.at
      ≡ bind (bind (fields.rule s issued q.at) (λ y m. bind (fields.rule_list s issued (n - (r + 1)) m) (λ ys j. got (y ∷ ys) j))) (λ gs m. got (x.read ++ gs) m)
  unfolding fields.rule_list
  whole_split h =
      let z : n - r ≡ suc (n - (r + 1)) = omega arith in
      x.whole ∙ ap (λ (k : ℕ). bind (fields.rule_list s issued k q.at) (λ gs m. got (x.read ++ gs) m)) z

  rule_pace : (y : Pattern) (m : ℕ) → fields.rule s issued q.at ≡ got y m → (length (all_items (rule_fields y)) + 2 * q.at ≤ 2 * m) × (all_nodes (rule_fields y) + q.at ≤ m)
  rule_pace y m h =
      let here : fields.fields s issued rule_sorts q.at ≡ got (rule_fields y) m = rule_read s issued q.at ∙ ap (λ (z : Result Pattern). bind z (λ p m. got (rule_fields p) m)) h in
      let good = fields_found s octets issued rule_sorts q.at (rule_fields y) m here in
      (good.tokens, good.counts)

  pub rules_more : r < n → (u : Place) (g : Area) (vs : List Rule) → RuleDone (fields.rule s issued q.at) s q e g r us vs (Next u) → RulesThrough s issued n p d g ws vs (r + 1) u
  rules_more h u g vs (y, found, stored, inside, put) =
      let both = stored_then p q u d e g (rule_items x.read) (all_items (rule_fields y)) (rule_nodes x.read) (all_nodes (rule_fields y)) x.stored stored in
      let pace = rule_pace y u.at found in
      record {
        read = x.read ++ (y ∷ []);
        count = omega (arith, x.count, length-append x.read (y ∷ []));
        within = omega arith;
        whole = whole_split h ∙ ap (λ (z : Result Pattern). bind (bind z (λ y m. bind (fields.rule_list s issued (n - (r + 1)) m) (λ ys j. got (y ∷ ys) j))) (λ gs m. got (x.read ++ gs) m)) found ∙ join x.read y (fields.rule_list s issued (n - (r + 1)) u.at);
        stored = stored_as p u d g _ _ _ _ (sym (rule_items_lem x.read y)) (sym (rule_nodes_lem x.read y)) both;
        placed = λ k.
            let long : length vs ≡ length us = ap length put ∙ length-set us r (placed_rule q.top y) in
            rw put (placed_stored us x.read p.top r q.top y x.count x.stored.tokens (omega (arith, length-append x.read (y ∷ []), x.count)) (x.placed (omega (arith, length-append x.read (y ∷ [])))));
        long = ap length put ∙ length-set us r (placed_rule q.top y) ∙ x.long;
        ample = ample_after q u e g (all_items (rule_fields y)) (all_nodes (rule_fields y)) stored s x.ample pace.0 pace.1 inside;
      }
    where
      join : (ps : List Pattern) (y : Pattern) (z : Result (List Pattern)) → bind (bind z (λ gs m. got (y ∷ gs) m)) (λ gs m. got (ps ++ gs) m) ≡ bind z (λ gs m. got ((ps ++ (y ∷ [])) ++ gs) m)
      join ps y (got gs m) = ap (λ (k : List Pattern). got k m) (sym (append_assoc ps (y ∷ []) gs))
      join ps y (refused c) = refl

  pub rules_stop : r < n → (c : ℕ) (g : Area) (vs : List Rule) → RuleDone (fields.rule s issued q.at) s q e g r us vs (Stopped c) → fields.rule_list s issued n p.at ≡ refused c
  rules_stop h c g vs y =
      whole_split h ∙ ap (λ (z : Result Pattern). bind (bind z (λ y m. bind (fields.rule_list s issued (n - (r + 1)) m) (λ ys j. got (y ∷ ys) j))) (λ gs m. got (x.read ++ gs) m)) y.0

  pub rules_undo : (g f : Area) (k : ℕ) → Free p.top d → g ≡ e → k ≡ q.top - p.top → f ≡ blank g p.top k → f ≡ d
  rules_undo g f k z same h y = y ∙ ap (λ (w : Area). blank w p.top k) same ∙ stored_undo p q d z e (rule_items x.read) (rule_nodes x.read) k x.stored h

  pub rules_end : n ≤ r → RulesDone (fields.rule_list s issued n p.at) s p d e n us (Next q)
  unfolding fields.rule_list
  rules_end h =
      let z : n - r ≡ 0 = omega arith in
      let whole : fields.rule_list s issued n p.at ≡ got (x.read ++ []) q.at = x.whole ∙ ap (λ (k : ℕ). bind (fields.rule_list s issued k q.at) (λ gs m. got (x.read ++ gs) m)) z in
      let e : r ≡ n = omega (arith, x.within) in (
        x.read,
        whole ∙ ap (λ (k : List Pattern). got k q.at) (nil x.read),
        x.stored,
        x.ample.inside,
        omega (arith, x.count),
        x.placed,
      )
    where
      nil : (k : List Pattern) → k ++ [] ≡ k
      nil [] = refl
      nil (y ∷ k) = ap (λ (m : List Pattern). y ∷ m) (nil k)
