use borrow.Author.Tests.{eq-eqb}
use Rattle.terms.proofs.Laws.General.Bools.{never_true}
use lib.Seq.{get_or-take, get_or-drop, length-take-le}
use mathlib.Core.Path.{◌≡◌, refl, sym, ap, ◌∙◌}
use Prim.Native.Nat.{ℕ, ◌+◌, ◌-◌, ◌<◌}
use lib.ListN.{get_or, drop, length-drop}
use native.Mathlib.Omega.{arith}
use Rattle.std.specs.declared.option.Option as rust
use Rattle.solver.specs.Session.{find}
use Rattle.solver.proofs.Laws.Definition.InOrderLaws.{find_issued}
use Rattle.solver.proofs.Laws.Table.MethodLaws.{Fits-at, search_none, search_answer, none_named}
use Rattle.std.proofs.Common.{rules, tests}
use Rattle.std.proofs.lemmas.Iterator.Search.{find_from_yields_List}
use Rattle.std.specs.Option.{option_map, unwrap_or}
use Rattle.std.specs.Prelude.{Some, None}
use Rattle.solver.proofs.Laws.Table.PlaceSearchLaws.{YieldsList-from_rev_range, search_down, found_below, answer_named}
use Rattle.solver.proofs.variables.find_place.Goals as goal
use Rattle.solver.specs.Words.TableLayout.{sites_from}

pub returns-then-not-contains : goal.returns-then-not-contains
returns-then-not-contains c =
    let a = c.args in
    let b = sites_from a.table.now.variables in
    let n = b + a.issued - b in
    let no : (v : ℕ) → v < a.issued → get_or a.table.now.words.now (b + v) 0 ≡ a.asked.site → ⊥ = λ v h e.
    let l : v < n = omega arith in
    let f = c.if-not-contains.ensures.cases v 0 (omega arith) (omega (arith, length-take-le n (drop b a.table.now.words.now) (omega (arith, length-drop b a.table.now.words.now)))) in
    never_true (sym f ∙ eq-eqb _ _ (get_or-take n (drop b a.table.now.words.now) v 0 l ∙ get_or-drop b a.table.now.words.now v 0 ∙ e)) in
    let w = search_none a.asked.kind a.asked.site a.asked.slot a.table.now.variables a.table.now.words.now a.issued a.issued (omega arith) no in
    record { word = w; low = λ v e. absurd (cc); place = λ p ps h n g. none_named a.issued (find p ps) (search_answer a.asked.kind a.asked.site a.asked.slot a.table.now.variables a.table.now.words.now a.issued a.issued w p ps h n g) (λ v e. omega (arith, n, find_issued p ps v e)) }

-- an option mapped to itself is the same
same_option : (r : rust.Option ℕ) → option_map (λ (x : ℕ). x) r ≡ r
same_option (Some x) = refl
same_option None = refl

pub returns : goal.returns
returns c =
    let a = c.args in
    let t = Fits-at a.asked.kind a.asked.site a.asked.slot a.table.now.variables a.table.now.words.now a.issued in
    let r = c.find.result in
    let e = sym (same_option r) ∙ find_from_yields_List t _ _ _ c.find.ensures.ran (YieldsList-from_rev_range a.issued c.rev.ensures.source) (λ x b q k. search (rules, tests)) in
    let w = ap (λ (o : rust.Option ℕ). unwrap_or o a.issued) e ∙ search_down a.asked.kind a.asked.site a.asked.slot a.table.now.variables a.table.now.words.now a.issued a.issued (omega (arith, c.requires)) in
    let low : (v : ℕ) → r ≡ Some v → v < a.issued = λ v h. found_below t a.issued v (sym e ∙ h) in
    record { word = w; low = low; place = λ p ps h n g. answer_named r a.issued (find p ps) (search_answer a.asked.kind a.asked.site a.asked.slot a.table.now.variables a.table.now.words.now a.issued (unwrap_or r a.issued) w p ps h n g) low (λ v e. omega (arith, n, find_issued p ps v e)) }
