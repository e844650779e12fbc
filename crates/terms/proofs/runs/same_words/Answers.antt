-- The two parts of the slice are the same list just where they are as long and agree word by word.
use Rattle.std.proofs.Common.{◌≡◌, ℕ, Bool, true, false, IsTrue, ◌↔◌, ◌+◌, ◌-◌, ◌<◌, List, length, get_or, take, drop, arith, refl, sym, ap, ◌∙◌}
use Rattle.std.proofs.lemmas.List.{ext_get_or, get_or-take, get_or-drop, length-take, length-drop}
use Rattle.std.specs.Cmp.Lexicographic.{same_text, other_text}
use Rattle.std.specs.Str.{bytes_eq}
use Rattle.terms.specs.declared.Part.{Part}
use Rattle.terms.specs.Words.Lent.{PartOf, AgreeIn}
use Rattle.terms.proofs.runs.same_words.Goals as goal

module _ (ws : List ℕ) where
  abbrev words : Part → List ℕ
  words p = take (p.end - p.from) (drop p.from ws)

  word_of : (p : Part) (i : ℕ) → i < p.end - p.from → get_or (words p) i 0 ≡ get_or ws (p.from + i) 0
  word_of p i lt = get_or-take (p.end - p.from) (drop p.from ws) i 0 (omega arith) ∙ get_or-drop p.from ws i 0

  long : (p : Part) → PartOf ws p → length (words p) ≡ p.end - p.from
  long p h = omega (arith, h, length-take (p.end - p.from) (drop p.from ws), length-drop p.from ws)

  module _ (a b : Part) (x : PartOf ws a) (y : PartOf ws b) where
    agreeing : words a ≡ words b → AgreeIn ws a b
    agreeing e =
        let n : a.end - a.from ≡ b.end - b.from = sym (long a x) ∙ ap length e ∙ long b y in
        (n, λ i lt. sym (word_of a i lt) ∙ ap (λ (l : List ℕ). get_or l i 0) e ∙ word_of b i (omega arith))

    same_list : AgreeIn ws a b → words a ≡ words b
    same_list f =
        let p = long a x in
        ext_get_or 0 (words a) (words b) (p ∙ f.0 ∙ sym (long b y)) (λ i lt. word_of a i (omega arith) ∙ f.1 i (omega arith) ∙ sym (word_of b i (omega (arith, f.0))))

    told : (r : Bool) → r ≡ bytes_eq (words a) (words b) → IsTrue r ↔ AgreeIn ws a b
    told true e = (λ t. agreeing (same_text _ _ e), λ f. refl)
    told false e = (λ t. absurd cc, λ f. absurd (other_text _ _ e (same_list f)))

pub returns : goal.returns
returns c = told c.args.words.now c.args.a c.args.b c.requires.0 c.requires.1 _ c.eq.ensures
