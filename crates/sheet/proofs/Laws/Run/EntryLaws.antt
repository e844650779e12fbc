-- The end of a run, and when there is one.
use mathlib.Core.Path.{◌≡◌, refl, sym, ap, ◌∙◌}
use mathlib.Core.Bool.{Bool, true, false, ◌&&◌}
use mathlib.Core.List.{List, ◌++◌, append-nil}
use Prim.Native.Nat.{ℕ, ◌+◌, ◌-◌, ◌≤◌, ◌<◌}
use native.Mathlib.Decide.{dec_lt}
use native.Mathlib.Omega.{arith}
use borrow.Author.Tests.{leb-true}
use borrow.Rule.Slice.PartMut.{post_of, put_mid, Post-is, same_len_mid, take_put}
use lib.ListN.{length, get_or, take, drop, replicate, length-append, length-drop, length-replicate}
use lib.Seq.{get_or-take, get_or-drop, length_front, length-take-le, take_at, drop_at, drop-length}
use Rattle.solver.specs.Terms.Result.{pick}
use Rattle.solver.specs.declared.Solver.{Solver}
use Rattle.solver.specs.Session.{Limits}
use Rattle.solver.specs.Words.Worklist.{Zero}
use Rattle.solver.specs.Words.SessionsContract.{counters}
use Rattle.solver.proofs.Laws.Table.SessionsLaws.{all_zero, zero_cleared}
use Rattle.sheet.specs.Sheet.{run_of}
use Rattle.sheet.specs.Words.SessionInAreas.{Areas, areas, Roomy, AreasSuffice}
use Rattle.sheet.specs.Entry.{Ended, Finish, finished, sizes_accepted, state_after_run, entry_result}

-- ---- sizes

-- areas of as many words do for the same limits
pub roomy_same : {x y : Solver} {m n : Areas} → y.variables ≡ x.variables → y.nodes ≡ x.nodes
    → length n.a ≡ length m.a → length n.b ≡ length m.b → length n.records ≡ length m.records → length n.table ≡ length m.table → length n.d ≡ length m.d
    → AreasSuffice x (length m.a) m → AreasSuffice y (length n.a) n
roomy_same v k la lb lr lt ld R =
    record {
      a_size = refl;
      b_size = lb ∙ R.b_size ∙ sym la;
      c_size = omega (arith, lr, lt, la, R.c_size);
      d_size = ld ∙ R.d_size ∙ sym la;
      roomy = rw (v, k, la) R.roomy;
      records = lr ∙ R.records;
      few = rw la R.few;
      rules = rw k R.rules;
    }

-- 16,384 words do for 512 variables and 2,048 nodes, and 65,536 for 2,048 variables and 8,192 nodes
pub roomy_small : Roomy 512 2048 16384
roomy_small = record { tokens = omega arith; nominals = omega arith; table = omega arith; links = omega arith; marks = omega arith }

pub roomy_large : Roomy 2048 8192 65536
roomy_large = record { tokens = omega arith; nominals = omega arith; table = omega arith; links = omega arith; marks = omega arith }

pub roomy_box : (a b c d : List ℕ) → 16384 ≤ length a → 16384 ≤ length b → 16384 ≤ length c → 16384 ≤ length d
    → AreasSuffice (counters (record { variables = 512; nodes = 2048 })) 16384 (areas (take 16384 a) (take 16384 b) (take 8192 (take 16384 c)) (drop 8192 (take 16384 c)) (take 16384 d))
roomy_box a b c d ha hb hc hd =
    let all : length (take 16384 c) ≡ 16384 = length-take-le 16384 c hc in
    let front : length (take 8192 (take 16384 c)) ≡ 8192 = length-take-le 8192 (take 16384 c) (omega arith) in
    let rest : length (drop 8192 (take 16384 c)) ≡ length (take 16384 c) - 8192 = length-drop 8192 (take 16384 c) in
    record {
      a_size = length-take-le 16384 a ha;
      b_size = length-take-le 16384 b hb;
      c_size = omega (arith, front, rest, all);
      d_size = length-take-le 16384 d hd;
      roomy = roomy_small;
      records = front;
      few = omega arith;
      rules = omega arith;
    }

pub record Suited (words sheet out a b c d : ℕ) : Type 0 where
  pub sheet_size : sheet ≤ 16777216
  pub out_size : out ≤ 16777216
  pub a_size : words ≤ a
  pub b_size : words ≤ b
  pub c_size : words ≤ c
  pub d_size : words ≤ d

both : (p q : Bool) → (p && q) ≡ true → (p ≡ true) × (q ≡ true)
both true true e = (refl, refl)
both true false e = (refl, e)
both false q e = let z : ◌≡◌ {A = ℕ} 0 1 = cc in absurd (omega arith)

pub suited : (words sheet out a b c d : ℕ) → sizes_accepted words sheet out a b c d ≡ true → Suited words sheet out a b c d
unfolding sizes_accepted
suited words sheet out a b c d e =
    let p₁ = both _ _ e in
    let p₂ = both _ _ p₁.0 in
    let p₃ = both _ _ p₂.0 in
    let p₄ = both _ _ p₃.0 in
    let p₅ = both _ _ p₄.0 in
    record {
      sheet_size = leb-true sheet 16777216 p₅.0;
      out_size = leb-true out 16777216 p₅.1;
      a_size = leb-true words a p₄.1;
      b_size = leb-true words b p₃.1;
      c_size = leb-true words c p₂.1;
      d_size = leb-true words d p₁.1;
    }

-- ---- the areas cleared

-- the words from a position on
at_from : (l : List ℕ) (n j : ℕ) → n ≤ j → get_or l j 0 ≡ get_or (drop n l) (j - n) 0
at_from l n j h =
    let e : j ≡ n + (j - n) = omega arith in
    ap (λ (i : ℕ). get_or l i 0) e ∙ sym (get_or-drop n l (j - n) 0)

-- the words that were put back from a position on
pub tail_back : (n : ℕ) (l us : List ℕ) → n ≤ length l → drop n (put_mid n (length l - n) l us) ≡ us
tail_back n l us h =
    drop_at (take n l) (us ++ post_of n (length l - n) l) n (length-take-le n l h)
    ∙ ap (λ (k : List ℕ). us ++ k) (Post-is n (length l) l h ∙ drop-length l) ∙ append-nil us

-- a list of which the first n words are 0, and the others were cleared
tail_cleared : (n : ℕ) (l v : List ℕ) → n ≤ length l → ((j : ℕ) → j < n → get_or l j 0 ≡ 0) → v ≡ replicate (length (take (length l - n) (drop n l))) 0
    → put_mid n (length l - n) l v ≡ replicate (length l) 0
tail_cleared n l v inside z e =
    all_zero whole (length l) (same_len_mid n (length l - n) l v (ap length e ∙ length-replicate (length (take (length l - n) (drop n l))) 0)) (λ j h. go j (dec_lt j n))
  where
    whole : List ℕ
    whole = put_mid n (length l - n) l v

    go : (j : ℕ) → Dec (j < n) → get_or whole j 0 ≡ 0
    go j (yes p) =
        sym (get_or-take n whole j 0 p) ∙ ap (λ (k : List ℕ). get_or k j 0) (take_put n (length l - n) l v inside) ∙ get_or-take n l j 0 p ∙ z j p
    go j (no p) =
        at_from whole n j (omega arith) ∙ ap (λ (k : List ℕ). get_or k (j - n) 0) (tail_back n l v inside)
        ∙ zero_cleared v (length (take (length l - n) (drop n l))) e (j - n)

-- an area of which a front part was lent and came back all 0, and whose rest was cleared then
pub area_cleared : (n : ℕ) (area part v : List ℕ) → n ≤ length area → length part ≡ length (take n area) → Zero part
    → v ≡ replicate (length (take (length (part ++ drop n area) - n) (drop n (part ++ drop n area)))) 0
    → put_mid n (length (part ++ drop n area) - n) (part ++ drop n area) v ≡ replicate (length area) 0
area_cleared n area part v h e z c =
    let l = length_front area part n e in
    tail_cleared n (part ++ drop n area) v (omega arith)
    (λ j q.
    sym (get_or-take n (part ++ drop n area) j 0 q)
    ∙ ap (λ (k : List ℕ). get_or k j 0) (take_at part (drop n area) n (e ∙ length-take-le n area h)) ∙ z j)
    c
    ∙ ap (λ (k : ℕ). replicate k 0) l

-- ---- the end

pub ended_leaving : (lim : Limits) (s out₀ : List ℕ) (r n m : ℕ) (out a b c d a₀ b₀ c₀ d₀ : List ℕ) → Ended lim s out₀ r n m out
    → a ≡ replicate (length a₀) 0 → b ≡ replicate (length b₀) 0 → c ≡ replicate (length c₀) 0 → d ≡ replicate (length d₀) 0
    → finished r n m out a b c d ≡ state_after_run (run_of lim s (length out₀)) out₀ a₀ b₀ c₀ d₀
unfolding state_after_run
ended_leaving lim s out₀ r n m out a b c d a₀ b₀ c₀ d₀ E ea eb ec ed =
    let er = E.reason in
    let en = E.orders in
    let em = E.bytes in
    let eo = E.output in
    rw (er, en, em, eo, ea, eb, ec, ed) refl

pub finish_unfit : (lim : Limits) (words : ℕ) (s out a b c d : List ℕ) → sizes_accepted words (length s) (length out) (length a) (length b) (length c) (length d) ≡ false
    → finished 12 0 0 out a b c d ≡ entry_result lim words s out a b c d
unfolding entry_result
finish_unfit lim words s out a b c d e = rw e refl

pub finish_run : (lim : Limits) (words : ℕ) (s out a b c d : List ℕ) (x : Finish)
    → sizes_accepted words (length s) (length out) (length a) (length b) (length c) (length d) ≡ true
    → x ≡ state_after_run (run_of lim s (length out)) out a b c d → x ≡ entry_result lim words s out a b c d
unfolding entry_result
finish_run lim words s out a b c d x e p = rw e p

-- what a caller may write out: the bytes of the answers lie within the output
pub bytes_inside : (lim : Limits) (words : ℕ) (s out₀ a₀ b₀ c₀ d₀ : List ℕ) (r n m : ℕ) (out a b c d : List ℕ)
    → finished r n m out a b c d ≡ entry_result lim words s out₀ a₀ b₀ c₀ d₀ → m ≤ length out
unfolding entry_result state_after_run
bytes_inside lim words s out₀ a₀ b₀ c₀ d₀ r n m out a b c d e = go (sizes_accepted words (length s) (length out₀) (length a₀) (length b₀) (length c₀) (length d₀)) e
  where
    w : List ℕ
    w = (run_of lim s (length out₀)).answers

    go : (t : Bool)
        → finished r n m out a b c d ≡ pick t (state_after_run (run_of lim s (length out₀)) out₀ a₀ b₀ c₀ d₀) (finished 12 0 0 out₀ a₀ b₀ c₀ d₀)
        → m ≤ length out
    go true q =
        let l : m ≡ length w = ap (λ (x : Finish). x.bytes) q in
        let o : out ≡ w ++ drop (length w) out₀ = ap (λ (x : Finish). x.out) q in
        omega (arith, l, ap length o, length-append w (drop (length w) out₀))
    go false q = let l : m ≡ 0 = ap (λ (x : Finish). x.bytes) q in omega (arith, l)
