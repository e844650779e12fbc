-- What a number variable may be bound to, by tokens and words, and the binding made.
use mathlib.Core.Path.{◌≡◌, refl, sym, ap, ap₂, ◌∙◌, subst}
use mathlib.Core.Bool.{Bool, true, false, not}
use mathlib.Core.List.{List}
use mathlib.Core.Option.{Option, none, some}
use Prim.Native.Nat.{ℕ, ◌+◌, ◌<◌}
use native.Mathlib.Omega.{arith}
use native.Mathlib.Decide.{ℕ_discrete}
use borrow.Author.Tests.{eq-eqb, ne_eqb}
use lib.Bits.{bit_and}
use lib.Dec.{eqb}
use lib.ListN.{length, get_or}
use Rattle.terms.specs.Term.{Term, var, node, end, num, Held, Parts}
use Rattle.terms.proofs.Laws.Held.HeldLaws.{head_kind, head_value, held_first}
use Rattle.unify.specs.Solver.{put}
use Rattle.unify.specs.Term.{clash}
use Rattle.solver.specs.declared.Solver.{Solver}
use Rattle.std.specs.Prelude.{None}
use Rattle.solver.specs.Words.ChainEnds.{variable_in}
use Rattle.solver.specs.Families.{Family, Request, belongs, meet}
use Rattle.solver.specs.Constrain.{Requests, joined, join, allow, admit}
use Rattle.solver.specs.Session.{Session, with_solver, request}
use Rattle.solver.specs.Words.Bindings.{builtin}
use Rattle.solver.specs.Words.SessionRepresentation.{bit, RequestWord, request_in, HeldRequest, Represents}
use Rattle.solver.specs.Words.MethodContract.{is_some, requesting, mask_in, joined_word}
use Rattle.solver.proofs.Laws.Resolving.ChainEndLaws.{Coded, coded_words, coded_is}
use Rattle.solver.proofs.Laws.Definition.RequestLaws.{belongs_builtin, belongs_none}
use Rattle.solver.proofs.Laws.Table.RequestWordLaws.{bit_high, masks, word_admits, words_apart, words_meet, joined-none, held_none, held_some}
use Rattle.solver.proofs.Laws.Table.MethodLaws.{request_near}

-- ---- a builtin, by its tokens

module _ (ks vs : List ℕ) (q : ℕ) where
  -- no builtin has these tokens
  pub no_builtin : (f : Family) → ((c : ℕ) → Coded ks vs q c → ⊥) → (t : Term) → Held ks vs q t → false ≡ belongs f t
  no_builtin f n t h = sym (belongs_none f t (λ c e. n c (coded_words ks vs q c (subst (λ (u : Term). Held ks vs q u) e h))))

  -- a builtin, by the bit of its code
  module _ (word : ℕ) (W : RequestWord word) (a : get_or ks q 0 ≡ 6) (b : get_or vs q 0 ≡ 2) (d : get_or ks (q + 1) 0 ≡ 0) where
    pub builtin_bit : (t : Term) → Held ks vs q t → bit (mask_in word) (get_or vs (q + 1) 0) ≡ belongs (request_in word).family t
    builtin_bit t h =
        sym (ap (belongs (request_in word).family) (coded_is ks vs q a b d t h) ∙ belongs_builtin (request_in word).family (get_or vs (q + 1) 0) ∙ word_admits word W (get_or vs (q + 1) 0))

    pub builtin_high : 31 < get_or vs (q + 1) 0 → (t : Term) → Held ks vs q t → false ≡ belongs (request_in word).family t
    builtin_high l t h = sym (bit_high (mask_in word) (get_or vs (q + 1) 0) (masks word W).1 (omega arith)) ∙ builtin_bit t h

-- ---- whether the requests after it are there

module _ (rs : Requests) (ws : List ℕ) (held : (u : ℕ) → HeldRequest (rs u) (get_or ws u 0)) (v : ℕ) where
  -- a variable with no request may be bound to any term
  pub admit_free : (t : Term) → get_or ws v 0 ≡ 0 → true ≡ is_some (admit rs (rs v) t)
  unfolding admit
  admit_free t e = rw (held_none (rs v) (get_or ws v 0) (held v) e)

  -- a node is of the family or not
  admit_family : (j : ℕ) (ps : Parts) (b : Bool) → (get_or ws v 0 ≡ 0 → ⊥)
      → (RequestWord (get_or ws v 0) → b ≡ belongs (request_in (get_or ws v 0)).family (node j ps)) → b ≡ is_some (admit rs (rs v) (node j ps))
  unfolding admit allow
  admit_family j ps b e d =
      let r = held_some (rs v) (get_or ws v 0) (held v) e in
      rw r.1 (d r.0 ∙ sym (some_allow (belongs (request_in (get_or ws v 0)).family (node j ps))))
    where
      some_allow : (x : Bool) → is_some (allow rs x) ≡ x
      some_allow true = refl
      some_allow false = refl

  -- a builtin by the bit of its code
  pub admit_default : (c : ℕ) (t : Term) (b : Bool) → t ≡ builtin c → (get_or ws v 0 ≡ 0 → ⊥) → b ≡ bit (mask_in (get_or ws v 0)) c → b ≡ is_some (admit rs (rs v) t)
  admit_default c t b h e d =
      admit_family 4 (num c end) b e (λ W. d ∙ sym (belongs_builtin (request_in (get_or ws v 0)).family c ∙ word_admits (get_or ws v 0) W c))
      ∙ ap (λ (y : Term). is_some (admit rs (rs v) y)) (sym h)

module _ (ks vs : List ℕ) (q : ℕ) (rs : Requests) (ws : List ℕ) (held : (u : ℕ) → HeldRequest (rs u) (get_or ws u 0)) (v : ℕ) where
  pub admit_node : (t : Term) (b : Bool) → Held ks vs q t → (get_or ws v 0 ≡ 0 → ⊥) → (get_or ks q 0 ≡ 1 → ⊥)
      → (RequestWord (get_or ws v 0) → b ≡ belongs (request_in (get_or ws v 0)).family t) → b ≡ is_some (admit rs (rs v) t)
  unfolding head_kind
  admit_node (var w) b h e k d = absurd (k (held_first ks vs q (var w) h).0)
  admit_node (node j ps) b h e k d = admit_family rs ws held v j ps b e d

  -- a variable with no request takes this one
  pub admit_other : (t : Term) → Held ks vs q t → get_or ks q 0 ≡ 1 → get_or ws (get_or vs q 0) 0 ≡ 0 → true ≡ is_some (admit rs (rs v) t)
  unfolding admit join head_kind head_value
  admit_other (node j ps) h k e = absurd (omega (arith, (held_first ks vs q (node j ps) h).0))
  admit_other (var w) h k e = go (rs v)
    where
      free : rs w ≡ none
      free = held_none (rs w) (get_or ws w 0) (held w) (rw (held_first ks vs q (var w) h).1 at e)

      go : (o : Option Request) → true ≡ is_some (admit rs o (var w))
      go none = refl
      go (some r) = rw free

  -- two number variables join where their masks have a bit in common
  pub admit_joins : (t : Term) (m n : ℕ) → Held ks vs q t → get_or ks q 0 ≡ 1 → (get_or ws v 0 ≡ 0 → ⊥) → (get_or ws (get_or vs q 0) 0 ≡ 0 → ⊥)
      → m ≡ mask_in (get_or ws v 0) → n ≡ mask_in (get_or ws (get_or vs q 0) 0) → not (eqb (bit_and m n) 0) ≡ is_some (admit rs (rs v) t)
  unfolding admit join joined head_kind head_value
  admit_joins (node j ps) m n h k e f x y = absurd (omega (arith, (held_first ks vs q (node j ps) h).0))
  admit_joins (var w) m n h k e f x y =
      let at = (held_first ks vs q (var w) h).1 in
      let r = held_some (rs v) (get_or ws v 0) (held v) e in
      let u = held_some (rs w) (get_or ws w 0) (held w) (rw at at f) in
      rw (x, y, at, r.1, u.1) (go r.0 u.0 (ℕ_discrete (bit_and (mask_in (get_or ws v 0)) (mask_in (get_or ws w 0))) 0))
    where
      go : RequestWord (get_or ws v 0) → RequestWord (get_or ws w 0) → Dec (bit_and (mask_in (get_or ws v 0)) (mask_in (get_or ws w 0)) ≡ 0)
          → not (eqb (bit_and (mask_in (get_or ws v 0)) (mask_in (get_or ws w 0))) 0) ≡ is_some (joined rs w (meet (request_in (get_or ws v 0)) (request_in (get_or ws w 0))))
      go A B (yes z) = rw (eq-eqb (bit_and (mask_in (get_or ws v 0)) (mask_in (get_or ws w 0))) 0 z, words_apart (get_or ws v 0) (get_or ws w 0) A B z)
      go A B (no z) = rw (ne_eqb (bit_and (mask_in (get_or ws v 0)) (mask_in (get_or ws w 0))) 0 z, (words_meet (get_or ws v 0) (get_or ws w 0) A B z).1)

-- ---- the requests after it

module _ (x : Solver) (ks vs ts us : List ℕ) (s : Session) (L : Represents x ks vs ts s) (v : ℕ) (below : v < x.variables) where
  held_word : (w : ℕ) (o : Option Request) → w < x.variables → s.solver.requests w ≡ o → HeldRequest o (get_or ts (x.variables + w) 0)
  held_word w o l e =
      subst (λ (p : Option Request). HeldRequest p (get_or ts (x.variables + w) 0)) e
      (subst (λ (n : ℕ). HeldRequest (s.solver.requests w) n) (sym (request_near x.variables ts w l)) (L.requests w))

  still : (rs : Requests) → s.solver.requests ≡ rs → us ≡ ts → Represents x ks vs us (with_solver s (requesting s.solver rs))
  still rs e f = rw (f, ← e) L

  -- v has none
  pub handed_none : (t : Term) (rs : Requests) → get_or ts (x.variables + v) 0 ≡ 0 → us ≡ ts → admit s.solver.requests (s.solver.requests v) t ≡ some rs
      → Represents x ks vs us (with_solver s (requesting s.solver rs))
  unfolding admit
  handed_none t rs z f e =
      let h : HeldRequest (s.solver.requests v) (get_or ts (x.variables + v) 0) = held_word v (s.solver.requests v) below refl in
      let n = held_none (s.solver.requests v) (get_or ts (x.variables + v) 0) h z in
      still rs (let g : some s.solver.requests ≡ some rs = ap (λ (o : Option Request). admit s.solver.requests o t) (sym n) ∙ e in cc (g)) f

  -- it is bound to a node
  pub handed_node : (t : Term) (rs : Requests) → None ≡ variable_in t → us ≡ ts → admit s.solver.requests (s.solver.requests v) t ≡ some rs
      → Represents x ks vs us (with_solver s (requesting s.solver rs))
  unfolding admit allow
  handed_node (var w) rs n f e = clash (cc (n))
  handed_node (node k ps) rs n f e = go (s.solver.requests v) e
    where
      by : (b : Bool) → allow s.solver.requests b ≡ some rs → Represents x ks vs us (with_solver s (requesting s.solver rs))
      by true j = still rs (cc (j)) f
      by false j = clash (cc (j))

      go : (o : Option Request) → admit s.solver.requests o (node k ps) ≡ some rs → Represents x ks vs us (with_solver s (requesting s.solver rs))
      go none j = still rs (cc (j)) f
      go (some r) j = by (belongs r.family (node k ps)) j

  -- to the variable w, whose request is the joined one from now on
  module _ (w : ℕ) (l : w < x.variables) (some_word : get_or ts (x.variables + v) 0 ≡ 0 → ⊥)
      (put_on : RequestWord (joined_word (get_or ts (x.variables + v) 0) (get_or ts (x.variables + w) 0))
      → Represents x ks vs us (request s w (request_in (joined_word (get_or ts (x.variables + v) 0) (get_or ts (x.variables + w) 0))))) where
    moves : (r : Request) (rs : Requests) → HeldRequest (some r) (joined_word (get_or ts (x.variables + v) 0) (get_or ts (x.variables + w) 0))
        → put s.solver.requests w (some r) ≡ rs → Represents x ks vs us (with_solver s (requesting s.solver rs))
    moves r rs g f = rw (← f, g.1) (put_on g.0)

    pub handed_to : (rs : Requests) → admit s.solver.requests (s.solver.requests v) (var w) ≡ some rs → Represents x ks vs us (with_solver s (requesting s.solver rs))
    unfolding admit join joined
    handed_to rs e = go (s.solver.requests v) refl e
      where
        met : (r u : Request) → s.solver.requests v ≡ some r → s.solver.requests w ≡ some u
            → (m : Option Request) → meet r u ≡ m → joined s.solver.requests w m ≡ some rs → Represents x ks vs us (with_solver s (requesting s.solver rs))
        met r u p o none i j = clash (cc (j))
        met r u p o (some g) i j =
            let A = held_word v (some r) below p in
            let B = held_word w (some u) l o in
            let a = get_or ts (x.variables + v) 0 in
            let b = get_or ts (x.variables + w) 0 in
            let e : meet (request_in a) (request_in b) ≡ some g = ap₂ meet (sym A.1) (sym B.1) ∙ i in
            let n : bit_and (mask_in a) (mask_in b) ≡ 0 → ⊥ = λ z. let y = words_apart a b A.0 B.0 z in clash (cc) in
            let W = words_meet a b A.0 B.0 n in
            let y : g ≡ request_in (joined_word a b) = let y = W.1 in cc in
            moves g rs (W.0, y) (cc (j))

        towards : (r : Request) → s.solver.requests v ≡ some r → (o : Option Request) → s.solver.requests w ≡ o → join s.solver.requests r w o ≡ some rs
            → Represents x ks vs us (with_solver s (requesting s.solver rs))
        towards r p none o j =
            let A = held_word v (some r) below p in
            let a = get_or ts (x.variables + v) 0 in
            let z : get_or ts (x.variables + w) 0 ≡ 0 = held_word w none l o in
            let e : joined_word a (get_or ts (x.variables + w) 0) ≡ a = ap (joined_word a) z ∙ joined-none a A.0 in
            moves r rs (subst (λ (n : ℕ). HeldRequest (some r) n) (sym e) A) (cc (j))
        towards r p (some u) o j = met r u p o (meet r u) refl j

        go : (o : Option Request) → s.solver.requests v ≡ o → admit s.solver.requests o (var w) ≡ some rs → Represents x ks vs us (with_solver s (requesting s.solver rs))
        go none p j = absurd (some_word (held_word v none below p))
        go (some r) p j = towards r p (s.solver.requests w) refl j
