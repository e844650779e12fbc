-- An order answered in the areas: from the session and what was read to what each function asks, and back to the areas.
use mathlib.Core.Path.{◌≡◌, refl, sym, ap, subst, ◌∙◌}
use mathlib.Core.Bool.{Bool, not}
use mathlib.Core.List.{List, [], ◌∷◌, ◌++◌, append-nil}
use mathlib.Core.Logic.{inl, inr, ⊎_elim}
use mathlib.Core.Option.{some}
use Prim.Native.Nat.{ℕ, zero, suc, ◌^◌, ◌+◌, ◌-◌, ◌*◌, ◌≤◌, ◌<◌}
use native.Mathlib.Decide.{ℕ_discrete}
use native.Mathlib.Omega.{arith}
use borrow.Author.Tests.{ne_eqb, le-ltb}
use lib.ListN.{length, length-append, get_or, take}
use lib.Seq.{length-take-le, get_or-take, take-take}
use Rattle.solver.specs.Terms.Result.{Result}
use Rattle.solver.specs.Terms.Tokens.{Narrow, Item, Area, area, blank, toks}
use Rattle.solver.specs.Terms.Term.{Term, items, size, Held, AllVars, sub, end}
use Rattle.solver.specs.Terms.Held.{HeldParts}
use Rattle.solver.specs.Terms.Normal.{most}
use Rattle.solver.specs.Terms.NormalContract.{Lends}
use Rattle.solver.proofs.Terms.HeldLaws.{held_sub}
use Rattle.solver.proofs.Terms.VirtualTokenLaws.{toks_same}
use Rattle.solver.specs.declared.Solver.{Solver}
use Rattle.solver.specs.Session.{Limits, Session, issued}
use Rattle.solver.specs.Orders as orders
use Rattle.solver.specs.Shapes.{notion}
use Rattle.solver.specs.Constrain.{constrain}
use Rattle.solver.specs.TermTypes.{Rule}
use Rattle.solver.specs.Orders.{Command, solver_of, keeps, order}
use Rattle.solver.specs.Words.Worklist.{Zero}
use Rattle.solver.specs.Words.ConstrainContract.{Scratch}
use Rattle.solver.specs.Words.Halves.{half_words}
use Rattle.solver.specs.Invariant.{InOrder}
use Rattle.solver.specs.Words.SessionRepresentation.{Represents, limits_of}
use Rattle.solver.proofs.Laws.Definition.SolverInvariantLaws.{within_known}
use Rattle.solver.specs.declared.Access.{Access}
use Rattle.solver.specs.declared.Access.TheVariants.{Ignored, Compared}
use Rattle.solver.specs.Words.PendingContract.{strict_of}
use Rattle.sheet.specs.declared.Order.{Order}
use Rattle.sheet.specs.declared.OrderKind.{OrderKind}
use Rattle.sheet.specs.declared.OrderKind.TheVariants as kinds
use Rattle.sheet.specs.declared.OrderKind.TheVariants.{Termless, DeferNever, Constrain, Resolve}
use Rattle.sheet.specs.declared.TermlessKind.{TermlessKind}
use Rattle.sheet.specs.declared.Operation.{Operation}
use Rattle.sheet.specs.Fields as fields
use Rattle.sheet.specs.Fields.{FieldSort, Field, value, tree, all_nodes, nodes, nth, term_of, number_of, number_at}
use Rattle.sheet.specs.OrderTable as rows
use Rattle.sheet.specs.OrderTable.{Answer, refusal, Act, Row, layout, command_by, command_of, Read}
use Rattle.sheet.specs.Operations.{operation}
use Rattle.sheet.specs.Sheet.{read_order, Step, solve, perform, step, step_read, order_of}
use Rattle.sheet.specs.Words.FieldsFormed.{FormedFields}
use Rattle.sheet.specs.Words.OrderGiven.{FitsLayout, Given}
use Rattle.sheet.specs.Words.FieldLayout.{SpotOf, field_items, all_items, spare, spares, spot_at, start_at}
use Rattle.sheet.specs.Words.OrderReaderContract.{RulesRoom, OrderRoom}
use Rattle.sheet.specs.Words.FramingContract.{Output, Wrote, Framed}
use Rattle.sheet.specs.Words.OrderKinds.{termless_row, operation_row, kind_row}
use Rattle.sheet.specs.Words.OperationsContract.{Asks, Replies}
use Rattle.sheet.specs.Words.SessionInAreas.{Areas, areas, RepresentsInAreas, Answers}
use Rattle.sheet.specs.Entry.{AreasReady}
use Rattle.solver.specs.Words.OrderTerms.{Behind, Poses, PosesPair}
use Rattle.sheet.specs.Words.SessionOrdersContract.{lent, Does, Says, DoesPair}
use Rattle.sheet.specs.Words.DispatchContract.{OrderTaken, Serves, Answered}
use Rattle.sheet.proofs.Laws.Reading.StoredLaws.{zero_free, free_kinds, free_vals}
use Rattle.sheet.proofs.Laws.Reading.OrderKindLaws.{termless_act, termless_tokenless}
use Rattle.sheet.proofs.Laws.Answering.SessionRowLaws.{crowds, tokenless_none, one_term, two_terms}
use Rattle.sheet.proofs.Laws.Reading.ReadOrderUseLaws as use-laws
use Rattle.sheet.proofs.Laws.Reading.ReadOrderUseLaws.{order_long}
use Rattle.sheet.proofs.Laws.Answering.TermOrderLaws as posing
use Rattle.sheet.proofs.Laws.Answering.OperationStepLaws.{operation_step}
use Rattle.sheet.proofs.Laws.Answering.SessionInAreasLaws.{reads_fit, places_few, links_fit, solve_kept, answers_does, answers_bound, answers_quiet}

-- ---- the tokens up to a place, lent

narrow_upto : (n : ℕ) (ws : List ℕ) → ((i : ℕ) → get_or ws i 0 < 2 ^ 32) → (i : ℕ) → get_or (take n ws) i 0 < 2 ^ 32
narrow_upto zero ws f i = omega arith
narrow_upto (suc n) [] f i = omega arith
narrow_upto (suc n) (x ∷ xs) f zero = f 0
narrow_upto (suc n) (x ∷ xs) f (suc i) = narrow_upto n xs (λ j. f (suc j)) i

pub taken_narrow : (n : ℕ) (ws : List ℕ) → ((i : ℕ) → get_or ws i 0 < 2 ^ 32) → Narrow (take n ws)
taken_narrow n ws f = record { fits = narrow_upto n ws f }

-- ---- the rows that pose a pair

pair_layout : (w : Access) → layout (kind_row (Constrain w)) ≡ fields.ordinary ∷ fields.term ∷ fields.term ∷ []
unfolding layout
pair_layout Ignored = refl
pair_layout Compared = refl

pair_known : (w : Access) (n : ℕ) → rows.known (kind_row (Constrain w)) n ≡ n
unfolding rows.known
pair_known Ignored n = refl
pair_known Compared n = refl

pair_steps : (w : Access) (lim : Limits) (z : Session) (n : ℕ) (t u : Term)
    → step lim z (kind_row (Constrain w)) (value n ∷ tree t ∷ tree u ∷ []) ≡ solve lim z (orders.pair (strict_of w) n t u)
unfolding step nth term_of number_of
pair_steps Ignored lim z n t u = refl
pair_steps Compared lim z n t u = refl

-- ---- room to read

pub ready_room : (x : Solver) (s a b r t d : List ℕ) (ws : List Rule) → AreasReady x (areas a b r t d) → length s ≤ 16777216 → (get_or s 0 0 ≡ 20 → RulesRoom s ws 2048)
    → OrderRoom s a b ws x.top x.kept x.nodes
ready_room x s a b r t d ws R h w =
    let Y = R.roomy in
    let L = R.in_areas in
    let within : x.kept ≤ x.nodes = omega (arith, L.represents.fits.nodes, L.represents.kept) in
    record {
      bytes = h;
      within = within;
      tokens = reads_fit x.top x.kept x.nodes (length a) Y.roomy.nominals L.few within;
      paired = Y.b_size;
      rules = λ e. ⊎_elim (λ v. inl (omega (arith, Y.rules))) inr (w e);
      short = omega (arith, Y.few);
      few = omega (arith, Y.rules);
      free = zero_free x.top (area a b) L.kinds L.vals;
    }

-- ---- answers

-- in areas that are the same
answers_at : {x y : Solver} {a b a₀ b₀ r t d : List ℕ} {z : Session} {st : Step} {w : Output} {v : Wrote} → area a b ≡ area a₀ b₀
    → Answers y (areas a₀ b₀ r t d) z st w v x → Answers y (areas a b r t d) z st w v x
answers_at {x = x} {y = y} {r = r} {t = t} {d = d} {z = z} {st = st} {w = w} {v = v} e A =
    subst (λ (u : Area). Answers y (areas u.kinds u.vals r t d) z st w v x) (sym e) A

-- that leave the session as it was
answers_same : {x : Solver} {m : Areas} {z : Session} → RepresentsInAreas x m z → (answer : Answer) (w : Output) (v : Wrote) → Framed answer w.bytes w.at v.bytes v.next
    → Answers x m z (record { session = z; answer = answer }) w v x
answers_same Z answer w v F =
    record {
      fits = λ k. ((F.fits k).0, (F.fits k).1, Z);
      long = λ k. ((F.over k).0, (F.over k).1, Z);
      variables = refl;
      nodes = refl;
    }

-- the step is another name for one that is answered
step_as : {x y : Solver} {m : Areas} {z : Session} {st st' : Step} {w : Output} {v : Wrote} → st ≡ st' → Answers y m z st' w v x → Answers y m z st w v x
step_as {x = x} {y = y} {m = m} {z = z} {w = w} {v = v} e A = subst (λ (u : Step). Answers y m z u w v x) (sym e) A

-- ---- an order taken

held_cut : (ks vs : List ℕ) (n p : ℕ) (t : Term) → n ≤ length ks → p + length (items t) ≤ n → Held ks vs p t → Held (take n ks) (take n vs) p t
held_cut ks vs n p t h k x =
    record {
      tokens =
          toks_same (take n ks) (take n vs) ks vs p p (length (items t)) (λ i l. get_or-take n ks (p + i) 0 (omega arith)) (λ i l. get_or-take n vs (p + i) 0 (omega arith))
          ∙ x.tokens;
      within = omega (arith, length-take-le n ks h);
    }

module _ {x : Solver} {s : List ℕ} {m : Areas} {ts : Area} {ws : List Rule} {o : Order} (T : OrderTaken x s m ts ws o) where
  pub taken_after : x.top ≤ o.top
  taken_after = omega (arith, T.whole.tokens)

  a_long : length ts.kinds ≡ length m.a
  a_long = (order_long s x.issued x.top x.kept x.nodes (area m.a m.b) ts ws o T.whole).0

  b_long : length ts.vals ≡ length m.a
  b_long = (order_long s x.issued x.top x.kept x.nodes (area m.a m.b) ts ws o T.whole).1 ∙ T.ready.roomy.b_size

  -- what the bytes say, on any session that the areas held
  step_is : (z : Session) → RepresentsInAreas x m z → order_of (limits_of x) z s ≡ step (limits_of x) z (kind_row o.kind) T.whole.said
  step_is z Z = ap (λ (q : Result Read). step_read (limits_of x) z q) (ap (λ (n : ℕ). read_order s n) (sym Z.represents.issued) ∙ T.whole.is)

  step_as_kind : (z : Session) → RepresentsInAreas x m z → {k : OrderKind} → o.kind ≡ k → order_of (limits_of x) z s ≡ step (limits_of x) z (kind_row k) T.whole.said
  step_as_kind z Z h = step_is z Z ∙ ap (λ (k : OrderKind). step (limits_of x) z (kind_row k) T.whole.said) h

  -- served in the areas that there were: with the tokens of the order cleared they are those
  answered : (y : Solver) → y.top ≡ x.top → (r' t' d' : List ℕ) (w : Output) (v : Wrote) → Serves x y s m (areas m.a m.b r' t' d') w v
      → Answered x y s m ts o r' t' d' w v
  answered y e r' t' d' w v S =
      record {
        inside = omega (arith, taken_after);
        serves = λ a' b' E z A Z. answers_at (E ∙ ap (λ (n : ℕ). blank ts n (o.top - n)) e ∙ T.whole.cleared) (S z A Z);
      }

  -- too many nodes
  pub crowded : x.nodes < o.nodes → (w : Output) (v : Wrote) → Framed (refusal 7) w.bytes w.at v.bytes v.next → Answered x x s m ts o m.records m.table m.d w v
  crowded h w v F =
      answered x refl m.records m.table m.d w v
      (λ z A Z.
      let k = kind_row o.kind in
      let fs = T.whole.said in
      let formed = subst (λ (n : ℕ). FormedFields (rows.known k n) fs) Z.represents.issued T.whole.formed in
      let seven = crowds (limits_of x) z _ k T.whole.numbered Z.represents.fits.nodes fs T.whole.fitting formed (omega (arith, T.whole.counts, Z.represents.kept)) in
      step_as (step_is z Z ∙ seven) (answers_same Z (refusal 7) w v F))

  -- a command done on what is lent, other than order 4
  told : (k : Command) → ((z : Session) → RepresentsInAreas x m z → order_of (limits_of x) z s ≡ solve (limits_of x) z k)
      → (y : Solver) (t' d' : List ℕ) (w : Output) (v : Wrote) → Zero d'
      → ((z : Session) → InOrder (issued z) z.solver → RepresentsInAreas x m z
      → Does (lent x (take x.top m.a) (take x.top m.b) m.table) y t' z (solve (limits_of x) z k) w v)
      → Answered x y s m ts o m.records t' d' w v
  told k same y t' d' w v clear D =
      let R = T.ready in
      answered y (D R.session R.ordered R.in_areas).beside.top m.records t' d' w v
      (λ z A Z.
      step_as (same z Z) (answers_does Z y t' d' _ w v (D z A Z) (solve_kept (limits_of x) z k) clear))

  module _ (W : o.nodes ≤ x.nodes) where
    pub taken_a : o.top ≤ length ts.kinds
    taken_a = T.whole.fits W

    pub taken_b : o.top ≤ length ts.vals
    taken_b = omega (arith, taken_a, a_long, b_long)

    long_a : length (take o.top ts.kinds) ≡ o.top
    long_a = length-take-le o.top ts.kinds taken_a

    pub long_b : length (take o.top ts.vals) ≡ o.top
    long_b = length-take-le o.top ts.vals taken_b

    pub taken_pairs : length (take o.top ts.vals) ≡ length (take o.top ts.kinds)
    taken_pairs = long_b ∙ sym long_a

    -- what was read, as it is given to the function that answers it
    given : Given ts.kinds ts.vals s ws (rows.known (kind_row o.kind) x.issued) (kind_row o.kind) o.fields T.whole.said
    given = record { held = T.whole.held W; formed = T.whole.formed; fits = T.whole.fitting }

    -- ---- orders 9 to 20

    pub taken_lends : Lends ts.kinds ts.vals m.records m.d most
    taken_lends =
        let R = T.ready.roomy in
        let L = T.ready.in_areas in
        record {
          pairs = omega (arith, a_long, b_long);
          short = omega (arith, a_long, R.few);
          heads = omega (arith, R.records);
          kids = omega (arith, R.d_size, R.c_size, R.records);
          heads_zero = record { is = λ i h. L.front i };
          kids_zero = record { is = λ i h. L.work i };
        }

    pub taken_asks : {k : OrderKind} → o.kind ≡ k → Asks ts.kinds ts.vals s ws (kind_row k) o.fields
    taken_asks h = rw (← h) (record { known = rows.known (kind_row o.kind) x.issued; fields = T.whole.said; given = given })

    pub operated : {k : Operation} → o.kind ≡ kinds.Operation k → (w : Output) (v : Wrote) → Replies ts.kinds ts.vals s ws (operation_row k) o.fields (λ y. Framed y w.bytes w.at v.bytes v.next)
        → (hs cs : List ℕ) → area hs cs ≡ area m.records m.d → Answered x x s m ts o hs m.table cs w v
    operated {k} h w v R hs cs e =
        answered x refl hs m.table cs w v
        (λ z A Z.
        let fs = T.whole.said in
        let F = R.says (rows.known (operation_row k) x.issued) fs (rw h at given) in
        let few : z.kept + all_nodes fs ≤ x.nodes = omega (arith, T.whole.counts, W, Z.represents.kept) in
        let st : order_of (limits_of x) z s ≡ record { session = z; answer = operation (operation_row k) fs } =
        step_as_kind z Z h ∙ operation_step (limits_of x) z k fs ∙ rw (le-ltb x.nodes (z.kept + all_nodes fs) few) refl
        in
        let hc : hs ≡ m.records = ap (λ (u : Area). u.kinds) e in
        let dc : cs ≡ m.d = ap (λ (u : Area). u.vals) e in
        step_as st (rw (hc, dc) (answers_same Z (operation (operation_row k) fs) w v F)))

    -- ---- orders without terms

    module _ {k : TermlessKind} (P : o.kind ≡ Termless k) where
      plain_step : (c : Command) → Says ts.kinds ts.vals s ws (termless_row k) o.fields c → (z : Session) → RepresentsInAreas x m z → order_of (limits_of x) z s ≡ solve (limits_of x) z c
      unfolding step command_of
      plain_step c S z Z =
          let fs = T.whole.said in
          let t = termless_act k in
          let f = t.0 in
          let told : some (f fs) ≡ some c = ap (λ (a : Act). command_by a fs) (sym t.1) ∙ S.says (rows.known (termless_row k) x.issued) fs (rw P at given) in
          let same : f fs ≡ c = cc in
          step_as_kind z Z P ∙ ap (λ (a : Act). perform (limits_of x) z fs a) t.1 ∙ ap (λ (d : Command). solve (limits_of x) z d) same

      -- it has no tokens
      no_items : all_items T.whole.said ≡ []
      no_items = (tokenless_none (layout (termless_row k)) T.whole.said (termless_tokenless k) (rw P at T.whole.fitting)).1

      plain_top : o.top ≡ x.top
      plain_top = omega (arith, T.whole.tokens, ap length no_items)

      plain_areas : area (take o.top ts.kinds) (take o.top ts.vals) ≡ area (take x.top m.a) (take x.top m.b)
      plain_areas = ap (λ (n : ℕ). area (take n ts.kinds) (take n ts.vals)) plain_top ∙ T.whole.same

      pub plain_lent : (z : Session) → RepresentsInAreas x m z → Represents x (take o.top ts.kinds) (take o.top ts.vals) m.table z
      plain_lent z Z = subst (λ (u : Area). Represents x u.kinds u.vals m.table z) (sym plain_areas) Z.represents

      pub plain_answered : (c : Command) → Says ts.kinds ts.vals s ws (termless_row k) o.fields c
          → (y : Solver) (t' d' : List ℕ) (w : Output) (v : Wrote) → Zero d'
          → ((z : Session) → InOrder (issued z) z.solver → Represents x (take o.top ts.kinds) (take o.top ts.vals) m.table z
          → Does (lent x (take o.top ts.kinds) (take o.top ts.vals) m.table) y t' z (solve (limits_of x) z c) w v)
          → Answered x y s m ts o m.records t' d' w v
      plain_answered c S y t' d' w v clear D =
          told c (plain_step c S) y t' d' w v clear
          (λ z A Z. subst (λ (u : Area). Does (lent x u.kinds u.vals m.table) y t' z (solve (limits_of x) z c) w v) plain_areas (D z A (plain_lent z Z)))

    -- ---- orders 3, 4 and 5

    cut_a : take x.top (take o.top ts.kinds) ≡ take x.top m.a
    cut_a = take-take x.top o.top ts.kinds taken_after ∙ ap (λ (u : Area). u.kinds) T.whole.same

    cut_b : take x.top (take o.top ts.vals) ≡ take x.top m.b
    cut_b = take-take x.top o.top ts.vals taken_after ∙ ap (λ (u : Area). u.vals) T.whole.same

    behind : (z : Session) → InOrder (issued z) z.solver → RepresentsInAreas x m z → Behind x (take o.top ts.kinds) (take o.top ts.vals) m.table z
    behind z A Z =
        record {
          ordered = A;
          represents = rw (cut_a, cut_b) Z.represents;
          inside = omega (arith, long_a, taken_after);
          pairs = taken_pairs;
          short = omega (arith, long_a, taken_a, a_long, T.ready.roomy.few);
        }

    abbrev fs : List Field
    fs = T.whole.said

    module _ {t : Term} (is : fs ≡ tree t ∷ []) (all : rows.known (kind_row o.kind) x.issued ≡ x.issued) where
      one_items : all_items fs ≡ items t
      unfolding all_items field_items
      one_items = ap all_items is ∙ append-nil (items t)

      one_size : all_nodes fs ≡ size t
      unfolding all_nodes nodes
      one_size = omega (arith, ap all_nodes is)

      one_below : AllVars (λ v. v < x.issued) t
      unfolding FormedFields
      one_below =
          let g = subst (λ (l : List Field). FormedFields (rows.known (kind_row o.kind) x.issued) l) is T.whole.formed in
          subst (λ (n : ℕ). AllVars (λ v. v < n) t) all g.0.below

      pub poses : (z : Session) → InOrder (issued z) z.solver → RepresentsInAreas x m z → Poses x (take o.top ts.kinds) (take o.top ts.vals) m.table z t
      poses z A Z =
          let n : length (all_items fs) ≡ length (items t) = ap length one_items in
          record {
            behind = behind z A Z;
            held =
                held_cut ts.kinds ts.vals o.top x.top t taken_a (omega (arith, T.whole.tokens, n))
                (record { tokens = subst (λ (l : List Item). toks ts.kinds ts.vals x.top (length l) ≡ l) one_items (T.whole.run W); within = omega (arith, T.whole.tokens, n, taken_a) });
            within = subst (λ (n : ℕ). AllVars (λ v. v < n) t) Z.represents.issued one_below;
            few = omega (arith, T.whole.counts, W, Z.represents.kept, one_size);
          }

      pub posed : (k : Command) → ((z : Session) → RepresentsInAreas x m z → order_of (limits_of x) z s ≡ solve (limits_of x) z k)
          → (y : Solver) (t' d' : List ℕ) (w : Output) (v : Wrote) → Zero d'
          → ((z : Session) → Poses x (take o.top ts.kinds) (take o.top ts.vals) m.table z t
          → Does (lent x (take x.top (take o.top ts.kinds)) (take x.top (take o.top ts.vals)) m.table) y t' z (solve (limits_of x) z k) w v)
          → Answered x y s m ts o m.records t' d' w v
      posed k same y t' d' w v clear D =
          told k same y t' d' w v clear (λ z A Z. rw (cut_a, cut_b) at (D z (poses z A Z)))

    -- order 3
    pub defer_term : o.kind ≡ DeferNever → (t : Term) × (fs ≡ tree t ∷ [])
    unfolding layout
    defer_term h = one_term fs (rw h at T.whole.fitting)

    pub defer_known : o.kind ≡ DeferNever → rows.known (kind_row o.kind) x.issued ≡ x.issued
    unfolding rows.known
    defer_known h = rw h refl

    pub defer_step : (h : o.kind ≡ DeferNever) (z : Session) {t : Term} → RepresentsInAreas x m z → fs ≡ tree t ∷ [] → order_of (limits_of x) z s ≡ solve (limits_of x) z (orders.defer t)
    unfolding step nth term_of
    defer_step h z Z e = step_is z Z ∙ rw (h, e) refl

    -- order 5
    pub resolve_term : o.kind ≡ Resolve → (t : Term) × (fs ≡ tree t ∷ [])
    unfolding layout
    resolve_term h = one_term fs (rw h at T.whole.fitting)

    pub resolve_known : o.kind ≡ Resolve → rows.known (kind_row o.kind) x.issued ≡ x.issued
    unfolding rows.known
    resolve_known h = rw h refl

    pub resolve_step : (h : o.kind ≡ Resolve) (z : Session) {t : Term} → RepresentsInAreas x m z → fs ≡ tree t ∷ [] → order_of (limits_of x) z s ≡ solve (limits_of x) z (orders.resolving t)
    unfolding step nth term_of
    resolve_step h z Z e = step_is z Z ∙ rw (h, e) refl

    -- orders 4 and, strict, 22
    module _ (access : Access) (h : o.kind ≡ Constrain access) where
      abbrev d : Bool
      d = strict_of access

      kind_pair : kind_row o.kind ≡ kind_row (Constrain access)
      kind_pair = ap kind_row h

      pub pair_terms : (n : ℕ) × (t : Term) × (u : Term) × (fs ≡ value n ∷ tree t ∷ tree u ∷ [])
      pair_terms = two_terms fs (subst (λ (l : List FieldSort). FitsLayout l fs) (ap layout kind_pair ∙ pair_layout access) T.whole.fitting)

      pair_few : o.top ≤ 6 * o.nodes
      unfolding spares spare
      pair_few =
          let g : length (all_items fs) ≤ 6 * all_nodes fs + 0
          = subst (λ (l : List FieldSort). length (all_items fs) ≤ 6 * all_nodes fs + spares l) (ap layout kind_pair ∙ pair_layout access) T.whole.room in
          omega (arith, T.whole.tokens, T.whole.counts, T.ready.in_areas.few)

      pub pair_scratch : Scratch x (take o.top ts.kinds) m.table m.d
      pair_scratch =
          let R = T.ready.roomy in
          let long : length (take o.top ts.kinds) ≤ 6 * o.nodes = omega (arith, long_a, pair_few) in
          record {
            pairs = omega (arith, R.roomy.table, R.records, R.c_size);
            few = places_few (length (take o.top ts.kinds)) o.nodes x.nodes (length m.a) R.roomy.tokens R.few long W;
            links = subst (λ (n : ℕ). half_words (length (take o.top ts.kinds)) + x.nodes ≤ n) (sym R.d_size) (links_fit (length (take o.top ts.kinds)) o.nodes x.nodes (length m.a) R.roomy.links long W);
            marks = subst (λ (n : ℕ). x.variables + x.variables ≤ n) (sym R.d_size) R.roomy.marks;
            clear = T.ready.in_areas.work;
          }

      module _ {n : ℕ} {t u : Term} (is : fs ≡ value n ∷ tree t ∷ tree u ∷ []) where
        pair_items : all_items fs ≡ items t ++ items u
        unfolding all_items field_items
        pair_items = ap all_items is ∙ ap (λ (l : List Item). items t ++ l) (append-nil (items u))

        pair_size : all_nodes fs ≡ size t + size u
        unfolding all_nodes nodes
        pair_size = omega (arith, ap all_nodes is)

        pair_formed : FormedFields x.issued (value n ∷ tree t ∷ tree u ∷ [])
        pair_formed =
            subst (λ (l : List Field). FormedFields x.issued l) is
            (subst (λ (i : ℕ). FormedFields i fs) (ap (λ (r : Row). rows.known r x.issued) kind_pair ∙ pair_known access x.issued) T.whole.formed)

        pub pair_k : (o.fields.first.value ≡ n) × (n ≤ 4294967295)
        unfolding spot_at nth FormedFields
        pair_k = (subst (λ (l : List Field). SpotOf s ws (start_at x.top 0 l) (spot_at 0 o.fields) (nth 0 l)) is (T.whole.spots 0 (omega arith)), pair_formed.0)

        pair_place : o.fields.third.place ≡ x.top + length (items t)
        unfolding spot_at nth start_at field_items
        pair_place = let p : o.fields.third.place ≡ x.top + 0 + length (items t) = subst (λ (l : List Field). SpotOf s ws (start_at x.top 2 l) (spot_at 2 o.fields) (nth 2 l)) is (T.whole.spots 2 (omega arith)) in omega arith

        pair_top : o.top ≡ x.top + length (items t) + length (items u)
        pair_top = omega (arith, T.whole.tokens, ap length pair_items, length-append (items t) (items u))

        pair_row : HeldParts ts.kinds ts.vals x.top o.top (sub t (sub u end))
        pair_row = use-laws.pair_row s x.issued x.top x.kept x.nodes (area m.a m.b) ts ws o T.whole W n t u is

        pub poses_pair : (z : Session) → InOrder (issued z) z.solver → RepresentsInAreas x m z
            → PosesPair x (take o.top ts.kinds) (take o.top ts.vals) m.table z o.fields.third.place t u
        unfolding FormedFields
        poses_pair z A Z =
            let l = held_sub ts.kinds ts.vals x.top o.top t (sub u end) pair_row in
            let r = held_sub ts.kinds ts.vals (x.top + length (items t)) o.top u end l.1 in
            record {
              behind = behind z A Z;
              left = held_cut ts.kinds ts.vals o.top x.top t taken_a (omega (arith, pair_top)) l.0;
              right = held_cut ts.kinds ts.vals o.top (x.top + length (items t)) u taken_a (omega (arith, pair_top)) r.0;
              all = long_a ∙ pair_top;
              place = pair_place;
              within_left = subst (λ (n : ℕ). AllVars (λ v. v < n) t) Z.represents.issued pair_formed.1.0.below;
              within_right = subst (λ (n : ℕ). AllVars (λ v. v < n) u) Z.represents.issued pair_formed.1.1.0.below;
              few = omega (arith, T.whole.counts, W, Z.represents.kept, pair_size);
            }

        pub pair_nodes : (z : Session) → RepresentsInAreas x m z → o.nodes ≡ z.kept + (size t + size u)
        pair_nodes z Z = omega (arith, T.whole.counts, Z.represents.kept, pair_size)

        pair_step : (z : Session) → RepresentsInAreas x m z → order_of (limits_of x) z s ≡ solve (limits_of x) z (orders.pair d n t u)
        pair_step z Z =
            step_is z Z ∙ ap (λ (r : Row). step (limits_of x) z r fs) kind_pair ∙ ap (λ (l : List Field). step (limits_of x) z (kind_row (Constrain access)) l) is
            ∙ pair_steps access (limits_of x) z n t u

        -- where a variable was bound all of its nodes are kept
        pair_kept : (z : Session) → InOrder (issued z) z.solver → RepresentsInAreas x m z
            → ((solve (limits_of x) z (orders.pair d n t u)).session.solver.revision ≡ z.solver.revision → ⊥) → o.top ≤ 6 * (solve (limits_of x) z (orders.pair d n t u)).session.kept
        pair_kept z A Z h =
            let P = poses_pair z A Z in
            let e = posing.pair_step (limits_of x) d z n t u (within_known z t P.within_left) (within_known z u P.within_right) P.few in
            let g = constrain (notion d) n z.solver t u in
            let other : ((solver_of g).revision ≡ z.solver.revision → ⊥) = λ i. h (ap (λ (q : orders.Step). q.session.solver.revision) e ∙ i) in
            let k : (solve (limits_of x) z (orders.pair d n t u)).session.kept ≡ z.kept + (size t + size u)
            = ap (λ (q : orders.Step). q.session.kept) e
            ∙ ap (λ (b : Bool). z.kept + keeps (not b) (size t + size u)) (ne_eqb (solver_of g).revision z.solver.revision other) in
            omega (arith, pair_few, pair_nodes z Z)

        module _ (y : Solver) (t' d' : List ℕ) (w : Output) (v : Wrote) (clear : Zero d') (k : ℕ) (ek : k ≡ n)
            (E : (z : Session) → PosesPair x (take o.top ts.kinds) (take o.top ts.vals) m.table z o.fields.third.place t u → o.nodes ≡ z.kept + (size t + size u)
            → DoesPair (lent x (take o.top ts.kinds) (take o.top ts.vals) m.table) y t' z (solve (limits_of x) z (orders.pair d k t u)) w v) where
          does : (z : Session) → InOrder (issued z) z.solver → RepresentsInAreas x m z
              → DoesPair (lent x (take o.top ts.kinds) (take o.top ts.vals) m.table) y t' z (solve (limits_of x) z (orders.pair d n t u)) w v
          does z A Z =
              subst (λ (i : ℕ). DoesPair (lent x (take o.top ts.kinds) (take o.top ts.vals) m.table) y t' z (solve (limits_of x) z (orders.pair d i t u)) w v) ek
              (E z (poses_pair z A Z) (pair_nodes z Z))

          pair_inside : (z : Session) → DoesPair (lent x (take o.top ts.kinds) (take o.top ts.vals) m.table) y t' z (solve (limits_of x) z (orders.pair d n t u)) w v
              → Dec (y.revision ≡ x.revision) → y.top ≤ o.top
          pair_inside z D (yes e) = omega (arith, taken_after, ap (λ (v : Solver). v.top) (D.quiet e).0)
          pair_inside z D (no e) = omega (arith, (D.bound e).top, long_a)

          -- where a variable was bound all of its tokens are the session's; else none is, and they have been cleared
          pair_serves : (z : Session) → InOrder (issued z) z.solver → RepresentsInAreas x m z → (a' b' : List ℕ) → area a' b' ≡ blank ts y.top (o.top - y.top)
              → Dec (y.revision ≡ x.revision) → Answers y (areas a' b' m.records t' d') z (order_of (limits_of x) z s) w v x
          pair_serves z A Z a' b' e (yes l) =
              let D = does z A Z in
              answers_at (e ∙ ap (λ (v : Solver). blank ts v.top (o.top - v.top)) (D.quiet l).0 ∙ T.whole.cleared)
              (step_as (pair_step z Z)
              (answers_quiet Z ts.kinds ts.vals o.top taken_a (free_kinds o.top ts T.whole.free) (free_vals o.top ts T.whole.free) y t' d' _ w v D
              clear l))
          pair_serves z A Z a' b' e (no l) =
              let D = does z A Z in
              let all : y.top ≡ o.top = (D.bound l).top ∙ long_a in
              answers_at (e ∙ ap (λ (n : ℕ). blank ts n (o.top - n)) all ∙ T.whole.free (o.top - o.top))
              (step_as (pair_step z Z)
              (answers_bound Z ts.kinds ts.vals o.top taken_a (free_kinds o.top ts T.whole.free) (free_vals o.top ts T.whole.free) y t' d' _ w v D
              clear l (pair_kept z A Z (λ i. l ((D.bound l).revision ∙ i ∙ sym Z.represents.revision)))))

          pub pair_answered : Answered x y s m ts o m.records t' d' w v
          pair_answered =
              let R = T.ready in
              record {
                inside = pair_inside R.session (does R.session R.ordered R.in_areas) (ℕ_discrete y.revision x.revision);
                serves = λ a' b' e z A Z. pair_serves z A Z a' b' e (ℕ_discrete y.revision x.revision);
              }
