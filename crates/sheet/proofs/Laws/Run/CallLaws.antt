-- What the contract of `sheet_run` says of a call: the orders that it answered are the first of the sheet, as many as it reports, and their answers are
-- the first bytes of the output.
use mathlib.Core.Path.{◌≡◌, refl, sym, ap, ap₂, ◌∙◌, subst}
use mathlib.Core.Bool.{Bool, true, false}
use mathlib.Core.List.{List, [], ◌∷◌, ◌++◌, append_assoc}
use mathlib.Core.Logic.{inl, inr}
use mathlib.Core.Option.{Option, none, some}
use Prim.Native.Nat.{ℕ, zero, suc, ◌+◌, ◌-◌, ◌<◌}
use native.Mathlib.Omega.{arith}
use borrow.Author.Tests.{leb-true, leb-false, ltb-true}
use lib.Dec.{ltb, leb}
use lib.ListN.{length, length-append, get_or, take, drop, replicate}
use lib.Seq.{take-append_seam, drop-append_seam}
use Rattle.solver.specs.Terms.Result.{Result, got, refused, pick}
use Rattle.solver.specs.Terms.Number.{number}
use Rattle.solver.specs.Terms.Shape as shape
use Rattle.solver.specs.Terms.Shape.{ceiling}
use Rattle.solver.specs.Session.{Limits, Session, fresh}
use Rattle.solver.specs.Orders.{Command, order}
use Rattle.solver.proofs.Laws.Rust.RustLaws.{refused_stays}
use Rattle.sheet.specs.OrderTable.{refusal}
use Rattle.sheet.specs.Sheet.{Step, Run, order_of, framed, ends, answering, part, next_order, answered, run_from, run_of}
use Rattle.sheet.specs.OrdersInTurn.{accepted, session_after, part_then, orders_from, answers_to}
use Rattle.sheet.specs.Commands.{command}
use Rattle.sheet.specs.Demand3.{ByteString}
use Rattle.sheet.specs.RustBytes.{AllSolved, solved_one, solved_to}
use Rattle.sheet.specs.Stopping.{behind_part, behind, Stopped}
use Rattle.sheet.specs.Entry.{Finish, finished, sizes_accepted, state_after_run, entry_result}
use Rattle.sheet.proofs.Laws.Run.SplittingLaws.{next_ahead}
use Rattle.sheet.proofs.Laws.Run.EntryLaws.{finish_unfit, finish_run}
use Rattle.sheet.proofs.Laws.Bytes.CommandLaws.{accepted_of, StepBy, does_order}
use Rattle.sheet.proofs.Laws.Bytes.Demand3Run.{run_follows}

-- the list of a slice of bytes
pub slice_bytes : (s : List ℕ) → ((i : ℕ) → get_or s i 0 < 256) → ByteString s
unfolding ByteString
slice_bytes [] h = tt
slice_bytes (b ∷ s) h = (h 0, slice_bytes s (λ i. h (suc i)))

-- ---- one order

module _ (lim : Limits) where
  pub refused_unchanged : (s : Session) (b : List ℕ) (c : ℕ) → (order_of lim s b).answer ≡ refusal c → (order_of lim s b).session ≡ s
  unfolding accepted
  refused_unchanged s b c = go (command s b) (order_of lim s b) (does_order lim s b)
    where
      go : (o : Option Command) (x : Step) → StepBy lim s o x → x.answer ≡ refusal c → x.session ≡ s
      go none x d e = d
      go (some k) x d e =
          ap (λ (y : Step). y.session) d
          ∙ refused_stays lim s k (sym (accepted_of (order lim s k).reply) ∙ ap (λ (y : Step). accepted y.answer) (sym d) ∙ ap accepted e)

  -- one that says nothing to the solver
  pub others_leave : (s : Session) (b : List ℕ) → command s b ≡ none → (order_of lim s b).session ≡ s
  others_leave s b e = subst (λ (o : Option Command). StepBy lim s o (order_of lim s b)) e (does_order lim s b)

  -- ---- lists of orders

  pub answers_append : (s : Session) (bs cs : List (List ℕ)) → answers_to lim s (bs ++ cs) ≡ answers_to lim s bs ++ answers_to lim (session_after lim s bs) cs
  unfolding answers_to session_after
  answers_append s [] cs = refl
  answers_append s (b ∷ bs) cs =
      let x = order_of lim s b in
      ap (λ (l : List ℕ). framed x.answer ++ l) (answers_append x.session bs cs)
      ∙ sym (append_assoc (framed x.answer) (answers_to lim x.session bs) (answers_to lim (session_after lim x.session bs) cs))

  -- all of them orders of the session, and none refused: all answers are compared with the Rust's
  pub all_solved : (s : Session) (bs : List (List ℕ)) → AllSolved lim s bs → solved_to lim s bs ≡ answers_to lim s bs
  unfolding solved_to answers_to AllSolved
  all_solved s [] a = refl
  all_solved s (b ∷ bs) a =
      ap₂ ◌++◌
      (ap (λ (o : Option Command). solved_one o (order_of lim s b).answer) a.0.1 ∙ ap (λ (h : Bool). pick h (framed (order_of lim s b).answer) []) a.1)
      (all_solved (order_of lim s b).session bs a.2)

  -- ---- the run

  refused_10 : (s : List ℕ) (at c : ℕ) → next_order s at ≡ refused c → next_order s at ≡ refused 10
  refused_10 s at c = go (number (ceiling shape.ordinary) s at)
    where
      fits : (n from : ℕ) (b : Bool) → pick {A = Result (List ℕ)} b (refused 10) (got (take n (drop from s)) (from + n)) ≡ refused c
          → pick {A = Result (List ℕ)} b (refused 10) (got (take n (drop from s)) (from + n)) ≡ refused 10
      fits n from true e = refl
      fits n from false e = let z : ◌≡◌ {A = ℕ} 0 1 = cc in absurd (omega arith)

      go : (x : Result ℕ) → part s x ≡ refused c → part s x ≡ refused 10
      go (got n from) e = fits n from (ltb (length s - from) n) e
      go (refused k) e = refl

  -- a run from a position on, in a session
  abbrev StopsAt : List ℕ → Session → ℕ → ℕ → Run → Type 0
  StopsAt s z at space r = Stopped lim s (behind s r.orders at) (session_after lim z (orders_from s r.orders at)) (space - length r.answers) r.reason

  -- and with so much fuel, from everywhere
  abbrev Again : List ℕ → ℕ → Type 0
  Again s fuel = (y : Session) (k m : ℕ) → length s < fuel + k → StopsAt s y k m (run_from lim s fuel y k m)

  stops : (s : List ℕ) (fuel : ℕ) (z : Session) (at space : ℕ) → length s < fuel + at → StopsAt s z at space (run_from lim s fuel z at space)
  unfolding run_from behind session_after orders_from
  stops s zero z at space l = inl (refl, omega arith)
  stops s (suc fuel) z at space l = go (λ y k m q. stops s fuel y k m q) (leb (length s) at) refl
    where
      later : (b : List ℕ) (next : ℕ) → next_order s at ≡ got b next → (r : Run) → StopsAt s (order_of lim z b).session next (space - length (framed (order_of lim z b).answer)) r
          → StopsAt s z at space (answering (framed (order_of lim z b).answer) r)
      later b next e r f =
          let a = framed (order_of lim z b).answer in
          let p : behind s (suc r.orders) at ≡ behind s r.orders next = ap (behind_part (behind s r.orders) at) e in
          let q : orders_from s (suc r.orders) at ≡ b ∷ orders_from s r.orders next = ap (part_then (orders_from s r.orders)) e in
          let m : space - length (a ++ r.answers) ≡ space - length a - length r.answers = let x = length-append a r.answers in omega arith in
          subst (λ (k : ℕ). Stopped lim s (behind s (suc r.orders) at) (session_after lim z (orders_from s (suc r.orders) at)) k r.reason) (sym m)
          (subst (λ (bs : List (List ℕ)). Stopped lim s (behind s (suc r.orders) at) (session_after lim z bs) (space - length a - length r.answers) r.reason) (sym q)
          (subst (λ (k : ℕ). Stopped lim s k (session_after lim z (b ∷ orders_from s r.orders next)) (space - length a - length r.answers) r.reason) (sym p) f))

      fits : Again s fuel → at < length s → (b : List ℕ) (next : ℕ) → next_order s at ≡ got b next → (over : Bool) → ltb space (length (framed (order_of lim z b).answer)) ≡ over
          → StopsAt s z at space
          (pick over (ends 11 z) (answering (framed (order_of lim z b).answer) (run_from lim s fuel (order_of lim z b).session next (space - length (framed (order_of lim z b).answer)))))
      fits more h b next e true o = inr (inr (refl, h, record { order = b; next = next; comes = e; long = omega (arith, ltb-true space (length (framed (order_of lim z b).answer)) o) }))
      fits more h b next e false o =
          let a = (next_ahead s at b next (sym e)).after in
          let left = space - length (framed (order_of lim z b).answer) in
          later b next e (run_from lim s fuel (order_of lim z b).session next left) (more (order_of lim z b).session next left (omega arith))

      comes : Again s fuel → at < length s → (x : Result (List ℕ)) → next_order s at ≡ x → StopsAt s z at space (answered lim s (run_from lim s fuel) z space x)
      comes more h (got b next) e = fits more h b next e (ltb space (length (framed (order_of lim z b).answer))) refl
      comes more h (refused c) e = inr (inl (refl, h, refused_10 s at c e))

      go : Again s fuel → (b : Bool) → leb (length s) at ≡ b → StopsAt s z at space (pick b (ends 0 z) (answered lim s (run_from lim s fuel) z space (next_order s at)))
      go more true e = inl (refl, leb-true (length s) at e)
      go more false e = comes more (leb-false (length s) at e) (next_order s at) refl

-- ---- a call

module _ (lim : Limits) (words : ℕ) (sheet out a b c d : List ℕ) (reason orders bytes : ℕ) (out' a' b' c' d' : List ℕ)
    (contract : finished reason orders bytes out' a' b' c' d' ≡ entry_result lim words sheet out a b c d) where
  abbrev taken : Bool
  taken = sizes_accepted words (length sheet) (length out) (length a) (length b) (length c) (length d)

  abbrev ran : Run
  ran = run_of lim sheet (length out)

  pub unfit : taken ≡ false → finished reason orders bytes out' a' b' c' d' ≡ finished 12 0 0 out a b c d
  unfit e = contract ∙ sym (finish_unfit lim words sheet out a b c d e)

  fit : taken ≡ true → finished reason orders bytes out' a' b' c' d' ≡ state_after_run ran out a b c d
  fit e = contract ∙ sym (finish_run lim words sheet out a b c d (state_after_run ran out a b c d) e refl)

  pub zeroed : taken ≡ true → (a' ≡ replicate (length a) 0) × (b' ≡ replicate (length b) 0) × (c' ≡ replicate (length c) 0) × (d' ≡ replicate (length d) 0)
  unfolding state_after_run
  zeroed e =
      let f = fit e in
      (ap (λ (x : Finish). x.a) f, ap (λ (x : Finish). x.b) f, ap (λ (x : Finish). x.c) f, ap (λ (x : Finish). x.d) f)

  abbrev served : List (List ℕ)
  served = orders_from sheet orders 0

  pub in_turn : (length served ≡ orders) × (take bytes out' ≡ answers_to lim fresh served) × (drop bytes out' ≡ drop bytes out)
  unfolding state_after_run orders_from answers_to
  in_turn = go taken refl
    where
      go : (t : Bool) → taken ≡ t → (length served ≡ orders) × (take bytes out' ≡ answers_to lim fresh served) × (drop bytes out' ≡ drop bytes out)
      go true e =
          let f = fit e in
          let n : orders ≡ ran.orders = ap (λ (x : Finish). x.orders) f in
          let m : bytes ≡ length ran.answers = ap (λ (x : Finish). x.bytes) f in
          let o : out' ≡ ran.answers ++ drop (length ran.answers) out = ap (λ (x : Finish). x.out) f in
          let r = run_follows lim sheet (length out) in (
            subst (λ (k : ℕ). length (orders_from sheet k 0) ≡ k) (sym n) r.2,
            ap₂ (λ (k : ℕ) (l : List ℕ). take k l) m o ∙ take-append_seam ran.answers (drop (length ran.answers) out) ∙ r.1 ∙ ap (λ (k : ℕ). answers_to lim fresh (orders_from sheet k 0)) (sym n),
            ap₂ (λ (k : ℕ) (l : List ℕ). drop k l) m o ∙ drop-append_seam ran.answers (drop (length ran.answers) out) ∙ ap (λ (k : ℕ). drop k out) (sym m),
          )
      go false e =
          let f = unfit e in
          let n : orders ≡ 0 = ap (λ (x : Finish). x.orders) f in
          let m : bytes ≡ 0 = ap (λ (x : Finish). x.bytes) f in (
            subst (λ (k : ℕ). length (orders_from sheet k 0) ≡ k) (sym n) refl,
            ap (λ (k : ℕ). take k out') m ∙ ap (λ (k : ℕ). answers_to lim fresh (orders_from sheet k 0)) (sym n),
            ap (drop bytes) (ap (λ (x : Finish). x.out) f),
          )

  pub stopped : taken ≡ true → Stopped lim sheet (behind sheet orders 0) (session_after lim fresh served) (length out - bytes) reason
  unfolding state_after_run
  stopped e =
      let f = fit e in
      let n : ran.orders ≡ orders = sym (ap (λ (x : Finish). x.orders) f) in
      let m : length ran.answers ≡ bytes = sym (ap (λ (x : Finish). x.bytes) f) in
      let r : ran.reason ≡ reason = sym (ap (λ (x : Finish). x.reason) f) in
      subst (λ (k : ℕ). Stopped lim sheet (behind sheet k 0) (session_after lim fresh (orders_from sheet k 0)) (length out - bytes) reason) n
      (subst (λ (k : ℕ). Stopped lim sheet (behind sheet ran.orders 0) (session_after lim fresh (orders_from sheet ran.orders 0)) (length out - k) reason) m
      (subst (λ (k : ℕ). Stopped lim sheet (behind sheet ran.orders 0) (session_after lim fresh (orders_from sheet ran.orders 0)) (length out - length ran.answers) k) r
      (stops lim sheet (suc (length sheet)) fresh 0 (length out) (omega arith))))
