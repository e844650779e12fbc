-- THE PROMISES, on one page. Each statement is proved by a citation. Quoted are the request, with its demands 1, 2 and 3, and document 01. Lists of ℕ are
-- bytes or words; `document_limits` are the limits of 512 variables and 2,048 nodes.
use mathlib.Core.Path.{◌≡◌, sym, ap, subst, ◌∙◌}
use mathlib.Core.Bool.{Bool, true, false}
use mathlib.Core.List.{List, [], ◌∷◌, ◌++◌}
use mathlib.Core.Logic.{◌⊎◌, ◌↔◌}
use mathlib.Core.Option.{none, some}
use Prim.Native.Nat.{ℕ, ◌+◌, ◌-◌, ◌≤◌, ◌<◌}
use native.Mathlib.Omega.{arith}
use lib.ListN.{length, get_or, take, drop, replicate}
use Rattle.solver.specs.TermTypes.{Parameter}
use Rattle.solver.specs.Terms.Result.{got}
use Rattle.solver.specs.Terms.Number.{number, shortest}
use Rattle.solver.specs.Terms.Term.{Term, var, depth, size, AllVars, bytes}
use Rattle.solver.specs.Terms.Formed.{Formed}
use Rattle.solver.specs.Terms.Reading as reading
use Rattle.solver.specs.Terms.Tree.{Nominal}
use Rattle.solver.specs.Terms.Questions.{counted, entered, OneCounts, asked, answered, is_concrete, is_resolved_in, contains_projection}
use Rattle.solver.specs.Terms.Comparison.{conflicts_with, satisfies, satisfies_for}
use Rattle.solver.specs.Terms.Recovery.{recover_from}
use Rattle.solver.specs.Terms.Substitution.{Entry, or_else, get, instantiate}
use Rattle.solver.specs.Terms.Normal.{Out, Rule, levels, visits, by_rules, normalize}
use Rattle.solver.proofs.Terms.QuestionLaws.{concrete_resolved}
use Rattle.solver.proofs.Terms.FoundLaws.{finds, answers}
use Rattle.solver.proofs.Terms.ConflictLaws.{conflicts_swap}
use Rattle.solver.proofs.Terms.RecoverLaws.{recover_self}
use Rattle.solver.proofs.Terms.BoundLaws.{satisfies_trans, satisfies_more}
use Rattle.solver.proofs.Terms.SubstitutionLaws.{nothing, get_append, instantiate_nothing}
use Rattle.solver.proofs.Terms.NormalLaws.{normalise_plain}
use Rattle.solver.proofs.Terms.Shortest as numbers
use Rattle.solver.proofs.Terms.Shortest.{octets}
use Rattle.solver.proofs.Terms.RoundTrip as terms
use Rattle.solver.proofs.Terms.Sound.{FoundTerm, found}
use Rattle.solver.specs.Shapes.{notion, loose, exact}
use Rattle.solver.specs.Constrain.{resolved}
use Rattle.solver.specs.Session.{Session, document_limits, issued, fresh}
use Rattle.solver.specs.Orders as orders
use Rattle.solver.specs.Demand3.{beginning, Demand3, KeepsHalf, Unequal, Fallbacks, Filled}
use Rattle.solver.specs.Invariant.{Invariant, WithinLimits, SettledBy}
use Rattle.solver.specs.Robinson.{Unmarked, UnmarkedPairs, Decides}
use Rattle.solver.specs.RobinsonPair.{FirstOrderIn}
use Rattle.sheet.specs.OrderTable.{refusal, outcome}
use Rattle.sheet.specs.Sheet.{order_of, framed}
use Rattle.sheet.specs.OrdersInTurn.{session_after, orders_from, answers_to}
use Rattle.sheet.specs.Commands.{command}
use Rattle.sheet.specs.Demand3.{ByteStrings, InFragment, PairsInFragment, Premises, history_of, OnlyPosedBy}
use Rattle.sheet.specs.MixedPairs.{PosedInMix}
use Rattle.sheet.specs.PairsAnswered.{SomePairAnswered}
use Rattle.sheet.specs.RepeatedPairs.{repeated, PosedAgain}
use Rattle.sheet.specs.RustBytes.{frames, OfRustAlone, AsTheRust, AllSolved}
use Rattle.sheet.specs.RobinsonBytes.{FirstOrder, PlainOrder, AnsweredSo, DecidesOrders}
use Rattle.sheet.specs.Stopping.{behind, Stopped}
use Rattle.sheet.specs.Entry.{finished, sizes_accepted, entry_result}
use Rattle.sheet.proofs.Examples.MarkedTable.{MarkedLines, marked}
use Rattle.sheet.proofs.Laws.Bytes.Demand3Bytes.{demand_3_bytes, mixed_half_bytes, mixed_pair_bytes, filled_bytes, bytes_parts}
use Rattle.sheet.proofs.Laws.Bytes.PairsAnsweredLaws.{incompatible_answered, cancelled_answered}
use Rattle.sheet.proofs.Laws.Bytes.Demand3Run.{orders_bytes}
use Rattle.sheet.proofs.Laws.Bytes.InvariantBytes as session
use Rattle.sheet.proofs.Laws.Bytes.RepeatedPairLaws as pairs
use Rattle.sheet.proofs.Laws.Bytes.RustBytesLaws.{rust_bytes}
use Rattle.sheet.proofs.Laws.Bytes.RobinsonBytesLaws.{robinson_bytes, robinson_orders, settled_bytes, posed_plain_bytes}
use Rattle.sheet.proofs.Laws.Run.CallLaws as call

-- ---- A CALL OF `sheet_run`. It was lent a sheet, an output and four areas, and handed back a reason and two counts; out' to d' is how the output and the areas
-- were left. `contract` is what its contract says (crates/entry/src/lib.rt), with no condition: so what follows holds for every call.

module _ (sheet out a b c d : List ℕ) (reason orders bytes : ℕ) (out' a' b' c' d' : List ℕ)
    (contract : finished reason orders bytes out' a' b' c' d' ≡ entry_result document_limits 16384 sheet out a b c d) where
  -- the orders that it answered: the first of the sheet, as many as it reports
  abbrev pub served : List (List ℕ)
  served = orders_from sheet orders 0

  -- DEMAND 1. "The port as a whole accepts every byte sheet and every lent area, finishes, and gives each order that no run reason stops either its result or
  -- the one refusal that document 01 fixes.": the first bytes of the output are the answers to these orders, given in turn to a fresh session.
  pub demand_1_answers : (length served ≡ orders) × (take bytes out' ≡ answers_to document_limits fresh served)
  demand_1_answers = let e = call.in_turn document_limits 16384 sheet out a b c d reason orders bytes out' a' b' c' d' contract in (e.0, e.1)

  -- "Bytes past the reported answers stay untouched."
  pub demand_1_output : drop bytes out' ≡ drop bytes out
  demand_1_output = (call.in_turn document_limits 16384 sheet out a b c d reason orders bytes out' a' b' c' d' contract).2

  -- "Work areas end all zero, except under 12."
  pub demand_1_areas : sizes_accepted 16384 (length sheet) (length out) (length a) (length b) (length c) (length d) ≡ true
      → (a' ≡ replicate (length a) 0) × (b' ≡ replicate (length b) 0) × (c' ≡ replicate (length c) 0) × (d' ≡ replicate (length d) 0)
  demand_1_areas = call.zeroed document_limits 16384 sheet out a b c d reason orders bytes out' a' b' c' d' contract

  -- "12 is tested first", "nothing written, orders 0, bytes 0"; the areas are as they were.
  pub demand_1_run_12 : sizes_accepted 16384 (length sheet) (length out) (length a) (length b) (length c) (length d) ≡ false
      → finished reason orders bytes out' a' b' c' d' ≡ finished 12 0 0 out a b c d
  demand_1_run_12 = call.unfit document_limits 16384 sheet out a b c d reason orders bytes out' a' b' c' d' contract

  -- Else "run 0", "10" or "11": the sheet is used up, or the next length is faulty or beyond it, or the next answer does not fit whole.
  pub demand_1_reasons : sizes_accepted 16384 (length sheet) (length out) (length a) (length b) (length c) (length d) ≡ true
      → Stopped document_limits sheet (behind sheet orders 0) (session_after document_limits fresh served) (length out - bytes) reason
  demand_1_reasons = call.stopped document_limits 16384 sheet out a b c d reason orders bytes out' a' b' c' d' contract

  -- where the answer to each of these orders stands: after the answers to those before it
  pub answer_at : (bs cs : List (List ℕ)) (o : List ℕ) → served ≡ bs ++ (o ∷ cs)
      → (let x = order_of document_limits (session_after document_limits fresh bs) o in take bytes out' ≡ answers_to document_limits fresh bs ++ (framed x.answer ++ answers_to document_limits x.session cs))
  unfolding answers_to
  answer_at bs cs o e = demand_1_answers.1 ∙ ap (answers_to document_limits fresh) e ∙ call.answers_append document_limits fresh bs (o ∷ cs)

  -- DEMAND 2, PAIR BY PAIR. "on plain pairs they are proved against the 1965 definition"; "For plain first-order pairs (no recovery terms, projections, number
  -- variables or access marks) Robinson 1965 decides.": each order 4, or strictly 22, that the call answered, whatever came before it, whose terms are plain as they
  -- resolve there, is answered as his algorithm decides, or cancelled (not with checks enough: `robinson_each`).
  pub demand_2_robinson_each : (strict : Bool) (bs cs : List (List ℕ)) (o : List ℕ) (k : ℕ) (t u : Term) → served ≡ bs ++ (o ∷ cs) → PlainOrder document_limits strict (session_after document_limits fresh bs) o k t u
      → ((order_of document_limits (session_after document_limits fresh bs) o).answer ≡ outcome (2 ∷ [])) ⊎ AnsweredSo document_limits (session_after document_limits fresh bs) o t u
  demand_2_robinson_each strict bs cs o k t u e p = (robinson_orders document_limits strict bs t u).fewer k o p

  -- `octet` is the other line of the contract (`octets`): the elements of a slice of bytes are below 256. So this too holds for every call.
  module _ (octet : (i : ℕ) → get_or sheet i 0 < 256) where
    -- DEMAND 2, THE RUST. "Everywhere in 01's domain answers equal the Rust's, byte by byte in 01's format": `Solver` of solver.rs answers those orders that are of
    -- kinds 0 to 8 and not refused with the same bytes. Where all are such, its answers are all that the call wrote. "The Rust is compared on order 4 alone"
    -- (document 02), and it has no ranges: of the orders that were not refused none is 21 or 22.
    pub demand_2_rust : OfRustAlone document_limits served
        → (r : AsTheRust document_limits served) × (AllSolved document_limits fresh served → take bytes out' ≡ frames r.replies)
    demand_2_rust y =
        let r = rust_bytes document_limits served (orders_bytes sheet (call.slice_bytes sheet octet) orders 0) y in
        (r, λ s. demand_1_answers.1 ∙ sym (call.all_solved document_limits fresh served s) ∙ r.same_bytes)

    -- DEMAND 2, ALL PAIRS TOGETHER: where all posed pairs are plain first-order ones, some pair was answered incompatible exactly where Robinson's algorithm ends
    -- without a common unifier of them; if none was, what the variables resolve to is one as general as his.
    pub demand_2_robinson : (strict : Bool) → FirstOrder document_limits strict served → Decides (history_of document_limits beginning served)
    demand_2_robinson strict = robinson_bytes document_limits strict served (orders_bytes sheet (call.slice_bytes sheet octet) orders 0)

    -- DEMAND 3. "Some pair was answered incompatible exactly if no assignment of variable-free terms of any size, true to the number families requested, makes every
    -- posed pair equal up to Set and Map access. If none was, the assignments that do so are exactly those true to the families that agree, up to that access,
    -- with what each variable resolves to, and every variable left in those terms resolves to itself.": the fields `first`, `second` and `left`.
    -- That some pair "was answered incompatible" is said of the solver's replies; `incompatible` says that these are the answers in bytes.
    pub demand_3 : OnlyPosedBy document_limits false served → Premises document_limits served → Demand3 loose (history_of document_limits beginning served)
    demand_3 = demand_3_bytes document_limits false served (orders_bytes sheet (call.slice_bytes sheet octet) orders 0)

    -- ACCESS THAT COUNTS (document 02). "For a session that poses only strict pairs, both sentences of demand 3 mean equality with access included, in agreeing too".
    pub demand_3_strict : OnlyPosedBy document_limits true served → Premises document_limits served → Demand3 exact (history_of document_limits beginning served)
    demand_3_strict = demand_3_bytes document_limits true served (orders_bytes sheet (call.slice_bytes sheet octet) orders 0)

    -- "one that mixes them keeps one half: with no pair incompatible, each assignment true to the families that agrees exactly with what the variables resolve to
    -- makes every pair equal by the order that posed it."
    pub mix_keeps_half : Premises document_limits served → KeepsHalf (history_of document_limits beginning served)
    mix_keeps_half = mixed_half_bytes document_limits served (orders_bytes sheet (call.slice_bytes sheet octet) orders 0)

    -- "In a mix, too, a pair is answered incompatible exactly if no assignment true to the families that agrees exactly with what the variables resolved to just
    -- before it makes that pair equal by its own order.": of each order that the call answered, also after incompatible ones.
    pub mix_each_pair : (bs cs : List (List ℕ)) (b : List ℕ) → served ≡ bs ++ (b ∷ cs) → Premises document_limits bs → (strict : Bool) (k : ℕ) (t u : Term)
        → PosedInMix document_limits bs b strict k t u
        → ((order_of document_limits (session_after document_limits fresh bs) b).answer ≡ outcome (0 ∷ [])) ↔ Unequal (history_of document_limits beginning bs) strict t u
    mix_each_pair bs cs b e p =
        let o = bytes_parts bs b cs (subst ByteStrings e (orders_bytes sheet (call.slice_bytes sheet octet) orders 0)) in
        mixed_pair_bytes document_limits bs o.0 p b o.1

    -- DEFAULTS AFTER A CLEAN SCRIPT (document 02). "Under demand 3's premises, with ranges allowed, if every pair was compatible then numeric defaults still leave an
    -- assignment that satisfies them all, and every number variable has a type admitted by its own request.": of each order 6 that the call answered, where the orders
    -- before it keep demand 3's premises, the one on fallbacks included.
    pub defaults_fill : (bs cs : List (List ℕ)) → served ≡ bs ++ ((6 ∷ []) ∷ cs) → Premises document_limits bs
        → (let h = history_of document_limits beginning bs in
        Fallbacks h.requests → h.incompatible ≡ false → Filled h (order_of document_limits (session_after document_limits fresh bs) (6 ∷ [])).session)
    defaults_fill bs cs e =
        let o = bytes_parts bs (6 ∷ []) cs (subst ByteStrings e (orders_bytes sheet (call.slice_bytes sheet octet) orders 0)) in
        filled_bytes document_limits bs o.0

-- ---- AN ORDER, AND A LIST OF ORDERS, each given as its bytes to a session, whatever was answered

-- "A refused order leaves the session unchanged."
pub demand_1_refused : (s : Session) (b : List ℕ) (c : ℕ) → (order_of document_limits s b).answer ≡ refusal c → (order_of document_limits s b).session ≡ s
demand_1_refused = call.refused_unchanged document_limits

-- "Orders 9 to 20 leave the session as it was": each order that tells it nothing
pub orders_9_to_20 : (s : Session) (b : List ℕ) → command s b ≡ none → (order_of document_limits s b).session ≡ s
orders_9_to_20 = call.others_leave document_limits

-- "Some pair was answered incompatible", "no cancelled pair": exactly where some order 4 or 22 of the list was answered with the byte 0, or 2
pub incompatible : (bs : List (List ℕ)) → ((history_of document_limits beginning bs).incompatible ≡ true) ↔ SomePairAnswered document_limits 0 fresh bs
incompatible = incompatible_answered document_limits

pub cancelled : (bs : List (List ℕ)) → ((history_of document_limits beginning bs).cancelled ≡ true) ↔ SomePairAnswered document_limits 2 fresh bs
cancelled = cancelled_answered document_limits

-- "What a variable resolves to is the term order 5 would answer for it after the list, given space for order and answer."
pub order_5 : (bs : List (List ℕ)) (v : ℕ)
    → (let s = session_after document_limits fresh bs in v < issued s → s.kept < 2048 → (order_of document_limits s (5 ∷ bytes (var v))).answer ≡ outcome (bytes (resolved s.solver (var v))))
order_5 bs v l k = let f = (session.fits_bytes document_limits bs).variables in session.order_5 document_limits (session_after document_limits fresh bs) v l (omega arith) k

-- Robinson decides each plain pair: some number of checks is enough, and every order 4, or strictly 22, that poses the pair with as many is answered as his algorithm ends.
pub robinson_each : (strict : Bool) (bs : List (List ℕ)) (t u : Term) → DecidesOrders document_limits strict (session_after document_limits fresh bs) t u
robinson_each = robinson_orders document_limits

-- A pair is plain as it resolves, if neither it nor a pair posed before it has a recovery term, a projection or an access mark, and no number was requested.
pub plain_by_terms : (strict : Bool) (bs : List (List ℕ)) → PairsInFragment (history_of document_limits beginning bs).posed
    → UnmarkedPairs (notion strict) (history_of document_limits beginning bs).posed
    → ((v : ℕ) → (history_of document_limits beginning bs).requests v ≡ none) → (t : Term) → InFragment t → Unmarked (notion strict) t → FirstOrderIn (notion strict) (session_after document_limits fresh bs) t
plain_by_terms = posed_plain_bytes document_limits

-- "k checks pass, the next cancels": every pair is settled by some number of checks
pub settles : (strict : Bool) (bs : List (List ℕ)) (t u : Term)
    → (let s = session_after document_limits fresh bs in orders.known s t ≡ true → orders.known s u ≡ true → (K : ℕ) × SettledBy (notion strict) K s.solver t u)
settles = settled_bytes document_limits

-- PAIRS THAT BIND NOTHING. Document 02: "An order 4 that makes no binding, whether compatible, incompatible or cancelled, shall keep no nodes.": it leaves the
-- session as it was. "of earlier pairs 7 counts only those that bound something": one that does keeps the nodes of both its terms.
pub no_binding : (s : Session) (b : List ℕ) (strict : Bool) (k : ℕ) (t u : Term) → command s b ≡ some (orders.pair strict k t u)
    → (order_of document_limits s b).session.solver.revision ≡ s.solver.revision → (order_of document_limits s b).session ≡ s
no_binding = pairs.quiet_order document_limits

pub binding_keeps : (s : Session) (b : List ℕ) (strict : Bool) (k : ℕ) (t u : Term) → command s b ≡ some (orders.pair strict k t u)
    → ((order_of document_limits s b).session.solver.revision ≡ s.solver.revision → ⊥) → (order_of document_limits s b).session.kept ≡ s.kept + (size t + size u)
binding_keeps = pairs.bound_order document_limits

-- "A script that repeats satisfied pairs must then run through while answers fit and each pair has space beside the kept nodes.": any order that leaves the session
-- is answered alike however often it is given; and so is, with "compatible", a pair without Unknown and Error that was answered compatible before, whatever orders
-- came between, with as many checks.
pub repeats : (s : Session) (b : List ℕ) → (order_of document_limits s b).session ≡ s → (j : ℕ)
    → (answers_to document_limits s (replicate j b) ≡ repeated j (framed (order_of document_limits s b).answer)) × (session_after document_limits s (replicate j b) ≡ s)
repeats = pairs.repeats document_limits

pub satisfied_repeats : (bs : List (List ℕ)) (b : List ℕ) (cs : List (List ℕ)) (c : List ℕ)
    → (let s = session_after document_limits fresh bs in let y = session_after document_limits (order_of document_limits s b).session cs in
    PosedAgain document_limits s y b c → (j : ℕ) → (answers_to document_limits y (replicate j c) ≡ repeated j (2 ∷ 0 ∷ 1 ∷ [])) × (session_after document_limits y (replicate j c) ≡ y))
satisfied_repeats = pairs.satisfied_repeats document_limits

-- the revision "is the number of bound variables", no variable leads to itself, and resolving comes to an end
pub in_order : (bs : List (List ℕ)) → Invariant (session_after document_limits fresh bs)
in_order = session.in_order_bytes document_limits

-- "at most 512 type variables and 2,048 kept term nodes"
pub within_limits : (bs : List (List ℕ)) → WithinLimits document_limits (session_after document_limits fresh bs)
within_limits = session.fits_bytes document_limits

-- "The marked lines are proved together against the definitions"
pub marked_lines : MarkedLines
marked_lines = marked

-- ---- NUMBERS AND TERMS as bytes

-- "Shortest form only": it is read back, whatever stands before and after it; and what is read as a number is its shortest form
pub numbers_read : (most v : ℕ) (before rest : List ℕ) → v ≤ most → number most (before ++ (shortest v ++ rest)) (length before) ≡ got v (length before + length (shortest v))
numbers_read = numbers.round_trip

pub numbers_only : (most at v n : ℕ) (s : List ℕ) → ((i : ℕ) → get_or s i 0 < 256) → number most s at ≡ got v n → drop at s ≡ shortest v ++ drop n s
numbers_only most at v n s o = numbers.number_took most at v n s (octets s o)

-- A formed term within its levels, whose variables are issued, is read back from its bytes; and what is read is such a term, and its bytes are those consumed.
pub terms_read : (s : List ℕ) (many levels : ℕ) (t : Term) → Formed t → depth t ≤ levels → AllVars (λ v. v < many) t
    → (at : ℕ) (rest : List ℕ) → drop at s ≡ bytes t ++ rest → reading.term s many levels at ≡ got t (at + length (bytes t))
terms_read = terms.round_trip

pub terms_only : (s : List ℕ) (octet : (i : ℕ) → get_or s i 0 < 256) (many levels at : ℕ) (t : Term) (n : ℕ) → reading.term s many levels at ≡ got t n
    → FoundTerm s (octets s octet) many levels at t n
terms_only s octet = found s (octets s octet)

-- ---- THE OPERATIONS on terms, each the Rust's function of its name on trees (crates/terms/specs)

-- The questions of orders 15 and 16 are one walk. Document 02: "it finds a term exactly if one that counts is among those it enters", over the question number.
pub questions : (ps : List Parameter) (q : ℕ) (t : Term) → (asked ps q t ≡ true) ↔ OneCounts (counted ps q) (entered q) t
questions = finds

-- "each question's promise rests on that": the seven answers of order 15; `is_concrete`, the third, is that none is found
pub seven_questions : (q : ℕ) (t : Term) → ((q ≡ 2 → ⊥) → (answered q t ≡ true) ↔ OneCounts (counted [] q) (entered q) t)
    × (q ≡ 2 → (answered q t ≡ true) ↔ (OneCounts (counted [] q) (entered q) t → ⊥))
seven_questions = answers

-- `is_concrete` is `is_resolved_in` of no parameters; `conflicts_with` goes either way; `recover_from` of a term from itself leaves it
pub concrete : (t : Term) → is_concrete t ≡ is_resolved_in [] t
concrete = concrete_resolved

pub conflicts : (t u : Term) → conflicts_with t u ≡ conflicts_with u t
conflicts = conflicts_swap

pub recovers : (t : Term) → recover_from t t ≡ t
recovers = recover_self

-- `satisfies` goes from bound to bound, and what it admits `satisfies_for` admits
pub satisfies_through : (x y z : Nominal) → satisfies x y ≡ true → satisfies y z ≡ true → satisfies x z ≡ true
satisfies_through = satisfies_trans

pub satisfies_for_more : (x y : Nominal) (t : Term) → satisfies x y ≡ true → satisfies_for x y t ≡ true
satisfies_for_more = satisfies_more

-- "a later entry replaces an earlier one, also across `extend`"; with nothing to substitute a term stays
pub later_entries : (es later : List Entry) (p : Parameter) → get (es ++ later) p ≡ or_else (get later p) (get es p)
later_entries = get_append

pub instantiates_nothing : (t : Term) → instantiate nothing t ≡ t
instantiates_nothing = instantiate_nothing

-- "A term with no projection comes back unchanged."
pub normalises_plain : (rules : List Rule) (t : Term) → contains_projection t ≡ false → (normalize rules t).term ≡ t
normalises_plain rules t e = ap (λ (o : Out). o.term) (normalise_plain levels visits (by_rules rules) t e)
