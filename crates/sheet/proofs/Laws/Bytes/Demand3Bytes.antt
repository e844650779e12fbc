-- Demand 3 for lists of orders, each given as its bytes: carried over from crate solver by what they tell the session.
use mathlib.Core.Path.{◌≡◌, refl, sym, ap, subst, ◌∙◌}
use mathlib.Core.Bool.{Bool, true, false}
use mathlib.Core.List.{List, [], ◌∷◌, ◌++◌}
use mathlib.Core.Logic.{◌↔◌}
use mathlib.Core.Option.{Option}
use Prim.Native.Nat.{ℕ}
use Rattle.solver.specs.Terms.Term.{Term}
use Rattle.solver.specs.Terms.Formed.{Formed}
use Rattle.solver.specs.Constrain.{Pair}
use Rattle.solver.specs.Session.{Limits, Session, fresh}
use Rattle.solver.specs.Orders as solver
use Rattle.solver.specs.Orders.{Command, order, run}
use Rattle.solver.specs.Demand3 as theirs
use Rattle.solver.specs.Demand3.{History, Role, requesting, posing, defaulting, neither, role, posed_by, beginning, history, PlainPairs, KeepsHalf, Unequal, ProperRole, AllProper, Fallbacks, Filled}
use Rattle.solver.proofs.Laws.Theory.Demand3Laws.{demand_3, mixed_half, mixed_pair}
use Rattle.solver.proofs.Laws.Theory.FilledLaws.{defaults_leave}
use Rattle.sheet.specs.Commands.{commands}
use Rattle.sheet.specs.Demand3.{ByteString, ByteStrings, history_of, PairsInFragment, Premises, Demand3OfBytes, OnlyPosedBy}
use Rattle.sheet.specs.MixedPairs.{PosedInMix}
use Rattle.sheet.specs.OrdersInTurn.{accepted, session_after}
use Rattle.sheet.specs.Fields.{fields}
use Rattle.sheet.specs.OrderTable.{outcome, session_orders, row_in, layout, read_by, kinded_order}
use Rattle.sheet.specs.Sheet.{Step, table, read_order, answer_of, step, order_of}
use Rattle.sheet.specs.PairsAnswered.{PairAnswered}
use Rattle.sheet.proofs.Laws.Bytes.PairsAnsweredLaws.{said, from_bytes}
use Rattle.sheet.proofs.Laws.Bytes.CommandLaws.{accepted_of, StepBy, does_order, AllFormed, command_formed, session_commands}
use Rattle.sheet.proofs.Laws.Bytes.CommandLaws as told
use Rattle.sheet.proofs.Laws.Answering.SessionRowLaws.{FormedCommand}

-- the orders of a list before one, and that one, are bytes
pub bytes_parts : (bs : List (List ℕ)) (b : List ℕ) (cs : List (List ℕ)) → ByteStrings (bs ++ (b ∷ cs)) → ByteStrings bs × ByteString b
unfolding ByteStrings
bytes_parts [] b cs o = (tt, o.0)
bytes_parts (x ∷ bs) b cs o = let r = bytes_parts bs b cs o.1 in ((o.0, r.0), r.1)

-- ---- posed pairs are formed

abbrev FormedPairs : List Pair → Type 0
FormedPairs [] = Unit {0}
FormedPairs (p ∷ ps) = Formed p.0 × Formed p.1 × FormedPairs ps

abbrev FormedRole : Role → Type 0
FormedRole (requesting site r) = Unit {0}
FormedRole (posing d t u) = Formed t × Formed u
FormedRole defaulting = Unit {0}
FormedRole neither = Unit {0}

role_formed : (c : Command) → FormedCommand c → FormedRole (role c)
role_formed (solver.variable site slot) a = tt
role_formed (solver.number site r) a = tt
role_formed (solver.hole site) a = tt
role_formed (solver.defer t) a = tt
role_formed (solver.pair d k t u) a = a
role_formed (solver.resolving t) a = tt
role_formed solver.numbers a = tt
role_formed solver.nevers a = tt
role_formed solver.revision a = tt
role_formed (solver.unread r) a = tt

posed_formed : (ps : List Pair) (o : Role) (b : Bool) → FormedRole o → FormedPairs ps → FormedPairs (posed_by ps o b)
unfolding posed_by
posed_formed ps (requesting site r) b f p = p
posed_formed ps (posing d t u) true f p = (f.0, f.1, p)
posed_formed ps (posing d t u) false f p = p
posed_formed ps defaulting b f p = p
posed_formed ps neither b f p = p

all_formed : (lim : Limits) (h : History) (cs : List Command) → AllFormed cs → FormedPairs h.posed → FormedPairs (history lim h cs).posed
unfolding history
all_formed lim h [] a f = f
all_formed lim h (c ∷ cs) a f =
    all_formed lim (theirs.after lim h c) cs a.1 (posed_formed h.posed (role c) (theirs.accepted (order lim h.session c).reply) (role_formed c a.0) f)

plain_pairs : (ps : List Pair) → FormedPairs ps → PairsInFragment ps → PlainPairs ps
plain_pairs [] f p = tt
plain_pairs (x ∷ ps) f p = ((f.0, p.0), (f.1, p.1), plain_pairs ps f.2 p.2)

-- ---- the demand

-- the premises on what the bytes say
pub premises_of : (lim : Limits) (bs : List (List ℕ)) → ByteStrings bs → Premises lim bs → theirs.Premises lim (commands lim fresh bs)
premises_of lim bs o p =
    record {
      allowed = p.allowed;
      pairs = plain_pairs (history_of lim beginning bs).posed (all_formed lim beginning (commands lim fresh bs) (told.all_formed lim fresh bs o) tt) p.pairs;
      none_cancelled = p.none_cancelled;
    }

-- DEMAND 3: for every list of orders, each given as its bytes, refused ones and those that leave the session included, given in turn to a fresh session; the
-- pairs all by order 4, or all strictly by order 22.
pub demand_3_bytes : (lim : Limits) (strict : Bool) (bs : List (List ℕ)) → ByteStrings bs → OnlyPosedBy lim strict bs → Premises lim bs → Demand3OfBytes lim strict bs
demand_3_bytes lim strict bs o y p = demand_3 lim strict (commands lim fresh bs) y (premises_of lim bs o p)

-- A MIX OF BOTH keeps one half.
pub mixed_half_bytes : (lim : Limits) (bs : List (List ℕ)) → ByteStrings bs → Premises lim bs → KeepsHalf (history_of lim beginning bs)
mixed_half_bytes lim bs o p = mixed_half lim (commands lim fresh bs) (premises_of lim bs o p)

-- ---- defaults

role_proper : (c : Command) → FormedCommand c → ProperRole (role c)
role_proper (solver.variable site slot) a = tt
role_proper (solver.number site r) a = a.0
role_proper (solver.hole site) a = tt
role_proper (solver.defer t) a = tt
role_proper (solver.pair d k t u) a = tt
role_proper (solver.resolving t) a = tt
role_proper solver.numbers a = tt
role_proper solver.nevers a = tt
role_proper solver.revision a = tt
role_proper (solver.unread r) a = tt

all_proper : (cs : List Command) → AllFormed cs → AllProper cs
all_proper [] a = tt
all_proper (c ∷ cs) a = (role_proper c a.0, all_proper cs a.1)

-- the byte 6 is the order of numeric defaults
order_6 : (lim : Limits) (s : Session) → order_of lim s (6 ∷ []) ≡ record { session = (order lim s solver.numbers).session; answer = answer_of (order lim s solver.numbers).reply }
unfolding read_order read_by kinded_order row_in table session_orders layout fields step
order_6 lim s = refl

-- its session is the one after the orders
history_run : (lim : Limits) (h : History) (cs : List Command) → (history lim h cs).session ≡ run lim h.session cs
unfolding history run
history_run lim h [] = refl
history_run lim h (c ∷ cs) = history_run lim (theirs.after lim h c) cs

pub history_session : (lim : Limits) (h : History) (bs : List (List ℕ)) → (history_of lim h bs).session ≡ session_after lim h.session bs
history_session lim h bs = history_run lim h (commands lim h.session bs) ∙ sym (session_commands lim h.session bs)

-- NUMERIC DEFAULTS after compatible pairs: an order 6 that follows the list.
pub filled_bytes : (lim : Limits) (bs : List (List ℕ)) → ByteStrings bs → Premises lim bs
    → (let h = history_of lim beginning bs in Fallbacks h.requests → h.incompatible ≡ false → Filled h (order_of lim (session_after lim fresh bs) (6 ∷ [])).session)
filled_bytes lim bs o p f c =
    let h = history_of lim beginning bs in
    let e : (order lim h.session solver.numbers).session ≡ (order_of lim (session_after lim fresh bs) (6 ∷ [])).session =
    ap (λ (z : Session). (order lim z solver.numbers).session) (history_session lim beginning bs) ∙ sym (ap (λ (x : Step). x.session) (order_6 lim (session_after lim fresh bs)))
    in
    subst (λ (z : Session). Filled h z) e (defaults_leave lim (commands lim fresh bs) (all_proper (commands lim fresh bs) (told.all_formed lim fresh bs o)) (premises_of lim bs o p) f c)

-- IN A MIX, EACH PAIR: it is answered incompatible exactly if no assignment that agrees exactly with what the variables resolved to before it makes it equal.
pub mixed_pair_bytes : (lim : Limits) (bs : List (List ℕ)) → ByteStrings bs → Premises lim bs → (b : List ℕ) → ByteString b → (strict : Bool) (k : ℕ) (t u : Term)
    → PosedInMix lim bs b strict k t u → ((order_of lim (session_after lim fresh bs) b).answer ≡ outcome (0 ∷ [])) ↔ Unequal (history_of lim beginning bs) strict t u
unfolding answer_of
mixed_pair_bytes lim bs o p b ob strict k t u q = (
  λ e. exact.0 (subst (λ (z : Session). theirs.says 0 (order lim z told).reply ≡ true) (sym at) (from_bytes lim 0 s b told q.says (answered e))),
  λ x. said_so (exact.1 x),
)
  where
    s : Session
    s = session_after lim fresh bs

    told : Command
    told = solver.pair strict k t u

    at : (history_of lim beginning bs).session ≡ s
    at = history_session lim beginning bs

    answered : {n : ℕ} → (order_of lim s b).answer ≡ outcome (n ∷ []) → PairAnswered lim n s b
    answered e = record { strict = strict; checks = k; left = t; right = u; says = q.says; answer = e }

    replied : (order_of lim s b).answer ≡ answer_of (order lim s told).reply
    replied = ap (λ (x : Step). x.answer) (subst (λ (c : Option Command). StepBy lim s c (order_of lim s b)) q.says (does_order lim s b))

    formed : FormedCommand told
    formed = command_formed s b ob told q.says

    taken : theirs.accepted (order lim s told).reply ≡ true
    taken = sym (accepted_of (order lim s told).reply) ∙ ap accepted (sym replied) ∙ q.taken

    not_cut : (c : Bool) → theirs.says 2 (order lim s told).reply ≡ c → c ≡ false
    not_cut false e = refl
    not_cut true e = absurd (q.settled (replied ∙ ap answer_of (said lim 2 (order lim s told).reply e)))

    exact : (theirs.says 0 (order lim (history_of lim beginning bs).session told).reply ≡ true) ↔ Unequal (history_of lim beginning bs) strict t u
    exact =
        mixed_pair lim (commands lim fresh bs) (premises_of lim bs o p) strict k t u (formed.0, q.left) (formed.1, q.right)
        (subst (λ (z : Session). theirs.accepted (order lim z told).reply ≡ true) (sym at) taken)
        (subst (λ (z : Session). theirs.says 2 (order lim z told).reply ≡ false) (sym at) (not_cut (theirs.says 2 (order lim s told).reply) refl))

    said_so : theirs.says 0 (order lim (history_of lim beginning bs).session told).reply ≡ true → (order_of lim s b).answer ≡ outcome (0 ∷ [])
    said_so e = replied ∙ ap answer_of (said lim 0 (order lim s told).reply (subst (λ (z : Session). theirs.says 0 (order lim z told).reply ≡ true) at e))
