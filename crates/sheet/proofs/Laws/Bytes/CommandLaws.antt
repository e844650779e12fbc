-- An order given as its bytes does what it tells the session, or leaves it; and the terms of what it tells are formed.
use mathlib.Core.Path.{◌≡◌, refl, sym, ap, subst, ◌∙◌}
use mathlib.Core.Bool.{Bool, true, false}
use mathlib.Core.List.{List, [], ◌∷◌}
use mathlib.Core.Option.{Option, none, some}
use Prim.Native.Nat.{ℕ}
use lib.Dec.{ltb}
use lib.ListN.{length}
use Rattle.solver.specs.Terms.Parser.{Result, got, refused, bind, pick, byte}
use Rattle.solver.proofs.Terms.Shortest.{Octets}
use Rattle.solver.specs.Session.{Limits, Session, issued}
use Rattle.solver.specs.Orders as solver
use Rattle.solver.specs.Orders.{Command, Reply, order, run}
use Rattle.solver.specs.Demand3 as theirs
use Rattle.sheet.specs.Fields as fields
use Rattle.sheet.specs.Fields.{Field, last}
use Rattle.sheet.specs.OrderTable.{Answer, Act, tells, answers, Row, session_orders, row_in, layout, known, command_by, command_of, Read, kinded_order, read_by}
use Rattle.sheet.specs.Sheet.{Step, table, read_order, answer_of, solve, perform, step, step_read, order_of}
use Rattle.sheet.specs.OrdersInTurn.{accepted, session_after}
use Rattle.sheet.specs.Commands.{command_read, command, leaves, prefixed, commands}
use Rattle.sheet.specs.Demand3.{ByteString, ByteStrings}
use Rattle.sheet.specs.Words.FieldsFormed.{FormedFields}
use Rattle.sheet.specs.Words.OrderGiven.{FitsLayout}
use Rattle.sheet.proofs.Laws.Reading.FieldLaws.{never, parts_of, same_value, fields_found}
use Rattle.sheet.proofs.Laws.Reading.FitLaws.{fields_fit}
use Rattle.sheet.proofs.Laws.Reading.OrderTableLaws.{session_listed, session_other}
use Rattle.sheet.proofs.Laws.Answering.SessionRowLaws.{FormedCommand, MadeBy, session_made}

pub octets_of : (s : List ℕ) → ByteString s → Octets s
unfolding ByteString Octets
octets_of [] o = tt
octets_of (b ∷ s) o = (o.0, octets_of s o.1)

-- ---- reading by a table

last_of : {A : Type 0} (s : List ℕ) (a b : A) (m n : ℕ) → last s a m ≡ got b n → a ≡ b
last_of s a b m n e = go (ltb m (length s)) e
  where
    go : (h : Bool) → pick h (refused 1) (got a m) ≡ got b n → a ≡ b
    go true e = never 1 b n e
    go false e = same_value e

-- an order that was read is of a row, and its fields are what the bytes say
record Found (s : List ℕ) (issued : ℕ) (o : Option Row) (r : Read) : Type 0 where
  row : o ≡ some r.kind
  at : ℕ
  next : ℕ
  found : fields.fields s (known r.kind issued) (layout r.kind) at ≡ got r.fields next

kinded : (s : List ℕ) (issued : ℕ) (o : Option Row) (at : ℕ) (r : Read) (n : ℕ) → kinded_order s issued o at ≡ got r n → Found s issued o r
unfolding kinded_order
kinded s issued none at r n e = never 2 r n e
kinded s issued (some k) at r n e =
    let y = parts_of (fields.fields s (known k issued) (layout k) at) _ r n e in
    let same : record { kind = k; fields = y.0 } ≡ r = last_of s (record { kind = k; fields = y.0 }) r y.1 n y.3 in
    rw (← same) (record { row = refl; at = at; next = y.1; found = y.2 })

read_row : (rows : List Row) (s : List ℕ) (issued : ℕ) (r : Read) (n : ℕ) → read_by rows s issued ≡ got r n → (k : ℕ) × Found s issued (row_in rows k) r
unfolding read_by
read_row rows s issued r n e = let x = parts_of (byte s 0) _ r n e in (x.0, kinded s issued (row_in rows x.0) x.1 r n x.3)

-- ---- what an order does

pub accepted_of : (r : Reply) → accepted (answer_of r) ≡ theirs.accepted r
unfolding accepted answer_of theirs.accepted
accepted_of (solver.term t) = refl
accepted_of (solver.verdict n) = refl
accepted_of (solver.changed b) = refl
accepted_of (solver.count n) = refl
accepted_of solver.nothing = refl
accepted_of (solver.refused c) = refl

module _ (lim : Limits) where
  abbrev pub StepBy : Session → Option Command → Step → Type 0
  StepBy s none x = x.session ≡ s
  StepBy s (some c) x = x ≡ solve lim s c

  does_act : (s : Session) (fs : List Field) (a : Act) → StepBy s (command_by a fs) (perform lim s fs a)
  does_act s fs (tells f) = refl
  does_act s fs (answers f) = refl

  does_read : (s : Session) (x : Result Read) → StepBy s (command_read x) (step_read lim s x)
  unfolding command_of step
  does_read s (got r n) = does_act s r.fields r.kind.act
  does_read s (refused c) = refl

  -- one that is none of the session's
  other_leaves : (s : Session) (b : List ℕ) (at : ℕ) (o : Option Row) → ((r : Row) → o ≡ some r → (f : List Field → Answer) × (r.act ≡ answers f))
      → (step_read lim s (kinded_order b (issued s) o at)).session ≡ s
  unfolding step
  other_leaves s b at o h = go (kinded_order b (issued s) o at) refl
    where
      go : (x : Result Read) → kinded_order b (issued s) o at ≡ x → (step_read lim s x).session ≡ s
      go (got r n) e =
          let a = h r.kind (kinded b (issued s) o at r n e).row in
          ap (λ (a : Act). (perform lim s r.fields a).session) a.1
      go (refused c) e = refl

  pub does_order : (s : Session) (b : List ℕ) → StepBy s (command s b) (order_of lim s b)
  unfolding read_order read_by kinded_order
  does_order s b = go (byte b 0)
    where
      row : (k at : ℕ) (o : Option Row) → row_in session_orders k ≡ o → StepBy s (command_read (kinded_order b (issued s) o at)) (step_read lim s (kinded_order b (issued s) (row_in table k) at))
      row k at none e = other_leaves s b at (row_in table k) (λ r h. session_other k r e h)
      row k at (some r) e =
          subst (λ (o : Option Row). StepBy s (command_read (kinded_order b (issued s) (some r) at)) (step_read lim s (kinded_order b (issued s) o at))) (sym (session_listed k r e))
          (does_read s (kinded_order b (issued s) (some r) at))

      go : (x : Result ℕ) → StepBy s (command_read (bind x (λ k. kinded_order b (issued s) (row_in session_orders k)))) (step_read lim s (bind x (λ k. kinded_order b (issued s) (row_in table k))))
      go (got k at) = row k at (row_in session_orders k) refl
      go (refused c) = refl

  -- the session that it leaves
  does_leaves : (s : Session) (o : Option Command) (x : Step) → StepBy s o x → x.session ≡ leaves lim s o
  does_leaves s none x d = d
  does_leaves s (some c) x d = ap (λ (y : Step). y.session) d

  pub leaves_order : (s : Session) (b : List ℕ) → (order_of lim s b).session ≡ leaves lim s (command s b)
  leaves_order s b = does_leaves s (command s b) (order_of lim s b) (does_order s b)

  -- THE SESSION AFTER A LIST OF ORDERS IS THE ONE AFTER WHAT THEY TELL IT.
  pub session_commands : (s : Session) (bs : List (List ℕ)) → session_after lim s bs ≡ run lim s (commands lim s bs)
  unfolding session_after commands run
  session_commands s [] = refl
  session_commands s (b ∷ bs) =
      let y = leaves lim s (command s b) in
      ap (λ (z : Session). session_after lim z bs) (leaves_order s b) ∙ session_commands y bs ∙ go (command s b) (commands lim y bs)
    where
      go : (c : Option Command) (cs : List Command) → run lim (leaves lim s c) cs ≡ run lim s (prefixed c cs)
      go none cs = refl
      go (some c) cs = refl

-- ---- the terms of what it tells are formed

abbrev Fine : Option Command → Type 0
Fine none = Unit {0}
Fine (some c) = FormedCommand c

fine : (s : Session) (b : List ℕ) → ByteString b → Fine (command s b)
unfolding command_of known
fine s b o = go (read_by session_orders b (issued s)) refl
  where
    act : (l : _) (a : Act) (n : ℕ) (fs : List Field) → MadeBy l a → FitsLayout l fs → FormedFields n fs → Fine (command_by a fs)
    act l (tells f) n fs m fit formed = m.read n fs fit formed
    act l (answers f) n fs m fit formed = tt

    go : (x : Result Read) → read_by session_orders b (issued s) ≡ x → Fine (command_read x)
    go (got r n) e =
        let x = read_row session_orders b (issued s) r n e in
        let f = x.1.found in
        let k = r.kind in
        act (layout k) k.act (known k (issued s)) r.fields (session_made x.0 k x.1.row) (fields_fit b (known k (issued s)) (layout k) x.1.at r.fields x.1.next f)
        (fields_found b (octets_of b o) (known k (issued s)) (layout k) x.1.at r.fields x.1.next f).formed
    go (refused c) e = tt

pub command_formed : (s : Session) (b : List ℕ) → ByteString b → (c : Command) → command s b ≡ some c → FormedCommand c
command_formed s b o c e = subst (λ (x : Option Command). Fine x) e (fine s b o)

abbrev pub AllFormed : List Command → Type 0
AllFormed [] = Unit {0}
AllFormed (c ∷ cs) = FormedCommand c × AllFormed cs

pub all_formed : (lim : Limits) (s : Session) (bs : List (List ℕ)) → ByteStrings bs → AllFormed (commands lim s bs)
unfolding commands ByteStrings
all_formed lim s [] o = tt
all_formed lim s (b ∷ bs) o =
    let y = leaves lim s (command s b) in
    go (command s b) (commands lim y bs) (fine s b o.0) (all_formed lim y bs o.1)
  where
    go : (c : Option Command) (cs : List Command) → Fine c → AllFormed cs → AllFormed (prefixed c cs)
    go none cs f a = a
    go (some c) cs f a = (f, a)
