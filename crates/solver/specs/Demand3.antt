-- Demand 3 over lists of orders 0 to 8, 21 and 22, on terms: its premises, its two sentences, and what document 02 says of lists that mix orders 4 and 22
-- and of numeric defaults after such a list.
use Rattle.std.specs.Prelude.{◌≡◌, Bool, true, false, ◌||◌, List, [], ◌∷◌, ◌↔◌, ◌⊎◌, ℕ, ◌<◌, eqb, ltb}
use Rattle.std.proofs.Math.Option.{Option, none, some}
use Rattle.terms.specs.Result.{pick}
use Rattle.terms.specs.Term.{Term, var, node}
use Rattle.terms.specs.Questions.{among, meets}
use Rattle.terms.specs.Formed.{Formed}
use Rattle.unify.specs.Solver.{put}
use Rattle.solver.specs.Families.{Bound, Request, requested, request_of, belongs}
use Rattle.solver.specs.Shapes.{Notion, notion, read_all}
use Rattle.solver.specs.Constrain.{Pair, replace, resolved, always, occurs}
use Rattle.solver.specs.Session.{Limits, at, Session, issued, find, fresh}
use Rattle.solver.specs.Orders.{Command, variable, number, hole, defer, pair, resolving, numbers, nevers, revision, unread}
use Rattle.solver.specs.Orders.{Reply, term, verdict, changed, count, nothing, refused, Step, order}

-- ---- what a list of orders requested, posed and was answered

pub record History : Type 0 where
  pub session : Session
  -- what was requested of each variable
  pub requests : ℕ → Option Request
  pub posed : List Pair
  -- by which order each of them was posed: true is 22, strictly
  pub by : List Bool
  -- some pair was answered incompatible; some pair was cancelled
  pub incompatible : Bool
  pub cancelled : Bool

-- outcome 0
unfoldable pub accepted : Reply → Bool
accepted (term t) = true
accepted (verdict a) = true
accepted (changed b) = true
accepted (count c) = true
accepted nothing = true
accepted (refused r) = false

unfoldable pub says : ℕ → Reply → Bool
says a (term t) = false
says a (verdict b) = eqb a b
says a (changed b) = false
says a (count c) = false
says a nothing = false
says a (refused r) = false

-- the variable of a place, or the next one
unfoldable pub placed : Option ℕ → ℕ → ℕ
placed none n = n
placed (some v) n = v

-- ---- what an order is to the demand

pub data Role : Type 0 where
  -- orders 1 and 21: a site, and what is requested
  requesting : ℕ → Request → Role
  -- orders 4 and 22: whether it is strict, its two terms
  posing : Bool → Term → Term → Role
  -- orders 6 and 7
  defaulting : Role
  -- any other, and one that reading refuses
  neither : Role

abbrev pub role : Command → Role
role (variable site slot) = neither
role (number site r) = requesting site r
role (hole site) = neither
role (defer t) = neither
role (pair b k t u) = posing b t u
role (resolving t) = neither
role numbers = defaulting
role nevers = defaulting
role revision = neither
role (unread r) = neither

-- "Only orders answered with outcome 0 issue, request and pose": an order 1 requests of the variable of its place, or of the next one ("among the
-- premises order 21 counts as order 1"),
unfoldable pub requested_by : Session → (ℕ → Option Request) → Role → Bool → ℕ → Option Request
requested_by s f (requesting site r) b = pick b (put f (placed (find (at site 1) s.places) (issued s)) (some r)) f
requested_by s f (posing a t u) b = f
requested_by s f defaulting b = f
requested_by s f neither b = f

-- and "a posed pair is the two terms of such an order 4", or 22
unfoldable pub posed_by : List Pair → Role → Bool → List Pair
posed_by ps (requesting site r) b = ps
posed_by ps (posing a t u) b = pick b ((t, u) ∷ ps) ps
posed_by ps defaulting b = ps
posed_by ps neither b = ps

unfoldable pub strict_by : List Bool → Role → Bool → List Bool
strict_by bs (requesting site r) b = bs
strict_by bs (posing a t u) b = pick b (a ∷ bs) bs
strict_by bs defaulting b = bs
strict_by bs neither b = bs

abbrev pub noted : History → Command → Step → History
noted h c x = record {
  session = x.session;
  requests = requested_by h.session h.requests (role c) (accepted x.reply);
  posed = posed_by h.posed (role c) (accepted x.reply);
  by = strict_by h.by (role c) (accepted x.reply);
  incompatible = h.incompatible || says 0 x.reply;
  cancelled = h.cancelled || says 2 x.reply;
}

abbrev pub beginning : History
beginning = record { session = fresh; requests = λ v. none; posed = []; by = []; incompatible = false; cancelled = false }

-- ---- assignments

-- "Variable-free means without Inference"
unfoldable pub is_variable : Term → Bool
is_variable (var v) = true
is_variable (node k ps) = false

abbrev pub VariableFree : Term → Type 0
VariableFree t = meets is_variable always t ≡ false

-- "An assignment gives each issued variable a variable-free term"
abbrev pub Assigns : ℕ → (ℕ → Term) → Type 0
Assigns N θ = (v : ℕ) → v < N → Formed (θ v) × VariableFree (θ v)

-- "true to the families if each requested number variable gets a builtin of its family"; "the types so requested are the variable's family, whatever its
-- fallback"
abbrev pub RespectsFamilies : (ℕ → Term) → (ℕ → Option Request) → Type 0
RespectsFamilies θ requests = (v : ℕ) (r : Request) → requests v ≡ some r → belongs r.family (θ v) ≡ true

module _ (n : Notion) where
  -- "the same once every Set and Map access at any depth is read as ReadOnly"; where every access counts (`exact`), the same term
  abbrev pub EqualUpToAccess : Term → Term → Type 0
  EqualUpToAccess t u = read_all n t ≡ read_all n u

  -- "both terms, each Inference replaced by its variable's term"
  abbrev pub MakesEqual : (ℕ → Term) → List Pair → Type 0
  MakesEqual θ [] = Unit {0}
  MakesEqual θ (p ∷ ps) = EqualUpToAccess (replace θ p.0) (replace θ p.1) × MakesEqual θ ps

  -- "An assignment agrees with it if it makes the variable and that term equal, up to access"; "What a variable resolves to is the term order 5
  -- would answer for it after the list"
  abbrev pub Agrees : (ℕ → Term) → Session → Type 0
  Agrees θ s = (v : ℕ) → v < issued s → EqualUpToAccess (θ v) (replace θ (resolved s.solver (var v)))

  -- ---- the two sentences

  pub record Demand3 (h : History) : Type 0 where
    -- "Some pair was answered incompatible exactly if no assignment of variable-free terms of any size, true to the number families requested,
    -- makes every posed pair equal up to Set and Map access."
    pub first : (h.incompatible ≡ true) ↔ ((θ : ℕ → Term) → Assigns (issued h.session) θ → RespectsFamilies θ h.requests → ¬ MakesEqual θ h.posed)
    -- "If none was, the assignments that do so are exactly those true to the families that agree, up to that access, with what each variable
    -- resolves to,"
    pub second : h.incompatible ≡ false → (θ : ℕ → Term) → Assigns (issued h.session) θ
        → (RespectsFamilies θ h.requests × MakesEqual θ h.posed) ↔ (RespectsFamilies θ h.requests × Agrees θ h.session)
    -- "and every variable left in those terms resolves to itself."
    pub left : (v w : ℕ) → v < issued h.session → occurs w (resolved h.session.solver (var v)) ≡ true
        → (w < issued h.session) × (resolved h.session.solver (var w) ≡ var w)

-- ---- strict pairs

-- every pair was posed by the one order
abbrev pub OnlyBy : Bool → List Bool → Type 0
OnlyBy b [] = Unit {0}
OnlyBy b (a ∷ bs) = (a ≡ b) × OnlyBy b bs

-- an assignment "agrees exactly with what the variables resolve to"
abbrev pub AgreesExactly : (ℕ → Term) → Session → Type 0
AgreesExactly θ s = (v : ℕ) → v < issued s → θ v ≡ replace θ (resolved s.solver (var v))

-- it "makes every pair equal by the order that posed it"
abbrev pub EachBy : (ℕ → Term) → List Bool → List Pair → Type 0
EachBy θ [] [] = Unit {0}
EachBy θ [] (p ∷ ps) = ⊥
EachBy θ (b ∷ bs) [] = ⊥
EachBy θ (b ∷ bs) (p ∷ ps) = EqualUpToAccess (notion b) (replace θ p.0) (replace θ p.1) × EachBy θ bs ps

-- "one that mixes them keeps one half: with no pair incompatible, each assignment true to the families that agrees exactly with what the variables
-- resolve to makes every pair equal by the order that posed it." (It may also leave variables in its terms.)
abbrev pub KeepsHalf : History → Type 0
KeepsHalf h = h.incompatible ≡ false → (θ : ℕ → Term) → RespectsFamilies θ h.requests → AgreesExactly θ h.session → EachBy θ h.by h.posed

-- "no assignment true to the families that agrees exactly with what the variables resolved to just before it makes that pair equal by its own order":
-- of the pair t and u posed after the history h, strictly where b is true
abbrev pub Unequal : History → Bool → Term → Term → Type 0
Unequal h b t u = (θ : ℕ → Term) → Assigns (issued h.session) θ → RespectsFamilies θ h.requests → AgreesExactly θ h.session
    → ¬ EqualUpToAccess (notion b) (replace θ t) (replace θ u)

-- ---- defaults after compatible pairs

-- of order 1: "fallbacks are integers or F64" (a range may have any)
unfoldable pub integer_or_f64 : ℕ → Bool
integer_or_f64 c = ltb c 8 || eqb c 9

-- what the bytes of an order request: 1 a code, 21 a range
abbrev pub RequestMade : Request → Type 0
RequestMade r = (r ≡ requested r.fallback) ⊎ ((low : Bound) × (high : Bound) × (request_of r.fallback low high ≡ some r))

abbrev pub ProperRole : Role → Type 0
ProperRole (requesting site r) = RequestMade r
ProperRole (posing b t u) = Unit {0}
ProperRole defaulting = Unit {0}
ProperRole neither = Unit {0}

abbrev pub AllProper : List Command → Type 0
AllProper [] = Unit {0}
AllProper (c ∷ cs) = ProperRole (role c) × AllProper cs

abbrev pub Fallbacks : (ℕ → Option Request) → Type 0
Fallbacks requests = (v : ℕ) (r : Request) → requests v ≡ some r → r.ranged ≡ false → integer_or_f64 r.fallback ≡ true

-- "if every pair was compatible then numeric defaults still leave an assignment that satisfies them all, and every number variable has a type admitted
-- by its own request": h is the history of the list, z the session after an order 6 that follows it
pub record Filled (h : History) (z : Session) : Type 0 where
  -- an assignment is left that agrees with what the variables resolve to now
  pub left : (θ : ℕ → Term) × Assigns (issued z) θ × RespectsFamilies θ h.requests × AgreesExactly θ z
  -- each such makes every pair equal by the order that posed it
  pub satisfies : (θ : ℕ → Term) → RespectsFamilies θ h.requests → AgreesExactly θ z → EachBy θ h.by h.posed
  -- who agrees up to access with what the variables resolve to now agreed before, so that the second sentence speaks of it
  pub agrees : (n : Notion) (θ : ℕ → Term) → Agrees n θ z → Agrees n θ h.session
  -- its own request is that of order 1 or 21, not what joins left of it
  pub typed : (v : ℕ) (r : Request) → h.requests v ≡ some r → belongs r.family (resolved z.solver (var v)) ≡ true

-- ---- the premises

-- "pairs free of Unknown, Error and projections"
unfoldable pub outside : Term → Bool
outside (var v) = false
outside (node k ps) = among k (2 ∷ 3 ∷ 18 ∷ [])

-- what is read is formed
abbrev pub Plain : Term → Type 0
Plain t = Formed t × (meets outside always t ≡ false)

abbrev pub PlainPairs : List Pair → Type 0
PlainPairs [] = Unit {0}
PlainPairs (p ∷ ps) = Plain p.0 × Plain p.1 × PlainPairs ps

module _ (lim : Limits) where
  -- the history after an order, and after a list of orders given in turn
  abbrev pub after : History → Command → History
  after h c = noted h c (order lim h.session c)

  unfoldable pub history : History → List Command → History
  history h [] = h
  history h (c ∷ cs) = history (after h c) cs

  -- Of an order where it stands, in the session s, that leaves the session y: "each number place requested once and not issued earlier" (an order 1
  -- refused with 8 has such a place too; 21 as 1), and "no default that bound a variable": "A default bound a variable where order 6 or 7 leaves another revision
  -- than it found"
  abbrev pub AllowedBy : Session → Role → Session → Type 0
  AllowedBy s (requesting site r) y = find (at site 1) s.places ≡ none
  AllowedBy s (posing b t u) y = Unit {0}
  AllowedBy s defaulting y = y.solver.revision ≡ s.solver.revision
  AllowedBy s neither y = Unit {0}

  abbrev pub Allowed : Session → Command → Type 0
  Allowed s c = AllowedBy s (role c) (order lim s c).session

  abbrev pub AllAllowed : Session → List Command → Type 0
  AllAllowed s [] = Unit {0}
  AllAllowed s (c ∷ cs) = Allowed s c × AllAllowed (order lim s c).session cs

  -- (that fallbacks are integers or F64 is not needed: any other fallback has the integers as its family)
  pub record Premises (cs : List Command) : Type 0 where
    pub allowed : AllAllowed fresh cs
    pub pairs : PlainPairs (history beginning cs).posed
    -- "no cancelled pair"
    pub none_cancelled : (history beginning cs).cancelled ≡ false
