-- A session in the four work areas, and an order answered there.
use Rattle.std.specs.Prelude.{Some, None, List, ◌≡◌, ℕ, ◌+◌, ◌*◌, ◌≤◌, ◌<◌, length, take, drop}
use Rattle.std.proofs.lemmas.List.Edits.{sets}
use Rattle.solver.specs.declared.Solver.{Solver}
use Rattle.solver.specs.Session.{Session}
use Rattle.solver.specs.Words.SessionRepresentation.{Represents, limits_of}
use Rattle.solver.specs.Words.Worklist.{Zero}
use Rattle.solver.specs.Words.ConstrainContract.{pending_from}
use Rattle.solver.specs.Words.Halves.{half_words}
use Rattle.solver.specs.Words.TableLayout.{table_words}
use Rattle.sheet.specs.Sheet.{Step, order_of, framed}
use Rattle.sheet.specs.Words.FramingContract.{Output, Wrote}

-- the words of the four areas; the third has records of normalising, and after them the table
pub record Areas : Type 0 where
  pub a : List ℕ
  pub b : List ℕ
  pub records : List ℕ
  pub table : List ℕ
  pub d : List ℕ

abbrev pub areas : (a b records table d : List ℕ) → Areas
areas a b records table d = record { a = a; b = b; records = records; table = table; d = d }

-- The counters x and the areas hold the session s, and every other word is 0: the tokens stand at the start of a and b, and the table is there;
-- the rest is scratch.
pub record RepresentsInAreas (x : Solver) (m : Areas) (s : Session) : Type 0 where
  pub represents : Represents x (take x.top m.a) (take x.top m.b) m.table s
  pub kinds : Zero (drop x.top m.a)
  pub vals : Zero (drop x.top m.b)
  pub front : Zero m.records
  pub blank : Zero (drop (pending_from x) m.table)
  pub work : Zero m.d
  -- a node has at most six tokens
  pub few : x.top ≤ 6 * x.kept

-- So many words an area are enough for these limits. As the layout is now, the last two follow from those before them; each of the five is cited where what
-- it stands for is asked, so that one that is too small is refused there.
pub record Roomy (variables nodes words : ℕ) : Type 0 where
  -- in a and b eight tokens for each node, as ids of two tokens take: the places of a pair are few (`few` of `Scratch`)
  pub tokens : 8 * nodes ≤ words
  -- ids of one token take six, and a few more for the heads of bare nominals: room to read an order (`OrderRoom`)
  pub nominals : 6 * nodes + 16 ≤ words
  -- in c, behind 8,192 records of normalising, the table with a word for each pending pair (`pairs` of `Scratch`)
  pub table : 8192 + table_words variables nodes ≤ words
  -- in d half a word for each token, and a word for each node: links and queue of equality (`links` of `Scratch`)
  pub links : half_words (8 * nodes) + nodes ≤ words
  -- in d two words for each variable: marks and queue, and the frames of a walk (`marks` of `Scratch`, `Frames`)
  pub marks : variables + variables ≤ words

-- The areas have so many words, and that is enough for the limits of x. Besides, order 19 numbers what it reads by 32 bits, and the rules of order 20 stand in
-- an array of 6,144 words.
pub record AreasSuffice (x : Solver) (words : ℕ) (m : Areas) : Type 0 where
  pub a_size : length m.a ≡ words
  pub b_size : length m.b ≡ words
  pub c_size : length m.records + length m.table ≡ words
  pub d_size : length m.d ≡ words
  pub roomy : Roomy x.variables x.nodes words
  pub records : length m.records ≡ 8192
  pub few : words ≤ 32768
  pub rules : x.nodes ≤ 2048

-- A step of the definition taken, with the output w before it and v after it: its answer whole, with its effect, or nothing at all. The position
-- after the answer is returned, or none.
pub record Answers (x : Solver) (m : Areas) (s : Session) (st : Step) (w : Output) (v : Wrote) (old : Solver) : Type 0 where
  pub fits : w.at + length (framed st.answer) ≤ length w.bytes
      → (v.next ≡ Some (w.at + length (framed st.answer))) × (v.bytes ≡ sets w.bytes w.at (framed st.answer)) × RepresentsInAreas x m st.session
  pub long : length w.bytes < w.at + length (framed st.answer) → (v.next ≡ None) × (v.bytes ≡ w.bytes) × RepresentsInAreas x m s
  pub variables : x.variables ≡ old.variables
  pub nodes : x.nodes ≡ old.nodes

-- an order answered: the step is the one that its bytes say
abbrev pub Served : (x : Solver) (m : Areas) (s : Session) (order : List ℕ) (w : Output) (v : Wrote) (old : Solver) → Type 0
Served x m s order w v old = Answers x m s (order_of (limits_of old) s order) w v old
