-- An order read into the areas: what reading it needs, and what it leaves.
use Rattle.std.specs.Prelude.{Ok, Err, List, ◌⊎◌, ◌≡◌, ℕ, ◌+◌, ◌-◌, ◌*◌, ◌^◌, ◌≤◌, ◌<◌, length, get_or}
use Rattle.std.specs.declared.result.Result as rust
use Rattle.std.proofs.Math.Option.{some}
use Rattle.solver.specs.TermTypes.{Refusal, Rule}
use Rattle.solver.specs.Terms.Result.{got, refused, number_of}
use Rattle.solver.specs.Terms.Tokens.{Area, area, puts, blank, before, toks}
use Rattle.sheet.specs.declared.Order.{Order}
use Rattle.sheet.specs.Fields.{Field, fields, all_nodes}
use Rattle.sheet.specs.OrderTable.{row_in, layout, known}
use Rattle.sheet.specs.Sheet.{table, read_order}
use Rattle.sheet.specs.Words.OrderKinds.{kind_row}
use Rattle.sheet.specs.Words.FieldsFormed.{FormedFields}
use Rattle.sheet.specs.Words.FieldsHeld.{HeldFields}
use Rattle.sheet.specs.Words.OrderGiven.{FitsLayout}
use Rattle.sheet.specs.Words.FieldLayout.{all_items, Free, Spots, spares}

-- there is room for the rules of an order: as many as n nodes hold, which are two or more for each, or as many as there are where one byte says how many
abbrev pub RulesRoom : (s : List ℕ) (ws : List Rule) → ℕ → Type 0
RulesRoom s ws n = (n ≤ 2 * length ws + 1) ⊎ ((get_or s 1 0 < 128) × (get_or s 1 0 ≤ length ws))

-- The bytes are not too many, and the areas hold nothing from `top` on. `kept` nodes are kept; for each more, up to the limit, there is room for six tokens,
-- and for eight in all besides, and for its rules where it may have some (its first byte is 20).
pub record OrderRoom (s ks vs : List ℕ) (ws : List Rule) (top kept limit : ℕ) : Type 0 where
  pub bytes : length s ≤ 16777216
  pub within : kept ≤ limit
  pub tokens : top + 6 * (limit - kept) + 8 ≤ length ks
  pub paired : length vs ≡ length ks
  pub rules : get_or s 0 0 ≡ 20 → RulesRoom s ws (limit - kept)
  pub short : length ks ≤ 2147483648
  pub few : limit ≤ 2147483648
  pub free : Free top (area ks vs)

-- d are the areas before, e after, and ws the rules after
pub record WholeOrder (s : List ℕ) (issued top kept limit : ℕ) (d e : Area) (ws : List Rule) (o : Order) : Type 0 where
  -- its number is that of its kind
  pub numbered : row_in table (get_or s 0 0) ≡ some (kind_row o.kind)
  -- what it says
  pub said : List Field
  pub next : ℕ
  pub is : read_order s issued ≡ got (record { kind = kind_row o.kind; fields = said }) next
  pub formed : FormedFields (known (kind_row o.kind) issued) said
  pub fitting : FitsLayout (layout (kind_row o.kind)) said
  pub found : fields s (known (kind_row o.kind) issued) (layout (kind_row o.kind)) 1 ≡ got said next
  pub spots : Spots s ws top o.fields said
  pub counts : o.nodes ≡ kept + all_nodes said
  pub tokens : o.top ≡ top + length (all_items said)
  -- six tokens a node, and four for each bare nominal besides
  pub room : length (all_items said) ≤ 6 * all_nodes said + spares (layout (kind_row o.kind))
  pub small : o.top < 2 ^ 32
  -- within the limit its tokens stand from `top` on, and nothing else changed
  pub held : o.nodes ≤ limit → HeldFields e.kinds e.vals s ws o.fields said
  pub stored : o.nodes ≤ limit → e ≡ puts d top (all_items said)
  pub run : o.nodes ≤ limit → toks e.kinds e.vals top (length (all_items said)) ≡ all_items said
  pub fits : o.nodes ≤ limit → o.top ≤ length e.kinds
  -- in any case nothing before `top` changed, nothing is held after, and with its tokens cleared the areas are as they were
  pub same : before top e ≡ before top d
  pub free : Free o.top e
  pub cleared : blank e top (o.top - top) ≡ d

abbrev pub OrderDone : (s : List ℕ) (issued top kept limit : ℕ) (d e : Area) (ws : List Rule) → rust.Result Order Refusal → Type 0
OrderDone s issued top kept limit d e ws (Ok o) = WholeOrder s issued top kept limit d e ws o
OrderDone s issued top kept limit d e ws (Err r) = (read_order s issued ≡ refused (number_of r)) × (e ≡ d)
