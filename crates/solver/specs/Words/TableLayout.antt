-- Where things stand in the table, m being the limit of variables: ten columns of m words, a word of each for every variable, then 64 steps of undo and 256
-- labels, then the pending pairs. The columns are binding, request, place, site, slot, deferral, end of the chain, tail, and two that are not used yet: order of
-- binding, request before. Steps and labels are not used yet either. `src/layout.rt` has the same numbers.
use Rattle.std.specs.Prelude.{ℕ, ◌+◌, ◌*◌}

-- the first word of a column; bindings stand from 0 on
abbrev pub requests_from : ℕ → ℕ
requests_from m = m

abbrev pub places_from : ℕ → ℕ
places_from m = 2 * m

abbrev pub sites_from : ℕ → ℕ
sites_from m = 3 * m

abbrev pub slots_from : ℕ → ℕ
slots_from m = 4 * m

abbrev pub deferrals_from : ℕ → ℕ
deferrals_from m = 5 * m

abbrev pub ends_from : ℕ → ℕ
ends_from m = 6 * m

abbrev pub tails_from : ℕ → ℕ
tails_from m = 7 * m

abbrev pub unused_from : ℕ → ℕ
unused_from m = 8 * m

-- two columns, 64 steps of undo of four words, and 256 labels of two
abbrev pub unused_count : ℕ → ℕ
unused_count m = 2 * m + (64 * 4 + 256 * 2)

-- the words of a session: all that lasts from order to order. The pending pairs follow them.
abbrev pub lasting_words : ℕ → ℕ
lasting_words m = unused_from m + unused_count m

-- the words of a table for so many variables and nodes: what lasts, and one for each pair that can be pending
abbrev pub table_words : ℕ → ℕ → ℕ
table_words m nodes = lasting_words m + nodes
