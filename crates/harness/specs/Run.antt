-- What the run gives that a head asks for.
use Rattle.std.specs.Prelude.{Bool, ◌&&◌, ◌==◌, ℕ, ◌%◌, List, [], ◌∷◌, if◌then◌else◌, take, drop, replicate}
use Rattle.std.specs.List.{list_all}
use Rattle.sheet.specs.declared.Report.{Report}
use Rattle.sheet.specs.Entry.{Finish, document_limits, entry_result, finished, number_of_reason}
use Rattle.harness.specs.declared.head.Head.{Head}

-- the run of a sheet in an output and areas that are as long and filled as a head says
abbrev pub run_in : Head → List ℕ → Finish
run_in h sheet =
    entry_result document_limits 16384 sheet (replicate h.room (h.fill % 256))
    (replicate h.words h.fill) (replicate h.words h.fill) (replicate h.words h.fill) (replicate h.words h.fill)

-- that of the bytes of a sheet that the head speaks of
abbrev pub run_of : Head → List ℕ → Finish
run_of h sheet = run_in h (take h.size sheet)

-- what a run returned, with the output and the areas that it left
abbrev pub finish_of : Report → (out a b c d : List ℕ) → Finish
finish_of r out a b c d = finished (number_of_reason r.reason) r.orders r.bytes out a b c d

-- what the areas hold after a run: what they were filled with where nothing was run, and else 0
abbrev pub left_in : ℕ → ℕ → ℕ
left_in reason fill = if reason == 12 then fill else 0

-- whether a run has left the output after its answers as it was filled, and the areas as it must
abbrev pub is_left : ℕ → Finish → Bool
is_left fill ran =
    list_all (λ x. x == fill % 256) (drop ran.bytes ran.out)
    && list_all (λ area. list_all (λ x. x == left_in ran.reason fill) area) (ran.a ∷ ran.b ∷ ran.c ∷ ran.d ∷ [])
