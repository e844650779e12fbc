-- What holds where the reader stands goes on from record to record; the bytes stay those of the slice.
use Rattle.std.proofs.Common.{◌∙◌, ap, arith, refl, List, ℕ, Bor}
use Rattle.terms.proofs.Laws.General.Options.{handed_on, sub_step}
use Rattle.terms.proofs.Laws.Format.ReadLaws.{so_far_start}
use Rattle.terms.proofs.Laws.Format.ListLaws.{records_end, records_read, records_refused}
use Rattle.terms.proofs.lists.read_records.Goals as goal
use native.Mathlib.Nat.{sub-zero}

pub loop-init : goal.loop-init
loop-init c = record { bytes = refl; along = rw (sub-zero c.args.count, c.moved-start.ensures) (so_far_start c.requires.inside) }

pub loop-preserved : goal.loop-preserved
loop-preserved c =
    let l = c.loop in
    record {
      bytes = ap (λ (b : Bor (List ℕ)). b.now) c.next_record.ensures.bytes ∙ l.invariant.bytes;
      along = rw (sub_step c.args.count l.counter) (records_read _ _ _ l.invariant.along (omega arith) (rw l.invariant.bytes at c.in_ok-next_record.ensures.done));
    }

pub returns-in_err-next_record : goal.returns-in_err-next_record
returns-in_err-next_record c =
    let l = c.loop in
    rw (handed_on _ _ c.from_residual.ensures.1) (records_refused _ _ _ l.invariant.along (omega arith) _ (rw l.invariant.bytes at c.in_err-next_record.ensures.done))

pub returns : goal.returns
returns c = rw c.moved-end.ensures (records_end _ _ _ c.loop.invariant.along (omega arith))
