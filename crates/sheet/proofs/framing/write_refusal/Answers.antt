-- `write_refusal`: two bytes, where there is space for them.
use mathlib.Core.Path.{refl}
use native.Mathlib.Omega.{arith}
use Rattle.sheet.specs.OrderTable.{refusal}
use Rattle.sheet.proofs.Laws.Answering.FramingLaws.{frame_over, frame_fits, two_stores, refusal_frame}
use Rattle.sheet.proofs.framing.write_refusal.Goals as goal

pub returns-then-out-to-lt2 : goal.returns-then-out-to-lt2
returns-then-out-to-lt2 c =
    let a = c.args in
    frame_over (refusal a.code) _ (refusal_frame a.code) a.out.now a.to _ (omega arith) refl

pub returns : goal.returns
returns c =
    let a = c.args in
    frame_fits (refusal a.code) _ (refusal_frame a.code) a.out.now a.to _ _ (omega arith) refl (two_stores a.out.now a.to _ _)
