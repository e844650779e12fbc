-- The reader stays over the same bytes, and what holds where it stands is `Along`.
use Rattle.std.proofs.Common.{◌≡◌}
use Rattle.terms.specs.Words.Tokens.{area}
use Rattle.terms.proofs.Laws.Format.ListReaderLaws.{Along}
use Rattle.terms.proofs.lists.read_records.Given as goal

abbrev pub invariant-loop : goal.invariant-loop
invariant-loop l = record {
  bytes : l.reader.bytes.now ≡ l.s;
  along : Along l.s l.w l.count l.place (area l.initial.kinds l.initial.vals) l.counter l.reader.place (area l.kinds l.vals);
}
