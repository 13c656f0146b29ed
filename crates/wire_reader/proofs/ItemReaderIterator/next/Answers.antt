-- Behind an item fewer are to come.
use Rattle.std.proofs.Common.{sym, ◌∙◌}
use Rattle.wire_items.proofs.ItemLaws.{fewer}
use Rattle.wire_reader.proofs.ItemReaderIterator.next.Goals as goal

pub returns-in-Item-clause-goes : goal.returns-in-Item-clause-goes
returns-in-Item-clause-goes c =
    let less = fewer _ _ _ _ _ _ _ (sym c.in-Item.is ∙ c.step.ensures) in
    record { on = λ _. (tt, tt, less); keeps = tt; rests = λ _. tt }
