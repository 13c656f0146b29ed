-- What a reader gives, and where it stands then.
use Rattle.std.specs.Prelude.{ℕ, ◌≡◌, Option, Some, None}
use Rattle.wire_rules.specs.declared.Step.{Step}
use Rattle.wire_rules.specs.declared.Step.TheVariants.{Item, End, Broken}
use Rattle.wire_rules.specs.Items.{step_at}
use Rattle.wire_reader.specs.declared.FrameItem.{FrameItem}
use Rattle.wire_reader.specs.declared.ItemReader.{ItemReader}

-- the item that a step at a place found; none where the list ends or breaks
abbrev pub item_found : ℕ → Step → Option FrameItem
item_found at (Item kind start len next) = Some (record { at = at; kind = kind; start = start; len = len })
item_found at End = None
item_found at (Broken o) = None

-- behind an item the reader stands at the item's cursor; elsewhere it stays
abbrev pub behind : ItemReader → Step → ItemReader
behind r (Item kind start len next) = record { frame = r.frame; at = next.at; left = next.left }
behind r End = r
behind r (Broken o) = r

-- the item of the step at its place, and the reader behind it
abbrev pub Gives : ItemReader → Option FrameItem → ItemReader → Type 0
Gives r found after =
    (found ≡ item_found r.at (step_at r.frame.now r.at r.left)) × (after ≡ behind r (step_at r.frame.now r.at r.left))
