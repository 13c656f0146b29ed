-- The item list of a frame: a 16-bit count, then kind, size, bytes; the last must end with the data.
use Rattle.std.specs.Prelude.{ℕ, zero, suc, ◌+◌, List, [], ◌∷◌, length, leb, eqb, Result, Ok, Err, ⊤}
use Rattle.base_cells.specs.Pick.{pick}
use Rattle.base_cells.specs.Numbers.{le}
use Rattle.wire_rules.specs.declared.Cursor.{Cursor}
use Rattle.wire_rules.specs.declared.Step.{Step}
use Rattle.wire_rules.specs.declared.Step.TheVariants.{Item, End, Broken}

abbrev pub cursor : ℕ → ℕ → Cursor
cursor at left = record { at = at; left = left }

-- 3.2: the count; or its offset, 0, where it does not fit
unfoldable pub start_of : List ℕ → Result Cursor ℕ
start_of s = pick (leb 2 (length s)) (Ok (cursor 2 (le 2 s 0))) (Err 0)

-- 3.3: where the item at `at` ends: kind and size are 2 bytes each
abbrev pub item_end : List ℕ → ℕ → ℕ
item_end s at = at + 4 + le 2 s (at + 2)

-- 3.4: what stands at `at`. With no item to come: the end of the data, or a spare byte. With an item to come and n after it: that item, or `at`, where it does not fit
unfoldable pub step_at : List ℕ → ℕ → ℕ → Step
step_at s at zero = pick (eqb at (length s)) End (Broken at)
step_at s at (suc n) =
    pick (leb (item_end s at) (length s))
    (Item (le 2 s at) (at + 4) (le 2 s (at + 2)) (cursor (item_end s at) n))
    (Broken at)

-- an item: its kind, where its bytes start, and how many there are
pub record Part : Type 0 where
  pub kind : ℕ
  pub start : ℕ
  pub len : ℕ

-- a well-formed list, or the offset where it breaks
pub data Items : Type 0 where
  well_formed : List Part → Items
  broken : ℕ → Items

abbrev pub cons : Part → Items → Items
cons p (well_formed l) = well_formed (p ∷ l)
cons p (broken o) = broken o

-- the step's item, and what is found behind it
abbrev pub follow : Step → (ℕ → Items) → Items
follow (Item kind start len next) rest = cons (record { kind = kind; start = start; len = len }) (rest next.at)
follow End rest = well_formed []
follow (Broken o) rest = broken o

-- n items from `at` on, the last of which ends with the data. With none to come no item is found, so what would follow one does not count
unfoldable pub items_from : ℕ → List ℕ → ℕ → Items
items_from zero s at = follow (step_at s at zero) broken
items_from (suc n) s at = follow (step_at s at (suc n)) (items_from n s)

abbrev pub begun : Result Cursor ℕ → (Cursor → Items) → Items
begun (Ok c) items = items c
begun (Err o) items = broken o

-- the whole list: as many items as the count says
unfoldable pub items_of : List ℕ → Items
items_of s = begun (start_of s) (λ c. items_from c.left s c.at)

abbrev pub whole_of : Items → Result ⊤ ℕ
whole_of (well_formed l) = Ok tt
whole_of (broken o) = Err o

-- the step behind an item; a list that ends or breaks there stays so
abbrev pub onward : Step → (Cursor → Step) → Step
onward (Item kind start len next) rest = rest next
onward End rest = End
onward (Broken o) rest = Broken o

-- the step after n more items
unfoldable pub step_after : ℕ → List ℕ → ℕ → ℕ → Step
step_after zero s at left = step_at s at left
step_after (suc n) s at left = onward (step_at s at left) (λ c. step_after n s c.at c.left)

abbrev pub started : Result Cursor ℕ → (Cursor → Step) → Step
started (Ok c) rest = rest c
started (Err o) rest = Broken o

-- 3.5: item n of a frame, counted from 0
unfoldable pub item_of : ℕ → List ℕ → Step
item_of n s = started (start_of s) (λ c. step_after n s c.at c.left)
