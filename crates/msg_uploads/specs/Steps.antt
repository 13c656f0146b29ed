-- The next position by the length of the EDS alone, as code computes it.
use Rattle.std.specs.Prelude.{List, ◌≡◌, refl, ℕ, ◌+◌, ◌%◌, min, length}
use Rattle.rules.specs.Upload.{advanced, was}
use Rattle.rules.specs.declared.objects.Position.{Position}

unfoldable pub advanced_to : ℕ → Position → Position
advanced_to len p =
    record {
      size = p.size;
      next = (p.next + 1) % 256;
      offset = min (p.offset + p.size) len;
      last = was p.next p.offset;
    }

-- it is the rule's
pub advanced_to_lem : (eds : List ℕ) (p : Position) → advanced_to (length eds) p ≡ advanced eds p
unfolding advanced_to advanced
advanced_to_lem eds p = refl
