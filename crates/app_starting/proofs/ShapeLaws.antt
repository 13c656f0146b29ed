-- A shape in the block whose kind is one of the rules': no instance, or the test of its instance and size.
use Rattle.std.specs.Prelude.{ℕ, ◌+◌, ◌*◌, ◌≤◌, ◌<◌, Bool, true, false, not, ◌&&◌, ◌||◌, List, [], ◌∷◌, map, ◌≡◌, eqb, length, get_or, take, drop}
use Rattle.std.proofs.Math.Path.{ap}
use Rattle.std.proofs.Common.{sym, ◌∙◌, arith, add-one, drop_of_length-le, drop-cons}
use Rattle.std.proofs.Math.Dec.{leb}
use Rattle.std.proofs.Math.ListN.{length-map, get_or-map}
use borrow.Author.Tests.{le-leb, lt-leb, eq-eqb, ne_eqb}
use Rattle.base_cells.specs.Numbers.{le, le_drop}
use Rattle.base_tables.specs.Tables.{rows, length_rows, row_at_lem}
use Rattle.rules.specs.Lists.{any}
use Rattle.rules.specs.State.{Shape, no_shape}
use Rattle.rules.specs.Setup.{shape_ok, distinct}
use Rattle.state_rules.specs.RowLaws.{in_row}
use Rattle.app_starting.specs.Block.{shapes_at, shape_size, dec_shape, given_in, kind_given}
use Rattle.app_starting.specs.Shapes.{shape_given, kind_good}

module _ (r : List ℕ) (i : ℕ) (g : 1 ≤ le 1 r (i * 5 + 114)) (h : le 1 r (i * 5 + 114) ≤ 3) where
  pub no_instance : (n : ℕ) → n ≡ (given_in r i).instance → n < 1 → false ≡ shape_given (take shape_size (drop (i * shape_size) (drop shapes_at r)))
  unfolding shape_given
  no_instance n e p = simp (kind_good r i g h, lt-leb 1 (given_in r i).instance (omega arith))

  pub shape_rest : (n m : ℕ) → n ≡ (given_in r i).instance → m ≡ (given_in r i).size → 1 ≤ n → n ≤ 65535
      → leb m 512 ≡ shape_given (take shape_size (drop (i * shape_size) (drop shapes_at r)))
  unfolding shape_given
  shape_rest n m e f p q =
      ap (λ (k : ℕ). leb k 512) f
      ∙ simp (kind_good r i g h, le-leb 1 (given_in r i).instance (omega arith), le-leb (given_in r i).instance 65535 (omega arith))
