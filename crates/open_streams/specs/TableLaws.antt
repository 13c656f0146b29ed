-- Checks of the whole table, as code makes them.
use Prim.Native.Nat.{ℕ, zero, suc}
use Rattle.std.specs.Prelude.{Bool, ◌||◌, List, ◌≡◌, ltb, take, drop, Option, Some, None}
use Rattle.std.proofs.Math.Bool.{not}
use Rattle.std.proofs.Math.Path.{refl, ap}
use Rattle.std.proofs.Common.{sym, ◌∙◌}
use Rattle.base_tables.specs.Tables.{rows, length_rows}
use Rattle.wire_rules.specs.declared.ForwardOpen.{ForwardOpen}
use Rattle.rules.specs.declared.Stop.TheVariants.{TriadInUse, Full}
use Rattle.rules.specs.Lists.{place, any}
use Rattle.rules.specs.Checks.{must, has_triad, triad_check, max_connections, room_check}
use Rattle.rules.specs.Removal.{conn_triad}
use Rattle.state_rules.specs.Rows.{dec_fixed, conns_in, fixeds_in}
use Rattle.state_rules.specs.Places.{row_size}
use Rattle.state_image.specs.Updates.{no_conn}
use Rattle.conn_lookup.specs.RowTests.{place_any, place_never}

-- check 10, from the row found: what a search of whole rows finds is what any of the fixed parts is
module _ (o : ForwardOpen) (n : ℕ) (r : List ℕ) (x : Option ℕ) (e : x ≡ place (conn_triad o.triad) (conns_in n r)) where
  any_fixed : (m : ℕ) (l : List ℕ) → any (has_triad o.triad) (fixeds_in m l) ≡ any (conn_triad o.triad) (conns_in m l)
  unfolding rows
  any_fixed zero l = refl
  any_fixed (suc m) l = ap (λ (b : Bool). has_triad o.triad (dec_fixed (take row_size l)) || b) (any_fixed m (drop row_size l))

  pub triad_used : (i : ℕ) → x ≡ Some i → Some TriadInUse ≡ triad_check o (fixeds_in n r)
  unfolding triad_check must
  triad_used i h =
      sym (ap (λ (b : Bool). must (not b) TriadInUse) (any_fixed n r ∙ place_any (conn_triad o.triad) no_conn (conns_in n r) i (sym e ∙ h)))

  pub triad_free : x ≡ None → None ≡ triad_check o (fixeds_in n r)
  unfolding triad_check must
  triad_free h =
      sym (ap (λ (b : Bool). must (not b) TriadInUse) (any_fixed n r ∙ place_never (conn_triad o.triad) (conns_in n r) (sym e ∙ h)))

-- check 13: the number of rows is the number of connections
pub room_rows : (n : ℕ) (r : List ℕ) → must (ltb n max_connections) Full ≡ room_check (fixeds_in n r)
unfolding room_check
room_rows n r = ap (λ (k : ℕ). must (ltb k max_connections) Full) (sym (length_rows row_size dec_fixed n r))
