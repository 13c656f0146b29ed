-- The identity status as code computes it: what a row says, what a place says, and the ways through.
use Rattle.std.specs.Prelude.{ℕ, ◌≤◌, ◌<◌, Bool, true, false, ◌&&◌, List, ◌≡◌, length}
use Rattle.std.proofs.Math.Path.{refl}
use Rattle.std.proofs.Common.{ap, sym}
use native.Mathlib.Omega.{arith}
use Rattle.std.proofs.Math.ListN.{get_or-eq_default}
use Rattle.base_cells.specs.Records.{to_bool}
use Rattle.base_cells.specs.Back.{Bytes}
use Rattle.base_tables.specs.Tables.{length_rows}
use Rattle.rules.specs.Lists.{any}
use Rattle.rules.specs.declared.Conn.{Conn}
use Rattle.rules.specs.State.{State, Content, no_content, is_owner, content_at}
use Rattle.rules.specs.Objects.{owned, running}
use Rattle.state_rules.specs.Places.{table_in, row_size, connections_of, fault_of, mark_at, assemblies_of}
use Rattle.state_rules.specs.Bits.{run_in}
use Rattle.state_rules.specs.Rows.{dec_conn, conns_in}
use Rattle.state_rules.specs.Image.{view, tested}
use Rattle.state_image.specs.Holds.{holds_tested, assemblies_held}
use Rattle.app_answers.specs.Assemblies.{run_is}

abbrev pub owner_in : Conn → Bool
owner_in c = is_owner c.fixed.kind

abbrev pub runs_in : State → Conn → Bool
runs_in st c = is_owner c.fixed.kind && (content_at st c.fixed.output).run

-- ---- the mark of the assembly at a place

module _ (s : List ℕ) (t : tested s ≡ true) (b : Bytes s) (i : ℕ) where
  pub run_past : assemblies_of s ≤ i → false ≡ (content_at (view s) i).run
  run_past h =
      let e = assemblies_held s (view s) s (holds_tested s t b) in
      ap (λ (x : Content). x.run) (sym (get_or-eq_default (view s).contents no_content {n = i} (omega arith)))

  pub run_at : i < assemblies_of s → run_in (mark_at s i) ≡ (content_at (view s) i).run
  run_at h = run_is s t b i h

-- ---- the extended device status

module _ (s : List ℕ) where
  pub table_long : length (view s).table ≡ connections_of s
  unfolding view
  table_long = length_rows row_size dec_conn (connections_of s) (table_in s)

  pub fault_is : (view s).fault ≡ to_bool (fault_of s)
  unfolding view
  fault_is = refl

-- ---- the walks along the table

module _ (s : List ℕ) where
  pub owned_rows : owned (view s) ≡ any owner_in (conns_in (connections_of s) (table_in s))
  unfolding owned view
  owned_rows = refl

  pub running_rows : running (view s) ≡ any (runs_in (view s)) (conns_in (connections_of s) (table_in s))
  unfolding running view
  running_rows = refl
