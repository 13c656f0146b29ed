-- The rows of the table in the bytes that a host holds: never more than 32, never more than 1,024 events; and every stream is fed.
use Rattle.std.specs.Prelude.{ℕ, suc, ◌≤◌, ◌<◌, Bool, true, List, [], ◌∷◌, ◌≡◌, refl, length, get_or}
use Rattle.std.proofs.Common.{sym, subst, arith}
use Rattle.base_tables.specs.Tables.{row_at_lem, length_rows}
use Rattle.rules.specs.Lists.{any}
use Rattle.rules_laws.specs.ListLaws.{by_cases}
use Rattle.rules.specs.State.{State}
use Rattle.state_rules.specs.Places.{table_in, state_size, row_size, waiting_of, connections_of}
use Rattle.state_rules.specs.Rows.{dec_conn, conn_at, conns_in}
use Rattle.state_rules.specs.Image.{view}
use Rattle.state_image.specs.Fits.{is_long, few_events, few_conns}
use Rattle.rules.specs.declared.Conn.{Conn}
use Rattle.rules_faults.specs.Streams.{AllFed}
use Rattle.rules_faults.proofs.Streams.{streams_are_fed}
use Rattle.host_runs.specs.Runs.{Held}
use Rattle.host_runs.proofs.Held.{held_passes, held_reached}

-- the connection in a row, and those in use
abbrev pub row_of : List ℕ → ℕ → Conn
row_of s k = conn_at (table_in s) k

abbrev pub conns : List ℕ → List Conn
conns s = conns_in (connections_of s) (table_in s)

pub conns_view : (s : List ℕ) → (view s).table ≡ conns s
unfolding view
conns_view s = refl

-- what holds of some connection holds of a row in use
found_at : {A : Type 0} (p : A → Bool) (d : A) (l : List A) → any p l ≡ true → (k : ℕ) × (k < length l) × (p (get_or l k d) ≡ true)
found_at p d [] e = absurd (let z : ◌≡◌ {A = ℕ} 0 1 = cc in omega arith)
found_at p d (x ∷ l) e =
    by_cases (p x)
    (λ y. (0, omega arith, y))
    (λ n. let r = found_at p d l (cc) in (suc r.0, (let h = r.1 in omega arith), r.2))

pub row_found : (s : List ℕ) (p : Conn → Bool) → any p (conns s) ≡ true → (k : ℕ) × (k < connections_of s) × (p (row_of s k) ≡ true)
row_found s p e =
    let r = found_at p (row_of s 0) (conns s) e in
    let n = length_rows row_size dec_conn (connections_of s) (table_in s) in
    let h : r.0 < connections_of s = let a = r.1 in omega arith in
    (r.0, h, subst (λ (c : Conn). p c ≡ true) (row_at_lem row_size dec_conn (connections_of s) (table_in s) r.0 (row_of s 0) h) r.2)

-- NOTHING GROWS: the buffer keeps its size, the table has at most 32 rows, at most 1,024 events wait
pub nothing_grows : {s : List ℕ} → Held s → (length s ≡ state_size) × (connections_of s ≤ 32) × (waiting_of s ≤ 1024)
nothing_grows {s} h = let ok = held_passes h in (is_long s ok, few_conns s ok, few_events s ok)

-- STREAMS ARE FED: a row that only listens is multicast and has a row on its id that does not; a multicast row has one that produces
pub streams_fed : {s : List ℕ} → Held s → AllFed (conns s)
unfolding view
streams_fed {s} h =
    let r = held_reached h in
    subst (λ (st : State). AllFed st.table) (sym r.3) (streams_are_fed r.0 r.1 r.2)
