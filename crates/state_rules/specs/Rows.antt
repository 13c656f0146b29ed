-- A connection's row: what produce changes (14), what its originator's frames change (15), what never changes (40).
-- Every pattern of a row's bytes is one connection, so that no row needs a test.
use Rattle.std.specs.Prelude.{ℕ, ◌+◌, ◌-◌, ◌*◌, ◌/◌, ◌%◌, ◌≤◌, Bool, cond, List, [], ◌∷◌, ◌++◌, ◌≡◌, eqb, ltb, get_or, take, drop, Option, Some, None}
use Rattle.base_cells.specs.Numbers.{le}
use Rattle.base_cells.specs.Pick.{pick}
use Rattle.base_cells.specs.Records.{enc_fields, dec_fields, to_bool, of_bool}
use Rattle.base_tables.specs.Tables.{rows}
use Rattle.rules.specs.declared.Kind.{Kind}
use Rattle.rules.specs.declared.Kind.TheVariants.{Owner, InputOnly, ListenOnly}
use Rattle.rules.specs.declared.Fixed.{Fixed}
use Rattle.rules.specs.declared.Heard.{Heard}
use Rattle.rules.specs.declared.Sent.{Sent}
use Rattle.rules.specs.declared.Conn.{Conn}
use Rattle.state_rules.specs.Places.{row_size}

-- the row at a place of the table's region
abbrev pub row_at : List ℕ → ℕ → List ℕ
row_at r i = take row_size (drop (i * row_size) r)

-- ---- sent: due time 8 at 0, sequence 4 at 8, CIP sequence 2 at 12

abbrev pub w_sent : List ℕ
w_sent = 8 ∷ 4 ∷ 2 ∷ []

-- 0 for a connection that does not produce, else the due time and one
abbrev pub of_due : Option ℕ → ℕ
of_due None = 0
of_due (Some t) = t + 1

abbrev pub to_due : ℕ → Option ℕ
to_due n = cond (eqb n 0) None (Some (n - 1))

abbrev pub list_sent : Sent → List ℕ
list_sent s = of_due s.due ∷ s.sequence ∷ s.cip ∷ []

abbrev pub as_sent : List ℕ → Sent
as_sent vs = record { sequence = get_or vs 1 0; cip = get_or vs 2 0; due = to_due (get_or vs 0 0) }

-- ---- heard: CIP sequence 2 at 14, until 8 at 16, sequence 4 at 24, flags 1 at 28

abbrev pub w_heard : List ℕ
w_heard = 2 ∷ 8 ∷ 4 ∷ 1 ∷ []

-- of the fixed part: whether its T→O is multicast, and its input's place
abbrev pub carried_of : Fixed → ℕ
carried_of f = of_bool f.multicast + 2 * f.input

-- and whether there was any sequence and any CIP sequence
abbrev pub flags_of : ℕ → Heard → ℕ
flags_of carried h = 4 * carried + (of_bool h.any + 2 * of_bool h.anycip)

abbrev pub multicast_in : ℕ → Bool
multicast_in flags = to_bool (flags / 4 % 2)

abbrev pub input_in : ℕ → ℕ
input_in flags = flags / 4 / 2

abbrev pub any_in : ℕ → Bool
any_in flags = to_bool (flags % 2)

abbrev pub anycip_in : ℕ → Bool
anycip_in flags = to_bool (flags / 2 % 2)

abbrev pub list_heard : ℕ → Heard → List ℕ
list_heard carried h = h.cip ∷ h.until ∷ h.sequence ∷ flags_of carried h ∷ []

abbrev pub as_heard : List ℕ → Heard
as_heard vs =
    record {
      until = get_or vs 1 0;
      any = any_in (get_or vs 3 0);
      sequence = get_or vs 2 0;
      anycip = anycip_in (get_or vs 3 0);
      cip = get_or vs 0 0;
    }

-- ---- fixed: role 1 at 29, destination port 2 at 30, O→T id 4 at 32, originator address 4 at 36, T→O id 4 at 40, O→T RPI 4 at 44,
-- T→O RPI 4 at 48, destination address 4 at 52, local address 4 at 56, connection serial 2 at 60, vendor 2 at 62, originator serial
-- 4 at 64, multiplier 1 at 68

-- an owner's output, or 254 for input-only, 255 for listen-only
abbrev pub role_of : Kind → ℕ → ℕ
role_of Owner output = output
role_of InputOnly output = 254
role_of ListenOnly output = 255

abbrev pub kind_in : ℕ → Kind
kind_in role = pick (ltb role 254) Owner (pick (eqb role 254) InputOnly ListenOnly)

abbrev pub output_in : ℕ → ℕ
output_in role = pick (ltb role 254) role 0

-- what can be stored: an owner's output below 254, and no output but the first of one that owns none; an open makes no other
abbrev pub RoleFits : Kind → ℕ → Type 0
RoleFits Owner output = output ≤ 253
RoleFits InputOnly output = output ≡ 0
RoleFits ListenOnly output = output ≡ 0

abbrev pub RowFits : Conn → Type 0
RowFits c = RoleFits c.fixed.kind c.fixed.output

abbrev pub w_fixed : List ℕ
w_fixed = 1 ∷ 2 ∷ 4 ∷ 4 ∷ 4 ∷ 4 ∷ 4 ∷ 4 ∷ 4 ∷ 2 ∷ 2 ∷ 4 ∷ 1 ∷ []

-- the same in two halves, as code writes them
abbrev pub w_low : List ℕ
w_low = 1 ∷ 2 ∷ 4 ∷ 4 ∷ 4 ∷ 4 ∷ []

abbrev pub w_high : List ℕ
w_high = 4 ∷ 4 ∷ 4 ∷ 2 ∷ 2 ∷ 4 ∷ 1 ∷ []

abbrev pub list_fixed : Fixed → List ℕ
list_fixed f =
    role_of f.kind f.output
    ∷ f.dest.port
    ∷ f.otid.0
    ∷ f.originator
    ∷ f.toid.0
    ∷ f.otrpi
    ∷ f.torpi
    ∷ f.dest.address
    ∷ f.local
    ∷ f.triad.serial
    ∷ f.triad.vendor
    ∷ f.triad.originator
    ∷ f.multiplier
    ∷ []

abbrev pub as_fixed : ℕ → List ℕ → Fixed
as_fixed flags vs =
    record {
      kind = kind_in (get_or vs 0 0);
      triad = record { serial = get_or vs 9 0; vendor = get_or vs 10 0; originator = get_or vs 11 0 };
      originator = get_or vs 3 0;
      otid = record { 0 = get_or vs 2 0 };
      toid = record { 0 = get_or vs 4 0 };
      otrpi = get_or vs 5 0;
      multiplier = get_or vs 12 0;
      torpi = get_or vs 6 0;
      input = input_in flags;
      output = output_in (get_or vs 0 0);
      dest = record { address = get_or vs 7 0; port = get_or vs 1 0 };
      multicast = multicast_in flags;
      local = get_or vs 8 0;
    }

-- ---- a row's bytes, and what a row says

unfoldable pub enc_sent : Sent → List ℕ
enc_sent s = enc_fields w_sent (list_sent s)

unfoldable pub enc_heard : ℕ → Heard → List ℕ
enc_heard carried h = enc_fields w_heard (list_heard carried h)

unfoldable pub enc_fixed : Fixed → List ℕ
enc_fixed f = enc_fields w_fixed (list_fixed f)

abbrev pub enc_conn : Conn → List ℕ
enc_conn c = enc_sent c.sent ++ (enc_heard (carried_of c.fixed) c.heard ++ enc_fixed c.fixed)

unfoldable pub dec_sent : List ℕ → Sent
dec_sent row = as_sent (dec_fields w_sent row 0)

unfoldable pub dec_heard : List ℕ → Heard
dec_heard row = as_heard (dec_fields w_heard row 14)

unfoldable pub dec_fixed : List ℕ → Fixed
dec_fixed row = as_fixed (le 1 row 28) (dec_fields w_fixed row 29)

abbrev pub dec_conn : List ℕ → Conn
dec_conn row = record { fixed = dec_fixed row; heard = dec_heard row; sent = dec_sent row }

-- the connection at a place of the table's region, and the first n: whole, and what never changes of them
abbrev pub conn_at : List ℕ → ℕ → Conn
conn_at r i = dec_conn (row_at r i)

abbrev pub conns_in : ℕ → List ℕ → List Conn
conns_in n r = rows row_size dec_conn n r

abbrev pub fixeds_in : ℕ → List ℕ → List Fixed
fixeds_in n r = rows row_size dec_fixed n r
