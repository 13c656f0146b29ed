-- Whom a frame is for.
use Rattle.std.specs.Prelude.{ℕ, ◌+◌, Bool, ◌&&◌, ◌||◌, List, eqb, drop, Option}
use Rattle.base_ids.specs.declared.OtId.{OtId}
use Rattle.rules.specs.Lists.{place}
use Rattle.rules.specs.declared.Conn.{Conn}
use Rattle.state_rules.specs.Rows.{conn_at, conns_in}
use Rattle.state_searches.specs.Searches.{later}

-- the connection with that O→T id
abbrev pub has_id : OtId → Conn → Bool
has_id id c = eqb c.fixed.otid.0 id.0

-- and sender address
abbrev pub hears : OtId → ℕ → Conn → Bool
hears id from c = has_id id c && eqb c.fixed.originator from

-- one of the four rows from i on has the id
abbrev pub id_in_four : OtId → List ℕ → ℕ → Bool
id_in_four id r i = (has_id id (conn_at r i) || has_id id (conn_at r (i + 1))) || (has_id id (conn_at r (i + 2)) || has_id id (conn_at r (i + 3)))

-- the place of the first row from i on that is meant
abbrev pub place_from : OtId → ℕ → ℕ → List ℕ → ℕ → Option ℕ
place_from id from n r i = later i (place (hears id from) (drop i (conns_in n r)))
