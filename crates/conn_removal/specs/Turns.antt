-- Steps of a removal over a held state: what code must know of the buffer after each, and what the buffer then holds.
use Rattle.std.specs.Prelude.{ℕ, ◌≤◌, ◌<◌, Bool, true, false, List, ◌≡◌, refl, length, get_or, Option, Some, None}
use Rattle.std.specs.Option.{is_some}
use Rattle.std.proofs.Common.{ap, sym, subst, ◌∙◌, arith}
use Rattle.base_tables.specs.Tables.{length_rows}
use Rattle.rules.specs.Lists.{place}
use Rattle.rules.specs.State.{State}
use Rattle.rules.specs.Events.{info_of, info_record}
use Rattle.rules.specs.declared.Conn.{Conn}
use Rattle.rules.specs.declared.Fixed.{Fixed}
use Rattle.state_rules.specs.Places.{table_in, row_size, connections_of}
use Rattle.state_rules.specs.Rows.{dec_conn, conn_at, conns_in}
use Rattle.state_image.specs.Fits.{Suits}
use Rattle.state_image.specs.Updates.{no_conn}
use Rattle.state_image.specs.Holds.{Held, Ready, Becomes, BecomesHeld, conns_held, table_held, conn_held}
use Rattle.state_image.specs.Kept.{Kept, length_without, suits_removed}
use Rattle.state_image.specs.Changes.{row_gone, suits_pushed}
use Rattle.state_searches.specs.Searches.{place_in_lem}
use Rattle.state_records.specs.Fields.{length_info}
use Rattle.state_events.specs.Pushes.{told}

-- s' holds what f makes of the state that s holds
abbrev pub Turns : List ℕ → List ℕ → (State → State) → Type 0
Turns s s' f = (st : State) (l : List ℕ) → Held s st l → Held s' (f st) l

-- the bounds, and no more connections
pub record Fewer (s s' : List ℕ) : Type 0 where
  pub ready : Ready s'
  pub fewer : connections_of s' ≤ connections_of s

pub fewer_none : (s : List ℕ) → Ready s → Fewer s s
fewer_none s r = record { ready = r; fewer = omega arith }

pub fewer_both : (s₀ s s' : List ℕ) → Fewer s₀ s → Fewer s s' → Fewer s₀ s'
fewer_both s₀ s s' a b = record { ready = b.ready; fewer = let p = a.fewer in let q = b.fewer in omega arith }

pub fewer_kept : (n : ℕ) (s s' : List ℕ) → Kept n s s' → n ≤ connections_of s → Fewer s s'
fewer_kept n s s' k h = record { ready = k.ready; fewer = let e = k.conns in omega arith }

-- ---- how a step is made

pub turn : (s s' : List ℕ) (f : State → State) → Becomes s s' f → ((st : State) (l : List ℕ) → Suits st l → Suits (f st) l)
    → ((st : State) → length (f st).table ≤ length st.table) → Turns s s' f
turn s s' f b w n st l o =
    record {
      holds = record { is = b st l o.holds; suits = w st l o.holds.suits };
      fewer = let a = n st in let q = o.fewer in omega arith;
    }

pub turn_as : (s s' : List ℕ) (f g : State → State) → Turns s s' f → ((st : State) (l : List ℕ) → Held s st l → f st ≡ g st) → Turns s s' g
turn_as s s' f g d e st l o = subst (λ (z : State). Held s' z l) (e st l o) (d st l o)

pub turn_none : (s : List ℕ) (g : State → State) → ((st : State) (l : List ℕ) → Held s st l → st ≡ g st) → Turns s s g
turn_none s g e st l o = subst (λ (z : State). Held s z l) (e st l o) o

-- ---- a row gone

pub turn_gone : (s s' : List ℕ) (i : ℕ) → BecomesHeld s s' (row_gone i) → Turns s s' (row_gone i)
turn_gone s s' i b st l o =
    record {
      holds = record { is = b st l o; suits = suits_removed st l o.holds.suits i };
      fewer = let a = length_without st.table i in let q = o.fewer in omega arith;
    }

-- ---- an event told

pub turn_told : (s s' : List ℕ) (what : ℕ) (f : Fixed) → Becomes s s' (told what f) → Turns s s' (told what f)
turn_told s s' what f b =
    turn s s' (told what f) b (λ st l w. suits_pushed st l w (info_record what (info_of st.setup f)) (length_info what (info_of st.setup f))) (λ st. omega arith)

-- ---- what a search along a held state's rows found

pub is_there : (x : Option ℕ) → is_some x ≡ true → (i : ℕ) × (x ≡ Some i)
is_there None e = absurd (let z : ◌≡◌ {A = ℕ} 0 1 = cc in omega arith)
is_there (Some i) e = (i, refl)

pub is_nowhere : (x : Option ℕ) → is_some x ≡ false → x ≡ None
is_nowhere None e = refl
is_nowhere (Some i) e = absurd (let z : ◌≡◌ {A = ℕ} 0 1 = cc in omega arith)

module _ (p : Conn → Bool) (s : List ℕ) (n : ℕ) (x : Option ℕ) (en : n ≡ connections_of s) (ex : x ≡ place p (conns_in n (table_in s))) where
  held_place : (st : State) (l : List ℕ) → Held s st l → place p st.table ≡ x
  held_place st l o =
      sym (ex ∙ ap (λ (k : ℕ). (place p (conns_in k (table_in s)))) en ∙ ap (λ (z : List Conn). (place p z)) (table_held s st l o.holds))

  pub found_in : (i : ℕ) → x ≡ Some i → i < connections_of s
  found_in i e =
      let z = place_in_lem p no_conn (conns_in n (table_in s)) i (sym ex ∙ e) in
      let w = length_rows row_size dec_conn n (table_in s) in omega arith

  pub found_there : (i : ℕ) → x ≡ Some i → (st : State) (l : List ℕ) → Held s st l → place p st.table ≡ Some i
  found_there i e st l o = held_place st l o ∙ e

  pub found_nowhere : x ≡ None → (st : State) (l : List ℕ) → Held s st l → place p st.table ≡ None
  found_nowhere e st l o = held_place st l o ∙ e

-- a row that is read is the connection's
pub row_held : (s : List ℕ) (i : ℕ) → i < connections_of s → (st : State) (l : List ℕ) → Held s st l → conn_at (table_in s) i ≡ get_or st.table i no_conn
row_held s i p st l o = let n = conns_held s st l o.holds in conn_held s st l o.holds i (omega arith)
