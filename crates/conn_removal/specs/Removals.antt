-- A connection removed: the steps together are the rules' removal.
use Rattle.std.specs.Prelude.{ℕ, ◌<◌, Bool, false, List, get_or, Option, Some, None}
use Rattle.std.proofs.Math.Bool.{true}
use Rattle.std.proofs.Math.Path.{◌≡◌, ap, sym, subst}
use Rattle.std.proofs.Common.{◌∙◌, arith}
use Rattle.rules.specs.Lists.{place, without_first}
use Rattle.rules.specs.State.{State, with_fault}
use Rattle.rules.specs.declared.Event.{Event}
use Rattle.rules.specs.declared.Event.TheVariants.{Closed, TimedOut}
use Rattle.base_ids.specs.declared.Triad.{Triad}
use Rattle.rules.specs.Events.{info_of, event_record, pushed, pushed_all}
use Rattle.rules.specs.Removal.{after_removal, handed_over, listeners_of, run_lost, closed_events, removed, conn_triad, expired, closed, expired_first}
use Rattle.rules_laws.specs.RemovalLaws.{removed_if}
use Rattle.rules.specs.declared.Conn.{Conn}
use Rattle.rules.specs.declared.Fixed.{Fixed}
use Rattle.rules.specs.declared.Sent.{Sent}
use Rattle.state_rules.specs.Places.{table_in, connections_of}
use Rattle.state_rules.specs.Rows.{row_at, dec_fixed, dec_sent, conns_in}
use Rattle.state_image.specs.Updates.{no_conn}
use Rattle.state_image.specs.Holds.{Held}
use Rattle.state_image.specs.Kept.{Kept}
use Rattle.state_image.specs.Changes.{row_gone}
use Rattle.state_searches.specs.Searches.{find_at, without_at}
use Rattle.conn_lookup.specs.RowTests.{place_none}
use Rattle.state_events.specs.Pushes.{told}
use Rattle.conn_removal.specs.Turns.{Turns, Fewer, found_there, found_nowhere, row_held}
use Rattle.conn_removal.specs.Hands.{handed, idled}
use Rattle.conn_removal.specs.Listeners.{ended}

-- what follows when a connection's row has gone: f and x are what it said
abbrev pub without_it : ℕ → Fixed → Sent → State → State
without_it what f x st = told what f (idled f.kind f.output (ended f.kind f.multicast f.toid (handed f.multicast f.toid x st)))

module _ (s s₁ s₂ s₃ s₄ : List ℕ) where
  pub follows : (what : ℕ) (f : Fixed) (x : Sent) → Turns s s₁ (handed f.multicast f.toid x) → Turns s₁ s₂ (ended f.kind f.multicast f.toid)
      → Turns s₂ s₃ (idled f.kind f.output) → Turns s₃ s₄ (told what f) → Turns s s₄ (without_it what f x)
  follows what f x a b c d st l o =
      let st₁ : State = handed f.multicast f.toid x st in
      let st₂ : State = ended f.kind f.multicast f.toid st₁ in
      d (idled f.kind f.output st₂) l (c st₂ l (b st₁ l (a st l o)))

  pub fewer_follows : Kept (connections_of s) s s₁ → Fewer s₁ s₂ → Kept (connections_of s₂) s₂ s₃ → Kept (connections_of s₃) s₃ s₄ → Fewer s s₄
  fewer_follows a b c d =
      let p = a.conns in let q = b.fewer in let r = c.conns in let u = d.conns in
      record { ready = d.ready; fewer = omega arith }

-- the connection at a place removed, and told as `what`
abbrev pub gone_at : ℕ → ℕ → State → State
gone_at what i st = without_it what (get_or st.table i no_conn).fixed (get_or st.table i no_conn).sent (row_gone i st)

pub goes : (s s₁ s₂ : List ℕ) (what i : ℕ) (f : Fixed) (x : Sent) → i < connections_of s → f ≡ dec_fixed (row_at (table_in s) i) → x ≡ dec_sent (row_at (table_in s) i)
    → Turns s s₁ (row_gone i) → Turns s₁ s₂ (without_it what f x) → Turns s s₂ (gone_at what i)
goes s s₁ s₂ what i f x p ef ex a b st l o =
    let c = row_held s i p st l o in
    let k : f ≡ (get_or st.table i no_conn).fixed = ef ∙ ap (λ (z : Conn). z.fixed) c in
    let m : x ≡ (get_or st.table i no_conn).sent = ex ∙ ap (λ (z : Conn). z.sent) c in
    subst (λ (z : State). Held s₂ z l) (λ j. without_it what (k j) (m j) (row_gone i st)) (b (row_gone i st) l (a st l o))

-- ---- the rules' removal

-- its state, by what is left of the table
abbrev after : Bool → Event → Conn → State → List Conn → State
after fault e c st rest =
    record {
      setup = st.setup;
      contents = run_lost c.fixed st.contents;
      table = after_removal c rest;
      events = pushed e (pushed_all (closed_events st.setup (listeners_of c (handed_over c rest))) st.events);
      fault = fault;
      next_id = st.next_id;
      counters = st.counters;
    }

module _ (p : Conn → Bool) (st : State) (i : ℕ) (g : place p st.table ≡ Some i) where
  abbrev c : Conn
  c = get_or st.table i no_conn

  closed_at : removed false Closed c (without_first p st.table) st ≡ gone_at 2 i st
  unfolding removed pushed event_record
  closed_at = ap (after st.fault (Closed (info_of st.setup c.fixed)) c st) (without_at p no_conn st.table i g)

  timed_at : removed true TimedOut c (without_first p st.table) st ≡ with_fault true (gone_at 3 i st)
  unfolding removed pushed event_record
  timed_at = ap (after true (TimedOut (info_of st.setup c.fixed)) c st) (without_at p no_conn st.table i g)

-- close removes the connection of the triad
pub closed_is : (t : Triad) (st : State) (i : ℕ) → place (conn_triad t) st.table ≡ Some i → gone_at 2 i st ≡ closed t st
unfolding closed
closed_is t st i g = sym (closed_at (conn_triad t) st i g) ∙ ap (removed_if false Closed (conn_triad t) st) (sym (find_at (conn_triad t) no_conn st.table i g))

-- expiry removes the first that has expired, and sets the fault mark
pub expired_is : (t : ℕ) (st : State) (i : ℕ) → place (expired t) st.table ≡ Some i → with_fault true (gone_at 3 i st) ≡ expired_first t st
unfolding expired_first
expired_is t st i g = sym (timed_at (expired t) st i g) ∙ ap (removed_if true TimedOut (expired t) st) (sym (find_at (expired t) no_conn st.table i g))

-- ---- expiry: none has expired, or the first that has gone

pub record Ended (t : ℕ) (r : Bool) (s' : List ℕ) (st : State) (l : List ℕ) : Type 0 where
  pub held : Held s' (expired_first t st) l
  pub none_left : r ≡ false → expired_first t st ≡ st

abbrev pub Ends : ℕ → Bool → List ℕ → List ℕ → Type 0
Ends t r s s' = (st : State) (l : List ℕ) → Held s st l → Ended t r s' st l

module _ (t : ℕ) (s : List ℕ) (n : ℕ) (x : Option ℕ) (en : n ≡ connections_of s) (ex : x ≡ place (expired t) (conns_in n (table_in s))) where
  pub ends_none : x ≡ None → Ends t false s s
  unfolding expired_first
  ends_none e st l o =
      let q : st ≡ expired_first t st = ap (removed_if true TimedOut (expired t) st) (sym (place_none (expired t) st.table (found_nowhere (expired t) s n x en ex e st l o))) in
      record { held = subst (λ (z : State). Held s z l) q o; none_left = λ h. sym q }

  pub ends_one : (i : ℕ) → x ≡ Some i → (s₁ s₂ : List ℕ) → Turns s s₁ (gone_at 3 i) → Turns s₁ s₂ (with_fault true) → Ends t true s s₂
  unfolding expired_first
  ends_one i e s₁ s₂ a b st l o =
      let g = found_there (expired t) s n x en ex i e st l o in
      let q : with_fault true (gone_at 3 i st) ≡ expired_first t st = expired_is t st i g in
      record {
        held = subst (λ (z : State). Held s₂ z l) q (b (gone_at 3 i st) l (a st l o));
        none_left = λ h. absurd (let z : ◌≡◌ {A = ℕ} 0 1 = cc in omega arith);
      }
