-- A stream that nobody feeds any more: its listeners close, the first and then the rest.
use Rattle.std.specs.Prelude.{ℕ, ◌+◌, ◌-◌, ◌<◌, Bool, true, false, cond, not, ◌&&◌, List, [], ◌∷◌, ◌≡◌, refl, eqb, get_or, Option, Some, None}
use Rattle.std.proofs.Common.{ap, sym, subst, ◌∙◌, arith, eq-eqb}
use Rattle.base_cells.specs.Records.{of_bool}
use Rattle.rules.specs.Lists.{maybe, find, place, any, keep, without_first}
use Rattle.rules_laws.specs.ListLaws.{by_cases, clash, find_passes, keep_all, all_to, none_found, without_keep_out}
use Rattle.rules.specs.State.{State, with_table, is_listener}
use Rattle.rules.specs.Events.{event_record, appended, pushed, pushed_all}
use Rattle.rules.specs.Removal.{in_stream, feeds, closed_events}
use Rattle.rules.specs.declared.Conn.{Conn}
use Rattle.rules.specs.declared.Fixed.{Fixed}
use Rattle.rules.specs.declared.Kind.{Kind}
use Rattle.base_ids.specs.declared.ToId.{ToId}
use Rattle.state_rules.specs.Places.{table_in, connections_of}
use Rattle.state_rules.specs.Rows.{row_at, dec_fixed, conns_in}
use Rattle.state_image.specs.Updates.{no_conn}
use Rattle.state_image.specs.Holds.{Held, Ready}
use Rattle.state_image.specs.Kept.{Kept}
use Rattle.state_image.specs.Changes.{row_gone}
use Rattle.state_searches.specs.Searches.{find_at, without_at}
use Rattle.conn_lookup.specs.RowTests.{place_any, place_none, place_never}
use Rattle.state_events.specs.Pushes.{told}
use Rattle.conn_removal.specs.Turns.{Turns, Fewer, turn_as, turn_none, found_in, found_there, found_nowhere, row_held}

-- the first multicast connection of the id closed; all of them
abbrev pub one_closed : ToId → State → State
one_closed id st = maybe st (λ c. told 2 c.fixed (with_table (without_first (in_stream id) st.table) st)) (find (in_stream id) st.table)

abbrev pub all_closed : ToId → State → State
all_closed id st =
    record {
      setup = st.setup;
      contents = st.contents;
      table = keep (λ x. not (in_stream id x)) st.table;
      events = pushed_all (closed_events st.setup (keep (in_stream id) st.table)) st.events;
      fault = st.fault;
      next_id = st.next_id;
      counters = st.counters;
    }

-- ---- lists

keep_none : {A : Type 0} (p : A → Bool) (xs : List A) → find p xs ≡ None → keep p xs ≡ []
keep_none p [] e = refl
keep_none p (x ∷ xs) e = by_cases (p x) (λ t. absurd (let z : ◌≡◌ {A = ℕ} 0 1 = cc in omega arith)) (λ t. cc (keep_none p xs (cc)))

keep_others : {A : Type 0} (p : A → Bool) (xs : List A) → find p xs ≡ None → keep (λ x. not (p x)) xs ≡ xs
keep_others p xs e = keep_all (λ x. not (p x)) xs (all_to (λ x. p x ≡ false) (λ x. not (p x) ≡ true) (λ x h. ap not h) xs (none_found p xs e))

keep_first : {A : Type 0} (p : A → Bool) (c : A) (xs : List A) → find p xs ≡ Some c → keep p xs ≡ c ∷ keep p (without_first p xs)
keep_first p c [] e = clash true refl (cc)
keep_first p c (x ∷ xs) e = by_cases (p x) (λ t. let f : Some x ≡ Some c = cc in cc) (λ t. cc (keep_first p c xs (cc)))

-- ---- all of them, by the first and the rest

pub all_none : (id : ToId) (st : State) → find (in_stream id) st.table ≡ None → all_closed id st ≡ st
unfolding pushed_all
all_none id st e =
    λ j.
    record {
      setup = st.setup;
      contents = st.contents;
      table = keep_others (in_stream id) st.table e j;
      events = pushed_all (closed_events st.setup (keep_none (in_stream id) st.table e j)) st.events;
      fault = st.fault;
      next_id = st.next_id;
      counters = st.counters;
    }

all_found : (id : ToId) (st : State) (c : Conn) → find (in_stream id) st.table ≡ Some c
    → all_closed id (told 2 c.fixed (with_table (without_first (in_stream id) st.table) st)) ≡ all_closed id st
unfolding pushed event_record appended pushed_all
all_found id st c e =
    let p : Conn → Bool = in_stream id in
    let a : keep (λ x. not (p x)) (without_first p st.table) ≡ keep (λ x. not (p x)) st.table =
    without_keep_out p (λ x. not (p x)) c st.table e (ap not (find_passes p c st.table e)) in
    let b : c ∷ keep p (without_first p st.table) ≡ keep p st.table = sym (keep_first p c st.table e) in
    λ j.
    record {
      setup = st.setup;
      contents = st.contents;
      table = a j;
      events = pushed_all (closed_events st.setup (b j)) st.events;
      fault = st.fault;
      next_id = st.next_id;
      counters = st.counters;
    }

pub all_one : (id : ToId) (st : State) → all_closed id (one_closed id st) ≡ all_closed id st
all_one id st = go (find (in_stream id) st.table) refl
  where
    go : (o : Option Conn) → find (in_stream id) st.table ≡ o
        → all_closed id (maybe st (λ c. told 2 c.fixed (with_table (without_first (in_stream id) st.table) st)) o) ≡ all_closed id st
    go None e = refl
    go (Some c) e = all_found id st c e

-- ---- the first closed, if there is any

pub record Dropped (r : Bool) (s s' : List ℕ) : Type 0 where
  pub ready : Ready s'
  pub count : connections_of s' + of_bool r ≡ connections_of s

pub record ClosedOne (id : ToId) (r : Bool) (s' : List ℕ) (st : State) (l : List ℕ) : Type 0 where
  pub held : Held s' (one_closed id st) l
  pub none_left : r ≡ false → find (in_stream id) st.table ≡ None

abbrev pub Closes : ToId → Bool → List ℕ → List ℕ → Type 0
Closes id r s s' = (st : State) (l : List ℕ) → Held s st l → ClosedOne id r s' st l

pub dropped_none : (s : List ℕ) → Ready s → Dropped false s s
dropped_none s r = record { ready = r; count = omega arith }

module _ (id : ToId) (s : List ℕ) (n : ℕ) (x : Option ℕ) (en : n ≡ connections_of s) (ex : x ≡ place (in_stream id) (conns_in n (table_in s))) where
  pub closes_none : x ≡ None → Closes id false s s
  closes_none e st l o =
      let q : find (in_stream id) st.table ≡ None = place_none (in_stream id) st.table (found_nowhere (in_stream id) s n x en ex e st l o) in
      let w : st ≡ one_closed id st = ap (maybe st (λ c. told 2 c.fixed (with_table (without_first (in_stream id) st.table) st))) (sym q) in
      record { held = subst (λ (z : State). Held s z l) w o; none_left = λ h. q }

  pub closes_one : (i : ℕ) → x ≡ Some i → (f : Fixed) → f ≡ dec_fixed (row_at (table_in s) i) → (s₁ s₂ : List ℕ) → Turns s s₁ (row_gone i) → Turns s₁ s₂ (told 2 f)
      → Closes id true s s₂
  closes_one i e f ef s₁ s₂ a b st l o =
      let p : Conn → Bool = in_stream id in
      let g = found_there p s n x en ex i e st l o in
      let c : Conn = get_or st.table i no_conn in
      let k : f ≡ c.fixed = ef ∙ ap (λ (z : Conn). z.fixed) (row_held s i (found_in p s n x en ex i e) st l o) in
      let w : told 2 f (row_gone i st) ≡ one_closed id st =
      (λ j. told 2 (k j) (with_table (sym (without_at p no_conn st.table i g) j) st))
      ∙ ap (maybe st (λ c. told 2 c.fixed (with_table (without_first p st.table) st))) (sym (find_at p no_conn st.table i g)) in
      record {
        held = subst (λ (z : State). Held s₂ z l) w (b (row_gone i st) l (a st l o));
        none_left = λ h. clash true refl h;
      }

  pub dropped_one : (i : ℕ) → x ≡ Some i → (s₁ s₂ : List ℕ) → Kept (connections_of s - 1) s s₁ → Kept (connections_of s₁) s₁ s₂ → Dropped true s s₂
  dropped_one i e s₁ s₂ a b =
      let h = found_in (in_stream id) s n x en ex i e in
      let p = a.conns in let q = b.conns in
      record { ready = b.ready; count = omega arith }

-- ---- the loop: the rest gives the whole answer

pub record Left (id : ToId) (s : List ℕ) (st : State) (l : List ℕ) : Type 0 where
  pub at : State
  pub held : Held s at l
  pub rest : all_closed id at ≡ all_closed id st

abbrev pub Closing : ToId → List ℕ → List ℕ → Type 0
Closing id s₀ s = (st : State) (l : List ℕ) → Held s₀ st l → Left id s st l

pub closing_turn : (id : ToId) (r : Bool) (s₀ s s' : List ℕ) → Closing id s₀ s → Closes id r s s' → Closing id s₀ s'
closing_turn id r s₀ s s' g d st l o =
    let w = g st l o in record { at = one_closed id w.at; held = (d w.at l w.held).held; rest = all_one id w.at ∙ w.rest }

-- the turn that found none changes nothing
pub closing_end : (id : ToId) (r : Bool) (s₀ s s' : List ℕ) → Closing id s₀ s → Closes id r s s' → r ≡ false → Turns s₀ s' (all_closed id)
closing_end id r s₀ s s' g d e st l o =
    let w = g st l o in
    let y = d w.at l w.held in
    let q = y.none_left e in
    let same : one_closed id w.at ≡ w.at = ap (maybe w.at (λ c. told 2 c.fixed (with_table (without_first (in_stream id) w.at.table) w.at))) q in
    subst (λ (z : State). Held s' z l) (same ∙ sym (all_none id w.at q) ∙ w.rest) y.held

pub fewer_dropped : (r : Bool) (s₀ s s' : List ℕ) → Fewer s₀ s → Dropped r s s' → Fewer s₀ s'
fewer_dropped r s₀ s s' a d = record { ready = d.ready; fewer = let p = a.fewer in let q = d.count in omega arith }

-- ---- when a stream ends

abbrev pub feeder : Kind → Bool → Bool
feeder k multicast = multicast && not (is_listener k)

abbrev pub ends_for : Kind → Bool → ToId → List Conn → Bool
ends_for k multicast id rest = ((multicast && eqb id.0 id.0) && not (is_listener k)) && not (any (feeds id) rest)

-- the listeners of a stream closed, if a connection of that kind went and left it unfed
abbrev pub ended : Kind → Bool → ToId → State → State
ended k multicast id st =
    record {
      setup = st.setup;
      contents = st.contents;
      table = cond (ends_for k multicast id st.table) (keep (λ x. not (in_stream id x)) st.table) st.table;
      events = pushed_all (closed_events st.setup (cond (ends_for k multicast id st.table) (keep (in_stream id) st.table) [])) st.events;
      fault = st.fault;
      next_id = st.next_id;
      counters = st.counters;
    }

ended_when : (k : Kind) (multicast : Bool) (id : ToId) (st : State) (b : Bool) → ends_for k multicast id st.table ≡ b → cond b (all_closed id st) st ≡ ended k multicast id st
unfolding pushed_all
ended_when k multicast id st true e =
    ap (λ (b : Bool). record {
      setup = st.setup;
      contents = st.contents;
      table = cond b (keep (λ x. not (in_stream id x)) st.table) st.table;
      events = pushed_all (closed_events st.setup (cond b (keep (in_stream id) st.table) [])) st.events;
      fault = st.fault;
      next_id = st.next_id;
      counters = st.counters;
    }) (sym e)
ended_when k multicast id st false e =
    ap (λ (b : Bool). record {
      setup = st.setup;
      contents = st.contents;
      table = cond b (keep (λ x. not (in_stream id x)) st.table) st.table;
      events = pushed_all (closed_events st.setup (cond b (keep (in_stream id) st.table) [])) st.events;
      fault = st.fault;
      next_id = st.next_id;
      counters = st.counters;
    }) (sym e)

own_id : (m kind fed : Bool) (x : ℕ) → ((m && eqb x x) && kind) && not fed ≡ (m && kind) && not fed
own_id true kind fed x = ap (λ (z : Bool). (z && kind) && not fed) (eq-eqb x x refl)
own_id false kind fed x = refl

module _ (k : Kind) (multicast : Bool) (id : ToId) (s : List ℕ) where
  ends_is : (rest : List Conn) (a b : Bool) → feeder k multicast ≡ a → any (feeds id) rest ≡ b → ends_for k multicast id rest ≡ a && not b
  ends_is rest a b ea eb = own_id multicast (not (is_listener k)) (any (feeds id) rest) id.0 ∙ (λ j. ea j && not (eb j))

  pub ends_not : (r : Bool) → r ≡ feeder k multicast → r ≡ false → Turns s s (ended k multicast id)
  ends_not r er e =
      turn_none s (ended k multicast id)
      (λ st l o. ended_when k multicast id st false (ends_is st.table false (any (feeds id) st.table) (sym er ∙ e) refl))

  module _ (r : Bool) (er : r ≡ feeder k multicast) (e : r ≡ true) (n : ℕ) (x : Option ℕ) (en : n ≡ connections_of s)
      (ex : x ≡ place (feeds id) (conns_in n (table_in s))) where
    pub ends_fed : (i : ℕ) → x ≡ Some i → Turns s s (ended k multicast id)
    ends_fed i ei =
        turn_none s (ended k multicast id)
        (λ st l o. ended_when k multicast id st false
        (ends_is st.table true true (sym er ∙ e) (place_any (feeds id) no_conn st.table i (found_there (feeds id) s n x en ex i ei st l o))))

    pub ends_all : x ≡ None → (s' : List ℕ) → Turns s s' (all_closed id) → Turns s s' (ended k multicast id)
    ends_all ei s' d =
        turn_as s s' (all_closed id) (ended k multicast id) d
        (λ st l o. ended_when k multicast id st true
        (ends_is st.table true false (sym er ∙ e) (place_never (feeds id) st.table (found_nowhere (feeds id) s n x en ex ei st l o))))
