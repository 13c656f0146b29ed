-- The state test accepts what close and expire leave.
use Rattle.std.specs.Prelude.{ℕ, zero, suc, ◌≤◌, Bool, cond, not, ◌&&◌, ◌≡◌, length, get_or, Option, Some, None}
use Rattle.std.proofs.Math.Bool.{true, false}
use mathlib.Core.List.{List, [], ◌∷◌}
use Rattle.std.proofs.Math.Path.{refl, subst}
use Rattle.std.proofs.Common.{ap, sym, arith}
use Rattle.base_tables.specs.Tables.{without}
use Rattle.rules.specs.Lists.{place, keep, change_first, change_at, repeat}
use Rattle.rules_laws.specs.ListLaws.{either_way, length_keep, length_change}
use Rattle.rules.specs.State.{Content, State, no_content, content_at, with_contents, with_table, with_events, with_sent, is_owner, produces}
use Rattle.rules.specs.Events.{info_of, info_record, event_record, appended, pushed, pushed_all}
use Rattle.rules.specs.Removal.{in_stream, idle, closed_events, conn_triad, expired, closed, close_by, close_answer, close_effect, close_call, expired_first, expire_effect, expire_answer, expire_call}
use Rattle.rules_laws.specs.RemovalLaws.{removed_if}
use Rattle.rules.specs.Answers.{is_yes}
use Rattle.rules.specs.declared.Conn.{Conn}
use Rattle.rules.specs.declared.Event.TheVariants.{Closed, TimedOut}
use Rattle.rules.specs.declared.Fixed.{Fixed}
use Rattle.rules.specs.declared.Kind.{Kind}
use Rattle.rules.specs.declared.Sent.{Sent}
use Rattle.base_ids.specs.declared.ToId.{ToId}
use Rattle.base_ids.specs.declared.Triad.{Triad}
use Rattle.wire_rules.specs.Opens.{close_of}
use Rattle.state_rules.specs.Image.{view, store, tested}
use Rattle.state_image.specs.RowsFit.{RowsFit, fits_change, fits_keep}
use Rattle.state_image.specs.Fits.{Suits}
use Rattle.state_image.specs.Updates.{no_conn}
use Rattle.state_image.specs.ViewLaws.{suits_view}
use Rattle.state_image.specs.Passes.{tested_store}
use Rattle.state_image.specs.Kept.{suits_table, suits_removed, suits_content, suits_fault}
use Rattle.state_image.specs.Changes.{suits_pushed}
use Rattle.state_searches.specs.Searches.{change_at_place}
use Rattle.state_records.specs.Fields.{length_info}
use Rattle.conn_lookup.specs.RowTests.{place_none}
use Rattle.state_events.specs.Pushes.{told}
use Rattle.conn_removal.specs.Hands.{handed, idled}
use Rattle.conn_removal.specs.Listeners.{ends_for, ended}
use Rattle.conn_removal.specs.Removals.{gone_at, closed_is, expired_is}

-- ---- each step leaves a state that can be stored

module _ (l : List ℕ) where
  suits_told : (what : ℕ) (f : Fixed) (st : State) → Suits st l → Suits (told what f st) l
  suits_told what f st w = suits_pushed st l w (info_record what (info_of st.setup f)) (length_info what (info_of st.setup f))

  suits_all : (cs : List Conn) (st : State) → Suits st l → Suits (with_events (pushed_all (closed_events st.setup cs) st.events) st) l
  unfolding pushed_all pushed event_record appended
  suits_all [] st w = w
  suits_all (c ∷ cs) st w = suits_all cs (told 2 c.fixed st) (suits_told 2 c.fixed st w)

  suits_handed : (multicast : Bool) (id : ToId) (x : Sent) (st : State) → Suits st l → Suits (handed multicast id x st) l
  suits_handed multicast id x st w =
      suits_table st l w (handed multicast id x st).table
      (let n = length_change (in_stream id) (with_sent x) st.table in let t = w.fits.table in
      either_way (λ (z : List Conn). length z ≤ 32) (multicast && produces x.due) {x = change_first (in_stream id) (with_sent x) st.table} {y = st.table} (omega arith) t)
      (either_way (λ (z : List Conn). RowsFit z) (multicast && produces x.due) {x = change_first (in_stream id) (with_sent x) st.table} {y = st.table}
      (fits_change (in_stream id) (with_sent x) (λ c. refl) st.table w.fits.rows) w.fits.rows)

  suits_ended : (k : Kind) (multicast : Bool) (id : ToId) (st : State) → Suits st l → Suits (ended k multicast id st) l
  suits_ended k multicast id st w =
      let b : Bool = ends_for k multicast id st.table in
      let v = suits_all (cond b (keep (in_stream id) st.table) []) st w in
      suits_table (with_events (ended k multicast id st).events st) l v (ended k multicast id st).table
      (let n = length_keep (λ x. not (in_stream id x)) st.table in let t = w.fits.table in
      either_way (λ (z : List Conn). length z ≤ 32) b {x = keep (λ x. not (in_stream id x)) st.table} {y = st.table} (omega arith) t)
      (either_way (λ (z : List Conn). RowsFit z) b {x = keep (λ x. not (in_stream id x)) st.table} {y = st.table}
      (fits_keep (λ x. not (in_stream id x)) st.table w.fits.rows) w.fits.rows)

  suits_idled : (k : Kind) (i : ℕ) (st : State) → Suits st l → Suits (idled k i st) l
  suits_idled k i st w =
      either_way (λ (z : List Content). Suits (with_contents z st) l) (is_owner k) {x = change_at i idle st.contents} {y = st.contents}
      (rw (change_at_place idle no_content st.contents i) (suits_content st l w i (idle (content_at st i)) refl)) w

  suits_gone : (what i : ℕ) (st : State) → Suits st l → Suits (gone_at what i st) l
  suits_gone what i st w =
      let f : Fixed = (get_or st.table i no_conn).fixed in
      let x : Sent = (get_or st.table i no_conn).sent in
      let st₁ : State = handed f.multicast f.toid x (with_table (without st.table i) st) in
      let st₂ : State = ended f.kind f.multicast f.toid st₁ in
      suits_told what f (idled f.kind f.output st₂)
      (suits_idled f.kind f.output st₂
      (suits_ended f.kind f.multicast f.toid st₁ (suits_handed f.multicast f.toid x (with_table (without st.table i) st) (suits_removed st l w i))))

  suits_closed : (t : Triad) (st : State) → Suits st l → Suits (closed t st) l
  unfolding closed
  suits_closed t st w = go (place (conn_triad t) st.table) refl
    where
      go : (o : Option ℕ) → place (conn_triad t) st.table ≡ o → Suits (closed t st) l
      go None e = subst (λ (z : State). Suits z l) (ap (removed_if false Closed (conn_triad t) st) (sym (place_none (conn_triad t) st.table e))) w
      go (Some i) e = subst (λ (z : State). Suits z l) (closed_is t st i e) (suits_gone 2 i st w)

  suits_first : (t : ℕ) (st : State) → Suits st l → Suits (expired_first t st) l
  unfolding expired_first
  suits_first t st w = go (place (expired t) st.table) refl
    where
      go : (o : Option ℕ) → place (expired t) st.table ≡ o → Suits (expired_first t st) l
      go None e = subst (λ (z : State). Suits z l) (ap (removed_if true TimedOut (expired t) st) (sym (place_none (expired t) st.table e))) w
      go (Some i) e = subst (λ (z : State). Suits z l) (expired_is t st i e) (suits_fault (gone_at 3 i st) l (suits_gone 3 i st w) true)

  suits_repeat : (n t : ℕ) (st : State) → Suits st l → Suits (repeat n (expired_first t) st) l
  suits_repeat zero t st w = w
  suits_repeat (suc n) t st w = suits_repeat n t (expired_first t st) (suits_first t st w)

  -- ---- the calls

  module _ (ok : tested l ≡ true) where
    pub close_suits : (request : List ℕ) (room : ℕ) → Suits (close_call request room (view l)).1 l
    unfolding close_call close_effect
    close_suits request room =
        either_way (λ (z : State). Suits z l) (is_yes (close_answer request room (view l))) {x = close_by (view l) (close_of request)} {y = view l} (go (close_of request)) (suits_view l ok)
      where
        go : (q : Option Triad) → Suits (close_by (view l) q) l
        go None = suits_view l ok
        go (Some t) = suits_closed t (view l) (suits_view l ok)

    pub close_accepted : (request : List ℕ) (room : ℕ) → tested (store (close_call request room (view l)).1 l) ≡ true
    close_accepted request room = tested_store (close_call request room (view l)).1 l (close_suits request room)

    pub expire_suits : (t : ℕ) → Suits (expire_call t (view l)).1 l
    unfolding expire_call expire_effect
    expire_suits t =
        either_way (λ (z : State). Suits z l) (is_yes (expire_answer t (view l))) {x = expire_effect t (view l)} {y = view l}
        (suits_repeat (length (view l).table) t (view l) (suits_view l ok)) (suits_view l ok)

    pub expire_accepted : (t : ℕ) → tested (store (expire_call t (view l)).1 l) ≡ true
    expire_accepted t = tested_store (expire_call t (view l)).1 l (expire_suits t)
