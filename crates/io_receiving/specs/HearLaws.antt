-- A frame at its connection: what code leaves is the store of what the rule says.
use Prim.Native.Nat.{ℕ, zero, suc, ◌+◌, ◌*◌, ◌≤◌, ◌<◌}
use Rattle.std.specs.Prelude.{Bool, ◌&&◌, ◌||◌, ◌≡◌, refl, eqb, leb, ltb, length, Option, Some, None}
use Rattle.std.proofs.Math.Bool.{true, false, cond, not}
use mathlib.Core.List.{List, [], ◌∷◌}
use Rattle.std.proofs.Math.Path.{ap, sym}
use Rattle.std.proofs.Common.{ap₂, ◌∙◌, arith}
use Rattle.std.proofs.Math.ListN.{get_or, set}
use Rattle.std.proofs.Math.Seq.{set-get_or}
use Rattle.base_cells.specs.Numbers.{le}
use Rattle.base_tables.specs.Ring.{by_cases}
use Rattle.base_tables.specs.Tables.{rows, length_rows}
use Rattle.base_ids.specs.declared.OtId.{OtId}
use Rattle.wire_rules.specs.Timeout.{timeout_of}
use Rattle.rules.specs.Lists.{find, place, change_first, change_at, maybe}
use Rattle.rules.specs.State.{State, Content, no_content, content_at, shape_at, is_owner, with_table, with_heard}
use Rattle.rules.specs.Events.{pushed_all}
use Rattle.rules.specs.Receiving.{Frame, meant_for, newer, has_cip, recorded, hear, repeats, right_size, taken, deliver, delivered, announces, output_events, received}
use Rattle.rules.specs.declared.Conn.{Conn}
use Rattle.rules.specs.declared.Fixed.{Fixed}
use Rattle.rules.specs.declared.Heard.{Heard}
use Rattle.rules.specs.declared.Event.{Event}
use Rattle.rules.specs.declared.Event.TheVariants.{OutputChanged}
use Rattle.state_rules.specs.Places.{table_in, row_size, connections_of}
use Rattle.state_rules.specs.Rows.{dec_fixed, dec_heard, dec_conn, row_at, conn_at, conns_in}
use Rattle.state_rules.specs.Image.{store}
use Rattle.state_image.specs.Updates.{no_conn}
use Rattle.state_image.specs.Fits.{Suits}
use Rattle.state_image.specs.Holds.{Holds, Becomes, conns_held, conn_held, table_held}
use Rattle.state_image.specs.Kept.{suits_row}
use Rattle.state_image.specs.Changes.{heard_as}
use Rattle.state_searches.specs.Searches.{place_in_lem, find_at, change_at_lem, change_at_place}
use Rattle.io_receiving.specs.Steps.{hears, heard_at, accepted, offered, Offers, Hears, HearsFrom}

-- ---- states

module _ (t : ℕ) (f : Frame) (i : ℕ) (st : State) where
  abbrev conn : Conn
  conn = get_or st.table i no_conn

  untaken : taken st.setup f (get_or st.table i no_conn) ≡ false → (cs : List Conn) → set st.table i (hear t f (get_or st.table i no_conn)) ≡ cs → heard_at t f i st ≡ with_table cs st
  unfolding heard_at pushed_all
  untaken e cs q =
      let a : delivered st.setup f (get_or st.table i no_conn) st.contents ≡ st.contents = rw e in
      let b : output_events st.setup f (get_or st.table i no_conn) st.contents ≡ [] = rw e in
      λ j. record { setup = st.setup; contents = a j; table = q j; events = pushed_all (b j) st.events; fault = st.fault; next_id = st.next_id; counters = st.counters }

  old_state : newer (get_or st.table i no_conn).heard f.sequence ≡ false → heard_at t f i st ≡ st
  unfolding hear taken
  old_state e =
      untaken (rw e) st.table (ap (set st.table i) (rw e) ∙ set-get_or st.table i no_conn)

  module _ (nw : newer (get_or st.table i no_conn).heard f.sequence ≡ true) (y : Heard) (ey : recorded t f (get_or st.table i no_conn) ≡ y) where
    row_is : hear t f (get_or st.table i no_conn) ≡ with_heard y (get_or st.table i no_conn)
    unfolding hear
    row_is = rw nw (ap (λ (z : Heard). with_heard z (get_or st.table i no_conn)) ey)

    plain_state : has_cip f (get_or st.table i no_conn) ≡ false → heard_at t f i st ≡ heard_as i y st
    unfolding taken
    plain_state e =
        let c : Conn = get_or st.table i no_conn in
        untaken ((λ j. nw j && e j && not (repeats f c.heard) && right_size st.setup f c.fixed))
        (set st.table i (with_heard y c)) (ap (set st.table i) row_is)

    again_state : has_cip f (get_or st.table i no_conn) ≡ true → repeats f (get_or st.table i no_conn).heard ≡ true → heard_at t f i st ≡ heard_as i y st
    unfolding taken
    again_state e g =
        let c : Conn = get_or st.table i no_conn in
        untaken ((λ j. nw j && e j && not (g j) && right_size st.setup f c.fixed))
        (set st.table i (with_heard y c)) (ap (set st.table i) row_is)

    offer_state : has_cip f (get_or st.table i no_conn) ≡ true → repeats f (get_or st.table i no_conn).heard ≡ false
        → heard_at t f i st ≡ offered f (get_or st.table i no_conn).fixed.output (heard_as i y st)
    unfolding taken heard_at offered accepted pushed_all
    offer_state e g =
        let c : Conn = get_or st.table i no_conn in
        let o : ℕ = c.fixed.output in
        let u = st.setup in
        let cs : List Content = st.contents in
        let st₁ : State = heard_as i y st in
        let q : set st.table i (hear t f c) ≡ st₁.table = ap (set st.table i) row_is in
        let is_right : taken u f c ≡ right_size u f c.fixed = λ j. nw j && e j && not (g j) && right_size u f c.fixed in
        by_cases (right_size u f c.fixed)
        (λ w.
        let tk : taken u f c ≡ true = is_right ∙ w in
        let a : delivered u f c cs ≡ set cs o (deliver f (get_or cs o no_content)) =
        ap (λ (b : Bool). cond b (change_at o (deliver f) cs) cs) tk ∙ change_at_place (deliver f) no_content cs o in
        let v : List Event = OutputChanged (shape_at u o).instance ∷ [] in
        let b : output_events u f c cs ≡ cond (announces f (get_or cs o no_content)) v [] =
        ap (λ (z : Bool). cond (z && announces f (get_or cs o no_content)) v []) tk in
        (λ j. record { setup = u; contents = a j; table = q j; events = pushed_all (b j) st.events; fault = st.fault; next_id = st.next_id; counters = st.counters })
        ∙ ap (λ (z : Bool). cond z (accepted f o st₁) st₁) (sym w))
        (λ w.
        untaken (is_right ∙ w) st₁.table q
        ∙ ap (λ (z : Bool). cond z (accepted f o st₁) st₁) (sym w))

-- ---- hear

module _ (s : List ℕ) (st : State) (l : List ℕ) (h : Holds s st l) (i : ℕ) (p : i < connections_of s) (t q : ℕ) (d : List ℕ)
    (f : Frame) (eq : f.sequence ≡ q) (ed : f.payload ≡ d) (y : Heard) (ey : y ≡ dec_heard (row_at (table_in s) i)) where
  abbrev c : Conn
  c = get_or st.table i no_conn

  is_conn : conn_at (table_in s) i ≡ get_or st.table i no_conn
  is_conn = conn_held s st l h i (let e = conns_held s st l h in omega arith)

  heard_is : (get_or st.table i no_conn).heard ≡ y
  heard_is = sym (ey ∙ ap (λ (z : Conn). z.heard) is_conn)

  newer_is : newer (get_or st.table i no_conn).heard f.sequence ≡ newer y q
  newer_is = ap₂ newer heard_is eq

  pub hear_old : newer y q ≡ false → s ≡ store (heard_at t f i st) l
  hear_old e = h.is ∙ ap (λ (z : State). store z l) (sym (old_state t f i st (newer_is ∙ e)))

  module _ (nw : newer y q ≡ true) (x : Fixed) (ex : x ≡ dec_fixed (row_at (table_in s) i))
      (u : ℕ) (eu : u ≡ t + timeout_of x.otrpi x.multiplier) (b : Bool) (eb : b ≡ is_owner x.kind && leb 2 (length d)) where
    fixed_is : (get_or st.table i no_conn).fixed ≡ x
    fixed_is = sym (ex ∙ ap (λ (z : Conn). z.fixed) is_conn)

    cip_is : has_cip f (get_or st.table i no_conn) ≡ b
    cip_is = (λ j. is_owner (fixed_is j).kind && leb 2 (length (ed j))) ∙ sym eb

    until_is : t + timeout_of (get_or st.table i no_conn).fixed.otrpi (get_or st.table i no_conn).fixed.multiplier ≡ u
    until_is = (λ j. t + timeout_of (fixed_is j).otrpi (fixed_is j).multiplier) ∙ sym eu

    plain_is : b ≡ false → recorded t f (get_or st.table i no_conn) ≡ record { until = u; any = true; sequence = q; anycip = y.anycip; cip = y.cip }
    unfolding recorded
    plain_is e =
        let n : has_cip f c ≡ false = cip_is ∙ e in
        let a : (has_cip f c || c.heard.anycip) ≡ y.anycip = λ j. n j || (heard_is j).anycip in
        let k : cond (has_cip f c) (le 2 f.payload 0) c.heard.cip ≡ y.cip = λ j. cond (n j) (le 2 f.payload 0) (heard_is j).cip in
        λ j. record { until = until_is j; any = true; sequence = eq j; anycip = a j; cip = k j }

    pub hear_plain : b ≡ false → (s₁ : List ℕ) → Becomes s s₁ (heard_as i (record { until = u; any = true; sequence = q; anycip = y.anycip; cip = y.cip }))
        → s₁ ≡ store (heard_at t f i st) l
    hear_plain e s₁ be =
        be st l h ∙ ap (λ (z : State). store z l) (sym (plain_state t f i st (newer_is ∙ nw) (record { until = u; any = true; sequence = q; anycip = y.anycip; cip = y.cip }) (plain_is e) (cip_is ∙ e)))

    module _ (aye : b ≡ true) (v : ℕ) (ev : v ≡ le 2 d 0) (s₁ : List ℕ) (be : Becomes s s₁ (heard_as i (record { until = u; any = true; sequence = q; anycip = true; cip = v })))
        (r : Bool) (er : r ≡ y.anycip && eqb y.cip v) where
      abbrev new : Heard
      new = record { until = u; any = true; sequence = q; anycip = true; cip = v }

      whole_is : recorded t f (get_or st.table i no_conn) ≡ record { until = u; any = true; sequence = q; anycip = true; cip = v }
      unfolding recorded
      whole_is =
          let n : has_cip f c ≡ true = cip_is ∙ aye in
          let a : (has_cip f c || c.heard.anycip) ≡ true = λ j. n j || c.heard.anycip in
          let k : cond (has_cip f c) (le 2 f.payload 0) c.heard.cip ≡ v = (λ j. cond (n j) (le 2 (ed j) 0) c.heard.cip) ∙ sym ev in
          λ j. record { until = until_is j; any = true; sequence = eq j; anycip = a j; cip = k j }

      repeats_is : repeats f (get_or st.table i no_conn).heard ≡ r
      repeats_is = (λ j. (heard_is j).anycip && eqb (heard_is j).cip (le 2 (ed j) 0)) ∙ ap (λ (z : ℕ). y.anycip && eqb y.cip z) (sym ev) ∙ sym er

      pub hear_again : r ≡ true → s₁ ≡ store (heard_at t f i st) l
      hear_again e =
          be st l h
          ∙ ap (λ (z : State). store z l) (sym (again_state t f i st (newer_is ∙ nw) new whole_is (cip_is ∙ aye) (repeats_is ∙ e)))

      pub hear_offered : r ≡ false → (s₂ : List ℕ) → Offers x.output d s₁ s₂ → s₂ ≡ store (heard_at t f i st) l
      hear_offered e s₂ bo =
          let st₁ : State = heard_as i new st in
          let w : Suits st₁ l = suits_row st l h.suits i (with_heard new c) refl in
          bo f ed st₁ l (record { is = be st l h; suits = w })
          ∙ ap (λ (z : Fixed). store (offered f z.output st₁) l) (sym fixed_is)
          ∙ ap (λ (z : State). store z l) (sym (offer_state t f i st (newer_is ∙ nw) new whole_is (cip_is ∙ aye) (repeats_is ∙ e)))

-- ---- hear_from

none_of : (o : Option ℕ) → maybe None (λ (i : ℕ). Some (suc i)) o ≡ None → o ≡ None
none_of None e = refl
none_of (Some i) e = absurd (let z : ◌≡◌ {A = ℕ} 0 1 = cc in omega arith)

module _ (pr : Conn → Bool) where
  none_here : (x : Conn) (xs : List Conn) → place pr (x ∷ xs) ≡ None → (pr x ≡ false) × (place pr xs ≡ None)
  none_here x xs e =
      by_cases (pr x)
      (λ w. absurd (let k : Some 0 ≡ None = ap (λ (b : Bool). cond b (Some 0) (maybe None (λ (i : ℕ). Some (suc i)) (place pr xs))) (sym w) ∙ e in let z : ◌≡◌ {A = ℕ} 0 1 = cc in omega arith))
      (λ w. (w, none_of (place pr xs) (ap (λ (b : Bool). cond b (Some 0) (maybe None (λ (i : ℕ). Some (suc i)) (place pr xs))) (sym w) ∙ e)))

  pub find_none : (xs : List Conn) → place pr xs ≡ None → find pr xs ≡ None
  find_none [] e = refl
  find_none (x ∷ xs) e = let k = none_here x xs e in ap (λ (b : Bool). cond b (Some x) (find pr xs)) k.0 ∙ find_none xs k.1

  pub change_none : (u : Conn → Conn) (xs : List Conn) → place pr xs ≡ None → change_first pr u xs ≡ xs
  change_none u [] e = refl
  change_none u (x ∷ xs) e =
      let k = none_here x xs e in
      ap (λ (b : Bool). cond b (u x ∷ xs) (x ∷ change_first pr u xs)) k.0 ∙ ap (λ (z : List Conn). x ∷ z) (change_none u xs k.1)

module _ (t from : ℕ) (f : Frame) (st : State) where
  there_state : (i : ℕ) → place (meant_for from f) st.table ≡ Some i → received t from f st ≡ heard_at t f i st
  unfolding received heard_at pushed_all
  there_state i e =
      let fd = find_at (meant_for from f) no_conn st.table i e in
      let ch = change_at_lem (meant_for from f) no_conn (hear t f) st.table i e in
      λ j. record {
        setup = st.setup;
        contents = maybe st.contents (λ (z : Conn). delivered st.setup f z st.contents) (fd j);
        table = ch j;
        events = pushed_all (maybe [] (λ (z : Conn). output_events st.setup f z st.contents) (fd j)) st.events;
        fault = st.fault;
        next_id = st.next_id;
        counters = st.counters;
      }

  nowhere_state : place (meant_for from f) st.table ≡ None → received t from f st ≡ st
  unfolding received pushed_all
  nowhere_state e =
      let fd = find_none (meant_for from f) st.table e in
      let ch = change_none (meant_for from f) (hear t f) st.table e in
      λ j. record {
        setup = st.setup;
        contents = maybe st.contents (λ (z : Conn). delivered st.setup f z st.contents) (fd j);
        table = ch j;
        events = pushed_all (maybe [] (λ (z : Conn). output_events st.setup f z st.contents) (fd j)) st.events;
        fault = st.fault;
        next_id = st.next_id;
        counters = st.counters;
      }

module _ (s : List ℕ) (t from : ℕ) (id : OtId) (q : ℕ) (d : List ℕ) (n : ℕ) (en : n ≡ connections_of s)
    (r : Option ℕ) (er : r ≡ place (hears id from) (conns_in n (table_in s))) where
  abbrev frame : Frame
  frame = record { id = id; sequence = q; payload = d }

  place_is : (st : State) (l : List ℕ) → Holds s st l → place (hears id from) st.table ≡ r
  place_is st l h = ap (place (hears id from)) (sym (ap (λ (k : ℕ). conns_in k (table_in s)) en ∙ table_held s st l h)) ∙ sym er

  pub found_inside : (i : ℕ) → r ≡ Some i → i < connections_of s
  found_inside i e =
      let z = place_in_lem (hears id from) no_conn (conns_in n (table_in s)) i (sym er ∙ e) in
      let k = length_rows row_size dec_conn n (table_in s) in omega arith

  pub from_found : (i : ℕ) → r ≡ Some i → (s₂ : List ℕ) → Hears i t q d s s₂ → HearsFrom t from id q d s s₂
  from_found i e s₂ b st l h =
      b frame refl refl st l h ∙ ap (λ (z : State). store z l) (sym (there_state t from frame st i (place_is st l h ∙ e)))

  pub from_nowhere : r ≡ None → HearsFrom t from id q d s s
  from_nowhere e st l h = h.is ∙ ap (λ (z : State). store z l) (sym (nowhere_state t from frame st (place_is st l h ∙ e)))
