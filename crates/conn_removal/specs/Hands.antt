-- Hand-over, and the run bit lost: what each leaves, one law for each return.
use Rattle.std.specs.Prelude.{ℕ, zero, suc, ◌+◌, ◌*◌, ◌≤◌, ◌<◌, Bool, true, false, cond, ◌&&◌, List, [], ◌∷◌, ◌≡◌, refl, length, get_or, set, Option, Some, None}
use Rattle.std.specs.Option.{is_some}
use Rattle.std.proofs.Common.{ap, sym, ◌∙◌, arith, length-set}
use Rattle.base_cells.specs.Numbers.{le, le_8}
use Rattle.base_cells.specs.Back.{Bytes}
use Rattle.rules.specs.Lists.{find, place, change_first, change_at}
use Rattle.rules_laws.specs.ListLaws.{by_cases}
use Rattle.rules.specs.State.{Content, State, no_content, content_at, with_contents, with_table, with_sent, is_owner, produces}
use Rattle.rules.specs.Removal.{in_stream, idle}
use Rattle.rules.specs.declared.Conn.{Conn}
use Rattle.rules.specs.declared.Kind.{Kind}
use Rattle.rules.specs.declared.Sent.{Sent}
use Rattle.base_ids.specs.declared.ToId.{ToId}
use Rattle.state_rules.specs.Places.{table_in, row_size, connections_of, mark_at, assemblies_of}
use Rattle.state_rules.specs.Bits.{notified_in}
use Rattle.state_rules.specs.Rows.{row_at, of_due, dec_sent, conns_in}
use Rattle.state_rules.specs.RowLaws.{of_to_due, in_row}
use Rattle.state_image.specs.Updates.{no_conn}
use Rattle.state_image.specs.Holds.{Becomes, assemblies_held, notified_held}
use Rattle.state_image.specs.Kept.{suits_row, suits_content}
use Rattle.state_image.specs.Changes.{sent_as, mark_as}
use Rattle.state_searches.specs.Searches.{change_at_lem, change_at_place}
use Rattle.conn_lookup.specs.RowTests.{place_none}
use Rattle.conn_removal.specs.Turns.{Turns, turn, turn_as, turn_none, found_there, found_nowhere}

-- ---- hand-over: the first remaining multicast connection of the id sends on

pub produces_as : (d : Option ℕ) (b : Bool) → is_some d ≡ b → produces d ≡ b
produces_as None b e = e
produces_as (Some t) b e = e

abbrev pub handed : Bool → ToId → Sent → State → State
handed multicast id x st = with_table (cond (multicast && produces x.due) (change_first (in_stream id) (with_sent x) st.table) st.table) st

change_none : {A : Type 0} (p : A → Bool) (u : A → A) (xs : List A) → find p xs ≡ None → change_first p u xs ≡ xs
change_none p u [] e = refl
change_none p u (x ∷ xs) e = by_cases (p x) (λ t. absurd (let z : ◌≡◌ {A = ℕ} 0 1 = cc in omega arith)) (λ t. cc (change_none p u xs (cc)))

module _ (multicast : Bool) (id : ToId) (x : Sent) (s : List ℕ) where
  pub hands_single : multicast ≡ false → Turns s s (handed multicast id x)
  hands_single e =
      turn_none s (handed multicast id x)
      (λ st l o. ap (λ (b : Bool). with_table (cond (b && produces x.due) (change_first (in_stream id) (with_sent x) st.table) st.table) st) (sym e))

  module _ (em : multicast ≡ true) where
    pub hands_silent : produces x.due ≡ false → Turns s s (handed multicast id x)
    hands_silent e =
        turn_none s (handed multicast id x)
        (λ st l o. (λ j. with_table (cond (sym em j && sym e j) (change_first (in_stream id) (with_sent x) st.table) st.table) st))

    module _ (ep : produces x.due ≡ true) where
      handing : (st : State) → with_table (change_first (in_stream id) (with_sent x) st.table) st ≡ handed multicast id x st
      handing st = λ j. with_table (cond (sym em j && sym ep j) (change_first (in_stream id) (with_sent x) st.table) st.table) st

      module _ (n : ℕ) (y : Option ℕ) (en : n ≡ connections_of s) (ey : y ≡ place (in_stream id) (conns_in n (table_in s))) where
        pub hands_nowhere : y ≡ None → Turns s s (handed multicast id x)
        hands_nowhere e =
            turn_none s (handed multicast id x)
            (λ st l o.
            ap (λ (z : List Conn). with_table z st)
            (sym (change_none (in_stream id) (with_sent x) st.table (place_none (in_stream id) st.table (found_nowhere (in_stream id) s n y en ey e st l o))))
            ∙ handing st)

        pub hands_on : (j : ℕ) → y ≡ Some j → (s' : List ℕ) → Becomes s s' (sent_as j x) → Turns s s' (handed multicast id x)
        hands_on j e s' b =
            turn_as s s' (sent_as j x) (handed multicast id x)
            (turn s s' (sent_as j x) b (λ st l w. suits_row st l w j (with_sent x (get_or st.table j no_conn)) refl)
            (λ st. let q = length-set st.table j (with_sent x (get_or st.table j no_conn)) in omega arith))
            (λ st l o.
            ap (λ (z : List Conn). with_table z st)
            (sym (change_at_lem (in_stream id) no_conn (with_sent x) st.table j (found_there (in_stream id) s n y en ey j e st l o)))
            ∙ handing st)

-- a due time that was read can be written
le_8_small : (l : List ℕ) (at : ℕ) → Bytes l → le 8 l at < 18446744073709551616
le_8_small l at b =
    let a₀ = b at in let a₁ = b (at + 1) in let a₂ = b (at + 2) in let a₃ = b (at + 3) in
    let a₄ = b (at + 4) in let a₅ = b (at + 5) in let a₆ = b (at + 6) in let a₇ = b (at + 7) in
    let e = le_8 l at in omega arith

pub sent_small : (r : List ℕ) (i : ℕ) (x : Sent) → Bytes r → x ≡ dec_sent (row_at r i) → of_due x.due < 18446744073709551616
unfolding dec_sent
sent_small r i x b e =
    let q : of_due x.due ≡ le 8 r (i * row_size + 0) =
    ap (λ (z : Sent). of_due z.due) e ∙ of_to_due (le 8 (row_at r i) 0) ∙ in_row 8 row_size 0 r (i * row_size) (omega arith) in
    let h = le_8_small r (i * row_size + 0) b in omega arith

-- ---- the owner's output loses run

abbrev pub idled : Kind → ℕ → State → State
idled k i st = with_contents (cond (is_owner k) (change_at i idle st.contents) st.contents) st

change_past : {A : Type 0} (u : A → A) (xs : List A) (i : ℕ) → length xs ≤ i → change_at i u xs ≡ xs
change_past u [] i h = refl
change_past u (x ∷ xs) zero h = absurd (omega arith)
change_past u (x ∷ xs) (suc i) h = ap (λ z. x ∷ z) (change_past u xs i (omega arith))

module _ (k : Kind) (i : ℕ) (s : List ℕ) where
  pub idles_not : is_owner k ≡ false → Turns s s (idled k i)
  idles_not e = turn_none s (idled k i) (λ st l o. ap (λ (b : Bool). with_contents (cond b (change_at i idle st.contents) st.contents) st) (sym e))

  module _ (ek : is_owner k ≡ true) (n : ℕ) (en : n ≡ assemblies_of s) where
    idling : (st : State) → with_contents (change_at i idle st.contents) st ≡ idled k i st
    idling st = ap (λ (b : Bool). with_contents (cond b (change_at i idle st.contents) st.contents) st) (sym ek)

    pub idles_past : n ≤ i → Turns s s (idled k i)
    idles_past h =
        turn_none s (idled k i)
        (λ st l o. ap (λ (z : List Content). with_contents z st) (sym (change_past idle st.contents i (let q = assemblies_held s st l o.holds in omega arith))) ∙ idling st)

    pub idles : i < n → (b : Bool) (s' : List ℕ) → b ≡ notified_in (mark_at s i) → Becomes s s' (mark_as i false b) → Turns s s' (idled k i)
    idles h b s' eb d =
        turn_as s s' (mark_as i false b) (idled k i)
        (turn s s' (mark_as i false b) d (λ st l w. suits_content st l w i (record { bytes = (content_at st i).bytes; run = false; notified = b }) refl) (λ st. omega arith))
        (λ st l o.
        let q = assemblies_held s st l o.holds in
        let c : Content = content_at st i in
        let e : b ≡ c.notified = eb ∙ notified_held s st l o.holds i (omega arith) in
        ap (λ (v : Bool). with_contents (set st.contents i (record { bytes = c.bytes; run = false; notified = v })) st) e
        ∙ ap (λ (z : List Content). with_contents z st) (sym (change_at_place idle no_content st.contents i))
        ∙ idling st)
