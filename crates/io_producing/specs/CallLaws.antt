-- The call's ways out: nothing due, too little room, sent; and No. 3.
use Rattle.std.specs.Prelude.{ℕ, ◌+◌, ◌*◌, ◌^◌, ◌≤◌, ◌<◌, Bool, true, false, ◌||◌, ◌≡◌, refl}
use mathlib.Core.List.{List, [], ◌∷◌, map}
use Rattle.std.proofs.Math.Path.{ap, ap₂, sym}
use Rattle.std.proofs.Common.{◌∙◌}
use native.Mathlib.Omega.{arith}
use Rattle.std.proofs.Math.ListN.{length}
use Rattle.std.proofs.Math.Seq.{sets}
use borrow.Author.Tests.{le-leb, lt-leb}
use Rattle.base_cells.specs.Numbers.{le, le_8}
use Rattle.base_cells.specs.Back.{Bytes}
use Rattle.base_tables.specs.Ring.{by_cases}
use Rattle.rules.specs.Lists.{keep, any}
use Rattle.rules.specs.State.{State}
use Rattle.rules.specs.Answers.{Answer, Wrote, Refused, answer_number, answer_bytes}
use Rattle.rules.specs.Producing.{due, sends, delays, counted, counters, packets, produce_answer, produce_effect, produce_call}
use Rattle.rules.specs.declared.Conn.{Conn}
use Rattle.rules_laws.specs.ListLaws.{clash}
use Rattle.state_rules.specs.Places.{table_in, connections_of, produced_of, late_of}
use Rattle.state_rules.specs.Rows.{conns_in}
use Rattle.state_rules.specs.Image.{store}
use Rattle.state_image.specs.Holds.{Becomes, table_held, produced_held, late_held}
use Rattle.state_image.specs.Changes.{counters_as}
use Rattle.io_counting.specs.declared.Tally.{Tally}
use Rattle.io_counting.specs.Tallies.{totals, Totals}
use Rattle.io_producing.specs.Passes.{tally_kept, sent_all, SendsAll, Produces}
use Rattle.rules.specs.declared.No.TheVariants.{BadTime, NoRoom}

-- ---- the answers

module _ (t room : ℕ) (st : State) where
  abbrev out : List ℕ
  out = packets t st.contents st.table

  late : 9223372036854775807 < t → produce_call t room st ≡ (Refused BadTime, st)
  unfolding produce_call produce_answer
  late h = rw (lt-leb t 9223372036854775807 h)

  short : t ≤ 9223372036854775807 → room < length out → produce_call t room st ≡ (Refused NoRoom, st)
  unfolding produce_call produce_answer
  short h q = rw (le-leb t 9223372036854775807 h, lt-leb (length out) room q)

  done : t ≤ 9223372036854775807 → length out ≤ room → produce_call t room st ≡ (Wrote out, produce_effect t st)
  unfolding produce_call produce_answer
  done h q = rw (le-leb t 9223372036854775807 h, le-leb (length out) room q)

  pub late_number : 9223372036854775807 < t → 3 ≡ answer_number (produce_call t room st).0
  unfolding answer_number
  late_number h = sym (ap (λ (z : Answer × State). answer_number z.0) (late h))

  pub late_state : 9223372036854775807 < t → (produce_call t room st).1 ≡ st
  late_state h = ap (λ (z : Answer × State). z.1) (late h)

  pub late_bytes : 9223372036854775807 < t → answer_bytes (produce_call t room st).0 ≡ []
  late_bytes h = ap (λ (z : Answer × State). answer_bytes z.0) (late h)

-- ---- the counters

pub kept_becomes : (s s' : List ℕ) (k : Tally) (p q : ℕ) → p ≡ counted (produced_of s) k.count → q ≡ counted (late_of s) k.late
    → Becomes s s' (counters_as p q k.worst) → Becomes s s' (tally_kept k)
kept_becomes s s' k p q ep eq b st l h =
    b st l h
    ∙ (λ j. store (counters_as ((ep ∙ ap (λ (n : ℕ). counted n k.count) (produced_held s st l h)) j) ((eq ∙ ap (λ (n : ℕ). counted n k.late) (late_held s st l h)) j) k.worst st) l)

-- what was counted is what the rules count
effect_is : (t : ℕ) (k : Tally) (st : State) → k ≡ totals t st → tally_kept k (sent_all t st) ≡ produce_effect t st
unfolding produce_effect counters
effect_is t k st e = ap (λ (z : Tally). tally_kept z (sent_all t st)) e

-- ---- nothing due

-- a number of eight bytes
small : (s : List ℕ) → Bytes s → (at : ℕ) → le 8 s at ≤ 18446744073709551615
small s b at =
    let e = le_8 s at in
    let b0 = b at in let b1 = b (at + 1) in let b2 = b (at + 2) in let b3 = b (at + 3) in
    let b4 = b (at + 4) in let b5 = b (at + 5) in let b6 = b (at + 6) in let b7 = b (at + 7) in
    omega arith

no_more : (n : ℕ) → n ≤ 18446744073709551615 → n ≡ counted n 0
no_more n h = omega arith

none_sends : (t : ℕ) (cs : List Conn) → any (due t) cs ≡ false → (keep (due t) cs ≡ []) × (map (sends t) cs ≡ cs)
none_sends t [] e = (refl, refl)
none_sends t (c ∷ cs) e =
    by_cases (due t c)
    (λ d. clash true refl (ap (λ (b : Bool). b || any (due t) cs) (sym d) ∙ e))
    (λ d. let r = none_sends t cs (ap (λ (b : Bool). b || any (due t) cs) (sym d) ∙ e) in (rw d r.0, rw d (ap (λ (y : List Conn). c ∷ y) r.1)))

same_counters : (t : ℕ) (st : State) → keep (due t) st.table ≡ [] → st.counters.produced ≤ 18446744073709551615 → st.counters.late ≤ 18446744073709551615
    → st.counters ≡ counters st.setup (delays t st.table) st.counters
unfolding counters
same_counters t st d p q = rw d (λ j. record { produced = no_more st.counters.produced p j; late = no_more st.counters.late q j; max_late = st.counters.max_late })

module _ (t : ℕ) (s o : List ℕ) (n : ℕ) (en : n ≡ connections_of s) (early : t < 9223372036854775808) where
  pub nothing_due : Bytes s → any (due t) (conns_in n (table_in s)) ≡ false → Produces t s s o o 0
  unfolding produce_effect counters answer_number packets
  nothing_due b z st l h =
      let held : conns_in n (table_in s) ≡ st.table = ap (λ (k : ℕ). conns_in k (table_in s)) en ∙ table_held s st l h in
      let f = none_sends t st.table (ap (any (due t)) (sym held) ∙ z) in
      let p : st.counters.produced ≤ 18446744073709551615 = rw (sym (produced_held s st l h)) (small s b 192) in
      let q : st.counters.late ≤ 18446744073709551615 = rw (sym (late_held s st l h)) (small s b 200) in
      let pk : packets t st.contents st.table ≡ [] = rw f.0 in
      let same : st ≡ produce_effect t st =
      λ j. record {
        setup = st.setup;
        contents = st.contents;
        table = sym f.1 j;
        events = st.events;
        fault = st.fault;
        next_id = st.next_id;
        counters = same_counters t st f.0 p q j;
      } in
      let c : produce_call t (length o) st ≡ (Wrote [], st) =
      done t (length o) st (omega arith) (rw pk (omega arith)) ∙ ap₂ (λ (y : List ℕ) (z : State). (Wrote y, z)) pk (sym same) in
      record {
        number = sym (ap (λ (y : Answer × State). answer_number y.0) c);
        is = h.is ∙ ap (λ (y : Answer × State). store y.1 l) (sym c);
        out = ap (λ (y : Answer × State). sets o 0 (answer_bytes y.0)) (sym c);
      }

module _ (t : ℕ) (s o : List ℕ) (k : Tally) (e : Totals t s k) (early : t < 9223372036854775808) where
  -- too little room: nothing steps
  pub no_room : length o < k.need → Produces t s s o o 8
  unfolding answer_number
  no_room q st l h =
      let n : k.need ≡ length (packets t st.contents st.table) = ap (λ (y : Tally). y.need) (e st l h) in
      let c = short t (length o) st (omega arith) (omega arith) in
      record {
        number = sym (ap (λ (y : Answer × State). answer_number y.0) c);
        is = h.is ∙ ap (λ (y : Answer × State). store y.1 l) (sym c);
        out = ap (λ (y : Answer × State). sets o 0 (answer_bytes y.0)) (sym c);
      }

  -- all of it
  pub all_out : k.need ≤ length o → (s₁ s₂ o' : List ℕ) → SendsAll t s s₁ o o' → Becomes s₁ s₂ (tally_kept k) → Produces t s s₂ o o' (2 ^ 8 * k.need)
  unfolding answer_number
  all_out q s₁ s₂ o' d b st l h =
      let n : k.need ≡ length (packets t st.contents st.table) = ap (λ (y : Tally). y.need) (e st l h) in
      let c = done t (length o) st (omega arith) (omega arith) in
      let y = d st l h (omega arith) in
      record {
        number = ap (λ (m : ℕ). 2 ^ 8 * m) n ∙ sym (ap (λ (y : Answer × State). answer_number y.0) c);
        is = b (sent_all t st) l y.holds ∙ ap (λ (z : State). store z l) (effect_is t k st (e st l h)) ∙ ap (λ (y : Answer × State). store y.1 l) (sym c);
        out = y.out ∙ ap (λ (y : Answer × State). sets o 0 (answer_bytes y.0)) (sym c);
      }
