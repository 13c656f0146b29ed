-- The pass that sends: the rows in turn.
use Rattle.std.specs.Prelude.{ℕ, zero, suc, ◌+◌, ◌≤◌, ◌<◌, List, [], ◌∷◌, ◌++◌, map, ◌≡◌, refl, length, get_or, take, drop, set}
use Rattle.std.proofs.Common.{append_assoc, append-nil, ap, ap₂, sym, ◌∙◌, subst, arith, add-one, length-append, take-append-drop, drop-cons, take-suc, length-take-le, take_all}
use Rattle.std.proofs.lemmas.List.{map-append, length-map, set_at, get_or_at}
use Rattle.std.proofs.lemmas.List.Edits.{sets}
use Rattle.std.proofs.Math.Seq.{length-sets, append_snoc}
use Rattle.base_cells.specs.Numbers.{sets_append}
use Rattle.base_tables.specs.Ring.{by_cases}
use Rattle.rules.specs.Lists.{joined}
use Rattle.rules.specs.State.{Content, State, with_table}
use Rattle.rules.specs.Producing.{due, sends, input_bytes, packet, packets}
use Rattle.rules.specs.declared.Conn.{Conn}
use Rattle.state_rules.specs.Places.{connections_of}
use Rattle.state_rules.specs.Image.{store}
use Rattle.state_image.specs.Fits.{Suits}
use Rattle.state_image.specs.Holds.{Holds, conns_held}
use Rattle.state_image.specs.Kept.{suits_row}
use Rattle.state_image.specs.Updates.{no_conn}
use Rattle.io_packets.specs.Rows.{packet_or}
use Rattle.io_producing.specs.Passes.{packet_at, sent_row, Sends, SendsAll}

-- a packet changes nothing of a row that never changes
pub send_fixed : (t : ℕ) (c : Conn) → (sends t c).fixed ≡ c.fixed
send_fixed t c = by_cases (due t c) (λ e. rw e) (λ e. rw e)

-- ---- packets one behind the other

pub packets_is : (t : ℕ) (contents : List Content) (cs : List Conn) → packets t contents cs ≡ joined (packet_or t contents) cs
unfolding packets packet_or
packets_is t contents [] = refl
packets_is t contents (c ∷ cs) =
    by_cases (due t c)
    (λ e. rw e (ap (λ (z : List ℕ). packet t (input_bytes contents c.fixed) c ++ z) (packets_is t contents cs)))
    (λ e. rw e (packets_is t contents cs))

module _ (p : Conn → List ℕ) where
  joined_append : (xs ys : List Conn) → joined p (xs ++ ys) ≡ joined p xs ++ joined p ys
  joined_append [] ys = refl
  joined_append (x ∷ xs) ys = ap (λ (z : List ℕ). p x ++ z) (joined_append xs ys) ∙ sym (append_assoc (p x) (joined p xs) (joined p ys))

  module _ (cs : List Conn) (i : ℕ) (h : i < length cs) where
    joined_more : joined p (take (i + 1) cs) ≡ joined p (take i cs) ++ p (get_or cs i no_conn)
    joined_more =
        ap (λ (k : ℕ). joined p (take k cs)) (add-one i)
        ∙ ap (joined p) (take-suc cs i no_conn h)
        ∙ joined_append (take i cs) (get_or cs i no_conn ∷ [])
        ∙ ap (λ (z : List ℕ). joined p (take i cs) ++ z) (append-nil (p (get_or cs i no_conn)))

    joined_room : length (joined p (take i cs)) + length (p (get_or cs i no_conn)) ≤ length (joined p cs)
    joined_room =
        let a : List ℕ = joined p (take (i + 1) cs) in
        let b : List ℕ = joined p (drop (i + 1) cs) in
        let e : length (joined p cs) ≡ length a + length b =
        ap (λ (z : List Conn). length (joined p z)) (sym (take-append-drop (i + 1) cs)) ∙ ap length (joined_append (take (i + 1) cs) (drop (i + 1) cs)) ∙ length-append a b in
        let g : length a ≡ length (joined p (take i cs)) + length (p (get_or cs i no_conn)) = ap length joined_more ∙ length-append (joined p (take i cs)) (p (get_or cs i no_conn)) in
        omega arith

-- ---- the state and the output so far

abbrev pub after : ℕ → ℕ → State → State
after t i st = with_table (map (sends t) (take i st.table) ++ drop i st.table) st

abbrev pub before : ℕ → ℕ → State → List ℕ
before t i st = joined (packet_or t st.contents) (take i st.table)

pub record SoFar (t i : ℕ) (s o₀ o : List ℕ) (at : ℕ) (st : State) (l : List ℕ) : Type 0 where
  pub held : Holds s (after t i st) l
  pub out : o ≡ sets o₀ 0 (before t i st)
  pub place : at ≡ length (before t i st)

abbrev pub SendSoFar : ℕ → ℕ → List ℕ → List ℕ → List ℕ → List ℕ → ℕ → Type 0
SendSoFar t i s₀ s o₀ o at = (st : State) (l : List ℕ) → Holds s₀ st l → length (packets t st.contents st.table) ≤ length o₀ → SoFar t i s o₀ o at st l

module _ (t i : ℕ) (cs : List Conn) (h : i < length cs) where
  split : map (sends t) (take i cs) ++ drop i cs ≡ map (sends t) (take i cs) ++ (get_or cs i no_conn ∷ drop (suc i) cs)
  split = ap (λ (z : List Conn). map (sends t) (take i cs) ++ z) (drop-cons cs i no_conn h)

  len_done : length (map (sends t) (take i cs)) ≡ i
  len_done = length-map (take i cs) (sends t) ∙ length-take-le i cs (omega arith)

  now_at : get_or (map (sends t) (take i cs) ++ drop i cs) i no_conn ≡ get_or cs i no_conn
  now_at = ap (λ (z : List Conn). get_or z i no_conn) split ∙ get_or_at (map (sends t) (take i cs)) (get_or cs i no_conn) (drop (suc i) cs) no_conn i len_done

  now_set : set (map (sends t) (take i cs) ++ drop i cs) i (sends t (get_or (map (sends t) (take i cs) ++ drop i cs) i no_conn)) ≡ map (sends t) (take (i + 1) cs) ++ drop (i + 1) cs
  now_set =
      let p : List Conn = map (sends t) (take i cs) in
      let y : Conn = get_or cs i no_conn in
      let ys : List Conn = drop (suc i) cs in
      ap (λ (z : Conn). set (p ++ drop i cs) i (sends t z)) now_at
      ∙ ap (λ (z : List Conn). set z i (sends t y)) split
      ∙ set_at p y ys (sends t y) i len_done
      ∙ sym (append_snoc p (sends t y) ys)
      ∙ ap (λ (z : List Conn). z ++ ys) (sym (ap (map (sends t)) (take-suc cs i no_conn h) ∙ map-append (sends t) (take i cs) (y ∷ [])))
      ∙ ap (λ (k : ℕ). map (sends t) (take k cs) ++ drop k cs) (sym (add-one i))

pub send_start : (t : ℕ) (s o : List ℕ) → SendSoFar t 0 s s o o 0
send_start t s o st l h q = record { held = h; out = refl; place = refl }

pub send_turn : (t i at r : ℕ) (s₀ s s' o₀ o o' : List ℕ) → i < connections_of s₀ → SendSoFar t i s₀ s o₀ o at → Sends t i at s s' o o' r → SendSoFar t (i + 1) s₀ s' o₀ o' (at + r)
send_turn t i at r s₀ s s' o₀ o o' p g d st l h q =
    let cs : List Conn = st.table in
    let pk : Conn → List ℕ = packet_or t st.contents in
    let here : i < length cs = let e = conns_held s₀ st l h in omega arith in
    let w = g st l h q in
    let same : packet_at t i (after t i st) ≡ pk (get_or cs i no_conn) = ap pk (now_at t i cs here) in
    let lo : length o ≡ length o₀ = ap length w.out ∙ length-sets o₀ 0 (before t i st) in
    let fits : at + length (packet_at t i (after t i st)) ≤ length o =
    let u = joined_room pk cs i here in let v = ap length same in let z = w.place in let n = ap length (packets_is t st.contents cs) in omega arith in
    let y = d (after t i st) l w.held fits in
    let nx : sent_row t i (after t i st) ≡ after t (i + 1) st = ap (λ (z : List Conn). with_table z st) (now_set t i cs here) in
    let more = joined_more pk cs i here in
    let at₀ : at ≡ 0 + length (before t i st) = let z = w.place in omega arith in
    record {
      held = record { is = y.is ∙ ap (λ (z : State). store z l) nx; suits = subst (λ (z : State). Suits z l) nx (suits_row (after t i st) l w.held.suits i (sends t (get_or (after t i st).table i no_conn)) (send_fixed t (get_or (after t i st).table i no_conn))) };
      out = y.out
          ∙ ap₂ (λ (z : List ℕ) (b : List ℕ). sets z at b) w.out same
          ∙ ap (λ (k : ℕ). sets (sets o₀ 0 (before t i st)) k (pk (get_or cs i no_conn))) at₀
          ∙ sym (sets_append o₀ 0 (before t i st) (pk (get_or cs i no_conn)))
          ∙ ap (sets o₀ 0) (sym more);
      place = ap₂ ◌+◌ w.place (y.counts ∙ ap length same) ∙ sym (ap length more ∙ length-append (before t i st) (pk (get_or cs i no_conn)));
    }

pub send_end : (t i at : ℕ) (s₀ s o₀ o : List ℕ) → connections_of s₀ ≤ i → SendSoFar t i s₀ s o₀ o at → SendsAll t s₀ s o₀ o
send_end t i at s₀ s o₀ o p g st l h q =
    let w = g st l h q in
    let cs : List Conn = st.table in
    let n : length cs ≤ i = let e = conns_held s₀ st l h in omega arith in
    record {
      holds = subst (λ (z : List Conn). Holds s (with_table z st) l) (whole i cs n) w.held;
      out = w.out ∙ ap (λ (z : List Conn). sets o₀ 0 (joined (packet_or t st.contents) z)) (take_all i cs n) ∙ ap (sets o₀ 0) (sym (packets_is t st.contents cs));
    }
  where
    whole : (i : ℕ) (cs : List Conn) → length cs ≤ i → map (sends t) (take i cs) ++ drop i cs ≡ map (sends t) cs
    whole zero [] q = refl
    whole (suc i) [] q = refl
    whole zero (c ∷ cs) q = absurd (omega arith)
    whole (suc i) (c ∷ cs) q = ap (λ (z : List Conn). sends t c ∷ z) (whole i cs (omega arith))
