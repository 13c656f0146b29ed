-- The laws of a connection's row: what is written is read back, what was read is written again, and each part is changed in place.
use Prim.Native.Nat.{ℕ, zero, suc, ◌+◌, ◌-◌, ◌*◌, ◌/◌, ◌%◌, ◌≤◌, ◌<◌}
use Rattle.std.specs.Prelude.{Bool, true, false, ◌≡◌, length, get_or, take, drop, eqb, ltb, Option, Some, None}
use mathlib.Core.List.{List, [], ◌∷◌, ◌++◌, append-nil, append_assoc}
use Rattle.std.proofs.Math.Path.{refl, ap, ap₂}
use Rattle.std.proofs.Common.{sym, ◌∙◌, arith, length-append, take_all, take-add, drop-drop, ltb-true, ltb-false, eqb-true, lt-ltb, le-ltb, ne_eqb}
use Rattle.std.proofs.lemmas.List.Edits.{sets}
use Rattle.std.proofs.lemmas.Bool.{eqb-false}
use mir.Val.{bool_byte}
use Rattle.base_cells.specs.Numbers.{le, le_1, sets_left, sets_append, le_take, le_drop}
use Rattle.base_cells.specs.Records.{enc_fields, dec_fields, put_fields, put_fields_eq, dec_enc, length_enc_fields, to_bool, of_bool, to_of, sum}
use Rattle.base_cells.specs.Back.{Bytes, enc_dec, of_to}
use Rattle.base_tables.specs.Store.{sets_right}
use Rattle.base_tables.specs.Ring.{by_cases}
use Rattle.base_tables.specs.Slots.{sets_whole}
use Rattle.rules.specs.State.{with_heard, with_sent, is_owner, is_listener}
use Rattle.rules.specs.declared.Kind.{Kind}
use Rattle.rules.specs.declared.Kind.TheVariants.{Owner, InputOnly, ListenOnly}
use Rattle.rules.specs.declared.Fixed.{Fixed}
use Rattle.rules.specs.declared.Heard.{Heard}
use Rattle.rules.specs.declared.Sent.{Sent}
use Rattle.rules.specs.declared.Conn.{Conn}
use Rattle.state_rules.specs.Places.{row_size}
use Rattle.state_rules.specs.Rows.{w_sent, w_heard, w_fixed, of_due, to_due, carried_of, flags_of, multicast_in, input_in, any_in, anycip_in, role_of, kind_in, output_in, RoleFits, RowFits, list_sent, list_heard, list_fixed, as_sent, as_heard, as_fixed, enc_sent, enc_heard, enc_fixed, enc_conn, dec_sent, dec_heard, dec_fixed, dec_conn}

-- ---- due times, roles and flags are numbers

pub to_of_due : (d : Option ℕ) → to_due (of_due d) ≡ d
to_of_due None = refl
to_of_due (Some t) = rw (ne_eqb (t + 1) 0 (λ e. omega arith)) (ap Some (omega arith))

pub of_to_due : (n : ℕ) → of_due (to_due n) ≡ n
of_to_due zero = refl
of_to_due (suc n) = rw (ne_eqb (suc n) 0 (λ e. omega arith)) (omega arith)

pub bit_small : (b : Bool) → of_bool b ≤ 1
bit_small true = omega arith
bit_small false = omega arith

-- every byte is one role, and is written again
pub of_to_role : (n : ℕ) → n ≤ 255 → role_of (kind_in n) (output_in n) ≡ n
of_to_role n h =
    by_cases (ltb n 254)
    (λ e. rw e)
    (λ e. let p = ltb-false n 254 e in
    by_cases (eqb n 254) (λ f. rw (e, f) (sym (eqb-true n 254 f))) (λ f. let q = eqb-false n 254 f in rw (e, f) (omega arith)))

pub role_fits : (n : ℕ) → RoleFits (kind_in n) (output_in n)
role_fits n =
    by_cases (ltb n 254)
    (λ e. let p = ltb-true n 254 e in rw e (omega arith))
    (λ e. by_cases (eqb n 254) (λ f. rw (e, f) refl) (λ f. rw (e, f) refl))

pub kind_of_role : (k : Kind) (o : ℕ) → RoleFits k o → kind_in (role_of k o) ≡ k
kind_of_role Owner o h = rw (lt-ltb o 254 (omega arith))
kind_of_role InputOnly o h = refl
kind_of_role ListenOnly o h = refl

pub output_of_role : (k : Kind) (o : ℕ) → RoleFits k o → output_in (role_of k o) ≡ o
output_of_role Owner o h = rw (lt-ltb o 254 (omega arith))
output_of_role InputOnly o h = sym h
output_of_role ListenOnly o h = sym h

-- the two tests of a kind, on the role
pub owner_role : (n : ℕ) → ltb n 254 ≡ is_owner (kind_in n)
owner_role n = by_cases (ltb n 254) (λ e. rw e) (λ e. by_cases (eqb n 254) (λ f. rw (e, f)) (λ f. rw (e, f)))

pub listener_role : (n : ℕ) → ltb 254 n ≡ is_listener (kind_in n)
listener_role n =
    by_cases (ltb n 254)
    (λ e. let p = ltb-true n 254 e in rw (e, le-ltb 254 n (omega arith)))
    (λ e. let p = ltb-false n 254 e in
    by_cases (eqb n 254)
    (λ f. let q = eqb-true n 254 f in rw (e, f, le-ltb 254 n (omega arith)))
    (λ f. let q = eqb-false n 254 f in rw (e, f, lt-ltb 254 n (omega arith))))

-- the four parts of the flags
module _ (f : Fixed) (h : Heard) where
  pub input_of_flags : input_in (flags_of (carried_of f) h) ≡ f.input
  input_of_flags = let a = bit_small h.any in let b = bit_small h.anycip in let c = bit_small f.multicast in omega arith

  pub multicast_of_flags : multicast_in (flags_of (carried_of f) h) ≡ f.multicast
  multicast_of_flags =
      let a = bit_small h.any in let b = bit_small h.anycip in let c = bit_small f.multicast in
      let e : flags_of (carried_of f) h / 4 % 2 ≡ of_bool f.multicast = omega arith in ap to_bool e ∙ to_of f.multicast

pub any_of_flags : (carried : ℕ) (h : Heard) → any_in (flags_of carried h) ≡ h.any
any_of_flags carried h =
    let a = bit_small h.any in
    let e : flags_of carried h % 2 ≡ of_bool h.any = omega arith in ap to_bool e ∙ to_of h.any

pub anycip_of_flags : (carried : ℕ) (h : Heard) → anycip_in (flags_of carried h) ≡ h.anycip
anycip_of_flags carried h =
    let a = bit_small h.any in let b = bit_small h.anycip in
    let e : flags_of carried h / 2 % 2 ≡ of_bool h.anycip = omega arith in ap to_bool e ∙ to_of h.anycip

-- every number is one value of the flags, and is written again
pub of_to_flags : (n : ℕ) → 4 * (of_bool (multicast_in n) + 2 * input_in n) + (of_bool (any_in n) + 2 * of_bool (anycip_in n)) ≡ n
of_to_flags n =
    let a : of_bool (multicast_in n) ≡ n / 4 % 2 = of_to (n / 4 % 2) (omega arith) in
    let b : of_bool (any_in n) ≡ n % 2 = of_to (n % 2) (omega arith) in
    let c : of_bool (anycip_in n) ≡ n / 2 % 2 = of_to (n / 2 % 2) (omega arith) in
    let high : n / 4 % 2 + 2 * (n / 4 / 2) ≡ n / 4 = omega arith in
    let low : n % 2 + 2 * (n / 2 % 2) ≡ n % 4 = omega arith in
    (λ i. 4 * (a i + 2 * (n / 4 / 2)) + (b i + 2 * c i)) ∙ (λ i. 4 * high i + low i) ∙ omega arith

-- ---- lengths

pub length_enc_sent : (s : Sent) → length (enc_sent s) ≡ 14
unfolding enc_sent sum
length_enc_sent s = length_enc_fields w_sent (list_sent s) tt

pub length_enc_heard : (carried : ℕ) (h : Heard) → length (enc_heard carried h) ≡ 15
unfolding enc_heard sum
length_enc_heard carried h = length_enc_fields w_heard (list_heard carried h) tt

pub length_enc_fixed : (f : Fixed) → length (enc_fixed f) ≡ 40
unfolding enc_fixed sum
length_enc_fixed f = length_enc_fields w_fixed (list_fixed f) tt

pub length_enc_conn : (c : Conn) → length (enc_conn c) ≡ row_size
length_enc_conn c =
    let s : List ℕ = enc_sent c.sent in
    let h : List ℕ = enc_heard (carried_of c.fixed) c.heard in
    let f : List ℕ = enc_fixed c.fixed in
    let a : length s ≡ 14 = length_enc_sent c.sent in
    let b : length h ≡ 15 = length_enc_heard (carried_of c.fixed) c.heard in
    let d : length f ≡ 40 = length_enc_fixed c.fixed in
    length-append s (h ++ f) ∙ ap (λ (n : ℕ). length s + n) (length-append h f) ∙ omega arith

-- ---- what is written is read back

module _ (c : Conn) where
  before_fixed : length (enc_sent c.sent ++ enc_heard (carried_of c.fixed) c.heard) ≡ 29
  before_fixed =
      let a = length_enc_sent c.sent in let b = length_enc_heard (carried_of c.fixed) c.heard in
      length-append (enc_sent c.sent) (enc_heard (carried_of c.fixed) c.heard) ∙ omega arith

  pub sent_fields : dec_fields w_sent (enc_conn c) 0 ≡ list_sent c.sent
  unfolding enc_sent
  sent_fields = dec_enc w_sent (list_sent c.sent) tt [] (enc_heard (carried_of c.fixed) c.heard ++ enc_fixed c.fixed) 0 refl

  pub heard_fields : dec_fields w_heard (enc_conn c) 14 ≡ list_heard (carried_of c.fixed) c.heard
  unfolding enc_heard
  heard_fields = dec_enc w_heard (list_heard (carried_of c.fixed) c.heard) tt (enc_sent c.sent) (enc_fixed c.fixed) 14 (length_enc_sent c.sent)

  pub fixed_fields : dec_fields w_fixed (enc_conn c) 29 ≡ list_fixed c.fixed
  unfolding enc_fixed
  fixed_fields =
      let s : List ℕ = enc_sent c.sent in
      let h : List ℕ = enc_heard (carried_of c.fixed) c.heard in
      let f : List ℕ = enc_fixed c.fixed in
      ap (λ (z : List ℕ). dec_fields w_fixed z 29) (sym (append_assoc s h f) ∙ ap (λ (z : List ℕ). (s ++ h) ++ z) (sym (append-nil f)))
      ∙ dec_enc w_fixed (list_fixed c.fixed) tt (s ++ h) [] 29 before_fixed

  pub flags_stored : le 1 (enc_conn c) 28 ≡ flags_of (carried_of c.fixed) c.heard
  flags_stored = ap (λ (vs : List ℕ). get_or vs 3 0) heard_fields

  pub sent_stored : dec_sent (enc_conn c) ≡ c.sent
  unfolding dec_sent
  sent_stored = ap as_sent sent_fields ∙ (λ i. record { sequence = c.sent.sequence; cip = c.sent.cip; due = to_of_due c.sent.due i })

  pub heard_stored : dec_heard (enc_conn c) ≡ c.heard
  unfolding dec_heard
  heard_stored =
      let h = c.heard in
      let r : ℕ = carried_of c.fixed in
      ap as_heard heard_fields ∙ (λ i. record { until = h.until; any = any_of_flags r h i; sequence = h.sequence; anycip = anycip_of_flags r h i; cip = h.cip })

-- ---- what was read is written again

-- what is read can be stored
pub fits_dec_conn : (b : List ℕ) → RowFits (dec_conn b)
unfolding dec_fixed
fits_dec_conn b = role_fits (le 1 b 29)

-- ---- one part written in place

pub enc_sent_lem : (c : Conn) (s : Sent) → enc_conn (with_sent s c) ≡ sets (enc_conn c) 0 (enc_sent s)
enc_sent_lem c s =
    let a = length_enc_sent c.sent in
    let b = length_enc_sent s in
    let r : List ℕ = enc_heard (carried_of c.fixed) c.heard ++ enc_fixed c.fixed in
    sym (sets_left (enc_sent c.sent) r 0 (enc_sent s) (omega arith) ∙ ap (λ (z : List ℕ). z ++ r) (sets_whole (enc_sent c.sent) (enc_sent s) (omega arith)))

pub enc_heard_lem : (c : Conn) (h : Heard) → enc_conn (with_heard h c) ≡ sets (enc_conn c) 14 (enc_heard (carried_of c.fixed) h)
enc_heard_lem c h =
    let r : ℕ = carried_of c.fixed in
    let a = length_enc_heard r c.heard in
    let b = length_enc_heard r h in
    let f : List ℕ = enc_fixed c.fixed in
    sym (sets_right (enc_sent c.sent) (enc_heard r c.heard ++ f) 14 (length_enc_sent c.sent) 0 (enc_heard r h)
    ∙ ap (λ (z : List ℕ). enc_sent c.sent ++ z)
    (sets_left (enc_heard r c.heard) f 0 (enc_heard r h) (omega arith)
    ∙ ap (λ (z : List ℕ). z ++ f) (sets_whole (enc_heard r c.heard) (enc_heard r h) (omega arith))))

-- a bool that code takes as a number
pub byte_small : (b : Bool) → bool_byte b ≤ 1
byte_small true = omega arith
byte_small false = omega arith

-- ---- a row as code reads and writes it

-- a number of row i, found in the whole region
pub in_row : (k size at : ℕ) (r : List ℕ) (a : ℕ) → at + k ≤ size → le k (take size (drop a r)) at ≡ le k r (a + at)
in_row k size at r a h = le_take k (drop a r) size at h ∙ le_drop k r a at

-- the three parts put one after the other
pub conn_put : (b₀ b₁ b₂ b₃ : List ℕ) (carried : ℕ) (c : Conn) → carried ≡ carried_of c.fixed
    → b₁ ≡ put_fields w_sent b₀ 0 (list_sent c.sent) → b₂ ≡ put_fields w_heard b₁ 14 (list_heard carried c.heard) → b₃ ≡ put_fields w_fixed b₂ 29 (list_fixed c.fixed)
    → b₃ ≡ sets b₀ 0 (enc_conn c)
unfolding enc_sent enc_heard enc_fixed
conn_put b₀ b₁ b₂ b₃ carried c er e₁ e₂ e₃ =
    let s : List ℕ = enc_sent c.sent in
    let h : List ℕ = enc_heard (carried_of c.fixed) c.heard in
    let f : List ℕ = enc_fixed c.fixed in
    let a : 0 + length s ≡ 14 = let z = length_enc_sent c.sent in omega arith in
    let b : 14 + length h ≡ 29 = let z = length_enc_heard (carried_of c.fixed) c.heard in omega arith in
    e₃ ∙ put_fields_eq w_fixed b₂ 29 (list_fixed c.fixed)
    ∙ ap (λ (z : List ℕ). sets z 29 f) (e₂ ∙ ap (λ (n : ℕ). put_fields w_heard b₁ 14 (list_heard n c.heard)) er ∙ put_fields_eq w_heard b₁ 14 (list_heard (carried_of c.fixed) c.heard))
    ∙ ap (λ (z : List ℕ). sets (sets z 14 h) 29 f) (e₁ ∙ put_fields_eq w_sent b₀ 0 (list_sent c.sent))
    ∙ ap (λ (n : ℕ). sets (sets (sets b₀ 0 s) 14 h) n f) (sym b)
    ∙ sym (sets_append (sets b₀ 0 s) 14 h f)
    ∙ ap (λ (n : ℕ). sets (sets b₀ 0 s) n (h ++ f)) (sym a)
    ∙ sym (sets_append b₀ 0 s (h ++ f))
