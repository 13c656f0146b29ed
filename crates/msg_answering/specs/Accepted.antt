-- The position that a message leaves passes the position's own test, as the one that it found did; eight zeros pass it too.
use Rattle.std.specs.Prelude.{ℕ, zero, suc, ◌+◌, ◌*◌, ◌≤◌, Bool, true, false, cond, ◌≡◌, refl, eqb, length, drop, replicate, Option, Some, None, Result, Ok, Err}
use Rattle.wire_rules.specs.declared.Request.{Request}
use mathlib.Core.List.{List, [], ◌∷◌, append-nil}
use Rattle.std.proofs.Common.{ap, sym, subst, ◌∙◌, leb-true, le-leb, eq-eqb, eqb-true}
use native.Mathlib.Omega.{arith}
use Rattle.std.proofs.lemmas.Bool.{eqb-false}
use Rattle.base_cells.specs.Numbers.{le, le_of, le_1, le_2, le_bytes}
use Rattle.base_cells.specs.Records.{sum, enc_fields, dec_fields, dec_enc, length_enc_fields}
use Rattle.base_cells.specs.Back.{Bytes, all, all_at, all_cons, all_nil}
use Rattle.wire_rules.specs.declared.Object.{Object}
use Rattle.wire_rules.specs.Requests.{request_of}
use Rattle.rules_laws.specs.ListLaws.{either_way, All}
use Rattle.rules.specs.declared.objects.Transfer.{Transfer}
use Rattle.rules.specs.declared.objects.Position.{Position}
use Rattle.rules.specs.declared.objects.Turn.{Turn}
use Rattle.rules.specs.declared.objects.Turn.TheVariants.{Repeat, InTurn, OutOfTurn}
use Rattle.rules.specs.State.{Setup, State}
use Rattle.rules.specs.Answers.{is_yes}
use Rattle.rules.specs.Attributes.{Outcome}
use Rattle.rules.specs.Upload.{clamped, started, initiate, turn_of, advanced, transfer_for, transfer, position_tests, position_ok, upload_ok}
use Rattle.rules.specs.Objects.{eds_instance, initiate_upload, upload_transfer, eds_file, file}
use Rattle.rules.specs.Message.{file_in, of_class, of_object, of_request, message_outcome, message_answer, message_call}
use Rattle.rules_laws.specs.ReplyLaws.{position_kept}
use Rattle.state_rules.specs.Places.{setup_in, assemblies_of}
use Rattle.state_rules.specs.Image.{view, tested}
use Rattle.msg_positions.specs.Positions.{w_position, dec_upload, last_number, any_last, last_offset, list_position, held_in, list_upload, enc_upload, plain, plain_list}
use Rattle.msg_positions.specs.PositionLaws.{read_none, read_under}
use Rattle.msg_answering.specs.Positions.{position_tested, position_ok_lem, eds_none, eds_some, eds_long, mark_small, sized_tested}
use Rattle.msg_answering.specs.Lifted.{lifted_message, message_on}

-- ---- a position whose numbers fit their bytes

abbrev Small : Option Position → Type 0
Small None = Unit {0}
Small (Some p) = (p.size ≤ 255) × (p.next ≤ 255) × (p.offset ≤ 65535) × (last_number p.last ≤ 255) × (last_offset p.last ≤ 65535)

-- bytes say small numbers
one_byte : (l : List ℕ) (at : ℕ) → Bytes l → le 1 l at ≤ 255
one_byte l at b = rw (le_1 l at) (let h = b at in omega arith)

two_bytes : (l : List ℕ) (at : ℕ) → Bytes l → le 2 l at ≤ 65535
two_bytes l at b = rw (le_2 l at) (let h = b at in let g = b (at + 1) in omega arith)

small_read : (l : List ℕ) → Bytes l → Small (dec_upload l)
unfolding dec_upload
small_read l b =
    either_way Small (eqb (assemblies_of l) 0) tt (
      one_byte l 0 b,
      one_byte l 1 b,
      two_bytes l 4 b,
      either_way (λ (x : Option Transfer). last_number x ≤ 255) (eqb (le 1 l 3) 0) (omega arith) (one_byte l 2 b),
      either_way (λ (x : Option Transfer). last_offset x ≤ 65535) (eqb (le 1 l 3) 0) (omega arith) (two_bytes l 6 b),
    )

-- and small numbers are written as bytes
all_bytes : (l : List ℕ) → All (λ (x : ℕ). x ≤ 255) l → Bytes l
all_bytes [] h i = omega arith
all_bytes (x ∷ l) h zero = let a = h.0 in omega arith
all_bytes (x ∷ l) h (suc i) = all_bytes l h.1 i

any_small : (x : Option Transfer) → any_last x ≤ 1
any_small None = omega arith
any_small (Some last) = omega arith

bytes_under : (p : Position) → Small (Some p) → Bytes (enc_upload (Some p))
unfolding enc_upload enc_fields le_bytes
bytes_under p h =
    let a = any_small p.last in let o = h.2 in let q = h.4 in
    all_bytes (enc_upload (Some p)) (h.0, (h.1, (h.3, (omega arith, (omega arith, (omega arith, (omega arith, (omega arith, tt))))))))

pub bytes_written : (up : Option Position) → Small up → Bytes (enc_upload up)
unfolding enc_upload
bytes_written None h = bytes_under (started 0) (omega arith, omega arith, omega arith, omega arith, omega arith)
bytes_written (Some p) h = bytes_under p h

-- ---- what is written passes the test

list_read : (p : Position) → dec_fields w_position (enc_fields w_position (list_position p)) 0 ≡ list_position p
list_read p =
    ap (λ (x : List ℕ). dec_fields w_position x 0) (sym (append-nil (enc_fields w_position (list_position p))))
    ∙ dec_enc w_position (list_position p) tt [] [] 0 refl

tests_pass : (u : Setup) (up : Option Position) → plain_list (list_upload up) ≡ true → upload_ok u (dec_upload (enc_upload up)) ≡ true → position_tested u (enc_upload up) ≡ true
unfolding position_tested enc_upload sum
tests_pass u up a b =
    all_cons _ _ (eq-eqb (length (enc_fields w_position (list_upload up))) 8 (length_enc_fields w_position (list_upload up) tt))
    (all_cons _ _ (ap plain_list (list_read (held_in up)) ∙ a) (all_cons _ [] b all_nil))

-- the number and the offset of the last transfer are 0 where there was none
last_fits : (x : Option Transfer) → last_number x ≤ 255 → last_offset x ≤ 65535 → (last_number x ≤ 255 * any_last x) × (last_offset x ≤ 65535 * any_last x)
last_fits None h g = (omega arith, omega arith)
last_fits (Some last) h g = (omega arith, omega arith)

plain_under : (p : Position) → 1 ≤ p.size → Small (Some p) → plain_list (list_position p) ≡ true
unfolding plain
plain_under p s h =
    let a = any_small p.last in
    let f = last_fits p.last h.3 h.4 in
    all_cons _ _ (le-leb (any_last p.last) 1 a)
    (all_cons _ _ (le-leb (any_last p.last) p.size (omega arith))
    (all_cons _ _ (le-leb (last_number p.last) (255 * any_last p.last) f.0)
    (all_cons _ _ (le-leb (last_offset p.last) (65535 * any_last p.last) f.1)
    (all_cons _ _ (le-leb p.next (255 * p.size) (let n = h.1 in omega arith))
    (all_cons _ [] (le-leb p.offset (65535 * p.size) (let n = h.2 in omega arith)) all_nil)))))

some_size : (limit : ℕ) (eds : Option (List ℕ)) (p : Position) → position_ok limit eds p ≡ true → 1 ≤ p.size
some_size limit None p e = absurd (let z : ◌≡◌ {A = ℕ} 0 1 = cc in omega arith)
some_size limit (Some eds) p e = leb-true 1 p.size (all_at (position_tests limit (length eds) p) e 0)

pub written_passes : (u : Setup) (up : Option Position) → upload_ok u up ≡ true → Small up → position_tested u (enc_upload up) ≡ true
unfolding upload_ok plain all
written_passes u None e h = tests_pass u None refl (ap (upload_ok u) read_none)
written_passes u (Some p) e h =
    let s = some_size u.transfer_limit u.eds p e in
    tests_pass u (Some p) (plain_under p s h) (ap (upload_ok u) (read_under p s) ∙ e)

-- no upload passes in every setup
pub zeros_pass : (u : Setup) → position_tested u (replicate 8 0) ≡ true
unfolding position_tested upload_ok plain all dec_upload le le_of
zeros_pass u = refl

-- ---- a message leaves a position whose numbers fit

module _ (st : State) (local mask : ℕ) (limited : st.setup.transfer_limit ≤ 255) (short : (eds : List ℕ) → st.setup.eds ≡ Some eds → length eds ≤ 65535) where
  initiate_small : (eds : List ℕ) (up : Option Position) → Small up → (bytes : List ℕ) → Small (initiate st.setup.transfer_limit eds up bytes).1
  unfolding initiate clamped
  initiate_small eds up h [] = h
  initiate_small eds up h (wanted ∷ rest) = (omega arith, omega arith, omega arith, omega arith, omega arith)

  advanced_small : (eds : List ℕ) → length eds ≤ 65535 → (p : Position) → Small (Some p) → Small (Some (advanced eds p))
  unfolding advanced
  advanced_small eds l p h = (h.0, omega arith, omega arith, h.1, h.2)

  turn_small : (eds : List ℕ) → length eds ≤ 65535 → (p : Position) → Small (Some p) → (number : ℕ) (t : Turn) → Small (transfer_for eds p number t).1
  turn_small eds l p h number (Repeat offset) = h
  turn_small eds l p h number InTurn = advanced_small eds l p h
  turn_small eds l p h number OutOfTurn = h

  transfer_small : (eds : List ℕ) → length eds ≤ 65535 → (up : Option Position) → Small up → (bytes : List ℕ) → Small (transfer eds up bytes).1
  unfolding transfer
  transfer_small eds l up h [] = h
  transfer_small eds l None h (number ∷ rest) = tt
  transfer_small eds l (Some p) h (number ∷ rest) = turn_small eds l p h number (turn_of p number)

  either_small : (b : Bool) (x y : Outcome × Option Position) → Small x.1 → Small y.1 → Small (cond b x y).1
  either_small true x y h g = h
  either_small false x y h g = g

  module _ (up : Option Position) (h : Small up) where
    file_small : (service instance : ℕ) (a : Option ℕ) (bytes : List ℕ) (eds : Option (List ℕ)) → st.setup.eds ≡ eds
        → Small (file_in st.setup service instance a bytes up eds).1
    unfolding file eds_file
    file_small service instance a bytes None e = h
    file_small service instance a bytes (Some eds) e =
        either_small (eqb instance 0) _ _ h
        (either_small (eqb instance eds_instance) _ _
        (either_small (eqb service initiate_upload) _ _ (initiate_small eds up h bytes)
        (either_small (eqb service upload_transfer) _ _ (transfer_small eds (short eds e) up h bytes) h))
        h)

    object_small : (service : ℕ) (a : Option ℕ) (bytes : List ℕ) (o : Option Object) → Small (of_object st local mask service a bytes up o).1
    unfolding of_class
    object_small service a bytes None = h
    object_small service a bytes (Some o) =
        either_small (eqb o.class 0x01) _ _ h
        (either_small (eqb o.class 0x04) _ _ h
        (either_small (eqb o.class 0xF5) _ _ h
        (either_small (eqb o.class 0xF6) _ _ h
        (either_small (eqb o.class 0x37) _ _ (file_small service o.instance a bytes st.setup.eds refl)
        (either_small (eqb o.class 0x02) _ _ h h)))))

    request_small : (message : List ℕ) (r : Result Request ℕ) → Small (of_request st local mask message up r).1
    request_small message (Err service) = h
    request_small message (Ok r) = object_small r.service r.attribute (drop r.datastart message) r.object

    message_small : (message : List ℕ) (room : ℕ) → Small (message_call local mask message room st up).1
    unfolding message_call message_outcome
    message_small message room = either_way Small (is_yes (message_answer local mask message room st up)) (request_small message (request_of message)) h

-- ---- MESSAGE

module _ (s : List ℕ) (t : tested s ≡ true) (b : Bytes s) where
  limit_small : (view s).setup.transfer_limit ≤ 255
  limit_small = (sized_tested s t b).limit_high

  eds_small : (eds : List ℕ) → (view s).setup.eds ≡ Some eds → length eds ≤ 65535
  eds_small eds e = by (eqb (le 4 (setup_in s) 4) 0) refl
    where
      some_is : {x y : List ℕ} → Some x ≡ Some y → x ≡ y
      some_is {x} q = ap (λ (o : Option (List ℕ)). from x o) q
        where
          from : List ℕ → Option (List ℕ) → List ℕ
          from d None = d
          from d (Some z) = z

      by : (z : Bool) → eqb (le 4 (setup_in s) 4) 0 ≡ z → length eds ≤ 65535
      by true q = let c : Some eds ≡ None = sym e ∙ eds_none s (eqb-true (le 4 (setup_in s) 4) 0 q) in absurd (let z : ◌≡◌ {A = ℕ} 0 1 = cc in omega arith)
      by false q =
          let c = some_is (sym e ∙ eds_some s (eqb-false (le 4 (setup_in s) 4) 0 q)) in
          let n = ap length c ∙ eds_long s t in
          let m = mark_small s t in
          omega arith

  module _ (local mask : ℕ) (message upload out : List ℕ) (c : Bytes upload) (p : position_tested (view s).setup upload ≡ true) where
    left : Option Position
    left = (message_on local mask message s upload out).1

    left_ok : upload_ok (view s).setup left ≡ true
    unfolding left message_call
    left_ok =
        either_way (λ (x : Option Position). upload_ok (view s).setup x ≡ true) (is_yes (message_answer local mask message (length out) (view s) (dec_upload upload)))
        (position_kept (view s) local mask (sized_tested s t b) (dec_upload upload) (position_ok_lem (view s).setup upload p) message) (position_ok_lem (view s).setup upload p)

    left_small : Small left
    unfolding left
    left_small = message_small (view s) local mask limit_small eds_small (dec_upload upload) (small_read upload c) message (length out)

    left_is : (lifted_message local mask message s upload out).1.0 ≡ enc_upload left
    unfolding lifted_message left
    left_is = rw (t, p)

    -- THE POSITION LEFT PASSES ITS TEST
    pub message_accepted : position_tested (view s).setup (lifted_message local mask message s upload out).1.0 ≡ true
    message_accepted = ap (position_tested (view s).setup) left_is ∙ written_passes (view s).setup left left_ok left_small

    -- and is made of bytes
    pub message_bytes : Bytes (lifted_message local mask message s upload out).1.0
    message_bytes = subst Bytes (sym left_is) (bytes_written left left_small)
