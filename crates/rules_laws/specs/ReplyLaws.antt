-- Every reply fits: 516 bytes for any message, 263 for an upload. The position left by a message passes its own test again.
use mathlib.Core.List.{List, [], ◌∷◌, ◌++◌}
use Rattle.wire_rules.specs.declared.Request.{Request}
use Rattle.std.specs.Prelude.{Bool, cond, ◌≡◌, ℕ, ◌+◌, ◌≤◌, ◌<◌, min, max, length, get_or, take, drop, Option, Some, None, Result, Ok, Err}
use Rattle.std.proofs.Math.Bool.{true, false}
use Rattle.std.proofs.Math.Path.{refl}
use native.Mathlib.Omega.{arith}
use Rattle.std.proofs.Math.Dec.{eqb}
use Rattle.std.proofs.Common.{length-append, length-take}
use borrow.Author.Tests.{le-leb, lt-leb, leb-true, lt-ltb}
use Rattle.base_cells.specs.Numbers.{le_bytes}
use Rattle.base_cells.specs.Records.{enc_fields}
use Rattle.base_cells.specs.Back.{all, all_at}
use Rattle.wire_rules.specs.declared.Object.{Object}
use Rattle.wire_rules.specs.Requests.{message_max, request_of}
use Rattle.rules.specs.State.{Setup, State, content_at}
use Rattle.rules.specs.Answers.{Wrote, Refused}
use Rattle.rules.specs.Attributes.{Outcome, Gives, Fails, Attributes, value_of, attribute_named, get_single, single, among, class_attributes, short_string, tagged_text}
use Rattle.rules.specs.declared.objects.Position.{Position}
use Rattle.rules.specs.declared.objects.Turn.{Turn}
use Rattle.rules.specs.declared.objects.Turn.TheVariants.{Repeat, InTurn, OutOfTurn}
use Rattle.rules.specs.Upload.{checksum, clamped, started, initiate, turn_of, advanced, reaches_end, transfer_bytes, transfer_reply, transfer_for, transfer, last_ok, position_tests, position_ok, upload_ok}
use Rattle.rules.specs.Objects.{identity_attributes, identity, assembly_class, assembly_attributes, assembly_place, assembly_object, assembly, interface, tcp_ip_attributes, tcp_ip, ethernet_attributes, ethernet_link, file_attributes, initiate_upload, upload_transfer, eds_file, eds_instance, file}
use Rattle.rules.specs.Message.{reply_head, reply_to, file_in, of_class, of_object, of_request, service_of, message_outcome, message_reply, reply_room, message_answer, message_call}
use Rattle.rules.specs.declared.No.TheVariants.{NoRoom}

-- a state of the rules' sizes
pub record Sized (st : State) : Type 0 where
  pub name : length st.setup.identity.name ≤ 32
  pub eds_name : length st.setup.eds_name ≤ 32
  pub mac : length st.setup.mac ≤ 6
  pub limit_low : 1 ≤ st.setup.transfer_limit
  pub limit_high : st.setup.transfer_limit ≤ 255
  pub contents : (i : ℕ) → length (content_at st i).bytes ≤ 512

-- ---- the data of an outcome

abbrev pub data_length : Outcome → ℕ
data_length (Gives bytes) = length bytes
data_length (Fails f) = 0

abbrev Short : ℕ → Attributes → Type 0
Short n [] = Unit
Short n (entry ∷ rest) = (length entry.1 ≤ n) × Short n rest

module _ (n : ℕ) where
  one_of : (b : Bool) (x y : Outcome) → data_length x ≤ n → data_length y ≤ n → data_length (cond b x y) ≤ n
  one_of true x y h g = h
  one_of false x y h g = g

  one_step : (b : Bool) (x y : Outcome × Option Position) → data_length x.0 ≤ n → data_length y.0 ≤ n → data_length (cond b x y).0 ≤ n
  one_step true x y h g = h
  one_step false x y h g = g

  value_short : (a : ℕ) (table : Attributes) → Short n table → data_length (value_of a table) ≤ n
  value_short a [] h = omega arith
  value_short a (entry ∷ rest) h = one_of (eqb a entry.0) _ _ h.0 (value_short a rest h.1)

  named_short : (a : Option ℕ) (table : Attributes) → Short n table → data_length (attribute_named a table) ≤ n
  named_short None table h = omega arith
  named_short (Some a) table h = value_short a table h

  single_short : (service : ℕ) (a : Option ℕ) (table : Attributes) → Short n table → data_length (single service a table) ≤ n
  single_short service a table h = one_of (eqb service get_single) _ _ (named_short a table h) (omega arith)

class_short : Short 512 class_attributes
unfolding le_bytes
class_short = (omega arith, (omega arith, (omega arith, tt)))

-- an object with a class and one instance
among_short : (one service instance : ℕ) (a : Option ℕ) (table : Attributes) → Short 512 table
    → data_length (among one instance (single service a class_attributes) (single service a table)) ≤ 512
among_short one service instance a table h =
    one_of 512 (eqb instance 0) _ _ (single_short 512 service a class_attributes class_short)
    (one_of 512 (eqb instance one) _ _ (single_short 512 service a table h) (omega arith))

-- ---- the upload

module _ (eds : List ℕ) where
  bytes_short : (size offset : ℕ) (b : Bool) → length (take size (drop offset eds) ++ cond b (le_bytes 2 (checksum eds)) []) ≤ size + 2
  unfolding le_bytes
  bytes_short size offset true = simp (length-append, length-take) (omega arith)
  bytes_short size offset false = simp (length-append, length-take) (omega arith)

  reply_short : (size number offset : ℕ) → length (transfer_reply eds size number offset) ≤ size + 4
  unfolding transfer_reply transfer_bytes
  reply_short size number offset = let h = bytes_short size offset (reaches_end eds size offset) in omega arith

  turn_short : (p : Position) (number : ℕ) (t : Turn) → data_length (transfer_for eds p number t).0 ≤ p.size + 4
  turn_short p number (Repeat offset) = reply_short p.size number offset
  turn_short p number InTurn = reply_short p.size number p.offset
  turn_short p number OutOfTurn = omega arith

  -- an upload's data: at most the size, a number, a type and the checksum
  pub transfer_short : (up : Option Position) (bytes : List ℕ) (limit : ℕ) → ((p : Position) → up ≡ Some p → p.size ≤ limit)
      → data_length (transfer eds up bytes).0 ≤ limit + 4
  unfolding transfer
  transfer_short up [] limit h = omega arith
  transfer_short None (number ∷ rest) limit h = omega arith
  transfer_short (Some p) (number ∷ rest) limit h = let g = h p refl in let l = turn_short p number (turn_of p number) in omega arith

  pub initiate_short : (limit : ℕ) (up : Option Position) (bytes : List ℕ) → data_length (initiate limit eds up bytes).0 ≤ 5
  unfolding initiate le_bytes
  initiate_short limit up [] = omega arith
  initiate_short limit up (wanted ∷ rest) = omega arith

-- ---- the position's test

module _ (limit size : ℕ) (p : Position) where
  tested : all (position_tests limit size p) ≡ true → (1 ≤ p.size) × (p.size ≤ limit) × (p.offset ≤ size)
  tested e = (
    leb-true _ _ (all_at (position_tests limit size p) e 0),
    leb-true _ _ (all_at (position_tests limit size p) e 1),
    leb-true _ _ (all_at (position_tests limit size p) e 2),
  )

  passes : 1 ≤ p.size → p.size ≤ limit → p.offset ≤ size → last_ok size p.last ≡ true → all (position_tests limit size p) ≡ true
  unfolding all
  passes a b c d = rw (le-leb _ _ a, le-leb _ _ b, le-leb _ _ c, d)

-- its size is never above the limit
size_tested : (limit : ℕ) (eds : Option (List ℕ)) (p : Position) → position_ok limit eds p ≡ true → p.size ≤ limit
size_tested limit None p e = absurd (let z : ◌≡◌ {A = ℕ} 0 1 = cc in omega arith)
size_tested limit (Some eds) p e = (tested limit (length eds) p e).1

module _ (u : Setup) (low : 1 ≤ u.transfer_limit) (eds : List ℕ) (present : u.eds ≡ Some eds) where
  under : (p : Position) → all (position_tests u.transfer_limit (length eds) p) ≡ true → upload_ok u (Some p) ≡ true
  unfolding upload_ok
  under p e = rw present e

  initiate_ok : (up : Option Position) (bytes : List ℕ) → upload_ok u up ≡ true → upload_ok u (initiate u.transfer_limit eds up bytes).1 ≡ true
  unfolding initiate clamped
  initiate_ok up [] e = e
  initiate_ok up (wanted ∷ rest) e =
      under _ (passes u.transfer_limit (length eds) (started (max 1 (min wanted u.transfer_limit))) (omega arith) (omega arith) (omega arith) refl)

  of_under : (p : Position) → upload_ok u (Some p) ≡ true → all (position_tests u.transfer_limit (length eds) p) ≡ true
  unfolding upload_ok
  of_under p e = rw present at e

  advanced_ok : (p : Position) → upload_ok u (Some p) ≡ true → upload_ok u (Some (advanced eds p)) ≡ true
  unfolding advanced
  advanced_ok p e =
      let h = tested u.transfer_limit (length eds) p (of_under p e) in
      under _ (passes u.transfer_limit (length eds) (advanced eds p) h.0 h.1 (omega arith) (le-leb _ _ h.2))

  turn_ok : (p : Position) (number : ℕ) (t : Turn) → upload_ok u (Some p) ≡ true → upload_ok u (transfer_for eds p number t).1 ≡ true
  turn_ok p number (Repeat offset) e = e
  turn_ok p number InTurn e = advanced_ok p e
  turn_ok p number OutOfTurn e = e

  transfer_ok_lem : (up : Option Position) (bytes : List ℕ) → upload_ok u up ≡ true → upload_ok u (transfer eds up bytes).1 ≡ true
  unfolding transfer
  transfer_ok_lem up [] e = e
  transfer_ok_lem None (number ∷ rest) e = e
  transfer_ok_lem (Some p) (number ∷ rest) e = turn_ok p number (turn_of p number) e

  one_ok : (b : Bool) (x y : Outcome × Option Position) → upload_ok u x.1 ≡ true → upload_ok u y.1 ≡ true → upload_ok u (cond b x y).1 ≡ true
  one_ok true x y h g = h
  one_ok false x y h g = g

  file_ok : (service instance : ℕ) (a : Option ℕ) (bytes : List ℕ) (up : Option Position) → upload_ok u up ≡ true
      → upload_ok u (file u eds service instance a bytes up).1 ≡ true
  unfolding file eds_file
  file_ok service instance a bytes up e =
      one_ok (eqb instance 0) _ _ e
      (one_ok (eqb instance eds_instance) _ _
      (one_ok (eqb service initiate_upload) _ _ (initiate_ok up bytes e) (one_ok (eqb service upload_transfer) _ _ (transfer_ok_lem up bytes e) e))
      e)

-- ---- a message

module _ (st : State) (local mask : ℕ) (sized : Sized st) where
  identity_short : (service instance : ℕ) (a : Option ℕ) → data_length (identity st service instance a) ≤ 512
  unfolding identity identity_attributes short_string le_bytes
  identity_short service instance a =
      among_short 1 service instance a (identity_attributes st)
      (omega arith, (omega arith, (omega arith, (omega arith, (omega arith, (omega arith, (omega arith, (omega arith, tt))))))))

  assembly_object_short : (service : ℕ) (a : Option ℕ) (i : Option ℕ) → data_length (assembly_object st service a i) ≤ 512
  unfolding assembly_attributes le_bytes
  assembly_object_short service a None = omega arith
  assembly_object_short service a (Some i) =
      single_short 512 service a (assembly_attributes (content_at st i)) (sized.contents i, (omega arith, tt))

  assembly_short : (service instance : ℕ) (a : Option ℕ) → data_length (assembly st service instance a) ≤ 512
  unfolding assembly assembly_class le_bytes
  assembly_short service instance a =
      one_of 512 (eqb instance 0) _ _ (single_short 512 service a (assembly_class st.setup) (omega arith, (omega arith, tt)))
      (assembly_object_short service a (assembly_place st.setup instance))

  tcp_short : (service instance : ℕ) (a : Option ℕ) → data_length (tcp_ip local mask service instance a) ≤ 512
  unfolding tcp_ip tcp_ip_attributes interface enc_fields le_bytes
  tcp_short service instance a =
      among_short 1 service instance a (tcp_ip_attributes local mask)
      (omega arith, (omega arith, (omega arith, (omega arith, (omega arith, (omega arith, tt))))))

  ethernet_short : (service instance : ℕ) (a : Option ℕ) → data_length (ethernet_link st.setup service instance a) ≤ 512
  unfolding ethernet_link ethernet_attributes le_bytes
  ethernet_short service instance a =
      among_short 1 service instance a (ethernet_attributes st.setup) (omega arith, (omega arith, (omega (arith, sized.mac), tt)))

  file_attributes_short : (eds : List ℕ) → Short 512 (file_attributes st.setup eds)
  unfolding file_attributes tagged_text short_string le_bytes
  file_attributes_short eds = (
    omega arith,
    (
      omega arith,
      (
        omega arith,
        (
          omega (arith, sized.eds_name),
          (
            omega arith,
            (
              omega arith,
              (
                omega arith,
                (
                  omega arith,
                  (
                    omega arith,
                    (omega arith, (omega arith, tt)),
                  ),
                ),
              ),
            ),
          ),
        ),
      ),
    ),
  )

  module _ (up : Option Position) (ok : upload_ok st.setup up ≡ true) where
    size_held : (p : Position) → up ≡ Some p → p.size ≤ 255
    unfolding upload_ok
    size_held p e =
        let h : upload_ok st.setup (Some p) ≡ true = rw e at ok in
        let g = size_tested st.setup.transfer_limit st.setup.eds p h in
        omega (arith, sized.limit_high)

    file_short : (eds : List ℕ) (service instance : ℕ) (a : Option ℕ) (bytes : List ℕ)
        → data_length (file st.setup eds service instance a bytes up).0 ≤ 512
    unfolding file eds_file
    file_short eds service instance a bytes =
        let t = transfer_short eds up bytes 255 size_held in
        let i = initiate_short eds st.setup.transfer_limit up bytes in
        one_step 512 (eqb instance 0) _ _ (single_short 512 service a class_attributes class_short)
        (one_step 512 (eqb instance eds_instance) _ _
        (one_step 512 (eqb service initiate_upload) _ _ (omega arith)
        (one_step 512 (eqb service upload_transfer) _ _ (omega arith) (single_short 512 service a (file_attributes st.setup eds) (file_attributes_short eds))))
        (omega arith))

    file_in_short : (service instance : ℕ) (a : Option ℕ) (bytes : List ℕ) (eds : Option (List ℕ))
        → data_length (file_in st.setup service instance a bytes up eds).0 ≤ 512
    file_in_short service instance a bytes None = omega arith
    file_in_short service instance a bytes (Some eds) = file_short eds service instance a bytes

    object_short : (service : ℕ) (a : Option ℕ) (bytes : List ℕ) (o : Option Object)
        → data_length (of_object st local mask service a bytes up o).0 ≤ 512
    unfolding of_class
    object_short service a bytes None = omega arith
    object_short service a bytes (Some o) =
        one_step 512 (eqb o.class 0x01) _ _ (identity_short service o.instance a)
        (one_step 512 (eqb o.class 0x04) _ _ (assembly_short service o.instance a)
        (one_step 512 (eqb o.class 0xF5) _ _ (tcp_short service o.instance a)
        (one_step 512 (eqb o.class 0xF6) _ _ (ethernet_short service o.instance a)
        (one_step 512 (eqb o.class 0x37) _ _ (file_in_short service o.instance a bytes st.setup.eds)
        (one_step 512 (eqb o.class 0x02) _ _ (omega arith) (omega arith))))))

    request_short : (message : List ℕ) (r : Result Request ℕ) → data_length (of_request st local mask message up r).0 ≤ 512
    request_short message (Err service) = omega arith
    request_short message (Ok r) = object_short r.service r.attribute (drop r.datastart message) r.object

    reply_length : (service : ℕ) (o : Outcome) → length (reply_to service o) ≡ 4 + data_length o
    unfolding reply_to reply_head
    reply_length service (Gives bytes) = omega arith
    reply_length service (Fails f) = refl

    -- every reply is at most 516 bytes
    pub reply_fits : (message : List ℕ) → length (message_reply st local mask message up) ≤ reply_room
    unfolding message_reply message_outcome
    reply_fits message =
        let h = request_short message (request_of message) in
        rw (reply_length (service_of (request_of message)) (of_request st local mask message up (request_of message)).0) (omega arith)

    -- an upload's are at most 263
    pub transfer_fits : (eds bytes : List ℕ) → length (reply_to upload_transfer (transfer eds up bytes).0) ≤ 263
    transfer_fits eds bytes =
        let h = transfer_short eds up bytes 255 size_held in
        rw (reply_length upload_transfer (transfer eds up bytes).0) (omega arith)

    pub initiate_fits : (eds bytes : List ℕ) → length (reply_to initiate_upload (initiate st.setup.transfer_limit eds up bytes).0) ≤ 263
    initiate_fits eds bytes =
        let h = initiate_short eds st.setup.transfer_limit up bytes in
        rw (reply_length initiate_upload (initiate st.setup.transfer_limit eds up bytes).0) (omega arith)

    file_in_ok : (service instance : ℕ) (a : Option ℕ) (bytes : List ℕ) (eds : Option (List ℕ)) → st.setup.eds ≡ eds
        → upload_ok st.setup (file_in st.setup service instance a bytes up eds).1 ≡ true
    file_in_ok service instance a bytes None e = ok
    file_in_ok service instance a bytes (Some eds) e = file_ok st.setup sized.limit_low eds e service instance a bytes up ok

    any_ok : (b : Bool) (x y : Outcome × Option Position) → upload_ok st.setup x.1 ≡ true → upload_ok st.setup y.1 ≡ true
        → upload_ok st.setup (cond b x y).1 ≡ true
    any_ok true x y h g = h
    any_ok false x y h g = g

    object_ok : (service : ℕ) (a : Option ℕ) (bytes : List ℕ) (o : Option Object)
        → upload_ok st.setup (of_object st local mask service a bytes up o).1 ≡ true
    unfolding of_class
    object_ok service a bytes None = ok
    object_ok service a bytes (Some o) =
        any_ok (eqb o.class 0x01) _ _ ok
        (any_ok (eqb o.class 0x04) _ _ ok
        (any_ok (eqb o.class 0xF5) _ _ ok
        (any_ok (eqb o.class 0xF6) _ _ ok
        (any_ok (eqb o.class 0x37) _ _ (file_in_ok service o.instance a bytes st.setup.eds refl)
        (any_ok (eqb o.class 0x02) _ _ ok ok)))))

    request_ok : (message : List ℕ) (r : Result Request ℕ) → upload_ok st.setup (of_request st local mask message up r).1 ≡ true
    request_ok message (Err service) = ok
    request_ok message (Ok r) = object_ok r.service r.attribute (drop r.datastart message) r.object

    -- the position that a message leaves passes its test
    pub position_kept : (message : List ℕ) → upload_ok st.setup (message_outcome st local mask message up).1 ≡ true
    unfolding message_outcome
    position_kept message = request_ok message (request_of message)

-- ---- No. 8, or a reply

module _ (st : State) (local mask : ℕ) (message : List ℕ) (room : ℕ) (up : Option Position) where
  -- an object reply buffer under 516 bytes gives No. 8, and nothing changes
  pub no_room : room < reply_room → message_call local mask message room st up ≡ (Refused NoRoom, up)
  unfolding message_call message_answer
  no_room h = rw (lt-leb reply_room room h)

  -- otherwise every message gets its reply
  pub always_replied : reply_room ≤ room
      → message_call local mask message room st up ≡ (Wrote (message_reply st local mask message up), (message_outcome st local mask message up).1)
  unfolding message_call message_answer
  always_replied h = rw (le-leb reply_room room h)

-- a message that is no upload service leaves the position as it was
module _ (up : Option Position) where
  either_stays : (b : Bool) (x y : Outcome × Option Position) → x.1 ≡ up → y.1 ≡ up → (cond b x y).1 ≡ up
  either_stays true x y h g = h
  either_stays false x y h g = g

  module _ (st : State) (local mask service : ℕ) (a : Option ℕ) (bytes : List ℕ) (notInitiate : eqb service initiate_upload ≡ false)
      (notTransfer : eqb service upload_transfer ≡ false) where
    file_stays : (eds : Option (List ℕ)) (instance : ℕ) → (file_in st.setup service instance a bytes up eds).1 ≡ up
    unfolding file eds_file
    file_stays None instance = refl
    file_stays (Some eds) instance =
        either_stays (eqb instance 0) _ _ refl (either_stays (eqb instance eds_instance) _ _ (rw (notInitiate, notTransfer)) refl)

    object_stays : (o : Option Object) → (of_object st local mask service a bytes up o).1 ≡ up
    unfolding of_class
    object_stays None = refl
    object_stays (Some o) =
        either_stays (eqb o.class 0x01) _ _ refl
        (either_stays (eqb o.class 0x04) _ _ refl
        (either_stays (eqb o.class 0xF5) _ _ refl
        (either_stays (eqb o.class 0xF6) _ _ refl
        (either_stays (eqb o.class 0x37) _ _ (file_stays st.setup.eds o.instance)
        (either_stays (eqb o.class 0x02) _ _ refl refl)))))

  pub position_stays : (st : State) (local mask : ℕ) (message : List ℕ)
      → eqb (service_of (request_of message)) initiate_upload ≡ false → eqb (service_of (request_of message)) upload_transfer ≡ false
      → (message_outcome st local mask message up).1 ≡ up
  unfolding message_outcome
  position_stays st local mask message = by (request_of message)
    where
      by : (r : Result Request ℕ) → eqb (service_of r) initiate_upload ≡ false → eqb (service_of r) upload_transfer ≡ false
          → (of_request st local mask message up r).1 ≡ up
      by (Err service) h g = refl
      by (Ok r) h g = object_stays st local mask r.service r.attribute (drop r.datastart message) h g r.object

-- a message beyond the sizes is reply 0x04 too
pub over_size : (st : State) (local mask : ℕ) (message : List ℕ) (up : Option Position) → message_max < length message
    → message_reply st local mask message up ≡ reply_head (get_or message 0 0) 0x04
unfolding message_reply message_outcome request_of reply_to
over_size st local mask message up h = rw (lt-ltb _ _ h)
