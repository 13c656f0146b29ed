-- Messages to the objects and the upload, worked out byte by byte. Each wrong reading of chapters 13 and 14 that must-fail holds breaks
-- one.
use Rattle.std.specs.Prelude.{Some, None, Option}
use Rattle.rules.specs.declared.objects.Position.{Position}
use mathlib.Core.List.{List, [], ◌∷◌, map}
use mathlib.Core.Bool.{Bool, true, false}
use mathlib.Core.Path.{◌≡◌, refl}
use Prim.Native.Nat.{ℕ}
use lib.ListN.{length, replicate}
use Rattle.base_cells.specs.Numbers.{le_bytes, le, le_of}
use Rattle.base_cells.specs.Records.{sum, enc_fields}
use Rattle.base_cells.specs.Back.{all}
use Rattle.wire_rules.specs.Segments.{logical_at, between, seg_at, step_at, segs_from, segs_of}
use Rattle.wire_rules.specs.ConnectionPath.{gather, some}
use Rattle.wire_rules.specs.Requests.{attribute_in, request_with, request_of}
use Rattle.rules.specs.State.{Input, Output, Config, Kind, Owner, InputOnly, Conn, Identity, Shape, Setup, State}
use Rattle.rules.specs.Answers.{Wrote, Refused, NoRoom}
use Rattle.rules.specs.Attributes.{short_string, tagged_text}
use Rattle.rules.specs.Upload.{checksum, clamped, initiate, Transfer, was, turn_of, advanced, transfer_bytes, transfer_reply, transfer, upload_ok}
use Rattle.rules.specs.Objects.{owned, running, extended_status, identity_status, identity_attributes, identity, assembly_class, assembly_attributes, assembly_place, assembly, interface, tcp_ip_attributes, tcp_ip, ethernet_attributes, ethernet_link, file_attributes, eds_file, file}
use Rattle.rules.specs.Message.{reply_head, reply_to, of_class, message_outcome, message_reply, message_answer}

-- ---- a device with an output of two bytes (100), an input of three (150) and no configuration data (5)

abbrev us : Identity
us = record { vendor = 0x1234; device = 0x0C; product = 0x41; major = 2; minor = 3; serial = 0x11223344; name = 0x41 ∷ 0x42 ∷ [] }

abbrev shapes : List Shape
shapes =
    record { instance = 100; kind = Output; size = 2 } ∷
    record { instance = 150; kind = Input; size = 3 } ∷
    record { instance = 5; kind = Config; size = 0 } ∷
    []

abbrev setup_with : Option (List ℕ) → ℕ → Setup
setup_with eds limit =
    record {
      identity = us;
      input_only = 238;
      listen_only = 237;
      rpi_min = 1000;
      rpi_max = 1000000;
      late_limit = 0;
      transfer_limit = limit;
      mac = 0x02 ∷ 0x00 ∷ 0x5E ∷ 0x10 ∷ 0x20 ∷ 0x30 ∷ [];
      eds = eds;
      eds_name = 0x61 ∷ 0x2E ∷ 0x65 ∷ [];
      assemblies = shapes;
    }

abbrev state_with : Setup → List ℕ → Bool → List Conn → Bool → State
state_with u bytes run table fault =
    record {
      setup = u;
      contents =
          record { bytes = bytes; run = run; notified = false } ∷
          record { bytes = 7 ∷ 8 ∷ 9 ∷ []; run = false; notified = false } ∷
          record { bytes = []; run = false; notified = false } ∷
          [];
      table = table;
      events = record { gone = 0; waiting = [] };
      fault = fault;
      next_id = 1;
      counters = record { produced = 0; late = 0; max_late = 0 };
    }

-- a connection of a kind; an owner's output is the first assembly
abbrev conn : Kind → Conn
conn kind =
    record {
      fixed =
          record {
            kind = kind;
            triad = record { serial = 1; vendor = 2; originator = 3 };
            originator = 9;
            otid = record { 0 = 1 };
            toid = record { 0 = 2 };
            otrpi = 10000;
            multiplier = 0;
            torpi = 10000;
            input = 1;
            output = 0;
            dest = record { address = 9; port = 2222 };
            multicast = false;
            local = 4;
          };
      heard = record { until = 0; any = false; sequence = 0; anycip = false; cip = 0 };
      sent = record { sequence = 0; cip = 0; due = None };
    }

-- an EDS of five bytes, transfer limit 2
abbrev setup : Setup
setup = setup_with (Some (1 ∷ 2 ∷ 3 ∷ 4 ∷ 5 ∷ [])) 2

abbrev device : State
device = state_with setup (0xAA ∷ 0xBB ∷ []) false [] false

abbrev without_eds : State
without_eds = state_with (setup_with None 2) [] false [] false

abbrev with_empty_eds : State
with_empty_eds = state_with (setup_with (Some []) 2) [] false [] false

-- the largest sizes: 512 bytes in an assembly, transfers of 255
abbrev large : State
large = state_with (setup_with (Some (replicate 255 1)) 255) (replicate 512 0xEE) false [] false

-- ---- examples

pub data Example : Type 0 where
  -- Get_Attribute_Single of a class, an instance and an attribute gives bytes
  reads : State → (class instance attribute : ℕ) → List ℕ → Example
  -- a message is answered with a reply, and leaves the position
  answers : State → Option Position → List ℕ → List ℕ → Option Position → Example
  -- an attribute's reply has a length; the first transfer's too
  attribute_length : State → (class instance attribute : ℕ) → ℕ → Example
  transfer_length : State → (size : ℕ) → ℕ → Example
  sums : List ℕ → ℕ → Example

abbrev get_attribute : ℕ → ℕ → ℕ → List ℕ
get_attribute class instance a = 0x0E ∷ 3 ∷ 0x20 ∷ class ∷ 0x24 ∷ instance ∷ 0x30 ∷ a ∷ []

-- a message to File, instance 0xC8
abbrev to_file : ℕ → List ℕ → List ℕ
to_file service bytes = service ∷ 2 ∷ 0x20 ∷ 0x37 ∷ 0x24 ∷ 0xC8 ∷ bytes

-- the device's local address is 10.0.0.2, its mask 255.255.255.0
abbrev said : State → Option Position → List ℕ → List ℕ
said st up message = message_reply st 0x0A000002 0xFFFFFF00 message up

abbrev left : State → Option Position → List ℕ → Option Position
left st up message = (message_outcome st 0x0A000002 0xFFFFFF00 message up).1

abbrev of_size : ℕ → Option Position
of_size size = Some (record { size = size; next = 0; offset = 0; last = None })

abbrev given : Example → List ℕ × Option Position
given (reads st class instance a bytes) = (said st None (get_attribute class instance a), None)
given (answers st up message reply after) = (said st up message, left st up message)
given (attribute_length st class instance a n) = (length (said st None (get_attribute class instance a)) ∷ [], None)
given (transfer_length st size n) = (length (said st (of_size size) (to_file 0x4F (0 ∷ []))) ∷ [], None)
given (sums bytes n) = (checksum bytes ∷ [], None)

abbrev wanted : Example → List ℕ × Option Position
wanted (reads st class instance a bytes) = (0x8E ∷ 0 ∷ 0 ∷ 0 ∷ bytes, None)
wanted (answers st up message reply after) = (reply, after)
wanted (attribute_length st class instance a n) = (n ∷ [], None)
wanted (transfer_length st size n) = (n ∷ [], None)
wanted (sums bytes n) = (n ∷ [], None)

-- a read that fails with a general status
abbrev refuses : List ℕ → ℕ → Example
refuses message status = answers device None message (0x8E ∷ 0 ∷ status ∷ 0 ∷ []) None

-- a position in the device's upload, of size 2
abbrev at : ℕ → ℕ → ℕ → ℕ → Option Position
at next offset number before = Some (record { size = 2; next = next; offset = offset; last = was number before })

abbrev identity_examples : List Example
identity_examples =
    reads device 0x01 1 1 (0x34 ∷ 0x12 ∷ []) ∷
    reads device 0x01 1 2 (0x0C ∷ 0x00 ∷ []) ∷
    reads device 0x01 1 3 (0x41 ∷ 0x00 ∷ []) ∷
    reads device 0x01 1 4 (2 ∷ 3 ∷ []) ∷
    -- 13.21: a session's upload goes on behind it
    answers device (at 1 2 0 0) (get_attribute 0x01 1 1) (0x8E ∷ 0 ∷ 0 ∷ 0 ∷ 0x34 ∷ 0x12 ∷ []) (at 1 2 0 0) ∷
    -- status: no connections; an owner idle, an owner in run, a reader alone; faulted, without and with an owner
    reads device 0x01 1 5 (0x30 ∷ 0x00 ∷ []) ∷
    reads (state_with setup [] false (conn Owner ∷ []) false) 0x01 1 5 (0x71 ∷ 0x00 ∷ []) ∷
    reads (state_with setup [] true (conn InputOnly ∷ conn Owner ∷ []) false) 0x01 1 5 (0x61 ∷ 0x00 ∷ []) ∷
    reads (state_with setup [] true (conn InputOnly ∷ []) false) 0x01 1 5 (0x70 ∷ 0x00 ∷ []) ∷
    reads (state_with setup [] false [] true) 0x01 1 5 (0x20 ∷ 0x00 ∷ []) ∷
    reads (state_with setup [] true (conn Owner ∷ []) true) 0x01 1 5 (0x21 ∷ 0x00 ∷ []) ∷
    reads device 0x01 1 6 (0x44 ∷ 0x33 ∷ 0x22 ∷ 0x11 ∷ []) ∷
    reads device 0x01 1 7 (2 ∷ 0x41 ∷ 0x42 ∷ []) ∷
    reads device 0x01 1 8 (3 ∷ []) ∷
    reads device 0x01 0 1 (1 ∷ 0 ∷ []) ∷
    reads device 0x01 0 2 (1 ∷ 0 ∷ []) ∷
    reads device 0x01 0 3 (1 ∷ 0 ∷ []) ∷
    refuses (get_attribute 0x01 1 9) 0x14 ∷
    refuses (get_attribute 0x01 0 4) 0x14 ∷
    refuses (get_attribute 0x01 2 1) 0x16 ∷
    -- no attribute; service 0x01; an unknown instance comes before the service
    refuses (0x0E ∷ 2 ∷ 0x20 ∷ 0x01 ∷ 0x24 ∷ 0x01 ∷ []) 0x13 ∷
    answers device None (0x01 ∷ 2 ∷ 0x20 ∷ 0x01 ∷ 0x24 ∷ 0x01 ∷ []) (0x81 ∷ 0 ∷ 0x08 ∷ 0 ∷ []) None ∷
    answers device None (0x01 ∷ 2 ∷ 0x20 ∷ 0x01 ∷ 0x24 ∷ 0x02 ∷ []) (0x81 ∷ 0 ∷ 0x16 ∷ 0 ∷ []) None ∷
    []

abbrev other_examples : List Example
other_examples =
    -- Assembly; its class by a path without an instance too
    reads device 0x04 0 1 (2 ∷ 0 ∷ []) ∷
    answers device None (0x0E ∷ 2 ∷ 0x20 ∷ 0x04 ∷ 0x30 ∷ 0x01 ∷ []) (0x8E ∷ 0 ∷ 0 ∷ 0 ∷ 2 ∷ 0 ∷ []) None ∷
    reads device 0x04 0 2 (150 ∷ 0 ∷ []) ∷
    refuses (get_attribute 0x04 0 3) 0x14 ∷
    reads device 0x04 100 3 (0xAA ∷ 0xBB ∷ []) ∷
    reads device 0x04 150 3 (7 ∷ 8 ∷ 9 ∷ []) ∷
    reads device 0x04 150 4 (3 ∷ 0 ∷ []) ∷
    reads device 0x04 5 3 [] ∷
    reads device 0x04 5 4 (0 ∷ 0 ∷ []) ∷
    refuses (get_attribute 0x04 7 3) 0x16 ∷
    attribute_length large 0x04 100 3 516 ∷
    -- TCP/IP
    reads device 0xF5 1 1 (1 ∷ 0 ∷ 0 ∷ 0 ∷ []) ∷
    reads device 0xF5 1 2 (0 ∷ 0 ∷ 0 ∷ 0 ∷ []) ∷
    reads device 0xF5 1 3 (0 ∷ 0 ∷ 0 ∷ 0 ∷ []) ∷
    reads device 0xF5 1 4 (0x02 ∷ 0x00 ∷ 0x20 ∷ 0xF6 ∷ 0x24 ∷ 0x01 ∷ []) ∷
    reads device 0xF5 1 5 (0x02 ∷ 0x00 ∷ 0x00 ∷ 0x0A ∷ 0x00 ∷ 0xFF ∷ 0xFF ∷ 0xFF ∷ replicate 14 0) ∷
    reads device 0xF5 1 6 (0 ∷ 0 ∷ []) ∷
    refuses (get_attribute 0xF5 1 7) 0x14 ∷
    reads device 0xF5 0 2 (1 ∷ 0 ∷ []) ∷
    refuses (get_attribute 0xF5 2 1) 0x16 ∷
    -- Ethernet Link
    reads device 0xF6 1 1 (100 ∷ 0 ∷ 0 ∷ 0 ∷ []) ∷
    reads device 0xF6 1 2 (0x0F ∷ 0 ∷ 0 ∷ 0 ∷ []) ∷
    reads device 0xF6 1 3 (0x02 ∷ 0x00 ∷ 0x5E ∷ 0x10 ∷ 0x20 ∷ 0x30 ∷ []) ∷
    refuses (get_attribute 0xF6 1 4) 0x14 ∷
    reads device 0xF6 0 1 (1 ∷ 0 ∷ []) ∷
    refuses (get_attribute 0xF6 2 1) 0x16 ∷
    -- what is not here: Message Router, Connection Manager, Port, 0x64; File without an EDS
    answers device None (get_attribute 0x02 1 1) (0x8E ∷ 0 ∷ 0x08 ∷ 0 ∷ []) None ∷
    refuses (get_attribute 0x06 1 1) 0x05 ∷
    refuses (get_attribute 0xF4 1 1) 0x05 ∷
    refuses (get_attribute 0x64 1 1) 0x05 ∷
    answers without_eds None (get_attribute 0x37 0 1) (0x8E ∷ 0 ∷ 0x05 ∷ 0 ∷ []) None ∷
    -- no byte, one byte, a path past the end, a path of no words, a service with bit 7 set
    answers device None [] (0x80 ∷ 0 ∷ 0x04 ∷ 0 ∷ []) None ∷
    answers device None (0x0E ∷ []) (0x8E ∷ 0 ∷ 0x04 ∷ 0 ∷ []) None ∷
    answers device None (0x0E ∷ 3 ∷ 0x20 ∷ 0x01 ∷ []) (0x8E ∷ 0 ∷ 0x04 ∷ 0 ∷ []) None ∷
    answers device None (0x0E ∷ 0 ∷ []) (0x8E ∷ 0 ∷ 0x05 ∷ 0 ∷ []) None ∷
    answers device None (0x8E ∷ 3 ∷ 0x20 ∷ 0x01 ∷ 0x24 ∷ 0x01 ∷ 0x30 ∷ 0x01 ∷ []) (0x8E ∷ 0 ∷ 0x08 ∷ 0 ∷ []) None ∷
    []

abbrev file_examples : List Example
file_examples =
    reads device 0x37 0 1 (1 ∷ 0 ∷ []) ∷
    reads device 0x37 0xC8 1 (2 ∷ []) ∷
    -- 01 "eng" DA 04 00, 18 and "EDS and Icon Files"
    reads device 0x37 0xC8 2
    (0x01 ∷ 0x65 ∷ 0x6E ∷ 0x67 ∷ 0xDA ∷ 0x04 ∷ 0x00 ∷ 18
    ∷ 0x45 ∷ 0x44 ∷ 0x53 ∷ 0x20 ∷ 0x61 ∷ 0x6E ∷ 0x64 ∷ 0x20 ∷ 0x49 ∷ 0x63 ∷ 0x6F ∷ 0x6E ∷ 0x20 ∷ 0x46 ∷ 0x69 ∷ 0x6C ∷ 0x65 ∷ 0x73 ∷ []) ∷
    reads device 0x37 0xC8 3 (1 ∷ 0 ∷ []) ∷
    reads device 0x37 0xC8 4 (0x01 ∷ 0x65 ∷ 0x6E ∷ 0x67 ∷ 0xDA ∷ 0x04 ∷ 0x00 ∷ 3 ∷ 0x61 ∷ 0x2E ∷ 0x65 ∷ []) ∷
    reads device 0x37 0xC8 5 (2 ∷ 3 ∷ []) ∷
    reads device 0x37 0xC8 6 (5 ∷ 0 ∷ 0 ∷ 0 ∷ []) ∷
    reads device 0x37 0xC8 7 (0xF1 ∷ 0xFF ∷ []) ∷
    reads device 0x37 0xC8 8 (0 ∷ []) ∷
    reads device 0x37 0xC8 9 (0 ∷ []) ∷
    reads device 0x37 0xC8 10 (1 ∷ []) ∷
    reads device 0x37 0xC8 11 (0 ∷ []) ∷
    refuses (get_attribute 0x37 0xC8 12) 0x14 ∷
    refuses (get_attribute 0x37 1 1) 0x16 ∷
    sums (0x01 ∷ 0x02 ∷ 0x03 ∷ []) 0xFFFA ∷
    sums [] 0 ∷
    []

abbrev upload_examples : List Example
upload_examples =
    -- initiate: without data; clamped from below and from above
    answers device (at 1 2 0 0) (to_file 0x4B []) (0xCB ∷ 0 ∷ 0x13 ∷ 0 ∷ []) (at 1 2 0 0) ∷
    answers device (at 1 2 0 0) (to_file 0x4B (0 ∷ [])) (0xCB ∷ 0 ∷ 0 ∷ 0 ∷ 5 ∷ 0 ∷ 0 ∷ 0 ∷ 1 ∷ []) (of_size 1) ∷
    answers device None (to_file 0x4B (255 ∷ [])) (0xCB ∷ 0 ∷ 0 ∷ 0 ∷ 5 ∷ 0 ∷ 0 ∷ 0 ∷ 2 ∷ []) (of_size 2) ∷
    -- transfer: without data, without an upload, out of turn
    answers device None (to_file 0x4F []) (0xCF ∷ 0 ∷ 0x13 ∷ 0 ∷ []) None ∷
    answers device None (to_file 0x4F (0 ∷ [])) (0xCF ∷ 0 ∷ 0x0C ∷ 0 ∷ []) None ∷
    answers device (of_size 2) (to_file 0x4F (1 ∷ [])) (0xCF ∷ 0 ∷ 0x0C ∷ 0 ∷ []) (of_size 2) ∷
    -- the first, the same again, a middle one, the last with the checksum, and one in turn after the end
    answers device (of_size 2) (to_file 0x4F (0 ∷ [])) (0xCF ∷ 0 ∷ 0 ∷ 0 ∷ 0 ∷ 0 ∷ 1 ∷ 2 ∷ []) (at 1 2 0 0) ∷
    answers device (at 1 2 0 0) (to_file 0x4F (0 ∷ [])) (0xCF ∷ 0 ∷ 0 ∷ 0 ∷ 0 ∷ 0 ∷ 1 ∷ 2 ∷ []) (at 1 2 0 0) ∷
    answers device (at 1 2 0 0) (to_file 0x4F (1 ∷ [])) (0xCF ∷ 0 ∷ 0 ∷ 0 ∷ 1 ∷ 1 ∷ 3 ∷ 4 ∷ []) (at 2 4 1 2) ∷
    answers device (at 2 4 1 2) (to_file 0x4F (2 ∷ [])) (0xCF ∷ 0 ∷ 0 ∷ 0 ∷ 2 ∷ 2 ∷ 5 ∷ 0xF1 ∷ 0xFF ∷ []) (at 3 5 2 4) ∷
    answers device (at 3 5 2 4) (to_file 0x4F (3 ∷ [])) (0xCF ∷ 0 ∷ 0 ∷ 0 ∷ 3 ∷ 2 ∷ 0xF1 ∷ 0xFF ∷ []) (at 4 5 3 5) ∷
    -- numbers wrap at 256
    answers device (at 255 2 254 0) (to_file 0x4F (255 ∷ [])) (0xCF ∷ 0 ∷ 0 ∷ 0 ∷ 255 ∷ 1 ∷ 3 ∷ 4 ∷ []) (at 0 4 255 2) ∷
    -- an empty EDS: type 4, also after the end
    answers with_empty_eds (of_size 2) (to_file 0x4F (0 ∷ [])) (0xCF ∷ 0 ∷ 0 ∷ 0 ∷ 0 ∷ 4 ∷ 0 ∷ 0 ∷ []) (at 1 0 0 0) ∷
    answers with_empty_eds (at 1 0 0 0) (to_file 0x4F (1 ∷ [])) (0xCF ∷ 0 ∷ 0 ∷ 0 ∷ 1 ∷ 4 ∷ 0 ∷ 0 ∷ []) (at 2 0 1 0) ∷
    transfer_length large 255 263 ∷
    -- an attribute leaves the position; on the class the two services are none
    answers device (at 1 2 0 0) (get_attribute 0x37 0xC8 10) (0x8E ∷ 0 ∷ 0 ∷ 0 ∷ 1 ∷ []) (at 1 2 0 0) ∷
    answers device (of_size 2) (0x4F ∷ 1 ∷ 0x20 ∷ 0x37 ∷ 0 ∷ []) (0xCF ∷ 0 ∷ 0x08 ∷ 0 ∷ []) (of_size 2) ∷
    []

pub identity_object : map given identity_examples ≡ map wanted identity_examples
unfolding le_bytes le le_of logical_at between seg_at step_at segs_from segs_of gather attribute_in request_with request_of reply_head reply_to of_class message_outcome message_reply short_string owned running extended_status identity_status identity_attributes identity
identity_object = refl

pub other_objects : map given other_examples ≡ map wanted other_examples
unfolding le_bytes le le_of logical_at between seg_at step_at segs_from segs_of gather attribute_in request_with request_of reply_head reply_to of_class message_outcome message_reply identity assembly_class assembly_attributes assembly_place assembly enc_fields interface tcp_ip_attributes tcp_ip ethernet_attributes ethernet_link
other_objects = refl

pub file_object : map given file_examples ≡ map wanted file_examples
unfolding le_bytes le le_of logical_at between seg_at step_at segs_from segs_of gather attribute_in request_with request_of reply_head reply_to of_class message_outcome message_reply short_string tagged_text sum checksum file_attributes eds_file file
file_object = refl

pub uploads : map given upload_examples ≡ map wanted upload_examples
unfolding le_bytes le le_of logical_at between seg_at step_at segs_from segs_of gather attribute_in request_with request_of reply_head reply_to of_class message_outcome message_reply sum checksum clamped initiate turn_of advanced transfer_bytes transfer_reply transfer file_attributes eds_file file
uploads = refl

-- 515 bytes of room and 516; what the reply is does not matter
pub rooms : (message_answer 0 0 [] 515 device None ≡ Refused NoRoom) × (message_answer 0 0 [] 516 device None ≡ Wrote (0x80 ∷ 0 ∷ 0x04 ∷ 0 ∷ []))
unfolding message_answer message_reply message_outcome request_of request_with segs_of segs_from step_at reply_to reply_head
rooms = (refl, refl)

-- ---- the position's test: transfers of 1 and 2 bytes within 5, at their end too; of 0 and of 3, behind the end, a last one behind it, no EDS

abbrev placed : ℕ → ℕ → Option Transfer → Option Position
placed size offset last = Some (record { size = size; next = 3; offset = offset; last = last })

pub positions : map (upload_ok setup) (None ∷ placed 1 0 None ∷ placed 2 5 (was 2 5) ∷ placed 0 0 None ∷ placed 3 0 None ∷ placed 2 6 None ∷ placed 2 5 (was 2 6) ∷ [])
    ≡ true ∷ true ∷ true ∷ false ∷ false ∷ false ∷ false ∷ []
unfolding upload_ok all
positions = refl

pub position_without_eds : map (upload_ok (setup_with None 2)) (None ∷ placed 1 0 None ∷ []) ≡ true ∷ false ∷ []
unfolding upload_ok all
position_without_eds = refl
