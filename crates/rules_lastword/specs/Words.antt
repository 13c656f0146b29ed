-- THE HISTORY'S WORDS: what the calls and their answers alone tell of a connection, and of an output. Nothing here reads a state, and of the
-- rules for frames in nothing is cited but the frame taken apart: the wording is this file's own.
use Rattle.std.specs.Prelude.{List, Bool, true, false, cond, not, ◌&&◌, ℕ, suc, ◌+◌, ◌-◌, ◌%◌, ◌^◌, eqb, leb, ltb, length, drop, get_or, Option, Some, None}
use Rattle.base_cells.specs.Numbers.{le}
use Rattle.wire_rules.specs.Timeout.{timeout_of}
use Rattle.rules.specs.Lists.{maybe}
use Rattle.rules.specs.State.{Setup, triad_is}
use Rattle.rules.specs.Answers.{Answer, answer_bytes}
use Rattle.rules.specs.Checks.{path_in, ot_point}
use Rattle.rules.specs.Opening.{asked_path}
use Rattle.rules.specs.Receiving.{Frame}
use Rattle.rules_steps.specs.Names.{Triad, ForwardOpen, Origin}
use Rattle.rules_steps.specs.Steps.{Reading}

-- ---- a connection

-- what is known of a connection: its triad, its O→T id, the address that it came from, its timeout; when it was heard last (its open counts,
-- before any frame), the sequence of its last frame in order, its last CIP sequence
pub record Contact : Type 0 where
  pub triad : Triad
  pub id : ℕ
  pub sender : ℕ
  pub timeout : ℕ
  pub at : ℕ
  pub last : Option ℕ
  pub cip : Option ℕ

-- an accepted open: the O→T id is the reply's first four bytes
abbrev pub met : ℕ → ForwardOpen → Origin → Answer → Contact
met t q g a =
    record {
      triad = q.triad;
      id = le 4 (answer_bytes a) 0;
      sender = g.peer;
      timeout = timeout_of q.ot.rpi q.multiplier;
      at = t;
      last = None;
      cip = None;
    }

-- a frame is from it: its O→T id, from its address
abbrev pub is_for : ℕ → Frame → Contact → Bool
is_for from f m = eqb m.id f.id.0 && eqb m.sender from

-- the first frame, or 1 to 0x7FFFFFFF ahead of the last in order, modulo 2^32
abbrev pub in_order : Option ℕ → Frame → Bool
in_order None f = true
in_order (Some n) f = leb 1 ((f.sequence + 2 ^ 32 - n) % 2 ^ 32) && leb ((f.sequence + 2 ^ 32 - n) % 2 ^ 32) 0x7FFFFFFF

-- the CIP sequence, the payload's first two bytes, is not the last again
abbrev pub is_news : Option ℕ → Frame → Bool
is_news None f = true
is_news (Some n) f = not (eqb n (le 2 f.payload 0))

abbrev pub speaks : ℕ → Frame → Contact → Bool
speaks from f m = is_for from f m && in_order m.last f

-- after a frame from it in order, whatever else the frame holds
abbrev pub noted : ℕ → Frame → Contact → Contact
noted t f m =
    record {
      triad = m.triad;
      id = m.id;
      sender = m.sender;
      timeout = m.timeout;
      at = t;
      last = Some f.sequence;
      cip = cond (leb 2 (length f.payload)) (Some (le 2 f.payload 0)) m.cip;
    }

-- more than its timeout has gone by since it was heard last; a clock behind that time counts as 0
abbrev pub silent : ℕ → Contact → Bool
silent t m = ltb m.timeout (t - m.at)

-- the connection of the last accepted open that asks so, until it is closed or silent at an expiry call
abbrev pub contact_of : (List ℕ → ForwardOpen → Bool) → Reading (Option Contact)
contact_of asks =
    record {
      on_open = λ t request q g a w. cond (asks request q) (Some (met t q g a)) w;
      on_close = λ k w. maybe None (λ m. cond (triad_is k m.triad) None (Some m)) w;
      on_frame = λ t from f w. maybe None (λ m. Some (cond (speaks from f m) (noted t f m) m)) w;
      on_expire = λ t w. maybe None (λ m. cond (silent t m) None (Some m)) w;
    }

-- ---- an output

-- what an output of an instance number was told: its live owner; the last frame taken from that owner, and from any owner
pub record Word : Type 0 where
  pub owner : Option Contact
  pub said : Option Frame
  pub taken : Option Frame

-- an open asks to own it: the O→T point is its number, and no heartbeat's
abbrev pub asks_for : Setup → ℕ → List ℕ → ForwardOpen → Bool
asks_for u n request q =
    let point = ot_point (path_in (asked_path request q)) in
    not (eqb point u.input_only) && not (eqb point u.listen_only) && eqb point n

-- behind two bytes of CIP sequence and four of header comes as much as the output holds
abbrev pub fits : ℕ → Frame → Bool
fits size f = eqb (length f.payload) (size + 6)

-- bit 0 of the header, the payload's third byte
abbrev pub says_run : Frame → Bool
says_run f = eqb (get_or f.payload 2 0 % 2) 1

abbrev pub data_in : Frame → List ℕ
data_in f = drop 6 f.payload

-- a frame is taken from a connection: from it, in order, with a new CIP sequence, and of the output's size
abbrev pub counts : ℕ → ℕ → Frame → Contact → Bool
counts size from f m = speaks from f m && is_news m.cip f && fits size f

abbrev pub takes : ℕ → ℕ → Frame → Word → Bool
takes size from f w = maybe false (counts size from f) w.owner

abbrev pub word_of : Setup → ℕ → ℕ → Reading Word
word_of u n size =
    let owner = contact_of (asks_for u n) in
    record {
      on_open = λ t request q g a w. record { owner = owner.on_open t request q g a w.owner; said = cond (asks_for u n request q) None w.said; taken = w.taken };
      on_close = λ k w. record { owner = owner.on_close k w.owner; said = w.said; taken = w.taken };
      on_frame =
          λ t from f w.
          record {
            owner = owner.on_frame t from f w.owner;
            said = cond (takes size from f w) (Some f) w.said;
            taken = cond (takes size from f w) (Some f) w.taken;
          };
      on_expire = λ t w. record { owner = owner.on_expire t w.owner; said = w.said; taken = w.taken };
    }

-- before any call
abbrev pub no_word : Word
no_word = record { owner = None; said = None; taken = None }

-- IN RUN: it has a live owner, and the last frame taken from that owner had bit 0 of its header set
abbrev pub in_run : Word → Bool
in_run w = maybe false (λ m. maybe false says_run w.said) w.owner

-- WHAT IT HOLDS: the data of the last frame taken; before any, what it held at first
abbrev pub holds : List ℕ → Word → List ℕ
holds before w = maybe before data_in w.taken

-- ---- how many opens were accepted

abbrev pub opens : Reading ℕ
opens = record { on_open = λ t request q g a d. suc d; on_close = λ k d. d; on_frame = λ t from f d. d; on_expire = λ t d. d }

-- an open draws two ids at most: while fewer than half as many opens as there are ids were accepted, none has come round again
abbrev pub few : ℕ
few = 2 ^ 31

abbrev pub early : ℕ → Bool
early d = ltb d few
