-- The upload by messages: what a client gets that sends Initiate_Upload and Upload_Transfer to File, instance 0xC8.
use Rattle.std.specs.Prelude.{List, [], ◌∷◌, ◌++◌, true, ◌≡◌, refl, ℕ, zero, suc, ◌*◌, ◌≤◌, length, drop, Option, Some, None, Ok}
use Rattle.rules.specs.declared.objects.Position.{Position}
use Rattle.std.proofs.Common.{ap, sym, ◌∙◌}
use Rattle.base_cells.specs.Numbers.{le_bytes}
use Rattle.wire_rules.specs.Segments.{logical_at, between, seg_at, step_at, segs_from, segs_of}
use Rattle.wire_rules.specs.ConnectionPath.{gather}
use Rattle.wire_rules.specs.Requests.{attribute_in, request_with, request_of, object_named}
use Rattle.rules.specs.State.{State}
use Rattle.rules.specs.Attributes.{Outcome, Gives, Fails}
use Rattle.rules.specs.Upload.{checksum, clamped, initiate_reply, initiate, transfer}
use Rattle.rules.specs.Objects.{eds_file, file}
use Rattle.rules.specs.Message.{reply_head, reply_to, of_class, message_outcome, message_reply}
use Rattle.rules_laws.specs.UploadLaws.{Move, Next, Again, Client, client, got, ended, Ask, asks_again, move, moves, nexts, reply_in, step, begins, uploaded_whole, uploaded_ends}

-- a message of a service to File, instance 0xC8, with one byte of data
abbrev pub to_file : ℕ → ℕ → List ℕ
to_file service byte = service ∷ 2 ∷ 0x20 ∷ 0x37 ∷ 0x24 ∷ 0xC8 ∷ byte ∷ []

abbrev pub initiate_message : ℕ → List ℕ
initiate_message wanted = to_file 0x4B wanted

abbrev pub transfer_message : ℕ → List ℕ
transfer_message number = to_file 0x4F number

-- a transfer by message: its reply behind the four bytes of the head, and the position left
abbrev pub by_message : State → ℕ → ℕ → Ask
by_message st local mask number up =
    (drop 4 (message_reply st local mask (transfer_message number) up), (message_outcome st local mask (transfer_message number) up).1)

file_request : (service byte : ℕ)
    → request_of (to_file service byte) ≡ Ok (record { service = service; object = object_named 0x37 0xC8; attribute = None; datastart = 6 })
unfolding request_of request_with segs_of segs_from step_at seg_at between logical_at gather attribute_in
file_request service byte = refl

behind_head : (service : ℕ) (o : Outcome) → drop 4 (reply_to service o) ≡ reply_in o
unfolding reply_to reply_head
behind_head service (Gives bytes) = refl
behind_head service (Fails f) = refl

-- moves are the same where the answers are
module _ (ask ask' : Ask) (same : (number : ℕ) (up : Option Position) → ask number up ≡ ask' number up) where
  again_same : (c : Client) (n : ℕ) → asks_again ask c n ≡ asks_again ask' c n
  again_same c zero = refl
  again_same c (suc k) = rw same

  move_same : (m : Move) (c : Client) → move ask m c ≡ move ask' m c
  move_same Next c = rw same
  move_same Again c = again_same c c.turns

  moves_same : (ms : List Move) (c : Client) → moves ask ms c ≡ moves ask' ms c
  moves_same [] c = refl
  moves_same (m ∷ ms) c = rw (move_same m c) (moves_same ms (move ask' m c))

module _ (st : State) (local mask : ℕ) (eds : List ℕ) (present : st.setup.eds ≡ Some eds) where
  transfer_message_lem : (number : ℕ) (up : Option Position) → message_outcome st local mask (transfer_message number) up ≡ transfer eds up (number ∷ [])
  unfolding message_outcome of_class file eds_file
  transfer_message_lem number up = rw (file_request 0x4F number, present)

  initiate_message_lem : (wanted : ℕ) (up : Option Position)
      → message_outcome st local mask (initiate_message wanted) up ≡ initiate st.setup.transfer_limit eds up (wanted ∷ [])
  unfolding message_outcome of_class file eds_file
  initiate_message_lem wanted up = rw (file_request 0x4B wanted, present)

  by_step : (number : ℕ) (up : Option Position) → by_message st local mask number up ≡ step eds number up
  unfolding message_reply
  by_step number up = rw (behind_head, transfer_message_lem number up)

  module _ (wanted : ℕ) (earlier : Option Position) (ms : List Move) where
    -- a session: Initiate_Upload, whatever position an earlier upload left, then transfers as the client moves
    abbrev pub session : Client
    session = moves (by_message st local mask) ms (client (message_outcome st local mask (initiate_message wanted) earlier).1 0 [] [])

    as_steps : session ≡ moves (step eds) ms (begins (clamped st.setup.transfer_limit wanted))
    unfolding initiate
    as_steps = rw (initiate_message_lem wanted earlier) (moves_same (by_message st local mask) (step eds) by_step ms _)

    -- initiate's reply says the EDS's length and the size of a transfer
    pub session_begins : message_reply st local mask (initiate_message wanted) earlier
        ≡ reply_head 0x4B 0 ++ initiate_reply eds (clamped st.setup.transfer_limit wanted)
    unfolding message_reply reply_to initiate
    session_begins = rw (file_request 0x4B wanted, initiate_message_lem wanted earlier)

    -- whenever the client sees the end, it has the EDS and its checksum
    pub session_whole : ended session ≡ true → got session ≡ eds ++ le_bytes 2 (checksum eds)
    session_whole e =
        ap got as_steps ∙ uploaded_whole eds st.setup.transfer_limit wanted ms (sym (ap ended as_steps) ∙ e)

    -- and it sees the end once it has asked for as many transfers as the EDS's length needs, and for one at least
    pub session_ends : 1 ≤ nexts ms → length eds ≤ nexts ms * clamped st.setup.transfer_limit wanted → ended session ≡ true
    session_ends h g = ap ended as_steps ∙ uploaded_ends eds st.setup.transfer_limit wanted ms h g
