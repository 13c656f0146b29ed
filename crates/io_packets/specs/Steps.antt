-- Packets out step by step, as code makes them.
use Rattle.std.specs.Prelude.{ℕ, ◌+◌, ◌%◌, ◌^◌, List, ◌++◌, ◌≡◌, length, take, drop}
use Rattle.base_cells.specs.BigEndian.{bytes_be}
use Rattle.base_cells.specs.Records.{of_bool}
use Rattle.wire_rules.specs.Frames.{io_frame}
use Rattle.rules.specs.State.{State, content_at}
use Rattle.rules.specs.Producing.{next_due}
use Rattle.rules.specs.declared.Fixed.{Fixed}
use Rattle.rules.specs.declared.Sent.{Sent}
use Rattle.state_image.specs.Holds.{Holds}

-- both sequences step by one, and the next due time
unfoldable pub stepped : ℕ → ℕ → Sent → Sent
stepped t rpi x = record { sequence = (x.sequence + 1) % 2 ^ 32; cip = (x.cip + 1) % 2 ^ 16; due = next_due t rpi x.due }

-- address 4, port 2, multicast 1, local 4, frame length 2
unfoldable pub head : ℕ → ℕ → ℕ → ℕ → ℕ → List ℕ
head address port multicast local n = bytes_be 4 address ++ bytes_be 2 port ++ bytes_be 1 multicast ++ bytes_be 4 local ++ bytes_be 2 n

abbrev pub frame_bytes : Fixed → Sent → List ℕ → List ℕ
frame_bytes f x d = io_frame f.toid.0 x.sequence x.cip d

unfoldable pub packet_of : Fixed → Sent → List ℕ → List ℕ
packet_of f x d = head f.dest.address f.dest.port (of_bool f.multicast) f.local (length (frame_bytes f x d)) ++ frame_bytes f x d

-- an assembly's bytes, where they are in a held state
abbrev pub Data : ℕ → List ℕ → ℕ → ℕ → Type 0
Data i s a k = (st : State) (l : List ℕ) → Holds s st l → take k (drop a s) ≡ (content_at st i).bytes
