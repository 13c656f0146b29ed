-- A small plant for examples: two outputs, two inputs, two configuration assemblies; a way to write an open, and to look at what came of it.
use Rattle.std.specs.Prelude.{Option}
use mathlib.Core.List.{List, [], ◌∷◌}
use Rattle.std.specs.Prelude.{None}
use mathlib.Core.Bool.{Bool}
use Prim.Native.Nat.{ℕ}
use Rattle.rules.specs.State
use Rattle.rules.specs.State.{Input, Output, Config, Setup, State, Origin, Socket, Conn}
use Rattle.rules.specs.Answers.{Answer, is_yes}
use Rattle.rules.specs.Setup.{fresh}
use Rattle.rules.specs.Opening.{open_call}
use Rattle.rules.specs.Calls.{Call}
use Rattle.rules.proofs.Examples.{ask, from}

-- with the numbers of its two heartbeats, and the least and the greatest RPI
abbrev pub plant_of : ℕ → ℕ → ℕ → ℕ → Setup
plant_of input_only listen_only rpi_min rpi_max =
    record {
      identity = record { vendor = 1; device = 12; product = 3; major = 1; minor = 5; serial = 9; name = [] };
      input_only = input_only;
      listen_only = listen_only;
      rpi_min = rpi_min;
      rpi_max = rpi_max;
      late_limit = 0;
      transfer_limit = 240;
      mac = 0 ∷ 0 ∷ 0 ∷ 0 ∷ 0 ∷ 0 ∷ [];
      eds = None;
      eds_name = [];
      assemblies =
          record { instance = 150; kind = Output; size = 2 } ∷
          record { instance = 101; kind = Input; size = 1 } ∷
          record { instance = 5; kind = Config; size = 2 } ∷
          record { instance = 151; kind = Output; size = 2 } ∷
          record { instance = 102; kind = Input; size = 1 } ∷
          record { instance = 6; kind = Config; size = 4 } ∷
          [];
    }

-- input-only 198, listen-only 199, RPIs of 1 to 100 ms; ids from 5 on
abbrev pub plant : State
plant = fresh (plant_of 198 199 1000 100000) 4

-- class 4, an O→T and a T→O point
abbrev pub path : ℕ → ℕ → List ℕ
path ot to = 0x20 ∷ 4 ∷ 0x2C ∷ ot ∷ 0x2C ∷ to ∷ []

-- the open of an owner of output 150 along another path, and with other RPIs and parameters
abbrev pub along : List ℕ → List ℕ
along p = ask 1 0 0 10000 0x4008 10000 0x2003 p

abbrev pub having : ℕ → ℕ → ℕ → ℕ → List ℕ
having otrpi ot torpi to = ask 1 0 0 otrpi ot torpi to (path 150 101)

-- opens by their serial number, input and T→O RPI: an owner of 150, an input-only one that asks for multicast, one that asks for
-- point-to-point with T→O id 77, and a listen-only one
abbrev pub owner : ℕ → ℕ → ℕ → List ℕ
owner serial input torpi = ask serial 0 0 10000 0x4008 torpi 0x2003 (path 150 input)

abbrev pub reader : ℕ → ℕ → ℕ → List ℕ
reader serial input torpi = ask serial 0 0 10000 0x4000 torpi 0x2003 (path 198 input)

abbrev pub single : ℕ → ℕ → ℕ → List ℕ
single serial input torpi = ask serial 77 0 10000 0x4000 torpi 0x4003 (path 198 input)

abbrev pub listener : ℕ → ℕ → ℕ → List ℕ
listener serial input torpi = ask serial 0 0 10000 0x4000 torpi 0x2003 (path 199 input)

-- what an open is answered, and whether it is accepted
abbrev pub answer : List ℕ → State → Answer
answer request st = (open_call 1000 0x54 request (from 9) 26 st).0

abbrev pub accepted : List ℕ → State → Bool
accepted request st = is_yes (answer request st)

-- a call that opens at 1000, from address 8
abbrev pub opening : List ℕ → Call
opening request = Call.Open 1000 0x54 request (from 8) 26

-- of a connection its ids, where its packets go, their interval, and when the next is due
abbrev pub side : Conn → ℕ × ℕ × Socket × ℕ × Option ℕ
side c = (c.fixed.otid.0, c.fixed.toid.0, c.fixed.dest, c.fixed.torpi, c.sent.due)
