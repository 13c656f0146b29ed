-- Small states for the computed examples, built without an open: the line of Examples (output 150 of 2 bytes, input 101 of 1,
-- configuration 5 of 2) with the connections that an example is about, and what is looked at of a state.
use Rattle.std.specs.Prelude.{Option, Some, None}
use mathlib.Core.List.{List, [], ◌∷◌, map}
use mathlib.Core.Bool.{Bool, true, false}
use Prim.Native.Nat.{ℕ}
use lib.ListN.{get_or}
use Rattle.rules.specs.State.{Kind, Owner, ListenOnly, Fixed, Heard, Sent, Conn, Content, content_at, Counters, State}
use Rattle.rules.specs.Setup.{blank}
use Rattle.rules.proofs.Examples.{setup}

-- the output's place, kind, O→T id, originator's address; O→T RPI 10,000 and multiplier 1, so a timeout of 80,000; T→O id 6, RPI 2,000
abbrev pub party_at : ℕ → Kind → ℕ → ℕ → Fixed
party_at output kind otid address =
    record {
      kind = kind;
      triad = record { serial = otid; vendor = 1; originator = 1 };
      originator = address;
      otid = record { 0 = otid };
      toid = record { 0 = 6 };
      otrpi = 10000;
      multiplier = 1;
      torpi = 2000;
      input = 1;
      output = output;
      dest = record { address = 0xEFC00120; port = 0x08AE };
      multicast = true;
      local = 0x0A010203;
    }

abbrev pub party : Kind → ℕ → ℕ → Fixed
party = party_at 0

-- the same, point-to-point
abbrev pub alone : Kind → ℕ → ℕ → Fixed
alone kind otid address =
    record {
      kind = kind;
      triad = record { serial = otid; vendor = 1; originator = 1 };
      originator = address;
      otid = record { 0 = otid };
      toid = record { 0 = 0x01020304 };
      otrpi = 10000;
      multiplier = 1;
      torpi = 3000;
      input = 1;
      output = 0;
      dest = record { address = 0x0A010208; port = 0x1234 };
      multicast = false;
      local = 0x0A010203;
    }

abbrev pub heard : ℕ → Bool → ℕ → Bool → ℕ → Heard
heard until any sequence anycip cip = record { until = until; any = any; sequence = sequence; anycip = anycip; cip = cip }

-- nothing heard since an open that leaves time until then
abbrev pub unheard : ℕ → Heard
unheard until = heard until false 0 false 0

abbrev pub sending : ℕ → ℕ → Option ℕ → Sent
sending sequence cip due = record { sequence = sequence; cip = cip; due = due }

abbrev pub conn : Fixed → Heard → Sent → Conn
conn f h s = record { fixed = f; heard = h; sent = s }

abbrev pub holding : List ℕ → Bool → Bool → Content
holding bytes run notified = record { bytes = bytes; run = run; notified = notified }

abbrev pub counting : ℕ → ℕ → ℕ → Counters
counting produced late max_late = record { produced = produced; late = late; max_late = max_late }

-- connections on the line, nothing told yet
abbrev pub line : List Conn → State
line table =
    record {
      setup = setup;
      contents = map blank setup.assemblies;
      table = table;
      events = record { gone = 0; waiting = [] };
      fault = false;
      next_id = 20;
      counters = counting 0 0 0;
    }

-- an owner (O→T id 5), which produces, and a listener (O→T id 7) of one address, both opened at 0
abbrev pub two : State
two = line (conn (party Owner 5 8) (unheard 80000) (sending 0 0 (Some 0)) ∷ conn (party ListenOnly 7 8) (unheard 80000) (sending 0 0 None) ∷ [])

-- what is looked at: output 150; what each connection heard, until when it lives, what it sends; what each waiting event tells
abbrev pub output : State → Content
output st = content_at st 0

abbrev pub heards : State → List Heard
heards st = map (λ c. c.heard) st.table

abbrev pub untils : State → List ℕ
untils st = map (λ c. c.heard.until) st.table

abbrev pub sents : State → List Sent
sents st = map (λ c. c.sent) st.table

abbrev pub told : State → List ℕ
told st = map (λ e. get_or e 0 0) st.events.waiting
