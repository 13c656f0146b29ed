-- What the adapter remembers: the setup, what each assembly holds, the connections, the events that were not read, the
-- fault mark, the next id and the counters.
use Rattle.std.specs.Prelude.{List, [], map, Bool, true, false, ◌&&◌, ℕ, eqb, get_or, Option, Some, None}
pub use Rattle.base_ids.specs.declared.OtId.{OtId}
pub use Rattle.base_ids.specs.declared.ToId.{ToId}
pub use Rattle.base_ids.specs.declared.Triad.{Triad}
pub use Rattle.rules.specs.declared.AssemblyKind.{AssemblyKind}
pub use Rattle.rules.specs.declared.AssemblyKind.TheVariants.{Input, Output, Config}
pub use Rattle.rules.specs.declared.Kind.{Kind}
pub use Rattle.rules.specs.declared.Kind.TheVariants.{Owner, InputOnly, ListenOnly}
pub use Rattle.rules.specs.declared.Socket.{Socket}
pub use Rattle.rules.specs.declared.Fixed.{Fixed}
pub use Rattle.rules.specs.declared.Heard.{Heard}
pub use Rattle.rules.specs.declared.Sent.{Sent}
pub use Rattle.rules.specs.declared.Conn.{Conn}
pub use Rattle.rules.specs.declared.Info.{Info}
pub use Rattle.rules.specs.declared.Event.{Event}
pub use Rattle.rules.specs.declared.Event.TheVariants.{Opened, Closed, TimedOut, Configured, OutputChanged}
pub use Rattle.rules.specs.declared.Origin.{Origin}
pub use Rattle.rules.specs.declared.Stop.{Stop}
pub use Rattle.rules.specs.declared.Stream.{Stream}
pub use Rattle.rules.specs.declared.Plan.{Plan}

-- what is known of us: vendor, device type, product code, revision, serial number and product name
pub record Identity : Type 0 where
  pub vendor : ℕ
  pub device : ℕ
  pub product : ℕ
  pub major : ℕ
  pub minor : ℕ
  pub serial : ℕ
  pub name : List ℕ

-- what never changes of an assembly
pub record Shape : Type 0 where
  pub instance : ℕ
  pub kind : AssemblyKind
  pub size : ℕ

-- what the host sets up, once; the EDS is absent or present, perhaps empty
pub record Setup : Type 0 where
  pub identity : Identity
  pub input_only : ℕ
  pub listen_only : ℕ
  pub rpi_min : ℕ
  pub rpi_max : ℕ
  pub late_limit : ℕ
  pub transfer_limit : ℕ
  pub mac : List ℕ
  pub eds : Option (List ℕ)
  pub eds_name : List ℕ
  pub assemblies : List Shape

-- what an assembly holds, in the order of the setup's list: its bytes; of an output the run bit, and that an event
-- waits for the host to read it
pub record Content : Type 0 where
  pub bytes : List ℕ
  pub run : Bool
  pub notified : Bool

-- the events that were not read, the oldest first, each as the record that the host reads; and how many have left the
-- list, read or dropped, modulo 1,024
pub record Events : Type 0 where
  pub gone : ℕ
  pub waiting : List (List ℕ)

-- packets produced, those of them that were late, and the greatest lateness in microseconds
pub record Counters : Type 0 where
  pub produced : ℕ
  pub late : ℕ
  pub max_late : ℕ

pub record State : Type 0 where
  pub setup : Setup
  pub contents : List Content
  pub table : List Conn
  pub events : Events
  pub fault : Bool
  pub next_id : ℕ
  pub counters : Counters

-- what is at a place past the list
abbrev pub no_shape : Shape
no_shape = record { instance = 0; kind = Input; size = 0 }

abbrev pub no_content : Content
no_content = record { bytes = []; run = false; notified = false }

abbrev pub shape_at : Setup → ℕ → Shape
shape_at u i = get_or u.assemblies i no_shape

abbrev pub content_at : State → ℕ → Content
content_at st i = get_or st.contents i no_content

-- the state with one part changed
abbrev pub with_contents : List Content → State → State
with_contents xs st = record { setup = st.setup; contents = xs; table = st.table; events = st.events; fault = st.fault; next_id = st.next_id; counters = st.counters }

abbrev pub with_table : List Conn → State → State
with_table cs st = record { setup = st.setup; contents = st.contents; table = cs; events = st.events; fault = st.fault; next_id = st.next_id; counters = st.counters }

abbrev pub with_events : Events → State → State
with_events es st = record { setup = st.setup; contents = st.contents; table = st.table; events = es; fault = st.fault; next_id = st.next_id; counters = st.counters }

abbrev pub with_fault : Bool → State → State
with_fault b st = record { setup = st.setup; contents = st.contents; table = st.table; events = st.events; fault = b; next_id = st.next_id; counters = st.counters }

abbrev pub with_next_id : ℕ → State → State
with_next_id n st = record { setup = st.setup; contents = st.contents; table = st.table; events = st.events; fault = st.fault; next_id = n; counters = st.counters }

abbrev pub with_counters : Counters → State → State
with_counters n st = record { setup = st.setup; contents = st.contents; table = st.table; events = st.events; fault = st.fault; next_id = st.next_id; counters = n }

-- a connection with one part changed
abbrev pub with_heard : Heard → Conn → Conn
with_heard h c = record { fixed = c.fixed; heard = h; sent = c.sent }

abbrev pub with_sent : Sent → Conn → Conn
with_sent s c = record { fixed = c.fixed; heard = c.heard; sent = s }

-- kinds
abbrev pub is_input : AssemblyKind → Bool
is_input Input = true
is_input Output = false
is_input Config = false

abbrev pub is_output : AssemblyKind → Bool
is_output Input = false
is_output Output = true
is_output Config = false

abbrev pub is_config : AssemblyKind → Bool
is_config Input = false
is_config Output = false
is_config Config = true

abbrev pub is_owner : Kind → Bool
is_owner Owner = true
is_owner InputOnly = false
is_owner ListenOnly = false

abbrev pub is_listener : Kind → Bool
is_listener Owner = false
is_listener InputOnly = false
is_listener ListenOnly = true

abbrev pub triad_is : Triad → Triad → Bool
triad_is a b = eqb a.serial b.serial && eqb a.vendor b.vendor && eqb a.originator b.originator

-- a connection that produces
abbrev pub produces : Option ℕ → Bool
produces None = false
produces (Some t) = true

-- the fixed parts of the table
abbrev pub fixeds : List Conn → List Fixed
fixeds table = map (λ c. c.fixed) table
