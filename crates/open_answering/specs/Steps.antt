-- The steps of an accepted open over a held state: what each makes of it, as contracts say it.
use Rattle.std.specs.Prelude.{ℕ, ◌≤◌, ◌<◌, false, List, ◌≡◌, length, Option, Some, None, Ok}
use Rattle.wire_rules.specs.declared.ForwardOpen.{ForwardOpen}
use Rattle.wire_rules.specs.Replies.{open_reply}
use Rattle.rules.specs.State.{State, content_at, shape_at, with_fault, with_next_id}
use Rattle.rules.specs.Answers.{Answer, settled}
use Rattle.rules.specs.Events.{info_of}
use Rattle.rules.specs.Opening.{plan_answer, plan_effect}
use Rattle.rules.specs.declared.Conn.{Conn}
use Rattle.rules.specs.declared.Event.TheVariants.{Opened, Configured}
use Rattle.rules.specs.declared.Origin.{Origin}
use Rattle.rules.specs.declared.Plan.{Plan}
use Rattle.state_rules.specs.Rows.{RoleFits}
use Rattle.state_rules.specs.Places.{connections_of, assemblies_of}
use Rattle.state_rules.specs.Image.{view}
use Rattle.state_image.specs.Holds.{Holds}
use Rattle.state_image.specs.Changes.{row_added, bytes_as}
use Rattle.state_events.specs.Pushes.{event_told}
use Rattle.open_answering.specs.declared.making.Side.{Side}

-- ---- the connection

abbrev pub placed : Conn → ℕ → State → State
placed c next st = event_told (Opened (info_of st.setup c.fixed)) (row_added c (with_next_id next st))

abbrev pub Places : Conn → ℕ → List ℕ → List ℕ → Type 0
Places c next s s' = (st : State) (l : List ℕ) → Holds s st l → Holds s' (placed c next st) l

-- ---- its configuration data, where it is of the assembly's length

abbrev pub configured : ℕ → List ℕ → State → State
configured i d st = event_told (Configured (shape_at st.setup i).instance (length d)) (bytes_as i d st)

abbrev pub Configures : ℕ → List ℕ → List ℕ → List ℕ → Type 0
Configures i d s s' = (st : State) (l : List ℕ) → Holds s st l → length d ≡ length (content_at st i).bytes → Holds s' (configured i d st) l

abbrev pub stored_as : Option ℕ → List ℕ → State → State
stored_as None d st = st
stored_as (Some i) d st = configured i d st

abbrev pub StoresFit : Option ℕ → List ℕ → State → Type 0
StoresFit x d st = (i : ℕ) → x ≡ Some i → length d ≡ length (content_at st i).bytes

abbrev pub Puts : Option ℕ → List ℕ → List ℕ → List ℕ → Type 0
Puts x d s s' = (st : State) (l : List ℕ) → Holds s st l → StoresFit x d st → Holds s' (stored_as x d st) l

-- what code must know of the buffer to write the data
abbrev pub Room : Option ℕ → List ℕ → List ℕ → Type 0
Room x d s = (i : ℕ) → x ≡ Some i → (i < assemblies_of s) × (length d ≤ 512)

-- ---- the whole

abbrev pub opened_as : Conn → ℕ → Option ℕ → List ℕ → State → State
opened_as c next x d st = with_fault false (stored_as x d (placed c next st))

abbrev pub Opens : Conn → ℕ → Option ℕ → List ℕ → List ℕ → List ℕ → Type 0
Opens c next x d s s' = (st : State) (l : List ℕ) → Holds s st l → StoresFit x d st → Holds s' (opened_as c next x d st) l

-- what a plan that passed the checks says of the state
pub record Fit (p : Plan) (d s : List ℕ) : Type 0 where
  pub conns : connections_of s < 32
  pub input : p.input ≤ 31
  pub role : RoleFits p.kind p.output
  pub room : Room p.stores d s
  pub fits : StoresFit p.stores d (view s)

-- ---- the call of an open with a plan

abbrev pub reply_from : ForwardOpen → ℕ → Side → List ℕ
reply_from o n x = open_reply (record { 0 = n }) x.toid o.triad o.ot.rpi x.torpi

unfoldable pub plan_call : ℕ → ForwardOpen → Origin → List ℕ → Plan → ℕ → State → Answer × State
plan_call t o g d p room st = settled (plan_answer o g st.next_id room (Ok p)) (plan_effect t o g d st (Ok p)) st
