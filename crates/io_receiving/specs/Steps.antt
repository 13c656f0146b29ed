-- A frame taken in step by step, as code does it: at the connection of a place, at the output of a place. Laws.antt shows that the
-- steps come to the rule.
use Rattle.std.specs.Prelude.{ℕ, ◌+◌, ◌≤◌, ◌<◌, Bool, cond, not, ◌&&◌, List, [], ◌∷◌, ◌≡◌, eqb, ltb, length, get_or, set, drop}
use Rattle.base_ids.specs.declared.OtId.{OtId}
use Rattle.rules.specs.Lists.{same}
use Rattle.rules.specs.State.{State, content_at, shape_at, with_contents}
use Rattle.rules.specs.Events.{pushed_all}
use Rattle.rules.specs.Receiving.{Frame, hear, delivered, output_events, deliver, announces, received}
use Rattle.rules.specs.declared.Conn.{Conn}
use Rattle.rules.specs.declared.Event.{Event}
use Rattle.rules.specs.declared.Event.TheVariants.{OutputChanged}
use Rattle.state_rules.specs.Image.{store}
use Rattle.state_image.specs.Updates.{no_conn}
use Rattle.state_image.specs.Holds.{Holds, Becomes}
use Rattle.state_image.specs.Changes.{bytes_as}
pub use Rattle.io_hearing.specs.Decisions.{hears}

-- what a frame does at the connection of place i
unfoldable pub heard_at : ℕ → Frame → ℕ → State → State
heard_at t f i st =
    record {
      setup = st.setup;
      contents = delivered st.setup f (get_or st.table i no_conn) st.contents;
      table = set st.table i (hear t f (get_or st.table i no_conn));
      events = pushed_all (output_events st.setup f (get_or st.table i no_conn) st.contents) st.events;
      fault = st.fault;
      next_id = st.next_id;
      counters = st.counters;
    }

-- what data of the right size does at the output of place o
abbrev pub told : Frame → ℕ → State → List Event
told f o st = cond (announces f (content_at st o)) (OutputChanged (shape_at st.setup o).instance ∷ []) []

unfoldable pub accepted : Frame → ℕ → State → State
accepted f o st =
    record {
      setup = st.setup;
      contents = set st.contents o (deliver f (content_at st o));
      table = st.table;
      events = pushed_all (told f o st) st.events;
      fault = st.fault;
      next_id = st.next_id;
      counters = st.counters;
    }

-- data of any size
unfoldable pub offered : Frame → ℕ → State → State
offered f o st =
    cond (ltb o (length st.setup.assemblies) && eqb (length f.payload) ((shape_at st.setup o).size + 6)) (accepted f o st) st

-- ---- the contracts

pub record Replaced (i : ℕ) (d s' : List ℕ) (r : Bool) (st : State) (l : List ℕ) : Type 0 where
  pub is : s' ≡ store (bytes_as i d st) l
  pub changed : r ≡ not (same (content_at st i).bytes d)

abbrev pub Replaces : ℕ → List ℕ → List ℕ → List ℕ → Bool → Type 0
Replaces i d s s' r = (st : State) (l : List ℕ) → Holds s st l → length d ≡ length (content_at st i).bytes → Replaced i d s' r st l

abbrev pub TakesIn : ℕ → List ℕ → List ℕ → List ℕ → Type 0
TakesIn o d s s' = (f : Frame) → f.payload ≡ d → (st : State) (l : List ℕ) → Holds s st l → length d ≡ length (content_at st o).bytes + 6 → s' ≡ store (accepted f o st) l

abbrev pub Offers : ℕ → List ℕ → List ℕ → List ℕ → Type 0
Offers o d s s' = (f : Frame) → f.payload ≡ d → Becomes s s' (offered f o)

abbrev pub Hears : ℕ → ℕ → ℕ → List ℕ → List ℕ → List ℕ → Type 0
Hears i t q d s s' = (f : Frame) → f.sequence ≡ q → f.payload ≡ d → Becomes s s' (heard_at t f i)

abbrev pub HearsFrom : ℕ → ℕ → OtId → ℕ → List ℕ → List ℕ → List ℕ → Type 0
HearsFrom t from id q d s s' = Becomes s s' (received t from (record { id = id; sequence = q; payload = d }))
