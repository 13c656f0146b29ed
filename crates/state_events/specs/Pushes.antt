-- An event more in the list of a held state.
use Rattle.std.specs.Prelude.{ℕ, List, [], ◌≡◌, replicate}
use Rattle.std.proofs.Common.{ap, sym, ◌∙◌}
use Rattle.std.proofs.lemmas.List.Edits.{sets}
use Rattle.base_tables.specs.Slots.{sets_whole}
use Rattle.rules.specs.State.{Setup, State, with_events}
use Rattle.rules.specs.Events.{info_of, info_record, event_record, pushed}
use Rattle.rules.specs.declared.Event.{Event}
use Rattle.rules.specs.declared.Fixed.{Fixed}
use Rattle.state_rules.specs.Places.{setup_in}
use Rattle.state_rules.specs.Setups.{setup_from}
use Rattle.state_rules.specs.Image.{store}
use Rattle.state_image.specs.Fits.{Suits}
use Rattle.state_image.specs.Holds.{Becomes, setup_held}
use Rattle.state_image.specs.Changes.{event_pushed, suits_pushed}
use Rattle.state_records.specs.Fields.{length_info}
use Rattle.state_records.specs.Shapes.{info_in}
use Rattle.state_events.specs.Records.{length_event, assembly_record}

abbrev pub event_told : Event → State → State
event_told e st = with_events (pushed e st.events) st

-- a state with an event more can be stored where the state could
pub suits_told : (st : State) (l : List ℕ) (e : Event) → Suits st l → Suits (event_told e st) l
unfolding pushed
suits_told st l e w = suits_pushed st l w (event_record e) (length_event e)

-- ---- of a connection

abbrev pub told : ℕ → Fixed → State → State
told what f st = event_pushed (info_record what (info_of st.setup f)) st

-- the record of what the setup's region says, put over zeros
pub tells : (s s' e : List ℕ) (what : ℕ) (f : Fixed) → e ≡ sets (replicate 32 0) 0 (info_record what (info_of (setup_from (setup_in s) []) f))
    → Becomes s s' (event_pushed e) → Becomes s s' (told what f)
tells s s' e what f q b st l h =
    b st l h
    ∙ ap (λ (z : List ℕ). store (event_pushed z st) l)
    (q ∙ sets_whole (replicate 32 0) (info_record what (info_of (setup_from (setup_in s) []) f)) (sym (length_info what (info_of (setup_from (setup_in s) []) f)))
    ∙ ap (info_record what) (info_in s f ∙ ap (λ (u : Setup). info_of u f) (setup_held s st l h)))

-- ---- of an assembly

abbrev pub assembly_told : ℕ → ℕ → ℕ → State → State
assembly_told what instance n st = event_pushed (assembly_record what instance n) st

pub tells_assembly : (s s' e : List ℕ) (what instance n : ℕ) → e ≡ assembly_record what instance n → Becomes s s' (event_pushed e) → Becomes s s' (assembly_told what instance n)
tells_assembly s s' e what instance n q b st l h = b st l h ∙ ap (λ (z : List ℕ). store (event_pushed z st) l) q

-- it is the rules' event that has this record
pub told_as : (s s' : List ℕ) (what instance n : ℕ) (e : Event) → assembly_record what instance n ≡ event_record e
    → Becomes s s' (assembly_told what instance n) → Becomes s s' (event_told e)
unfolding pushed
told_as s s' what instance n e q b st l h = b st l h ∙ ap (λ (z : List ℕ). store (event_pushed z st) l) q
