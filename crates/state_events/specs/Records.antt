-- An event's record: its length, and the record of an assembly as code writes it.
use Rattle.std.specs.Prelude.{ℕ, List, ◌∷◌, ◌++◌, ◌≡◌, refl, length, replicate}
use Rattle.base_cells.specs.Numbers.{le_bytes, put}
use Rattle.rules.specs.Events.{info_record, event_record}
use Rattle.rules.specs.declared.Event.{Event}
use Rattle.rules.specs.declared.Event.TheVariants.{Opened, Closed, TimedOut, Configured, OutputChanged}

pub length_event : (e : Event) → length (event_record e) ≡ 32
unfolding le_bytes info_record event_record
length_event (Opened i) = refl
length_event (Closed i) = refl
length_event (TimedOut i) = refl
length_event (Configured instance n) = refl
length_event (OutputChanged instance) = refl

-- what it tells, three spare bytes, instance, length, 24 spare bytes
unfoldable pub assembly_record : ℕ → ℕ → ℕ → List ℕ
assembly_record what instance n = what ∷ 0 ∷ 0 ∷ 0 ∷ le_bytes 2 instance ++ le_bytes 2 n ++ replicate 24 0

pub configured_is : (instance n : ℕ) → assembly_record 4 instance n ≡ event_record (Configured instance n)
unfolding assembly_record event_record
configured_is instance n = refl

pub output_is : (instance : ℕ) → assembly_record 5 instance 0 ≡ event_record (OutputChanged instance)
unfolding assembly_record event_record le_bytes
output_is instance = refl

-- three numbers put over zeros
pub assembly_put : (what instance n : ℕ) → put 2 (put 2 (put 1 (replicate 32 0) 0 what) 4 instance) 6 n ≡ assembly_record what instance n
unfolding put le_bytes assembly_record
assembly_put what instance n = refl
