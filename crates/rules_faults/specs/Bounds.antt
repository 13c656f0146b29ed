-- A refused call leaves the whole state equal; the table never holds more than 32 connections, nor the event list more than 1,024 events.
use Rattle.std.specs.Prelude.{◌≡◌, refl, false, ◌≤◌, length}
use Rattle.rules.specs.State.{State}
use Rattle.rules.specs.Answers.{Answer, is_yes, settled}
use Rattle.rules.specs.Opening.{open_answer, open_effect, open_call}
use Rattle.rules.specs.Removal.{close_answer, close_effect, close_call, expire_answer, expire_effect, expire_call}
use Rattle.rules.specs.Receiving.{receive_answer, receive_effect, receive_call}
use Rattle.rules.specs.Producing.{produce_answer, produce_effect, produce_call}
use Rattle.rules.specs.Host.{set_input_answer, set_input_effect, set_input_call, output_answer, output_effect, output_call, next_event_answer, next_event_effect, next_event_call}
use Rattle.rules.specs.Calls
use Rattle.rules.specs.Calls.{Call, answer, next}

-- A REFUSED CALL LEAVES THE WHOLE STATE EQUAL
no_settles : (s' s : State) (a b : Answer) → a ≡ b → is_yes b ≡ false → (settled a s' s).1 ≡ s
no_settles s' s a b e n = let k : is_yes a ≡ false = cc in rw k refl

pub refused_leaves : (c : Call) (s : State) (a : Answer) → answer c s ≡ a → is_yes a ≡ false → next c s ≡ s
unfolding open_call close_call receive_call produce_call expire_call set_input_call output_call next_event_call
refused_leaves (Calls.Open t service request g room) s a e n = no_settles (open_effect t service request g s) s (open_answer t service request g room s) a e n
refused_leaves (Calls.OpenRefusal service request room) s a e n = refl
refused_leaves (Calls.Close request room) s a e n = no_settles (close_effect request s) s (close_answer request room s) a e n
refused_leaves (Calls.Receive t from frame) s a e n = no_settles (receive_effect t from frame s) s (receive_answer t) a e n
refused_leaves (Calls.Produce t room) s a e n = no_settles (produce_effect t s) s (produce_answer t room s) a e n
refused_leaves (Calls.Expire t) s a e n = no_settles (expire_effect t s) s (expire_answer t s) a e n
refused_leaves (Calls.Deadline room) s a e n = refl
refused_leaves (Calls.SetInput i bytes) s a e n = no_settles (set_input_effect i bytes s) s (set_input_answer i bytes s.setup) a e n
refused_leaves (Calls.ReadOutput i room) s a e n = no_settles (output_effect i s) s (output_answer i room s) a e n
refused_leaves (Calls.ReadAssembly kind i room) s a e n = refl
refused_leaves (Calls.NextEvent room) s a e n = no_settles (next_event_effect s) s (next_event_answer room s) a e n
refused_leaves (Calls.Connections room) s a e n = refl
refused_leaves (Calls.Stats room) s a e n = refl
refused_leaves (Calls.Message local mask message room position) s a e n = refl

-- BOUNDS: of the table and the event list; that every run keeps them is proved in proofs/Bounds
pub record Bounded (s : State) : Type 0 where
  pub connections : length s.table ≤ 32
  pub events : length s.events.waiting ≤ 1024
