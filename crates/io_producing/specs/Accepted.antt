-- The state test accepts what produce leaves.
use Rattle.std.specs.Prelude.{ℕ, true, List, map, ◌≡◌}
use Rattle.std.proofs.Common.{arith}
use Rattle.std.proofs.lemmas.List.{length-map}
use Rattle.rules_laws.specs.ListLaws.{either_way}
use Rattle.rules.specs.State.{State}
use Rattle.rules.specs.Answers.{is_yes}
use Rattle.rules.specs.Producing.{sends, delays, counters, produce_answer, produce_effect, produce_call}
use Rattle.state_rules.specs.Image.{view, store, tested}
use Rattle.state_image.specs.RowsFit.{fits_map}
use Rattle.state_image.specs.Fits.{Suits}
use Rattle.state_image.specs.ViewLaws.{suits_view}
use Rattle.state_image.specs.Passes.{tested_store}
use Rattle.state_image.specs.Kept.{suits_table, suits_counters}
use Rattle.io_producing.specs.Passes.{sent_all}
use Rattle.io_producing.specs.SendLaws.{send_fixed}

suits_produced : (t : ℕ) (st : State) (l : List ℕ) → Suits st l → Suits (produce_effect t st) l
unfolding produce_effect
suits_produced t st l w =
    let n = length-map st.table (sends t) in
    let m = w.fits.table in
    suits_counters (sent_all t st) l (suits_table st l w (map (sends t) st.table) (omega arith) (fits_map (sends t) (send_fixed t) st.table w.fits.rows)) (counters st.setup (delays t st.table) st.counters)

pub produce_suits : (l : List ℕ) → tested l ≡ true → (t room : ℕ) → Suits (produce_call t room (view l)).1 l
unfolding produce_call
produce_suits l ok t room =
    either_way (λ (z : State). Suits z l) (is_yes (produce_answer t room (view l))) {x = produce_effect t (view l)} {y = view l} (suits_produced t (view l) l (suits_view l ok)) (suits_view l ok)

pub produce_accepted : (l : List ℕ) → tested l ≡ true → (t room : ℕ) → tested (store (produce_call t room (view l)).1 l) ≡ true
produce_accepted l ok t room = tested_store (produce_call t room (view l)).1 l (produce_suits l ok t room)
