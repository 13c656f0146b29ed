-- The state that an open leaves passes the state test.
use Prim.Native.Nat.{ℕ, ◌<◌}
use Rattle.rules.specs.declared.Stop.{Stop}
use Rattle.std.specs.Prelude.{true, false, ◌≡◌, drop, Option, Some, None, Result, Ok, Err}
use mathlib.Core.List.{List}
use Rattle.std.proofs.Math.Path.{refl}
use Rattle.std.proofs.Common.{subst, arith}
use Rattle.std.proofs.Math.ListN.{length, length-drop}
use Rattle.std.proofs.Math.Seq.{length-take-le}
use Rattle.wire_rules.specs.declared.ForwardOpen.{ForwardOpen}
use Rattle.wire_rules.specs.ConnectionPath.{path_of}
use Rattle.rules_laws.specs.ListLaws.{either_way}
use Rattle.rules.specs.Answers.{is_yes}
use Rattle.rules.specs.Checks.{path_in}
use Rattle.rules.specs.Events.{info_of}
use Rattle.rules.specs.Opening.{after_id, side_at, new_conn, opened, path_bytes, config_bytes, verdict_of, plan_effect, asked_effect, open_asked, open_answer, open_effect, open_call}
use Rattle.rules.specs.State.{State, content_at, shape_at, with_next_id}
use Rattle.rules.specs.declared.Conn.{Conn}
use Rattle.rules.specs.declared.Event.TheVariants.{Opened, Configured}
use Rattle.rules.specs.declared.Origin.{Origin}
use Rattle.rules.specs.declared.Plan.{Plan}
use Rattle.state_rules.specs.Rows.{RoleFits, RowFits}
use Rattle.state_rules.specs.Image.{view, store, tested}
use Rattle.state_image.specs.Fits.{Suits}
use Rattle.state_image.specs.ViewLaws.{suits_view}
use Rattle.state_image.specs.Passes.{tested_store}
use Rattle.state_image.specs.Writes.{with_bytes}
use Rattle.state_image.specs.Kept.{suits_next_id, suits_appended, suits_content, suits_fault}
use Rattle.state_image.specs.Changes.{row_added, bytes_as}
use Rattle.state_events.specs.Pushes.{suits_told}
use Rattle.open_answering.specs.Sides.{after_some, side_some, conn_fits}
use Rattle.open_answering.specs.Steps.{placed, stored_as, StoresFit}
use Rattle.open_answering.specs.StepLaws.{opened_is}
use Rattle.open_answering.specs.Plans.{config_inside, planned_room, planned_row, planned_fits}

module _ (l : List ℕ) where
  suits_placed : (c : Conn) (next : ℕ) (st : State) → Suits st l → RowFits c → length st.table < 32 → 0 < next → Suits (placed c next st) l
  suits_placed c next st w f n p =
      suits_told (row_added c (with_next_id next st)) l (Opened (info_of st.setup c.fixed))
      (suits_appended (with_next_id next st) l (suits_next_id st l w next p) c f n)

  suits_stored : (x : Option ℕ) (d : List ℕ) (st : State) → Suits st l → StoresFit x d st → Suits (stored_as x d st) l
  suits_stored None d st w f = w
  suits_stored (Some i) d st w f =
      suits_told (bytes_as i d st) l (Configured (shape_at st.setup i).instance (length d)) (suits_content st l w i (with_bytes d (content_at st i)) (f i refl))

  suits_opened : (t : ℕ) (o : ForwardOpen) (g : Origin) (d : List ℕ) (p : Plan) (st : State) → Suits st l → RoleFits p.kind p.output → length st.table < 32 → StoresFit p.stores d st
      → Suits (opened t o g d p st) l
  suits_opened t o g d p st w r n f =
      let c : Conn = new_conn t o g p st.next_id in
      let next : ℕ = (side_at o g p st.next_id).next in
      let k : 0 < next = side_some o g (after_id st.next_id) (after_some st.next_id) p.stream in
      let w₁ = suits_placed c next st w (conn_fits t o g p st.next_id c refl r) n k in
      let w₂ = suits_stored p.stores d (placed c next st) w₁ f in
      subst (λ (z : State). Suits z l) (opened_is t o g d p st) (suits_fault (stored_as p.stores d (placed c next st)) l w₂ false)

  module _ (ok : tested l ≡ true) where
    suits_planned : (t : ℕ) (o : ForwardOpen) (g : Origin) (request : List ℕ) (v : Result Plan Stop) → verdict_of request o (view l) ≡ v
        → Suits (plan_effect t o g (config_bytes request o) (view l) v) l
    unfolding verdict_of
    suits_planned t o g request (Err x) e = suits_view l ok
    suits_planned t o g request (Ok p) e =
        let path : List ℕ = path_bytes request o in
        let h = config_inside path (path_of path) refl in
        let k = length-drop (path_in (path_of path)).datastart path in
        let n : length (config_bytes request o) ≡ (path_in (path_of path)).datalen = length-take-le (path_in (path_of path)).datalen (drop (path_in (path_of path)).datastart path) (omega arith) in
        suits_opened t o g (config_bytes request o) p (view l) (suits_view l ok) (planned_row l ok o (path_of path) p e (config_bytes request o) n) (planned_room l ok o (path_of path) p e (config_bytes request o) n) (planned_fits l ok o (path_of path) p e (config_bytes request o) n)

    pub open_suits : (t service : ℕ) (request : List ℕ) (g : Origin) (room : ℕ) → Suits (open_call t service request g room (view l)).1 l
    unfolding open_call open_effect
    open_suits t service request g room =
        either_way (λ (z : State). Suits z l) (is_yes (open_answer t service request g room (view l))) {x = asked_effect t g request (view l) (open_asked service request)} {y = view l}
        (go (open_asked service request)) (suits_view l ok)
      where
        go : (q : Option ForwardOpen) → Suits (asked_effect t g request (view l) q) l
        go None = suits_view l ok
        go (Some o) = suits_planned t o g request (verdict_of request o (view l)) refl

    pub open_accepted : (t service : ℕ) (request : List ℕ) (g : Origin) (room : ℕ) → tested (store (open_call t service request g room (view l)).1 l) ≡ true
    open_accepted t service request g room = tested_store (open_call t service request g room (view l)).1 l (open_suits t service request g room)
