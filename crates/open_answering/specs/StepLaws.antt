-- Each step of an accepted open over a held state, and the steps together.
use Rattle.std.specs.Prelude.{ℕ, ◌+◌, ◌<◌, false, ◌≡◌, refl, length, Option, Some, None}
use mathlib.Core.List.{List, [], ◌∷◌}
use Rattle.std.proofs.Common.{ap, sym, subst, ◌∙◌, arith}
use Rattle.wire_rules.specs.declared.ForwardOpen.{ForwardOpen}
use Rattle.rules.specs.State.{Content, State, no_content, content_at, shape_at, with_fault, with_next_id}
use Rattle.rules.specs.Events.{info_of, pushed, pushed_all, event_record}
use Rattle.rules.specs.Opening.{side_at, new_fixed, new_conn, holding, stored, config_event, opened}
use Rattle.rules.specs.declared.Conn.{Conn}
use Rattle.rules.specs.declared.Event.{Event}
use Rattle.rules.specs.declared.Event.TheVariants.{Opened, Configured}
use Rattle.rules.specs.declared.Origin.{Origin}
use Rattle.rules.specs.declared.Plan.{Plan}
use Rattle.state_rules.specs.Setups.{shape_in}
use Rattle.state_rules.specs.Rows.{RowFits}
use Rattle.state_rules.specs.Places.{connections_of, assemblies_of}
use Rattle.state_rules.specs.Image.{store}
use Rattle.state_image.specs.Fits.{Suits}
use Rattle.state_image.specs.Writes.{with_bytes}
use Rattle.state_image.specs.Holds.{Holds, Becomes, conns_held, shape_held}
use Rattle.state_image.specs.Kept.{Kept, kept_few, suits_next_id, suits_appended, suits_content, suits_fault}
use Rattle.state_image.specs.Changes.{row_added, bytes_as, BytesBecome}
use Rattle.state_searches.specs.Searches.{change_at_place}
use Rattle.state_events.specs.Pushes.{event_told, told, suits_told}
use Rattle.open_answering.specs.Steps.{placed, Places, Configures, stored_as, Puts, Room, opened_as, Opens}

-- ---- the connection

module _ (c : Conn) (next : ℕ) (s s₁ s₂ s₃ : List ℕ) where
  pub place_kept : Kept (connections_of s) s s₁ → Kept (connections_of s₁ + 1) s₁ s₂ → Kept (connections_of s₂) s₂ s₃ → Kept (connections_of s + 1) s s₃
  place_kept a b d =
      record { ready = d.ready; setup = d.setup ∙ b.setup ∙ a.setup; conns = d.conns ∙ b.conns ∙ ap (λ (n : ℕ). n + 1) a.conns }

  pub place_done : connections_of s < 32 → 0 < next → RowFits c → Becomes s s₁ (with_next_id next) → Becomes s₁ s₂ (row_added c) → Becomes s₂ s₃ (told 1 c.fixed) → Places c next s s₃
  unfolding pushed event_record
  place_done p q f a b d st l h =
      let st₁ : State = with_next_id next st in
      let w₁ : Suits st₁ l = suits_next_id st l h.suits next q in
      let h₁ : Holds s₁ st₁ l = record { is = a st l h; suits = w₁ } in
      let n = conns_held s st l h in
      let st₂ : State = row_added c st₁ in
      let w₂ : Suits st₂ l = suits_appended st₁ l w₁ c f (omega arith) in
      let h₂ : Holds s₂ st₂ l = record { is = b st₁ l h₁; suits = w₂ } in
      record { is = d st₂ l h₂; suits = suits_told st₂ l (Opened (info_of st.setup c.fixed)) w₂ }

-- ---- its configuration data

module _ (i : ℕ) (d s s₁ s₂ : List ℕ) where
  pub config_kept : Kept (connections_of s) s s₁ → Kept (connections_of s₁) s₁ s₂ → Kept (connections_of s) s s₂
  config_kept a b = record { ready = b.ready; setup = b.setup ∙ a.setup; conns = b.conns ∙ a.conns }

  pub config_done : i < assemblies_of s₁ → (v m : ℕ) → v ≡ (shape_in s₁ i).instance → m ≡ length d
      → BytesBecome i d s s₁ → Becomes s₁ s₂ (event_told (Configured v m)) → Configures i d s s₂
  config_done p v m ev em a b st l h n =
      let st₁ : State = bytes_as i d st in
      let w₁ : Suits st₁ l = suits_content st l h.suits i (with_bytes d (content_at st i)) n in
      let h₁ : Holds s₁ st₁ l = record { is = a st l h n; suits = w₁ } in
      let e : v ≡ (shape_at st.setup i).instance = ev ∙ ap (λ z. z.instance) (shape_held s₁ st₁ l h₁ i p) in
      record {
        is = b st₁ l h₁ ∙ (λ j. store (event_told (Configured (e j) (em j)) st₁) l);
        suits = suits_told st₁ l (Configured (shape_at st.setup i).instance (length d)) w₁;
      }

module _ (x : Option ℕ) (d s : List ℕ) where
  pub puts_none : x ≡ None → Puts x d s s
  puts_none e st l h f = subst (λ (z : Option ℕ). Holds s (stored_as z d st) l) (sym e) h

  pub puts_into : (i : ℕ) → x ≡ Some i → (s' : List ℕ) → Configures i d s s' → Puts x d s s'
  puts_into i e s' b st l h f = subst (λ (z : Option ℕ). Holds s' (stored_as z d st) l) (sym e) (b st l h (f i e))

  pub room_kept : (n : ℕ) (s' : List ℕ) → Kept n s s' → Room x d s → Room x d s'
  room_kept n s' k r i e = let q = kept_few n s s' k in let z = r i e in (let y = z.0 in omega arith, z.1)

-- ---- the whole

module _ (c : Conn) (next : ℕ) (x : Option ℕ) (d s s₁ s₂ s₃ : List ℕ) where
  pub open_kept : Kept (connections_of s + 1) s s₁ → Kept (connections_of s₁) s₁ s₂ → Kept (connections_of s₂) s₂ s₃ → Kept (connections_of s + 1) s s₃
  open_kept a b e = record { ready = e.ready; setup = e.setup ∙ b.setup ∙ a.setup; conns = e.conns ∙ b.conns ∙ a.conns }

  pub open_done : Places c next s s₁ → Puts x d s₁ s₂ → Becomes s₂ s₃ (with_fault false) → Opens c next x d s s₃
  open_done a b e st l h f =
      let h₁ = a st l h in
      let h₂ = b (placed c next st) l h₁ f in
      record { is = e (stored_as x d (placed c next st)) l h₂; suits = suits_fault (stored_as x d (placed c next st)) l h₂.suits false }

-- the steps together are the rules' open
module _ (t : ℕ) (o : ForwardOpen) (g : Origin) (d : List ℕ) (p : Plan) (st : State) where
  abbrev c : Conn
  c = new_conn t o g p st.next_id

  abbrev next : ℕ
  next = (side_at o g p st.next_id).next

  pub opened_is : opened_as c next p.stores d st ≡ opened t o g d p st
  unfolding opened new_conn pushed_all
  opened_is = go p.stores
    where
      whole : List Content → List Event → State
      whole cs es =
          record {
            setup = st.setup;
            contents = cs;
            table = (row_added c st).table;
            events = pushed_all (Opened (info_of st.setup (new_fixed o g p st.next_id)) ∷ es) st.events;
            fault = false;
            next_id = next;
            counters = st.counters;
          }

      go : (x : Option ℕ) → opened_as c next x d st ≡ whole (stored x d st.contents) (config_event st.setup x d)
      go None = refl
      go (Some i) = ap (λ (z : List Content). whole z (Configured (shape_at st.setup i).instance (length d) ∷ [])) (sym (change_at_place (holding d) no_content st.contents i))
