-- What every state that the calls reach has: its setup, no triad twice, inputs that are inputs and outputs that are outputs.
use Rattle.std.specs.Prelude.{◌≡◌, refl, List, map, Bool, true, false, ℕ, Some, Ok}
use Rattle.std.proofs.Common.{sym, ◌∙◌}
use Rattle.std.proofs.Math.Path.{subst}
use Rattle.rules.specs.Lists.{find, any, change_first, without_first}
use Rattle.rules_laws.specs.ListLaws
use Rattle.rules_laws.specs.ListLaws.{All}
use Rattle.rules.specs.State.{Setup, shape_at, State, triad_is, fixeds, is_input, is_output, is_owner}
use Rattle.rules.specs.Setup.{fresh}
use Rattle.rules.specs.Checks.{has_triad, plan_of}
use Rattle.rules_laws.specs.CheckLaws
use Rattle.rules.specs.Opening.{new_conn, new_fixed, opened, asked_path, verdict_of, config_bytes}
use Rattle.rules.specs.Removal.{conn_triad, removed}
use Rattle.rules.specs.Receiving.{Frame, meant_for, hear, received}
use Rattle.rules.specs.Producing.{sends, produce_effect}
use Rattle.rules.specs.Host.{next_event_effect}
use Rattle.rules.specs.Calls.{Call, next, run}
use Rattle.rules_steps.specs.Names.{ForwardOpen, Origin, Fixed, Conn, Info, Event, Plan}
use Rattle.rules_steps.specs.Steps.{Kept}
use Rattle.rules_steps.proofs.Steps.{kept, run_kept}
use Rattle.rules_isolation.specs.Ends.{all_removal}
use Rattle.rules_isolation.specs.Apart.{apart_without, apart_change, apart_map, apart_removal, apart_append}
use Rattle.rules_isolation.specs.Survive.{Distinct, triad_of, triad_is_sym}
use Rattle.rules_isolation.specs.Seen.{Feeding, hear_fixed, send_fixed}

-- the output of an owner is an output assembly
abbrev pub Owning : Setup → Conn → Type 0
Owning u c = is_owner c.fixed.kind ≡ true → is_output (shape_at u c.fixed.output).kind ≡ true

pub record Sound (u : Setup) (s : State) : Type 0 where
  pub setup : s.setup ≡ u
  pub distinct : Distinct s.table
  pub inputs : All (Feeding u) s.table
  pub outputs : All (Owning u) s.table

module _ (u : Conn → Conn) (same : (c : Conn) → (u c).fixed ≡ c.fixed) where
  -- what is asked of the fixed part stays
  pub fixed_map : (P : Fixed → Type 0) (l : List Conn) → All (λ c. P c.fixed) l → All (λ c. P c.fixed) (map u l)
  fixed_map P l a = ListLaws.all_mapped u (λ c. P c.fixed) (λ c. P c.fixed) (λ c h. subst P (sym (same c)) h) l a

  pub fixed_change : (P : Fixed → Type 0) (p : Conn → Bool) (l : List Conn) → All (λ c. P c.fixed) l → All (λ c. P c.fixed) (change_first p u l)
  fixed_change P p l a = ListLaws.all_change (λ c. P c.fixed) p u (λ c h. subst P (sym (same c)) h) l a

abbrev Feeds : Setup → Fixed → Type 0
Feeds u f = is_input (shape_at u f.input).kind ≡ true

abbrev Owns : Setup → Fixed → Type 0
Owns u f = is_owner f.kind ≡ true → is_output (shape_at u f.output).kind ≡ true

-- an accepted open: its triad is free, its input an input and its output an output
pub record Accepted (s : State) (q : ForwardOpen) (p : Plan) : Type 0 where
  pub free : any (conn_triad q.triad) s.table ≡ false
  pub input : is_input (shape_at s.setup p.input).kind ≡ true
  pub output : is_owner p.kind ≡ true → is_output (shape_at s.setup p.output).kind ≡ true

pub accepted : (request : List ℕ) (q : ForwardOpen) (s : State) (p : Plan) → verdict_of request q s ≡ Ok p → Accepted s q p
unfolding verdict_of plan_of
accepted request q s p e =
    let x = CheckLaws.passed s.setup (fixeds s.table) q (asked_path request q) p e in
    let f = CheckLaws.triad_free s.setup (fixeds s.table) q (asked_path request q) x.0 in
    subst (Accepted s q) x.1
    (record {
      free = sym (ListLaws.any_map (λ c. c.fixed) (has_triad q.triad) (conn_triad q.triad) (λ c. refl) s.table) ∙ f;
      input = CheckLaws.input_is s.setup (fixeds s.table) q (asked_path request q) x.0;
      output = CheckLaws.output_is s.setup (fixeds s.table) q (asked_path request q) x.0;
    })

abbrev same_triad : Fixed → Fixed → Bool
same_triad a b = has_triad a.triad b

-- a triad that none has: none has it either when asked the other way round
free_of : (q : ForwardOpen) (l : List Conn) → any (conn_triad q.triad) l ≡ false → any (λ x. triad_is (triad_of x) q.triad) l ≡ false
free_of q l e =
    ListLaws.none_is (λ x. triad_is (triad_of x) q.triad) l
    (ListLaws.all_to (λ x. conn_triad q.triad x ≡ false) (λ x. triad_is (triad_of x) q.triad ≡ false) (λ x n. triad_is_sym q.triad (triad_of x) n) l
    (ListLaws.none_passes (conn_triad q.triad) l e))

module _ (u : Setup) where
  opened_sound : (now : ℕ) (q : ForwardOpen) (g : Origin) (bytes : List ℕ) (p : Plan) (s : State) → Accepted s q p → Sound u s → Sound u (opened now q g bytes p s)
  unfolding opened new_conn new_fixed
  opened_sound now q g bytes p s a h =
      record {
        setup = h.setup;
        distinct = apart_append same_triad (new_conn now q g p s.next_id) s.table (free_of q s.table a.free) h.distinct;
        inputs = ListLaws.all_append (Feeding u) s.table (new_conn now q g p s.next_id) h.inputs (subst (λ v. is_input (shape_at v p.input).kind ≡ true) h.setup a.input);
        outputs = ListLaws.all_append (Owning u) s.table (new_conn now q g p s.next_id) h.outputs
            (λ y. subst (λ v. is_output (shape_at v p.output).kind ≡ true) h.setup (a.output y));
      }

  removing : (fault : Bool) (why : Info → Event) (p : Conn → Bool) (c : Conn) (s : State) → find p s.table ≡ Some c → Sound u s →
      Sound u (removed fault why c (without_first p s.table) s)
  unfolding removed
  removing fault why p c s e h =
      record {
        setup = h.setup;
        distinct = apart_removal same_triad c (without_first p s.table) (apart_without same_triad p s.table h.distinct);
        inputs = all_removal (Feeding u) (λ x k y. y) c (without_first p s.table) (ListLaws.all_without (Feeding u) p s.table h.inputs);
        outputs = all_removal (Owning u) (λ x k y. y) c (without_first p s.table) (ListLaws.all_without (Owning u) p s.table h.outputs);
      }

  hearing : (t from : ℕ) (f : Frame) (s : State) → Sound u s → Sound u (received t from f s)
  unfolding received
  hearing t from f s h =
      record {
        setup = h.setup;
        distinct = apart_change same_triad (hear t f) (hear_fixed t f) (meant_for from f) s.table h.distinct;
        inputs = fixed_change (hear t f) (hear_fixed t f) (Feeds u) (meant_for from f) s.table h.inputs;
        outputs = fixed_change (hear t f) (hear_fixed t f) (Owns u) (meant_for from f) s.table h.outputs;
      }

  producing : (t : ℕ) (s : State) → Sound u s → Sound u (produce_effect t s)
  unfolding produce_effect
  producing t s h =
      record {
        setup = h.setup;
        distinct = apart_map same_triad (sends t) (send_fixed t) s.table h.distinct;
        inputs = fixed_map (sends t) (send_fixed t) (Feeds u) s.table h.inputs;
        outputs = fixed_map (sends t) (send_fixed t) (Owns u) s.table h.outputs;
      }

  noting : (s : State) → Sound u s → Sound u (next_event_effect s)
  unfolding next_event_effect
  noting s h = record { setup = h.setup; distinct = h.distinct; inputs = h.inputs; outputs = h.outputs }

  -- EVERY CALL KEEPS IT
  pub sound_kept : Kept (Sound u)
  sound_kept =
      record {
        quiet =
            record {
              producing = producing;
              setting = λ n i bytes s e h. record { setup = h.setup; distinct = h.distinct; inputs = h.inputs; outputs = h.outputs };
              reading = λ n i s e h. record { setup = h.setup; distinct = h.distinct; inputs = h.inputs; outputs = h.outputs };
              noting = noting;
            };
        removing = removing;
        opening = λ t request q g p s e h. opened_sound t q g (config_bytes request q) p s (accepted request q s p e) h;
        hearing = hearing;
      }

  pub sound : (c : Call) (s : State) → Sound u s → Sound u (next c s)
  sound = kept (Sound u) sound_kept

  pub fresh_sound : (seed : ℕ) → Sound u (fresh u seed)
  unfolding fresh
  fresh_sound seed = record { setup = refl; distinct = tt; inputs = tt; outputs = tt }

  pub run_sound : (cs : List Call) (s : State) → Sound u s → Sound u (run cs s)
  run_sound = run_kept (Sound u) sound_kept
