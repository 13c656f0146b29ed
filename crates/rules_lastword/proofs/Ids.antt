-- Every step keeps the ground on which a history stands: an open draws one id or two, behind all of the table, and nothing else draws any.
use Rattle.std.specs.Prelude.{◌≡◌, refl, List, false, ℕ, suc, ◌+◌, ◌*◌, ◌-◌, ◌%◌, ◌^◌, ◌≤◌, ◌<◌, eqb, leb, Ok, Some, None, Option}
use Rattle.std.proofs.Common.{arith}
use borrow.Author.Tests.{leb-true, leb-false, le-leb, lt-leb, ltb-true}
use Rattle.rules.specs.Lists.{without_first}
use Rattle.rules_laws.specs.ListLaws
use Rattle.rules_laws.specs.ListLaws.{by_cases, either_way, eqb_true}
use Rattle.rules.specs.State.{Setup, State}
use Rattle.rules.specs.Setup.{first_id}
use Rattle.rules.specs.Checks.{asks_multicast}
use Rattle.rules.specs.Opening.{Side, after_id, side_of, new_conn, new_fixed, opened, verdict_of, config_bytes}
use Rattle.rules.specs.declared.Event.TheVariants.{Closed}
use Rattle.rules.specs.Removal.{conn_triad, removed}
use Rattle.rules.specs.Receiving.{Frame, meant_for, hear, received}
use Rattle.rules.specs.Producing.{sends, produce_effect}
use Rattle.rules.specs.Host.{next_event_effect}
use Rattle.rules_isolation.specs.Ends.{all_removal}
use Rattle.rules_isolation.specs.Seen.{hear_fixed, send_fixed}
use Rattle.rules_steps.specs.Names.{ForwardOpen, Origin, Fixed, Plan, Stream}
use Rattle.rules_steps.specs.Steps.{Removing, Follows}
use Rattle.rules_steps.proofs.Steps.{expiry_keeps}
use Rattle.rules_isolation.specs.Sound.{sound_kept, fixed_map, fixed_change}
use Rattle.rules_lastword.specs.Words.{opens, few}
use Rattle.rules_lastword.specs.Ids.{along, Numbered, Ground, fewer_early}

along_next : (first n : ℕ) → first < 2 ^ 32 → along first n + 1 < first + (2 ^ 32 - 1) → along first (after_id n) ≡ along first n + 1
unfolding after_id
along_next first n h k =
    by_cases (eqb n (2 ^ 32 - 1))
    (λ y. let e = eqb_true n (2 ^ 32 - 1) y in
    let a = le-leb first n (omega arith) in
    let b : n + 1 < first + (2 ^ 32 - 1) = rw a at k in
    let z = lt-leb first 1 (omega arith) in
    rw (y, z, a) (omega arith))
    (λ y. by_cases (leb first n)
    (λ a. let c = leb-true first n a in rw (y, a, le-leb first (n + 1) (omega arith)) refl)
    (λ a. let c = leb-false first n a in
    let b : n + (2 ^ 32 - 1) + 1 < first + (2 ^ 32 - 1) = rw a at k in
    rw (y, a, lt-leb first (n + 1) (omega arith)) (omega arith)))

-- an open draws one id or two
one_or_two : (P : ℕ → Type 0) (q : ForwardOpen) (g : Origin) (n : ℕ) → P n → P (after_id n) → (x : Option Stream) → P (side_of q g n x).next
unfolding side_of
one_or_two P q g n a b (Some x) = a
one_or_two P q g n a b None = either_way (λ (y : Side). P y.next) (asks_multicast q) b a

module _ (first : ℕ) (small : first < 2 ^ 32) where
  drawn : (n d : ℕ) (q : ForwardOpen) (g : Origin) (x : Option Stream) → along first n ≤ first + 2 * d → suc d < few →
      (along first (side_of q g (after_id n) x).next ≤ first + 2 * suc d) × (along first n < along first (side_of q g (after_id n) x).next)
  drawn n d q g x h k =
      let a = along_next first n small (omega arith) in
      let b = along_next first (after_id n) small (omega arith) in
      one_or_two (λ m. (along first m ≤ first + 2 * suc d) × (along first n < along first m)) q g (after_id n) (omega arith, omega arith) (omega arith, omega arith) x

  opening : (t : ℕ) (q : ForwardOpen) (g : Origin) (bytes : List ℕ) (p : Plan) (s : State) (d : ℕ) → suc d < few → Numbered first d s →
      Numbered first (suc d) (opened t q g bytes p s)
  unfolding opened new_conn new_fixed
  opening t q g bytes p s d k h =
      let b = drawn s.next_id d q g p.stream h.upto k in
      let m = along first (side_of q g (after_id s.next_id) p.stream).next in
      record {
        upto = b.0;
        ids = ListLaws.all_append (λ c. along first c.fixed.otid.0 < m) s.table (new_conn t q g p s.next_id)
            (ListLaws.all_to (λ c. along first c.fixed.otid.0 < along first s.next_id) (λ c. along first c.fixed.otid.0 < m) (λ c z. let y = b.1 in omega (arith, y, z)) s.table h.ids)
            b.1;
      }

first_small : (seed : ℕ) → seed < 2 ^ 32 → first_id seed < 2 ^ 32
first_small seed h =
    by_cases (eqb (seed % 2) 0)
    (λ y. let e = eqb_true (seed % 2) 0 y in rw y (omega arith))
    (λ n. rw n h)

module _ (u : Setup) (seed : ℕ) (small : seed < 2 ^ 32) where
  ground_removing : (d : ℕ) → Removing (Ground u seed d)
  unfolding removed
  ground_removing d fault why p c s e h =
      record {
        sound = (sound_kept u).removing fault why p c s e h.sound;
        ids = λ y. let n = h.ids y in
            record {
              upto = n.upto;
              ids = all_removal (λ c. along (first_id seed) c.fixed.otid.0 < along (first_id seed) s.next_id) (λ x z k. k) c (without_first p s.table)
                  (ListLaws.all_without (λ c. along (first_id seed) c.fixed.otid.0 < along (first_id seed) s.next_id) p s.table n.ids);
            };
      }

  ground_producing : (d t : ℕ) (s : State) → Ground u seed d s → Ground u seed d (produce_effect t s)
  unfolding produce_effect
  ground_producing d t s h =
      let P : Fixed → Type 0 = λ f. along (first_id seed) f.otid.0 < along (first_id seed) s.next_id in
      record {
        sound = (sound_kept u).quiet.producing t s h.sound;
        ids = λ y. let n = h.ids y in record { upto = n.upto; ids = fixed_map (sends t) (send_fixed t) P s.table n.ids };
      }

  ground_hearing : (d t from : ℕ) (f : Frame) (s : State) → Ground u seed d s → Ground u seed d (received t from f s)
  unfolding received
  ground_hearing d t from f s h =
      let P : Fixed → Type 0 = λ f. along (first_id seed) f.otid.0 < along (first_id seed) s.next_id in
      record {
        sound = (sound_kept u).hearing t from f s h.sound;
        ids = λ y. let n = h.ids y in record { upto = n.upto; ids = fixed_change (hear t f) (hear_fixed t f) P (meant_for from f) s.table n.ids };
      }

  ground_noting : (d : ℕ) (s : State) → Ground u seed d s → Ground u seed d (next_event_effect s)
  unfolding next_event_effect
  ground_noting d s h =
      record { sound = (sound_kept u).quiet.noting s h.sound; ids = λ y. let n = h.ids y in record { upto = n.upto; ids = n.ids } }

  ground_opening : (t : ℕ) (request : List ℕ) (q : ForwardOpen) (g : Origin) (p : Plan) (s : State) (d : ℕ) → verdict_of request q s ≡ Ok p → Ground u seed d s →
      Ground u seed (suc d) (opened t q g (config_bytes request q) p s)
  ground_opening t request q g p s d e h =
      record {
        sound = (sound_kept u).opening t request q g p s e h.sound;
        ids = λ y. opening (first_id seed) (first_small seed small) t q g (config_bytes request q) p s d (ltb-true (suc d) few y) (h.ids (fewer_early d y));
      }

  pub ground_follows : Follows opens (Ground u seed)
  ground_follows =
      record {
        quiet = λ d.
            record {
              producing = ground_producing d;
              setting = λ n i bytes s e h. record { sound = (sound_kept u).quiet.setting n i bytes s e h.sound; ids = λ y. let k = h.ids y in record { upto = k.upto; ids = k.ids } };
              reading = λ n i s e h. record { sound = (sound_kept u).quiet.reading n i s e h.sound; ids = λ y. let k = h.ids y in record { upto = k.upto; ids = k.ids } };
              noting = ground_noting d;
            };
        opening = ground_opening;
        closing = λ k c s d e h. ground_removing d false Closed (conn_triad k) c s e h;
        expiring = λ t s d h. expiry_keeps (Ground u seed d) (ground_removing d) t s h;
        hearing = λ t from f s d h. ground_hearing d t from f s h;
      }
