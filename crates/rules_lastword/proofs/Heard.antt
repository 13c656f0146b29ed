-- HEARD MEANS HEARD: a connection lives until the time of the last frame in order from it, of its open before any, plus its timeout; told
-- from the calls and their answers alone.
use Rattle.std.specs.Prelude.{◌≡◌, List, [], ◌∷◌, true, false, ℕ, ◌+◌, ◌^◌, ◌<◌, eqb, ltb, Option, Some, None, Ok}
use Rattle.std.proofs.Math.Path.{refl, subst}
use Rattle.std.proofs.Common.{sym, ◌∙◌, ap}
use Rattle.rules.specs.Lists.{any, maybe}
use Rattle.rules_laws.specs.ListLaws
use Rattle.rules_laws.specs.ListLaws.{All}
use Rattle.rules_laws.specs.ExpiryLaws.{silent_too_long, same_test, timeout}
use Rattle.rules.specs.State.{Setup, State}
use Rattle.rules.specs.Setup.{first_id, fresh}
use Rattle.rules.specs.Checks.{has_triad}
use Rattle.rules.specs.Opening.{new_fixed, opened, verdict_of, config_bytes}
use Rattle.rules.specs.Removal.{conn_triad, expired}
use Rattle.rules.specs.Host.{next_event_effect}
use Rattle.rules.specs.Calls.{Call, run}
use Rattle.rules_isolation.specs.Survive.{triad_of, triad_is_true, triad_is_refl}
use Rattle.rules_isolation.specs.Sound.{accepted}
use Rattle.rules_steps.specs.Names.{Triad, ForwardOpen, Origin, Conn, Plan}
use Rattle.rules_steps.specs.Steps.{log, history, both, both_history, Follows, acceptance}
use Rattle.rules_steps.proofs.Steps.{run_follows}
use Rattle.rules_lastword.specs.Words.{Contact, contact_of, opens, early}
use Rattle.rules_lastword.specs.Ids.{Ground, fresh_ground, next_is_new, fewer_early}
use Rattle.rules_lastword.proofs.Ids.{ground_follows}
use Rattle.rules_lastword.specs.Knows.{Known, Knows, knows_closing, knows_opening, knows_producing}
use Rattle.rules_lastword.proofs.Knows.{knows_expiring, knows_hearing}
use Rattle.rules_lastword.specs.Heard.{asks_as, contact, heard_at}

module _ (u : Setup) (seed : ℕ) (small : seed < 2 ^ 32) where
  module _ (k : Triad) where
    abbrev Stands : ℕ × Option Contact → State → Type 0
    Stands w s = Ground u seed w.0 s × (early w.0 ≡ true → Knows (has_triad k) w.1 s)

    opening : (t : ℕ) (request : List ℕ) (q : ForwardOpen) (g : Origin) (p : Plan) (s : State) (w : Option Contact) → verdict_of request q s ≡ Ok p →
        any (λ c. eqb c.fixed.otid.0 s.next_id) s.table ≡ false → Knows (has_triad k) w s →
        Knows (has_triad k) ((contact_of (asks_as k)).on_open t request q g (acceptance q g p s.next_id) w) (opened t q g (config_bytes request q) p s)
    unfolding new_fixed
    opening t request q g p s w e new h =
        knows_opening (has_triad k) (asks_as k) t request q g (config_bytes request q) p s w refl
        (λ y. subst (λ j. any (conn_triad j) s.table ≡ false) (sym (triad_is_true k q.triad y)) (accepted request q s p e).free) new h

    noting : (w : Option Contact) (s : State) → Knows (has_triad k) w s → Knows (has_triad k) w (next_event_effect s)
    unfolding next_event_effect
    noting w s h = record { apart = h.apart; known = h.known }

    stands : Follows (both opens (contact_of (asks_as k))) Stands
    stands =
        let ground = ground_follows u seed small in
        record {
          quiet = λ w.
              record {
                producing = λ t s h. ((ground.quiet w.0).producing t s h.0, (λ y. knows_producing (has_triad k) w.1 t s (h.1 y)));
                setting = λ m j bytes s e h. ((ground.quiet w.0).setting m j bytes s e h.0, (λ y. let z = h.1 y in record { apart = z.apart; known = z.known }));
                reading = λ m j s e h. ((ground.quiet w.0).reading m j s e h.0, (λ y. let z = h.1 y in record { apart = z.apart; known = z.known }));
                noting = λ s h. ((ground.quiet w.0).noting s h.0, (λ y. noting w.1 s (h.1 y)));
              };
          opening = λ t request q g p s w e h. (
            ground.opening t request q g p s w.0 e h.0,
            (λ y. let z = fewer_early w.0 y in opening t request q g p s w.1 e (next_is_new (first_id seed) w.0 s (h.0.ids z)) (h.1 z)),
          );
          closing = λ d c s w e h. (ground.closing d c s w.0 e h.0, (λ y. knows_closing (has_triad k) (asks_as k) d c s w.1 h.0.sound.distinct e (h.1 y)));
          expiring = λ t s w h. (ground.expiring t s w.0 h.0, (λ y. knows_expiring (has_triad k) (asks_as k) t s w.1 (h.1 y)));
          hearing = λ t from f s w h. (ground.hearing t from f s w.0 h.0, (λ y. knows_hearing (has_triad k) (asks_as k) t from f s w.1 (h.1 y)));
        }

    fresh_knows : Knows (has_triad k) None (fresh u seed)
    unfolding fresh
    fresh_knows = record { apart = tt; known = tt }

    known : (cs : List Call) → early (history opens (log cs (fresh u seed)) 0) ≡ true → Knows (has_triad k) (contact u seed small k cs) (run cs (fresh u seed))
    known cs y =
        let a = run_follows (both opens (contact_of (asks_as k))) Stands stands cs (fresh u seed) (0, None) (fresh_ground u seed small, (λ z. fresh_knows)) in
        let e = both_history opens (contact_of (asks_as k)) (log cs (fresh u seed)) (0, None) in
        (subst (λ (w : ℕ × Option Contact). Stands w (run cs (fresh u seed))) e a).1 y

  spread : (R : Triad → Conn → Type 0) (l : List Conn) → ((k : Triad) → All (λ c. conn_triad k c ≡ true → R k c) l) → All (λ c. R (triad_of c) c) l
  spread R [] h = tt
  spread R (x ∷ xs) h = ((h (triad_of x)).0 (triad_is_refl (triad_of x)), spread R xs (λ k. (h k).1))

  -- EVERY CONNECTION of the table is known as the calls and answers tell: its id, its address, its timeout, when it was heard, its sequences
  pub all_known : (cs : List Call) → early (history opens (log cs (fresh u seed)) 0) ≡ true → All (λ c. Known (contact u seed small (triad_of c) cs) c) (run cs (fresh u seed)).table
  all_known cs y = spread (λ k c. Known (contact u seed small k cs) c) (run cs (fresh u seed)).table (λ k. (known k cs y).known)

  until_told : (w : Option Contact) (c : Conn) → Known w c → c.heard.until ≡ maybe 0 (λ m. m.at) w + timeout c
  until_told None c h = absurd h
  until_told (Some m) c h = h.until ∙ ap (λ n. m.at + n) (sym h.timeout)

  -- HEARD MEANS HEARD
  pub heard_is_heard : (cs : List Call) → early (history opens (log cs (fresh u seed)) 0) ≡ true →
      All (λ c. c.heard.until ≡ heard_at u seed small (triad_of c) cs + timeout c) (run cs (fresh u seed)).table
  heard_is_heard cs y =
      ListLaws.all_to (λ c. Known (contact u seed small (triad_of c) cs) c) (λ c. c.heard.until ≡ heard_at u seed small (triad_of c) cs + timeout c)
      (λ c h. until_told (contact u seed small (triad_of c) cs) c h) (run cs (fresh u seed)).table (all_known cs y)

  -- a connection is expired exactly where more than its timeout has gone by since it was heard last
  pub expired_is_silent : (cs : List Call) (t : ℕ) → early (history opens (log cs (fresh u seed)) 0) ≡ true →
      All (λ c. expired t c ≡ silent_too_long (timeout c) (heard_at u seed small (triad_of c) cs) t) (run cs (fresh u seed)).table
  expired_is_silent cs t y =
      ListLaws.all_to (λ c. c.heard.until ≡ heard_at u seed small (triad_of c) cs + timeout c) (λ c. expired t c ≡ silent_too_long (timeout c) (heard_at u seed small (triad_of c) cs) t)
      (λ c e. ap (λ n. ltb n t) e ∙ sym (same_test (timeout c) (heard_at u seed small (triad_of c) cs) t)) (run cs (fresh u seed)).table (heard_is_heard cs y)
