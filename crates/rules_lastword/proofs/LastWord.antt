-- THE LANE OBEYS ITS LIVE OWNER'S LAST WORD: over every run, an output is in run exactly where it has a live owner and the last frame taken
-- from that owner had bit 0 of its header set, and it holds that frame's data; told from the calls and their answers alone.
use Rattle.std.specs.Prelude.{◌≡◌, Bool, true, cond, ◌&&◌, ◌||◌, ℕ, ◌^◌, ◌<◌, eqb, get_or, replicate, Option, Some, None, Ok}
use Rattle.std.proofs.Math.Path.{refl, sym, ap, subst}
use Rattle.std.proofs.Common.{◌∙◌, ap₂, eq-eqb}
use mathlib.Core.List.{List, [], ◌∷◌, ◌++◌, map}
use Rattle.std.proofs.Math.Bool.{false}
use Rattle.std.proofs.Math.ListN.{length, get_or-map}
use Rattle.std.proofs.lemmas.List.{length-map}
use Rattle.base_cells.specs.Records.{of_bool}
use Rattle.rules.specs.declared.Event.TheVariants.{Closed}
use Rattle.rules.specs.Lists.{find, any, without_first, change_at, maybe, is_some}
use Rattle.rules_laws.specs.ListLaws
use Rattle.rules_laws.specs.ListLaws.{by_cases, clash, either_way, All, and_left, and_right, eqb_true}
use Rattle.rules.specs.State.{Setup, no_shape, shape_at, Content, no_content, State, with_contents, is_input, is_output, is_config, is_owner, is_listener}
use Rattle.rules.specs.Setup.{blank, fresh}
use Rattle.rules.specs.Answers.{Wrote, fitting}
use Rattle.rules.specs.Checks.{owns, place_of}
use Rattle.rules.specs.Opening.{holding, stored, new_conn, new_fixed, opened, verdict_of, config_bytes}
use Rattle.rules.specs.Removal.{after_removal, conn_triad, idle, run_lost, removed, expire_effect}
use Rattle.rules.specs.Receiving.{Frame, meant_for, hear, taken, deliver, delivered, received}
use Rattle.rules.specs.Producing.{sends, produce_effect}
use Rattle.rules.specs.Host.{filled, read, next_event_effect, output_at, output_answer, output_call}
use Rattle.rules.specs.Calls
use Rattle.rules.specs.Calls.{Call, answer, run}
use Rattle.rules_isolation.specs.Ends.{all_removal}
use Rattle.rules_isolation.specs.Apart.{Apart}
use Rattle.rules_isolation.specs.Survive.{Distinct}
use Rattle.rules_isolation.specs.Seen.{hear_fixed, send_fixed, taken_owner, input_no_output}
use Rattle.rules_isolation.specs.Expiry.{owns_not}
use Rattle.rules_faults.specs.RunBit.{owner_of, at_change}
use Rattle.rules_steps.specs.Names.{Triad, ForwardOpen, Origin, Fixed, Conn, Plan}
use Rattle.rules_steps.specs.Steps.{log, both, both_history, Removing, Follows, acceptance}
use Rattle.rules_steps.proofs.Steps.{run_follows, expiry_keeps}
use Rattle.rules_lastword.specs.Words.{Contact, met, is_for, counts, Word, asks_for, says_run, data_in, takes, word_of, no_word, holds, opens, early, contact_of}
use Rattle.rules_lastword.specs.Ids.{Ground, fresh_ground, next_is_new, fewer_early}
use Rattle.rules_lastword.proofs.Ids.{ground_follows}
use Rattle.rules_lastword.specs.Knows.{Known, crowds, Knows, gone, knows_removing, knows_closing, knows_opening, knows_producing}
use Rattle.rules_lastword.proofs.Knows.{meant_is, knows_expiring, knows_hearing, found_is_met}
use Rattle.rules_lastword.specs.Present.{any_left, present_closing}
use Rattle.rules_lastword.proofs.Present.{present_expiring}
use Rattle.rules_lastword.specs.Outputs.{at_place, admits, output_there, change_there, length_at, config_no_output, opened_run, opened_present, in_run_is}
use Rattle.rules_lastword.proofs.Outputs.{taken_is, as_said, not_taken}
use Rattle.rules_lastword.specs.LastWord.{accepted, word, Obeys, word_bytes}

-- ---- one output: of instance number n, at place i of the setup's list
module _ (u : Setup) (n i : ℕ) (there : place_of is_output u n ≡ Some i) where
  abbrev size : ℕ
  size = (shape_at u i).size

  abbrev zeros : List ℕ
  zeros = replicate (shape_at u i).size 0

  abbrev here : List Content → Content
  here l = get_or l i no_content

  out : is_output (shape_at u i).kind ≡ true
  out = (at_place is_output u n i there).0

  -- what it holds, of a word's run bit and bytes
  record Body (b : Bool) (bytes : List ℕ) (s : State) : Type 0 where
    inside : i < length s.contents
    run : (get_or s.contents i no_content).run ≡ any (owner_of i) s.table && b
    holds : (get_or s.contents i no_content).bytes ≡ bytes

  -- THE INVARIANT
  record Agrees (w : Word) (s : State) : Type 0 where
    knows : Knows (owns i) w.owner s
    present : is_some w.owner ≡ any (owner_of i) s.table
    body : Body (maybe false says_run w.said) (holds (replicate (shape_at u i).size 0) w) s

  -- a change at a place that is no output
  elsewhere : (j : ℕ) (f : Content → Content) (l : List Content) → is_output (shape_at u j).kind ≡ false → here (change_at j f l) ≡ here l
  elsewhere j f l k = at_change (λ a. a ≡ here l) i j f l refl (λ e. clash (is_output (shape_at u j).kind) (subst (λ k. is_output (shape_at u k).kind ≡ true) e out) k)

  still_there : (j : ℕ) (f : Content → Content) (l : List Content) → i < length l → i < length (change_at j f l)
  still_there j f l h = subst (λ k. i < k) (sym (length_at j f l)) h

  mute : (c : Conn) → is_listener c.fixed.kind ≡ true → owns i c.fixed ≡ false
  mute c = owns_not i c

  -- A REMOVAL
  lost_there : (c : Conn) (l : List Content) → owner_of i c ≡ true → i < length l → (here (run_lost c.fixed l)).run ≡ false
  lost_there c l y h =
      let o = and_left (is_owner c.fixed.kind) (eqb c.fixed.output i) y in
      let k = eqb_true c.fixed.output i (and_right (is_owner c.fixed.kind) (eqb c.fixed.output i) y) in
      rw (o, k) (ap (λ (a : Content). a.run) (change_there i idle l h))

  lost_else : (c : Conn) (l : List Content) → owner_of i c ≡ false → here (run_lost c.fixed l) ≡ here l
  lost_else c l k =
      by_cases (is_owner c.fixed.kind)
      (λ o. rw o (at_change (λ a. a ≡ here l) i c.fixed.output idle l refl
      (λ e. clash (owner_of i c) (ap (λ b. b && eqb c.fixed.output i) o ∙ eq-eqb c.fixed.output i (sym e)) k)))
      (λ o. rw o refl)

  lost_bytes : (c : Conn) (l : List Content) → (here (run_lost c.fixed l)).bytes ≡ (here l).bytes
  lost_bytes c l =
      either_way (λ (x : List Content). (here x).bytes ≡ (here l).bytes) (is_owner c.fixed.kind) (at_change (λ a. a.bytes ≡ (here l).bytes) i c.fixed.output idle l refl (λ e. refl)) refl

  no_owner_left : (p : Conn → Bool) (c : Conn) (l : List Conn) → find p l ≡ Some c → owner_of i c ≡ true → Apart (crowds (owns i)) l →
      any (owner_of i) (after_removal c (without_first p l)) ≡ false
  no_owner_left p c l e y d =
      ListLaws.none_is (owner_of i) (after_removal c (without_first p l))
      (all_removal (λ x. owner_of i x ≡ false) (λ x z h. h) c (without_first p l) (ListLaws.none_passes (owner_of i) (without_first p l) (gone (owns i) p c l e y d)))

  body_removing : (w : Option Contact) (b : Bool) (bytes : List ℕ) → Removing (λ s. Knows (owns i) w s × Body b bytes s)
  unfolding removed
  body_removing w b bytes fault why p c s e h =
      let left = after_removal c (without_first p s.table) in (
        knows_removing (owns i) w fault why p c s e h.0,
        record {
          inside = either_way (λ (x : List Content). i < length x) (is_owner c.fixed.kind) (still_there c.fixed.output idle s.contents h.1.inside) h.1.inside;
          run =
              by_cases (owner_of i c)
              (λ y. lost_there c s.contents y h.1.inside ∙ sym (ap (λ a. a && b) (no_owner_left p c s.table e y h.0.apart)))
              (λ k. ap (λ (a : Content). a.run) (lost_else c s.contents k) ∙ h.1.run ∙
              ap (λ a. a && b) (any_left (owns i) mute p c s.table e ∙ ap (λ a. a || any (owner_of i) left) k));
          holds = lost_bytes c s.contents ∙ h.1.holds;
        },
      )

  closing : (k : Triad) (c : Conn) (s : State) (w : Word) → Distinct s.table → find (conn_triad k) s.table ≡ Some c → Agrees w s →
      Agrees ((word_of u n size).on_close k w) (removed false Closed c (without_first (conn_triad k) s.table) s)
  unfolding removed
  closing k c s w d e h =
      let know = knows_closing (owns i) (asks_for u n) k c s w.owner d e h.knows in
      record {
        knows = know;
        present = present_closing (owns i) mute k c s.table w.owner e h.knows.known know.known h.present;
        body = (body_removing w.owner (maybe false says_run w.said) (holds zeros w) false Closed (conn_triad k) c s e (h.knows, h.body)).1;
      }

  expiring : (t : ℕ) (s : State) (w : Word) → Agrees w s → Agrees ((word_of u n size).on_expire t w) (expire_effect t s)
  expiring t s w h =
      let know = knows_expiring (owns i) (asks_for u n) t s w.owner h.knows in
      let b = maybe false says_run w.said in
      record {
        knows = know;
        present = present_expiring (owns i) mute t s w.owner h.knows.known know.known h.present;
        body = (expiry_keeps (λ s. Knows (owns i) w.owner s × Body b (holds zeros w) s) (body_removing w.owner b (holds zeros w)) t s (h.knows, h.body)).1;
      }

  -- AN OPEN
  stored_else : (x : Option ℕ) (bytes : List ℕ) (l : List Content) → ((j : ℕ) → x ≡ Some j → is_config (shape_at u j).kind ≡ true) → here (stored x bytes l) ≡ here l
  stored_else None bytes l k = refl
  stored_else (Some j) bytes l k = elsewhere j (holding bytes) l (config_no_output (shape_at u j).kind (k j refl))

  stored_there : (x : Option ℕ) (bytes : List ℕ) (l : List Content) → i < length l → i < length (stored x bytes l)
  stored_there None bytes l h = h
  stored_there (Some j) bytes l h = still_there j (holding bytes) l h

  opening : (t : ℕ) (request : List ℕ) (q : ForwardOpen) (g : Origin) (p : Plan) (s : State) (w : Word) → verdict_of request q s ≡ Ok p → s.setup ≡ u →
      any (λ c. eqb c.fixed.otid.0 s.next_id) s.table ≡ false → Agrees w s →
      Agrees ((word_of u n size).on_open t request q g (acceptance q g p s.next_id) w) (opened t q g (config_bytes request q) p s)
  unfolding opened new_conn new_fixed
  opening t request q g p s w e v new h =
      let a = admits u n i there request q s p v e in
      let c = new_conn t q g p s.next_id in
      let bytes = config_bytes request q in
      let k = stored_else p.stores bytes s.contents a.config in
      let l = s.table in
      let more : any (owner_of i) (l ++ (c ∷ [])) ≡ any (owner_of i) l || (owner_of i c || false) = ListLaws.any_append (owner_of i) l (c ∷ []) in
      let m = met t q g (acceptance q g p s.next_id) in
      record {
        knows = knows_opening (owns i) (asks_for u n) t request q g bytes p s w.owner a.asks a.lone new h.knows;
        present = subst (λ o. is_some (cond o (Some m) w.owner) ≡ any (owner_of i) (l ++ (c ∷ []))) a.asks
            (opened_present w.owner m (any (owner_of i) l) (owner_of i c) h.present ∙ sym more);
        body = record {
          inside = stored_there p.stores bytes s.contents h.body.inside;
          run = subst (λ o. (here (stored p.stores bytes s.contents)).run ≡ any (owner_of i) (l ++ (c ∷ [])) && maybe false says_run (cond o None w.said)) a.asks
              (ap (λ (x : Content). x.run) k ∙ opened_run (here s.contents).run (any (owner_of i) l) (owner_of i c) w.said h.body.run a.lone ∙
              ap (λ b. b && maybe false says_run (cond (owner_of i c) None w.said)) (sym more));
          holds = ap (λ (x : Content). x.bytes) k ∙ h.body.holds;
        };
      }

  -- A FRAME
  delivered_there : (f : Frame) (c : Conn) (l : List Content) → i < length l → i < length (delivered u f c l)
  delivered_there f c l h = either_way (λ (x : List Content). i < length x) (taken u f c) (still_there c.fixed.output (deliver f) l h) h

  found_there : (f : Frame) (cs : List Content) → i < length cs → (x : Option Conn) → i < length (maybe cs (λ c. delivered u f c cs) x)
  found_there f cs h None = h
  found_there f cs h (Some c) = delivered_there f c cs h

  taken_there : (f : Frame) (c : Conn) (l : List Content) → i < length l → owner_of i c ≡ true → taken u f c ≡ true → here (delivered u f c l) ≡ deliver f (here l)
  taken_there f c l h y t =
      let k = eqb_true c.fixed.output i (and_right (is_owner c.fixed.kind) (eqb c.fixed.output i) y) in
      rw (t, k) (change_there i (deliver f) l h)

  taken_else : (f : Frame) (c : Conn) (l : List Content) → owner_of i c ≡ false → here (delivered u f c l) ≡ here l
  taken_else f c l k =
      by_cases (taken u f c)
      (λ t. rw t (at_change (λ a. a ≡ here l) i c.fixed.output (deliver f) l refl
      (λ e. clash (owner_of i c) (ap (λ b. b && eqb c.fixed.output i) (taken_owner u f c t) ∙ eq-eqb c.fixed.output i (sym e)) k)))
      (λ t. rw t refl)

  untaken : (f : Frame) (c : Conn) (l : List Content) → taken u f c ≡ false → here (delivered u f c l) ≡ here l
  untaken f c l k = rw k refl

  -- what it holds after a frame that counts, or does not
  abbrev Held : Frame → Word → List Conn → Content → Bool → Type 0
  Held f w l a b = (a.run ≡ any (owner_of i) l && maybe false says_run (cond b (Some f) w.said)) × (a.bytes ≡ maybe zeros data_in (cond b (Some f) w.taken))

  owner_held : (from : ℕ) (f : Frame) (w : Word) (l : List Conn) (cs : List Content) (c : Conn) → i < length cs → any (owner_of i) l ≡ true → Held f w l (here cs) false →
      owner_of i c ≡ true → (o : Option Contact) → Known o c → meant_for from f c ≡ true → Held f w l (here (delivered u f c cs)) (maybe false (counts size from f) o)
  owner_held from f w l cs c h some-owner before y None ear e = absurd ear
  owner_held from f w l cs c h some-owner before y (Some m) ear e =
      let t = taken_is u i from f c m out ear y (sym (meant_is m from f c ear) ∙ e) in
      by_cases (counts size from f m)
      (λ k. let said = as_said f (here cs) in
      subst (λ q. Held f w l (here (delivered u f c cs)) q) (sym k)
      (subst (λ q. Held f w l q true) (sym (taken_there f c cs h y (t ∙ k))) (said.0 ∙ sym (ap (λ a. a && says_run f) some-owner), said.1)))
      (λ k. subst (λ q. Held f w l (here (delivered u f c cs)) q) (sym k) (subst (λ q. Held f w l q false) (sym (untaken f c cs (t ∙ k))) before))

  found_held : (from : ℕ) (f : Frame) (w : Word) (l : List Conn) (cs : List Content) → i < length cs → All (λ c. owns i c.fixed ≡ true → Known w.owner c) l →
      Held f w l (here cs) false → (x : Option Conn) → find (meant_for from f) l ≡ x → maybe false (is_for from f) w.owner ≡ maybe false (owner_of i) x →
      Held f w l (here (maybe cs (λ c. delivered u f c cs) x)) (takes size from f w)
  found_held from f w l cs h known before None e m = subst (λ q. Held f w l (here cs) q) (sym (not_taken size from f w.owner m)) before
  found_held from f w l cs h known before (Some c) e m =
      by_cases (owner_of i c)
      (λ y. owner_held from f w l cs c h (ListLaws.find_any (meant_for from f) (owner_of i) c l e y) before y w.owner
      (ListLaws.all_find (λ c. owns i c.fixed ≡ true → Known w.owner c) (meant_for from f) c l e known y) (ListLaws.find_passes (meant_for from f) c l e))
      (λ y. subst (λ q. Held f w l (here (delivered u f c cs)) q) (sym (not_taken size from f w.owner (m ∙ y))) (subst (λ q. Held f w l q false) (sym (taken_else f c cs y)) before))

  heard_present : (t from : ℕ) (f : Frame) (o : Option Contact) → is_some ((contact_of (asks_for u n)).on_frame t from f o) ≡ is_some o
  heard_present t from f None = refl
  heard_present t from f (Some m) = refl

  hearing : (t from : ℕ) (f : Frame) (s : State) (w : Word) → s.setup ≡ u → Agrees w s → Agrees ((word_of u n size).on_frame t from f w) (received t from f s)
  unfolding received
  hearing t from f s w e h =
      let l = s.table in
      let x = find (meant_for from f) l in
      let same = ListLaws.any_change (owner_of i) (meant_for from f) (hear t f) (λ c. ap (λ (y : Fixed). owns i y) (hear_fixed t f c)) l in
      let m = found_is_met (owns i) (asks_for u n) from f w.owner l h.knows.apart h.knows.known h.present in
      let held = found_held from f w l s.contents h.body.inside h.knows.known (h.body.run, h.body.holds) x refl m in
      let a = subst (λ v. Held f w l (here (maybe s.contents (λ c. delivered v f c s.contents) x)) (takes size from f w)) (sym e) held in
      record {
        knows = knows_hearing (owns i) (asks_for u n) t from f s w.owner h.knows;
        present = heard_present t from f w.owner ∙ h.present ∙ sym same;
        body = record {
          inside = subst (λ v. i < length (maybe s.contents (λ c. delivered v f c s.contents) x)) (sym e) (found_there f s.contents h.body.inside x);
          run = a.0 ∙ ap (λ b. b && maybe false says_run (cond (takes size from f w) (Some f) w.said)) (sym same);
          holds = a.1;
        };
      }

  -- THE REST
  producing : (w : Word) (t : ℕ) (s : State) → Agrees w s → Agrees w (produce_effect t s)
  unfolding produce_effect
  producing w t s h =
      let same = ListLaws.any_map (sends t) (owner_of i) (owner_of i) (λ c. ap (λ (y : Fixed). owns i y) (send_fixed t c)) s.table in
      record {
        knows = knows_producing (owns i) w.owner t s h.knows;
        present = h.present ∙ sym same;
        body = record { inside = h.body.inside; run = h.body.run ∙ ap (λ b. b && maybe false says_run w.said) (sym same); holds = h.body.holds };
      }

  noting : (w : Word) (s : State) → Agrees w s → Agrees w (next_event_effect s)
  unfolding next_event_effect
  noting w s h =
      record {
        knows = record { apart = h.knows.apart; known = h.knows.known };
        present = h.present;
        body = record { inside = h.body.inside; run = h.body.run; holds = h.body.holds };
      }

  setting : (w : Word) (m j : ℕ) (bytes : List ℕ) (s : State) → s.setup ≡ u → place_of is_input s.setup m ≡ Some j → Agrees w s →
      Agrees w (with_contents (change_at j (filled (shape_at s.setup j).size bytes) s.contents) s)
  setting w m j bytes s v e h =
      let input = (at_place is_input u m j (subst (λ v. place_of is_input v m ≡ Some j) v e)).0 in
      let k = elsewhere j (filled (shape_at s.setup j).size bytes) s.contents (input_no_output (shape_at u j).kind input) in
      record {
        knows = record { apart = h.knows.apart; known = h.knows.known };
        present = h.present;
        body = record {
          inside = still_there j (filled (shape_at s.setup j).size bytes) s.contents h.body.inside;
          run = ap (λ (a : Content). a.run) k ∙ h.body.run;
          holds = ap (λ (a : Content). a.bytes) k ∙ h.body.holds;
        };
      }

  reading : (w : Word) (j : ℕ) (s : State) → Agrees w s → Agrees w (with_contents (change_at j read s.contents) s)
  reading w j s h =
      record {
        knows = record { apart = h.knows.apart; known = h.knows.known };
        present = h.present;
        body = record {
          inside = still_there j read s.contents h.body.inside;
          run = at_change (λ a. a.run ≡ any (owner_of i) s.table && maybe false says_run w.said) i j read s.contents h.body.run (λ z. h.body.run);
          holds = at_change (λ a. a.bytes ≡ holds zeros w) i j read s.contents h.body.holds (λ z. h.body.holds);
        };
      }

  module _ (seed : ℕ) (small : seed < 2 ^ 32) where
    -- the ground, and, while the opens are few, the agreement
    abbrev Stands : ℕ × Word → State → Type 0
    Stands w s = Ground u seed w.0 s × (early w.0 ≡ true → Agrees w.1 s)

    stands : Follows (both opens (word_of u n size)) Stands
    stands =
        let k = ground_follows u seed small in
        record {
          quiet = λ w.
              record {
                producing = λ t s h. ((k.quiet w.0).producing t s h.0, (λ y. producing w.1 t s (h.1 y)));
                setting = λ m j bytes s e h. ((k.quiet w.0).setting m j bytes s e h.0, (λ y. setting w.1 m j bytes s h.0.sound.setup e (h.1 y)));
                reading = λ m j s e h. ((k.quiet w.0).reading m j s e h.0, (λ y. reading w.1 j s (h.1 y)));
                noting = λ s h. ((k.quiet w.0).noting s h.0, (λ y. noting w.1 s (h.1 y)));
              };
          opening = λ t request q g p s w e h. (
            k.opening t request q g p s w.0 e h.0,
            (λ y. let z = fewer_early w.0 y in
                opening t request q g p s w.1 e h.0.sound.setup (next_is_new _ w.0 s (h.0.ids z)) (h.1 z)),
          );
          closing = λ d c s w e h. (k.closing d c s w.0 e h.0, (λ y. closing d c s w.1 h.0.sound.distinct e (h.1 y)));
          expiring = λ t s w h. (k.expiring t s w.0 h.0, (λ y. expiring t s w.1 (h.1 y)));
          hearing = λ t from f s w h. (k.hearing t from f s w.0 h.0, (λ y. hearing t from f s w.1 h.0.sound.setup (h.1 y)));
        }

    fresh_agrees : Agrees no_word (fresh u seed)
    unfolding fresh
    fresh_agrees =
        let k : here (map blank u.assemblies) ≡ blank (shape_at u i) = get_or-map blank u.assemblies i no_shape in
        record {
          knows = record { apart = tt; known = tt };
          present = refl;
          body = record {
            inside = subst (λ m. i < m) (sym (length-map u.assemblies blank)) (output_there u i out);
            run = ap (λ (a : Content). a.run) k;
            holds = ap (λ (a : Content). a.bytes) k;
          };
        }

    agreed : (cs : List Call) → early (accepted u n i there seed small cs) ≡ true → Agrees (word u n i there seed small cs) (run cs (fresh u seed))
    agreed cs y =
        let a = run_follows (both opens (word_of u n size)) Stands stands cs (fresh u seed) (0, no_word) (fresh_ground u seed small, (λ z. fresh_agrees)) in
        let e = both_history opens (word_of u n size) (log cs (fresh u seed)) (0, no_word) in
        (subst (λ (w : ℕ × Word). Stands w (run cs (fresh u seed))) e a).1 y

    -- THE PROMISE
    pub lane_obeys : (cs : List Call) → early (accepted u n i there seed small cs) ≡ true → Obeys u n i there seed small (word u n i there seed small cs) (run cs (fresh u seed))
    lane_obeys cs y =
        let a = agreed cs y in
        let b = maybe false says_run (word u n i there seed small cs).said in
        record {
          live = a.present;
          run = a.body.run ∙ ap (λ z. z && b) (sym a.present) ∙ in_run_is (word u n i there seed small cs).owner b;
          bytes = a.body.holds;
        }

    -- and the state knows the owner as the history does
    pub owner_is_known : (cs : List Call) → early (accepted u n i there seed small cs) ≡ true → Knows (owns i) (word u n i there seed small cs).owner (run cs (fresh u seed))
    owner_is_known cs y = (agreed cs y).knows

    -- what the host reads of the output is the word
    pub host_reads_the_word : (cs : List Call) → early (accepted u n i there seed small cs) ≡ true → (room : ℕ) →
        answer (Calls.ReadOutput n room) (run cs (fresh u seed)) ≡ fitting room (word_bytes u n i there seed small cs) (Wrote (word_bytes u n i there seed small cs))
    unfolding output_call output_answer
    host_reads_the_word cs y room =
        let s = run cs (fresh u seed) in
        let o = lane_obeys cs y in
        let a = (run_follows (both opens (word_of u n size)) Stands stands cs (fresh u seed) (0, no_word) (fresh_ground u seed small, (λ z. fresh_agrees))).0.sound.setup in
        ap (output_at room s) (ap (λ v. place_of is_output v n) a ∙ there) ∙ ap (λ b. fitting room b (Wrote b)) (ap₂ (λ r b. of_bool r ∷ b) o.run o.bytes)
