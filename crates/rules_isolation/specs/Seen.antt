-- What can be seen of a state apart from one address: its connections without what they heard, the outputs that it may own without what
-- they hold. Each call's lemma: states that look alike stay so, and answer alike.
use Rattle.std.specs.Prelude.{◌≡◌, List, [], ◌∷◌, ◌++◌, map, Bool, cond, not, ◌&&◌, ℕ, eqb, leb, length, Option, Some, None, Result, Ok, Err}
use Rattle.base_ids.specs.declared.Triad.{Triad}
use Rattle.rules.specs.declared.Stop.{Stop}
use Rattle.std.proofs.Math.Path.{refl, sym, ap, ap₂, subst}
use Rattle.std.proofs.Common.{◌∙◌}
use Rattle.std.proofs.Math.Bool.{true, false}
use Rattle.std.proofs.lemmas.List.{length-map}
use Rattle.wire_rules.specs.Frames.{io_of}
use Rattle.wire_rules.specs.Opens.{close_of}
use Rattle.rules.specs.declared.AssemblyKind.TheVariants.{Input, Output, Config}
use Rattle.rules.specs.declared.Event.TheVariants.{Closed}
use Rattle.rules.specs.Lists.{find, any, keep, change_first, without_first, change_at, maybe, joined}
use Rattle.rules_laws.specs.ListLaws
use Rattle.rules_laws.specs.ListLaws.{by_cases, clash, either_way, of_cond, option_map, All, and_left, and_right, eqb_true}
use Rattle.rules.specs.State.{Setup, shape_at, Content, State, with_contents, fixeds, is_input, is_output, is_owner}
use Rattle.rules.specs.Answers.{Answer, is_yes, settled, fitting, at_time, Wrote}
use Rattle.rules.specs.Checks.{owns, place_of}
use Rattle.rules.specs.Opening.{stored, opened, new_conn, side_at, verdict_of, plan_answer, plan_effect, asked_answer, asked_effect, open_asked, config_bytes, open_answer, open_effect}
use Rattle.rules.specs.Removal.{after_removal, conn_triad, removed, closed, close_for, close_by, close_answer, close_effect}
use Rattle.rules_laws.specs.RemovalLaws.{removed_if}
use Rattle.rules.specs.Receiving.{Frame, meant_for, newer, has_cip, repeats, right_size, hear, taken, deliver, delivered, received, frame_of, receive_effect}
use Rattle.rules.specs.Producing
use Rattle.rules.specs.Producing.{due, late_by, delays, sent, sends, packet, packets, input_bytes, counters, produce_answer, produce_effect}
use Rattle.rules.specs.Host.{filled, input_set, set_input_answer, set_input_effect, next_event_effect}
use Rattle.rules_steps.specs.Names.{AssemblyKind, ForwardOpen, Origin, Fixed, Heard, Conn, Info, Event, Plan}
use Rattle.rules_isolation.specs.Ends.{rehear, removal_rehear}
use Rattle.rules_isolation.specs.Contents.{cover, change_alike, change_unseen, content_alike, idles_alike, run_lost_lem}

-- maps and joins
pub map_map : {A B C : Type 0} (f : A → B) (g : B → C) (h : A → C) → ((x : A) → g (f x) ≡ h x) → (l : List A) → map g (map f l) ≡ map h l
map_map f g h e [] = refl
map_map f g h e (x ∷ xs) = cc (e x, map_map f g h e xs)

pub map_append : {A B : Type 0} (f : A → B) (l m : List A) → map f (l ++ m) ≡ map f l ++ map f m
map_append f [] m = refl
map_append f (x ∷ xs) m = cc (map_append f xs m)

joined_same : {A B : Type 0} (f g : A → List B) (l : List A) → All (λ x. f x ≡ g x) l → joined f l ≡ joined g l
joined_same f g [] a = refl
joined_same f g (x ∷ xs) a = cc (a.0, joined_same f g xs a.1)

pub joined_map : {A B : Type 0} (h : A → A) (f : A → List B) → ((x : A) → f (h x) ≡ f x) → (l : List A) → joined f (map h l) ≡ joined f l
joined_map h f e [] = refl
joined_map h f e (x ∷ xs) = cc (e x, joined_map h f e xs)

-- what a connection of the address heard is not seen
abbrev pub silent : Heard
silent = record { until = 0; any = false; sequence = 0; anycip = false; cip = 0 }

abbrev pub deaf : ℕ → Fixed → Heard → Heard
deaf A f h = cond (eqb f.originator A) silent h

abbrev pub hide : ℕ → Conn → Conn
hide A = rehear (deaf A)

pub hide_bare : (A : ℕ) (c : Conn) → eqb c.fixed.originator A ≡ false → hide A c ≡ c
hide_bare A c e = rw e refl

-- a function of the table that hears nothing of the address is the same on tables that look alike
pub blind_alike : {B : Type 0} (A : ℕ) (f : List Conn → B) → ((l : List Conn) → f (map (hide A) l) ≡ f l) → (l m : List Conn) → map (hide A) l ≡ map (hide A) m → f l ≡ f m
blind_alike A f h l m e = sym (h l) ∙ ap f e ∙ h m

pub fixeds_alike : (A : ℕ) (l m : List Conn) → map (hide A) l ≡ map (hide A) m → fixeds l ≡ fixeds m
fixeds_alike A l m e = blind_alike A fixeds (λ x. map_map (hide A) (λ c. c.fixed) (λ c. c.fixed) (λ c. refl) x) l m e

pub length_alike : (A : ℕ) (l m : List Conn) → map (hide A) l ≡ map (hide A) m → length l ≡ length m
length_alike A l m e = blind_alike A length (λ x. length-map x (hide A)) l m e

pub hear_fixed : (now : ℕ) (f : Frame) (c : Conn) → (hear now f c).fixed ≡ c.fixed
unfolding hear
hear_fixed now f c = either_way (λ (x : Conn). x.fixed ≡ c.fixed) (newer c.heard f.sequence) refl refl

pub send_fixed : (now : ℕ) (c : Conn) → (sends now c).fixed ≡ c.fixed
send_fixed now c = either_way (λ (x : Conn). x.fixed ≡ c.fixed) (due now c) refl refl

-- a connection of that address whose output is not covered
abbrev pub stray : ℕ → (ℕ → Bool) → Conn → Bool
stray A o c = eqb c.fixed.originator A && (is_owner c.fixed.kind && not (o c.fixed.output))

abbrev pub Covers : ℕ → (ℕ → Bool) → List Conn → Type 0
Covers A o l = any (stray A o) l ≡ false

-- no input is covered
abbrev pub Sparing : (ℕ → Bool) → Setup → Type 0
Sparing o u = (i : ℕ) → is_input (shape_at u i).kind ≡ true → o i ≡ false

-- the input of a connection is an input assembly
abbrev pub Feeding : Setup → Conn → Type 0
Feeding u c = is_input (shape_at u c.fixed.input).kind ≡ true

-- states that look alike
pub record Alike (A : ℕ) (o : ℕ → Bool) (s t : State) : Type 0 where
  pub setup : s.setup ≡ t.setup
  pub contents : cover o s.contents ≡ cover o t.contents
  pub table : map (hide A) s.table ≡ map (hide A) t.table
  pub next_id : s.next_id ≡ t.next_id
  pub counters : s.counters ≡ t.counters

pub itself : (A : ℕ) (o : ℕ → Bool) (s : State) → Alike A o s s
itself A o s = record { setup = refl; contents = refl; table = refl; next_id = refl; counters = refl }

pub join : {A : ℕ} {o : ℕ → Bool} {s t u : State} → Alike A o s t → Alike A o t u → Alike A o s u
join a b =
    record {
      setup = a.setup ∙ b.setup;
      contents = a.contents ∙ b.contents;
      table = a.table ∙ b.table;
      next_id = a.next_id ∙ b.next_id;
      counters = a.counters ∙ b.counters;
    }

pub back : {A : ℕ} {o : ℕ → Bool} {s t : State} → Alike A o s t → Alike A o t s
back a = record { setup = sym a.setup; contents = sym a.contents; table = sym a.table; next_id = sym a.next_id; counters = sym a.counters }

-- what is left by calls that answer alike
pub settled_alike : {A : ℕ} {o : ℕ → Bool} {s t s' t' : State} (a b : Answer) → a ≡ b → Alike A o s' t' → Alike A o s t → Alike A o (settled a s' s).1 (settled b t' t).1
settled_alike a b e r q = by_cases (is_yes b) (λ y. let x : is_yes a ≡ true = ap is_yes e ∙ y in rw (x, y) r) (λ y. let x : is_yes a ≡ false = ap is_yes e ∙ y in rw (x, y) q)

-- an input is no output
pub input_no_output : (k : AssemblyKind) → is_input k ≡ true → is_output k ≡ false
input_no_output Input e = refl
input_no_output Output e = sym e
input_no_output Config e = refl

-- an event that is read is not seen
pub event_unseen : (A : ℕ) (o : ℕ → Bool) (s : State) → Alike A o (next_event_effect s) s
unfolding next_event_effect
event_unseen A o s = record { setup = refl; contents = refl; table = refl; next_id = refl; counters = refl }

-- what is left by a call that changes nothing to be seen
pub settled_unseen : {A : ℕ} {o : ℕ → Bool} {s s' : State} (a : Answer) → Alike A o s' s → Alike A o (settled a s' s).1 s
settled_unseen {A} {o} {s} a r = either_way (λ x. Alike A o x s) (is_yes a) r (itself A o s)

module _ (A : ℕ) (o : ℕ → Bool) (s t : State) (r : Alike A o s t) where
  -- OPEN
  verdict_alike : (request : List ℕ) (q : ForwardOpen) → verdict_of request q s ≡ verdict_of request q t
  unfolding verdict_of
  verdict_alike request q = cc (r.setup, fixeds_alike A s.table t.table r.table)

  stored_alike : (x : Option ℕ) (bytes : List ℕ) → cover o (stored x bytes s.contents) ≡ cover o (stored x bytes t.contents)
  stored_alike None bytes = r.contents
  stored_alike (Some i) bytes = change_alike o i _ s.contents t.contents r.contents

  opened_alike : (now : ℕ) (q : ForwardOpen) (g : Origin) (bytes : List ℕ) (p : Plan) → Alike A o (opened now q g bytes p s) (opened now q g bytes p t)
  unfolding opened
  opened_alike now q g bytes p =
      record {
        setup = r.setup;
        contents = stored_alike p.stores bytes;
        table =
            map_append (hide A) s.table _ ∙
            ap₂ (λ l n. l ++ (hide A (new_conn now q g p n) ∷ [])) r.table r.next_id ∙ sym (map_append (hide A) t.table _);
        next_id = ap (λ n. (side_at q g p n).next) r.next_id;
        counters = r.counters;
      }

  plan_alike : (now : ℕ) (q : ForwardOpen) (g : Origin) (bytes : List ℕ) (v : Result Plan Stop) → Alike A o (plan_effect now q g bytes s v) (plan_effect now q g bytes t v)
  plan_alike now q g bytes (Err x) = r
  plan_alike now q g bytes (Ok p) = opened_alike now q g bytes p

  request_alike : (now : ℕ) (g : Origin) (request : List ℕ) (x : Option ForwardOpen) → Alike A o (asked_effect now g request s x) (asked_effect now g request t x)
  request_alike now g request None = r
  request_alike now g request (Some q) = rw (verdict_alike request q) (plan_alike now q g (config_bytes request q) (verdict_of request q t))

  request_says_alike : (g : Origin) (request : List ℕ) (room : ℕ) (x : Option ForwardOpen) → asked_answer g request room s x ≡ asked_answer g request room t x
  request_says_alike g request room None = refl
  request_says_alike g request room (Some q) = ap₂ (λ n v. plan_answer q g n room v) r.next_id (verdict_alike request q)

  pub open_says_alike : (now service : ℕ) (request : List ℕ) (g : Origin) (room : ℕ) → open_answer now service request g room s ≡ open_answer now service request g room t
  unfolding open_answer
  open_says_alike now service request g room = ap (at_time now) (request_says_alike g request room (open_asked service request))

  pub open_alike : (now service : ℕ) (request : List ℕ) (g : Origin) → Alike A o (open_effect now service request g s) (open_effect now service request g t)
  unfolding open_effect
  open_alike now service request g = request_alike now g request (open_asked service request)

  -- CLOSE
  close_for_alike : (room : ℕ) (x : Option Triad) → close_for room s x ≡ close_for room t x
  close_for_alike room None = refl
  close_for_alike room (Some d) =
      let e = blind_alike A (any (conn_triad d)) (λ l. ListLaws.any_map (hide A) (conn_triad d) (conn_triad d) (λ x. refl) l) s.table t.table r.table in
      rw e refl

  pub close_says_alike : (request : List ℕ) (room : ℕ) → close_answer request room s ≡ close_answer request room t
  unfolding close_answer
  close_says_alike request room = close_for_alike room (close_of request)

  removed_alike : (fault : Bool) (why : Info → Event) (p : Conn → Bool) → ((c : Conn) → p (hide A c) ≡ p c) → (x y : Option Conn) →
      option_map (hide A) x ≡ option_map (hide A) y → Alike A o (removed_if fault why p s x) (removed_if fault why p t y)
  unfolding removed
  removed_alike fault why p u None None e = r
  removed_alike fault why p u None (Some d) e = clash true refl (cc)
  removed_alike fault why p u (Some c) None e = clash true refl (cc)
  removed_alike fault why p u (Some c) (Some d) e =
      let h : hide A c ≡ hide A d = cc in
      record {
        setup = r.setup;
        contents =
            ap (cover o) (run_lost_lem c.fixed s.contents) ∙
            idles_alike o (λ i. owns i c.fixed) (λ i. owns i d.fixed) (λ i n. ap (λ (x : Conn). owns i x.fixed) h) s.contents t.contents r.contents ∙
            sym (ap (cover o) (run_lost_lem d.fixed t.contents));
        table =
            removal_rehear (deaf A) c (without_first p s.table) ∙
            ap₂ after_removal h (sym (ListLaws.without_map (hide A) p p u s.table) ∙ ap (without_first p) r.table ∙ ListLaws.without_map (hide A) p p u t.table) ∙
            sym (removal_rehear (deaf A) d (without_first p t.table));
        next_id = r.next_id;
        counters = r.counters;
      }

  close_by_alike : (x : Option Triad) → Alike A o (close_by s x) (close_by t x)
  unfolding closed
  close_by_alike None = r
  close_by_alike (Some d) =
      removed_alike false Closed (conn_triad d) (λ c. refl) (find (conn_triad d) s.table) (find (conn_triad d) t.table)
      (sym (ListLaws.find_map (hide A) (conn_triad d) (conn_triad d) (λ c. refl) s.table) ∙
      ap (find (conn_triad d)) r.table ∙ ListLaws.find_map (hide A) (conn_triad d) (conn_triad d) (λ c. refl) t.table)

  pub close_alike : (request : List ℕ) → Alike A o (close_effect request s) (close_effect request t)
  unfolding close_effect
  close_alike request = close_by_alike (close_of request)

  -- PRODUCE
  send_hide : (now : ℕ) (l : List Conn) → map (hide A) (map (sends now) l) ≡ map (sends now) (map (hide A) l)
  unfolding sent
  send_hide now l =
      map_map (sends now) (hide A) (λ c. sends now (hide A c)) (λ c. of_cond (hide A) (due now c) (due now c) refl refl refl) l ∙
      sym (map_map (hide A) (sends now) (λ c. sends now (hide A c)) (λ c. refl) l)

  due_keep : (now : ℕ) (l : List Conn) → keep (due now) (map (hide A) l) ≡ map (hide A) (keep (due now) l)
  due_keep now l = ListLaws.keep_map (hide A) (due now) (due now) (λ c. refl) l

  abbrev each : ℕ → List Content → Conn → List ℕ
  each now cs c = packet now (input_bytes cs c.fixed) c

  packets_hide : (now : ℕ) (cs : List Content) (l : List Conn) → packets now cs (map (hide A) l) ≡ packets now cs l
  unfolding packets packet Producing.frame_sent sent
  packets_hide now cs l = ap (joined (each now cs)) (due_keep now l) ∙ joined_map (hide A) (each now cs) (λ c. refl) (keep (due now) l)

  delays_hide : (now : ℕ) (l : List Conn) → delays now (map (hide A) l) ≡ delays now l
  delays_hide now l =
      ap (map (λ c. late_by now c.sent.due)) (due_keep now l) ∙ map_map (hide A) (λ c. late_by now c.sent.due) (λ c. late_by now c.sent.due) (λ c. refl) (keep (due now) l)

  packet_alike : Sparing o s.setup → (now : ℕ) (c : Conn) → Feeding s.setup c → each now s.contents c ≡ each now t.contents c
  packet_alike sparing now c f =
      ap (λ (x : Content). packet now x.bytes c) (content_alike o c.fixed.input s.contents t.contents r.contents (sparing c.fixed.input f))

  packets_alike : Sparing o s.setup → All (Feeding s.setup) s.table → (now : ℕ) → packets now s.contents s.table ≡ packets now t.contents t.table
  unfolding packets
  packets_alike sparing a now =
      joined_same (each now s.contents) (each now t.contents) (keep (due now) s.table)
      (ListLaws.all_to (Feeding s.setup) (λ c. each now s.contents c ≡ each now t.contents c) (packet_alike sparing now) (keep (due now) s.table)
      (ListLaws.all_keep (Feeding s.setup) (due now) s.table a)) ∙
      blind_alike A (packets now t.contents) (packets_hide now t.contents) s.table t.table r.table

  pub produce_says_alike : Sparing o s.setup → All (Feeding s.setup) s.table → (now room : ℕ) → produce_answer now room s ≡ produce_answer now room t
  unfolding produce_answer
  produce_says_alike sparing a now room = ap (λ b. at_time now (fitting room b (Wrote b))) (packets_alike sparing a now)

  pub produce_alike : (now : ℕ) → Alike A o (produce_effect now s) (produce_effect now t)
  unfolding produce_effect
  produce_alike now =
      let d = blind_alike A (delays now) (delays_hide now) s.table t.table r.table in
      record {
        setup = r.setup;
        contents = r.contents;
        table = send_hide now s.table ∙ ap (map (sends now)) r.table ∙ sym (send_hide now t.table);
        next_id = r.next_id;
        counters = cc (d, r.counters, r.setup);
      }

  -- THE HOST'S SIDE
  with_alike : (l m : List Content) → cover o l ≡ cover o m → Alike A o (with_contents l s) (with_contents m t)
  with_alike l m e = record { setup = r.setup; contents = e; table = r.table; next_id = r.next_id; counters = r.counters }

  pub set_input_says_alike : (n : ℕ) (bytes : List ℕ) → set_input_answer n bytes s.setup ≡ set_input_answer n bytes t.setup
  set_input_says_alike n bytes = ap (set_input_answer n bytes) r.setup

  input_set_alike : (bytes : List ℕ) (x : Option ℕ) → Alike A o (input_set bytes s x) (input_set bytes t x)
  input_set_alike bytes None = r
  input_set_alike bytes (Some i) =
      with_alike _ _
      (change_alike o i (filled (shape_at s.setup i).size bytes) s.contents t.contents r.contents ∙
      ap (λ u. cover o (change_at i (filled (shape_at u i).size bytes) t.contents)) r.setup)

  pub set_input_alike : (n : ℕ) (bytes : List ℕ) → Alike A o (set_input_effect n bytes s) (set_input_effect n bytes t)
  unfolding set_input_effect
  set_input_alike n bytes =
      subst (λ x. Alike A o (input_set bytes s x) (input_set bytes t (place_of is_input t.setup n))) (sym (ap (λ u. place_of is_input u n) r.setup))
      (input_set_alike bytes (place_of is_input t.setup n))

  -- RECEIVE, from another address
  module _ (now from : ℕ) (f : Frame) (other : eqb from A ≡ false) where
    meant_other : (c : Conn) → meant_for from f c ≡ true → eqb c.fixed.originator A ≡ false
    meant_other c e = cc (eqb_true c.fixed.originator from (and_right (eqb c.fixed.otid.0 f.id.0) (eqb c.fixed.originator from) e), other)

    hear_hide : (l : List Conn) → change_first (meant_for from f) (hear now f) (map (hide A) l) ≡ map (hide A) (change_first (meant_for from f) (hear now f) l)
    hear_hide l =
        ListLaws.change_map (hide A) (meant_for from f) (meant_for from f) (λ c. refl) (hear now f) (hear now f)
        (λ c e. ap (hear now f) (hide_bare A c (meant_other c e)) ∙ sym (hide_bare A (hear now f c) (ap (λ (x : Fixed). eqb x.originator A) (hear_fixed now f c) ∙ meant_other c e))) l

    found_hide : (l : List Conn) → find (meant_for from f) (map (hide A) l) ≡ find (meant_for from f) l
    found_hide [] = refl
    found_hide (x ∷ xs) = by_cases (meant_for from f x) (λ e. cc (hide_bare A x (meant_other x e))) (λ e. cc (found_hide xs))

    delivered_alike : (x : Option Conn) →
        cover o (maybe s.contents (λ c. delivered s.setup f c s.contents) x) ≡ cover o (maybe t.contents (λ c. delivered t.setup f c t.contents) x)
    delivered_alike None = r.contents
    delivered_alike (Some c) =
        ap (λ u. cover o (delivered u f c s.contents)) r.setup ∙
        by_cases (taken t.setup f c)
        (λ e. rw e (change_alike o c.fixed.output (deliver f) s.contents t.contents r.contents))
        (λ e. rw e r.contents)

    pub received_alike : Alike A o (received now from f s) (received now from f t)
    unfolding received
    received_alike =
        record {
          setup = r.setup;
          contents =
              delivered_alike (find (meant_for from f) s.table) ∙
              ap (λ x. cover o (maybe t.contents (λ c. delivered t.setup f c t.contents) x))
              (blind_alike A (find (meant_for from f)) found_hide s.table t.table r.table);
          table = sym (hear_hide s.table) ∙ ap (change_first (meant_for from f) (hear now f)) r.table ∙ hear_hide t.table;
          next_id = r.next_id;
          counters = r.counters;
        }

  frame_alike : (now from : ℕ) → eqb from A ≡ false → (x : Option Frame) → Alike A o (maybe s (λ f. received now from f s) x) (maybe t (λ f. received now from f t) x)
  frame_alike now from n None = r
  frame_alike now from n (Some f) = received_alike now from f n

  pub receive_alike : (now from : ℕ) (bytes : List ℕ) → eqb from A ≡ false → Alike A o (receive_effect now from bytes s) (receive_effect now from bytes t)
  unfolding receive_effect
  receive_alike now from bytes n = frame_alike now from n (frame_of bytes (io_of bytes))

-- a frame's data is taken of an owner only
pub taken_owner : (u : Setup) (f : Frame) (c : Conn) → taken u f c ≡ true → is_owner c.fixed.kind ≡ true
unfolding taken
taken_owner u f c e =
    let a = and_left (newer c.heard f.sequence && has_cip f c && not (repeats f c.heard)) (right_size u f c.fixed) e in
    let b = and_right (newer c.heard f.sequence) (has_cip f c) (and_left (newer c.heard f.sequence && has_cip f c) (not (repeats f c.heard)) a) in
    and_left (is_owner c.fixed.kind) (leb 2 (length f.payload)) b

-- RECEIVE, from that address: nothing to be seen
module _ (A : ℕ) (o : ℕ → Bool) (now from : ℕ) (that : eqb from A ≡ true) (s : State) (covers : Covers A o s.table) where
  module _ (f : Frame) where
    meant_that : (c : Conn) → meant_for from f c ≡ true → eqb c.fixed.originator A ≡ true
    meant_that c e = cc (eqb_true c.fixed.originator from (and_right (eqb c.fixed.otid.0 f.id.0) (eqb c.fixed.originator from) e), that)

    hear_unseen : (c : Conn) → meant_for from f c ≡ true → hide A (hear now f c) ≡ hide A c
    unfolding hear
    hear_unseen c e = let m = meant_that c e in either_way (λ x. hide A x ≡ hide A c) (newer c.heard f.sequence) (rw m refl) refl

    delivered_unseen : (c : Conn) → meant_for from f c ≡ true → stray A o c ≡ false → cover o (delivered s.setup f c s.contents) ≡ cover o s.contents
    delivered_unseen c m n =
        by_cases (taken s.setup f c)
        (λ e. let a = meant_that c m in
        let b = taken_owner s.setup f c e in
        let k : o c.fixed.output ≡ true = by_cases (o c.fixed.output) (λ y. y) (λ y. clash true refl (cc)) in
        rw e (change_unseen o c.fixed.output (deliver f) s.contents k))
        (λ e. rw e refl)

    pub received_unseen : Alike A o (received now from f s) s
    unfolding received
    received_unseen =
        record {
          setup = refl;
          contents =
              ListLaws.found_is s.contents (λ c. delivered s.setup f c s.contents) (meant_for from f) (λ c. stray A o c ≡ false) (λ x. cover o x ≡ cover o s.contents)
              refl delivered_unseen s.table (ListLaws.none_passes (stray A o) s.table covers);
          table = ListLaws.change_unseen (hide A) (meant_for from f) (hear now f) hear_unseen s.table;
          next_id = refl;
          counters = refl;
        }

  frame_unseen : (x : Option Frame) → Alike A o (maybe s (λ f. received now from f s) x) s
  frame_unseen None = itself A o s
  frame_unseen (Some f) = received_unseen f

  pub receive_unseen : (bytes : List ℕ) → Alike A o (receive_effect now from bytes s) s
  unfolding receive_effect
  receive_unseen bytes = frame_unseen (frame_of bytes (io_of bytes))
