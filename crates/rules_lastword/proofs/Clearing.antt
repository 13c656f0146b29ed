-- WHAT CLEARS RUN, and what keeps it: the promise's consequences, one call further. A frame decides it, a removal clears it, silence clears it;
-- and what is in run was heard.
use Rattle.std.specs.Prelude.{◌≡◌, List, [], ◌∷◌, ◌++◌, Bool, false, cond, not, ◌&&◌, ◌||◌, ℕ, ◌+◌, ◌-◌, ◌^◌, ◌≤◌, ◌<◌, Option, Some, None}
use Rattle.std.proofs.Math.Path.{refl, sym, ap, subst}
use Rattle.std.proofs.Common.{◌∙◌, arith}
use Rattle.std.proofs.Math.Bool.{true}
use borrow.Author.Tests.{ltb-false, lt-ltb}
use Rattle.wire_rules.specs.Frames.{io_of}
use Rattle.wire_rules.specs.Opens.{close_of}
use Rattle.rules.specs.Lists.{maybe, is_some}
use Rattle.rules_laws.specs.ListLaws.{by_cases, clash}
use Rattle.rules_laws.specs.ExpiryLaws.{same_test}
use Rattle.rules.specs.State.{Setup, shape_at, State, content_at, triad_is, is_output}
use Rattle.rules.specs.Setup.{fresh}
use Rattle.rules.specs.Answers.{is_yes, timely}
use Rattle.rules.specs.Checks.{place_of}
use Rattle.rules.specs.Receiving.{Frame, frame_of, receive_answer, receive_call}
use Rattle.rules.specs.Removal.{expire_answer, expire_call}
use Rattle.rules.specs.Calls
use Rattle.rules.specs.Calls.{Call, answer, next, run}
use Rattle.rules_isolation.specs.Survive.{triad_is_refl}
use Rattle.rules_steps.specs.Names.{Triad}
use Rattle.rules_steps.specs.Steps.{log, news, learnt, history, history_next, run_next}
use Rattle.rules_steps.proofs.Steps.{run_follows}
use Rattle.rules_lastword.specs.Words.{Contact, is_news, speaks, noted, silent, Word, counts, fits, says_run, takes, asks_for, word_of, no_word, in_run, opens, early}
use Rattle.rules_lastword.specs.Knows.{or_yes}
use Rattle.rules_lastword.specs.LastWord.{accepted, word}
use Rattle.rules_lastword.proofs.LastWord.{lane_obeys}
use Rattle.rules_lastword.specs.Clearing.{before, told, HeardLately, Recorded}

-- ---- of a word alone

-- what was taken from an owner was recorded
abbrev spoken : Word → Bool
spoken w = not (is_some w.said) || maybe true (λ m. is_some m.last) w.owner

frame_spoken : (size t from : ℕ) (f : Frame) (o : Option Contact) (x : Option Frame) → not (is_some x) || maybe true (λ m. is_some m.last) o ≡ true →
    not (is_some (cond (maybe false (counts size from f) o) (Some f) x)) || maybe true (λ m. is_some m.last) (maybe None (λ m. Some (cond (speaks from f m) (noted t f m) m)) o) ≡ true
frame_spoken size t from f None x h = h
frame_spoken size t from f (Some m) x h =
    by_cases (speaks from f m)
    (λ y. rw y (or_yes (not (is_some (cond (is_news m.cip f && fits size f) (Some f) x)))))
    (λ n. rw n h)

close_spoken : (k : Triad) (o : Option Contact) (x : Option Frame) → not (is_some x) || maybe true (λ m. is_some m.last) o ≡ true →
    not (is_some x) || maybe true (λ m. is_some m.last) (maybe None (λ m. cond (triad_is k m.triad) None (Some m)) o) ≡ true
close_spoken k None x h = h
close_spoken k (Some m) x h = by_cases (triad_is k m.triad) (λ y. rw y (or_yes (not (is_some x)))) (λ n. rw n h)

expire_spoken : (t : ℕ) (o : Option Contact) (x : Option Frame) → not (is_some x) || maybe true (λ m. is_some m.last) o ≡ true →
    not (is_some x) || maybe true (λ m. is_some m.last) (maybe None (λ m. cond (silent t m) None (Some m)) o) ≡ true
expire_spoken t None x h = h
expire_spoken t (Some m) x h = by_cases (silent t m) (λ y. rw y (or_yes (not (is_some x)))) (λ n. rw n h)

open_spoken : (b : Bool) (m : Contact) (o : Option Contact) (x : Option Frame) → not (is_some x) || maybe true (λ m. is_some m.last) o ≡ true →
    not (is_some (cond b None x)) || maybe true (λ m. is_some m.last) (cond b (Some m) o) ≡ true
open_spoken true m o x h = refl
open_spoken false m o x h = h

always_spoken : (u : Setup) (n size : ℕ) (cs : List Call) (s : State) (w : Word) → spoken w ≡ true → spoken (history (word_of u n size) (log cs s) w) ≡ true
always_spoken u n size cs s w h =
    run_follows (word_of u n size) (λ w s. spoken w ≡ true)
    (record {
      quiet = λ w. record { producing = λ t s h. h; setting = λ m j bytes s e h. h; reading = λ m j s e h. h; noting = λ s h. h };
      opening = λ t request q g p s w e h. open_spoken (asks_for u n request q) _ w.owner w.said h;
      closing = λ k c s w e h. close_spoken k w.owner w.said h;
      expiring = λ t s w h. expire_spoken t w.owner w.said h;
      hearing = λ t from f s w h. frame_spoken size t from f w.owner w.said h;
    }) cs s w h

-- ---- after one call
module _ (u : Setup) (n i : ℕ) (there : place_of is_output u n ≡ Some i) (seed : ℕ) (small : seed < 2 ^ 32) (cs : List Call) (few : early (accepted u n i there seed small cs) ≡ true) where
  abbrev told_by : Call → Word
  told_by c = learnt (word_of u n (shape_at u i).size) (news c (answer c (before u n i there seed small cs few))) (told u n i there seed small cs few)

  -- a call that opens nothing
  abbrev OpensNone : Call → Type 0
  OpensNone c = (d : ℕ) → learnt opens (news c (answer c (run cs (fresh u seed)))) d ≡ d

  obeys_next : (c : Call) → OpensNone c → (content_at (next c (before u n i there seed small cs few)) i).run ≡ in_run (told_by c)
  obeys_next c none_open =
      let few' : early (accepted u n i there seed small (cs ++ (c ∷ []))) ≡ true = ap early (history_next opens cs c (fresh u seed) 0 ∙ none_open (accepted u n i there seed small cs)) ∙ few in
      ap (λ (s : State). (content_at s i).run) (sym (run_next cs c (fresh u seed))) ∙ (lane_obeys u n i there seed small (cs ++ (c ∷ [])) few').run ∙
      ap in_run (history_next (word_of u n (shape_at u i).size) cs c (fresh u seed) no_word)

  -- A FRAME DECIDES: after a frame that is taken, run is bit 0 of its header
  frame_says : (size t from : ℕ) (f : Frame) (o : Option Contact) (x : Option Frame) → maybe false (counts size from f) o ≡ true →
      maybe false (λ m. maybe false says_run (cond (maybe false (counts size from f) o) (Some f) x)) (maybe None (λ m. Some (cond (speaks from f m) (noted t f m) m)) o) ≡ says_run f
  frame_says size t from f None x y = clash true refl (sym y)
  frame_says size t from f (Some m) x y = ap (λ b. maybe false says_run (cond b (Some f) x)) y

  frame_opens_none : (t from : ℕ) (frame : List ℕ) (f : Frame) → timely t ≡ true → frame_of frame (io_of frame) ≡ Some f → OpensNone (Calls.Receive t from frame)
  unfolding receive_call receive_answer
  frame_opens_none t from frame f y e d = rw (y, e) refl

  frame_told_lem : (t from : ℕ) (frame : List ℕ) (f : Frame) → timely t ≡ true → frame_of frame (io_of frame) ≡ Some f →
      told_by (Calls.Receive t from frame) ≡ (word_of u n (shape_at u i).size).on_frame t from f (told u n i there seed small cs few)
  unfolding receive_call receive_answer
  frame_told_lem t from frame f y e = rw (y, e) refl

  pub frame_decides : (t from : ℕ) (frame : List ℕ) (f : Frame) → timely t ≡ true → frame_of frame (io_of frame) ≡ Some f → takes (shape_at u i).size from f (told u n i there seed small cs few) ≡ true →
      (content_at (next (Calls.Receive t from frame) (before u n i there seed small cs few)) i).run ≡ says_run f
  frame_decides t from frame f y e k =
      obeys_next (Calls.Receive t from frame) (frame_opens_none t from frame f y e) ∙ ap in_run (frame_told_lem t from frame f y e) ∙
      frame_says (shape_at u i).size t from f (told u n i there seed small cs few).owner (told u n i there seed small cs few).said k

  -- CLEARED BY A FRAME whose header bit is clear
  pub cleared_by_a_frame : (t from : ℕ) (frame : List ℕ) (f : Frame) → timely t ≡ true → frame_of frame (io_of frame) ≡ Some f → takes (shape_at u i).size from f (told u n i there seed small cs few) ≡ true →
      says_run f ≡ false → (content_at (next (Calls.Receive t from frame) (before u n i there seed small cs few)) i).run ≡ false
  cleared_by_a_frame t from frame f y e k z = frame_decides t from frame f y e k ∙ z

  -- CLEARED BY ITS OWNER'S CLOSE
  pub cleared_by_a_close : (request : List ℕ) (room : ℕ) (m : Contact) → is_yes (answer (Calls.Close request room) (before u n i there seed small cs few)) ≡ true → (told u n i there seed small cs few).owner ≡ Some m →
      close_of request ≡ Some m.triad → (content_at (next (Calls.Close request room) (before u n i there seed small cs few)) i).run ≡ false
  cleared_by_a_close request room m y o e =
      obeys_next (Calls.Close request room) (λ d. rw (y, e) refl) ∙ ap in_run by_close
    where
      by_close : told_by (Calls.Close request room) ≡ record { owner = None; said = (told u n i there seed small cs few).said; taken = (told u n i there seed small cs few).taken }
      by_close = rw (y, e, o, triad_is_refl m.triad) refl

  -- CLEARED BY SILENCE: after an expiry call later than its owner was heard last, plus the timeout
  pub cleared_by_silence : (t : ℕ) (m : Contact) → timely t ≡ true → (told u n i there seed small cs few).owner ≡ Some m → m.at + m.timeout < t →
      (content_at (next (Calls.Expire t) (before u n i there seed small cs few)) i).run ≡ false
  unfolding expire_call expire_answer
  cleared_by_silence t m y o k =
      let z : silent t m ≡ true = same_test m.timeout m.at t ∙ lt-ltb (m.at + m.timeout) t k in
      obeys_next (Calls.Expire t) (λ d. rw y refl) ∙ ap in_run (by_silence z)
    where
      by_silence : silent t m ≡ true → told_by (Calls.Expire t) ≡ record { owner = None; said = (told u n i there seed small cs few).said; taken = (told u n i there seed small cs few).taken }
      by_silence z = rw (y, o, z) refl

-- ---- WHAT IS IN RUN WAS HEARD
recorded_if : (m : Contact) (x : Option Frame) → maybe false says_run x ≡ true → not (is_some x) || is_some m.last ≡ true → is_some m.last ≡ true
recorded_if m None y h = clash true refl (sym y)
recorded_if m (Some f) y h = h

owner_recorded : (o : Option Contact) (x y : Option Frame) → not (is_some x) || maybe true (λ m. is_some m.last) o ≡ true → maybe false (λ m. maybe false says_run x) o ≡ true →
    Recorded (record { owner = o; said = x; taken = y })
owner_recorded None x y h k = clash true refl (sym k)
owner_recorded (Some m) x y h k = record { who = m; owner = refl; recorded = recorded_if m x k h }

not_silent : (t : ℕ) (m : Contact) → silent t m ≡ false → t ≤ m.at + m.timeout
not_silent t m k = let h = ltb-false m.timeout (t - m.at) k in omega arith

lately_heard : (t : ℕ) (o : Option Contact) (x y : Option Frame) → not (is_some x) || maybe true (λ m. is_some m.last) o ≡ true →
    let o' = maybe None (λ m. cond (silent t m) None (Some m)) o in
    maybe false (λ m. maybe false says_run x) o' ≡ true → HeardLately t (record { owner = o'; said = x; taken = y })
lately_heard t None x y h k = clash true refl (sym k)
lately_heard t (Some m) x y h k =
    by_cases (silent t m)
    (λ z. clash true refl (sym (sym (ap (λ b. maybe false (λ (m : Contact). maybe false says_run x) (cond b None (Some m))) z) ∙ k)))
    (λ z. let run = sym (ap (λ b. maybe false (λ (m : Contact). maybe false says_run x) (cond b None (Some m))) z) ∙ k in
    record { who = m; owner = ap (λ b. cond b None (Some m)) z; recorded = recorded_if m x run h; lately = not_silent t m z })

module _ (u : Setup) (n i : ℕ) (there : place_of is_output u n ≡ Some i) (seed : ℕ) (small : seed < 2 ^ 32) (cs : List Call) (few : early (accepted u n i there seed small cs) ≡ true) where
  -- IN RUN MEANS that the owner's frames were recorded
  pub in_run_was_recorded : (content_at (run cs (fresh u seed)) i).run ≡ true → Recorded (word u n i there seed small cs)
  in_run_was_recorded y =
      let w = word u n i there seed small cs in
      owner_recorded w.owner w.said w.taken (always_spoken u n (shape_at u i).size cs (fresh u seed) no_word refl) (sym (lane_obeys u n i there seed small cs few).run ∙ y)

  -- AFTER AN EXPIRY CALL at time t, what is in run has an owner with a recorded frame at most its timeout before t
  pub in_run_was_heard : (t : ℕ) → timely t ≡ true → (content_at (next (Calls.Expire t) (run cs (fresh u seed))) i).run ≡ true →
      HeardLately t (word u n i there seed small (cs ++ (Calls.Expire t ∷ [])))
  unfolding expire_call expire_answer
  in_run_was_heard t y k =
      let w = word u n i there seed small cs in
      let w' : Word = (word_of u n (shape_at u i).size).on_expire t w in
      let z : learnt (word_of u n (shape_at u i).size) (news (Calls.Expire t) (answer (Calls.Expire t) (run cs (fresh u seed)))) w ≡ w' = rw y refl in
      let e : word u n i there seed small (cs ++ (Calls.Expire t ∷ [])) ≡ w' = history_next (word_of u n (shape_at u i).size) cs (Calls.Expire t) (fresh u seed) no_word ∙ z in
      let r : in_run w' ≡ true = sym (obeys_next u n i there seed small cs few (Calls.Expire t) (λ d. rw y refl) ∙ ap in_run z) ∙ k in
      subst (HeardLately t) (sym e) (lately_heard t w.owner w.said w.taken (always_spoken u n (shape_at u i).size cs (fresh u seed) no_word refl) r)
