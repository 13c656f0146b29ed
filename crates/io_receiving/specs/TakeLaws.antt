-- Data at an output: what code leaves is the store of what the rule says.
use Rattle.std.specs.Prelude.{ℕ, ◌+◌, ◌*◌, ◌-◌, ◌/◌, ◌%◌, ◌≤◌, ◌<◌, Bool, ◌&&◌, ◌||◌, ◌≡◌, refl, get_or, take, drop}
use Rattle.std.proofs.Math.Bool.{true, false, not}
use Rattle.std.specs.Bool.{beq}
use mathlib.Core.List.{List, [], ◌∷◌}
use Rattle.std.proofs.Math.Path.{ap}
use Rattle.std.proofs.Common.{sym, ◌∙◌, subst, arith, length-drop, set-set, get_or-set_same}
use borrow.Author.Tests.{le-ltb, lt-ltb, eq-eqb, ne_eqb}
use Rattle.std.proofs.Math.Dec.{eqb, ltb}
use Rattle.std.proofs.Math.ListN.{length, set}
use Rattle.std.proofs.lemmas.List.Edits.{sets}
use Rattle.std.proofs.Math.Seq.{set-get_or}
use Rattle.base_cells.specs.Records.{to_bool}
use Rattle.base_tables.specs.Ring.{sets_same}
use Rattle.base_copies.specs.Same.{Tells}
use Rattle.rules.specs.Lists.{same}
use Rattle.rules.specs.State.{Shape, Content, State, content_at, no_content, shape_at, with_contents}
use Rattle.rules.specs.Events.{pushed_all}
use Rattle.rules.specs.Receiving.{Frame, run_bit, data_of, changes, deliver}
use Rattle.rules.specs.declared.Event.TheVariants.{OutputChanged}
use Rattle.state_rules.specs.Setups.{shape_in}
use Rattle.state_rules.specs.Places.{data_from, mark_at, assemblies_of}
use Rattle.state_rules.specs.Bits.{run_in, notified_in}
use Rattle.state_rules.specs.Image.{store}
use Rattle.state_image.specs.Fits.{Suits}
use Rattle.state_image.specs.Holds.{Holds, Ready, Becomes, assemblies_held, shape_held, run_held, notified_held, bytes_held}
use Rattle.state_image.specs.Kept.{suits_content}
use Rattle.state_image.specs.Changes.{BytesBecome, bytes_as, mark_as, marked, bytes_become}
use Rattle.state_events.specs.Pushes.{event_told}
use Rattle.io_receiving.specs.DecisionLaws.{same_eq, told_same}
use Rattle.io_receiving.specs.Steps.{Replaces, TakesIn, Offers, told, accepted, offered}

-- ---- put_data

module _ (s : List ℕ) (i : ℕ) (p : i < assemblies_of s) (d : List ℕ) (v : Bool) (t : Tells v (take (length d) (drop (data_from + i * 512) s) ≡ d)) where
  told_held : (st : State) (l : List ℕ) → Holds s st l → length d ≡ length (content_at st i).bytes → v ≡ same (content_at st i).bytes d
  told_held st l h n =
      let m = assemblies_held s st l h in
      told_same v (take (length d) (drop (data_from + i * 512) s)) d t
      ∙ ap (λ (z : List ℕ). same z d) (ap (λ (j : ℕ). take j (drop (data_from + i * 512) s)) n ∙ bytes_held s st l h i (omega arith))

  -- the same bytes, put, would leave what stands there
  pub data_same : v ≡ true → Ready s → length d ≤ 512 → Replaces i d s s false
  data_same e r q st l h n =
      let w = r.long in let b = r.assemblies in
      let a : ℕ = data_from + i * 512 in
      let there : s ≡ sets s a d = sym (ap (sets s a) (sym (t.0 e)) ∙ sets_same s a (length d) (omega arith)) in
      record { is = there ∙ bytes_become s i d p st l h n; changed = ap not (sym e ∙ told_held st l h n) }

  pub data_new : v ≡ false → (x : List ℕ) → BytesBecome i d s x → Replaces i d s x true
  data_new e x b st l h n = record { is = b st l h n; changed = ap not (sym e ∙ told_held st l h n) }

-- ---- take_in

not_and : (x y : Bool) → not x || not y ≡ not (x && y)
not_and true y = refl
not_and false y = refl

not_false_is : (b : Bool) → not b ≡ false → b ≡ true
not_false_is true e = refl
not_false_is false e = absurd (let z : ◌≡◌ {A = ℕ} 0 1 = cc in omega arith)

or_left : (x y : Bool) → x || y ≡ false → x ≡ false
or_left true y e = e
or_left false y e = refl

module _ (f : Frame) (o : ℕ) (st : State) where
  same_state : changes f (content_at st o) ≡ false → accepted f o st ≡ st
  unfolding accepted deliver pushed_all
  same_state e =
      let c : set st.contents o (deliver f (content_at st o)) ≡ st.contents =
      ap (set st.contents o) (rw e) ∙ set-get_or st.contents o no_content in
      let v : told f o st ≡ [] = rw e in
      λ j. record { setup = st.setup; contents = c j; table = st.table; events = pushed_all (v j) st.events; fault = st.fault; next_id = st.next_id; counters = st.counters }

  abbrev fresh : State
  fresh = with_contents (set st.contents o (record { bytes = data_of f; run = run_bit f; notified = true })) st

  quiet_state : changes f (content_at st o) ≡ true → (content_at st o).notified ≡ true → accepted f o st ≡ fresh
  unfolding accepted deliver pushed_all
  quiet_state e n =
      let c : deliver f (content_at st o) ≡ record { bytes = data_of f; run = run_bit f; notified = true } = rw e in
      let v : told f o st ≡ [] = rw (e, n) in
      λ j. record { setup = st.setup; contents = set st.contents o (c j); table = st.table; events = pushed_all (v j) st.events; fault = st.fault; next_id = st.next_id; counters = st.counters }

  told_state : changes f (content_at st o) ≡ true → (content_at st o).notified ≡ false → accepted f o st ≡ event_told (OutputChanged (shape_at st.setup o).instance) fresh
  unfolding accepted deliver pushed_all
  told_state e n =
      let c : deliver f (content_at st o) ≡ record { bytes = data_of f; run = run_bit f; notified = true } = rw e in
      let v : told f o st ≡ OutputChanged (shape_at st.setup o).instance ∷ [] = rw (e, n) in
      λ j. record { setup = st.setup; contents = set st.contents o (c j); table = st.table; events = pushed_all (v j) st.events; fault = st.fault; next_id = st.next_id; counters = st.counters }

module _ (s : List ℕ) (o : ℕ) (p : o < assemblies_of s) (d : List ℕ) (was : Bool) (ew : was ≡ run_in (mark_at s o))
    (run : Bool) (er : run ≡ eqb (get_or d 2 0 % 2) 1) (s₁ : List ℕ) (ch : Bool) (x : List ℕ) (ex : x ≡ drop 6 d) (rep₀ : Replaces o x s s₁ ch)
    (b : Bool) (eb : b ≡ ch || not (beq was run)) where
  rep : Replaces o (drop 6 d) s s₁ ch
  rep = subst (λ (z : List ℕ). Replaces o z s s₁ ch) ex rep₀

  module _ (f : Frame) (ef : f.payload ≡ d) (st : State) (l : List ℕ) (h : Holds s st l) (n : length d ≡ length (content_at st o).bytes + 6) where
    abbrev old : Content
    old = content_at st o

    there : o < length st.contents
    there = let e = assemblies_held s st l h in omega arith

    long : length (drop 6 d) ≡ length (content_at st o).bytes
    long = length-drop 6 d ∙ omega arith

    data_is : drop 6 d ≡ data_of f
    data_is = ap (drop 6) (sym ef)

    run_is : run ≡ run_bit f
    run_is = er ∙ ap (λ (z : List ℕ). eqb (get_or z 2 0 % 2) 1) (sym ef)

    was_is : was ≡ (content_at st o).run
    was_is = ew ∙ run_held s st l h o there

    test_is : b ≡ changes f (content_at st o)
    unfolding changes
    test_is =
        eb
        ∙ (λ j. (rep st l h long).changed j || not (beq (was_is j) (run_is j)))
        ∙ (λ j. not (same (content_at st o).bytes (data_is j)) || not (beq (content_at st o).run (run_bit f)))
        ∙ not_and (same (content_at st o).bytes (data_of f)) (beq (content_at st o).run (run_bit f))

    pub take_same : b ≡ false → s₁ ≡ store (accepted f o st) l
    take_same e =
        let c : ch ≡ false = or_left ch (not (beq was run)) (sym eb ∙ e) in
        let w : (content_at st o).bytes ≡ drop 6 d =
        same_eq (content_at st o).bytes (drop 6 d) (not_false_is (same (content_at st o).bytes (drop 6 d)) (sym (rep st l h long).changed ∙ c)) in
        let k : bytes_as o (drop 6 d) st ≡ st =
        ap (λ (z : List ℕ). bytes_as o z st) (sym w) ∙ ap (λ (z : List Content). with_contents z st) (set-get_or st.contents o no_content) in
        (rep st l h long).is ∙ ap (λ (z : State). store z l) (k ∙ sym (same_state f o st (sym test_is ∙ e)))

    held : Holds s₁ (bytes_as o (drop 6 d) st) l
    held = record { is = (rep st l h long).is; suits = suits_content st l h.suits o (record { bytes = drop 6 d; run = old.run; notified = old.notified }) long }

    marked_is : mark_as o run true (bytes_as o (drop 6 d) st) ≡ fresh f o st
    marked_is =
        let x : Content = record { bytes = drop 6 d; run = old.run; notified = old.notified } in
        let g : get_or (set st.contents o x) o no_content ≡ x = get_or-set_same st.contents o x no_content there in
        ap (λ (z : List Content). with_contents z st)
        (ap (λ (z : Content). set (set st.contents o x) o (marked run true z)) g
        ∙ set-set st.contents o x (marked run true x)
        ∙ (λ j. set st.contents o (record { bytes = data_is j; run = run_is j; notified = true })))

    module _ (s₂ : List ℕ) (be : Becomes s₁ s₂ (mark_as o run true)) (e : b ≡ true) where
      is₂ : s₂ ≡ store (fresh f o st) l
      is₂ = be (bytes_as o (drop 6 d) st) l held ∙ ap (λ (z : State). store z l) marked_is

      -- whether an event waits already
      module _ (waits : Bool) (ew' : waits ≡ notified_in (mark_at s o)) where
        told_is : waits ≡ (content_at st o).notified
        told_is = ew' ∙ notified_held s st l h o there

        pub take_quiet : waits ≡ true → s₂ ≡ store (accepted f o st) l
        take_quiet y = is₂ ∙ ap (λ (z : State). store z l) (sym (quiet_state f o st (sym test_is ∙ e) (sym told_is ∙ y)))

        pub take_told : waits ≡ false → (v : ℕ) → v ≡ (shape_in s o).instance → (s₃ : List ℕ) → Becomes s₂ s₃ (event_told (OutputChanged v)) → s₃ ≡ store (accepted f o st) l
        take_told y v ev s₃ bp =
            let w : Suits (fresh f o st) l = suits_content st l h.suits o (record { bytes = data_of f; run = run_bit f; notified = true }) (ap length (sym data_is) ∙ long) in
            bp (fresh f o st) l (record { is = is₂; suits = w })
            ∙ ap (λ (z : ℕ). store (event_told (OutputChanged z) (fresh f o st)) l) (ev ∙ ap (λ (z : Shape). z.instance) (shape_held s st l h o p))
            ∙ ap (λ (z : State). store z l) (sym (told_state f o st (sym test_is ∙ e) (sym told_is ∙ y)))

-- ---- offer

module _ (s : List ℕ) (o : ℕ) (d : List ℕ) (n : ℕ) (en : n ≡ assemblies_of s) where
  pub offer_nowhere : n ≤ o → Offers o d s s
  unfolding offered
  offer_nowhere p f ef st l h =
      let a = assemblies_held s st l h in
      let c = h.suits.fits.contents in
      let t : ltb o (length st.setup.assemblies) ≡ false = le-ltb o (length st.setup.assemblies) (omega arith) in
      h.is ∙ ap (λ (z : State). store z l) (sym (rw t))

  module _ (p : o < n) (v : ℕ) (ev : v ≡ (shape_in s o).size) where
    in_range : (st : State) (l : List ℕ) → Holds s st l → ltb o (length st.setup.assemblies) ≡ true
    in_range st l h =
        let a = assemblies_held s st l h in
        let c = h.suits.fits.contents in
        lt-ltb o (length st.setup.assemblies) (omega arith)

    size_is : (st : State) (l : List ℕ) → Holds s st l → v ≡ (shape_at st.setup o).size
    size_is st l h = ev ∙ ap (λ (z : Shape). z.size) (shape_held s st l h o (omega arith))

    pub offer_other : (length d ≡ v + 6 → ⊥) → Offers o d s s
    unfolding offered
    offer_other ne f ef st l h =
        let e : eqb (length f.payload) ((shape_at st.setup o).size + 6) ≡ false =
        ne_eqb (length f.payload) ((shape_at st.setup o).size + 6) (λ q. ne (let a = ap length ef in let b = size_is st l h in omega arith)) in
        h.is ∙ ap (λ (z : State). store z l) (sym (rw (in_range st l h, e)))

    pub offer_taken : length d ≡ v + 6 → (s₂ : List ℕ) → TakesIn o d s s₂ → Offers o d s s₂
    unfolding offered
    offer_taken q s₂ b f ef st l h =
        let e : eqb (length f.payload) ((shape_at st.setup o).size + 6) ≡ true =
        eq-eqb (length f.payload) ((shape_at st.setup o).size + 6) (let a = ap length ef in let w = size_is st l h in omega arith) in
        b f ef st l h (let w = size_is st l h in let z = h.suits.fits.sized o in omega arith)
        ∙ ap (λ (z : State). store z l) (sym (rw (in_range st l h, e)))
