-- What holds of every path: its segments cover it, every link and data segment lies inside its own segment, and a broken
-- offset lies inside the path.
use Prim.Native.Nat.{ℕ, zero, suc, ◌+◌, ◌/◌, ◌%◌, ◌<◌, ◌≤◌}
use Rattle.std.specs.Prelude.{◌≡◌, refl, Bool, length, T, leb, ltb, eqb, Ok}
use Rattle.std.proofs.Common.{sym, ◌∙◌, subst, leb→le}
use Rattle.std.proofs.Math.Path.{ap}
use Rattle.std.proofs.Math.Bool.{true, false}
use mathlib.Core.List.{List, [], ◌∷◌, map}
use Rattle.std.proofs.Math.ListN.{get_or}
use native.Mathlib.Omega.{arith}
use borrow.Author.Tests.{ltb-true, ltb-false, eqb-true, eqb-false, le-ltb, eq-eqb}
use Rattle.base_cells.specs.Pick.{pick}
use Rattle.wire_rules.specs.Segments.{up_to, even_up, port_offset, link_offset, link_size, port_at, logical_at, key_at, data_at, between, seg_at, path_max, step_at, Segs, segs, broken, cons, follow, segs_from, segs_of}
use Rattle.wire_rules.specs.ConnectionPath.{gather, last, place, connection_path, path_read, path_of}
use Rattle.wire_rules.specs.declared.ConnectionPath.{ConnectionPath}
use Rattle.wire_rules.specs.declared.Key.{Key}
use Rattle.wire_rules.specs.declared.Seg.{Seg}
use Rattle.wire_rules.specs.declared.Seg.TheVariants.{Port, Class, Instance, Point, Attribute, Keyed, Data}
use Rattle.wire_rules.specs.declared.SegStep.{SegStep}
use Rattle.wire_rules.specs.declared.SegStep.TheVariants.{Segment, End, Broken}

-- ---- what a reader finds at a place

-- the place that a segment names lies between its start and its end
pub data Lies (at next : ℕ) : Seg → Type 0 where
  link : {p start len : ℕ} → at < start → start + len ≤ next → Lies at next (Port p start len)
  bytes : {start len : ℕ} → at < start → start + len ≤ next → Lies at next (Data start len)
  class : {v : ℕ} → Lies at next (Class v)
  instance : {v : ℕ} → Lies at next (Instance v)
  point : {v : ℕ} → Lies at next (Point v)
  attribute : {v : ℕ} → Lies at next (Attribute v)
  keyed : {k : Key} → Lies at next (Keyed k)

-- a segment ends after its start and within the path; the end is the path's; from a place of the path a broken offset lies below its length
pub data Found (s : List ℕ) (at : ℕ) : SegStep → Type 0 where
  segment : {x : Seg} {next : ℕ} → at < next → next ≤ length s → Lies at next x → Found s at (Segment x next)
  end : at ≡ length s → Found s at End
  breaks : {o : ℕ} → (at ≤ length s → o < length s) → Found s at (Broken o)

module _ (s : List ℕ) (at : ℕ) (here : at < length s) where
  stop : Found s at (Broken at)
  stop = breaks (λ h. here)

  choose : (t : Bool) {a b : SegStep} → Found s at a → Found s at b → Found s at (pick t a b)
  choose true h g = h
  choose false h g = g

  up_to_lem : (x : Seg) (next : ℕ) → at < next → Lies at next x → Found s at (up_to s at x next)
  up_to_lem x next h i = go (leb next (length s)) (leb→le next (length s))
    where
      go : (t : Bool) → (T t → next ≤ length s) → Found s at (pick t (Segment x next) (Broken at))
      go true f = segment h (f tt) i
      go false f = stop

  link_starts : (a : ℕ) → 1 ≤ link_offset a
  unfolding link_offset port_offset
  link_starts a = go (eqb (a / 16) 1)
    where
      go : (t : Bool) → 1 ≤ pick t 2 1 + pick (eqb (a % 16) 15) 2 0
      go true = omega arith
      go false = omega arith

  port_found : Found s at (port_at s at)
  unfolding port_at
  port_found =
      let l : ℕ = link_offset (get_or s at 0) in
      let n : ℕ = link_size (get_or s at 0) (get_or s (at + 1) 0) in
      let h : 1 ≤ l = link_starts (get_or s at 0) in
      up_to_lem _ (at + even_up (l + n)) (omega arith) (link (omega arith) (omega arith))

  logical_found : (kind : ℕ → Seg) → ((v next : ℕ) → Lies at next (kind v)) → Found s at (logical_at s at kind)
  unfolding logical_at
  logical_found kind i =
      choose (eqb (get_or s at 0 % 4) 0) (up_to_lem _ _ (omega arith) (i _ _))
      (choose (eqb (get_or s at 0 % 4) 1) (up_to_lem _ _ (omega arith) (i _ _)) (up_to_lem _ _ (omega arith) (i _ _)))

  key_found : Found s at (key_at s at)
  unfolding key_at
  key_found = choose (eqb (get_or s (at + 1) 0) 4) (up_to_lem _ _ (omega arith) keyed) stop

  data_found : Found s at (data_at s at)
  unfolding data_at
  data_found = up_to_lem _ _ (omega arith) (bytes (omega arith) (omega arith))

  seg_found : Found s at (seg_at s at)
  unfolding seg_at
  seg_found =
      let b : ℕ = get_or s at 0 in
      choose (between 0x00 0x1F b) port_found
      (choose (between 0x20 0x22 b) (logical_found Class (λ v next. class))
      (choose (between 0x24 0x26 b) (logical_found Instance (λ v next. instance))
      (choose (between 0x2C 0x2E b) (logical_found Point (λ v next. point))
      (choose (between 0x30 0x32 b) (logical_found Attribute (λ v next. attribute))
      (choose (eqb b 0x34) key_found
      (choose (eqb b 0x80) data_found stop))))))

pub step_found : (s : List ℕ) (at : ℕ) → Found s at (step_at s at)
unfolding step_at
step_found s at = over (ltb path_max (length s)) refl (eqb at (length s)) refl (ltb at (length s)) refl
  where
    over : (t : Bool) → ltb path_max (length s) ≡ t → (u : Bool) → eqb at (length s) ≡ u → (v : Bool) → ltb at (length s) ≡ v
        → Found s at (pick t (Broken path_max) (pick u End (pick v (seg_at s at) (Broken at))))
    over true e u f v g = breaks (λ h. ltb-true path_max (length s) e)
    over false e true f v g = end (eqb-true at (length s) f)
    over false e false f true g = seg_found s at (ltb-true at (length s) g)
    over false e false f false g =
        breaks (λ h. absurd (eqb-false at (length s) f (let i : length s ≤ at = ltb-false at (length s) g in omega arith)))

pub segment_found : (s : List ℕ) (at : ℕ) (x : Seg) (next : ℕ) → Segment x next ≡ step_at s at → (at < next) × (next ≤ length s)
segment_found s at x next e = ends (subst (Found s at) (sym e) (step_found s at))
  where
    ends : Found s at (Segment x next) → (at < next) × (next ≤ length s)
    ends (segment h g i) = (h, g)

-- ---- the whole path

-- segments with their ends stand one behind the other, from `at` to `to`: each starts where the one before ended
pub data Chain (s : List ℕ) : ℕ → List (Seg × ℕ) → ℕ → Type 0 where
  none : {at : ℕ} → Chain s at [] at
  more : {at next to : ℕ} {x : Seg} {l : List (Seg × ℕ)} → Segment x next ≡ step_at s at → at < next → Lies at next x → Chain s next l to
      → Chain s at ((x, next) ∷ l) to

abbrev pub segment_of : Seg × ℕ → Seg
segment_of e = e.0

-- the segments l cover the path: the first starts at 0 and the last ends at the end
pub record Covers (s : List ℕ) (l : List Seg) : Type 0 where
  pub ends : List (Seg × ℕ)
  pub these : map segment_of ends ≡ l
  pub chain : Chain s 0 ends (length s)

-- what is read from a place on
data Reads (s : List ℕ) (at : ℕ) : Segs → Type 0 where
  whole : (ends : List (Seg × ℕ)) → Chain s at ends (length s) → Reads s at (segs (map segment_of ends))
  stops : {o : ℕ} → o < length s → Reads s at (broken o)

reads : (s : List ℕ) (n at : ℕ) → at ≤ length s → length s < at + n → Reads s at (segs_from n s at)
unfolding segs_from
reads s zero at h g = absurd (omega arith)
reads s (suc n) at h g = by (step_at s at) refl (step_found s at) (λ next. reads s n next)
  where
    one : (x : Seg) (next : ℕ) → Segment x next ≡ step_at s at → at < next → Lies at next x → (r : Segs) → Reads s next r → Reads s at (cons x r)
    one x next e l i (segs m) (whole ends c) = whole ((x, next) ∷ ends) (more e l i c)
    one x next e l i (broken o) (stops b) = stops b

    by : (t : SegStep) → t ≡ step_at s at → Found s at t → ((next : ℕ) → next ≤ length s → length s < next + n → Reads s next (segs_from n s next))
        → Reads s at (follow t (segs_from n s))
    by (Segment x next) e (segment l m i) rest = one x next e l i (segs_from n s next) (rest next m (omega arith))
    by End e (end q) rest = whole [] (rw q none)
    by (Broken o) e (breaks f) rest = stops (f h)

module _ (s : List ℕ) where
  all_read : Reads s 0 (segs_of s)
  unfolding segs_of
  all_read = reads s (length s + 1) 0 (omega arith) (omega arith)

  -- the segments of a path cover it
  pub path_covered : (l : List Seg) → segs_of s ≡ segs l → Covers s l
  path_covered l e = covers (segs l) (subst (Reads s 0) e all_read) refl
    where
      covers : (r : Segs) → Reads s 0 r → r ≡ segs l → Covers s l
      covers (segs m) (whole ends c) q = record { ends = ends; these = cc; chain = c }
      covers (broken o) (stops b) q = absurd (let z : ◌≡◌ {A = ℕ} 0 1 = cc in omega arith)

  -- the offset that a path breaks at lies inside it
  pub broken_inside : (o : ℕ) → segs_of s ≡ broken o → o < length s
  broken_inside o e = stop_at (broken o) (subst (Reads s 0) e all_read) refl
    where
      stop_at : (r : Segs) → Reads s 0 r → r ≡ broken o → o < length s
      stop_at (segs m) (whole ends c) q = absurd (let z : ◌≡◌ {A = ℕ} 0 1 = cc in omega arith)
      stop_at (broken p) (stops b) q = let z : p ≡ o = cc in omega arith

  module _ (short : length s ≤ path_max) where
    end_step : step_at s (length s) ≡ End
    unfolding step_at
    end_step = simp (le-ltb _ _ short, eq-eqb (length s) (length s) refl)

    chain_read : {at : ℕ} {ends : List (Seg × ℕ)} (n : ℕ) → length s < at + n → Chain s at ends (length s) → segs_from n s at ≡ segs (map segment_of ends)
    unfolding segs_from
    chain_read zero g none = absurd (omega arith)
    chain_read (suc n) g none = rw end_step
    chain_read zero g (more {at} e l i c) = absurd (omega (arith, segment_found s at _ _ e))
    chain_read (suc n) g (more e l i c) = rw (← e, chain_read n (omega arith) c)

    -- and a path that segments cover has these segments and no others
    pub covered_path : (l : List Seg) → Covers s l → segs_of s ≡ segs l
    unfolding segs_of
    covered_path l c = chain_read (length s + 1) (omega arith) c.chain ∙ ap segs c.these

-- every one of a list
abbrev pub All : (Seg → Type 0) → List Seg → Type 0
All P [] = Unit
All P (x ∷ l) = P x × All P l

module _ (s : List ℕ) where
  chain_forward : {at to : ℕ} {ends : List (Seg × ℕ)} → Chain s at ends to → at ≤ to
  chain_forward none = omega arith
  chain_forward (more e l i c) = let h = chain_forward c in omega arith

  wider : {at next : ℕ} {x : Seg} (to : ℕ) → next ≤ to → Lies at next x → Lies 0 to x
  wider to h (link {p} {start} {len} a b) = link {start = start} {len = len} (omega arith) (omega arith)
  wider to h (bytes {start} {len} a b) = bytes {start = start} {len = len} (omega arith) (omega arith)
  wider to h class = class
  wider to h instance = instance
  wider to h point = point
  wider to h attribute = attribute
  wider to h keyed = keyed

  chain_inside : {at to : ℕ} {ends : List (Seg × ℕ)} → Chain s at ends to → All (Lies 0 to) (map segment_of ends)
  chain_inside none = tt
  chain_inside (more e l i c) = (wider _ (chain_forward c) i, chain_inside c)

  -- every link and every data segment lies inside the path
  pub places_inside : (l : List Seg) → segs_of s ≡ segs l → All (Lies 0 (length s)) l
  places_inside l e = let c = path_covered s l e in rw (← c.these) (chain_inside c.chain)

-- ---- the data that an open reads

module _ (n : ℕ) where
  last_inside : (d : ℕ × ℕ) → d.0 + d.1 ≤ n → (l : List Seg) → All (Lies 0 n) l → (last d (gather place l)).0 + (last d (gather place l)).1 ≤ n
  unfolding gather last
  last_inside d h [] a = h
  last_inside d h (Port p start len ∷ l) a = last_inside d h l a.1
  last_inside d h (Class v ∷ l) a = last_inside d h l a.1
  last_inside d h (Instance v ∷ l) a = last_inside d h l a.1
  last_inside d h (Point v ∷ l) a = last_inside d h l a.1
  last_inside d h (Attribute v ∷ l) a = last_inside d h l a.1
  last_inside d h (Keyed k ∷ l) a = last_inside d h l a.1
  last_inside d h (Data start len ∷ l) a = last_inside (start, len) (ends a.0) l a.1
    where
      ends : Lies 0 n (Data start len) → start + len ≤ n
      ends (bytes f g) = g

-- the configuration data that an open reads lies inside the path
pub data_inside : (s : List ℕ) (p : ConnectionPath) → Ok p ≡ path_of s → p.datastart + p.datalen ≤ length s
unfolding path_of connection_path
data_inside s p e = go (segs_of s) refl e
  where
    go : (r : Segs) → segs_of s ≡ r → Ok p ≡ path_read r → p.datastart + p.datalen ≤ length s
    go (segs l) q f =
        let d : p.datastart ≡ (last (0, 0) (gather place l)).0 = cc in
        let n : p.datalen ≡ (last (0, 0) (gather place l)).1 = cc in
        let h : (last (0, 0) (gather place l)).0 + (last (0, 0) (gather place l)).1 ≤ length s = last_inside (length s) (0, 0) (omega arith) l (places_inside s l q) in
        omega arith
    go (broken o) q f = absurd (let z : ◌≡◌ {A = ℕ} 0 1 = cc in omega arith)
