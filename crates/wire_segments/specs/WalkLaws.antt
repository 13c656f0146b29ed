-- A walk over a path, for any loop that reads one: what is known at each of its places, and how it goes on.
use Prim.Native.Nat.{ℕ, zero, suc, ◌+◌, ◌<◌, ◌≤◌}
use Rattle.std.proofs.Math.Path.{◌≡◌, refl}
use Rattle.std.proofs.Common.{sym, ◌∙◌, ap}
use mathlib.Core.List.{List, [], ◌∷◌, ◌++◌, append_assoc, append-nil}
use Rattle.std.specs.Prelude.{length}
use native.Mathlib.Omega.{arith}
use Rattle.wire_rules.specs.Segments.{step_at, Segs, segs, broken, cons, segs_from, segs_of}
use Rattle.wire_segments.specs.PathLaws.{segment_found}
use Rattle.wire_rules.specs.declared.Seg.{Seg}
use Rattle.wire_rules.specs.declared.SegStep.TheVariants.{Segment, End, Broken}

-- the segments l, and then the rest
abbrev pub after : List Seg → Segs → Segs
after l (segs m) = segs (l ++ m)
after l (broken o) = broken o

after_one : (l : List Seg) (x : Seg) (r : Segs) → after l (cons x r) ≡ after (l ++ (x ∷ [])) r
after_one l x (segs m) = ap segs (sym (append_assoc l (x ∷ []) m))
after_one l x (broken o) = refl

-- the segments l stand before `at`: the path's segments are these, and then those from `at` on
pub record Passed (s : List ℕ) (at : ℕ) (l : List Seg) : Type 0 where
  pub left : ℕ
  pub inside : at ≤ length s
  pub enough : length s < at + left
  pub same : segs_of s ≡ after l (segs_from left s at)

after_none : (r : Segs) → r ≡ after [] r
after_none (segs m) = refl
after_none (broken o) = refl

pub passed_none : (s : List ℕ) → Passed s 0 []
unfolding segs_of
passed_none s = record { left = length s + 1; inside = omega arith; enough = omega arith; same = after_none (segs_from (length s + 1) s 0) }

module _ (s : List ℕ) (at : ℕ) (l : List Seg) where
  more : (n : ℕ) → length s < at + n → at ≤ length s → segs_of s ≡ after l (segs_from n s at) → (x : Seg) (next : ℕ) → Segment x next ≡ step_at s at
      → Passed s next (l ++ (x ∷ []))
  unfolding segs_from
  more zero h i e x next q = absurd (omega arith)
  more (suc n) h i e x next q =
      let b = segment_found s at x next q in
      record { left = n; inside = b.1; enough = omega arith; same = (simp (← q) at e) ∙ after_one l x (segs_from n s next) }

  ended : (n : ℕ) → length s < at + n → at ≤ length s → segs_of s ≡ after l (segs_from n s at) → End ≡ step_at s at → segs_of s ≡ after l (segs [])
  unfolding segs_from
  ended zero h i e q = absurd (omega arith)
  ended (suc n) h i e q = simp (← q) at e

  stopped : (n : ℕ) → length s < at + n → at ≤ length s → segs_of s ≡ after l (segs_from n s at) → (o : ℕ) → Broken o ≡ step_at s at → segs_of s ≡ broken o
  unfolding segs_from
  stopped zero h i e o q = absurd (omega arith)
  stopped (suc n) h i e o q = simp (← q) at e

  module _ (p : Passed s at l) where
    pub passed_more : (x : Seg) (next : ℕ) → Segment x next ≡ step_at s at → Passed s next (l ++ (x ∷ []))
    passed_more = more p.left p.enough p.inside p.same

    pub passed_all : End ≡ step_at s at → segs_of s ≡ segs l
    passed_all q = ended p.left p.enough p.inside p.same q ∙ ap segs (append-nil l)

    pub passed_broken : (o : ℕ) → Broken o ≡ step_at s at → segs_of s ≡ broken o
    passed_broken = stopped p.left p.enough p.inside p.same

-- ---- a path that parses, read segment by segment

-- the segments l stand from `at` to the end
pub record Ahead (s : List ℕ) (at : ℕ) (l : List Seg) : Type 0 where
  pub left : ℕ
  pub same : segs l ≡ segs_from left s at

pub ahead_all : (s : List ℕ) (l : List Seg) → segs_of s ≡ segs l → Ahead s 0 l
unfolding segs_of
ahead_all s l e = record { left = length s + 1; same = sym e }

-- the segment x, and then those from `next` on
pub record Then (s : List ℕ) (x : Seg) (next : ℕ) (l : List Seg) : Type 0 where
  pub rest : List Seg
  pub is : l ≡ x ∷ rest
  pub ahead : Ahead s next rest

module _ (s : List ℕ) (at : ℕ) where
  one_ahead : (n : ℕ) (l : List Seg) (x : Seg) (next : ℕ) (r : Segs) → r ≡ segs_from n s next → segs l ≡ cons x r → Then s x next l
  one_ahead n l x next (segs m) q e = record { rest = m; is = cc; ahead = record { left = n; same = q } }
  one_ahead n l x next (broken o) q e = absurd (let z : ◌≡◌ {A = ℕ} 0 1 = cc in omega arith)

  then : (n : ℕ) (l : List Seg) → segs l ≡ segs_from n s at → (x : Seg) (next : ℕ) → Segment x next ≡ step_at s at → Then s x next l
  unfolding segs_from
  then zero l e x next q = absurd (let z : ◌≡◌ {A = ℕ} 0 1 = cc in omega arith)
  then (suc n) l e x next q = one_ahead n l x next (segs_from n s next) refl (simp (← q) at e)

  none_ahead : (n : ℕ) (l : List Seg) → segs l ≡ segs_from n s at → End ≡ step_at s at → l ≡ []
  unfolding segs_from
  none_ahead zero l e q = cc
  none_ahead (suc n) l e q = let g : segs l ≡ segs [] = simp (← q) at e in cc

  not_ahead : (n : ℕ) (l : List Seg) → segs l ≡ segs_from n s at → (o : ℕ) → Broken o ≡ step_at s at → ⊥
  unfolding segs_from
  not_ahead zero l e o q = let z : ◌≡◌ {A = ℕ} 0 1 = cc in omega arith
  not_ahead (suc n) l e o q =
      let g : segs l ≡ broken o = simp (← q) at e in
      let z : ◌≡◌ {A = ℕ} 0 1 = cc in omega arith

  module _ (l : List Seg) (a : Ahead s at l) where
    pub ahead_then : (x : Seg) (next : ℕ) → Segment x next ≡ step_at s at → Then s x next l
    ahead_then = then a.left l a.same

    pub ahead_end : End ≡ step_at s at → l ≡ []
    ahead_end = none_ahead a.left l a.same

    pub ahead_whole : (o : ℕ) → Broken o ≡ step_at s at → ⊥
    ahead_whole = not_ahead a.left l a.same
