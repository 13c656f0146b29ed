-- What a frame comes to for an output: which frames are taken, and what a taken frame leaves.
use Rattle.std.specs.Prelude.{◌≡◌, refl, List, [], ◌∷◌, Bool, true, false, ◌&&◌, ℕ, ◌+◌, eqb, leb, ltb, length, Option, Some, None}
use Rattle.std.proofs.Math.Path.{sym, subst}
use Rattle.std.proofs.Common.{◌∙◌, ap, ap₂, arith, le-leb, lt-ltb}
use Rattle.std.proofs.Math.Bool.{not}
use Rattle.std.specs.Bool.{beq}
use Rattle.base_cells.specs.Numbers.{le}
use Rattle.rules.specs.Lists.{maybe, same}
use Rattle.rules_laws.specs.ListLaws.{by_cases, clash, and_left, and_right, eqb_true}
use Rattle.rules.specs.State.{Setup, shape_at, Content, is_output, is_owner}
use Rattle.rules.specs.Receiving.{Frame, newer, taken, changes, deliver}
use Rattle.rules_faults.specs.RunBit.{owner_of}
use Rattle.rules_steps.specs.Names.{Conn}
use Rattle.rules_lastword.specs.Words.{Contact, is_for, in_order, is_news, fits, says_run, data_in, counts}
use Rattle.rules_lastword.specs.Knows.{Ear}
use Rattle.rules_lastword.proofs.Knows.{newer_is, news_is}
use Rattle.rules_lastword.specs.Outputs.{output_there}

-- ---- A FRAME
core : (l r s : Bool) → (s ≡ true → l ≡ true) → l && r && s ≡ r && s
core true r s k = refl
core false true true k = clash true refl (sym (k refl))
core false true false k = refl
core false false s k = refl

shuffle : (n o l r t s : Bool) → o ≡ true → t ≡ true → (s ≡ true → l ≡ true) → n && (o && l) && r && (t && s) ≡ n && r && s
shuffle false o l r t s a b k = refl
shuffle true o l r t s a b k = rw (a, b) (core l r s k)

six_has_two : (n size : ℕ) → eqb n (size + 6) ≡ true → leb 2 n ≡ true
six_has_two n size e = let k = eqb_true n (size + 6) e in le-leb 2 n (omega (arith, k))

taken_at : (u : Setup) (f : Frame) (c : Conn) (m : Contact) → Ear m c → is_output (shape_at u c.fixed.output).kind ≡ true → is_owner c.fixed.kind ≡ true →
    taken u f c ≡ in_order m.last f && is_news m.cip f && fits (shape_at u c.fixed.output).size f
unfolding taken
taken_at u f c m ear out o =
    let repeated = not (c.heard.anycip && eqb c.heard.cip (le 2 f.payload 0)) in
    let size = (shape_at u c.fixed.output).size in
    shuffle (newer c.heard f.sequence) (is_owner c.fixed.kind) (leb 2 (length f.payload)) repeated (ltb c.fixed.output (length u.assemblies))
    (fits size f) o (lt-ltb c.fixed.output (length u.assemblies) (output_there u c.fixed.output out)) (six_has_two (length f.payload) size) ∙
    ap₂ (λ a b. a && b && fits size f) (newer_is m f c ear) (news_is m f c ear o)

-- an owner's frame is taken exactly where it counts
pub taken_is : (u : Setup) (i from : ℕ) (f : Frame) (c : Conn) (m : Contact) → is_output (shape_at u i).kind ≡ true → Ear m c → owner_of i c ≡ true → is_for from f m ≡ true →
    taken u f c ≡ counts (shape_at u i).size from f m
taken_is u i from f c m out ear y z =
    let o = and_left (is_owner c.fixed.kind) (eqb c.fixed.output i) y in
    let k = eqb_true c.fixed.output i (and_right (is_owner c.fixed.kind) (eqb c.fixed.output i) y) in
    let a = subst (λ j. is_output (shape_at u j).kind ≡ true → taken u f c ≡ in_order m.last f && is_news m.cip f && fits (shape_at u j).size f) k
    (λ v. taken_at u f c m ear v o) out in
    a ∙ sym (ap (λ b. b && in_order m.last f && is_news m.cip f && fits (shape_at u i).size f) z)

-- what a taken frame leaves is what it says
same_is : (xs ys : List ℕ) → same xs ys ≡ true → xs ≡ ys
same_is [] [] e = refl
same_is [] (y ∷ ys) e = clash true refl (sym e)
same_is (x ∷ xs) [] e = clash true refl (sym e)
same_is (x ∷ xs) (y ∷ ys) e = ap₂ ◌∷◌ (eqb_true x y (and_left (eqb x y) (same xs ys) e)) (same_is xs ys (and_right (eqb x y) (same xs ys) e))

beq_is : (a b : Bool) → beq a b ≡ true → a ≡ b
beq_is true true e = refl
beq_is true false e = clash true refl (sym e)
beq_is false true e = clash true refl (sym e)
beq_is false false e = refl

not_false_is : (b : Bool) → not b ≡ false → b ≡ true
not_false_is true e = refl
not_false_is false e = sym e

unchanged : (f : Frame) (a : Content) → changes f a ≡ false → (a.run ≡ says_run f) × (a.bytes ≡ data_in f)
unfolding changes
unchanged f a e =
    let b = not_false_is (same a.bytes (data_in f) && beq a.run (says_run f)) e in (
      beq_is a.run (says_run f) (and_right (same a.bytes (data_in f)) (beq a.run (says_run f)) b),
      same_is a.bytes (data_in f) (and_left (same a.bytes (data_in f)) (beq a.run (says_run f)) b),
    )

pub as_said : (f : Frame) (a : Content) → ((deliver f a).run ≡ says_run f) × ((deliver f a).bytes ≡ data_in f)
unfolding deliver
as_said f a = by_cases (changes f a) (λ y. rw y (refl, refl)) (λ n. rw n (unchanged f a n))

pub not_taken : (size from : ℕ) (f : Frame) (o : Option Contact) → maybe false (is_for from f) o ≡ false → maybe false (counts size from f) o ≡ false
not_taken size from f None h = refl
not_taken size from f (Some m) h = ap (λ b. b && in_order m.last f && is_news m.cip f && fits size f) h
