-- The quick way to an I/O frame is the plain one.
use Rattle.std.specs.Prelude.{Ok, Err}
use Prim.Native.Nat.{ℕ, zero, suc, ◌+◌, ◌-◌, ◌<◌, ◌≤◌}
use mathlib.Core.Path.{◌≡◌, refl, sym, ap, ◌∙◌}
use mathlib.Core.Bool.{Bool, true, false}
use mathlib.Core.List.{List, [], ◌∷◌}
use lib.ListN.{length}
use lib.Dec.{eqb, leb}
use native.Mathlib.Omega.{arith}
use borrow.Author.Tests.{le-leb, lt-leb, eq-eqb, eqb-true}
use Rattle.base_cells.specs.Pick.{pick}
use Rattle.base_cells.specs.Numbers.{le}
use Rattle.wire_rules.specs.Items.{item_end, step_at, Part, Items, well_formed, broken, cons, items_from, items_of, whole_of}
use Rattle.wire_rules.specs.Frames.{ot_id, first_two, io_of_items, io_of}
use Rattle.wire_items.specs.Head.{Head, other_of}
use Rattle.wire_rules.specs.declared.IoFrame.{IoFrame}
use Rattle.wire_rules.specs.declared.IoFrame.TheVariants.{Io, NotIo, Broken}
use Rattle.wire_items.proofs.ListLaws.{part_at, Chain, link, chain_within, of_good, of_broken, from_count, listed}

-- ---- a frame with the head

module _ (s : List ℕ) (at : ℕ) where
  pub takes : (n : ℕ) → 0 < n → item_end s at ≤ length s → items_from n s at ≡ cons (part_at s at) (items_from (n - 1) s (item_end s at))
  unfolding items_from step_at
  takes zero h g = absurd (omega arith)
  takes (suc n) h g = let m : suc n - 1 ≡ n = omega arith in simp (le-leb _ _ g, m)

  misses : (n : ℕ) → 0 < n → length s < item_end s at → items_from n s at ≡ broken at
  unfolding items_from step_at
  misses zero h g = absurd (omega arith)
  misses (suc n) h g = simp (lt-leb _ _ g)

module _ (s : List ℕ) (h : Head s) where
  first_taken : items_of s ≡ cons (part_at s 2) (items_from (le 2 s 0 - 1) s 14)
  first_taken =
      let l = h.long in let n = h.count in let e = h.eight in
      let f : item_end s 2 ≡ 14 = omega arith in
      from_count s (omega arith) ∙ takes s 2 (le 2 s 0) (omega arith) (omega arith) ∙ ap (λ (a : ℕ). cons (part_at s 2) (items_from (le 2 s 0 - 1) s a)) f

  second_taken : 18 + le 2 s 16 ≤ length s → items_of s ≡ cons (part_at s 2) (cons (part_at s 14) (items_from (le 2 s 0 - 2) s (18 + le 2 s 16)))
  second_taken g =
      let n = h.count in
      let m : le 2 s 0 - 1 - 1 ≡ le 2 s 0 - 2 = omega arith in
      first_taken ∙ ap (cons (part_at s 2)) (takes s 14 (le 2 s 0 - 1) (omega arith) g ∙ ap (λ (k : ℕ). cons (part_at s 14) (items_from k s (18 + le 2 s 16))) m)

  pub second_short : length s < 18 + le 2 s 16 → Broken 14 ≡ io_of s
  unfolding io_of
  second_short g =
      let n = h.count in
      sym (ap (io_of_items s) (first_taken ∙ ap (cons (part_at s 2)) (misses s 14 (le 2 s 0 - 1) (omega arith) g)))

  module _ (n len : ℕ) (en : n ≡ le 2 s 0) (el : len ≡ le 2 s 16) (g : 18 + len ≤ length s) where
    two : (x : Items) → items_from (n - 2) s (18 + len) ≡ x → items_of s ≡ cons (part_at s 2) (cons (part_at s 14) x)
    two x e =
        let e' : items_from (le 2 s 0 - 2) s (18 + le 2 s 16) ≡ x = rw (← en, ← el) e in
        second_taken (omega arith) ∙ ap (λ (y : Items). cons (part_at s 2) (cons (part_at s 14) y)) e'

    pub later_broken : (o : ℕ) → Err o ≡ whole_of (items_from (n - 2) s (18 + len)) → Broken o ≡ io_of s
    unfolding io_of
    later_broken o b = sym (ap (io_of_items s) (two (broken o) (of_broken _ o b)))

    pub over_size : Ok tt ≡ whole_of (items_from (n - 2) s (18 + len)) → 65536 < length s → NotIo ≡ io_of s
    unfolding io_of
    over_size b w = let l = of_good (items_from (n - 2) s (18 + len)) b in rw (two (well_formed l.0) l.1, lt-leb _ _ w)

    pub is_io : (i q : ℕ) → Ok tt ≡ whole_of (items_from (n - 2) s (18 + len)) → length s ≤ 65536 → i ≡ le 4 s 6 → q ≡ le 4 s 10 → Io (ot_id i) q 18 len ≡ io_of s
    unfolding io_of
    is_io i q b w ei eq =
        let l = of_good (items_from (n - 2) s (18 + len)) b in
        rw (two (well_formed l.0) l.1, le-leb _ _ w, eq-eqb _ _ h.address, eq-eqb _ _ h.eight, eq-eqb _ _ h.payload, ei, eq, el)

-- ---- a frame without it

over : (b : Bool) (x : IoFrame) → x ≡ NotIo → NotIo ≡ pick b x NotIo
over true x e = sym e
over false x e = refl

no_pair : (s : List ℕ) (x : IoFrame) → (Head s → ⊥) → 2 ≤ le 2 s 0 → item_end s (item_end s 2) ≤ length s → (t₁ t₂ t₃ : Bool)
    → eqb (le 2 s 2) 0x8002 ≡ t₁ → eqb (le 2 s 4) 8 ≡ t₂ → eqb (le 2 s (item_end s 2)) 0xB1 ≡ t₃ → pick t₁ (pick t₂ (pick t₃ x NotIo) NotIo) NotIo ≡ NotIo
no_pair s x h n w false t₂ t₃ e₁ e₂ e₃ = refl
no_pair s x h n w true false t₃ e₁ e₂ e₃ = refl
no_pair s x h n w true true false e₁ e₂ e₃ = refl
no_pair s x h n w true true true e₁ e₂ e₃ =
    let eight : le 2 s 4 ≡ 8 = eqb-true _ _ e₂ in
    let f : item_end s 2 ≡ 14 = omega arith in
    absurd (h (record { long = omega arith; count = n; address = eqb-true _ _ e₁; eight = eight; payload = ap (le 2 s) (sym f) ∙ eqb-true _ _ e₃ }))

not_two : (s : List ℕ) (l : List Part) → (Head s → ⊥) → le 2 s 0 ≡ length l → Chain s 2 l → first_two s l ≡ NotIo
not_two s [] h n c = refl
not_two s (a ∷ []) h n c = refl
not_two s (a ∷ (d ∷ l)) h n (link (link c)) =
    no_pair s _ h (omega arith) (chain_within c) (eqb (le 2 s 2) 0x8002) (eqb (le 2 s 4) 8) (eqb (le 2 s (item_end s 2)) 0xB1) refl refl refl

other_list : (s : List ℕ) (x : Items) → items_of s ≡ x → (Head s → ⊥) → other_of (whole_of x) ≡ io_of_items s x
other_list s (broken o) e h = refl
other_list s (well_formed l) e h =
    let d = listed s l e in over (leb (length s) 65536) (first_two s l) (not_two s l h d.count d.chain)

pub other_io : (s : List ℕ) → (Head s → ⊥) → other_of (whole_of (items_of s)) ≡ io_of s
unfolding io_of
other_io s h = other_list s (items_of s) refl h
