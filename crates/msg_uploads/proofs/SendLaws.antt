-- The bytes of a reply, put one after the other.
use Rattle.std.specs.Prelude.{Ok}
use Prim.Native.Nat.{ℕ, ◌+◌, ◌-◌, ◌≤◌, min}
use mathlib.Core.Bool.{Bool, true, false}
use mathlib.Core.List.{List, ◌∷◌, ◌++◌}
use mathlib.Core.Path.{◌≡◌, refl, ap, ap₂, sym, ◌∙◌}
use native.Mathlib.Omega.{arith}
use borrow.Author.Tests.{leb-true, leb-false}
use lib.Dec.{eqb, leb}
use lib.ListN.{length, take, drop, set, length-append, length-drop, length-take, drop_of_length-le}
use lib.Seq.{sets, take-nil, take-take, take-length}
use Rattle.base_cells.specs.Numbers.{put, le_bytes, sets_append}
use Rattle.rules.specs.Attributes as rules
use Rattle.rules.specs.Upload.{transfer_type, transfer_bytes, transfer_reply}
use Rattle.msg_attributes.specs.Told.{told}
use Rattle.msg_uploads.specs.Sending.{part_of, tail_of}

-- ---- the part: from where it begins to where it ends, both within the EDS

take_some : (n : ℕ) (l : List ℕ) → take (min n (length l)) l ≡ take n l
take_some n l =
    ap (λ (k : ℕ). take k l) (sym (length-take n l))
    ∙ sym (take-take (length (take n l)) n l (omega (arith, length-take n l)))
    ∙ take-length (take n l)

module _ (eds : List ℕ) (size offset from to : ℕ) (e : from ≡ min offset (length eds)) (f : to ≡ min (offset + size) (length eds)) where
  inside : offset ≤ length eds → take (to - from) (drop from eds) ≡ part_of eds size offset
  unfolding part_of
  inside h =
      let o : from ≡ offset = omega (arith, e) in
      let k : to - from ≡ min size (length (drop offset eds)) = omega (arith, e, f, length-drop offset eds) in
      ap₂ (λ (n m : ℕ). take n (drop m eds)) k o ∙ take_some size (drop offset eds)

  outside : length eds ≤ offset → take (to - from) (drop from eds) ≡ part_of eds size offset
  unfolding part_of
  outside h =
      let o : length eds ≤ from = omega (arith, e) in
      ap (take (to - from)) (drop_of_length-le eds o)
      ∙ take-nil (to - from)
      ∙ sym (take-nil size)
      ∙ ap (take size) (sym (drop_of_length-le eds h))

  pub part_is : take (to - from) (drop from eds) ≡ part_of eds size offset
  part_is = by (leb offset (length eds)) refl
    where
      by : (b : Bool) → leb offset (length eds) ≡ b → take (to - from) (drop from eds) ≡ part_of eds size offset
      by true q = inside (leb-true offset (length eds) q)
      by false q = outside (omega (arith, leb-false offset (length eds) q))

  pub part_long : length (part_of eds size offset) ≡ to - from
  unfolding part_of
  part_long = omega (arith, e, f, length-take size (drop offset eds), length-drop offset eds)

-- ---- a whole transfer: number, type, part and tail

module _ (eds : List ℕ) (size number offset : ℕ) (last : Bool) (e : last ≡ leb (length eds) (offset + size)) where
  abbrev kind : ℕ
  kind = transfer_type (eqb offset 0) last

  reply_is : number ∷ kind ∷ (part_of eds size offset ++ tail_of eds last) ≡ transfer_reply eds size number offset
  unfolding transfer_reply transfer_bytes part_of tail_of
  reply_is = ap (λ (b : Bool). number ∷ transfer_type (eqb offset 0) b ∷ (part_of eds size offset ++ tail_of eds b)) e

  module _ (out a b c d : List ℕ) (n m : ℕ) (h : n ≡ length (part_of eds size offset)) (g : m ≡ length (tail_of eds last))
      (p : a ≡ put 1 out 0 number) (q : b ≡ put 1 a 1 kind) (r : c ≡ sets b 2 (part_of eds size offset)) (s : d ≡ sets c (2 + n) (tail_of eds last)) where
    head : b ≡ set (set out 0 number) 1 kind
    unfolding put le_bytes
    head = q ∙ ap (λ (x : List ℕ). set x 1 kind) p

    bytes : d ≡ sets out 0 (transfer_reply eds size number offset)
    bytes =
        s
        ∙ ap₂ (λ (x : List ℕ) (k : ℕ). sets x (2 + k) (tail_of eds last)) (r ∙ ap (λ (x : List ℕ). sets x 2 (part_of eds size offset)) head) h
        ∙ sym (sets_append (set (set out 0 number) 1 kind) 2 (part_of eds size offset) (tail_of eds last))
        ∙ ap (sets out 0) reply_is

    long : 2 + n + m ≡ length (transfer_reply eds size number offset)
    long = rw (← reply_is) (omega (arith, h, g, length-append (part_of eds size offset) (tail_of eds last)))

    pub part_sent : (Ok (2 + n + m), d) ≡ told (rules.Gives (transfer_reply eds size number offset)) out
    unfolding told
    part_sent = λ i. (Ok (long i), bytes i)
