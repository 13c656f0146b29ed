-- The reply: its head in front of the object's data.
use Prim.Native.Nat.{ℕ, ◌+◌, ◌-◌, ◌%◌, ◌≤◌}
use Rattle.rules.specs.declared.objects.Position.{Position}
use mathlib.Core.List.{List, [], ◌∷◌, ◌++◌, append-nil}
use Rattle.std.specs.Prelude.{◌≡◌, refl, drop, Option, Result, Ok, Err}
use Rattle.std.proofs.Math.Path.{ap}
use Rattle.std.proofs.Common.{sym, ◌∙◌, length-drop, length-append, drop_of_length-le, take-append-drop, drop_at, take_all, length-take-le}
use native.Mathlib.Omega.{arith}
use borrow.Rule.Slice.PartMut.{mid_of, put_mid, put_same}
use Rattle.std.proofs.Math.ListN.{length, take}
use Rattle.std.proofs.Math.Seq.{sets}
use Rattle.std.proofs.lemmas.List.Edits.{sets-eq}
use Rattle.base_cells.specs.Numbers.{le_bytes, sets_append, take_sets, drop_sets_add}
use Rattle.base_cells.specs.Records.{enc_fields}
use Rattle.base_cells.specs.Writes.{written, written_all}
use Rattle.wire_rules.specs.Replies as wire
use Rattle.wire_replies.specs.ReplyLaws.{reply_head_long}
use Rattle.rules.specs.declared.objects.Fault.{Fault}
use Rattle.rules.specs.Attributes.{Outcome, Gives, Fails, status_number}
use Rattle.rules.specs.Message.{reply_head, reply_to}
use Rattle.msg_attributes.specs.Told.{told}
use Rattle.msg_positions.specs.Positions.{enc_upload}
use Rattle.msg_uploads.specs.Lent.{stepped}

-- how many bytes of data there are
abbrev pub count : Result ℕ Fault → ℕ
count (Ok n) = n
count (Err f) = 0

-- the head put in front of the data, and the length of both
abbrev pub headed : ℕ → Result ℕ Fault → List ℕ → ℕ × List ℕ
headed service (Ok n) out = (4 + n, sets out 0 (reply_head service 0))
headed service (Err f) out = (4, sets out 0 (reply_head service (status_number f)))

-- a reply: its length, the position left, and the output
abbrev pub replied : ℕ → Outcome × Option Position → List ℕ → ℕ × (List ℕ × List ℕ)
replied service x out = (length (reply_to service x.0), (enc_upload x.1, sets out 0 (reply_to service x.0)))

-- the head as the replies' writer puts it
pub head_put : (out : List ℕ) (service status : ℕ) (r : Option ℕ) (o : List ℕ) → 516 ≤ length out → (r, o) ≡ written out (wire.reply_head service status 0 0 0)
    → o ≡ sets out 0 (reply_head service status)
unfolding wire.reply_head reply_head enc_fields le_bytes
head_put out service status r o h e =
    ap (λ (z : Option ℕ × List ℕ). z.1) (e ∙ written_all out (wire.reply_head service status 0 0 0) (let n = reply_head_long service status 0 0 0 in omega arith))

-- data behind a head of four bytes
module _ (out bs : List ℕ) (h : 4 ≤ length out) (a b c d : ℕ) where
  abbrev front : List ℕ
  front = a ∷ b ∷ c ∷ d ∷ []

  in_front : (x rest : List ℕ) → 4 ≤ length x → drop 4 x ≡ rest → sets x 0 front ≡ a ∷ b ∷ c ∷ d ∷ rest
  in_front x rest g e = sets-eq front x 0 (omega arith) ∙ ap (λ (z : List ℕ). front ++ z) e

  behind : (x : List ℕ) → sets x 4 bs ≡ take 4 x ++ sets (drop 4 x) 0 bs
  behind x =
      sym (take-append-drop 4 (sets x 4 bs))
      ∙ (λ i. take_sets 4 x 4 bs (omega arith) i ++ drop_sets_add 4 x 0 bs i)

  pub both_put : sets (take 4 out ++ sets (drop 4 out) 0 bs) 0 front ≡ sets out 0 (front ++ bs)
  both_put =
      let n : length (take 4 out) ≡ 4 = length-take-le 4 out h in
      let rest : List ℕ = sets (drop 4 out) 0 bs in
      in_front (take 4 out ++ rest) rest (let e = length-append (take 4 out) rest in omega arith) (drop_at (take 4 out) rest 4 n)
      ∙ sym (sets_append out 0 front bs
      ∙ ap (λ (z : List ℕ). sets z 4 bs) (in_front out (drop 4 out) h refl)
      ∙ behind (a ∷ b ∷ c ∷ d ∷ drop 4 out))

module _ (service : ℕ) (out : List ℕ) (h : 516 ≤ length out) where
  abbrev lent : List ℕ
  lent = mid_of 4 (length out - 4) out

  whole : length (drop 4 out) ≤ length out - 4
  whole = rw length-drop (omega arith)

  lent_is : lent ≡ drop 4 out
  lent_is = take_all (length out - 4) (drop 4 out) whole

  back_is : (y : List ℕ) → put_mid 4 (length out - 4) out y ≡ take 4 out ++ y
  back_is y = rw (drop_of_length-le (drop 4 out) whole, append-nil)

  finished : (o : Outcome) → headed service (told o lent).0 (put_mid 4 (length out - 4) out (told o lent).1) ≡ (length (reply_to service o), sets out 0 (reply_to service o))
  unfolding told reply_to reply_head
  finished (Gives bs) =
      (λ i. (4 + length bs, sets ((back_is (sets lent 0 bs) ∙ ap (λ (z : List ℕ). take 4 out ++ sets z 0 bs) lent_is) i) 0 (reply_head service 0)))
      ∙ (λ i. ((let z : 4 + length bs ≡ length (reply_head service 0 ++ bs) = omega arith in z) i, both_put out bs (omega arith) (0x80 + service % 0x80) 0 0 0 i))
  finished (Fails f) = ap (λ (z : List ℕ). (4, sets z 0 (reply_head service (status_number f)))) (put_same 4 (length out - 4) out)

  -- an object's step behind, and the head in front, are the reply
  pub reply_done : (x : Outcome × Option Position) (g : Result ℕ Fault) (p o : List ℕ) (n : ℕ) (z : List ℕ) → (g, (p, o)) ≡ stepped x (mid_of 4 (length out - 4) out)
      → (n, z) ≡ headed service g (put_mid 4 (length out - 4) out o) → (n, (p, z)) ≡ replied service x out
  reply_done x g p o n z e f =
      let q : ◌≡◌ {A = ℕ × List ℕ} (n, z) (length (reply_to service x.0), sets out 0 (reply_to service x.0)) =
      f ∙ (λ i. headed service (e i).0 (put_mid 4 (length out - 4) out (e i).1.1)) ∙ finished x.0 in
      λ i. ((q i).0, ((e i).1.0, (q i).1))

  -- no object: the head alone
  pub reply_alone : (f : Fault) (up : Option Position) (p : List ℕ) (n : ℕ) (z : List ℕ) → enc_upload up ≡ p → (n, z) ≡ headed service (Err f) out
      → (n, (p, z)) ≡ replied service (Fails f, up) out
  unfolding reply_to reply_head
  reply_alone f up p n z e q = λ i. ((q i).0, (sym e i, (q i).1))

  -- what fits a reply is few
  pub few : (x : Outcome × Option Position) (g : Result ℕ Fault) (p o : List ℕ) → (g, (p, o)) ≡ stepped x (mid_of 4 (length out - 4) out) → length (reply_to service x.0) ≤ 516 → count g ≤ 512
  unfolding told reply_to reply_head
  few x g p o e k = let q : count g ≡ count (told x.0 lent).0 = ap (λ (y : Result ℕ Fault × (List ℕ × List ℕ)). count y.0) e in rw q (by x.0 k)
    where
      by : (o : Outcome) → length (reply_to service o) ≤ 516 → count (told o lent).0 ≤ 512
      by (Gives bs) k = omega arith
      by (Fails f) k = omega arith
