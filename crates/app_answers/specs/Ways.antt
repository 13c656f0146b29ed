-- One law for each way out of a call on a tested state.
use Rattle.std.specs.Prelude.{ℕ, ◌*◌, ◌^◌, ◌≤◌, ◌<◌, true, List, ◌≡◌, length}
use Rattle.std.proofs.Math.Path.{ap, sym}
use Rattle.std.proofs.Common.{◌∙◌, le-leb}
use Rattle.std.proofs.Math.Seq.{sets}
use Rattle.std.proofs.lemmas.Bool.{lt-leb}
use Rattle.base_cells.specs.Back.{Bytes}
use Rattle.rules.specs.State.{State}
use Rattle.rules.specs.Answers.{Answer, Done, Wrote, Refused, no_number, answer_number, answer_bytes, fitting}
use Rattle.state_rules.specs.Image.{view, store, tested}
use Rattle.state_image.specs.ViewLaws.{store_view}
use Rattle.state_image.specs.Holds.{ready_tested, slotted_tested}
use Rattle.app_answers.specs.Outcomes.{Passed}
use Rattle.state_image.specs.Lift.{lifted, lifted_out, lifted_read, lifted_passes, out_done, read_done}
use Rattle.rules.specs.declared.No.{No}
use Rattle.rules.specs.declared.No.TheVariants.{NoRoom}

pub passed_tested : (s : List ℕ) → tested s ≡ true → Passed s
passed_tested s t = record { test = t; ready = ready_tested s t; slotted = slotted_tested s t }

-- an answer that is all written, or refused for want of room
pub fits_in : (room : ℕ) (bs : List ℕ) (a : Answer) → length bs ≤ room → fitting room bs a ≡ a
fits_in room bs a h = rw (le-leb (length bs) room h)

pub fits_not : (room : ℕ) (bs : List ℕ) (a : Answer) → room < length bs → fitting room bs a ≡ Refused NoRoom
fits_not room bs a h = rw (lt-leb (length bs) room h)

module _ (s out : List ℕ) (t : tested s ≡ true) where
  module _ (call : ℕ → State → Answer) where
    pub read_wrote : (n : ℕ) (o bs : List ℕ) → call (length out) (view s) ≡ Wrote bs → n ≡ length bs → o ≡ sets out 0 bs
        → (2 ^ 8 * n, o) ≡ lifted_read call s out
    unfolding answer_number
    read_wrote n o bs e p q =
        read_done call s out t (2 ^ 8 * n) o (ap (λ (k : ℕ). 2 ^ 8 * k) p ∙ ap answer_number (sym e)) (q ∙ ap (λ (a : Answer). sets out 0 (answer_bytes a)) (sym e))

    pub read_no : (w : No) → call (length out) (view s) ≡ Refused w → (no_number w, out) ≡ lifted_read call s out
    unfolding answer_number
    read_no w e = read_done call s out t (no_number w) out (ap answer_number (sym e)) (ap (λ (a : Answer). sets out 0 (answer_bytes a)) (sym e))

  -- calls that answer the same
  pub read_same : (call call' : ℕ → State → Answer) → call (length out) (view s) ≡ call' (length out) (view s) → lifted_read call s out ≡ lifted_read call' s out
  unfolding lifted_read
  read_same call call' e = rw t (ap (λ (a : Answer). (answer_number a, sets out 0 (answer_bytes a))) e)

  module _ (call : ℕ → State → Answer × State) where
    pub out_wrote : (n : ℕ) (s' o bs : List ℕ) (st : State) → call (length out) (view s) ≡ (Wrote bs, st) → n ≡ length bs → s' ≡ store st s → o ≡ sets out 0 bs
        → (2 ^ 8 * n, (s', o)) ≡ lifted_out call s out
    unfolding answer_number
    out_wrote n s' o bs st e p q r =
        out_done call s out t (2 ^ 8 * n) s' o (ap (λ (k : ℕ). 2 ^ 8 * k) p ∙ ap (λ (z : Answer × State). answer_number z.0) (sym e))
        (q ∙ ap (λ (z : Answer × State). store z.1 s) (sym e)) (r ∙ ap (λ (z : Answer × State). sets out 0 (answer_bytes z.0)) (sym e))

    pub out_no : Bytes s → (w : No) → call (length out) (view s) ≡ (Refused w, view s) → (no_number w, (s, out)) ≡ lifted_out call s out
    unfolding answer_number
    out_no b w e =
        out_done call s out t (no_number w) s out (ap (λ (z : Answer × State). answer_number z.0) (sym e))
        (sym (store_view s t b) ∙ ap (λ (z : Answer × State). store z.1 s) (sym e)) (ap (λ (z : Answer × State). sets out 0 (answer_bytes z.0)) (sym e))

  pub out_same : (call call' : ℕ → State → Answer × State) → call (length out) (view s) ≡ call' (length out) (view s) → lifted_out call s out ≡ lifted_out call' s out
  unfolding lifted_out
  out_same call call' e = rw t (ap (λ (z : Answer × State). (answer_number z.0, (store z.1 s, sets out 0 (answer_bytes z.0)))) e)

module _ (s : List ℕ) (t : tested s ≡ true) where
  module _ (call : State → Answer × State) where
    pub left_done : (s' : List ℕ) (st : State) → call (view s) ≡ (Done, st) → s' ≡ store st s → (0, s') ≡ lifted call s
    unfolding answer_number
    left_done s' st e q =
        (λ i. (0, (q ∙ ap (λ (z : Answer × State). store z.1 s) (sym e)) i)) ∙ ap (λ (z : Answer × State). (answer_number z.0, store (call (view s)).1 s)) (sym e)
        ∙ sym (lifted_passes call s t)

    pub left_no : Bytes s → (w : No) → call (view s) ≡ (Refused w, view s) → (no_number w, s) ≡ lifted call s
    unfolding answer_number
    left_no b w e =
        (λ i. (no_number w, (sym (store_view s t b) ∙ ap (λ (z : Answer × State). store z.1 s) (sym e)) i))
        ∙ ap (λ (z : Answer × State). (answer_number z.0, store (call (view s)).1 s)) (sym e)
        ∙ sym (lifted_passes call s t)

  pub left_same : (call call' : State → Answer × State) → call (view s) ≡ call' (view s) → lifted call s ≡ lifted call' s
  unfolding lifted
  left_same call call' e = rw t (ap (λ (z : Answer × State). (answer_number z.0, store z.1 s)) e)
