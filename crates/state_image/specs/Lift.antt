-- A call of the rules on lent bytes, once and for all: No. 1 and the bytes as they were where the state test fails, else the call's
-- answer as its number, and the state that it leaves written over the bytes.
use Rattle.std.specs.Prelude.{ℕ, true, false, List, [], ◌≡◌, length}
use Rattle.std.proofs.Common.{ap, sym, ◌∙◌}
use Rattle.std.proofs.lemmas.List.Edits.{sets}
use Rattle.base_cells.specs.Pick.{pick}
use Rattle.base_cells.specs.Back.{Bytes}
use Rattle.rules.specs.State.{State}
use Rattle.rules.specs.Answers.{Answer, answer_number, answer_bytes}
use Rattle.state_rules.specs.Image.{view, store, tested}
use Rattle.state_image.specs.Fits.{Suits}
use Rattle.state_image.specs.ViewLaws.{store_view, view_store}
use Rattle.state_image.specs.Passes.{tested_store}

-- a call that writes no output: the answer, and the state's bytes
unfoldable pub lifted : (State → Answer × State) → List ℕ → ℕ × List ℕ
lifted call l = pick (tested l) (answer_number (call (view l)).0, store (call (view l)).1 l) (1, l)

-- a call with lent output: the same, and what the answer writes at the output's start; what is behind it stays
unfoldable pub lifted_out : (ℕ → State → Answer × State) → List ℕ → List ℕ → ℕ × (List ℕ × List ℕ)
lifted_out call l out =
    pick (tested l)
    (answer_number (call (length out) (view l)).0, (store (call (length out) (view l)).1 l, sets out 0 (answer_bytes (call (length out) (view l)).0)))
    (1, (l, out))

-- a call that only reads the state
unfoldable pub lifted_read : (ℕ → State → Answer) → List ℕ → List ℕ → ℕ × List ℕ
lifted_read call l out =
    pick (tested l) (answer_number (call (length out) (view l)), sets out 0 (answer_bytes (call (length out) (view l)))) (1, out)

-- any two outcomes of a contract that says `outcome ≡ what the definition gives` are equal
pub two_outcomes : {A : Type 0} {given : A} (one other : A) → one ≡ given → other ≡ given → one ≡ other
two_outcomes one other p q = p ∙ sym q

-- ---- one law for each way out

module _ (call : State → Answer × State) (l : List ℕ) where
  pub lifted_fails : tested l ≡ false → (1, l) ≡ lifted call l
  unfolding lifted
  lifted_fails e = rw e

  pub lifted_passes : tested l ≡ true → lifted call l ≡ (answer_number (call (view l)).0, store (call (view l)).1 l)
  unfolding lifted
  lifted_passes e = rw e

  -- done: the bytes hold the state left
  pub lifted_done : tested l ≡ true → (n : ℕ) (l' : List ℕ) → n ≡ answer_number (call (view l)).0 → l' ≡ store (call (view l)).1 l → (n, l') ≡ lifted call l
  lifted_done e n l' p q = (λ i. (p i, q i)) ∙ sym (lifted_passes e)

  -- refused: nothing is written
  pub lifted_kept : tested l ≡ true → Bytes l → (n : ℕ) → n ≡ answer_number (call (view l)).0 → (call (view l)).1 ≡ view l → (n, l) ≡ lifted call l
  lifted_kept e b n p q = lifted_done e n l p (sym (store_view l e b) ∙ ap (λ (st : State). store st l) (sym q))

  -- afterwards the state test passes, and the bytes say what the rules say: a run of calls is a run of the rules
  module _ (e : tested l ≡ true) (w : Suits (call (view l)).1 l) where
    pub lifted_tested : tested (lifted call l).1 ≡ true
    lifted_tested = ap (λ (z : ℕ × List ℕ). tested z.1) (lifted_passes e) ∙ tested_store (call (view l)).1 l w

    pub lifted_view : view (lifted call l).1 ≡ (call (view l)).1
    lifted_view = ap (λ (z : ℕ × List ℕ). view z.1) (lifted_passes e) ∙ view_store (call (view l)).1 l w

module _ (call : ℕ → State → Answer × State) (l out : List ℕ) where
  abbrev after : Answer × State
  after = call (length out) (view l)

  pub out_fails : tested l ≡ false → (1, (l, out)) ≡ lifted_out call l out
  unfolding lifted_out
  out_fails e = rw e

  pub out_done : tested l ≡ true → (n : ℕ) (l' out' : List ℕ) → n ≡ answer_number after.0 → l' ≡ store after.1 l → out' ≡ sets out 0 (answer_bytes after.0)
      → (n, (l', out')) ≡ lifted_out call l out
  unfolding lifted_out
  out_done e n l' out' p q r = (λ i. (p i, (q i, r i))) ∙ rw e

  pub out_kept : tested l ≡ true → Bytes l → (n : ℕ) → n ≡ answer_number after.0 → after.1 ≡ view l → answer_bytes after.0 ≡ []
      → (n, (l, out)) ≡ lifted_out call l out
  out_kept e b n p q r =
      out_done e n l out p (sym (store_view l e b) ∙ ap (λ (st : State). store st l) (sym q)) (ap (sets out 0) (sym r))

module _ (call : ℕ → State → Answer) (l out : List ℕ) where
  pub read_fails : tested l ≡ false → (1, out) ≡ lifted_read call l out
  unfolding lifted_read
  read_fails e = rw e

  pub read_done : tested l ≡ true → (n : ℕ) (out' : List ℕ) → n ≡ answer_number (call (length out) (view l)) → out' ≡ sets out 0 (answer_bytes (call (length out) (view l)))
      → (n, out') ≡ lifted_read call l out
  unfolding lifted_read
  read_done e n out' p r = (λ i. (p i, r i)) ∙ rw e
