-- What a writer leaves: all of its bytes at the start of the output, or, where they do not fit, nothing.
use Rattle.std.specs.Prelude.{ℕ, ◌+◌, ◌≤◌, ◌<◌, List, [], ◌∷◌, ◌≡◌, leb, length, get_or, take, set, replicate, Option, Some, None}
use Rattle.std.proofs.Common.{ap, sym, ◌∙◌, arith, add-one, le-leb, take-suc, take_all, length-take-le}
use Rattle.std.proofs.lemmas.Bool.{lt-leb}
use Rattle.std.proofs.lemmas.List.{length-replicate, get_or-replicate}
use Rattle.std.proofs.lemmas.List.Edits.{sets}
use Rattle.base_cells.specs.Pick.{pick}
use Rattle.base_cells.specs.Numbers.{sets_append}

unfoldable pub written : List ℕ → List ℕ → Option ℕ × List ℕ
written out bs = pick (leb (length bs) (length out)) (Some (length bs), sets out 0 bs) (None, out)

module _ (out bs : List ℕ) where
  pub written_all : length bs ≤ length out → written out bs ≡ (Some (length bs), sets out 0 bs)
  unfolding written
  written_all h = simp (le-leb _ _ h)

  pub written_none : length out < length bs → written out bs ≡ (None, out)
  unfolding written
  written_none h = simp (lt-leb _ _ h)

-- one more byte copied
pub copied_more : (s d : List ℕ) (at j : ℕ) (x : List ℕ) → j < length d → x ≡ sets s at (take j d)
    → set x (at + j) (get_or d j 0) ≡ sets s at (take (j + 1) d)
copied_more s d at j x h e =
    ap (λ (z : List ℕ). set z (at + j) (get_or d j 0)) e
    ∙ ap (λ (n : ℕ). set (sets s at (take j d)) (at + n) (get_or d j 0)) (sym (length-take-le j d (omega arith)))
    ∙ sym (sets_append s at (take j d) (get_or d j 0 ∷ []))
    ∙ ap (sets s at) (sym (take-suc d j 0 h) ∙ ap (λ (n : ℕ). take n d) (sym (add-one j)))

-- one more byte made zero; all of them
pub zeroed_more : (s₀ : List ℕ) (at n k : ℕ) (s : List ℕ) → k < n → s ≡ sets s₀ at (take k (replicate n 0)) → set s (at + k) 0 ≡ sets s₀ at (take (k + 1) (replicate n 0))
zeroed_more s₀ at n k s g e =
    ap (set s (at + k)) (sym (get_or-replicate n k 0 0 g)) ∙ copied_more s₀ (replicate n 0) at k s (let z = length-replicate {A = ℕ} n 0 in omega arith) e

pub zeroed_all : (n k : ℕ) → n ≤ k → take k (replicate {A = ℕ} n 0) ≡ replicate n 0
zeroed_all n k g = take_all k (replicate n 0) (let z = length-replicate {A = ℕ} n 0 in omega arith)
