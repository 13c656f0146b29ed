-- An answer that touches no state, on the lent output: its number, and what it writes at the output's start.
use Rattle.std.specs.Prelude.{ℕ, ◌*◌, ◌≤◌, ◌<◌, ◌≡◌, T, length}
use mathlib.Core.List.{List}
use Rattle.std.proofs.Math.Path.{ap, ap₂, sym}
use Rattle.std.proofs.Common.{◌∙◌, le-leb}
use Rattle.std.proofs.lemmas.Bool.{lt-leb}
use Rattle.std.proofs.lemmas.List.Edits.{sets}
use Rattle.base_cells.specs.Records.{sum, enc_fields, put_fields, Laid, put_fields_eq, length_enc_fields}
use Rattle.rules.specs.Answers.{Answer, Wrote, Refused, no_number, fitting, answer_number, answer_bytes}
use Rattle.rules.specs.declared.No.{No}
use Rattle.rules.specs.declared.No.TheVariants.{NoRoom}

-- what is told of an answer on an output
abbrev pub saying : Answer → List ℕ → ℕ × List ℕ
saying a out = (answer_number a, sets out 0 (answer_bytes a))

-- a call that is lent an output and no state, by the room in it
unfoldable pub answered : (ℕ → Answer) → List ℕ → ℕ × List ℕ
answered call out = saying (call (length out)) out

module _ (call : ℕ → Answer) (out : List ℕ) where
  pub answered_by : (a : Answer) → call (length out) ≡ a → answered call out ≡ saying a out
  unfolding answered
  answered_by a e = ap (λ (x : Answer). saying x out) e

  -- a no leaves the output
  pub answered_no : (w : No) → call (length out) ≡ Refused w → (no_number w, out) ≡ answered call out
  unfolding answer_number
  answered_no w e = sym (answered_by (Refused w) e)

  -- two calls that say the same there
  pub answered_same : (other : ℕ → Answer) → call (length out) ≡ other (length out) → answered call out ≡ answered other out
  unfolding answered
  answered_same other e = ap (λ (x : Answer). saying x out) e

-- a record, where it fits
abbrev pub wrote : List ℕ → ℕ → Answer
wrote bs room = fitting room bs (Wrote bs)

module _ (ws vs out : List ℕ) (t : T (Laid ws vs)) (n : ℕ) (e : sum ws ≡ n) where
  long : length (enc_fields ws vs) ≡ n
  long = length_enc_fields ws vs t ∙ e

  pub wrote_none : length out < n → (8, out) ≡ answered (wrote (enc_fields ws vs)) out
  wrote_none h = answered_no _ out NoRoom (simp (lt-leb (length (enc_fields ws vs)) (length out) (rw long h)))

  pub wrote_all : (out' : List ℕ) → n ≤ length out → out' ≡ put_fields ws out 0 vs → (256 * n, out') ≡ answered (wrote (enc_fields ws vs)) out
  unfolding answer_number
  wrote_all out' h f =
      ap₂ (λ (k : ℕ) (x : List ℕ). (256 * k, x)) (sym long) (f ∙ put_fields_eq ws out 0 vs)
      ∙ sym (answered_by _ out (Wrote (enc_fields ws vs)) (simp (le-leb (length (enc_fields ws vs)) (length out) (rw long h))))
