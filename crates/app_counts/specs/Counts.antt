-- The counters, as code writes them.
use Rattle.std.specs.Prelude.{ℕ, ◌*◌, ◌^◌, ◌≤◌, ◌<◌, true, List, [], ◌∷◌, ◌++◌, ◌≡◌, refl, length}
use Rattle.std.proofs.Common.{sym, ◌∙◌, arith}
use Rattle.std.proofs.Math.Seq.{sets}
use Rattle.base_cells.specs.Numbers.{put, le_bytes}
use Rattle.base_cells.specs.Records.{enc_fields, put_fields_eq, puts, done, step}
use Rattle.rules.specs.Answers.{Wrote}
use Rattle.rules.specs.Host.{stats_bytes, stats_answer}
use Rattle.state_rules.specs.Places.{produced_of, late_of, max_late_of}
use Rattle.state_rules.specs.Image.{view, tested}
use Rattle.state_image.specs.Lift.{lifted_read}
use Rattle.app_answers.specs.Ways.{fits_in, fits_not, read_wrote, read_no}
use Rattle.rules.specs.declared.No.TheVariants.{NoRoom}

-- three numbers of 8 bytes, one behind the other
length_three : (a b c : ℕ) → length (le_bytes 8 a ++ le_bytes 8 b ++ le_bytes 8 c) ≡ 24
unfolding le_bytes
length_three a b c = refl

three_put : (o o₁ o₂ o₃ : List ℕ) (a b c : ℕ) → o₁ ≡ put 8 o 0 a → o₂ ≡ put 8 o₁ 8 b → o₃ ≡ put 8 o₂ 16 c
    → o₃ ≡ sets o 0 (le_bytes 8 a ++ le_bytes 8 b ++ le_bytes 8 c)
unfolding enc_fields le_bytes
three_put o o₁ o₂ o₃ a b c e₁ e₂ e₃ =
    puts (step e₁ (step e₂ (step e₃ done))) ∙ put_fields_eq (8 ∷ 8 ∷ 8 ∷ []) o 0 (a ∷ b ∷ c ∷ [])

module _ (s out : List ℕ) (t : tested s ≡ true) where
  pub stats_short : length out < 24 → (8, out) ≡ lifted_read stats_answer s out
  unfolding stats_answer view
  stats_short h =
      let n = length_three (produced_of s) (late_of s) (max_late_of s) in
      read_no s out t stats_answer NoRoom (fits_not (length out) (stats_bytes (view s).counters) (Wrote (stats_bytes (view s).counters)) (omega arith))

  pub stats_wrote : 24 ≤ length out → (o₁ o₂ o₃ : List ℕ) (a b c : ℕ) → a ≡ produced_of s → b ≡ late_of s → c ≡ max_late_of s
      → o₁ ≡ put 8 out 0 a → o₂ ≡ put 8 o₁ 8 b → o₃ ≡ put 8 o₂ 16 c → (2 ^ 8 * 24, o₃) ≡ lifted_read stats_answer s out
  unfolding stats_answer view
  stats_wrote h o₁ o₂ o₃ a b c ea eb ec e₁ e₂ e₃ =
      let n = length_three (produced_of s) (late_of s) (max_late_of s) in
      read_wrote s out t stats_answer 24 o₃ (stats_bytes (view s).counters)
      (fits_in (length out) (stats_bytes (view s).counters) (Wrote (stats_bytes (view s).counters)) (omega arith))
      (sym n)
      (three_put out o₁ o₂ o₃ a b c e₁ e₂ e₃ ∙ (λ i. sets out 0 (le_bytes 8 (ea i) ++ le_bytes 8 (eb i) ++ le_bytes 8 (ec i))))
