-- SETUP's ways out, one law each, and what an accepted setup leaves.
use Rattle.std.specs.Prelude.{ℕ, true, false, List, ◌≡◌, eqb, length}
use Rattle.std.proofs.Math.Path.{refl}
use Rattle.std.proofs.Common.{ap, sym, ◌∙◌, arith, eqb-true, eq-eqb, ne_eqb}
use Rattle.std.proofs.lemmas.Bool.{eqb-false}
use Rattle.base_tables.specs.Ring.{by_cases}
use Rattle.rules.specs.Answers.{answer_number}
use Rattle.rules.specs.Setup.{fresh}
use Rattle.state_rules.specs.Places.{state_size}
use Rattle.state_rules.specs.Image.{view, tested}
use Rattle.app_starting.specs.Block.{setup_given, accepted, started, setup_call}
use Rattle.app_starting.specs.Fresh.{view_started, tested_started}

module _ (l block eds : List ℕ) (seed : ℕ) where
  pub other_size : (length l ≡ state_size → ⊥) → (1, l) ≡ setup_call l block eds seed
  unfolding setup_call
  other_size h = rw (ne_eqb (length l) state_size h) refl

  module _ (h : length l ≡ state_size) where
    pub bad_setup : accepted block eds ≡ false → (2, l) ≡ setup_call l block eds seed
    unfolding setup_call answer_number
    bad_setup e = rw (eq-eqb (length l) state_size h, e) refl

    pub set_up : accepted block eds ≡ true → (0, started block eds seed) ≡ setup_call l block eds seed
    unfolding setup_call answer_number
    set_up e = rw (eq-eqb (length l) state_size h, e) refl

  -- whoever is answered 0 has the rules' fresh state, and it passes the state test
  pub setup_fresh : (setup_call l block eds seed).0 ≡ 0
      → (tested (setup_call l block eds seed).1 ≡ true) × (view (setup_call l block eds seed).1 ≡ fresh (setup_given block eds) seed)
  setup_fresh z =
      by_cases (eqb (length l) state_size)
      (λ a.
      by_cases (accepted block eds)
      (λ e. let q = set_up (eqb-true (length l) state_size a) e in
      (ap (λ (x : ℕ × List ℕ). tested x.1) (sym q) ∙ tested_started block eds seed e, ap (λ (x : ℕ × List ℕ). view x.1) (sym q) ∙ view_started block eds seed e))
      (λ e. let q : 2 ≡ 0 = ap (λ (x : ℕ × List ℕ). x.0) (bad_setup (eqb-true (length l) state_size a) e) ∙ z in absurd (omega arith)))
      (λ a. let q : 1 ≡ 0 = ap (λ (x : ℕ × List ℕ). x.0) (other_size (eqb-false (length l) state_size a)) ∙ z in absurd (omega arith))
