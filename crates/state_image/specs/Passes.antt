-- What is stored passes the state test.
use Rattle.std.specs.Prelude.{ℕ, true, List, ◌≡◌, length}
use Rattle.std.proofs.Common.{ap, sym, ◌∙◌}
use Rattle.rules.specs.State.{State}
use Rattle.state_rules.specs.Setups.{good_setup, good_shapes}
use Rattle.state_rules.specs.Bits.{word_small}
use Rattle.state_rules.specs.Image.{good_head, tested, store}
use Rattle.state_image.specs.Fits.{Suits}
use Rattle.state_image.specs.StoreLaws.{length_store, setup_of_store, next_id_is, word_is, conns_is}
use Rattle.state_image.specs.TestLaws.{head_passes, state_passes}

module _ (st : State) (l : List ℕ) (w : Suits st l) where
  pub tested_store : tested (store st l) ≡ true
  tested_store =
      let s : List ℕ = store st l in
      let h : good_head s ≡ true =
      sym (head_passes s (rw (next_id_is st l w) w.fits.id)
      (rw (word_is st l w) (word_small (length st.events.waiting) st.events.gone st.fault w.fits.waiting w.fits.gone))
      (rw (conns_is st l w) w.fits.table)) in
      sym (state_passes s (length_store st l w) (ap good_setup (setup_of_store st l w) ∙ w.lent.sound) h
      (ap good_shapes (setup_of_store st l w) ∙ w.lent.shapes))
