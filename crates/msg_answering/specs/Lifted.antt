-- MESSAGE on lent bytes: No. 1 where the state test or the position's own test fails, else the rules' answer as its number,
-- the position that it leaves, and its reply at the start of the output.
use Rattle.std.specs.Prelude.{ℕ, ◌*◌, ◌^◌, ◌≤◌, ◌<◌, true, false, ◌&&◌, List, ◌≡◌, length, Option}
use Rattle.rules.specs.declared.objects.Position.{Position}
use Rattle.std.proofs.Common.{ap, ◌∙◌}
use Rattle.std.proofs.Math.Path.{sym}
use Rattle.std.proofs.lemmas.List.Edits.{sets}
use Rattle.base_cells.specs.Pick.{pick}
use Rattle.wire_rules.specs.Requests.{request_of}
use Rattle.rules.specs.Answers.{Answer, answer_number, answer_bytes, Wrote, Refused}
use Rattle.rules.specs.Message.{service_of, message_outcome, message_reply, message_call}
use Rattle.rules_laws.specs.ReplyLaws.{no_room, always_replied}
use Rattle.state_rules.specs.Image.{view, tested}
use Rattle.msg_positions.specs.Positions.{dec_upload, enc_upload}
use Rattle.msg_answering.specs.Positions.{position_tested}
use Rattle.msg_answering.specs.Replies.{replied}
use Rattle.rules.specs.declared.No.TheVariants.{NoRoom}

abbrev pub message_on : ℕ → ℕ → List ℕ → List ℕ → List ℕ → List ℕ → Answer × Option Position
message_on local mask message l upload out = message_call local mask message (length out) (view l) (dec_upload upload)

unfoldable pub lifted_message : ℕ → ℕ → List ℕ → List ℕ → List ℕ → List ℕ → ℕ × (List ℕ × List ℕ)
lifted_message local mask message l upload out =
    pick (tested l && position_tested (view l).setup upload) (
      answer_number (message_on local mask message l upload out).0,
      (enc_upload (message_on local mask message l upload out).1, sets out 0 (answer_bytes (message_on local mask message l upload out).0)),
    )
    (1, (upload, out))

module _ (local mask : ℕ) (message l upload out : List ℕ) where
  pub message_untested : tested l ≡ false → (1, (upload, out)) ≡ lifted_message local mask message l upload out
  unfolding lifted_message
  message_untested e = rw e

  module _ (t : tested l ≡ true) where
    pub message_misplaced : position_tested (view l).setup upload ≡ false → (1, (upload, out)) ≡ lifted_message local mask message l upload out
    unfolding lifted_message
    message_misplaced e = rw (t, e)

    module _ (p : position_tested (view l).setup upload ≡ true) where
      passes : lifted_message local mask message l upload out ≡ (answer_number (message_on local mask message l upload out).0, (enc_upload (message_on local mask message l upload out).1, sets out 0 (answer_bytes (message_on local mask message l upload out).0)))
      unfolding lifted_message
      passes = rw (t, p)

      answered : (a : Answer) (up : Option Position) → message_on local mask message l upload out ≡ (a, up)
          → lifted_message local mask message l upload out ≡ (answer_number a, (enc_upload up, sets out 0 (answer_bytes a)))
      answered a up e = passes ∙ ap (λ (z : Answer × Option Position). (answer_number z.0, (enc_upload z.1, sets out 0 (answer_bytes z.0)))) e

      -- No. 8
      pub message_short : length out < 516 → enc_upload (dec_upload upload) ≡ upload → (8, (upload, out)) ≡ lifted_message local mask message l upload out
      unfolding answer_number
      message_short h w =
          (λ i. (8, (sym w i, out)))
          ∙ sym (answered (Refused NoRoom) (dec_upload upload) (no_room (view l) local mask message (length out) (dec_upload upload) h))

      -- a reply
      pub message_replied : 516 ≤ length out → (n : ℕ) (p' o : List ℕ)
          → (n, (p', o)) ≡ replied (service_of (request_of message)) (message_outcome (view l) local mask message (dec_upload upload)) out
          → (2 ^ 8 * n, (p', o)) ≡ lifted_message local mask message l upload out
      unfolding answer_number message_reply
      message_replied h n p' o e =
          (λ i. (2 ^ 8 * (e i).0, ((e i).1.0, (e i).1.1)))
          ∙ sym (answered (Wrote (message_reply (view l) local mask message (dec_upload upload))) (message_outcome (view l) local mask message (dec_upload upload)).1
          (always_replied (view l) local mask message (length out) (dec_upload upload) h))
