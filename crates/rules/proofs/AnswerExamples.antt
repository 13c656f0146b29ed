-- Answers and numbers for no, computed: chapter 2 of the rules, each line with its rule.
use mathlib.Core.Path.{refl}
use mathlib.Core.List.{List, [], ◌∷◌, map}
use mathlib.Core.Bool.{true, false}
use Prim.Native.Nat.{ℕ, ◌-◌, ◌^◌}
use lib.ListN.{set}
use Rattle.base_cells.specs.Numbers.{le, le_of, le_bytes}
use Rattle.base_cells.specs.Records.{enc_fields}
use Rattle.wire_rules.specs.Examples.{Example, ◌is◌, Hold}
use Rattle.wire_rules.specs.Params.{params_at}
use Rattle.wire_rules.specs.Opens.{triad_at, way_at, place_at, fields_of, open_with, width_of, open_of, close_of}
use Rattle.wire_rules.specs.Replies.{triad_reply}
use Rattle.rules.specs.Answers.{Done, Wrote, Accepted, Gone, Refused, Failed, BadSetup, BadTime, NotParsed, NoAssembly, TooLong, NoRoom, NothingThere, no_number, answer_number, answer_bytes, Transport, InputSize, fitting, settled}
use Rattle.rules.specs.Checks.{must, transport_check, verdict, place_of}
use Rattle.rules.specs.Opening.{verdict_of, open_answer, open_effect, open_call, refusal_answer}
use Rattle.rules.specs.Removal.{close_answer, close_effect, close_call, expire_answer, expire_call}
use Rattle.rules.specs.Receiving.{receive_answer, receive_call}
use Rattle.rules.specs.Producing.{produce_answer, produce_call}
use Rattle.rules.specs.Host.{set_input_answer, output_answer, assembly_answer, next_event_answer}
use Rattle.rules.proofs.Examples.{setup, start, owner, ending, from}
use Rattle.rules.proofs.Small.{two}

abbrev pub numbers : List Example
numbers =
    -- 2.3 to 2.10: each reason's number
    (map no_number (BadSetup ∷ BadTime ∷ NotParsed ∷ NoAssembly ∷ TooLong ∷ NoRoom ∷ NothingThere ∷ []) is 2 ∷ 3 ∷ 4 ∷ 6 ∷ 7 ∷ 8 ∷ 9 ∷ []) ∷
    -- 2.16: the low byte is 0 for yes or the number for no; a yes has its length, or how many went, from bit 8 on
    (map answer_number (Done ∷ Wrote [] ∷ Wrote (7 ∷ 7 ∷ 7 ∷ []) ∷ Gone 2 ∷ Refused NoRoom ∷ []) is 0 ∷ 0 ∷ 0x300 ∷ 0x200 ∷ 8 ∷ []) ∷
    -- 2.17: an accepted open says whether it is multicast, then port and address of the group
    (answer_number (Accepted true (record { address = 0xEFC00120; port = 0x08AE }) (1 ∷ [])) is 0xEFC0012008AE0100) ∷
    (answer_number (Accepted false (record { address = 0xEFC00120; port = 0x08AE }) (1 ∷ [])) is 0) ∷
    -- 2.6: a refused one has general status 0x01, the number of words, then one or two words
    (answer_number (Failed (Transport 0x81)) is 0x0000010300010105) ∷
    (answer_number (Failed (InputSize 2 3)) is 0x0003010900020105) ∷
    -- 2.1: a no writes nothing, 2.15: a yes its bytes at the start and none behind
    (map answer_bytes (Refused NoRoom ∷ Failed (Transport 0x81) ∷ Done ∷ Gone 2 ∷ []) is [] ∷ [] ∷ [] ∷ [] ∷ []) ∷
    (map answer_bytes (Wrote (1 ∷ 2 ∷ []) ∷ Accepted true (record { address = 1; port = 1 }) (3 ∷ []) ∷ []) is (1 ∷ 2 ∷ []) ∷ (3 ∷ []) ∷ []) ∷
    (settled {S = ℕ} (Refused NoRoom) 1 0 is (Refused NoRoom, 0)) ∷
    (settled {S = ℕ} (Failed (Transport 0x81)) 1 0 is (Failed (Transport 0x81), 0)) ∷
    (settled {S = ℕ} (Wrote []) 1 0 is (Wrote [], 1)) ∷
    -- 2.9: room of just the answer's length suffices
    (fitting 2 (1 ∷ 2 ∷ []) Done is Done) ∷
    (fitting 1 (1 ∷ 2 ∷ []) Done is Refused NoRoom) ∷
    []

pub the_numbers : Hold numbers
unfolding answer_number
the_numbers = (refl, (refl, (refl, (refl, (refl, (refl, (refl, (refl, (refl, (refl, (refl, (refl, (refl, tt)))))))))))))

-- an open of a transport that is not ours
abbrev pub wrong : List ℕ
wrong = set owner 34 0x81

abbrev pub first_of_two : List Example
first_of_two =
    -- 2.4: times up to 2^63 - 1
    ((receive_call (2 ^ 63 - 1) 8 [] two).0 is Done) ∷
    (receive_call (2 ^ 63) 8 [] two is (Refused BadTime, two)) ∷
    (expire_call (2 ^ 63) two is (Refused BadTime, two)) ∷
    -- 2.11: as numbered. 3 before 4, 3 before 8
    (open_call (2 ^ 63) 0x54 [] (from 8) 0 start is (Refused BadTime, start)) ∷
    (produce_call (2 ^ 63) 0 two is (Refused BadTime, two)) ∷
    -- 2.5: what does not parse, another service; 4 before 8 and 9
    ((open_call (2 ^ 63 - 1) 0x54 [] (from 8) 0 start).0 is Refused NotParsed) ∷
    ((open_call 1000 0x4E owner (from 8) 26 start).0 is Refused NotParsed) ∷
    ((close_call [] 0 start).0 is Refused NotParsed) ∷
    (refusal_answer 0x54 [] 0 is Refused NotParsed) ∷
    (refusal_answer 0x54 owner 9 is Refused NoRoom) ∷
    -- 12.15: what a refused open is answered with: its triad and two zero bytes
    (refusal_answer 0x54 owner 10 is Wrote (1 ∷ 0 ∷ 1 ∷ 0 ∷ 1 ∷ 0 ∷ 0 ∷ 0 ∷ 0 ∷ 0 ∷ [])) ∷
    (refusal_answer 0x4E owner 10 is Refused NotParsed) ∷
    -- 5 before 8
    (open_call 1000 0x54 wrong (from 8) 0 start is (Failed (Transport 0x81), start)) ∷
    -- 6 before 7, 6 before 8
    (set_input_answer 102 (1 ∷ 2 ∷ 3 ∷ []) setup is Refused NoAssembly) ∷
    (output_answer 151 0 two is Refused NoAssembly) ∷
    (assembly_answer 1 150 0 two is Refused NoAssembly) ∷
    -- 2.12: 9 before 8
    (close_call (ending 99) 0 two is (Refused NothingThere, two)) ∷
    (close_call (ending 5) 9 two is (Refused NoRoom, two)) ∷
    (next_event_answer 0 two is Refused NothingThere) ∷
    []

pub first_of_two_lem : Hold first_of_two
unfolding open_call open_answer open_effect verdict_of verdict must transport_check open_of open_with fields_of width_of triad_at way_at place_at params_at refusal_answer triad_reply enc_fields close_call close_answer close_effect close_of expire_call expire_answer receive_call receive_answer produce_call produce_answer set_input_answer output_answer assembly_answer next_event_answer place_of le_bytes le le_of
first_of_two_lem = (refl, (refl, (refl, (refl, (refl, (refl, (refl, (refl, (refl, (refl, (refl, (refl, (refl, (refl, (refl, (refl, (refl, (refl, (refl, tt)))))))))))))))))))
