-- The run bit of the bytes that a host holds has a live owner: a row of the table.
use Rattle.std.specs.Prelude.{ℕ, zero, suc, ◌+◌, ◌%◌, ◌≤◌, ◌<◌, Bool, true, false, cond, not, ◌&&◌, List, [], ◌∷◌, ◌≡◌, refl, leb, length, get_or, drop, Option, Some, None}
use Rattle.std.proofs.Common.{ap, sym, subst, ◌∙◌, arith, get_or-drop, get_or-take, leb-true}
use Rattle.std.proofs.lemmas.List.Edits.{sets, sets-eq}
use Rattle.base_cells.specs.Numbers.{le, le_1}
use Rattle.base_cells.specs.Records.{to_bool, of_bool, to_of}
use Rattle.rules_laws.specs.ListLaws.{by_cases}
use Rattle.rules.specs.State.{Shape, Content, no_content, State, content_at, shape_at, is_output}
use Rattle.rules.specs.Answers.{Wrote, Refused, timely, answer_number, answer_bytes}
use Rattle.rules.specs.Lists.{any}
use Rattle.rules.specs.Setup.{fresh}
use Rattle.rules.specs.Checks.{place_of, owns}
use Rattle.rules.specs.Removal.{expired, expire_answer, expire_call}
use Rattle.rules.specs.Host.{output_bytes, output_at, output_answer, output_call}
use Rattle.rules.specs.Calls
use Rattle.rules.specs.Calls.{next, run}
use Rattle.state_rules.specs.Places.{setup_in, marks_in, data_in, marks_at, connections_of, assemblies_of}
use Rattle.state_rules.specs.Setups.{setup_of}
use Rattle.state_rules.specs.Bits.{run_in}
use Rattle.state_rules.specs.Image.{view, tested, contents_of}
use Rattle.state_image.specs.Fits.{few_assemblies, length_assemblies, is_sound}
use Rattle.state_image.specs.TestLaws.{assemblies_in}
use Rattle.rules_faults.specs.RunBit.{owner_of, Owned}
use Rattle.rules_faults.proofs.RunBit.{run_has_owner, run_is_heard}
use Rattle.host_runs.specs.CallContracts.{Said, Met, Told}
use Rattle.host_runs.specs.HostCalls.{HostCall, contract_of, CCall}
use Rattle.host_runs.proofs.Steps.{agrees}
use Rattle.host_runs.specs.Runs.{Held}
use Rattle.host_runs.proofs.Held.{held_passes, held_reached}
use Rattle.host_promises.specs.Rows.{row_of, conns_view, row_found}
use Rattle.rules.specs.declared.No.TheVariants.{NoRoom}

pub held_owned : {s : List ℕ} → Held s → Owned (view s)
held_owned h = let r = held_reached h in subst Owned (sym r.3) (run_has_owner r.0 r.1 r.2)

-- an assembly's run bit is bit 0 of its mark
run_of : (ss : List Shape) (m d : List ℕ) (i : ℕ) → i < length ss → (get_or (contents_of ss m d) i no_content).run ≡ run_in (get_or m i 0)
unfolding contents_of
run_of [] m d i h = absurd (omega arith)
run_of (a ∷ ss) m d zero h = refl
run_of (a ∷ ss) m d (suc i) h = run_of ss (drop 1 m) (drop 512 d) i (omega arith) ∙ ap run_in (get_or-drop 1 m i 0 ∙ ap (λ (k : ℕ). get_or m k 0) (omega arith))

-- a row in use of the table that owns the output at a place
abbrev pub Owner : List ℕ → ℕ → Type 0
Owner s i = (k : ℕ) × (k < connections_of s) × (owns i (row_of s k).fixed ≡ true)

-- the marks stand from 240 on, one for each assembly; their number stands at 0
marked : (s : List ℕ) → tested s ≡ true → (i : ℕ) → i < assemblies_of s → le 1 s (marks_at + i) % 2 ≡ 1 → (get_or (view s).contents i no_content).run ≡ true
unfolding view
marked s ok i h e =
    let n = length_assemblies s in
    let a = assemblies_in s in
    let f = few_assemblies (setup_in s) (is_sound s ok) in
    let m : get_or (marks_in s) i 0 ≡ le 1 s (marks_at + i) = get_or-take 16 (drop marks_at s) i 0 (omega arith) ∙ get_or-drop marks_at s i 0 ∙ sym (le_1 s (marks_at + i)) in
    run_of (setup_of s).assemblies (marks_in s) (data_in s) i (omega arith) ∙ ap (λ (k : ℕ). to_bool (k % 2)) m ∙ ap to_bool e

-- THE RUN BIT HAS A LIVE OWNER, by the places of docs/STATE.md
pub run_byte : {s : List ℕ} → Held s → (i : ℕ) → i < assemblies_of s → le 1 s (marks_at + i) % 2 ≡ 1 → (is_output (shape_at (setup_of s) i).kind ≡ true) × Owner s i
unfolding view
run_byte {s} own i h e =
    let o = held_owned own i (marked s (held_passes own) i h e) in
    (o.0, row_found s (owner_of i) o.1)

pub late_refused : (time : ℕ) (st : State) → timely time ≡ false → answer_number (expire_call time st).0 ≡ 3
unfolding expire_call expire_answer answer_number
late_refused time st n = rw n

-- IT DOES NOT OUTLIVE A SILENT CONTROLLER: after an expiry call at a time, answered yes, the owner was heard at most its timeout before
pub run_heard : {s : List ℕ} → Held s → (time : ℕ) (s' : List ℕ) (a : Said) → Met (contract_of (HostCall.Expire time)) s s' a → a.number % 256 ≡ 0
    → (i : ℕ) → i < assemblies_of s' → le 1 s' (marks_at + i) % 2 ≡ 1 → (k : ℕ) × (k < connections_of s') × (owns i (row_of s' k).fixed && not (expired time (row_of s' k)) ≡ true)
run_heard {s} own time s' a m e i h f =
    let g = agrees (CCall.On (HostCall.Expire time)) s (held_passes own) s' a m in
    let r = held_reached own in
    let w : view s' ≡ next (Calls.Expire time) (run r.2 (fresh r.0 r.1)) = g.holds ∙ ap (next (Calls.Expire time)) r.3 in
    let run-there = ap (λ (st : State). (get_or st.contents i no_content).run) (sym w) ∙ marked s' g.passes i h f in
    let y : timely time ≡ true =
    by_cases (timely time) (λ (y : timely time ≡ true). y) (λ n. absurd (let z : a.number ≡ 3 = g.answers ∙ late_refused time (view s) n in omega arith)) in
    row_found s' (λ c. owner_of i c && not (expired time c))
    (ap (any (λ c. owner_of i c && not (expired time c))) (sym (conns_view s') ∙ ap (λ (st : State). st.table) w) ∙ run_is_heard r.0 r.1 r.2 time y i run-there)

-- ---- what the application reads

-- an output's bytes begin with the run byte
first_byte : (c : Content) (out : List ℕ) → length (output_bytes c) ≤ length out → get_or (sets out 0 (output_bytes c)) 0 0 ≡ of_bool c.run
first_byte c out h = ap (λ (x : List ℕ). get_or x 0 0) (sets-eq (output_bytes c) out 0 (omega arith))

-- a yes that begins with 1 is of an output in run
read_run : (st : State) (out : List ℕ) (a : Said) (o : Option ℕ) → Told (output_at (length out) st o) out a → a.number % 256 ≡ 0 → get_or a.output 0 0 ≡ 1
    → (i : ℕ) × (o ≡ Some i) × ((content_at st i).run ≡ true)
unfolding answer_number
read_run st out a None t e f = absurd (let n = t.0 in omega arith)
read_run st out a (Some i) t e f =
    let c : Content = content_at st i in
    by_cases (leb (length (output_bytes c)) (length out))
    (λ y.
    let w : a.output ≡ sets out 0 (output_bytes c) = t.1 ∙ ap (λ (b : Bool). sets out 0 (answer_bytes (cond b (Wrote (output_bytes c)) (Refused NoRoom)))) y in
    let r : of_bool c.run ≡ 1 = sym (first_byte c out (leb-true (length (output_bytes c)) (length out) y)) ∙ sym (ap (λ (x : List ℕ). get_or x 0 0) w) ∙ f in
    (i, refl, sym (to_of c.run) ∙ ap to_bool r))
    (λ n.
    let w : a.number ≡ 8 = t.0 ∙ ap (λ (b : Bool). answer_number (cond b (Wrote (output_bytes c)) (Refused NoRoom))) n in
    absurd (omega arith))

-- if `threshtide_output` says yes and gives the run byte 1, then the instance is an output, and a row of the table owns it
pub run_read : {s : List ℕ} → Held s → (instance : ℕ) (out s' : List ℕ) (a : Said) → Met (contract_of (HostCall.Output instance out)) s s' a
    → a.number % 256 ≡ 0 → get_or a.output 0 0 ≡ 1 → (i : ℕ) × (place_of is_output (view s).setup instance ≡ Some i) × Owner s i
unfolding output_call output_answer view
run_read {s} own instance out s' a m e f =
    let g = agrees (CCall.On (HostCall.Output instance out)) s (held_passes own) s' a m in
    let r = read_run (view s) out a (place_of is_output (view s).setup instance) g.answers e f in
    (r.0, r.1, row_found s (owner_of r.0) (held_owned own r.0 r.2).1)
