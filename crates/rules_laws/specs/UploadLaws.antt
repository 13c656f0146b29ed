-- A client that uploads the EDS, transfer after transfer and each as often as it likes, gets exactly the EDS and its checksum.
use mathlib.Core.List.{List, [], ◌∷◌, ◌++◌, append_assoc, append-nil}
use Rattle.std.specs.Prelude.{Bool, false, cond, ◌||◌, ◌≡◌, leb, length, get_or, take, drop, Option, Some, None}
use Rattle.std.proofs.Math.Bool.{true}
use Rattle.std.proofs.Math.Path.{refl, ap}
use Rattle.std.proofs.Common.{sym, ◌∙◌}
use Prim.Native.Nat.{ℕ, zero, suc, ◌+◌, ◌*◌, ◌%◌, ◌≤◌, ◌<◌, min}
use native.Mathlib.Omega.{arith}
use Rattle.std.proofs.Math.Dec.{eqb}
use Rattle.std.proofs.Math.Seq.{take-add, take_all}
use borrow.Author.Tests.{leb-true, leb-false, eqb-true, eq-eqb, ne_eqb}
use Rattle.base_cells.specs.Numbers.{le_bytes}
use Rattle.rules.specs.declared.objects.Fault.{Fault}
use Rattle.rules.specs.Attributes.{Outcome, Gives, Fails}
use Rattle.rules.specs.declared.objects.Transfer.{Transfer}
use Rattle.rules.specs.declared.objects.Position.{Position}
use Rattle.rules.specs.declared.objects.Turn.{Turn}
use Rattle.rules.specs.declared.objects.Turn.TheVariants.{Repeat, InTurn, OutOfTurn}
use Rattle.rules.specs.Upload.{checksum, clamped, started, next_turn, turn_after, turn_of, advanced, reaches_end, transfer_type, transfer_bytes, transfer_reply, transfer_for, transfer, was}

-- ---- one transfer

next_number : (next number : ℕ) → next_turn next number ≡ InTurn → number ≡ next
next_number next number e = by (eqb number next) refl e
  where
    by : (b : Bool) → eqb number next ≡ b → cond b InTurn OutOfTurn ≡ InTurn → number ≡ next
    by true q h = eqb-true number next q
    by false q h = absurd (let z : ◌≡◌ {A = ℕ} 0 1 = cc in omega arith)

turn_number : (last : Option Transfer) (next number : ℕ) → turn_after last next number ≡ InTurn → number ≡ next
turn_number None next number e = next_number next number e
turn_number (Some before) next number e = by (eqb before.number number) e
  where
    by : (b : Bool) → cond b (Repeat before.offset) (next_turn next number) ≡ InTurn → number ≡ next
    by true h = absurd (let z : ◌≡◌ {A = ℕ} 0 1 = cc in omega arith)
    by false h = next_number next number h

no_bytes : {A : Type 0} {f : Fault} {bytes : List ℕ} → Fails f ≡ Gives bytes → A
no_bytes e = absurd (let z : ◌≡◌ {A = ℕ} 0 1 = cc in omega arith)

-- what was answered with bytes is answered with the same bytes when it is asked for again, and the position stays where it is
module _ (eds : List ℕ) where
  asked_turn : (p : Position) (number : ℕ) (t : Turn) → turn_of p number ≡ t → (bytes : List ℕ) (up : Option Position)
      → transfer_for eds p number t ≡ (Gives bytes, up) → transfer eds up (number ∷ []) ≡ (Gives bytes, up)
  unfolding transfer turn_of advanced
  asked_turn p number (Repeat offset) h bytes up e =
      ap (λ (u : Option Position). transfer eds u (number ∷ [])) (sym (ap (λ (r : Outcome × Option Position). r.1) e)) ∙ ap (transfer_for eds p number) h ∙ e
  asked_turn p number InTurn h bytes up e =
      let n : eqb p.next number ≡ true = eq-eqb p.next number (sym (turn_number p.last p.next number h)) in
      ap (λ (u : Option Position). transfer eds u (number ∷ [])) (sym (ap (λ (r : Outcome × Option Position). r.1) e)) ∙ rw n e
  asked_turn p number OutOfTurn h bytes up e = no_bytes (ap (λ (r : Outcome × Option Position). r.0) e)

  pub asked_again : (before up : Option Position) (number : ℕ) (bytes : List ℕ)
      → transfer eds before (number ∷ []) ≡ (Gives bytes, up) → transfer eds up (number ∷ []) ≡ (Gives bytes, up)
  unfolding transfer
  asked_again None up number bytes e = no_bytes (ap (λ (r : Outcome × Option Position). r.0) e)
  asked_again (Some p) up number bytes e = asked_turn p number (turn_of p number) refl bytes up e

-- ---- the client

-- it asks for the next transfer, or for the last one again
pub data Move : Type 0 where
  Next Again : Move

-- what it holds: the position that the adapter keeps for it; how many transfers it has asked for in turn; the bytes of all but
-- the last of these; and the newest reply, which a repeat replaces
pub record Client : Type 0 where
  pub position : Option Position
  pub turns : ℕ
  pub before : List ℕ
  pub newest : List ℕ

abbrev pub client : Option Position → ℕ → List ℕ → List ℕ → Client
client position turns before newest = record { position = position; turns = turns; before = before; newest = newest }

-- a reply is a number, a type and bytes: all that it got
abbrev pub got : Client → List ℕ
got c = c.before ++ drop 2 c.newest

-- the upload ends with a reply of type 2 (last) or 4 (first and last)
abbrev pub is_last : ℕ → Bool
is_last kind = eqb kind 2 || eqb kind 4

abbrev pub ended : Client → Bool
ended c = is_last (get_or c.newest 1 0)

-- how the adapter answers a transfer of a number: a reply, and the position that it keeps
abbrev pub Ask : Type 0
Ask = ℕ → Option Position → List ℕ × Option Position

-- transfers are numbered from 0, and numbers wrap at 256
abbrev pub asks_next : Ask → Client → Client
asks_next ask c =
    client (ask (c.turns % 256) c.position).1 (suc c.turns) (got c) (ask (c.turns % 256) c.position).0

abbrev pub asks_again : Ask → Client → ℕ → Client
asks_again ask c zero = c
asks_again ask c (suc k) = client (ask (k % 256) c.position).1 c.turns c.before (ask (k % 256) c.position).0

-- after the end it asks for nothing new
abbrev pub move : Ask → Move → Client → Client
move ask Next c = cond (ended c) c (asks_next ask c)
move ask Again c = asks_again ask c c.turns

abbrev pub moves : Ask → List Move → Client → Client
moves ask [] c = c
moves ask (m ∷ ms) c = moves ask ms (move ask m c)

-- how many transfers in turn it is willing to ask for
abbrev pub nexts : List Move → ℕ
nexts [] = 0
nexts (Next ∷ ms) = suc (nexts ms)
nexts (Again ∷ ms) = nexts ms

-- the reply and the position of one transfer step
abbrev pub reply_in : Outcome → List ℕ
reply_in (Gives bytes) = bytes
reply_in (Fails f) = []

abbrev pub step : List ℕ → Ask
step eds number up = (reply_in (transfer eds up (number ∷ [])).0, (transfer eds up (number ∷ [])).1)

-- it begins with the position that initiate leaves
abbrev pub begins : ℕ → Client
begins size = client (Some (started size)) 0 [] []

-- ---- what the client holds after n turns

abbrev held : ℕ → ℕ → ℕ → ℕ → ℕ → Option Position
held size next offset number before = Some (record { size = size; next = next; offset = offset; last = was number before })

last_type : (first last : Bool) → is_last (transfer_type first last) ≡ last
last_type true false = refl
last_type false false = refl
last_type false true = refl
last_type true true = refl

false_is_true : {A : Type 0} → ◌≡◌ {A = Bool} false true → A
false_is_true e = absurd (let z : ◌≡◌ {A = ℕ} 0 1 = cc in omega arith)

module _ (eds : List ℕ) (size : ℕ) where
  abbrev after : ℕ → Client
  after zero = begins size
  after (suc k) =
      client (held size (suc k % 256) (min (k * size + size) (length eds)) (k % 256) (k * size)) (suc k) (take (k * size) eds)
      (transfer_reply eds size (k % 256) (k * size))

  ended_after : (k : ℕ) → ended (after (suc k)) ≡ leb (length eds) (k * size + size)
  unfolding transfer_reply
  ended_after k = last_type (eqb (k * size) 0) (reaches_end eds size (k * size))

  -- a repeat gives the same reply, and leaves the position
  repeat_turn : (next offset number before : ℕ)
      → step eds number (held size next offset number before) ≡ (transfer_reply eds size number before, held size next offset number before)
  unfolding transfer turn_of
  repeat_turn next offset number before = simp (eq-eqb number number refl)

  -- a transfer in turn
  in_turn : (next offset number before : ℕ) → (number ≡ next → ⊥)
      → step eds next (held size next offset number before)
      ≡ (transfer_reply eds size next offset, held size ((next + 1) % 256) (min (offset + size) (length eds)) next offset)
  unfolding transfer turn_of advanced
  in_turn next offset number before h = simp (ne_eqb number next h, eq-eqb next next refl)

  first_turn : step eds 0 (Some (started size)) ≡ (transfer_reply eds size 0 0, held size 1 (min (0 + size) (length eds)) 0 0)
  unfolding transfer turn_of advanced
  first_turn = refl

  again_after : (n : ℕ) → move (step eds) Again (after n) ≡ after n
  again_after zero = refl
  again_after (suc k) =
      let e = repeat_turn (suc k % 256) (min (k * size + size) (length eds)) (k % 256) (k * size) in
      ap (λ (r : List ℕ × Option Position). client r.1 (suc k) (take (k * size) eds) r.0) e

  -- the bytes of the transfers so far
  so_far : (at : ℕ) → leb (length eds) (at + size) ≡ false → take at eds ++ transfer_bytes eds size at ≡ take (at + size) eds
  unfolding transfer_bytes
  so_far at e = rw e (rw append-nil (sym (take-add at size eds)))

  before_next : (k : ℕ) → leb (length eds) (k * size + size) ≡ false → got (after (suc k)) ≡ take (suc k * size) eds
  unfolding transfer_reply
  before_next k f = let e : suc k * size ≡ k * size + size = omega arith in rw e (so_far (k * size) f)

  next_after : (n : ℕ) → ended (after n) ≡ false → asks_next (step eds) (after n) ≡ after (suc n)
  next_after zero e =
      let z : 0 * size ≡ 0 = omega arith in
      ap (λ (r : List ℕ × Option Position). client r.1 1 [] r.0) first_turn ∙ rw z
  next_after (suc k) e =
      let f : leb (length eds) (k * size + size) ≡ false = sym (ended_after k) ∙ e in
      let l : k * size + size < length eds = leb-false _ _ f in
      let at : min (k * size + size) (length eds) ≡ suc k * size = omega arith in
      let wrap : (suc k % 256 + 1) % 256 ≡ suc (suc k) % 256 = omega arith in
      let b : got (after (suc k)) ≡ take (suc k * size) eds = before_next k f in
      ap (λ (r : List ℕ × Option Position). client r.1 (suc (suc k)) (got (after (suc k))) r.0)
      (in_turn (suc k % 256) (min (k * size + size) (length eds)) (k % 256) (k * size) (λ q. omega arith))
      ∙ rw (at, wrap, b)

  -- at the end it has the EDS and the checksum
  whole : (at : ℕ) → leb (length eds) (at + size) ≡ true → take at eds ++ transfer_bytes eds size at ≡ eds ++ le_bytes 2 (checksum eds)
  unfolding transfer_bytes
  whole at e =
      rw e (rw (← append_assoc, ← take-add, take_all (at + size) eds (leb-true _ _ e)))

  ended_whole : (n : ℕ) → ended (after n) ≡ true → got (after n) ≡ eds ++ le_bytes 2 (checksum eds)
  unfolding transfer_reply
  ended_whole zero e = false_is_true e
  ended_whole (suc k) e = whole (k * size) (sym (ended_after k) ∙ e)

  -- ---- every run of moves

  stays : (ms : List Move) (n : ℕ) → ended (after n) ≡ true → moves (step eds) ms (after n) ≡ after n
  stays [] n e = refl
  stays (Next ∷ ms) n e = rw e (stays ms n e)
  stays (Again ∷ ms) n e = rw (again_after n) (stays ms n e)

  record Reached (c : Client) (willing : ℕ) : Type 0 where
    turns : ℕ
    is : c ≡ after turns
    all : ended (after turns) ≡ false → turns ≡ willing

  reached : (ms : List Move) (n : ℕ) → Reached (moves (step eds) ms (after n)) (n + nexts ms)
  reached [] n = record { turns = n; is = refl; all = λ e. omega arith }
  reached (Again ∷ ms) n = rw (again_after n) (reached ms n)
  reached (Next ∷ ms) n = go (ended (after n)) refl (reached ms (suc n))
    where
      go : (b : Bool) → ended (after n) ≡ b → Reached (moves (step eds) ms (after (suc n))) (suc n + nexts ms)
          → Reached (moves (step eds) ms (cond b (after n) (asks_next (step eds) (after n)))) (n + suc (nexts ms))
      go true e r = record { turns = n; is = stays ms n e; all = λ f. false_is_true (sym f ∙ e) }
      go false e r = rw (next_after n e) (record { turns = r.turns; is = r.is; all = λ f. let h = r.all f in omega arith })

-- THE UPLOAD: with any repeats, a client that is willing to ask for as many transfers as the EDS needs gets the EDS and its
-- checksum, and its last reply says that it is the last
module _ (eds : List ℕ) (limit wanted : ℕ) (ms : List Move) where
  abbrev pub uploads : Client
  uploads = moves (step eds) ms (begins (clamped limit wanted))

  -- whenever the client sees the end, it has all
  pub uploaded_whole : ended uploads ≡ true → got uploads ≡ eds ++ le_bytes 2 (checksum eds)
  uploaded_whole e =
      let r = reached eds (clamped limit wanted) ms 0 in
      ap got r.is ∙ ended_whole eds (clamped limit wanted) r.turns (sym (ap ended r.is) ∙ e)

  -- and it sees the end once it has asked often enough: at least once, and for the EDS's length in all
  pub uploaded_ends : 1 ≤ nexts ms → length eds ≤ nexts ms * clamped limit wanted → ended uploads ≡ true
  uploaded_ends h g = go (reached eds (clamped limit wanted) ms 0)
    where
      by : (n : ℕ) (b : Bool) → ended (after eds (clamped limit wanted) n) ≡ b → (b ≡ false → n ≡ 0 + nexts ms) → b ≡ true
      by n true e f = refl
      by zero false e f = absurd (let q = f refl in omega arith)
      by (suc k) false e f =
          let q : suc k ≡ 0 + nexts ms = f refl in
          let l : k * clamped limit wanted + clamped limit wanted < length eds = leb-false _ _ (sym (ended_after eds (clamped limit wanted) k) ∙ e) in
          let m : nexts ms ≡ suc k = omega arith in
          absurd (let w : length eds ≤ suc k * clamped limit wanted = rw m at g in omega arith)

      go : Reached eds (clamped limit wanted) uploads (0 + nexts ms) → ended uploads ≡ true
      go r = ap ended r.is ∙ by r.turns (ended (after eds (clamped limit wanted) r.turns)) refl r.all
