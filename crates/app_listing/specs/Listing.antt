-- The records of the connections, one behind the other, as code writes them.
use Rattle.std.specs.Prelude.{ℕ, ◌+◌, ◌*◌, ◌-◌, ◌^◌, ◌≤◌, ◌<◌, true, ◌≡◌, length, get_or, take, drop}
use mathlib.Core.List.{List, [], ◌∷◌, ◌++◌, append_assoc, append-nil}
use Rattle.std.proofs.Math.Path.{refl, ap}
use Rattle.std.proofs.Common.{ap₂, sym, ◌∙◌, arith, add-one, length-append, take-suc, take_all, length-take-le}
use Rattle.std.proofs.Math.Seq.{sets}
use borrow.Rule.Slice.PartMut.{put_mid}
use Rattle.base_cells.specs.Numbers.{sets_append, lent}
use Rattle.base_tables.specs.Tables.{length_rows, row_at_lem}
use Rattle.rules.specs.Lists.{joined}
use Rattle.rules.specs.State.{Setup}
use Rattle.rules.specs.declared.Conn.{Conn}
use Rattle.rules.specs.declared.Fixed.{Fixed}
use Rattle.rules.specs.Answers.{Wrote}
use Rattle.rules.specs.Events.{info_of, info_record}
use Rattle.rules.specs.Host.{connection_bytes, connections_answer}
use Rattle.state_rules.specs.Places.{setup_in, table_in, row_size, connections_of}
use Rattle.state_rules.specs.Setups.{setup_of, setup_from}
use Rattle.state_rules.specs.Rows.{dec_conn, dec_fixed, row_at, conns_in}
use Rattle.state_rules.specs.Image.{view, tested}
use Rattle.state_image.specs.Updates.{no_conn}
use Rattle.state_image.specs.Lift.{lifted_read}
use Rattle.state_records.specs.Fields.{length_info}
use Rattle.state_records.specs.Shapes.{info_in}
use Rattle.app_answers.specs.Ways.{fits_in, fits_not, read_wrote, read_no}
use Rattle.rules.specs.declared.No.TheVariants.{NoRoom}

-- a connection's record
unfoldable pub record_of : Setup → Conn → List ℕ
record_of u c = info_record 0 (info_of u c.fixed)

-- the record of row i
unfoldable pub record_at : List ℕ → ℕ → List ℕ
record_at s i = info_record 0 (info_of (setup_of s) (dec_fixed (row_at (table_in s) i)))

length_record : (u : Setup) (c : Conn) → length (record_of u c) ≡ 32
unfolding record_of
length_record u c = length_info 0 (info_of u c.fixed)

-- as `tell` writes it: into a part of the output
pub told : (s out r : List ℕ) (i : ℕ) (f : Fixed) → i * 32 + 32 ≤ length out → f ≡ dec_fixed (row_at (table_in s) i)
    → r ≡ sets (take (i * 32 + 32 - i * 32) (drop (i * 32) out)) 0 (info_record 0 (info_of (setup_from (setup_in s) []) f))
    → put_mid (i * 32) (i * 32 + 32 - i * 32) out r ≡ sets out (i * 32) (record_at s i)
unfolding record_at
told s out r i f h ef er =
    let x : List ℕ = info_record 0 (info_of (setup_of s) (dec_fixed (row_at (table_in s) i))) in
    let n : length x ≡ 32 = length_info 0 (info_of (setup_of s) (dec_fixed (row_at (table_in s) i))) in
    ap (put_mid (i * 32) (i * 32 + 32 - i * 32) out)
    (er ∙ ap (λ (z : Fixed). sets (take (i * 32 + 32 - i * 32) (drop (i * 32) out)) 0 (info_record 0 (info_of (setup_from (setup_in s) []) z))) ef
    ∙ ap (λ z. sets (take (i * 32 + 32 - i * 32) (drop (i * 32) out)) 0 (info_record 0 z)) (info_in s (dec_fixed (row_at (table_in s) i))))
    ∙ lent out (i * 32) (i * 32 + 32 - i * 32) x (omega arith) (omega arith)

-- ---- all of them

-- the bytes of the first i
abbrev pub tellings : Setup → ℕ → List Conn → List ℕ
tellings u i cs = joined (record_of u) (take i cs)

joined_append : (p : Conn → List ℕ) (xs ys : List Conn) → joined p (xs ++ ys) ≡ joined p xs ++ joined p ys
joined_append p [] ys = refl
joined_append p (x ∷ xs) ys = ap (λ (z : List ℕ). p x ++ z) (joined_append p xs ys) ∙ sym (append_assoc (p x) (joined p xs) (joined p ys))

more : (u : Setup) (cs : List Conn) (i : ℕ) → i < length cs → tellings u (i + 1) cs ≡ tellings u i cs ++ record_of u (get_or cs i no_conn)
more u cs i h =
    ap (λ (k : ℕ). joined (record_of u) (take k cs)) (add-one i)
    ∙ ap (joined (record_of u)) (take-suc cs i no_conn h)
    ∙ joined_append (record_of u) (take i cs) (get_or cs i no_conn ∷ [])
    ∙ ap (λ (z : List ℕ). tellings u i cs ++ z) (append-nil (record_of u (get_or cs i no_conn)))

length_joined : (u : Setup) (cs : List Conn) → length (joined (record_of u) cs) ≡ length cs * 32
length_joined u [] = refl
length_joined u (c ∷ cs) =
    let a = length_record u c in let b = length_joined u cs in
    length-append (record_of u c) (joined (record_of u) cs) ∙ omega arith

module _ (s : List ℕ) where
  abbrev cs : List Conn
  cs = conns_in (connections_of s) (table_in s)

  record_is : (i : ℕ) → i < connections_of s → record_at s i ≡ record_of (setup_of s) (get_or (conns_in (connections_of s) (table_in s)) i no_conn)
  unfolding record_at record_of
  record_is i h = ap (λ (c : Conn). info_record 0 (info_of (setup_of s) c.fixed)) (sym (row_at_lem row_size dec_conn (connections_of s) (table_in s) i no_conn h))

  pub tell_more : (out x : List ℕ) (i : ℕ) → i < connections_of s → x ≡ sets out 0 (tellings (setup_of s) i (conns_in (connections_of s) (table_in s)))
      → sets x (i * 32) (record_at s i) ≡ sets out 0 (tellings (setup_of s) (i + 1) (conns_in (connections_of s) (table_in s)))
  tell_more out x i h e =
      let u : Setup = setup_of s in
      let n = length_rows row_size dec_conn (connections_of s) (table_in s) in
      let k : i * 32 ≡ 0 + length (tellings u i cs) =
      (let a = length_joined u (take i cs) in let b = length-take-le i cs (omega arith) in omega arith) in
      ap₂ (λ (y : List ℕ) (m : ℕ). sets y m (record_at s i)) e k
      ∙ ap (sets (sets out 0 (tellings u i cs)) (0 + length (tellings u i cs))) (record_is i h)
      ∙ sym (sets_append out 0 (tellings u i cs) (record_of u (get_or cs i no_conn)))
      ∙ ap (sets out 0) (sym (more u cs i (omega arith)))

  bytes_are : connection_bytes (view s) ≡ joined (record_of (setup_of s)) (conns_in (connections_of s) (table_in s))
  unfolding connection_bytes view record_of
  bytes_are = refl

  length_bytes : length (connection_bytes (view s)) ≡ connections_of s * 32
  length_bytes =
      ap length bytes_are ∙ length_joined (setup_of s) cs ∙ ap (λ (n : ℕ). n * 32) (length_rows row_size dec_conn (connections_of s) (table_in s))

  module _ (out : List ℕ) (t : tested s ≡ true) (n : ℕ) (en : n ≡ connections_of s) where
    pub table_short : length out < n * 32 → (8, out) ≡ lifted_read connections_answer s out
    unfolding connections_answer
    table_short h =
        let k = length_bytes in
        read_no s out t connections_answer NoRoom (fits_not (length out) (connection_bytes (view s)) (Wrote (connection_bytes (view s))) (omega arith))

    pub table_told : n * 32 ≤ length out → (x : List ℕ) (i : ℕ) → n ≤ i → x ≡ sets out 0 (tellings (setup_of s) i (conns_in (connections_of s) (table_in s)))
        → (2 ^ 8 * (n * 32), x) ≡ lifted_read connections_answer s out
    unfolding connections_answer
    table_told h x i p e =
        let k = length_bytes in
        let m = length_rows row_size dec_conn (connections_of s) (table_in s) in
        read_wrote s out t connections_answer (n * 32) x (connection_bytes (view s))
        (fits_in (length out) (connection_bytes (view s)) (Wrote (connection_bytes (view s))) (omega arith))
        (omega arith)
        (e ∙ ap (λ (z : List Conn). sets out 0 (joined (record_of (setup_of s)) z)) (take_all i cs (omega arith)) ∙ ap (sets out 0) (sym bytes_are))
