-- What passes the test is read back and written again; the test of the value is the rule's.
use Rattle.std.specs.Prelude.{List, [], ◌∷◌, Bool, true, false, cond, ◌≡◌, refl, ℕ, zero, suc, ◌*◌, ◌≤◌, eqb, length, get_or, take, Option, Some, None}
use Rattle.std.proofs.Common.{ap, sym, ◌∙◌, arith, leb-true, eqb-true, ne_eqb, append-nil}
use Rattle.std.proofs.Math.Seq.{take-length}
use Rattle.base_cells.specs.Records.{sum, enc_fields, dec_fields, dec_enc}
use Rattle.base_cells.specs.Back.{Bytes, enc_dec, all_at}
use Rattle.rules.specs.State.{Setup}
use Rattle.rules.specs.Upload.{upload_ok, position_ok}
use Rattle.rules.specs.declared.objects.Transfer.{Transfer}
use Rattle.rules.specs.declared.objects.Position.{Position}
use Rattle.msg_positions.specs.Positions.{w_position, to_last, as_position, as_upload, dec_upload, last_number, any_last, last_offset, list_position, held_in, list_upload, enc_upload, plain_tests, plain, plain_list, fits, ok_with, upload_tested}

-- ---- the test of the value is the rule's

-- the length of the EDS, if there is one
abbrev pub eds_length : Option (List ℕ) → Option ℕ
eds_length None = None
eds_length (Some eds) = Some (length eds)

pub ok_with_lem : (u : Setup) (up : Option Position) → ok_with u.transfer_limit (eds_length u.eds) up ≡ upload_ok u up
unfolding upload_ok fits
ok_with_lem u None = refl
ok_with_lem u (Some p) = by u.eds
  where
    by : (o : Option (List ℕ)) → fits u.transfer_limit (eds_length o) p ≡ position_ok u.transfer_limit o p
    by None = refl
    by (Some eds) = refl

-- ---- what was written is read back

last_back : (x : Option Transfer) → to_last (last_number x) (any_last x) (last_offset x) ≡ x
last_back None = refl
last_back (Some last) = refl

as_list : (p : Position) → 1 ≤ p.size → as_upload (list_position p) ≡ Some p
as_list p h =
    ap (λ (b : Bool). cond b None (Some (as_position (list_position p)))) (ne_eqb p.size 0 (λ e. omega (arith, e)))
    ∙ ap (λ (x : Option Transfer). Some (record { size = p.size; next = p.next; offset = p.offset; last = x })) (last_back p.last)

dec_list : (vs : List ℕ) → dec_fields w_position (enc_fields w_position vs) 0 ≡ vs → dec_upload (enc_fields w_position vs) ≡ as_upload vs
unfolding dec_upload
dec_list vs e = ap as_upload e

list_back : (p : Position) → dec_fields w_position (enc_fields w_position (list_position p)) 0 ≡ list_position p
list_back p =
    ap (λ (x : List ℕ). dec_fields w_position x 0) (sym (append-nil (enc_fields w_position (list_position p))))
    ∙ dec_enc w_position (list_position p) tt [] [] 0 refl

pub read_none : dec_upload (enc_upload None) ≡ None
unfolding enc_upload
read_none = dec_list (list_upload None) (list_back (held_in None))

pub read_under : (p : Position) → 1 ≤ p.size → dec_upload (enc_upload (Some p)) ≡ Some p
unfolding enc_upload
read_under p h = dec_list (list_position p) (list_back p) ∙ as_list p h

-- ---- what passes is written again

last_list : (number any before : ℕ) → any ≤ 1 → number ≤ 255 * any → before ≤ 65535 * any
    → (last_number (to_last number any before) ≡ number) × (any_last (to_last number any before) ≡ any) × (last_offset (to_last number any before) ≡ before)
last_list number zero before h f g = (omega arith, refl, omega arith)
last_list number (suc zero) before h f g = (refl, refl, refl)
last_list number (suc (suc any)) before h f g = absurd (omega arith)

module _ (size next number any offset before : ℕ) (t : plain size next number any offset before ≡ true) where
  test : (k : ℕ) → get_or (plain_tests size next number any offset before) k true ≡ true
  unfolding plain
  test k = all_at (plain_tests size next number any offset before) t k

  under_list : list_position (as_position (size ∷ next ∷ number ∷ any ∷ offset ∷ before ∷ [])) ≡ size ∷ next ∷ number ∷ any ∷ offset ∷ before ∷ []
  under_list =
      let q = last_list number any before (leb-true any 1 (test 0)) (leb-true number (255 * any) (test 2)) (leb-true before (65535 * any) (test 3)) in
      rw (q.0, q.1, q.2)

  zeros : size ≡ 0 → list_upload None ≡ size ∷ next ∷ number ∷ any ∷ offset ∷ before ∷ []
  zeros e =
      let a : any ≡ 0 = omega (arith, e, leb-true any size (test 1)) in
      let n : number ≡ 0 = omega (arith, a, leb-true number (255 * any) (test 2)) in
      let b : before ≡ 0 = omega (arith, a, leb-true before (65535 * any) (test 3)) in
      let x : next ≡ 0 = omega (arith, e, leb-true next (255 * size) (test 4)) in
      let o : offset ≡ 0 = omega (arith, e, leb-true offset (65535 * size) (test 5)) in
      rw (e, a, n, b, x, o)

  list_again : list_upload (as_upload (size ∷ next ∷ number ∷ any ∷ offset ∷ before ∷ [])) ≡ size ∷ next ∷ number ∷ any ∷ offset ∷ before ∷ []
  list_again = by (eqb size 0) refl
    where
      by : (b : Bool) → eqb size 0 ≡ b
          → list_upload (cond b None (Some (as_position (size ∷ next ∷ number ∷ any ∷ offset ∷ before ∷ [])))) ≡ size ∷ next ∷ number ∷ any ∷ offset ∷ before ∷ []
      by true e = zeros (eqb-true size 0 e)
      by false e = under_list

pub write_again : (limit : ℕ) (eds : Option ℕ) (l : List ℕ) → Bytes l → upload_tested limit eds l ≡ true → enc_upload (dec_upload l) ≡ l
unfolding upload_tested enc_upload dec_upload sum
write_again limit eds l b t =
    let tests : List Bool = eqb (length l) 8 ∷ plain_list (dec_fields w_position l 0) ∷ ok_with limit eds (as_upload (dec_fields w_position l 0)) ∷ [] in
    let n : length l ≡ 8 = eqb-true (length l) 8 (all_at tests t 0) in
    ap (enc_fields w_position) (list_again _ _ _ _ _ _ (all_at tests t 1))
    ∙ enc_dec w_position tt l 0 b (omega (arith, n))
    ∙ ap (λ (k : ℕ). take k l) (sym n)
    ∙ take-length l
