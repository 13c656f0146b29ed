-- The position of an upload as 8 lent bytes, and their test. All bytes zero is no upload.
use Rattle.std.specs.Prelude.{List, [], ◌∷◌, Bool, true, false, cond, ℕ, ◌*◌, eqb, leb, length, get_or, Option, Some, None}
use Rattle.base_cells.specs.Records.{enc_fields, dec_fields}
use Rattle.base_cells.specs.Back.{all}
use Rattle.rules.specs.Upload.{started, position_tests, was}
use Rattle.rules.specs.declared.objects.Transfer.{Transfer}
use Rattle.rules.specs.declared.objects.Position.{Position}

-- size 1 at 0 (0: none), next number 1 at 1, last number 1 at 2, any last 1 at 3, offset 2 at 4, last offset 2 at 6
abbrev pub w_position : List ℕ
w_position = 1 ∷ 1 ∷ 1 ∷ 1 ∷ 2 ∷ 2 ∷ []

-- ---- what the bytes say

abbrev pub to_last : ℕ → ℕ → ℕ → Option Transfer
to_last number any offset = cond (eqb any 0) None (was number offset)

abbrev pub as_position : List ℕ → Position
as_position vs = record { size = get_or vs 0 0; next = get_or vs 1 0; offset = get_or vs 4 0; last = to_last (get_or vs 2 0) (get_or vs 3 0) (get_or vs 5 0) }

abbrev pub as_upload : List ℕ → Option Position
as_upload vs = cond (eqb (get_or vs 0 0) 0) None (Some (as_position vs))

unfoldable pub dec_position : List ℕ → Position
dec_position l = as_position (dec_fields w_position l 0)

unfoldable pub dec_upload : List ℕ → Option Position
dec_upload l = as_upload (dec_fields w_position l 0)

-- ---- the bytes of an upload

abbrev pub last_number : Option Transfer → ℕ
last_number None = 0
last_number (Some last) = last.number

abbrev pub any_last : Option Transfer → ℕ
any_last None = 0
any_last (Some last) = 1

abbrev pub last_offset : Option Transfer → ℕ
last_offset None = 0
last_offset (Some last) = last.offset

abbrev pub list_position : Position → List ℕ
list_position p = p.size ∷ p.next ∷ last_number p.last ∷ any_last p.last ∷ p.offset ∷ last_offset p.last ∷ []

-- none is written as a position of size 0 that has not begun
abbrev pub held_in : Option Position → Position
held_in None = started 0
held_in (Some p) = p

abbrev pub list_upload : Option Position → List ℕ
list_upload up = list_position (held_in up)

unfoldable pub enc_upload : Option Position → List ℕ
enc_upload up = enc_fields w_position (list_upload up)

-- ---- the test

-- one way to write each upload: the mark is 0 or 1, and what a mark or a size of 0 leaves out is 0
abbrev pub plain_tests : ℕ → ℕ → ℕ → ℕ → ℕ → ℕ → List Bool
plain_tests size next number any offset before =
    leb any 1 ∷ leb any size ∷ leb number (255 * any) ∷ leb before (65535 * any) ∷ leb next (255 * size) ∷ leb offset (65535 * size) ∷ []

unfoldable pub plain : ℕ → ℕ → ℕ → ℕ → ℕ → ℕ → Bool
plain size next number any offset before = all (plain_tests size next number any offset before)

abbrev pub plain_list : List ℕ → Bool
plain_list vs = plain (get_or vs 0 0) (get_or vs 1 0) (get_or vs 2 0) (get_or vs 3 0) (get_or vs 4 0) (get_or vs 5 0)

-- the rule's test of the upload, by the transfer limit and the length of the EDS, if there is one
unfoldable pub fits : ℕ → Option ℕ → Position → Bool
fits limit None p = false
fits limit (Some size) p = all (position_tests limit size p)

abbrev pub ok_with : ℕ → Option ℕ → Option Position → Bool
ok_with limit eds None = true
ok_with limit eds (Some p) = fits limit eds p

unfoldable pub upload_tested : ℕ → Option ℕ → List ℕ → Bool
upload_tested limit eds l =
    all (eqb (length l) 8 ∷ plain_list (dec_fields w_position l 0) ∷ ok_with limit eds (dec_upload l) ∷ [])
