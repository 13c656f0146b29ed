-- What a call answers: numbers for no, the words of a refused open with their meaning, and the number that the host gets.
-- Rules 2.1 to 2.17.
use Rattle.std.specs.Prelude.{List, [], ◌∷◌, Bool, true, false, cond, ℕ, ◌+◌, ◌*◌, ◌-◌, ◌^◌, leb, length, Result, Ok, Err}
use Rattle.rules.specs.State.{Socket, Stop}
pub use Rattle.rules.specs.declared.Stop.TheVariants.{Transport, PathBroken, PathBarred, KeyVendor, KeyProduct, KeyDevice, KeyRevision, ClassNotFour, NumberCount, NoOutputPoint, NoInputPoint, NoConfig, ConfigLength, OtRpi, ToRpi, OtType, ToType, OwnerSize, HeartbeatSize, InputSize, TriadInUse, Owned, NoStream, ListenPointToPoint, Full}
pub use Rattle.rules.specs.declared.No.{No}
pub use Rattle.rules.specs.declared.No.TheVariants.{BadSetup, BadTime, NotParsed, NoAssembly, TooLong, NoRoom, NothingThere}

-- 2.3 to 2.10: numbers for no
abbrev pub no_number : No → ℕ
no_number BadSetup = 2
no_number BadTime = 3
no_number NotParsed = 4
no_number NoAssembly = 6
no_number TooLong = 7
no_number NoRoom = 8
no_number NothingThere = 9

-- 2.6: an open that fails a check is answered with general status 0x01, connection failure
abbrev pub general_status : ℕ
general_status = 0x01

-- and one or two words
abbrev pub words_of : Stop → List ℕ
words_of (Transport t) = 0x0103 ∷ []  -- transport class and trigger not supported
words_of (PathBroken o) = 0x0315 ∷ []  -- invalid segment in the path
words_of PathBarred = 0x0315 ∷ []
words_of (KeyVendor v ours) = 0x0114 ∷ []  -- vendor or product code mismatch
words_of (KeyProduct p ours) = 0x0114 ∷ []
words_of (KeyDevice d ours) = 0x0115 ∷ []  -- device type mismatch
words_of (KeyRevision major minor m n) = 0x0116 ∷ []  -- revision mismatch
words_of (ClassNotFour c) = 0x0117 ∷ []  -- invalid application path
words_of (NumberCount n) = 0x0117 ∷ []
words_of (NoOutputPoint n) = 0x0117 ∷ []
words_of (NoInputPoint n) = 0x0117 ∷ []
words_of (NoConfig n) = 0x0118 ∷ []  -- configuration data without a configuration assembly
words_of (ConfigLength n size) = 0x0109 ∷ size ∷ []  -- invalid connection size, and the size that fits
words_of (OtRpi r min max) = 0x0111 ∷ []  -- RPI not supported
words_of (ToRpi r min max) = 0x0111 ∷ []
words_of (OtType t) = 0x0108 ∷ []  -- invalid network connection type
words_of (ToType t) = 0x0108 ∷ []
words_of (OwnerSize n wanted) = 0x0109 ∷ wanted ∷ []
words_of (HeartbeatSize n) = 0x0109 ∷ 2 ∷ []
words_of (InputSize n wanted) = 0x0109 ∷ wanted ∷ []
words_of TriadInUse = 0x0100 ∷ []  -- connection in use
words_of (Owned o) = 0x0106 ∷ []  -- ownership conflict
words_of NoStream = 0x0119 ∷ []  -- the controlling connection is not open
words_of ListenPointToPoint = 0x0108 ∷ []
words_of Full = 0x0113 ∷ []  -- out of connections

-- which check it was
abbrev pub check_of : Stop → ℕ
check_of (Transport t) = 1
check_of (PathBroken o) = 2
check_of PathBarred = 2
check_of (KeyVendor v ours) = 3
check_of (KeyProduct p ours) = 3
check_of (KeyDevice d ours) = 3
check_of (KeyRevision major minor m n) = 3
check_of (ClassNotFour c) = 4
check_of (NumberCount n) = 4
check_of (NoOutputPoint n) = 4
check_of (NoInputPoint n) = 4
check_of (NoConfig n) = 5
check_of (ConfigLength n size) = 5
check_of (OtRpi r min max) = 6
check_of (ToRpi r min max) = 6
check_of (OtType t) = 7
check_of (ToType t) = 7
check_of (OwnerSize n wanted) = 8
check_of (HeartbeatSize n) = 8
check_of (InputSize n wanted) = 9
check_of TriadInUse = 10
check_of (Owned o) = 11
check_of NoStream = 12
check_of ListenPointToPoint = 12
check_of Full = 13

-- yes: done; done, and bytes written at the start of the lent output; an open accepted, multicast to a socket or not, and its
-- reply written; so many connections gone. No: a number; a check that an open does not pass
pub data Answer : Type 0 where
  Done : Answer
  Wrote : List ℕ → Answer
  Accepted : Bool → Socket → List ℕ → Answer
  Gone : ℕ → Answer
  Refused : No → Answer
  Failed : Stop → Answer

abbrev pub is_yes : Answer → Bool
is_yes Done = true
is_yes (Wrote bs) = true
is_yes (Accepted multicast s bs) = true
is_yes (Gone n) = true
is_yes (Refused w) = false
is_yes (Failed s) = false

-- 2.6: general status, the number of words and the words, from bit 8 on
abbrev pub words_number : List ℕ → ℕ
words_number [] = 0
words_number (w ∷ []) = 2 ^ 8 * general_status + 2 ^ 16 * 1 + 2 ^ 32 * w
words_number (w ∷ v ∷ ws) = 2 ^ 8 * general_status + 2 ^ 16 * 2 + 2 ^ 32 * w + 2 ^ 48 * v

-- 2.16, 2.17: the answer as a number: its low byte is 0 for yes, or the number for no
unfoldable pub answer_number : Answer → ℕ
answer_number Done = 0
answer_number (Wrote bs) = 2 ^ 8 * length bs
answer_number (Accepted true s bs) = 2 ^ 8 * 1 + 2 ^ 16 * s.port + 2 ^ 32 * s.address
answer_number (Accepted false s bs) = 0
answer_number (Gone n) = 2 ^ 8 * n
answer_number (Refused w) = no_number w
answer_number (Failed s) = 5 + words_number (words_of s)

-- 2.16: the same of a call that tells how many bytes it wrote, or its reason for no
abbrev pub outcome_number : Result ℕ No → ℕ
outcome_number (Ok n) = 2 ^ 8 * n
outcome_number (Err w) = no_number w

-- 2.15: what is written at the start of the lent output; what is behind stays
abbrev pub answer_bytes : Answer → List ℕ
answer_bytes Done = []
answer_bytes (Wrote bs) = bs
answer_bytes (Accepted multicast s bs) = bs
answer_bytes (Gone n) = []
answer_bytes (Refused w) = []
answer_bytes (Failed s) = []

-- 2.9: No. 8, lent output shorter than this answer
abbrev pub fitting : ℕ → List ℕ → Answer → Answer
fitting room bytes a = cond (leb (length bytes) room) a (Refused NoRoom)

-- 2.4, 1.13: No. 3, time above 2^63 - 1
abbrev pub timely : ℕ → Bool
timely t = leb t (2 ^ 63 - 1)

abbrev pub at_time : ℕ → Answer → Answer
at_time t a = cond (timely t) a (Refused BadTime)

-- 2.1: a no writes nothing: the state is left as it was
abbrev pub settled : {S : Type 0} → Answer → S → S → Answer × S
settled a after before = (a, cond (is_yes a) after before)
