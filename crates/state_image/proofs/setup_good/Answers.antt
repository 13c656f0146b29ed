use Rattle.std.proofs.Common.{arith}
use Rattle.state_image.specs.TestLaws.{setup_fails0, setup_fails1, setup_fails2, setup_fails3, setup_fails4, setup_passes}
use Rattle.state_image.proofs.setup_good.Goals as goal

pub returns-then-u8_at-gt16 : goal.returns-then-u8_at-gt16
returns-then-u8_at-gt16 c = setup_fails0 _ (omega arith)

pub returns-then-u8_at-lt1 : goal.returns-then-u8_at-lt1
returns-then-u8_at-lt1 c = setup_fails1 _ (omega arith)

pub returns-then-u8_at-gt32 : goal.returns-then-u8_at-gt32
returns-then-u8_at-gt32 c = setup_fails2 _ (omega arith)

pub returns-then-u8_at-gt32-2 : goal.returns-then-u8_at-gt32-2
returns-then-u8_at-gt32-2 c = setup_fails3 _ (omega arith)

pub returns-then-u32_at-gt65536 : goal.returns-then-u32_at-gt65536
returns-then-u32_at-gt65536 c = setup_fails4 _ (omega arith)

pub returns : goal.returns
returns c = setup_passes _ (omega arith) (omega arith) (omega arith) (omega arith) (omega arith)
